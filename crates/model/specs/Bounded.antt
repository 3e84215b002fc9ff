-- A bounded list as the plain list that it stands for.
use Rattle.std.specs.Prelude.{ℕ, List, take}
use Rattle.model.specs.declared.bounded.Bounded.{Bounded}

-- the items in use, in order
abbrev pub listed : {T : Type 0} {N : ℕ} → Bounded T N → List T
listed b = take b.len b.items
