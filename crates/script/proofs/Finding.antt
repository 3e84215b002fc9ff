-- What a reader answers, from what another answered.
use Rattle.std.proofs.Common.{◌≡◌, Bool, true, false, Some, None, Option, sym, refl, subst}
use Rattle.std.specs.Bool.{then_some}
use Rattle.std.specs.Option.{option_map}
use Rattle.script.specs.Finds.{Finds}

-- what was found has the property, and where nothing was, nothing has it
pub found_at : {X : Type 0} (P : X → Type 0) {o : Option X} {x : X} → o ≡ Some x → Finds P o → P x
found_at P is found = subst (Finds P) is found

pub none_at : {X : Type 0} (P : X → Type 0) {o : Option X} → o ≡ None → Finds P o → (x : X) → P x → ⊥
none_at P is found = subst (Finds P) is found

-- the same where the answer is seen through `view`
pub seen_at : {T X : Type 0} (view : T → X) (P : X → Type 0) {o : Option T} {x : T} → o ≡ Some x → Finds P (option_map view o) → P (view x)
seen_at view P is found = subst (λ o. Finds P (option_map view o)) is found

pub none_seen : {T X : Type 0} (view : T → X) (P : X → Type 0) {o : Option T} → o ≡ None → Finds P (option_map view o) → (x : X) → P x → ⊥
none_seen view P is found = subst (λ o. Finds P (option_map view o)) is found

-- the exit of a `?`
pub finds_none : {X : Type 0} (P : X → Type 0) (o : Option X) → o ≡ None → ((x : X) → P x → ⊥) → Finds P o
finds_none P o e none = subst (Finds P) (sym e) none

-- a test decides
pub finds_if : {X : Type 0} (P : X → Type 0) (test : Bool) (v : X) → (test ≡ true → P v) → (test ≡ false → (x : X) → P x → ⊥) → Finds P (then_some test v)
finds_if P true v found none = found refl
finds_if P false v found none = none refl

-- and what is seen of the thing is seen of the answer
pub seen_if : {T X : Type 0} (view : T → X) (test : Bool) (v : T) → option_map view (then_some test v) ≡ then_some test (view v)
seen_if view true v = refl
seen_if view false v = refl

-- a reader of the same thing in other words
pub finds_like : {X : Type 0} (P Q : X → Type 0) (o : Option X) → ((x : X) → P x → Q x) → ((x : X) → Q x → P x) → Finds P o → Finds Q o
finds_like P Q None to from none = λ x q. none x (from x q)
finds_like P Q (Some x) to from found = to x found
