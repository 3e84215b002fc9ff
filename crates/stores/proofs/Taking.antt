-- When a write between two names is taken.
use Rattle.std.proofs.Common.{◌≡◌, ℕ, ◌<◌, Bool, true, false, Option, Some, None, Ok, Err, Result, is_ok, cond, not, ◌||◌, ltb, refl, sym}
use Rattle.std.proofs.lemmas.Bool.{lt-ltb, or_right}
use Rattle.std.proofs.lemmas.Option.{none-some}
use Rattle.model.specs.Answers.{refused_by, lowest}
use Rattle.model.specs.Faults.{reason_number}
use Rattle.model.specs.declared.fault.Reason.{Reason}
use Rattle.stores.specs.Matrices.{Matrix, some, count, has_room, takes, write_rules}

module _ (limit : ℕ) (f : Matrix) (s o m : ℕ) where
  -- into a cell that is not empty
  pub room_over : 0 < f s o → has_room limit f s o m ≡ true
  room_over h = rw (lt-ltb 0 (f s o) h) refl

  -- where there is nothing to keep
  pub room_none : m ≡ 0 → has_room limit f s o m ≡ true
  room_none e = rw e (or_right (some (f s o)) true refl)

  -- where the limit is not reached
  pub room_below : count f < limit → has_room limit f s o m ≡ true
  room_below h = rw (lt-ltb (count f) limit h) (or_right (some (f s o)) (not (some m) || true) (or_right (not (some m)) true refl))

  -- a mask into an empty cell
  pub room_new : f s o ≡ 0 → 0 < m → has_room limit f s o m ≡ ltb (count f) limit
  room_new e h = rw (e, lt-ltb 0 m h) refl

  -- Between names only the room decides: by which rule the write is refused, and whether it is taken.
  pub decided : s < 64 → o < 64 → (room : Bool) → has_room limit f s o m ≡ room → (lowest (write_rules limit f s o m) ≡ cond room None (Some 16)) × (takes limit f s o m ≡ room)
  decided hs ho room here = (
    rw (lt-ltb s 64 hs, lt-ltb o 64 ho, here) (elim room as (λ b. cond {A = Option ℕ} (not b) (Some 16) None ≡ cond b None (Some 16)) [ true ↦ refl | false ↦ refl ]),
    rw (lt-ltb s 64 hs, lt-ltb o 64 ho) here,
  )

-- A refusal by rule 16 alone is no taking.
pub ok_where : {X : Type 0} (r : Result X Reason) (room : Bool) → refused_by r ≡ cond room None (Some 16) → is_ok r ≡ room
ok_where (Ok x) true e = refl
ok_where (Ok x) false e = absurd (none-some 16 e)
ok_where (Err reason) true e = absurd (none-some (reason_number reason) (sym e))
ok_where (Err reason) false e = refl
