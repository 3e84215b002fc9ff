-- The certificate of the worked small kiosk is the least that holds for good once it was opened.
use Rattle.std.proofs.Common.{◌≡◌, ℕ, zero, suc, true, [], ◌∷◌, Some, None, slice_get, unwrap_or, sym, ap, refl, subst, ◌∙◌, arith}
use Rattle.std.proofs.lemmas.Bool.{le-ltb, or_right, both_ways}
use Rattle.std.proofs.lemmas.Option.{none-some, same_Some}
use Rattle.model.specs.declared.stamp.Stamp.{Stamp}
use Rattle.model.specs.Kiosk.{kiosk_covers}
use Rattle.model.specs.Masks.{has, with_right}
use Rattle.model.proofs.Rights.{holds_nothing, with_has}
use Rattle.stores.specs.Matrices.{blank, written}
use Rattle.opening.specs.Worked.{kiosk_state}
use Rattle.certificates.specs.Certificates.{Certificate, lists, allows}
use Rattle.certificates.specs.Worked.{kiosk_certificate}
use Rattle.castings.specs.Castings.{Casting, Casts, Passes, cast_state}
use Rattle.castings.specs.Closure.{Closed}
use Rattle.register.specs.States.{Kept}
use Rattle.register.specs.Worked.{hand_on, KioskOnBoard}
use Rattle.checker.specs.Containing.{Contains}
use Rattle.checker.proofs.Worked.{grade_3, grade_1, thing, contains, closed, kiosk_commands_are}
use Rattle.maker.specs.Comparing.{Above}
use Rattle.maker.specs.Least.{Least}
use Rattle.promise.proofs.Above.{AllowsAt, above_by, held_written}

module _ (d : Certificate) (holds : Contains d kiosk_state) (closed_too : Closed kiosk_covers d hand_on) where
  lists_each : (n : ℕ) (s : Stamp) → slice_get kiosk_certificate.stamps n ≡ Some s → lists d s ≡ true
  lists_each zero s is = subst (λ s. lists d s ≡ true) (same_Some grade_3 s is) (holds.stamps 0 grade_3 refl)
  lists_each (suc zero) s is = subst (λ s. lists d s ≡ true) (same_Some grade_1 s is) (holds.stamps 1 grade_1 refl)
  lists_each (suc (suc zero)) s is = subst (λ s. lists d s ≡ true) (same_Some thing s is) (holds.stamps 2 thing refl)
  lists_each (suc (suc (suc n))) s is = absurd (none-some s is)

  -- what lies in the two cells
  on_thing : has (allows d grade_3 thing) 0 ≡ true
  unfolding has
  on_thing = holds.cells 0 2 0 refl

  on_card : has (allows d grade_3 grade_1) 1 ≡ true
  unfolding has
  on_card = holds.cells 0 1 1 refl

  -- a card of grade 3 hands its right on the thing on to one of grade 1
  abbrev handing : Casting
  handing i = unwrap_or (slice_get (Some grade_3 ∷ Some grade_1 ∷ Some thing ∷ []) i) None

  handing_casts : Casts d hand_on handing
  unfolding has
  handing_casts zero = rw (lists_each 0 grade_3 refl) refl
  handing_casts (suc zero) = rw (lists_each 1 grade_1 refl) refl
  handing_casts (suc (suc zero)) = rw (lists_each 2 thing refl) refl
  handing_casts (suc (suc (suc i))) = rw (le-ltb (suc (suc (suc i))) 3 (omega arith)) refl

  handing_passes : Passes kiosk_covers hand_on (cast_state d handing)
  unfolding has
  handing_passes = rw on_thing refl

  handed_on : has (allows d grade_1 thing) 0 ≡ true
  handed_on =
      (closed_too handing handing_casts handing_passes).cells 1 2 grade_1 thing refl refl 0
      (with_has (allows d grade_1 thing) 0 0 ∙ or_right (has (allows d grade_1 thing) 0) true refl)

  -- ---- so much is allowed at any numbers

  abbrev At : (m n right : ℕ) → Type 0
  At = AllowsAt kiosk_certificate d

  at_stamps : (m n right : ℕ) (u v : Stamp) → slice_get kiosk_certificate.stamps m ≡ Some u → slice_get kiosk_certificate.stamps n ≡ Some v → has (allows d u v) right ≡ true → At m n right
  at_stamps m n right u v row column held s t row' column' =
      let p : u ≡ s = same_Some u s (sym row ∙ row') in
      let q : v ≡ t = same_Some v t (sym column ∙ column') in
      ap (λ b. has b right) (λ i. allows d (sym p i) (sym q i)) ∙ held

  least_rights : (m n right : ℕ) → has (kiosk_certificate.masks m n) right ≡ true → At m n right
  unfolding has with_right
  least_rights =
      held_written (written (written blank 0 2 0x0001) 0 1 0x0002) 1 2 0 At (at_stamps 1 2 0 grade_1 thing refl refl handed_on)
      (held_written (written blank 0 2 0x0001) 0 1 1 At (at_stamps 0 1 1 grade_3 grade_1 refl refl on_card)
      (held_written blank 0 2 0 At (at_stamps 0 2 0 grade_3 thing refl refl on_thing)
      (λ m n right held. absurd (both_ways (has 0 right) (holds_nothing right) held))))

  below : Above d kiosk_certificate
  below = above_by kiosk_certificate d lists_each least_rights

module _ (k : Kept) (on : KioskOnBoard k) where
  pub least : Least k kiosk_state kiosk_certificate
  least =
      let commands = kiosk_commands_are k on in
      record {
        holds = record { contains = contains; closed = closed k on.covers commands };
        below = λ d holds. below d holds.contains (subst (λ f. Closed f d hand_on) on.covers (holds.closed 0 hand_on (ap (λ l. slice_get l 0) commands)));
      }
