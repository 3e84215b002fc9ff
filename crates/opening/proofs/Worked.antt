-- The worked small kiosk's opening, by computing.
use Rattle.std.proofs.Common.{◌≡◌, ℕ, ◌<◌, ◌≤◌, true, cond, not, ltb, List, [], ◌∷◌, is_none, Some, None, sym, refl, ap, subst, inr, arith}
use Rattle.std.proofs.lemmas.Bool.{and_from, lt-ltb}
use Rattle.model.specs.Answers.{Answer, accepted, refused}
use Rattle.model.specs.Masks.{has, with_right}
use Rattle.stores.specs.Matrices.{sum_below}
use Rattle.tapes.specs.Grammars.{breaks_rule}
use Rattle.tapes.proofs.ItemTapes.{formed_run}
use Rattle.model.specs.declared.kind.Kind.TheVariants.{Subject, Object}
use Rattle.opening.specs.Encoding.{code}
use Rattle.opening.specs.Items.{Item, entry, right, opened}
use Rattle.opening.specs.Reading.{OpeningRead}
use Rattle.opening.specs.Rules.{broken_after, well_formed}
use Rattle.model.specs.Kiosk.{kiosk_counts}
use Rattle.opening.specs.Worked.{kiosk_tape, kiosk_items, kiosk_state, KioskReads, SmallKiosk}
use Rattle.opening.proofs.Answering.{one_reading}

only : (limit : ℕ) (reading : Answer (List Item)) → OpeningRead kiosk_counts limit kiosk_tape reading → KioskReads limit reading
only limit reading read answer = (λ other. one_reading kiosk_counts limit kiosk_tape answer reading other read, λ is. subst (OpeningRead kiosk_counts limit kiosk_tape) (sym is) read)

state : opened kiosk_items ≡ kiosk_state
unfolding has with_right
state = refl

-- the right that needs a cell, where so many are not empty
room : (filled limit : ℕ) → filled < limit → is_none {T = ℕ} (cond (not (ltb filled limit)) (Some 8) None) ≡ true
room filled limit h = ap (λ b. is_none {T = ℕ} (cond (not b) (Some 8) None)) (lt-ltb filled limit h)

formed : (limit : ℕ) → 2 ≤ limit → well_formed kiosk_counts limit kiosk_items ≡ true
unfolding has with_right sum_below
formed limit enough = and_from _ _ refl (and_from _ _ refl (and_from _ _ refl (and_from _ _ (room 0 limit (omega arith)) (and_from _ _ (room 1 limit (omega arith)) refl))))

opens : (limit : ℕ) → 2 ≤ limit → KioskReads limit (accepted kiosk_items)
opens limit enough = only limit (accepted kiosk_items) (omega arith, refl, formed limit enough)

abbrev four : List Item
four = entry Subject 0 (Some 3) None None None ∷ entry Subject 1 (Some 1) None None None ∷ entry Object 2 None None None None ∷ right 0 0 2 ∷ []

full : KioskReads 1 (refused 2 8 22)
unfolding has with_right sum_below
full =
    only 1 (refused 2 8 22) (
      refl,
      inr (
        omega arith,
        record {
          before = four;
          reached = four;
          rest = 0x42 ∷ 1 ∷ 0 ∷ 1 ∷ [];
          lawful = formed_run (broken_after kiosk_counts 1) code [] four refl;
          split = refl;
          here = refl;
          why = breaks_rule (right 1 0 1) [] refl refl;
        },
      ),
    )

pub small_kiosk : SmallKiosk
small_kiosk = record { opens = opens; full = full; state = state }
