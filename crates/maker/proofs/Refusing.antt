-- Why no certificate is accepted where none is handed out: each that is would have to say all that the least says.
use Rattle.std.proofs.Common.{◌≡◌, ℕ, ◌≤◌, List, length, Some, None, Option, MatchOption, inl, inr, refl, arith}
use Rattle.model.specs.declared.stamp.Stamp.{Stamp}
use Rattle.protection.specs.States.{Protection}
use Rattle.certificates.specs.declared.ban.Ban.{Ban}
use Rattle.certificates.specs.Bans.{Meets}
use Rattle.certificates.specs.Certificates.{Certificate}
use Rattle.register.specs.States.{Kept}
use Rattle.writing.specs.Writing.{full_size, InScales, Unwritable, written, WrittenInto}
use Rattle.writing.proofs.Lawful.{encoded_few, encoded_scaled}
use Rattle.checker.specs.Flaws.{IsLowestMet}
use Rattle.checker.specs.Judgements.{Accepts, MeetsNone}
use Rattle.maker.specs.Comparing.{Above}
use Rattle.maker.specs.Least.{Holds, Least, TooMany}
use Rattle.maker.specs.Making.{HandedInto, NoneAccepted}

-- what says more meets no fewer bans
met_above : (c d : Certificate) (ban : Ban) → Above d c → Meets c ban → Meets d ban
met_above c d ban above (u, v, met) = (
  u,
  v,
  record {
    row = above.stamps u met.row;
    column = above.stamps v met.column;
    fit = met.fit;
    held = above.rights u v ban.right met.held;
  },
)

module _ (k : Kept) (p : Protection) (bans : List Ban) where
  -- what is accepted holds for good, so far as no ban is looked at
  pub holds : (c : Certificate) → Accepts k p c bans → Holds k p c
  holds c accepts = record { contains = accepts.contains; closed = accepts.closed }

  -- A tape has no place for more than 32 stamps,
  pub too_many : TooMany k p → NoneAccepted k p bans
  too_many many tape c encodes accepts = let few = encoded_few k.counts tape c encodes in let over = many c (holds c accepts) in omega (arith, few, over)

  module _ (c : Certificate) (least : Least k p c) where
    -- and where the least meets a ban, so does what says all that it says;
    pub met : (number : ℕ) (u v : Stamp) → IsLowestMet c bans number u v → NoneAccepted k p bans
    met number u v ((ban, at, meets), first) tape d encodes accepts = accepts.unmet number (ban, at, met_above c d ban (least.below d (holds d accepts)) (u, v, meets))

    -- and where the least lists a stamp that is not in its scales, so does that, and no lawful tape.
    out_of_scale : (InScales k.counts c → ⊥) → NoneAccepted k p bans
    out_of_scale out tape d encodes accepts = out (λ s listed. encoded_scaled k.counts tape d encodes s ((least.below d (holds d accepts)).stamps s listed))

    -- Into a buffer that has room for any, it is written else.
    module _ (unmet : MeetsNone c bans) (before : List ℕ) (room : full_size ≤ length before) (after : List ℕ) where
      unwritten : Unwritable k.counts c before → NoneAccepted k p bans
      unwritten (inl small) = absurd (omega (arith, room, small))
      unwritten (inr out) = out_of_scale out

      pub handed_into : (result : Option ℕ) → MatchOption result (Unwritable k.counts c before × (after ≡ before)) (λ n. WrittenInto k.counts c before n after) → MatchOption result (NoneAccepted k p bans × (after ≡ before)) (λ n. HandedInto k p bans before n after)
      handed_into None not = (unwritten not.0, not.1)
      handed_into (Some n) wrote = record {
        c = c;
        tape = written c;
        hands = record { least = least; unmet = unmet; bytes = refl; back = wrote.back };
        long = wrote.long;
        bytes = wrote.bytes;
      }
