-- Two certificates that each say all that the other says take as many bytes.
use Rattle.std.proofs.Common.{◌≡◌, ℕ, ◌+◌, length, sym, ap, ◌∙◌, arith}
use Rattle.std.specs.List.{sum_by}
use mathlib.Core.Path.{fun_ext}
use lib.Bits.{and_comm}
use Rattle.model.specs.declared.stamp.Stamp.{Stamp}
use Rattle.model.specs.Masks.{Within}
use Rattle.model.proofs.Containing.{and_from_within}
use Rattle.certificates.specs.Certificates.{Certificate, allows, Apart}
use Rattle.certificates.proofs.Listed.{listed_there, there_listed}
use Rattle.writing.specs.Writing.{written}
use Rattle.writing.proofs.Sizes.{mask_size, row_size, written_size}
use Rattle.maker.specs.Comparing.{Above}
use Rattle.maker.proofs.Counting.{Included, included_bound}

same_mask : (m n : ℕ) → Within m n → Within n m → m ≡ n
same_mask m n there back = sym (and_from_within m n there) ∙ and_comm m n ∙ and_from_within n m back

included : (c d : Certificate) → Above d c → Included c.stamps d.stamps
included c d above n s there = there_listed d s (above.stamps s (listed_there c n s there))

module _ (c d : Certificate) (apart : Apart c.stamps) (apart_too : Apart d.stamps) (below : Above d c) (above : Above c d) where
  same_sum : (f : Stamp → ℕ) → sum_by f c.stamps ≡ sum_by f d.stamps
  same_sum f =
      let up = included_bound f c.stamps d.stamps apart (included c d below) in
      let down = included_bound f d.stamps c.stamps apart_too (included d c above) in
      omega (arith, up, down)

  same_row : (s : Stamp) → row_size c s ≡ row_size d s
  same_row s =
      ap (λ f. sum_by f c.stamps) (fun_ext (λ t. ap mask_size (same_mask (allows c s t) (allows d s t) (below.rights s t) (above.rights s t))))
      ∙ same_sum (λ t. mask_size (allows d s t))

  pub same_length : length (written c) ≡ length (written d)
  same_length =
      written_size c
      ∙ ap (λ n. n + sum_by (row_size c) c.stamps) (same_sum (λ s. 6))
      ∙ ap (λ n. sum_by (λ s. 6) d.stamps + n) (ap (λ f. sum_by f c.stamps) (fun_ext same_row) ∙ same_sum (row_size d))
      ∙ sym (written_size d)
