-- How much room is left when a table grows.
use Rattle.std.proofs.Common.{◌≡◌, ℕ, ◌+◌, ◌-◌, ◌<◌, length, ap, ◌∙◌, arith}
use Rattle.std.proofs.lemmas.List.{length_push}
use Rattle.model.specs.declared.stamp.Stamp.{Stamp}
use Rattle.stores.specs.Matrices.{Matrix, written, sum_below}
use Rattle.stores.proofs.Counting.{sum_same, sum_change}
use Rattle.stores.proofs.Writing.{written_here, written_row, written_column}
use Rattle.certificates.specs.Certificates.{Certificate, with_stamp, with_mask}
use Rattle.maker.specs.Growing.{room}

pub less_by_stamp : (c : Certificate) (s : Stamp) → length c.stamps < 32 → room (with_stamp c s) < room c
less_by_stamp c s low = omega (arith, low, length_push c.stamps s)

abbrev left : Matrix → (u v : ℕ) → ℕ
left masks u v = 65535 - masks u v

abbrev row_left : Matrix → (u : ℕ) → ℕ
row_left masks u = sum_below (left masks u) 32

-- the mask that was there counts no more, the new one does
pub room_written : (c : Certificate) (m n more : ℕ) → m < 32 → n < 32 → room (with_mask c m n more) + (65535 - c.masks m n) ≡ room c + (65535 - more)
room_written c m n more low low' =
    let after = written c.masks m n more in
    let row : row_left after m + (65535 - c.masks m n) ≡ row_left c.masks m + (65535 - more) =
    sum_change (left after m) (left c.masks m) n 32 low'
    (λ b ne. ap (λ k. 65535 - k) (written_column c.masks m n more m b ne))
    ∙ ap (λ k. row_left c.masks m + (65535 - k)) (written_here c.masks m n more) in
    let all : sum_below (row_left after) 32 + row_left c.masks m ≡ sum_below (row_left c.masks) 32 + row_left after m =
    sum_change (row_left after) (row_left c.masks) m 32 low
    (λ a ne. sum_same (left after a) (left c.masks a) 32 (λ b _. ap (λ k. 65535 - k) (written_row c.masks m n more a b ne))) in
    omega (arith, row, all)
