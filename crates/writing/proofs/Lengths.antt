-- How many bytes stamps and masks take.
use Rattle.std.proofs.Common.{ℕ, ◌*◌, ◌≤◌, Bool, true, false, cond, ltb, ◌/◌, ◌%◌, [], ◌∷◌, length, map, ap, length-append, length-take, arith}
use Rattle.std.proofs.lemmas.Grind.{flat_map-append}
use Rattle.certificates.specs.declared.certificate.Certificate.{Certificate as Stored}
use Rattle.certificates.specs.Certificates.{Certificate}
use Rattle.certificates.specs.Encoding.{code}
use Rattle.certificates.specs.Items.{allow}
use Rattle.certificates.specs.Views.{certificate_of}
use Rattle.writing.specs.Buffers.{bytes_of}
use Rattle.writing.specs.Writing.{stamp_item, mask_items, items_below, cell_items, row_items, allowed_by, written, full_row, full_size}
use Rattle.writing.proofs.Below.{below_long}
use Rattle.writing.proofs.Spelling.{stamps_long}

-- a stored certificate lists 32 stamps at most
pub stored_few : (c : Stored) → length (certificate_of c).stamps ≤ 32
stored_few c = rw length-take (omega (arith, c.stamps.few))

pub mask_long : (u v mask : ℕ) → length (bytes_of (mask_items u v mask)) ≤ 5
mask_long u v mask = by (ltb 0 mask)
  where
    by : (some : Bool) → length (bytes_of (cond some (allow u v (mask / 256) (mask % 256) ∷ []) [])) ≤ 5
    by true = omega arith
    by false = omega arith

-- what is allowed on each of n stamps, and of each of n on all
pub cells_long : (c : Certificate) (u n : ℕ) → length (bytes_of (items_below (cell_items c u) n)) ≤ 5 * n
cells_long c u = below_long (cell_items c u) 5 (λ v. mask_long u v (allowed_by c u v))

pub row_long : (c : Certificate) → length c.stamps ≤ 32 → (u : ℕ) → length (bytes_of (row_items c u)) ≤ full_row
row_long c few u = omega (arith, few, cells_long c u (length c.stamps))

pub rows_long : (c : Certificate) → length c.stamps ≤ 32 → (n : ℕ) → length (bytes_of (items_below (row_items c) n)) ≤ full_row * n
rows_long c few = below_long (row_items c) full_row (row_long c few)

pub written_long : (c : Certificate) → length c.stamps ≤ 32 → length (written c) ≤ full_size
written_long c few =
    let stamps = map stamp_item c.stamps in
    let masks = items_below (row_items c) (length c.stamps) in
    omega (arith, few, stamps_long c.stamps, rows_long c few (length c.stamps), ap length (flat_map-append code stamps masks), length-append (bytes_of stamps) (bytes_of masks))
