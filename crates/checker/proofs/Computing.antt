-- What a certificate contains, and which bans it does not meet, as tests that compute.
use Rattle.std.proofs.Common.{◌≡◌, ℕ, ◌<◌, ◌≤◌, ◌⊎◌, Bool, true, not, ◌&&◌, None, sym, ◌∙◌, inl, inr, ⊎_elim}
use Rattle.std.proofs.lemmas.Bool.{cases_lt, and_parts, and_from, both_ways, not-true}
use Rattle.std.proofs.lemmas.Option.{none-some}
use Rattle.model.specs.Masks.{has, Within}
use Rattle.model.proofs.Rights.{holds_nothing}
use Rattle.protection.specs.States.{Protection}
use Rattle.certificates.specs.declared.ban.Ban.{Ban}
use Rattle.certificates.specs.Bans.{Meets, fits}
use Rattle.certificates.specs.Certificates.{Certificate, allows, between}
use Rattle.checker.specs.Containing.{Contains}
use Rattle.checker.proofs.Picking.{of_three, three_at, of_listed, all_listed, within, within_so, stamp_kept, stamp_so}

abbrev pub holds_of : Certificate → Protection → Bool
holds_of c p = of_three (λ n. stamp_kept c (p.entry n)) && of_three (λ n. of_three (λ o. within (p.cells n o) (between c (p.entry n) (p.entry o))))

-- what has nothing past the third name
pub contained_by : (c : Certificate) (p : Protection) → holds_of c p ≡ true → ((n : ℕ) → 3 ≤ n → p.entry n ≡ None) → ((n o : ℕ) → (3 ≤ n) ⊎ (3 ≤ o) → p.cells n o ≡ 0) → Contains c p
contained_by c p h no_entry no_cell =
    let parts = and_parts (of_three (λ n. stamp_kept c (p.entry n))) (of_three (λ n. of_three (λ o. within (p.cells n o) (between c (p.entry n) (p.entry o))))) h in
    let beyond : (n o : ℕ) → (3 ≤ n) ⊎ (3 ≤ o) → Within (p.cells n o) (between c (p.entry n) (p.entry o)) = λ n o past r held. absurd (both_ways (has 0 r) (holds_nothing r) (rw (no_cell n o past) at held)) in
    record {
      stamps = λ n s stands.
          ⊎_elim
          (λ (inside : n < 3). stamp_so c (p.entry n) s (three_at (λ n. stamp_kept c (p.entry n)) parts.0 n inside) stands)
          (λ (past : 3 ≤ n). absurd (none-some s (sym (no_entry n past) ∙ stands)))
          (cases_lt n 3);
      cells = λ n o.
          ⊎_elim
          (λ (row : n < 3).
          ⊎_elim
          (λ (column : o < 3).
          within_so (p.cells n o) (between c (p.entry n) (p.entry o))
          (three_at (λ o. within (p.cells n o) (between c (p.entry n) (p.entry o))) (three_at (λ n. of_three (λ o. within (p.cells n o) (between c (p.entry n) (p.entry o)))) parts.1 n row) o column))
          (λ (past : 3 ≤ o). beyond n o (inr past))
          (cases_lt o 3))
          (λ (past : 3 ≤ n). beyond n o (inl past))
          (cases_lt n 3);
    }

abbrev pub unmet_of : Certificate → Ban → Bool
unmet_of c ban = all_listed c (λ u. all_listed c (λ v. not (fits ban u v && has (allows c u v) ban.right)))

pub unmet_by : (c : Certificate) (ban : Ban) → unmet_of c ban ≡ true → Meets c ban → ⊥
unmet_by c ban all meets =
    let u = meets.0 in
    let v = meets.1 in
    let row = of_listed c (λ u. all_listed c (λ v. not (fits ban u v && has (allows c u v) ban.right))) u all meets.2.row in
    let column = of_listed c (λ v. not (fits ban u v && has (allows c u v) ban.right)) v row meets.2.column in
    both_ways (fits ban u v && has (allows c u v) ban.right)
    (not-true (fits ban u v && has (allows c u v) ban.right) column)
    (and_from (fits ban u v) (has (allows c u v) ban.right) meets.2.fit meets.2.held)
