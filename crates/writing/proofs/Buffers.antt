-- Bytes put into a buffer, some after others.
use Rattle.std.proofs.Common.{◌≡◌, ℕ, ◌+◌, ◌≤◌, List, [], ◌++◌, length, take, drop, sym, ap, ◌∙◌, append_assoc, length-append, arith}
use Rattle.std.proofs.lemmas.List.{drop-drop, drop_at, length-take-le, take-append-drop, take_at}
use Rattle.writing.specs.Buffers.{Put}

pub put_nothing : (at : ℕ) (buffer : List ℕ) → Put at [] buffer at buffer
put_nothing at buffer = record { up_to = omega arith; stand = sym (take-append-drop at buffer) }

-- bytes, and others after them
module _ {at m n : ℕ} {xs ys before between after : List ℕ} (inside : at ≤ length before) (first : Put at xs before m between) (second : Put m ys between n after) where
  abbrev front : List ℕ
  front = take at before ++ xs

  pub put_after : Put at (xs ++ ys) before n after
  put_after =
      let long : length front ≡ m = omega (arith, length-append (take at before) xs, length-take-le at before inside, first.up_to) in
      let split : between ≡ front ++ drop m before = first.stand ∙ sym (append_assoc (take at before) xs (drop m before)) in
      let left : take m between ≡ front = ap (take m) split ∙ take_at front (drop m before) m long in
      let right : drop m between ≡ drop m before = ap (drop m) split ∙ drop_at front (drop m before) m long in
      let next : n ≡ m + length ys = second.up_to in
      let rest : drop n between ≡ drop n before =
      ap (λ k. drop k between) next ∙ sym (drop-drop (length ys) m between) ∙ ap (drop (length ys)) right ∙ drop-drop (length ys) m before ∙ ap (λ k. drop k before) (sym next) in
      record {
        up_to = omega (arith, first.up_to, second.up_to, length-append xs ys);
        stand =
            second.stand ∙ ap (λ l. l ++ (ys ++ drop n between)) left
            ∙ ap (λ r. front ++ (ys ++ r)) rest
            ∙ append_assoc (take at before) xs (ys ++ drop n before)
            ∙ ap (λ r. take at before ++ r) (sym (append_assoc xs ys (drop n before)));
      }
