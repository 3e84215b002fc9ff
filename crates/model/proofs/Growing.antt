-- Rules over a list that grows by one element at its end.
use Rattle.std.proofs.Common.{◌≡◌, Bool, ◌&&◌, List, [], ◌∷◌, ◌++◌, sym, ap, ◌∙◌, append_assoc, append-nil}
use Rattle.std.proofs.lemmas.List.Folds.{list_all-append}
use Rattle.std.proofs.Math.Bool.{and_assoc, and-true}
use Rattle.std.specs.List.{list_all}
use Rattle.model.specs.Lists.{each_after}

pub all_push : {X : Type 0} (f : X → Bool) (xs : List X) (x : X) → list_all f (xs ++ x ∷ []) ≡ (list_all f xs && f x)
all_push f xs x = list_all-append f xs (x ∷ []) ∙ ap (λ b. list_all f xs && b) (and-true (f x))

pub each_push : {X : Type 0} (f : List X → X → Bool) (before xs : List X) (x : X) → each_after f before (xs ++ x ∷ []) ≡ (each_after f before xs && f (before ++ xs) x)
each_push f before [] x = and-true (f before x) ∙ ap (λ l. f l x) (sym (append-nil before))
each_push f before (y ∷ ys) x =
    ap (λ b. f before y && b) (each_push f (before ++ y ∷ []) ys x ∙ ap (λ l. each_after f (before ++ y ∷ []) ys && f l x) (append_assoc before (y ∷ []) ys))
    ∙ sym (and_assoc (f before y) (each_after f (before ++ y ∷ []) ys) (f (before ++ (y ∷ ys)) x))
