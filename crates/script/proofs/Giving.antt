-- What the text after `store`, `filter` or `make` gives, and that it gives one thing.
use Rattle.std.proofs.Common.{◌≡◌, ℕ, ◌≤◌, ◌⊎◌, List, codes, refl, sym, subst, inl, inr, ⊎_elim, arith}
use Rattle.script.specs.Words.{Begins, Alone}
use Rattle.script.specs.Numbers.{Number, LoneNumber, Leads}
use Rattle.script.specs.Hex.{Mask}
use Rattle.script.specs.Settings.{Sized, Filters}
use Rattle.script.specs.Sides.{Sides, Unparted}
use Rattle.script.specs.Making.{full_size, Buffered, unsized, sized}
use Rattle.script.proofs.Parting.{one_beginning, one_alone}
use Rattle.script.proofs.Numbering.{one_number}
use Rattle.script.proofs.Masking.{one_mask}
use Rattle.script.proofs.Leading.{one_leading}
use Rattle.script.proofs.Siding.{one_parting}

-- the number of a text of one word is what the word writes
pub lone_at : {text last : List ℕ} {n : ℕ} → Alone text last → LoneNumber text n → Number last n × (n ≤ 999999)
lone_at {n = n} a l = (subst (λ w. Number w n) (one_alone l.alone a) l.number, l.within)

one_lone_number : {text : List ℕ} {m n : ℕ} → LoneNumber text m → LoneNumber text n → m ≡ n
one_lone_number l k = one_number l.number (lone_at l.alone k).0

-- the number of a list stands where the words say
pub size_at : {text first more : List ℕ} {n : ℕ} → Begins text first more → Sized text n → LoneNumber more n
size_at {n = n} b s = subst (λ t. LoneNumber t n) (one_beginning s.begun b).1 s.number

pub one_size : {text : List ℕ} {m n : ℕ} → Sized text m → Sized text n → m ≡ n
one_size s t = one_lone_number s.number (size_at s.begun t)

pub board_or_list : {text : List ℕ} {n : ℕ} → Alone text (codes "board") → Sized text n → ⊥
board_or_list a s = let same = (one_beginning a.begun s.begun).0 in grind arith

-- the attribute and the mask of a filter stand where the words say
pub filter_at : {text more : List ℕ} {j k m : ℕ} → Leads text j more → Filters text k m → (j ≡ k) × ((last : List ℕ) × Alone more last × Mask last m)
filter_at l f =
    let same = one_leading f.leads l in
    (sym same.0, (f.last, subst (λ t. Alone t f.last) same.1 f.alone, f.mask))

pub mask_at : {text more last : List ℕ} {j k m : ℕ} → Leads text j more → Alone more last → Filters text k m → Mask last m
mask_at {m = m} l a f = let p = (filter_at l f).1 in subst (λ w. Mask w m) (one_alone p.1 a) p.2

pub one_filter : {text : List ℕ} {k m k' m' : ℕ} → Filters text k m → Filters text k' m' → (k ≡ k') × (m ≡ m')
one_filter f g = ((filter_at f.leads g).0, one_mask f.mask (mask_at f.leads f.alone g))

-- what is said of a buffer, read backward
abbrev Said : List ℕ → ℕ → List ℕ → Type 0
Said text n bans = (Unparted text × (n ≡ full_size) × (bans ≡ text)) ⊎ ((left : List ℕ) × Sides text left bans × LoneNumber left n)

said : {text bans : List ℕ} {n : ℕ} → Buffered text n bans → Said text n bans
said (unsized none) = inl (none, refl, refl)
said (sized {left = left} s l) = inr (left, s, l)

pub unsized_at : {text bans : List ℕ} {n : ℕ} → Unparted text → Buffered text n bans → (full_size ≡ n) × (text ≡ bans)
unsized_at none b =
    ⊎_elim (λ x. (sym x.1, sym x.2)) (λ x. absurd (none _ _ x.1)) (said b)

-- with a stroke, the size is the number before it
pub sized_at : {text left right bans : List ℕ} {n : ℕ} → Sides text left right → Buffered text n bans → LoneNumber left n × (right ≡ bans)
sized_at {n = n} s b =
    ⊎_elim
    (λ x. absurd (x.0 _ _ s))
    (λ x. let same = one_parting x.1 s in (subst (λ t. LoneNumber t n) same.0 x.2, sym same.1))
    (said b)

pub one_buffer : {text xs ys : List ℕ} {m n : ℕ} → Buffered text m xs → Buffered text n ys → (m ≡ n) × (xs ≡ ys)
one_buffer (unsized none) b = unsized_at none b
one_buffer (sized s l) b = let at = sized_at s b in (one_lone_number l at.0, at.1)
