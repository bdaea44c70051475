-- A number pushed in front of others: each moves one place on, up to a place.
use Prim.Native.Nat.{ℕ, zero, suc, ◌+◌, ◌<◌}
use mathlib.Core.List.{List, [], ◌∷◌, ◌++◌}
use mathlib.Core.Path.{◌≡◌, refl, ap, sym, ◌∙◌}
use native.Mathlib.Omega.{arith}
use lib.ListN.{length, get_or, set, drop, length-append}
use lib.Seq.{drop-drop}
use Rattle.meaning.specs.Memory.{laid_over}

-- with so many moved, and the number that is then in hand
abbrev pub pushed : ℕ → List ℕ → ℕ → List ℕ
pushed x [] i = []
pushed x (y ∷ l) zero = y ∷ l
pushed x (y ∷ l) (suc i) = x ∷ pushed y l i

abbrev pub in_hand : ℕ → List ℕ → ℕ → ℕ
in_hand x l zero = x
in_hand x [] (suc i) = x
in_hand x (y ∷ l) (suc i) = in_hand y l i

none_pushed : (x : ℕ) (l : List ℕ) → pushed x l 0 ≡ l
none_pushed x [] = refl
none_pushed x (y ∷ l) = refl

pub begins_pushed : (x : ℕ) (l : List ℕ) → l ≡ pushed x l 0
begins_pushed x l = sym (none_pushed x l)

pub pushed_length : (x : ℕ) (l : List ℕ) (i : ℕ) → length (pushed x l i) ≡ length l
pushed_length x [] i = refl
pushed_length x (y ∷ l) zero = refl
pushed_length x (y ∷ l) (suc i) = ap suc (pushed_length y l i)

pub pushes : (x : ℕ) (l : List ℕ) (i : ℕ) → i < length l → set (pushed x l i) i (in_hand x l i) ≡ pushed x l (suc i)
pushes x [] i h = absurd (omega arith)
pushes x (y ∷ l) zero h = ap (λ (t : List ℕ). x ∷ t) (sym (none_pushed y l))
pushes x (y ∷ l) (suc i) h = ap (λ (t : List ℕ). x ∷ t) (pushes y l i (omega arith))

pub takes_up : (x : ℕ) (l : List ℕ) (i : ℕ) → i < length l → get_or (pushed x l i) i 0 ≡ in_hand x l (suc i)
takes_up x [] i h = absurd (omega arith)
takes_up x (y ∷ l) zero h = refl
takes_up x (y ∷ l) (suc i) h = takes_up y l i (omega arith)

all_pushed : (x : ℕ) (own rest : List ℕ) → 0 < length rest → pushed x (own ++ rest) (suc (length own)) ≡ x ∷ (own ++ drop 1 rest)
all_pushed x [] [] h = absurd (omega arith)
all_pushed x [] (y ∷ rest) h = ap (λ (t : List ℕ). x ∷ t) (none_pushed y rest)
all_pushed x (o ∷ own) rest h = ap (λ (t : List ℕ). x ∷ t) (all_pushed o own rest h)

pub first_laid : (lent own words : List ℕ) (k word i : ℕ) → words ≡ laid_over lent own → length own ≡ k → k < length words → i ≡ suc k → pushed word words i ≡ laid_over lent (word ∷ own)
unfolding laid_over
first_laid lent own words k word i q l h e =
    let rest = drop (length own) lent in
    let long : length words ≡ length own + length rest = ap length q ∙ length-append own rest in
    let more : length own + 1 ≡ suc (length own) = omega arith in
    let many : i ≡ suc (length own) = omega arith in
    ap (pushed word words) many ∙ ap (λ (x : List ℕ). pushed word x (suc (length own))) q ∙ all_pushed word own rest (omega arith)
    ∙ ap (λ (x : List ℕ). word ∷ (own ++ x)) (drop-drop 1 (length own) lent ∙ ap (λ (n : ℕ). drop n lent) more)
