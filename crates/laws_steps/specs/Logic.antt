-- Tests taken apart and put together, and bytes as numbers below 256: what every law below uses.
use Rattle.std.specs.Prelude.{ℕ, suc, ◌<◌, List, [], ◌∷◌, ◌++◌, Bool, true, false, ◌&&◌, ◌||◌, not, ◌⊎◌, ◌≡◌, refl, T, ltb, get_or}
use Rattle.std.proofs.Common.{inl, inr, arith, ltb→lt, lt-ltb}
use Rattle.meaning.specs.Basics.{every}

abbrev pub left_of : (a b : Bool) → T (a && b) → T a
left_of true b t = tt
left_of false b t = t

abbrev pub right_of : (a b : Bool) → T (a && b) → T b
right_of true b t = t
right_of false b t = absurd t

pub both : (a b : Bool) → T a → T b → T (a && b)
both true b p q = q
both false b p q = p

pub either : (a b : Bool) → T (a || b) → T a ⊎ T b
either true b t = inl tt
either false b t = inr t

pub or_left : (a b : Bool) → T a → T (a || b)
or_left true b t = tt
or_left false b t = absurd t

pub or_right : (a b : Bool) → T b → T (a || b)
or_right true b t = tt
or_right false b t = t

pub is_true : (b : Bool) → T b → b ≡ true
is_true true t = refl
is_true false t = absurd t

pub is_false : (b : Bool) → T (not b) → b ≡ false
is_false true t = absurd t
is_false false t = refl

pub not_both : (b : Bool) → T b → T (not b) → ⊥
not_both true t u = u
not_both false t u = t

pub both_hold : (a b : Bool) → (a && b) ≡ true → (a ≡ true) × (b ≡ true)
both_hold true b h = (refl, h)
both_hold false b h = let z : ◌≡◌ {A = ℕ} 0 1 = cc in absurd (omega arith)

-- a slice of bytes holds no other numbers
abbrev pub is_byte : ℕ → Bool
is_byte b = ltb b 256

abbrev pub are_bytes : List ℕ → Bool
are_bytes s = every is_byte s

-- a slice's bytes are bytes
pub slice_of_bytes : (s : List ℕ) → ((i : ℕ) → get_or s i 0 < 256) → T (are_bytes s)
slice_of_bytes [] h = tt
slice_of_bytes (b ∷ s) h = both (is_byte b) (are_bytes s) (rw (lt-ltb b 256 (h 0)) tt) (slice_of_bytes s (λ i. h (suc i)))

pub first_byte : (b : ℕ) (s : List ℕ) → T (are_bytes (b ∷ s)) → b < 256
first_byte b s t = ltb→lt b 256 (left_of (is_byte b) (are_bytes s) t)

pub other_bytes : (b : ℕ) (s : List ℕ) → T (are_bytes (b ∷ s)) → T (are_bytes s)
other_bytes b s t = right_of (is_byte b) (are_bytes s) t

pub bytes_front : (s t : List ℕ) → T (are_bytes (s ++ t)) → T (are_bytes s)
bytes_front [] t h = tt
bytes_front (b ∷ s) t h = both (is_byte b) (are_bytes s) (left_of (is_byte b) (are_bytes (s ++ t)) h) (bytes_front s t (right_of (is_byte b) (are_bytes (s ++ t)) h))

pub bytes_behind : (s t : List ℕ) → T (are_bytes (s ++ t)) → T (are_bytes t)
bytes_behind [] t h = h
bytes_behind (b ∷ s) t h = bytes_behind s t (right_of (is_byte b) (are_bytes (s ++ t)) h)
