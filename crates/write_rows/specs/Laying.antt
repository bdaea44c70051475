-- Bytes laid one behind the other, where the part lent has room for them, and counted up to the limit of an envelope.
use Rattle.std.specs.Prelude.{ℕ, ◌+◌, ◌-◌, ◌≤◌, zero, suc, ◌/◌, ◌%◌, ◌<◌, List, [], ◌∷◌, ◌++◌, ◌≡◌, refl, eqb, ltb, length, take, get_or, set, Bool, true, false}
use Rattle.std.specs.Prelude.{min}
use Rattle.std.specs.Int.{to_be_bytes, w16, w32}
use Rattle.std.proofs.Common.{sym, ap, ◌∙◌, subst, length-append, length-set, take-suc, length-take-le, arith, add-one, le-ltb, ltb-true, ltb-false}
use Rattle.std.proofs.lemmas.List.Edits.{sets}
use Rattle.std.proofs.Math.Seq.{length-sets, set_out, take-nil, take-length}
use Rattle.meaning.specs.Basics.{pick}
use Rattle.meaning.specs.Bytes.{length_bytes, two_bytes, four_bytes}
use Rattle.meaning.specs.Headers.{envelope_most}

-- a count that stops at the limit of an envelope
abbrev pub capped : ℕ → ℕ
capped n = pick (ltb n envelope_most) n envelope_most

abbrev pub one : ℕ → List ℕ
one b = b ∷ []

-- these bytes were laid from `at` on; what the part has no room for is counted only
pub record Laid (before : List ℕ) (at : ℕ) (bytes after : List ℕ) (count : ℕ) : Type 0 where
  pub memory : after ≡ sets before at bytes
  pub counted : count ≡ capped (at + length bytes)

-- how many bytes have room behind `at`
abbrev pub fitting_of : ℕ → ℕ → ℕ → ℕ
fitting_of many at room = pick (ltb (room - at) many) (room - at) many

-- what every function that lays bytes asks
pub record Layable (part : List ℕ) (at : ℕ) : Type 0 where
  pub counted : at ≤ envelope_most
  pub small : length part ≤ envelope_most

-- a move's code, unless it has none
abbrev pub lead_of : ℕ → List ℕ
lead_of c = pick (eqb c 256) [] (c ∷ [])

-- Laws: bytes laid one behind the other are the bytes of both laid at once; a count that stops at the limit adds up as any other.

pub capped_id : (n : ℕ) → n ≤ envelope_most → n ≡ capped n
capped_id n h = at (ltb n envelope_most) refl
  where
    at : (b : Bool) → ltb n envelope_most ≡ b → n ≡ pick b n envelope_most
    at true q = refl
    at false q = let k = ltb-false n envelope_most q in omega arith

pub capped_most : (n : ℕ) → capped n ≤ envelope_most
capped_most n = at (ltb n envelope_most) refl
  where
    at : (b : Bool) → ltb n envelope_most ≡ b → pick b n envelope_most ≤ envelope_most
    at true q = let k = ltb-true n envelope_most q in omega arith
    at false q = omega arith

capped_add : (x y : ℕ) → capped (capped x + y) ≡ capped (x + y)
capped_add x y = at (ltb x envelope_most) refl
  where
    at : (b : Bool) → ltb x envelope_most ≡ b → capped (pick b x envelope_most + y) ≡ capped (x + y)
    at true q = refl
    at false q = let k = ltb-false x envelope_most q in rw (le-ltb (envelope_most + y) envelope_most (omega arith), le-ltb (x + y) envelope_most (omega arith)) refl

sets_past : (m : List ℕ) (at : ℕ) (bs : List ℕ) → length m ≤ at → sets m at bs ≡ m
sets_past m at [] h = refl
sets_past m at (b ∷ bs) h = ap (λ (x : List ℕ). sets x (suc at) bs) (set_out m at b h) ∙ sets_past m (suc at) bs (omega arith)

sets_capped : (m : List ℕ) (x : ℕ) (cs : List ℕ) → length m ≤ envelope_most → sets m (capped x) cs ≡ sets m x cs
sets_capped m x cs h = at (ltb x envelope_most) refl
  where
    at : (b : Bool) → ltb x envelope_most ≡ b → sets m (pick b x envelope_most) cs ≡ sets m x cs
    at true q = refl
    at false q = let k = ltb-false x envelope_most q in sets_past m envelope_most cs h ∙ sym (sets_past m x cs (omega arith))

sets_append : (m : List ℕ) (at : ℕ) (bs cs : List ℕ) → sets m at (bs ++ cs) ≡ sets (sets m at bs) (at + length bs) cs
sets_append m at [] cs = let q : at ≡ at + 0 = omega arith in ap (λ (x : ℕ). sets m x cs) q
sets_append m at (b ∷ bs) cs =
    let q : suc at + length bs ≡ at + suc (length bs) = omega arith in
    sets_append (set m at b) (suc at) bs cs ∙ ap (λ (x : ℕ). sets (sets (set m at b) (suc at) bs) x cs) q

-- one byte: stored, or counted, or past the limit
pub laid_one : (m : List ℕ) (at b : ℕ) → at < length m → Layable m at → Laid m at (one b) (set m at b) (at + 1)
laid_one m at b h l = record { memory = refl; counted = capped_id (at + 1) (omega (arith, l.small)) }

pub laid_out : (m : List ℕ) (at b : ℕ) → length m ≤ at → at < envelope_most → Laid m at (one b) m (at + 1)
laid_out m at b h k = record { memory = sym (set_out m at b h); counted = capped_id (at + 1) (omega arith) }

pub laid_full : (m : List ℕ) (at b : ℕ) → length m ≤ at → envelope_most ≤ at → Layable m at → Laid m at (one b) m at
laid_full m at b h k l =
    record { memory = sym (set_out m at b h); counted = let q : at ≡ envelope_most = omega (arith, l.counted) in rw (le-ltb (at + 1) envelope_most (omega arith)) q }

pub laid_none : (m : List ℕ) (at : ℕ) → Layable m at → Laid m at [] m at
laid_none m at l = record { memory = refl; counted = let q : at ≡ at + 0 = omega arith in capped_id at l.counted ∙ ap capped q }

module _ {m : List ℕ} {at : ℕ} {bs m₁ : List ℕ} {p₁ : ℕ} (l : Laid m at bs m₁ p₁) where
  laid_most : p₁ ≤ envelope_most
  laid_most = omega (arith, l.counted, capped_most (at + length bs))

  pub laid_length : length m₁ ≡ length m
  laid_length = ap length l.memory ∙ length-sets m at bs

  pub laid_layable : Layable m at → Layable m₁ p₁
  laid_layable a = record { counted = laid_most; small = omega (arith, laid_length, a.small) }

  pub laid_as : (cs : List ℕ) → bs ≡ cs → Laid m at cs m₁ p₁
  laid_as cs q = subst (λ (x : List ℕ). Laid m at x m₁ p₁) q l

  pub laid_then : {cs m₂ : List ℕ} {p₂ : ℕ} → length m ≤ envelope_most → Laid m₁ p₁ cs m₂ p₂ → Laid m at (bs ++ cs) m₂ p₂
  laid_then {cs} {m₂} {p₂} h k =
      let s : length (sets m at bs) ≤ envelope_most = omega (arith, length-sets m at bs) in
      let e : at + length bs + length cs ≡ at + length (bs ++ cs) = omega (arith, length-append bs cs) in
      record {
        memory = k.memory ∙ ap (λ (x : List ℕ). sets x p₁ cs) l.memory ∙ ap (λ (x : ℕ). sets (sets m at bs) x cs) l.counted ∙ sets_capped (sets m at bs) (at + length bs) cs s ∙ sym (sets_append m at bs cs);
        counted = k.counted ∙ ap (λ (x : ℕ). capped (x + length cs)) l.counted ∙ capped_add (at + length bs) (length cs) ∙ ap capped e;
      }

pub laid_three : {m : List ℕ} {at : ℕ} {bs m₁ : List ℕ} {p₁ : ℕ} {cs m₂ : List ℕ} {p₂ : ℕ} {ds m₃ : List ℕ} {p₃ : ℕ} → Layable m at → Laid m at bs m₁ p₁ → Laid m₁ p₁ cs m₂ p₂ → Laid m₂ p₂ ds m₃ p₃ → Laid m at (bs ++ (cs ++ ds)) m₃ p₃
laid_three a l k j = laid_then l a.small (laid_then k (laid_layable l a).small j)

-- Bytes laid one by one

pub lay_on : (v : List ℕ) (i : ℕ) (m₀ : List ℕ) (at : ℕ) {m : List ℕ} → i < length v → m ≡ sets m₀ at (take i v) → set m (at + i) (get_or v i 0) ≡ sets m₀ at (take (i + 1) v)
lay_on v i m₀ at h q =
    let l = length-take-le i v (omega arith) in
    ap (λ (x : List ℕ). set x (at + i) (get_or v i 0)) q ∙ ap (λ (n : ℕ). set (sets m₀ at (take i v)) (at + n) (get_or v i 0)) (sym l)
    ∙ sym (sets_append m₀ at (take i v) (one (get_or v i 0))) ∙ ap (sets m₀ at) (sym (take-suc v i 0 h) ∙ ap (λ (n : ℕ). take n v) (sym (add-one i)))

-- what has no room is not laid
sets_front : (m : List ℕ) (at : ℕ) (bs : List ℕ) (k : ℕ) → length m ≤ at + k → sets m at (take k bs) ≡ sets m at bs
sets_front m at [] k h = ap (sets m at) (take-nil k)
sets_front m at (b ∷ bs) zero h = sym (sets_past m at (b ∷ bs) (omega arith))
sets_front m at (b ∷ bs) (suc k) h = sets_front (set m at b) (suc at) bs k (omega (arith, length-set m at b))

pub fitting_most : (many at room : ℕ) → (fitting_of many at room ≤ many) × (fitting_of many at room ≤ room - at)
fitting_most many at room = by (ltb (room - at) many) refl
  where
    by : (b : Bool) → ltb (room - at) many ≡ b → (pick b (room - at) many ≤ many) × (pick b (room - at) many ≤ room - at)
    by true q = let h = ltb-true (room - at) many q in (omega arith, omega arith)
    by false q = let h = ltb-false (room - at) many q in (omega arith, omega arith)

pub copied : (v m : List ℕ) (at : ℕ) {n p : ℕ} {m₁ : List ℕ} → n ≡ fitting_of (length v) at (length m) → m₁ ≡ sets m at (take n v) → p ≡ capped (at + length v) → Laid m at v m₁ p
copied v m at {n} f q c = record { memory = q ∙ by (ltb (length m - at) (length v)) refl; counted = c }
  where
    by : (b : Bool) → ltb (length m - at) (length v) ≡ b → sets m at (take n v) ≡ sets m at v
    by true e =
        let z : n ≡ length m - at = f ∙ ap (λ (b : Bool). pick b (length m - at) (length v)) e in
        ap (λ (x : ℕ). sets m at (take x v)) z ∙ sets_front m at v (length m - at) (omega arith)
    by false e = ap (λ (x : ℕ). sets m at (take x v)) (f ∙ ap (λ (b : Bool). pick b (length m - at) (length v)) e) ∙ ap (sets m at) (take-length v)

pub capped_past : (n : ℕ) → envelope_most ≤ n → envelope_most ≡ capped n
capped_past n h = sym (ap (λ (b : Bool). pick b n envelope_most) (le-ltb n envelope_most h))

pub capped_min : (many at : ℕ) → at ≤ envelope_most → at + min many (envelope_most - at) ≡ capped (at + many)
capped_min many at h = by (ltb (at + many) envelope_most) refl
  where
    by : (b : Bool) → ltb (at + many) envelope_most ≡ b → at + min many (envelope_most - at) ≡ pick b (at + many) envelope_most
    by true q = let k = ltb-true (at + many) envelope_most q in omega arith
    by false q = let k = ltb-false (at + many) envelope_most q in omega arith

pub two_is : (n : ℕ) → n < 65536 → to_be_bytes w16 n ≡ length_bytes two_bytes n
two_is n h =
    let a : n / 256 % 256 ≡ n / 256 = omega arith in
    rw a refl

pub four_written : (n : ℕ) → n ≤ 4294967295 → to_be_bytes w32 n ≡ length_bytes four_bytes n
four_written n h =
    let a : n / 16777216 % 256 ≡ n / 16777216 = omega arith in
    rw a refl

-- four bytes are two and two
pub four_is : (n : ℕ) → length_bytes two_bytes (n / 65536) ++ length_bytes two_bytes (n % 65536) ≡ length_bytes four_bytes n
four_is n =
    let a : n / 65536 / 256 ≡ n / 16777216 = omega arith in
    let c : n % 65536 / 256 ≡ n / 256 % 256 = omega arith in
    let d : n % 65536 % 256 ≡ n % 256 = omega arith in
    rw (a, c, d) refl
