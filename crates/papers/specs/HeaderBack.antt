-- What the reader accepts of a whole header, the moves allow with the same rows, whatever it is told. By induction over the envelopes: each one's head is
-- the only one for its length.
use Rattle.std.specs.Prelude.{ℕ, zero, suc, ◌+◌, ◌-◌, ◌*◌, ◌/◌, ◌%◌, ◌≤◌, ◌<◌, List, [], ◌∷◌, ◌++◌, map, Bool, true, false, ◌≡◌, T, eqb, ltb, take, drop}
use Rattle.std.proofs.Common.{append_assoc, ap, sym, ◌∙◌, subst, arith, length-append, length-take, take-append-drop, eqb-true, le-leb, ltb-false}
use Rattle.std.proofs.Math.Path.{refl}
use Rattle.std.proofs.Math.ListN.{length}
use Rattle.std.proofs.lemmas.Bool.{lt-leb}
use Rattle.meaning.specs.Basics.{pick}
use Rattle.meaning.specs.Bytes.{high_first}
use Rattle.meaning.specs.Told.{Told}
use Rattle.meaning.specs.Reading.{Seen, Out, dry, fault, done, inside}
use Rattle.meaning.specs.Headers.{Placed, placed_row, placed, Answer, refused, accepted, behind, envelope_most, opening, start, ends, envelope, short_least, long_least, long_form, sized, Identifier, extension as further, base, neither, identifier_of, identified, seventeenth, header}
use Rattle.meaning.specs.Writing.{envelope_size, wrap}
use Rattle.meaning.specs.Grammar.{head_size}
use Rattle.laws_steps.specs.Logic.{are_bytes, first_byte, other_bytes, bytes_front, bytes_behind}
use Rattle.laws_steps.specs.Envelopes.{wrap_length}
use Rattle.papers.specs.Envelopes.{Inside, Envelopes, the_base, extension}
use Rattle.papers.specs.Reads.{head_and_inside}
use Rattle.papers.specs.ReadBack.{inside_went}

-- k envelopes at most, so no header where k is 0
abbrev pub Headed : ℕ → Told → ℕ → List ℕ → List Placed → Type 0
Headed zero told at bytes rows = ⊥
Headed (suc n) told at bytes rows = Envelopes told n at bytes rows

-- what stands behind an accepted answer: a header, and the payload
pub record Found (k : ℕ) (told : Told) (at : ℕ) (s : List ℕ) (p : ℕ) (rows : List Placed) : Type 0 where
  pub bytes : List ℕ
  pub payload : List ℕ
  pub parts : s ≡ bytes ++ payload
  pub place : p ≡ at + length bytes
  pub envelopes : Headed k told at bytes rows

abbrev pub Again : ℕ → Told → ℕ → List ℕ → Answer → Type 0
Again k told at s (refused refusal place) = Unit {0}
Again k told at s (accepted p rows) = Found k told at s p rows

-- one envelope: its inside t was read as the rows rs
placed_inside : (told : Told) (b : Bool) (at : ℕ) (t : List ℕ) (rs : List Seen) → T (are_bytes t) → inside told (start b) t ≡ done rs [] → Inside told b (at + head_size (length t)) t (map (placed (at + envelope_size (length t))) rs)
placed_inside told b at t rs u q =
    let place = at + head_size (length t) in
    let all : place + length t ≡ at + envelope_size (length t) = omega (arith, head_and_inside (length t)) in
    subst (λ (x : ℕ). Inside told b place t (map (placed x) rs)) all (inside_went told b place t rs u q)

base_again : (k : ℕ) (told : Told) (at : ℕ) (s t rest : List ℕ) (rs : List Seen) → envelope_size (length t) ≤ envelope_most → Inside told true (at + head_size (length t)) t (map (placed (at + envelope_size (length t))) rs) → s ≡ wrap true t ++ rest
    → Found (suc k) told at s (at + envelope_size (length t)) (placed_row (opening true) 0 at [] ∷ map (placed (at + envelope_size (length t))) rs)
base_again k told at s t rest rs small i qs = record { bytes = wrap true t; payload = rest; parts = qs; place = ap (λ (x : ℕ). at + x) (sym (wrap_length true t)); envelopes = the_base small i }

more_again : (k : ℕ) (told : Told) (at : ℕ) (t w : List ℕ) (rows table : List Placed) → envelope_size (length t) ≤ envelope_most → Inside told false (at + head_size (length t)) t rows → Headed k told (at + envelope_size (length t)) w table
    → Headed (suc k) told at (wrap false t ++ w) (placed_row (opening false) 0 at [] ∷ (rows ++ table))
more_again zero told at t w rows table small i h = absurd h
more_again (suc k) told at t w rows table small i h = extension small i h

next_again : (k : ℕ) (told : Told) (at : ℕ) (s t rest : List ℕ) (rs : List Seen) (a : Answer) → envelope_size (length t) ≤ envelope_most → Inside told false (at + head_size (length t)) t (map (placed (at + envelope_size (length t))) rs) → s ≡ wrap false t ++ rest
    → Again k told (at + envelope_size (length t)) rest a → Again (suc k) told at s (behind (placed_row (opening false) 0 at [] ∷ []) (behind (map (placed (at + envelope_size (length t))) rs) a))
next_again k told at s t rest rs (refused refusal place) small i qs w = tt
next_again k told at s t rest rs (accepted p ts) small i qs w =
    record {
      bytes = wrap false t ++ w.bytes;
      payload = w.payload;
      parts = qs ∙ ap (λ (x : List ℕ). wrap false t ++ x) w.parts ∙ sym (append_assoc (wrap false t) w.bytes w.payload);
      place = omega (arith, w.place, length-append (wrap false t) w.bytes, wrap_length false t);
      envelopes = more_again k told at t w.bytes (map (placed (at + envelope_size (length t))) rs) ts small i w.envelopes;
    }

abbrev Ih : ℕ → Told → Type 0
Ih k told = (at : ℕ) (s : List ℕ) → T (are_bytes s) → Again k told at s (header k told at s)

-- the inside was read to its end
ends_done : (k : ℕ) (told : Told) (b : Bool) (at : ℕ) (s t rest : List ℕ) (rs : List Seen) → Ih k told → T (are_bytes rest) → envelope_size (length t) ≤ envelope_most
    → Inside told b (at + head_size (length t)) t (map (placed (at + envelope_size (length t))) rs) → s ≡ wrap b t ++ rest
    → Again (suc k) told at s (behind (placed_row (opening b) 0 at [] ∷ []) (ends b (at + envelope_size (length t)) rest (header k told) (done rs [])))
ends_done k told true at s t rest rs ih tr small i qs = base_again k told at s t rest rs small i qs
ends_done k told false at s t rest rs ih tr small i qs =
    let n = envelope_size (length t) in
    next_again k told at s t rest rs (header k told (at + n) rest) small i qs (ih (at + n) rest tr)

ends_again : (k : ℕ) (told : Told) (b : Bool) (at : ℕ) (s t rest : List ℕ) (o : Out) → Ih k told → T (are_bytes t) → T (are_bytes rest) → envelope_size (length t) ≤ envelope_most → s ≡ wrap b t ++ rest → inside told (start b) t ≡ o
    → Again (suc k) told at s (behind (placed_row (opening b) 0 at [] ∷ []) (ends b (at + envelope_size (length t)) rest (header k told) o))
ends_again k told b at s t rest dry ih bt br small qs q = tt
ends_again k told b at s t rest (fault refusal left) ih bt br small qs q = tt
ends_again k told b at s t rest (done rs (c ∷ v)) ih bt br small qs q = tt
ends_again k told b at s t rest (done rs []) ih bt br small qs q =
    ends_done k told b at s t rest rs ih br small (placed_inside told b at t rs bt q) qs

-- a head of `head` bytes with the length n is the one that the writer gives
abbrev Heads : Bool → List ℕ → List ℕ → ℕ → ℕ → ℕ → Type 0
Heads b s u least head n = least ≤ n → n ≤ envelope_most → (t rest : List ℕ) → u ≡ t ++ rest → length t ≡ n - head → (s ≡ wrap b t ++ rest) × (envelope_size (length t) ≡ n)

module _ (k : ℕ) (told : Told) (b : Bool) (at : ℕ) (s u : List ℕ) (least head n : ℕ) (ih : Ih k told) (bu : T (are_bytes u)) (h : Heads b s u least head n) where
  abbrev read_of : Answer
  read_of = behind (placed_row (opening b) 0 at [] ∷ []) (ends b (at + n) (drop (n - head) u) (header k told) (inside told (start b) (take (n - head) u)))

  envelope_whole : least ≤ n → n ≤ envelope_most → n ≤ head + length u → Again (suc k) told at s read_of
  envelope_whole lo hi all =
      let t = take (n - head) u in
      let rest = drop (n - head) u in
      let c : u ≡ t ++ rest = sym (take-append-drop (n - head) u) in
      let bs : T (are_bytes (t ++ rest)) = subst (λ (x : List ℕ). T (are_bytes x)) c bu in
      let (qs, qn) = h lo hi t rest c (omega (arith, length-take (n - head) u)) in
      let small : envelope_size (length t) ≤ envelope_most = omega arith in
      subst (λ (x : ℕ). Again (suc k) told at s (behind (placed_row (opening b) 0 at [] ∷ []) (ends b (at + x) rest (header k told) (inside told (start b) t)))) qn
      (ends_again k told b at s t rest (inside told (start b) t) ih (bytes_front t rest bs) (bytes_behind t rest bs) small qs refl)

  envelope_picks : (x y z : Bool) → ltb n least ≡ x → ltb envelope_most n ≡ y → ltb (head + length u) n ≡ z
      → Again (suc k) told at s (pick x (refused 4 (at + 1)) (pick y (refused 5 (at + 1)) (pick z (refused 2 (at + head + length u)) read_of)))
  envelope_picks true y z p q r = tt
  envelope_picks false true z p q r = tt
  envelope_picks false false true p q r = tt
  envelope_picks false false false p q r = envelope_whole (ltb-false n least p) (ltb-false envelope_most n q) (ltb-false (head + length u) n r)

  envelope_again : Again (suc k) told at s (envelope told b least at head n u (header k told))
  unfolding envelope
  envelope_again = envelope_picks (ltb n least) (ltb envelope_most n) (ltb (head + length u) n) refl refl refl

-- the two forms of the length
short_heads : (b : Bool) (i x y : ℕ) (u : List ℕ) (n : ℕ) → i ≡ pick b 0xfe 0xfd → x < 256 → y < 256 → n ≡ 256 * x + y → Heads b (i ∷ x ∷ y ∷ u) u short_least 3 n
short_heads b i x y u n qi hx hy qn lo hi t rest qu ql =
    let m = 3 + length t in
    let h : m ≤ 65535 = omega arith in
    let e₀ : m / 256 ≡ x = omega arith in
    let e₁ : m % 256 ≡ y = omega arith in
    let e₂ : m ≡ n = omega arith in
    (rw (le-leb m 65535 h, qu, qi) (rw (e₀, e₁) refl), rw (le-leb m 65535 h) e₂)

long_heads : (b : Bool) (i x y p q r d : ℕ) (u : List ℕ) (n : ℕ) → i ≡ pick b 0xfe 0xfd → x ≡ 0 → y ≡ 0 → p < 256 → q < 256 → r < 256 → d < 256 → n ≡ 16777216 * p + 65536 * q + 256 * r + d
    → Heads b (i ∷ x ∷ y ∷ p ∷ q ∷ r ∷ d ∷ u) u long_least 7 n
long_heads b i x y p q r d u n qi qx qy hp hq hr hd qn lo hi t rest qu ql =
    let m = 7 + length t in
    let h : 65535 < 3 + length t = omega arith in
    let e₀ : m / 16777216 ≡ p = omega arith in
    let e₁ : m / 65536 % 256 ≡ q = omega arith in
    let e₂ : m / 256 % 256 ≡ r = omega arith in
    let e₃ : m % 256 ≡ d = omega arith in
    let e₄ : m ≡ n = omega arith in
    (rw (lt-leb (3 + length t) 65535 h, qu, qi, qx, qy) (rw (e₀, e₁, e₂, e₃) refl), rw (lt-leb (3 + length t) 65535 h) e₄)

long_again : (k : ℕ) (told : Told) (b : Bool) (at i x y all : ℕ) (u : List ℕ) → Ih k told → T (are_bytes u) → i ≡ pick b 0xfe 0xfd → x ≡ 0 → y ≡ 0
    → Again (suc k) told at (i ∷ x ∷ y ∷ u) (long_form told b at all (header k told) (high_first 4 0 u))
unfolding high_first
long_again k told b at i x y all [] ih t qi qx qy = tt
long_again k told b at i x y all (p ∷ []) ih t qi qx qy = tt
long_again k told b at i x y all (p ∷ (q ∷ [])) ih t qi qx qy = tt
long_again k told b at i x y all (p ∷ (q ∷ (r ∷ []))) ih t qi qx qy = tt
long_again k told b at i x y all (p ∷ (q ∷ (r ∷ (d ∷ u)))) ih t qi qx qy =
    let t₁ = other_bytes p (q ∷ (r ∷ (d ∷ u))) t in let t₂ = other_bytes q (r ∷ (d ∷ u)) t₁ in let t₃ = other_bytes r (d ∷ u) t₂ in
    let n : ℕ = 256 * (256 * (256 * (256 * 0 + p) + q) + r) + d in
    envelope_again k told b at (i ∷ x ∷ y ∷ p ∷ q ∷ r ∷ d ∷ u) u long_least 7 n ih (other_bytes d u t₃)
    (long_heads b i x y p q r d u n qi qx qy (first_byte p (q ∷ (r ∷ (d ∷ u))) t) (first_byte q (r ∷ (d ∷ u)) t₁) (first_byte r (d ∷ u) t₂) (first_byte d u t₃) (omega arith))

sized_pick : (k : ℕ) (told : Told) (b : Bool) (at i x y all : ℕ) (u : List ℕ) (z : Bool) → Ih k told → T (are_bytes u) → i ≡ pick b 0xfe 0xfd → x < 256 → y < 256 → eqb (256 * (256 * 0 + x) + y) 0 ≡ z
    → Again (suc k) told at (i ∷ x ∷ y ∷ u) (pick z (long_form told b at all (header k told) (high_first 4 0 u)) (envelope told b short_least at 3 (256 * (256 * 0 + x) + y) u (header k told)))
sized_pick k told b at i x y all u true ih t qi hx hy q =
    let c = eqb-true (256 * (256 * 0 + x) + y) 0 q in
    long_again k told b at i x y all u ih t qi (omega arith) (omega arith)
sized_pick k told b at i x y all u false ih t qi hx hy q =
    let n : ℕ = 256 * (256 * 0 + x) + y in
    envelope_again k told b at (i ∷ x ∷ y ∷ u) u short_least 3 n ih t (short_heads b i x y u n qi hx hy (omega arith))

sized_again : (k : ℕ) (told : Told) (b : Bool) (at i all : ℕ) (s : List ℕ) → Ih k told → T (are_bytes s) → i ≡ pick b 0xfe 0xfd → Again (suc k) told at (i ∷ s) (sized told b at all (header k told) (high_first 2 0 s))
unfolding high_first
sized_again k told b at i all [] ih t qi = tt
sized_again k told b at i all (x ∷ []) ih t qi = tt
sized_again k told b at i all (x ∷ (y ∷ u)) ih t qi =
    let t₁ = other_bytes x (y ∷ u) t in
    sized_pick k told b at i x y all u (eqb (256 * (256 * 0 + x) + y) 0) ih (other_bytes y u t₁) qi (first_byte x (y ∷ u) t) (first_byte y u t₁) refl

abbrev Identifies : ℕ → Identifier → Type 0
Identifies b further = b ≡ 0xfd
Identifies b base = b ≡ 0xfe
Identifies b neither = Unit {0}

identifies : (b : ℕ) (x y : Bool) → eqb b 0xfd ≡ x → eqb b 0xfe ≡ y → Identifies b (pick x further (pick y base neither))
identifies b true y p q = eqb-true b 0xfd p
identifies b false true p q = eqb-true b 0xfe q
identifies b false false p q = tt

identified_again : (k : ℕ) (told : Told) (at b : ℕ) (s : List ℕ) (i : Identifier) → Ih k told → T (are_bytes s) → Identifies b i → Again (suc k) told at (b ∷ s) (identified told at s (header k told) i)
identified_again k told at b s further ih t q = sized_again k told false at b (suc (length s)) s ih t q
identified_again k told at b s base ih t q = sized_again k told true at b (suc (length s)) s ih t q
identified_again k told at b s neither ih t q = tt

seventeenth_again : (told : Told) (at : ℕ) (s : List ℕ) (i : Identifier) → Again 0 told at s (seventeenth at i)
seventeenth_again told at s further = tt
seventeenth_again told at s base = tt
seventeenth_again told at s neither = tt

pub header_found : (k : ℕ) (told : Told) (at : ℕ) (s : List ℕ) → T (are_bytes s) → Again k told at s (header k told at s)
unfolding header
header_found zero told at [] t = tt
header_found zero told at (b ∷ s) t = seventeenth_again told at (b ∷ s) (identifier_of b)
header_found (suc k) told at [] t = tt
header_found (suc k) told at (b ∷ s) t = identified_again k told at b s (identifier_of b) (header_found k told) (other_bytes b s t) (identifies b (eqb b 0xfd) (eqb b 0xfe) refl refl)
