-- Whole headers: `Writes e n table w`: a table of n envelopes is written as the bytes w. Such bytes, with any payload behind them,
-- are read as that table; and by the other edition as it, or refused with 7 or 9. By induction over the envelopes.
use Rattle.std.specs.Prelude.{ℕ, zero, suc, ◌+◌, ◌-◌, ◌≤◌, ◌<◌, List, [], ◌∷◌, ◌++◌, map, Bool, true, false, ◌&&◌, ◌||◌, ◌⊎◌, ◌≡◌, T, eqb}
use Rattle.std.proofs.Common.{append_assoc, inl, inr, ap, sym, ◌∙◌, subst}
use Rattle.std.proofs.Math.Path.{refl}
use native.Mathlib.Omega.{arith}
use Rattle.std.proofs.Math.ListN.{length, length-append}
use Rattle.std.proofs.Math.Seq.{take-append_seam, drop-append_seam}
use borrow.Author.Tests.{ne_eqb, le-ltb, leb-true, leb-false}
use Rattle.meaning.specs.Basics.{pick}
use Rattle.meaning.specs.Bytes.{counted, high_first, two_bytes, four_bytes, length_bytes}
use Rattle.meaning.specs.Told.{Edition, Told, told}
use Rattle.meaning.specs.Editions.{State}
use Rattle.meaning.specs.Reading.{Row, Seen, row_of, done, inside}
use Rattle.meaning.specs.Headers.{Placed, placed_row, placed, meant, Answer, refused, accepted, behind, envelope_most, opening, start, Onward, ends, envelope, short_least, long_least, sized, header}
use Rattle.meaning.specs.Writing.{fits, is_short, envelope_size, within_limit, envelope_length, wrap}
use Rattle.laws_steps.specs.Values.{length_in}
use Rattle.laws_steps.specs.WrittenRead.{fit_all, ReadsAll, all_written_read}
use Rattle.laws_steps.specs.PlainRows.{other, is_plain, all_plain}
use Rattle.laws_steps.specs.Clashes.{Refuses}
use Rattle.laws_steps.specs.Crossing.{CrossAll, all_crosses}

-- an envelope's own row
abbrev pub opening_row : Bool → Row
opening_row b = record { kind = opening b; level = 0; view = [] }

-- a table of n envelopes, its rows and its bytes
pub data Writes (e : Edition) : ℕ → List Row → List ℕ → Type 0 where
  the_base : (rows : List Row) (st : State) (bs : List ℕ) → fit_all e rows (start true) ≡ fits st bs → within_limit (length bs) ≡ true → Writes e 1 (opening_row true ∷ rows) (wrap true bs)
  before : (rows table : List Row) (st : State) (bs w : List ℕ) (n : ℕ) → fit_all e rows (start false) ≡ fits st bs → within_limit (length bs) ≡ true → Writes e n table w
      → Writes e (suc n) (opening_row false ∷ (rows ++ table)) (wrap false bs ++ w)

-- One envelope, read

length_zero : (t : List ℕ) → high_first 2 0 (0 ∷ 0 ∷ t) ≡ counted 0 t
unfolding high_first
length_zero t = refl

module _ (told : Told) (b : Bool) (bs rest : List ℕ) (at : ℕ) (more : Onward) where
  -- what the reader makes of an envelope of n bytes from `at` on
  abbrev Opened : ℕ → Answer
  Opened n = behind (placed_row (opening b) 0 at [] ∷ []) (ends b (at + n) rest more (inside told (start b) bs))

  envelope_at_lem : (least head n : ℕ) → n ≡ head + length bs → least ≤ n → n ≤ envelope_most → envelope told b least at head n (bs ++ rest) more ≡ Opened n
  unfolding envelope
  envelope_at_lem least head n q lo hi =
      let c : n - head ≡ length bs = omega arith in
      rw (le-ltb n least lo, le-ltb envelope_most n hi, le-ltb (head + length (bs ++ rest)) n (omega (arith, length-append bs rest)), c, take-append_seam bs rest, drop-append_seam bs rest) refl

  sized_at : (all : ℕ) (z : Bool) → is_short (length bs) ≡ z → envelope_size (length bs) ≤ envelope_most
      → sized told b at all more (high_first 2 0 (pick z (length_bytes two_bytes (3 + length bs)) (0 ∷ 0 ∷ length_bytes four_bytes (7 + length bs)) ++ (bs ++ rest))) ≡ Opened (pick z (3 + length bs) (7 + length bs))
  sized_at all true q hi =
      let h : 3 + length bs ≤ 65535 = leb-true (3 + length bs) 65535 q in
      rw (length_in two_bytes (3 + length bs) (bs ++ rest) (omega arith), ne_eqb (3 + length bs) 0 (λ x. omega arith)) (envelope_at_lem short_least 3 (3 + length bs) refl (omega arith) (omega arith))
  sized_at all false q hi =
      let h : 65535 < 3 + length bs = leb-false (3 + length bs) 65535 q in
      let k : 7 + length bs ≤ envelope_most = rw q at hi in
      rw (length_zero (length_bytes four_bytes (7 + length bs) ++ (bs ++ rest)), length_in four_bytes (7 + length bs) (bs ++ rest) (omega arith)) (envelope_at_lem long_least 7 (7 + length bs) refl (omega arith) k)

pub limit_size : (n : ℕ) → within_limit n ≡ true → envelope_size n ≤ envelope_most
limit_size n q = leb-true (envelope_size n) envelope_most q

pub envelope_read : (n : ℕ) (told : Told) (b : Bool) (bs rest : List ℕ) (at : ℕ) → within_limit (length bs) ≡ true → header (suc n) told at (wrap b bs ++ rest) ≡ Opened told b bs rest at (header n told) (envelope_size (length bs))
unfolding header
envelope_read n told true bs rest at hi =
    rw (append_assoc (envelope_length (length bs)) bs rest)
    (sized_at told true bs rest at (header n told) (suc (length (envelope_length (length bs) ++ (bs ++ rest)))) (is_short (length bs)) refl (limit_size (length bs) hi))
envelope_read n told false bs rest at hi =
    rw (append_assoc (envelope_length (length bs)) bs rest)
    (sized_at told false bs rest at (header n told) (suc (length (envelope_length (length bs) ++ (bs ++ rest)))) (is_short (length bs)) refl (limit_size (length bs) hi))

wrap_size : (b : Bool) (bs : List ℕ) (z : Bool) → is_short (length bs) ≡ z
    → length (pick b 0xfe 0xfd ∷ (pick z (length_bytes two_bytes (3 + length bs)) (0 ∷ 0 ∷ length_bytes four_bytes (7 + length bs)) ++ bs)) ≡ pick z (3 + length bs) (7 + length bs)
wrap_size b bs true q = omega arith
wrap_size b bs false q = omega arith

pub wrap_length : (b : Bool) (bs : List ℕ) → length (wrap b bs) ≡ envelope_size (length bs)
wrap_length b bs = wrap_size b bs (is_short (length bs)) refl

pub placed_meant : (end : ℕ) (rs : List Seen) → map meant (map (placed end) rs) ≡ map row_of rs
placed_meant end [] = refl
placed_meant end (r ∷ rs) = ap (λ (x : List Row). row_of r ∷ x) (placed_meant end rs)

pub map_append : (xs ys : List Placed) → map meant (xs ++ ys) ≡ map meant xs ++ map meant ys
map_append [] ys = refl
map_append (x ∷ xs) ys = ap (λ (l : List Row). meant x ∷ l) (map_append xs ys)

-- Written, then read

-- the rows do not depend on the payload
abbrev pub ReadsHeader : ℕ → Told → ℕ → List ℕ → List Row → Type 0
ReadsHeader n told at w table = (rows : List Placed) × ((payload : List ℕ) → header n told at (w ++ payload) ≡ accepted (at + length w) rows) × (map meant rows ≡ table)

abbrev pub rows_of : Bool → ℕ → ℕ → List Seen → List Placed
rows_of b at n rs = placed_row (opening b) 0 at [] ∷ map (placed (at + n)) rs

pub base_step : (n : ℕ) (told : Told) (at : ℕ) (bs payload : List ℕ) (rs : List Seen) → within_limit (length bs) ≡ true → inside told (start true) bs ≡ done rs []
    → header (suc n) told at (wrap true bs ++ payload) ≡ accepted (at + length (wrap true bs)) (rows_of true at (envelope_size (length bs)) rs)
base_step n told at bs payload rs hi q = envelope_read n told true bs payload at hi ∙ rw (q, wrap_length true bs) refl

base_read : (n : ℕ) (told : Told) (at : ℕ) (rows : List Row) (bs : List ℕ) → within_limit (length bs) ≡ true → ReadsAll told (start true) bs rows → ReadsHeader (suc n) told at (wrap true bs) (opening_row true ∷ rows)
base_read n told at rows bs hi (rs, q, m) =
    let k = envelope_size (length bs) in
    (rows_of true at k rs, λ payload. base_step n told at bs payload rs hi q, ap (λ (x : List Row). opening_row true ∷ x) (placed_meant (at + k) rs ∙ m))

-- behind an extension the reader goes on
pub extension_step : (n : ℕ) (told : Told) (at : ℕ) (bs rest : List ℕ) (rs : List Seen) → within_limit (length bs) ≡ true → inside told (start false) bs ≡ done rs []
    → header (suc n) told at (wrap false bs ++ rest) ≡ behind (rows_of false at (envelope_size (length bs)) rs) (header n told (at + envelope_size (length bs)) rest)
extension_step n told at bs rest rs hi q = envelope_read n told false bs rest at hi ∙ rw q (twice (header n told (at + envelope_size (length bs)) rest))
  where
    twice : (a : Answer) → behind (placed_row (opening false) 0 at [] ∷ []) (behind (map (placed (at + envelope_size (length bs))) rs) a) ≡ behind (rows_of false at (envelope_size (length bs)) rs) a
    twice (refused refusal place) = refl
    twice (accepted place ts) = refl

extension_read : (n : ℕ) (told : Told) (at : ℕ) (rows table : List Row) (bs w : List ℕ) → within_limit (length bs) ≡ true → ReadsAll told (start false) bs rows → ((at : ℕ) → ReadsHeader n told at w table)
    → ReadsHeader (suc n) told at (wrap false bs ++ w) (opening_row false ∷ (rows ++ table))
extension_read n told at rows table bs w hi (rs, q, m) ih =
    let k = envelope_size (length bs) in
    let (ts, f, means) = ih (at + k) in
    let p : at + k + length w ≡ at + length (wrap false bs ++ w) = omega (arith, length-append (wrap false bs) w, wrap_length false bs) in (
      rows_of false at k rs ++ ts,
      λ payload. ap (header (suc n) told at) (append_assoc (wrap false bs) w payload) ∙ extension_step n told at bs (w ++ payload) rs hi q ∙ ap (behind (rows_of false at k rs)) (f payload)
          ∙ ap (λ (x : ℕ). accepted x (rows_of false at k rs ++ ts)) p,
      ap (λ (x : List Row). opening_row false ∷ x) (map_append (map (placed (at + k)) rs) ts ∙ rw (placed_meant (at + k) rs, m, means) refl),
    )

pub header_read : (told : Told) {n : ℕ} {table : List Row} {w : List ℕ} → Writes told.edition n table w → (k : ℕ) → n ≤ k → (at : ℕ) → ReadsHeader k told at w table
header_read told (the_base rows st bs q hi) zero h at = absurd (omega arith)
header_read told (the_base rows st bs q hi) (suc k) h at = base_read k told at rows bs hi (all_written_read told rows (start true) st bs q)
header_read told (before rows table st bs w n q hi more) zero h at = absurd (omega arith)
header_read told (before rows table st bs w n q hi more) (suc k) h at =
    extension_read k told at rows table bs w hi (all_written_read told rows (start false) st bs q) (λ x. header_read told more k (omega arith) x)

-- Written under one edition, read under the other

abbrev pub RefusesHeader : ℕ → Told → ℕ → List ℕ → Type 0
RefusesHeader n told at s = (refusal : ℕ) × (place : ℕ) × (header n told at s ≡ refused refusal place) × T (eqb refusal 7 || eqb refusal 9)

abbrev pub CrossHeader : ℕ → Edition → ℕ → List ℕ → List Row → Type 0
CrossHeader n e at w table =
    ((all_plain table ≡ true) × ReadsHeader n (told (other e)) at w table) ⊎ ((all_plain table ≡ false) × ((payload : List ℕ) → RefusesHeader n (told (other e)) at (w ++ payload)))

refused_here : (n : ℕ) (told : Told) (b : Bool) (at : ℕ) (bs rest : List ℕ) → within_limit (length bs) ≡ true → Refuses told (start b) bs → RefusesHeader (suc n) told at (wrap b bs ++ rest)
refused_here n told b at bs rest hi (refusal, left, q, t) = (refusal, at + envelope_size (length bs) - left, envelope_read n told b bs rest at hi ∙ rw q refl, t)

opening_plain : (b : Bool) → is_plain (opening_row b) ≡ true
opening_plain true = refl
opening_plain false = refl

pub plain_behind : (b : Bool) (rows : List Row) → all_plain (opening_row b ∷ rows) ≡ all_plain rows
plain_behind b rows = rw (opening_plain b) refl

pub plain_append : (xs ys : List Row) → all_plain (xs ++ ys) ≡ all_plain xs && all_plain ys
plain_append [] ys = refl
plain_append (x ∷ xs) ys = at (is_plain x) (plain_append xs ys)
  where
    at : (b : Bool) → all_plain (xs ++ ys) ≡ all_plain xs && all_plain ys → b && all_plain (xs ++ ys) ≡ b && all_plain xs && all_plain ys
    at true q = q
    at false q = refl

base_crosses : (n : ℕ) (e : Edition) (at : ℕ) (rows : List Row) (bs : List ℕ) → within_limit (length bs) ≡ true → CrossAll e rows (start true) bs → CrossHeader (suc n) e at (wrap true bs) (opening_row true ∷ rows)
base_crosses n e at rows bs hi (inl (a, r)) = inl (plain_behind true rows ∙ a, base_read n (told (other e)) at rows bs hi r)
base_crosses n e at rows bs hi (inr (a, r)) = inr (plain_behind true rows ∙ a, λ payload. refused_here n (told (other e)) true at bs payload hi r)

module _ (n : ℕ) (e : Edition) (at : ℕ) (rows table : List Row) (bs w : List ℕ) (hi : within_limit (length bs) ≡ true) where
  plain_both : {x y : Bool} → all_plain rows ≡ x → all_plain table ≡ y → all_plain (opening_row false ∷ (rows ++ table)) ≡ x && y
  plain_both p q = plain_behind false (rows ++ table) ∙ plain_append rows table ∙ rw (p, q) refl

  refused_later : (rs : List Seen) → inside (told (other e)) (start false) bs ≡ done rs [] → (payload : List ℕ) → RefusesHeader n (told (other e)) (at + envelope_size (length bs)) (w ++ payload) → RefusesHeader (suc n) (told (other e)) at ((wrap false bs ++ w) ++ payload)
  refused_later rs q payload (refusal, place, r, t) =
      (refusal, place, ap (header (suc n) (told (other e)) at) (append_assoc (wrap false bs) w payload) ∙ extension_step n (told (other e)) at bs (w ++ payload) rs hi q ∙ rw r refl, t)

  crosses_on : all_plain rows ≡ true → ReadsAll (told (other e)) (start false) bs rows → ((x : ℕ) → CrossHeader n e x w table) → (b : Bool) → all_plain table ≡ b → CrossHeader (suc n) e at (wrap false bs ++ w) (opening_row false ∷ (rows ++ table))
  crosses_on a r ih true p = inl (plain_both a p, extension_read n (told (other e)) at rows table bs w hi r (λ x. reads x (ih x)))
    where
      reads : (x : ℕ) → CrossHeader n e x w table → ReadsHeader n (told (other e)) x w table
      reads x (inl (c, h)) = h
      reads x (inr (c, h)) = let z : true ≡ false = sym p ∙ c in let y : ◌≡◌ {A = ℕ} 0 1 = cc z in absurd (omega arith)
  crosses_on a (rs, q, m) ih false p = inr (plain_both a p, λ payload. refused_later rs q payload (lost (at + envelope_size (length bs)) (ih (at + envelope_size (length bs))) payload))
    where
      lost : (x : ℕ) → CrossHeader n e x w table → (payload : List ℕ) → RefusesHeader n (told (other e)) x (w ++ payload)
      lost x (inl (c, h)) = let z : true ≡ false = sym c ∙ p in let y : ◌≡◌ {A = ℕ} 0 1 = cc z in absurd (omega arith)
      lost x (inr (c, h)) = h

  extension_crosses : CrossAll e rows (start false) bs → ((x : ℕ) → CrossHeader n e x w table) → CrossHeader (suc n) e at (wrap false bs ++ w) (opening_row false ∷ (rows ++ table))
  extension_crosses (inl (a, r)) ih = crosses_on a r ih (all_plain table) refl
  extension_crosses (inr (a, r)) ih =
      inr (plain_both a refl, λ payload. subst (RefusesHeader (suc n) (told (other e)) at) (sym (append_assoc (wrap false bs) w payload)) (refused_here n (told (other e)) false at bs (w ++ payload) hi r))

pub header_crosses : (e : Edition) {n : ℕ} {table : List Row} {w : List ℕ} → Writes e n table w → (k : ℕ) → n ≤ k → (at : ℕ) → CrossHeader k e at w table
header_crosses e (the_base rows st bs q hi) zero h at = absurd (omega arith)
header_crosses e (the_base rows st bs q hi) (suc k) h at = base_crosses k e at rows bs hi (all_crosses e rows (start true) st bs q)
header_crosses e (before rows table st bs w n q hi more) zero h at = absurd (omega arith)
header_crosses e (before rows table st bs w n q hi more) (suc k) h at =
    extension_crosses k e at rows table bs w hi (all_crosses e rows (start false) st bs q) (λ x. header_crosses e more k (omega arith) x)
