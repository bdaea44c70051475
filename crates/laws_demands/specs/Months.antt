-- Order 13, over the definitions: "The figures equal those worked out from the list of messages added", from the empty ones on; figures of two lists join to those of
-- one behind the other; accepted, refused and unknown are all that were added.
use Rattle.std.specs.Prelude.{ℕ, zero, suc, ◌+◌, ◌*◌, ◌≤◌, ◌<◌, List, [], ◌∷◌, ◌++◌, Bool, true, ◌&&◌, ◌||◌, not, ◌≡◌, T, eqb, leb, length, take, drop, get_or}
use Rattle.std.proofs.Math.Bool.{false}
use Rattle.std.proofs.Math.Path.{refl, sym}
use Rattle.std.proofs.Common.{ap, ◌∙◌, arith, eqb→eq, leb→le, length-drop}
use borrow.Author.Tests.{eqb-true, eqb-false, eq-eqb, leb-true, le-leb, lt-ltb, le-ltb}
use Rattle.std.proofs.Math.Dec.{ltb}
use Rattle.meaning.specs.Basics.{every}
use Rattle.meaning.specs.Told.{Edition, B, D, Label, known, unknown, label_of, strict, told}
use Rattle.meaning.specs.Bytes.{shortest_only}
use Rattle.meaning.specs.Headers.{Answer, refused, accepted, header, envelope_most, envelopes_most, labelled, read_by, read}
use Rattle.meaning.specs.Cases.{up_from}
use Rattle.meaning.specs.Plain.{outcome}
use Rattle.meaning.specs.Figures.{Message, Entry, apart, taken, turned, entry_in, entry_by, entry_of, total, numbers, figures_of, adds_of, sums, sum_of, messages_in, messages_most, edition_width, figures_borrowed, edition_fits, are_figures, takes_more, add_answer, add_figures, joinable, join_answer, join_figures}
use Rattle.laws_steps.specs.Logic.{are_bytes, left_of, right_of, both_hold}
use Rattle.laws_tables.specs.Refusals.{refused_shape}
use Rattle.laws_tables.specs.AllTabled.{accepted_tabled}
use Rattle.laws_tables.specs.Wording.{tabled_split, words_count}
use Rattle.laws_tables.specs.EnvelopeCounts.{place_most}

-- Figures of lists put together

total_append : (figure : Entry → ℕ) (ms ks : List Message) → total figure (ms ++ ks) ≡ total figure ms + total figure ks
unfolding total
total_append figure [] ks = omega arith
total_append figure (m ∷ ms) ks = ap (λ (n : ℕ). figure (entry_of m) + n) (total_append figure ms ks) ∙ omega arith

-- every number a sum
numbers_sum : (of left right : (Entry → ℕ) → ℕ) → ((figure : Entry → ℕ) → of figure ≡ left figure + right figure) → numbers of ≡ sums (numbers left) (numbers right)
unfolding sums
numbers_sum of left right h = λ i. numbers (λ figure. h figure i)

pub figures_joined : (ms ks : List Message) → figures_of (ms ++ ks) ≡ sums (figures_of ms) (figures_of ks)
unfolding figures_of
figures_joined ms ks = numbers_sum (λ figure. total figure (ms ++ ks)) (λ figure. total figure ms) (λ figure. total figure ks) (λ figure. total_append figure ms ks)

-- .. in either order
pub joined_either : (ms ks : List Message) → sums (figures_of ms) (figures_of ks) ≡ sums (figures_of ks) (figures_of ms)
unfolding figures_of
joined_either ms ks =
    sym (numbers_sum (λ figure. total figure ms + total figure ks) (λ figure. total figure ms) (λ figure. total figure ks) (λ figure. refl))
    ∙ numbers_sum (λ figure. total figure ms + total figure ks) (λ figure. total figure ks) (λ figure. total figure ms) (λ figure. omega arith)

pub figures_with : (ms : List Message) (m : Message) → figures_of (ms ++ (m ∷ [])) ≡ sums (figures_of ms) (adds_of (entry_of m))
unfolding figures_of adds_of total
figures_with ms m = numbers_sum (λ figure. total figure (ms ++ (m ∷ []))) (λ figure. total figure ms) (λ figure. figure (entry_of m)) (λ figure. total_append figure ms (m ∷ []) ∙ omega arith)

T_true : (b : Bool) → T b → b ≡ true
T_true true t = refl
T_true false t = absurd t

-- How many messages figures are of

take_sums : (n : ℕ) (xs ys : List ℕ) → length xs ≡ length ys → sum_of (take n (sums xs ys)) ≡ sum_of (take n xs) + sum_of (take n ys)
unfolding sums sum_of
take_sums zero xs ys l = omega arith
take_sums (suc n) [] [] l = omega arith
take_sums (suc n) [] (y ∷ ys) l = absurd (omega arith)
take_sums (suc n) (x ∷ xs) [] l = absurd (omega arith)
take_sums (suc n) (x ∷ xs) (y ∷ ys) l = let r = take_sums n xs ys (omega arith) in omega (arith, r)

drop_sums : (n : ℕ) (xs ys : List ℕ) → length xs ≡ length ys → drop n (sums xs ys) ≡ sums (drop n xs) (drop n ys)
unfolding sums
drop_sums zero xs ys l = refl
drop_sums (suc n) [] [] l = refl
drop_sums (suc n) [] (y ∷ ys) l = absurd (omega arith)
drop_sums (suc n) (x ∷ xs) [] l = absurd (omega arith)
drop_sums (suc n) (x ∷ xs) (y ∷ ys) l = drop_sums n xs ys (omega arith)

at_sums : (i : ℕ) (xs ys : List ℕ) → length xs ≡ length ys → get_or (sums xs ys) i 0 ≡ get_or xs i 0 + get_or ys i 0
unfolding sums
at_sums i [] [] l = omega arith
at_sums i [] (y ∷ ys) l = absurd (omega arith)
at_sums i (x ∷ xs) [] l = absurd (omega arith)
at_sums zero (x ∷ xs) (y ∷ ys) l = refl
at_sums (suc i) (x ∷ xs) (y ∷ ys) l = at_sums i xs ys (omega arith)

length_drops : (n : ℕ) (xs ys : List ℕ) → length xs ≡ length ys → length (drop n xs) ≡ length (drop n ys)
length_drops n xs ys l = length-drop n xs ∙ (rw l refl) ∙ sym (length-drop n ys)

messages_sums : (xs ys : List ℕ) → length xs ≡ length ys → messages_in (sums xs ys) ≡ messages_in xs + messages_in ys
unfolding messages_in
messages_sums xs ys l =
    let b = take_sums 13 xs ys l in
    let d = ap (λ (z : List ℕ). sum_of (take 13 z)) (drop_sums edition_width xs ys l) ∙ take_sums 13 (drop edition_width xs) (drop edition_width ys) (length_drops edition_width xs ys l) in
    omega (arith, b, d, at_sums 30 xs ys l)

-- a refusal's number is between 2 and 13, and envelopes and bytes are no more than an accepted header can have
abbrev pub Sound : Entry → Type 0
Sound apart = Unit {0}
Sound (taken e envelopes bytes) = (envelopes ≤ envelopes_most) × (bytes ≤ envelopes_most * envelope_most)
Sound (turned e refusal) = (2 ≤ refusal) × (refusal ≤ 13)

abbrev counts_one : Edition → ℕ → Bool
counts_one e refusal = eqb (messages_in (adds_of (turned e refusal))) 1 && (edition_fits (adds_of (turned e refusal)) && edition_fits (drop edition_width (adds_of (turned e refusal))))

all_count : (e : Edition) → T (every (counts_one e) (up_from 2 12))
unfolding adds_of messages_in sum_of
all_count B = tt
all_count D = tt

each : (p : ℕ → Bool) (a n : ℕ) → T (every p (up_from a n)) → (r : ℕ) → a ≤ r → r < a + n → T (p r)
each p a zero t r h l = absurd (omega arith)
each p a (suc n) t r h l = by (eqb r a) refl (λ above. each p (suc a) n (right_of (p a) (every p (up_from (suc a) n)) t) r above (omega arith))
  where
    by : (z : Bool) → eqb r a ≡ z → (suc a ≤ r → T (p r)) → T (p r)
    by true q onward = rw (eqb-true r a q) (left_of (p a) (every p (up_from (suc a) n)) t)
    by false q onward = let other = eqb-false r a q in onward (omega arith)

counts_one_lem : (c : Entry) → Sound c → messages_in (adds_of c) ≡ 1
unfolding adds_of messages_in sum_of
counts_one_lem apart s = refl
counts_one_lem (taken B envelopes bytes) s = refl
counts_one_lem (taken D envelopes bytes) s = refl
counts_one_lem (turned e refusal) (least, most) =
    let t = each (counts_one e) 2 12 (all_count e) refusal least (omega arith) in
    eqb→eq (messages_in (adds_of (turned e refusal))) 1 (left_of (eqb (messages_in (adds_of (turned e refusal))) 1) (edition_fits (adds_of (turned e refusal)) && edition_fits (drop edition_width (adds_of (turned e refusal)))) t)

-- Figures of messages are figures

fits_sums : (xs ys : List ℕ) → length xs ≡ length ys → edition_fits xs ≡ true → edition_fits ys ≡ true → edition_fits (sums xs ys) ≡ true
fits_sums xs ys l p q =
    let (pe, pb) = both_hold (leb (get_or xs 13 0) (envelopes_most * get_or xs 0 0)) (leb (get_or xs 14 0) (envelopes_most * envelope_most * get_or xs 0 0)) p in
    let (qe, qb) = both_hold (leb (get_or ys 13 0) (envelopes_most * get_or ys 0 0)) (leb (get_or ys 14 0) (envelopes_most * envelope_most * get_or ys 0 0)) q in
    let xe = leb-true (get_or xs 13 0) (envelopes_most * get_or xs 0 0) pe in
    let xb = leb-true (get_or xs 14 0) (envelopes_most * envelope_most * get_or xs 0 0) pb in
    let ye = leb-true (get_or ys 13 0) (envelopes_most * get_or ys 0 0) qe in
    let yb = leb-true (get_or ys 14 0) (envelopes_most * envelope_most * get_or ys 0 0) qb in
    let first = at_sums 0 xs ys l in
    let e = le-leb (get_or (sums xs ys) 13 0) (envelopes_most * get_or (sums xs ys) 0 0) (omega (arith, xe, ye, first, at_sums 13 xs ys l)) in
    let b = le-leb (get_or (sums xs ys) 14 0) (envelopes_most * envelope_most * get_or (sums xs ys) 0 0) (omega (arith, xb, yb, first, at_sums 14 xs ys l)) in
    rw (e, b) refl

abbrev Fits : List ℕ → Type 0
Fits ns = (edition_fits ns ≡ true) × (edition_fits (drop edition_width ns) ≡ true)

adds_fit : (c : Entry) → Sound c → Fits (adds_of c)
unfolding adds_of
adds_fit apart s = (refl, refl)
adds_fit (taken B envelopes bytes) (few, short) = (rw (le-leb envelopes 16 few, le-leb bytes 16777216 short) refl, refl)
adds_fit (taken D envelopes bytes) (few, short) = (refl, rw (le-leb envelopes 16 few, le-leb bytes 16777216 short) refl)
adds_fit (turned e refusal) (least, most) =
    let t = each (counts_one e) 2 12 (all_count e) refusal least (omega arith) in
    let fits = right_of (eqb (messages_in (adds_of (turned e refusal))) 1) (edition_fits (adds_of (turned e refusal)) && edition_fits (drop edition_width (adds_of (turned e refusal)))) t in
    (T_true (edition_fits (adds_of (turned e refusal))) (left_of (edition_fits (adds_of (turned e refusal))) (edition_fits (drop edition_width (adds_of (turned e refusal)))) fits), T_true (edition_fits (drop edition_width (adds_of (turned e refusal)))) (right_of (edition_fits (adds_of (turned e refusal))) (edition_fits (drop edition_width (adds_of (turned e refusal)))) fits))

adds_long : (c : Entry) → length (adds_of c) ≡ figures_borrowed
unfolding adds_of
adds_long c = refl

figures_long : (ms : List Message) → length (figures_of ms) ≡ figures_borrowed
unfolding figures_of
figures_long ms = refl

first_of_all : (m : Message) (ms : List Message) → figures_of (m ∷ ms) ≡ sums (adds_of (entry_of m)) (figures_of ms)
unfolding figures_of adds_of total
first_of_all m ms = numbers_sum (λ figure. total figure (m ∷ ms)) (λ figure. figure (entry_of m)) (λ figure. total figure ms) (λ figure. refl)

-- every message is of bytes
abbrev pub are_messages : List Message → Bool
are_messages ms = every (λ m. are_bytes m.bytes) ms

entry_sound : (m : Message) → T (are_bytes m.bytes) → Sound (entry_of m)
unfolding entry_of read_by
entry_sound m t = by (label_of m.edition) refl
  where
    in_edition : (e : Edition) → label_of m.edition ≡ known e → (a : Answer) → header envelopes_most (told e) 0 m.bytes ≡ a → Sound (entry_in e a)
    in_edition e k (refused refusal place) q =
        let may = left_of (leb 2 refusal && leb refusal 13) (not (eqb refusal 11) || shortest_only strict) (refused_shape envelopes_most (told e) m.bytes refusal place q).0 in
        (leb→le 2 refusal (left_of (leb 2 refusal) (leb refusal 13) may), leb→le refusal 13 (right_of (leb 2 refusal) (leb refusal 13) may))
    in_edition e k (accepted place rows) q =
        let r : read m.edition m.bytes ≡ accepted place rows = ap (labelled strict m.bytes) k ∙ q in
        let (n, few, tabled) = accepted_tabled strict m.edition m.bytes place rows r in
        (omega (arith, words_count (tabled_split tabled)), place_most m.edition m.bytes place rows t r)

    by : (l : Label) → label_of m.edition ≡ l → Sound (entry_by m.bytes l)
    by unknown k = tt
    by (known e) k = in_edition e k (header envelopes_most (told e) 0 m.bytes) refl

pub record Whole (ms : List Message) : Type 0 where
  pub counted : messages_in (figures_of ms) ≡ length ms
  pub first : edition_fits (figures_of ms) ≡ true
  pub second : edition_fits (drop edition_width (figures_of ms)) ≡ true

-- "accepted plus refused equals the messages added", with the unknown ones: all that were added, and nothing else
pub figures_whole : (ms : List Message) → T (are_messages ms) → Whole ms
unfolding figures_of total messages_in sum_of
figures_whole [] t = record { counted = refl; first = refl; second = refl }
figures_whole (m ∷ ms) t =
    let s = entry_sound m (left_of (are_bytes m.bytes) (are_messages ms) t) in
    let rest = figures_whole ms (right_of (are_bytes m.bytes) (are_messages ms) t) in
    one_more m ms s rest
  where
    one_more : (m : Message) (ms : List Message) → Sound (entry_of m) → Whole ms → Whole (m ∷ ms)
    one_more m ms s rest =
        let c = entry_of m in
        let is = first_of_all m ms in
        let l : length (adds_of c) ≡ length (figures_of ms) = adds_long c ∙ sym (figures_long ms) in
        let fit = adds_fit c s in
        record {
          counted = ap messages_in is ∙ messages_sums (adds_of c) (figures_of ms) l ∙ omega (arith, counts_one_lem c s, rest.counted);
          first = ap edition_fits is ∙ fits_sums (adds_of c) (figures_of ms) l fit.0 rest.first;
          second = ap (λ (x : List ℕ). edition_fits (drop edition_width x)) is ∙ ap edition_fits (drop_sums edition_width (adds_of c) (figures_of ms) l)
              ∙ fits_sums (drop edition_width (adds_of c)) (drop edition_width (figures_of ms)) (length_drops edition_width (adds_of c) (figures_of ms) l) fit.1 rest.second;
        }

pub are_figures_lem : (ms : List Message) → T (are_messages ms) → length ms ≤ messages_most → are_figures (figures_of ms) ≡ true
unfolding are_figures
are_figures_lem ms t few =
    let w = figures_whole ms t in
    rw (eq-eqb (length (figures_of ms)) figures_borrowed (figures_long ms), le-leb (messages_in (figures_of ms)) messages_most (omega (arith, w.counted)), w.first, w.second) refl

-- "The figures equal those worked out from the list of messages added": with one message more they are those of the list with it behind; and "19 .. after 1,000,000
-- messages of any edition, figures unchanged"

module _ (ms : List Message) (t : T (are_messages ms)) (m : Message) where
  pub added : length ms < messages_most → (add_answer (figures_of ms) ≡ outcome 0 0) × (add_figures m (figures_of ms) ≡ figures_of (ms ++ (m ∷ [])))
  unfolding add_answer add_figures takes_more
  added few =
      let w = figures_whole ms t in
      let is = are_figures_lem ms t (omega arith) in
      let room = lt-ltb (messages_in (figures_of ms)) messages_most (omega (arith, w.counted)) in
      (rw (is, room) refl, (rw (is, room) refl) ∙ sym (figures_with ms m))

  pub not_added : messages_most ≤ length ms → (add_answer (figures_of ms) ≡ outcome 19 0) × (add_figures m (figures_of ms) ≡ figures_of ms)
  unfolding add_answer add_figures takes_more
  not_added many = by (are_figures (figures_of ms)) refl
    where
      full : ltb (messages_in (figures_of ms)) messages_most ≡ false
      full = let w = figures_whole ms t in le-ltb (messages_in (figures_of ms)) messages_most (omega (arith, w.counted))

      by : (z : Bool) → are_figures (figures_of ms) ≡ z → (add_answer (figures_of ms) ≡ outcome 19 0) × (add_figures m (figures_of ms) ≡ figures_of ms)
      by true q = (rw (q, full) refl, rw (q, full) refl)
      by false q = (rw q refl, rw q refl)

-- "figures made on many machines join to those of the whole"
module _ (ms ks : List Message) (t : T (are_messages ms)) (u : T (are_messages ks)) where
  pub joined : length ms + length ks ≤ messages_most → (join_answer (figures_of ms) (figures_of ks) ≡ outcome 0 0) × (join_figures (figures_of ms) (figures_of ks) ≡ figures_of (ms ++ ks))
  unfolding join_answer join_figures joinable
  joined few =
      let ours = figures_whole ms t in
      let theirs = figures_whole ks u in
      let p = are_figures_lem ms t (omega arith) in
      let q = are_figures_lem ks u (omega arith) in
      let room = le-leb (messages_in (figures_of ms) + messages_in (figures_of ks)) messages_most (omega (arith, ours.counted, theirs.counted)) in
      (rw (p, q, room) refl, (rw (p, q, room) refl) ∙ sym (figures_joined ms ks))

-- "A message of an unknown edition is counted apart and in no edition's figures": it changes nothing but its count
pub unknown_apart : (ms : List Message) (m : Message) → label_of m.edition ≡ unknown → (figure : Entry → ℕ) → figure apart ≡ 0 → total figure (ms ++ (m ∷ [])) ≡ total figure ms
unfolding total entry_of
unknown_apart ms m k figure none = total_append figure ms (m ∷ []) ∙ ap (λ (n : ℕ). total figure ms + (n + 0)) (ap (λ (l : Label). figure (entry_by m.bytes l)) k ∙ none) ∙ omega arith
