-- Envelope by envelope, from the last: an envelope has all rows up to the next one's, and its word stands before theirs.
use Prim.Native.Nat.{ℕ, zero, suc, ◌+◌, ◌-◌, ◌*◌, ◌≤◌, ◌<◌}
use mathlib.Core.List.{List, [], ◌∷◌, ◌++◌}
use mathlib.Core.Bool.{Bool, true, false}
use mathlib.Core.Path.{◌≡◌, refl, ap, sym, ◌∙◌}
use native.Mathlib.Omega.{arith}
use lib.ListN.{length, set, take, drop, length-append, length-drop}
use borrow.Author.Tests.{ne_eqb}
use Rattle.meaning.specs.Basics.{pick}
use Rattle.meaning.specs.Skips.{Rank, is_envelope, belonging}
use Rattle.meaning.specs.Words.{word_of, words_of}
use Rattle.meaning.specs.Memory.{row_width, room_of, laid_over}
use Rattle.laws_steps.specs.Hopping.{rank_at, ranks_for, ranks_at, ranks_length, ranks_next, skip_at}
use Rattle.laws_tables.specs.Skipping.{skips_laid, laid_none}
use Rattle.laws_tables.specs.Wording.{top, words_count, no_words}
use Rattle.table.specs.Rows.{u32_most}
use Rattle.lay_skips.specs.Laying.{LaidFrom, InsideLaid, Finishable, Finished}
use Rattle.skips.specs.Ends.{IsTop, envelope_run}
use Rattle.lay_skips.proofs.Running.{stays_long, lays}

-- Words

ranks_take : (m : List ℕ) (i k b : ℕ) → b ≤ k → take b (ranks_for m i k) ≡ ranks_for m i b
ranks_take m i k zero h = refl
ranks_take m i zero (suc b) h = absurd (omega arith)
ranks_take m i (suc k) (suc b) h = ap (λ (r : List Rank). rank_at m i ∷ r) (ranks_take m (suc i) k b (omega arith))

word_opens : (b : Bool) (rest : List Rank) → words_of (top b ∷ rest) ≡ word_of (take (belonging (top b) rest) rest) ∷ words_of rest
unfolding words_of
word_opens true rest = refl
word_opens false rest = refl

word_passes : (r : Rank) (rest : List Rank) → 3 ≤ r.kind → words_of (r ∷ rest) ≡ words_of rest
unfolding words_of
word_passes r rest h = rw (ne_eqb r.kind 1 (λ q. omega arith), ne_eqb r.kind 2 (λ q. omega arith)) refl

words_over : (m : List ℕ) (n d j : ℕ) → ((i : ℕ) → j ≤ i → i < j + d → 3 ≤ (rank_at m i).kind) → j + d ≤ n → words_of (ranks_at m n j) ≡ words_of (ranks_at m n (j + d))
words_over m n zero j h l = let q : j ≡ j + 0 = omega arith in ap (λ (x : ℕ). words_of (ranks_at m n x)) q
words_over m n (suc d) j h l =
    let q : suc j + d ≡ j + suc d = omega arith in
    ap words_of (ranks_next m n j (omega arith)) ∙ word_passes (rank_at m j) (ranks_at m n (suc j)) (h j (omega arith) (omega arith)) ∙ words_over m n d (suc j) (λ i x y. h i (omega arith) (omega arith)) (omega arith)
    ∙ ap (λ (x : ℕ). words_of (ranks_at m n x)) q

more_words : (r : Rank) (rest : List Rank) → length (words_of rest) ≤ length (words_of (r ∷ rest))
unfolding words_of
more_words r rest = at (is_envelope r.kind)
  where
    at : (z : Bool) → length (words_of rest) ≤ length (pick z (word_of (take (belonging r rest) rest) ∷ words_of rest) (words_of rest))
    at true = omega arith
    at false = omega arith

fewer_words : (m : List ℕ) (n j : ℕ) → j ≤ n → length (words_of (ranks_at m n j)) ≤ length (words_of (ranks_at m n 0))
fewer_words m n zero h = omega arith
fewer_words m n (suc j) h =
    let ih = fewer_words m n j (omega arith) in
    let more = more_words (rank_at m j) (ranks_at m n (suc j)) in
    let q : length (words_of (ranks_at m n j)) ≡ length (words_of (rank_at m j ∷ ranks_at m n (suc j))) = ap (λ (x : List Rank). length (words_of x)) (ranks_next m n j (omega arith)) in
    omega arith

few_words : (ranks : List Rank) → length (words_of ranks) ≤ length ranks
unfolding words_of
few_words [] = omega arith
few_words (r ∷ rest) = at (is_envelope r.kind) (few_words rest)
  where
    at : (z : Bool) → length (words_of rest) ≤ length rest → length (pick z (word_of (take (belonging r rest) rest) ∷ words_of rest) (words_of rest)) ≤ suc (length rest)
    at true h = omega arith
    at false h = omega arith

over_length : (lent front : List ℕ) → length front ≤ length lent → length (laid_over lent front) ≡ length lent
unfolding laid_over
over_length lent front h = omega (arith, length-append front (drop (length front) lent), length-drop (length front) lent)

-- All of them

pub record FinishedFrom (m words₀ : List ℕ) (n : ℕ) (rows words : List ℕ) (next k : ℕ) : Type 0 where
  pub few : next ≤ n
  pub is : rows ≡ skips_laid m n (n - next)
  pub there : next < n → IsTop (rank_at m next)
  pub count : k ≡ length (words_of (ranks_at m n next))
  pub laid : words ≡ laid_over words₀ (words_of (ranks_at m n next))

none_left : (m : List ℕ) (n : ℕ) → words_of (ranks_at m n n) ≡ []
none_left m n = let q : n - n ≡ 0 = omega arith in ap (λ (k : ℕ). words_of (ranks_for m n k)) q ∙ no_words

pub none_finished : (m words : List ℕ) (n : ℕ) → FinishedFrom m words n m words n 0
unfolding laid_over
none_finished m words n =
    let q : 0 ≡ n - n = omega arith in
    record { few = omega arith; is = sym (laid_none m n) ∙ ap (skips_laid m n) q; there = λ u. absurd (omega arith); count = sym (ap length (none_left m n)); laid = sym (ap (λ (x : List ℕ). x ++ drop (length x) words) (none_left m n)) }

module _ {m words₀ : List ℕ} {n : ℕ} (f : Finishable m n words₀) {rows words : List ℕ} {next k : ℕ} (w : FinishedFrom m words₀ n rows words next k) where
  pub rows_long : length rows ≡ length m
  rows_long = stays_long m rows n (n - next) w.is

  all_counted : length (words_of (ranks_at m n 0)) ≡ f.count
  all_counted = words_count f.split

  pub words_long : length words ≡ length words₀
  words_long = ap length w.laid ∙ over_length words₀ (words_of (ranks_at m n next)) (omega (arith, fewer_words m n next w.few, all_counted, f.few))

  pub all_finished : next ≤ 0 → Finished m words₀ n rows words
  all_finished h =
      let q : n - next ≡ n = omega arith in
      let z : next ≡ 0 = omega arith in
      record { rows_are = w.is ∙ ap (skips_laid m n) q; words_are = w.laid ∙ ap (λ (x : ℕ). laid_over words₀ (words_of (ranks_at m n x))) z }

  module _ (some : 0 < next) where
    pub laid_from : LaidFrom m n rows next
    laid_from = record { stands = f.stands; some = some; few = w.few; there = w.there; is = w.is }

    module _ {mid : List ℕ} {i word : ℕ} (b : InsideLaid m n next mid i word) where
      here : i < n
      here = omega (arith, b.less, w.few)

      pub own_inside : i < room_of mid
      own_inside = omega (arith, stays_long m mid n (n - suc i) b.is, here, f.stands.room)

      pub next_small : next ≤ u32_most
      next_small = omega (arith, w.few, f.stands.most)

      skip : skip_at m n i ≡ next
      skip = envelope_run m n i here next b.opened b.less w.few b.inner w.there

      -- the words from this envelope on
      one_word : words_of (ranks_at m n i) ≡ word ∷ words_of (ranks_at m n next)
      unfolding skip_at
      one_word =
          let (c, q) = b.opened in
          let rest = ranks_at m n (suc i) in
          let run : belonging (top c) rest ≡ next - suc i = sym (ap (λ (r : Rank). belonging r rest) q) ∙ omega (arith, skip) in
          let own : take (belonging (top c) rest) rest ≡ ranks_for m (suc i) (next - suc i) = ap (λ (x : ℕ). take x rest) run ∙ ranks_take m (suc i) (n - suc i) (next - suc i) (omega (arith, w.few, b.less)) in
          let e : suc i + (next - suc i) ≡ next = omega (arith, b.less) in
          let behind : words_of rest ≡ words_of (ranks_at m n next) = words_over m n (next - suc i) (suc i) (λ j x y. b.inner j (omega arith) (omega arith)) (omega (arith, w.few)) ∙ ap (λ (x : ℕ). words_of (ranks_at m n x)) e in
          ap words_of (ranks_next m n i here) ∙ ap (λ (r : Rank). words_of (r ∷ rest)) q ∙ word_opens c rest ∙ ap (λ (x : List Rank). word_of x ∷ words_of rest) own
          ∙ ap (λ (x : ℕ). x ∷ words_of rest) (sym b.carries) ∙ ap (λ (x : List ℕ). word ∷ x) behind

      pub has_word : k < length words
      has_word = omega (arith, words_long, w.count, ap length one_word, fewer_words m n i (omega (arith, here)), all_counted, f.few)

      pub count_small : k + 1 ≤ u32_most
      count_small = omega (arith, w.count, ap length one_word, few_words (ranks_at m n i), ranks_length m i (n - i), f.stands.most)

      pub one_finished : {after left : List ℕ} → after ≡ set mid (i * row_width + 4) next → ((lent own : List ℕ) → words ≡ laid_over lent own → length own ≡ k → left ≡ laid_over lent (word ∷ own)) → FinishedFrom m words₀ n after left i (k + 1)
      one_finished s p =
          record {
            few = omega (arith, here);
            is = lays m n i here b.is (sym skip) s;
            there = λ _. b.opened;
            count = omega (arith, w.count, ap length one_word);
            laid = p words₀ (words_of (ranks_at m n next)) w.laid (sym w.count) ∙ ap (laid_over words₀) (sym one_word);
          }
