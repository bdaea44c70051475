-- How many envelopes an accepted header has, and how long it can be, envelope by envelope: each has a word, and behind an extension stand the others.
use Rattle.std.specs.Prelude.{ℕ, suc, ◌*◌, ◌≤◌, List, [], ◌∷◌, ◌++◌, map, Bool, true, false, ◌≡◌, refl, T, length}
use Rattle.std.proofs.Common.{append-nil, ap, sym, ◌∙◌, arith, length-append}
use Rattle.meaning.specs.Told.{Edition, Told, strict, told}
use Rattle.meaning.specs.Reading.{Row, Seen, Out, dry, fault, done, inside}
use Rattle.meaning.specs.Skips.{Rank}
use Rattle.meaning.specs.Words.{words_of}
use Rattle.meaning.specs.Headers.{Placed, placed_row, placed, Answer, refused, accepted, behind, envelope_most, envelopes_most, opening, start, Onward, ends, read}
use Rattle.meaning.specs.Writing.{wrap}
use Rattle.meaning.specs.Memory.{words_read}
use Rattle.laws_steps.specs.Logic.{are_bytes}
use Rattle.laws_steps.specs.From.{from}
use Rattle.laws_steps.specs.Finishing.{opened}
use Rattle.laws_tables.specs.Tabled.{rank_seen, are_inner, InsideIs, inside_is}
use Rattle.laws_tables.specs.AllTabled.{ranks_read, placed_ranks, ranks_append}
use Rattle.laws_tables.specs.Wording.{opens_word, words_pass, no_words}
use Rattle.laws_steps.specs.Envelopes.{Writes, the_base, before, limit_size, wrap_length}
use Rattle.laws_tables.specs.Ties.{accepted_known, whole_of, whole_written}

never : {A : Type 0} {refusal place at : ℕ} {rows : List Placed} → refused refusal place ≡ accepted at rows → A
never q = let z : ◌≡◌ {A = ℕ} 0 1 = cc q in absurd (omega arith)

module _ (at end : ℕ) where
  one_word : (b : Bool) (rs : List Seen) (ts : List Placed) → T (are_inner rs) → length (words_read (placed_row (opening b) 0 at [] ∷ (map (placed end) rs ++ ts))) ≡ suc (length (words_read ts))
  one_word b rs ts h =
      opens_word b (ranks_read (map (placed end) rs ++ ts))
      ∙ ap (λ (x : List Rank). suc (length (words_of x))) (ranks_append (map (placed end) rs) ts ∙ ap (λ (x : List Rank). x ++ ranks_read ts) (placed_ranks end rs))
      ∙ ap (λ (x : List ℕ). suc (length x)) (words_pass (map rank_seen rs) (ranks_read ts) h)

-- what an envelope that opens says of the rows from it on, where they are accepted
module _ (t : Told) (more : Onward) (s : List ℕ) (at first end place : ℕ) (rows : List Placed) where
  pub base_alone : opened t more s at true first end ≡ accepted place rows → length (words_read rows) ≡ 1
  base_alone q = by (inside t (start true) (from s first end)) (inside_is t true (from s first end)) q
    where
      by : (o : Out) → InsideIs true o → behind (placed_row (opening true) 0 at [] ∷ []) (ends true end (from s end (length s)) more o) ≡ accepted place rows → length (words_read rows) ≡ 1
      by dry i q = never q
      by (fault refusal left) i q = never q
      by (done rs (b ∷ u)) i q = never q
      by (done [] []) i q = absurd i
      by (done (r ∷ rs) []) i q =
          let z : placed_row (opening true) 0 at [] ∷ map (placed end) (r ∷ rs) ≡ rows = cc q in
          let y : placed_row (opening true) 0 at [] ∷ (map (placed end) (r ∷ rs) ++ []) ≡ rows = ap (λ (x : List Placed). placed_row (opening true) 0 at [] ∷ x) (append-nil (map (placed end) (r ∷ rs))) ∙ z in
          ap (λ (x : List Placed). length (words_read x)) (sym y) ∙ one_word at end true (r ∷ rs) [] i.1 ∙ ap (λ (x : List ℕ). suc (length x)) no_words

  abbrev pub Others : Type 0
  Others = (rest : List Placed) × (more end (from s end (length s)) ≡ accepted place rest) × (length (words_read rows) ≡ suc (length (words_read rest)))

  pub others_behind : opened t more s at false first end ≡ accepted place rows → Others
  others_behind q = by (inside t (start false) (from s first end)) (inside_is t false (from s first end)) q
    where
      goes : (r : Seen) (rs : List Seen) → T (are_inner (r ∷ rs)) → (a : Answer) → more end (from s end (length s)) ≡ a → behind (placed_row (opening false) 0 at [] ∷ []) (behind (map (placed end) (r ∷ rs)) a) ≡ accepted place rows → Others
      goes r rs i (refused refusal there) m q = never q
      goes r rs i (accepted there ts) m q =
          let z : placed_row (opening false) 0 at [] ∷ (map (placed end) (r ∷ rs) ++ ts) ≡ rows = cc q in
          let p : there ≡ place = cc q in
          (ts, m ∙ ap (λ (x : ℕ). accepted x ts) p, ap (λ (x : List Placed). length (words_read x)) (sym z) ∙ one_word at end false (r ∷ rs) ts i)

      by : (o : Out) → InsideIs false o → behind (placed_row (opening false) 0 at [] ∷ []) (ends false end (from s end (length s)) more o) ≡ accepted place rows → Others
      by dry i q = never q
      by (fault refusal left) i q = never q
      by (done rs (b ∷ u)) i q = never q
      by (done [] []) i q = absurd i
      by (done (r ∷ rs) []) i q = goes r rs i.1 (more end (from s end (length s))) refl q

-- "Envelope at most 1,048,576 bytes; 16 envelopes": so a header has at most so many bytes
writes_most : (e : Edition) {n : ℕ} {table : List Row} {w : List ℕ} → Writes e n table w → length w ≤ n * envelope_most
writes_most e (the_base rows st bs q h) = omega (arith, wrap_length true bs, limit_size (length bs) h)
writes_most e (before rows table st bs w n q h more) = omega (arith, length-append (wrap false bs) w, wrap_length false bs, limit_size (length bs) h, writes_most e more)

pub place_most : (edition : ℕ) (input : List ℕ) (place : ℕ) (rows : List Placed) → T (are_bytes input) → read edition input ≡ accepted place rows → place ≤ envelopes_most * envelope_most
place_most edition input place rows t q =
    let (e, k, a) = accepted_known strict edition input place rows q in
    let w = whole_of (told e) input place rows t a in
    omega (arith, w.place, writes_most e (whole_written w), w.few)
