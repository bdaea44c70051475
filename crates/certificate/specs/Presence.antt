-- Order 6, of calls of `read`, `read_tolerant` and `ones`: after an accepted call the words at the front of those lent are what a walk over the rows at
-- the front of those lent finds, one for each envelope, and no other word has changed; what the bits of a word are, and how many.
use Rattle.std.specs.Prelude.{ℕ, ◌/◌, ◌%◌, ◌≤◌, ◌<◌, List, [], ◌∷◌, map, Bool, true, false, ◌≡◌, refl, length, take, drop}
use Rattle.std.proofs.Common.{ap, sym, ◌∙◌, subst}
use Rattle.meaning.specs.Basics.{pick}
use Rattle.meaning.specs.Told.{Strictness}
use Rattle.meaning.specs.Skips.{Rank, is_envelope, belonging}
use Rattle.meaning.specs.Words.{word_of, words_of, codes_in, ones_of}
use Rattle.meaning.specs.Headers.{envelopes_most}
use Rattle.meaning.specs.Memory.{numbers_of, ranks_of, words_read}
use Rattle.laws_tables.specs.RightSkips.{table_ranks}
use Rattle.laws_tables.specs.Presence.{ones_codes, no_other_bit}
use Rattle.laws_tables.specs.AllTabled.{accepted_tabled}
use Rattle.laws_tables.specs.Wording.{tabled_split, words_count, HeadBits, head_bits}
use Rattle.table.specs.declared.reply.Reply as declared
use Rattle.reader.specs.Promises.{ReadsBy}
use Rattle.certificate.specs.Lent.{first_rows, laid_front, laid_behind, rows_read, accepted_call}

-- a word of some rows: its ones are as many as their different codes, and it has no bit but 0 and 2 to 11
pub record IsWord (w : ℕ) : Type 0 where
  pub rows : List Rank
  pub is : w ≡ word_of rows
  pub ones : ones_of w ≡ length (codes_in rows)
  pub low : w < 4096
  pub no_closing : w / 2 % 2 ≡ 0

abbrev pub AreWords : List ℕ → Type 0
AreWords [] = Unit {0}
AreWords (w ∷ ws) = IsWord w × AreWords ws

word_is : (rows : List Rank) → IsWord (word_of rows)
word_is rows = record { rows = rows; is = refl; ones = ones_codes rows; low = (no_other_bit rows).0; no_closing = (no_other_bit rows).1 }

words_are : (ranks : List Rank) → AreWords (words_of ranks)
unfolding words_of
words_are [] = tt
words_are (r ∷ rest) = at (is_envelope r.kind) (words_are rest)
  where
    at : (z : Bool) → AreWords (words_of rest) → AreWords (pick z (word_of (take (belonging r rest) rest) ∷ words_of rest) (words_of rest))
    at true more = (word_is (take (belonging r rest) rest), more)
    at false more = more

-- what an accepted call leaves beside its rows
pub record Carried (rows words words' : List ℕ) : Type 0 where
  pub envelopes : ℕ
  pub few : envelopes ≤ envelopes_most
  pub walked : take envelopes words' ≡ words_of (ranks_of rows)
  pub unused : drop envelopes words' ≡ drop envelopes words
  pub one_each : length (words_of (ranks_of rows)) ≡ envelopes
  pub heads : HeadBits (words_of (ranks_of rows))
  pub each : AreWords (words_of (ranks_of rows))

module _ {w : Strictness} {edition : ℕ} {input before words after words' : List ℕ} {a : declared.Reply} (p : ReadsBy w edition input before words a after words') where
  pub words_carried : a.answer ≡ 0 → Carried (first_rows a.rows after) words words'
  words_carried z =
      let (place, found, is, f) = accepted_call p z in
      let (n, few, tabled) = accepted_tabled w edition input place found is in
      let rows = first_rows a.rows after in
      let count : length (words_read found) ≡ n = words_count (tabled_split tabled) in
      let same : words_of (ranks_of rows) ≡ words_read found = ap (λ (x : List ℕ). words_of (ranks_of x)) (rows_read f) ∙ ap words_of (table_ranks 0 (map numbers_of found)) in
      record {
        envelopes = n;
        few = few;
        walked = ap (take n) f.carries ∙ laid_front words (words_read found) count ∙ sym same;
        unused = ap (drop n) f.carries ∙ laid_behind words (words_read found) count;
        one_each = ap length same ∙ count;
        heads = subst HeadBits (sym same) (head_bits tabled);
        each = words_are (ranks_of rows);
      }

-- the count of ones of any word: one answer, and there is one
pub one_ones : (word : ℕ) {r s : ℕ} → r ≡ ones_of word → s ≡ ones_of word → r ≡ s
one_ones word p q = p ∙ sym q

pub some_ones : (word : ℕ) → (r : ℕ) × (r ≡ ones_of word)
some_ones word = (ones_of word, refl)
