-- The rows of every accepted header are those of a table of at most sixteen envelopes, and have a word for each.
use Rattle.std.specs.Prelude.{ℕ, zero, suc, ◌+◌, ◌-◌, ◌≤◌, Bool, true, false, ◌≡◌, refl, eqb, ltb, drop}
use mathlib.Core.List.{List, [], ◌∷◌, ◌++◌, map}
use Rattle.std.proofs.Common.{ap, sym, ◌∙◌, subst, arith}
use Rattle.std.proofs.Math.ListN.{length, take}
use Rattle.meaning.specs.Basics.{pick}
use Rattle.meaning.specs.Bytes.{Count, counted, short, high_first}
use Rattle.meaning.specs.Told.{Label, known, unknown, label_of, Strictness, Told, told_by}
use Rattle.meaning.specs.Reading.{Seen, Out, dry, fault, done, inside}
use Rattle.meaning.specs.Skips.{Rank, rank}
use Rattle.meaning.specs.Headers.{Placed, placed_row, placed, Answer, refused, accepted, behind, envelope_most, envelopes_most, opening, start, Onward, ends, envelope, short_least, long_least, long_form, sized, Identifier, extension, base, neither, identifier_of, identified, seventeenth, header, labelled, read_by}
use Rattle.meaning.specs.Memory.{rank_of, numbers_of}
use Rattle.laws_tables.specs.Tabled.{rank_seen, Tabled, the_last, one_more, InsideIs, inside_is}

-- the ranks of rows that were read
abbrev pub ranks_read : List Placed → List Rank
ranks_read rs = map rank_of (map numbers_of rs)

-- at most so many envelopes
abbrev pub AtMost : ℕ → List Rank → Type 0
AtMost most ranks = (n : ℕ) × (n ≤ most) × Tabled n ranks

abbrev AnswerIs : ℕ → Answer → Type 0
AnswerIs most (refused refusal place) = Unit {0}
AnswerIs most (accepted place rs) = AtMost most (ranks_read rs)

pub placed_ranks : (end : ℕ) (rs : List Seen) → ranks_read (map (placed end) rs) ≡ map rank_seen rs
placed_ranks end [] = refl
placed_ranks end (r ∷ rs) = ap (λ (x : List Rank). rank_seen r ∷ x) (placed_ranks end rs)

pub ranks_append : (rs ts : List Placed) → ranks_read (rs ++ ts) ≡ ranks_read rs ++ ranks_read ts
ranks_append [] ts = refl
ranks_append (r ∷ rs) ts = ap (λ (x : List Rank). rank_of (numbers_of r) ∷ x) (ranks_append rs ts)

module _ (most : ℕ) (at end : ℕ) where
  behind_one : (r : Seen) (rs : List Seen) → InsideIs false (done (r ∷ rs) []) → (a : Answer) → AnswerIs most a → AnswerIs (suc most) (behind (placed_row (opening false) 0 at [] ∷ []) (behind (map (placed end) (r ∷ rs)) a))
  behind_one r rs i (refused refusal place) h = tt
  behind_one r rs i (accepted place ts) (n, few, t) =
      let q : ranks_read (map (placed end) rs ++ ts) ≡ map rank_seen rs ++ ranks_read ts = ranks_append (map (placed end) rs) ts ∙ ap (λ (x : List Rank). x ++ ranks_read ts) (placed_ranks end rs) in
      (suc n, omega arith, subst (λ (x : List Rank). Tabled (suc n) (rank (opening false) 0 ∷ rank_seen r ∷ x)) (sym q) (one_more (rank_seen r) (map rank_seen rs) (ranks_read ts) n i.0 i.1 t))

  ended : (b : Bool) (rest : List ℕ) (more : Onward) → ((p : ℕ) (s : List ℕ) → AnswerIs most (more p s)) → (o : Out) → InsideIs b o → AnswerIs (suc most) (behind (placed_row (opening b) 0 at [] ∷ []) (ends b end rest more o))
  ended b rest more h dry i = tt
  ended b rest more h (fault refusal left) i = tt
  ended b rest more h (done rs (c ∷ s)) i = tt
  ended b rest more h (done [] []) i = absurd i
  ended true rest more h (done (r ∷ rs) []) i =
      (1, omega arith, subst (λ (x : List Rank). Tabled 1 (rank (opening true) 0 ∷ rank_seen r ∷ x)) (sym (placed_ranks end rs)) (the_last (rank_seen r) (map rank_seen rs) i.0 i.1))
  ended false rest more h (done (r ∷ rs) []) i = behind_one r rs i (more end rest) (h end rest)

unless : (most : ℕ) (z : Bool) (refusal place : ℕ) (a : Answer) → AnswerIs most a → AnswerIs most (pick z (refused refusal place) a)
unless most true refusal place a h = tt
unless most false refusal place a h = h

module _ (most : ℕ) (told : Told) (b : Bool) (more : Onward) (h : (p : ℕ) (s : List ℕ) → AnswerIs most (more p s)) where
  envelope_is : (least at head n : ℕ) (s : List ℕ) → AnswerIs (suc most) (envelope told b least at head n s more)
  unfolding envelope
  envelope_is least at head n s =
      let within = take (n - head) s in
      let read = behind (placed_row (opening b) 0 at [] ∷ []) (ends b (at + n) (drop (n - head) s) more (inside told (start b) within)) in
      unless (suc most) (ltb n least) 4 (at + 1) _
      (unless (suc most) (ltb envelope_most n) 5 (at + 1) _ (unless (suc most) (ltb (head + length s) n) 2 (at + head + length s) read (ended most at (at + n) b (drop (n - head) s) more h (inside told (start b) within) (inside_is told b within))))

  long_is : (at all : ℕ) (c : Count) → AnswerIs (suc most) (long_form told b at all more c)
  long_is at all short = tt
  long_is at all (counted n s) = envelope_is long_least at 7 n s

  sized_is : (at all : ℕ) (c : Count) → AnswerIs (suc most) (sized told b at all more c)
  sized_is at all short = tt
  sized_is at all (counted n s) = by (eqb n 0)
    where
      by : (z : Bool) → AnswerIs (suc most) (pick z (long_form told b at all more (high_first 4 0 s)) (envelope told b short_least at 3 n s more))
      by true = long_is at all (high_first 4 0 s)
      by false = envelope_is short_least at 3 n s

identified_is : (most : ℕ) (told : Told) (at : ℕ) (s : List ℕ) (more : Onward) → ((p : ℕ) (s : List ℕ) → AnswerIs most (more p s)) → (i : Identifier) → AnswerIs (suc most) (identified told at s more i)
identified_is most told at s more h extension = sized_is most told false more h at (suc (length s)) (high_first 2 0 s)
identified_is most told at s more h base = sized_is most told true more h at (suc (length s)) (high_first 2 0 s)
identified_is most told at s more h neither = tt

last_is : (at : ℕ) (i : Identifier) → AnswerIs 0 (seventeenth at i)
last_is at extension = tt
last_is at base = tt
last_is at neither = tt

header_is : (n : ℕ) (told : Told) (at : ℕ) (s : List ℕ) → AnswerIs n (header n told at s)
unfolding header
header_is zero told at [] = tt
header_is zero told at (b ∷ s) = last_is at (identifier_of b)
header_is (suc n) told at [] = tt
header_is (suc n) told at (b ∷ s) = identified_is n told at s (header n told) (λ p t. header_is n told p t) (identifier_of b)

-- strictly or tolerantly
pub accepted_tabled : (w : Strictness) (edition : ℕ) (input : List ℕ) (place : ℕ) (rows : List Placed) → read_by w edition input ≡ accepted place rows → AtMost envelopes_most (ranks_read rows)
unfolding read_by
accepted_tabled w edition input place rows q = subst (AnswerIs envelopes_most) q (by (label_of edition))
  where
    by : (l : Label) → AnswerIs envelopes_most (labelled w input l)
    by unknown = tt
    by (known e) = header_is envelopes_most (told_by w e) 0 input

-- so it has a row
pub some_row : (most : ℕ) (rows : List Placed) → AtMost most (ranks_read rows) → 1 ≤ length rows
some_row most [] (n, few, t) = absurd (none t refl)
  where
    none : {n : ℕ} {ranks : List Rank} → Tabled n ranks → ranks ≡ [] → ⊥
    none (the_last head inner h t) q = let z : ◌≡◌ {A = ℕ} 0 1 = cc q in absurd (omega arith)
    none (one_more head inner rest n h t more) q = let z : ◌≡◌ {A = ℕ} 0 1 = cc q in absurd (omega arith)
some_row most (r ∷ rows) a = omega arith
