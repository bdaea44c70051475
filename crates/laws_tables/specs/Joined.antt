-- Order 2, over the definitions: what is behind a relay that is not refused. The joined header is a table that the edition writes, and the joined rows and
-- words are the reader's for it, with any payload behind it.
use Rattle.std.specs.Prelude.{ℕ, suc, ◌≤◌, ◌<◌, List, [], ◌∷◌, ◌++◌, map, Bool, true, false, ◌≡◌, T, ltb, length, take}
use Rattle.std.proofs.Common.{append-nil, ap, sym, ◌∙◌, subst, arith, ltb-true, ne_eqb}
use Rattle.std.proofs.Math.Path.{refl}
use Rattle.meaning.specs.Basics.{pick}
use Rattle.meaning.specs.Told.{Edition, Label, known, unknown, label_of, strict, told}
use Rattle.meaning.specs.Editions.{State}
use Rattle.meaning.specs.Reading.{Row}
use Rattle.meaning.specs.Skips.{Rank, rank, Skips, right, wrong_at}
use Rattle.meaning.specs.Words.{words_of}
use Rattle.meaning.specs.Headers.{Placed, meant, Answer, refused, accepted, envelopes_most, start, header, read}
use Rattle.meaning.specs.Writing.{fits, fit_row, Cell, cell, broken, Opens, envelope_row, inner_row, opens_of, Plan, stuck, plan, within_limit, wrap}
use Rattle.meaning.specs.Memory.{cells_of, skips_held, words_read}
use Rattle.meaning.specs.Relay.{extension_inside, extension_plan, new_rows, Joint, bytes_of, relayed, unrelayed, joint_of, one_more_fits, joined_skips, joined_plan, behind_old, relay_under, relay}
use Rattle.laws_steps.specs.Logic.{are_bytes, both_hold}
use Rattle.laws_tables.specs.AllTabled.{ranks_read}
use Rattle.laws_tables.specs.Wording.{no_words, opens_word}
use Rattle.laws_steps.specs.Envelopes.{opening_row, Writes, the_base, before}
use Rattle.laws_steps.specs.WrittenRead.{fit_all, then_inv}
use Rattle.laws_steps.specs.Plans.{OpensIs, opens_is, inner_kind, last_parsed}
use Rattle.laws_tables.specs.RightSkips.{standing}
use Rattle.laws_tables.specs.HeaderWritten.{Whole}
use Rattle.laws_tables.specs.Ties.{read_as, whole_of, whole_written, whole_front}

absurd_relayed : {A : Type 0} {refusal place : ℕ} {j : Joint} → unrelayed refusal place ≡ relayed j → A
absurd_relayed q = let z : ◌≡◌ {A = ℕ} 0 1 = cc q in absurd (omega arith)

-- The new table: an extension's own row, and rows that fit behind it up to its end

pub record OneExtension (e : Edition) (cells : List Cell) (bs : List ℕ) : Type 0 where
  pub rows : List Row
  pub to : State
  pub cells_are : cells ≡ map cell (opening_row false ∷ rows)
  pub fits_all : fit_all e rows (start false) ≡ fits to bs

pub extension_means : (e : Edition) (cells : List Cell) (bs : List ℕ) (vs : List Rattle.meaning.specs.Writing.Envelope) → extension_plan e cells ≡ plan bs vs → OneExtension e cells bs
extension_means e [] bs vs q = let z : ◌≡◌ {A = ℕ} 0 1 = cc q in absurd (omega arith)
extension_means e (broken ∷ cs) bs vs q = let z : ◌≡◌ {A = ℕ} 0 1 = cc q in absurd (omega arith)
extension_means e (cell row ∷ cs) bs vs q = at (opens_of row) (opens_is row) q
  where
    at : (o : Opens) → OpensIs row o → extension_inside e cs o ≡ plan bs vs → OneExtension e (cell row ∷ cs) bs
    at inner_row h p = let z : ◌≡◌ {A = ℕ} 0 1 = cc p in absurd (omega arith)
    at (envelope_row true) h p = let z : ◌≡◌ {A = ℕ} 0 1 = cc p in absurd (omega arith)
    at (envelope_row false) h p =
        let (rows, to, c, f) = last_parsed e cs 1 (start false) bs vs p in
        record { rows = rows; to = to; cells_are = ap (λ (x : List Cell). cell row ∷ x) c ∙ ap (λ (x : Row). cell x ∷ map cell rows) h; fits_all = f }

-- A relay that is not refused

pub record Joins (edition : ℕ) (input table pool : List ℕ) (j : Joint) : Type 0 where
  pub told_in : Edition
  pub label : label_of edition ≡ known told_in
  -- the old input is accepted, and its header is what is joined
  pub place : ℕ
  pub accepts : read edition input ≡ accepted place j.old
  pub front : j.header ≡ take place input
  -- the new table is an extension, with right skip numbers
  pub body : List ℕ
  pub wraps : j.envelope ≡ wrap false body
  pub extension : OneExtension told_in (cells_of pool table) body
  pub skips : skips_held table ≡ right
  pub small : within_limit (length body) ≡ true
  pub shows : j.new ≡ new_rows told_in body
  -- it is at most the sixteenth envelope
  pub few : length (words_read j.old) < envelopes_most

module _ (edition : ℕ) (input table pool : List ℕ) (j : Joint) where
  abbrev Good : Type 0
  Good = Joins edition input table pool j

  module _ (e : Edition) (k : label_of edition ≡ known e) (place : ℕ) (rows : List Placed) (a : header envelopes_most (told e) 0 input ≡ accepted place rows) where
    by_limits : (bs : List ℕ) → OneExtension e (cells_of pool table) bs → skips_held table ≡ right → (b : Bool) → one_more_fits bs rows ≡ b → pick b (relayed (joint_of e bs (take place input) rows)) (unrelayed 5 0) ≡ relayed j → Good
    by_limits bs x s false f r = absurd_relayed r
    by_limits bs x s true f r =
        let (few, small) = both_hold (ltb (length (words_read rows)) envelopes_most) (within_limit (length bs)) f in
        let all : joint_of e bs (take place input) rows ≡ j = cc r in
        subst (Joins edition input table pool) all
        (record {
          told_in = e;
          label = k;
          place = place;
          accepts = read_as strict edition e input k ∙ a;
          front = refl;
          body = bs;
          wraps = refl;
          extension = x;
          skips = s;
          small = small;
          shows = refl;
          few = ltb-true (length (words_read rows)) envelopes_most few;
        })

    by_skips : (bs : List ℕ) → OneExtension e (cells_of pool table) bs → (s : Skips) → skips_held table ≡ s → joined_skips e bs (take place input) rows s ≡ relayed j → Good
    by_skips bs x right s r = by_limits bs x s (one_more_fits bs rows) refl r
    by_skips bs x (wrong_at i) s r = absurd_relayed r

    by_plan : (p : Plan) → extension_plan e (cells_of pool table) ≡ p → joined_plan e (take place input) rows (skips_held table) p ≡ relayed j → Good
    by_plan (stuck i) p r = absurd_relayed r
    by_plan (plan bs vs) p r = by_skips bs (extension_means e (cells_of pool table) bs vs p) (skips_held table) refl r

  by_answer : (e : Edition) → label_of edition ≡ known e → (o : Answer) → header envelopes_most (told e) 0 input ≡ o → behind_old e input table pool o ≡ relayed j → Good
  by_answer e k (refused refusal place) a r = absurd_relayed r
  by_answer e k (accepted place rows) a r = by_plan e k place rows a (extension_plan e (cells_of pool table)) refl r

  by_label : (l : Label) → label_of edition ≡ l → relay_under input table pool l ≡ relayed j → Good
  by_label unknown k r = absurd_relayed r
  by_label (known e) k r = by_answer e k (header envelopes_most (told e) 0 input) refl r

  pub joins : relay edition input table pool ≡ relayed j → Good
  unfolding relay
  joins q = by_label (label_of edition) refl q

-- The joined header

-- how many envelopes a written table has
inner_words : (e : Edition) (rows table : List Row) (st st' : State) (bs : List ℕ) → fit_all e rows st ≡ fits st' bs → length (words_of (map standing (rows ++ table))) ≡ length (words_of (map standing table))
unfolding fit_all words_of
inner_words e [] table st st' bs q = refl
inner_words e (row ∷ rows) table st st' bs q =
    let (st₁, cs, ds, q₁, q₂, q₃) = then_inv (fit_row e st row) (fit_all e rows) st' bs q in
    let h = inner_kind e row st st₁ cs q₁ in
    rw (ne_eqb row.kind 1 (λ x. omega arith), ne_eqb row.kind 2 (λ x. omega arith)) (inner_words e rows table st₁ st' ds q₂)

pub written_count : (e : Edition) {n : ℕ} {table : List Row} {w : List ℕ} → Writes e n table w → length (words_of (map standing table)) ≡ n
written_count e (the_base rows st bs q h) =
    opens_word true (map standing rows) ∙ ap (λ (x : List Row). suc (length (words_of (map standing x)))) (sym (append-nil rows)) ∙ ap suc (inner_words e rows [] (start true) st bs q ∙ ap length no_words)
written_count e (before rows table st bs w n q h more) = opens_word false (map standing (rows ++ table)) ∙ ap suc (inner_words e rows table (start false) st bs q ∙ written_count e more)

pub ranks_meant : (rs : List Placed) → map standing (map meant rs) ≡ ranks_read rs
ranks_meant [] = refl
ranks_meant (r ∷ rs) = ap (λ (x : List Rank). rank r.kind r.level ∷ x) (ranks_meant rs)

module _ {edition : ℕ} {input table pool : List ℕ} {j : Joint} (s : Joins edition input table pool j) (t : T (are_bytes input)) where
  abbrev e_in : Edition
  e_in = s.told_in

  pub old_whole : Whole envelopes_most (told e_in) 0 input s.place j.old
  old_whole = whole_of (told e_in) input s.place j.old t (sym (read_as strict edition e_in input s.label) ∙ s.accepts)

  old_bytes : old_whole.bytes ≡ j.header
  old_bytes = sym (whole_front (told e_in) input s.place j.old old_whole) ∙ sym s.front

  -- the old header is the writer's for its rows
  pub old_written : Writes e_in old_whole.count (map meant j.old) j.header
  old_written = subst (Writes e_in old_whole.count (map meant j.old)) old_bytes (whole_written old_whole)

  pub few_old : suc old_whole.count ≤ envelopes_most
  few_old = let c = written_count e_in old_written in omega (arith, s.few, ap (λ (x : List Rank). length (words_of x)) (ranks_meant j.old))

  -- so is the joined one, for the new table's rows and the old ones
  pub joined_written : Writes e_in (suc old_whole.count) (opening_row false ∷ (s.extension.rows ++ map meant j.old)) (bytes_of j)
  joined_written = subst (λ (x : List ℕ). Writes e_in (suc old_whole.count) (opening_row false ∷ (s.extension.rows ++ map meant j.old)) (x ++ j.header)) (sym s.wraps)
      (before s.extension.rows (map meant j.old) s.extension.to s.body j.header old_whole.count s.extension.fits_all s.small old_written)
