-- Order 10, of calls of `read_tolerant`, `read` and `write`: any results that the promises allow, with the memory lent before and after.
-- That input and payload hold bytes, the promise of a call says, as in `Calls`.
use Rattle.std.specs.Prelude.{ℕ, ◌≤◌, ◌<◌, List, ◌++◌, Bool, true, false, ◌⊎◌, ◌≡◌, refl, leb, length, take}
use Rattle.std.proofs.Common.{inl, inr, ap, sym, ◌∙◌, arith}
use Rattle.std.proofs.Math.Seq.{take-append_seam}
use Rattle.meaning.specs.Basics.{pick}
use Rattle.meaning.specs.Told.{strict, tolerant}
use Rattle.meaning.specs.Headers.{Answer, refused, accepted, read, read_tolerant}
use Rattle.meaning.specs.Writing.{written}
use Rattle.meaning.specs.Memory.{table_of, Reply, reply, read_reply, read_memory, words_read, room_with, answer_by, rows_by, words_by, write}
use Rattle.laws_demands.specs.Tolerance.{After}
use Rattle.laws_demands.specs.Tolerant.{tolerant_agrees, accepted_agrees, never_eleven, behind_eleven, short_form}
use Rattle.laws_demands.specs.Demands.{written_then_read}
use Rattle.listing.specs.Listed.{table_length}
use Rattle.table.specs.declared.reply.Reply as declared
use Rattle.reader.specs.Promises.{ReadPromise, TolerantPromise}
use Rattle.writer.specs.Promise.{WritePromise}
use Rattle.certificate.specs.OneAnswer.{one_read}
use Rattle.certificate.specs.Lent.{first_rows, laid_front, rows_read, bytes_written, accepted_call, refuses, lays, written_call}
use Rattle.certificate.specs.Calls.{read_write_same_bytes, sent, SameTable, write_read_same_table}

-- where the two readings agree, a call of the one is a call of the other
as_strict : {edition : ℕ} {input before words after words' : List ℕ} {a : declared.Reply} → read_tolerant edition input ≡ read edition input → TolerantPromise edition input before words a after words' → ReadPromise edition input before words a after words'
unfolding answer_by rows_by words_by
as_strict {before = before} {words = words} same p = record { bytes = p.bytes; answers = p.answers ∙ ap (read_reply (room_with before words)) same; rows = p.rows ∙ ap (read_memory (room_with before words) table_of before) same; carries = p.carries ∙ ap (read_memory (room_with before words) words_read words) same }

-- 1. "On input that the strict reading accepts, or refuses with another number than 11, the two agree": answer, place, count, lent rows and lent words.

pub tolerant_call_agrees : {edition : ℕ} {input before words after words₁ later words₂ : List ℕ} {a b : declared.Reply} → ReadPromise edition input before words a after words₁ → (a.answer ≡ 11 → ⊥)
    → TolerantPromise edition input before words b later words₂ → (a ≡ b) × (after ≡ later) × (words₁ ≡ words₂)
tolerant_call_agrees {edition} {input} p other q = one_read p (as_strict (tolerant_agrees edition input (λ place is. other (refuses p is).0)) q)

-- 2. "11 isn't given by the tolerant reading."

pub tolerant_call_never_eleven : {edition : ℕ} {input before words after words' : List ℕ} {a : declared.Reply} → TolerantPromise edition input before words a after words' → a.answer ≡ 11 → ⊥
unfolding answer_by
tolerant_call_never_eleven {edition} {input} {before} {words} {a = a} p eleven = at (read_tolerant edition input) refl (ap (λ (r : Reply). r.answer) p.answers)
  where
    roomy : (room : Bool) → a.answer ≡ pick room 0 14 → ⊥
    roomy true r = absurd (omega arith)
    roomy false r = absurd (omega arith)

    at : (found : Answer) → read_tolerant edition input ≡ found → a.answer ≡ (read_reply (room_with before words) found).answer → ⊥
    at (refused refusal place) q r = never_eleven edition input refusal place q (sym r ∙ eleven)
    at (accepted place rows) q r = roomy (leb (length rows) (room_with before words)) r

-- Where `read` answers 11, `read_tolerant` accepts the header (0, or 14 where rows are short), or refuses it for a fault behind that place.

pub tolerant_call_behind_eleven : {edition : ℕ} {input before words after words₁ later words₂ : List ℕ} {a b : declared.Reply} → ReadPromise edition input before words a after words₁ → a.answer ≡ 11 → TolerantPromise edition input before words b later words₂
    → (b.answer ≡ 0) ⊎ (b.answer ≡ 14) ⊎ (a.place < b.place)
unfolding answer_by
tolerant_call_behind_eleven {edition} {input} {before} {words} {a = a} {b = b} p eleven q = strictly (read edition input) refl p.answers
  where
    roomy : (room : Bool) → b.answer ≡ pick room 0 14 → (b.answer ≡ 0) ⊎ (b.answer ≡ 14) ⊎ (a.place < b.place)
    roomy true r = inl r
    roomy false r = inr (inl r)

    tolerantly : (place : ℕ) → a.place ≡ place → (found : Answer) → After place found → reply b.answer b.place b.rows ≡ read_reply (room_with before words) found → (b.answer ≡ 0) ⊎ (b.answer ≡ 14) ⊎ (a.place < b.place)
    tolerantly place is (refused refusal other) later r = let z : b.place ≡ other = ap (λ (x : Reply). x.place) r in inr (inr (omega arith))
    tolerantly place is (accepted end rows) later r = roomy (leb (length rows) (room_with before words)) (ap (λ (x : Reply). x.answer) r)

    never : (room : Bool) → a.answer ≡ pick room 0 14 → ⊥
    never true r = absurd (omega arith)
    never false r = absurd (omega arith)

    strictly : (found : Answer) → read edition input ≡ found → reply a.answer a.place a.rows ≡ read_reply (room_with before words) found → (b.answer ≡ 0) ⊎ (b.answer ≡ 14) ⊎ (a.place < b.place)
    strictly (refused refusal place) is r =
        let number : refusal ≡ 11 = sym (ap (λ (x : Reply). x.answer) r) ∙ eleven in
        tolerantly place (ap (λ (x : Reply). x.place) r) (read_tolerant edition input) (behind_eleven edition input place (is ∙ ap (λ (k : ℕ). refused k place) number)) q.answers
    strictly (accepted place rows) is r = absurd (never (leb (length rows) (room_with before words)) (ap (λ (x : Reply). x.answer) r))

-- 3. "Written from those rows, the header uses the shortest forms, the strict reader takes it and the meaning is the same;
-- doing this a second time changes no byte."

module _ {edition : ℕ} {input before words rows words' output out : List ℕ} {a b : declared.Reply} (p : TolerantPromise edition input before words a rows words') (z : a.answer ≡ 0)
    (q : WritePromise edition (first_rows a.rows rows) input output b out) (room : a.place ≤ length output) where
  -- the rows are written, as a header that is no longer
  pub tolerant_then_written : (b.answer ≡ 0) × (b.place ≤ a.place) × (b.rows ≡ a.rows)
  tolerant_then_written =
      let (place, found, is, f) = accepted_call p z in
      let short = short_form edition input place found p.bytes is in
      let table : first_rows a.rows rows ≡ table_of found = rows_read f in
      let l = lays q (ap (λ (x : List ℕ). write edition x input (length output)) table ∙ short.is (length output) (omega (arith, short.shorter, f.ends))) in
      (l.answers, omega (arith, l.ends, short.shorter, f.ends), omega (arith, l.count, ap length table, table_length found, f.count))

  -- which the strict reader takes, where as many rows are lent and sixteen words, as a table that means the same
  pub tolerant_then_strict : (payload : List ℕ) {lent lentWords after afterWords : List ℕ} {c : declared.Reply} → ReadPromise edition (sent b out payload) lent lentWords c after afterWords → b.rows ≤ room_with lent lentWords
      → SameTable (first_rows a.rows rows) input b (sent b out payload) lent c after
  tolerant_then_strict payload r few = write_read_same_table q tolerant_then_written.0 payload r few

  -- a second time: read tolerantly with any payload behind it, and written from those rows, it is the same header
  pub tolerant_again : (payload : List ℕ) {lent lentWords later laterWords output' out' : List ℕ} {c d : declared.Reply} → TolerantPromise edition (sent b out payload) lent lentWords c later laterWords → b.rows ≤ room_with lent lentWords
      → WritePromise edition (first_rows c.rows later) (sent b out payload) output' d out' → b.place ≤ length output' → (d.answer ≡ 0) × (d.place ≡ b.place) × (take d.place out' ≡ take b.place out)
  tolerant_again payload {output' = output'} {c = c} {d = d} r few s room' =
      let (bytes, w, l) = written_call q tolerant_then_written.0 in
      let front : take b.place out ≡ bytes = bytes_written l in
      let long : length (take b.place out) ≡ b.place = ap length front ∙ sym l.ends in
      let strictly = as_strict (alike bytes w front payload) r in
      let same = tolerant_then_strict payload strictly few in
      let again = read_write_same_bytes strictly same.answers s (omega (arith, same.ends)) in
      let header : take c.place (sent b out payload) ≡ take b.place out = ap (λ (n : ℕ). take n (sent b out payload)) (same.ends ∙ sym long) ∙ take-append_seam (take b.place out) payload in
      (again.answers, again.ends ∙ same.ends, ap (take d.place) again.leaves ∙ laid_front output' (take c.place (sent b out payload)) (ap length header ∙ long ∙ sym (again.ends ∙ same.ends)) ∙ header)
    where
      -- the two readings agree on it
      alike : (bytes : List ℕ) → write edition (first_rows a.rows rows) input (length output) ≡ written bytes → take b.place out ≡ bytes → (payload : List ℕ) → read_tolerant edition (sent b out payload) ≡ read edition (sent b out payload)
      alike bytes w front payload =
          let (found, is, means) = written_then_read edition (first_rows a.rows rows) input (length output) bytes p.bytes w payload in
          ap (λ (x : List ℕ). read_tolerant edition (x ++ payload)) front ∙ accepted_agrees edition (bytes ++ payload) (length bytes) found is ∙ sym is ∙ ap (λ (x : List ℕ). read edition (x ++ payload)) (sym front)
