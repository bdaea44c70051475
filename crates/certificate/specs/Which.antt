-- Order 9, of calls of `which`: one answer, and there is one for every input of bytes and all that is lent. An edition that accepts the input in the same memory gives the same
-- answer, rows and words, and is named; both are named exactly if the table is plain; and what was written under one edition is never answered with the other alone.
use Rattle.std.specs.Prelude.{ℕ, List, ◌++◌, Bool, true, false, ◌⊎◌, ◌≡◌, refl, T, eqb, leb, length}
use Rattle.std.proofs.Common.{inl, inr, ap, sym, ◌∙◌, arith, eq-eqb, eqb-true}
use Rattle.meaning.specs.Basics.{pick}
use Rattle.meaning.specs.Told.{Edition}
use Rattle.meaning.specs.Headers.{Placed, Answer, refused, accepted, read}
use Rattle.meaning.specs.Memory.{Reply, reply, read_reply, read_memory, room_with, table_of, words_read, laid_over, answer_by, rows_by, words_by}
use Rattle.meaning.specs.Which.{Sorted, sorted, editions_of, read_either, which_answer, which_rows, which_words}
use Rattle.laws_steps.specs.Logic.{are_bytes}
use Rattle.laws_tables.specs.Ties.{number_of, plain_table}
use Rattle.laws_demands.specs.Sorting.{Names, allowed_named, allowed_rows, three_if_plain_table, written_named}
use Rattle.table.specs.declared.reply.Reply as declared
use Rattle.reader.specs.Promises.{ReadPromise}
use Rattle.writer.specs.Promise.{WritePromise}
use Rattle.which.specs.declared.Sorted as which
use Rattle.which.specs.Promise.{WhichPromise}
use Rattle.certificate.specs.Lent.{first_rows, rows_read, accepted_call, written_call, bytes_written}
use Rattle.certificate.specs.Calls.{sent}

abbrev as_sorted : Sorted → which.Sorted
as_sorted s = record { answer = s.reply.answer; place = s.reply.place; rows = s.reply.rows; editions = s.editions }

pub one_which : {input before words after words' later words'' : List ℕ} {a b : which.Sorted} → WhichPromise input before words a after words' → WhichPromise input before words b later words'' → (a ≡ b) × (after ≡ later) × (words' ≡ words'')
one_which p q = (ap as_sorted (p.answers ∙ sym q.answers), p.rows ∙ sym q.rows, p.carries ∙ sym q.carries)

pub some_which : (input before words : List ℕ) → T (are_bytes input) → (a : which.Sorted) × (after : List ℕ) × (words' : List ℕ) × WhichPromise input before words a after words'
some_which input before words t = (as_sorted (which_answer input before words), which_rows input before words, which_words input before words, record { bytes = t; answers = refl; rows = refl; carries = refl })

-- "A refused call changes nothing lent."
pub refused_which_changes_nothing : {input before words after words' : List ℕ} {a : which.Sorted} → WhichPromise input before words a after words' → (a.answer ≡ 0 → ⊥) → (after ≡ before) × (words' ≡ words) × (a.editions ≡ 0)
unfolding which_answer which_rows which_words
refused_which_changes_nothing {input} {before} {words} {after} {words'} {a} p some = at (read_either input) (ap (λ (s : Sorted). s.reply.answer) p.answers) p.rows p.carries (ap (λ (s : Sorted). s.editions) p.answers)
  where
    none : (n editions : ℕ) → a.answer ≡ n → a.editions ≡ pick (eqb n 0) editions 0 → a.editions ≡ 0
    none n editions h e = by (eqb n 0) refl e
      where
        by : (z : Bool) → eqb n 0 ≡ z → a.editions ≡ pick z editions 0 → a.editions ≡ 0
        by true q e = absurd (some (h ∙ eqb-true n 0 q))
        by false q e = e

    fits : (rows : List Placed) (room : Bool) → a.answer ≡ pick room 0 14 → after ≡ pick room (laid_over before (table_of rows)) before → words' ≡ pick room (laid_over words (words_read rows)) words → (after ≡ before) × (words' ≡ words)
    fits rows true h m c = absurd (some h)
    fits rows false h m c = (m, c)

    at : (found : Answer) → a.answer ≡ (read_reply (room_with before words) found).answer → after ≡ read_memory (room_with before words) table_of before found → words' ≡ read_memory (room_with before words) words_read words found
        → a.editions ≡ pick (eqb (read_reply (room_with before words) found).answer 0) (editions_of input) 0 → (after ≡ before) × (words' ≡ words) × (a.editions ≡ 0)
    at (refused refusal place) h m c e = (m, c, none refusal (editions_of input) h e)
    at (accepted place rows) h m c e =
        let (x, y) = fits rows (leb (length rows) (room_with before words)) h m c in
        (x, y, none (pick (leb (length rows) (room_with before words)) 0 14) (editions_of input) h e)

-- an edition that accepts the input: the same answer, rows and words, and it is named
pub which_as_read : (e : Edition) {input before words after words' later words'' : List ℕ} {a : declared.Reply} {b : which.Sorted} → ReadPromise (number_of e) input before words a after words' → a.answer ≡ 0
    → WhichPromise input before words b later words'' → (reply b.answer b.place b.rows ≡ reply a.answer a.place a.rows) × (later ≡ after) × (words'' ≡ words') × Names b.editions e
unfolding which_answer which_rows which_words answer_by rows_by words_by
which_as_read e {input} {before} {words} {a = a} {b = b} p z q =
    let (place, found, is, f) = accepted_call p z in
    let same : read_either input ≡ read (number_of e) input = allowed_rows e input p.bytes is ∙ sym is in
    let r : reply b.answer b.place b.rows ≡ reply a.answer a.place a.rows = ap (λ (s : Sorted). s.reply) q.answers ∙ ap (read_reply (room_with before words)) same ∙ sym p.answers in
    (r, q.rows ∙ ap (read_memory (room_with before words) table_of before) same ∙ sym p.rows, q.carries ∙ ap (read_memory (room_with before words) words_read words) same ∙ sym p.carries, named (ap (λ (s : Sorted). s.editions) q.answers) (ap (λ (x : Reply). x.answer) (sym (ap (λ (s : Sorted). s.reply) q.answers) ∙ r) ∙ z) (allowed_named e input is))
  where
    named : {n : ℕ} → b.editions ≡ pick (eqb n 0) (editions_of input) 0 → n ≡ 0 → Names (editions_of input) e → Names b.editions e
    named {n} h k (inl x) = inl (h ∙ (rw (eq-eqb n 0 k) x))
    named {n} h k (inr x) = inr (h ∙ (rw (eq-eqb n 0 k) x))

-- the editions of an answer of 0 are those that allow the bytes
editions_are_lem : {input before words after words' : List ℕ} {a : which.Sorted} → WhichPromise input before words a after words' → a.answer ≡ 0 → a.editions ≡ editions_of input
unfolding which_answer
editions_are_lem {input} {before} {words} {a = a} p z =
    let n : a.answer ≡ (read_reply (room_with before words) (read_either input)).answer = ap (λ (s : Sorted). s.reply.answer) p.answers in
    ap (λ (s : Sorted). s.editions) p.answers ∙ ap (λ (b : Bool). pick b (editions_of input) 0) (eq-eqb (read_reply (room_with before words) (read_either input)).answer 0 (sym n ∙ z))

-- "1, 2, or 3 for both": 3 exactly if the table is plain
pub which_three_if_plain : (e : Edition) {input before words after words' later words'' : List ℕ} {a : declared.Reply} {b : which.Sorted} → ReadPromise (number_of e) input before words a after words' → a.answer ≡ 0
    → WhichPromise input before words b later words'' → ((plain_table (first_rows a.rows after) input ≡ true) × (b.editions ≡ 3)) ⊎ ((plain_table (first_rows a.rows after) input ≡ false) × (b.editions ≡ number_of e))
which_three_if_plain e {input} {after = after} {a = a} {b = b} p z q =
    let (place, found, is, f) = accepted_call p z in
    let r = (which_as_read e p z q).0 in
    at (table_of found) (rows_read f) (editions_are_lem q (ap (λ (x : Reply). x.answer) r ∙ z)) (three_if_plain_table e input place found p.bytes is)
  where
    at : (table : List ℕ) → first_rows a.rows after ≡ table → b.editions ≡ editions_of input
        → ((plain_table table input ≡ true) × (editions_of input ≡ 3)) ⊎ ((plain_table table input ≡ false) × (editions_of input ≡ number_of e))
        → ((plain_table (first_rows a.rows after) input ≡ true) × (b.editions ≡ 3)) ⊎ ((plain_table (first_rows a.rows after) input ≡ false) × (b.editions ≡ number_of e))
    at table h k (inl (x, y)) = inl (ap (λ (m : List ℕ). plain_table m input) h ∙ x, k ∙ y)
    at table h k (inr (x, y)) = inr (ap (λ (m : List ℕ). plain_table m input) h ∙ x, k ∙ y)

-- what was written under one edition, with any payload, is never answered with the other alone
pub written_then_which : (e : Edition) {rows pool output out before words after words' : List ℕ} {a : declared.Reply} {b : which.Sorted} → WritePromise (number_of e) rows pool output a out → a.answer ≡ 0 → (payload : List ℕ)
    → WhichPromise (sent a out payload) before words b after words' → b.answer ≡ 0 → Names b.editions e
written_then_which e {rows} {pool} {output} {out} {a = a} {b = b} p z payload q w =
    let (bytes, is, l) = written_call p z in
    let front : bytes ++ payload ≡ sent a out payload = ap (λ (x : List ℕ). x ++ payload) (sym (bytes_written l)) in
    at (editions_are_lem q w ∙ ap editions_of (sym front)) (written_named e rows pool (length output) bytes p.bytes is payload)
  where
    at : {n : ℕ} → b.editions ≡ n → Names n e → Names b.editions e
    at h (inl x) = inl (h ∙ x)
    at h (inr x) = inr (h ∙ x)
