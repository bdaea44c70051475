-- What the customer buys, of calls of `read` and `write`: any results that the promises allow, with the memory lent before and after.
-- The demands over the meaning (`laws`) carry over, since a call's answer and memory are the meaning's.
-- That input and pool hold bytes, the promise of a call says: in the code each of their numbers is a u8.
use Rattle.std.specs.Prelude.{ℕ, ◌≤◌, List, ◌++◌, Bool, true, false, ◌⊎◌, ◌≡◌, refl, leb, length, take, drop}
use Rattle.std.proofs.Common.{inl, inr, ap, sym, ◌∙◌, arith, leb-true, take-append-drop, length-take-le}
use Rattle.meaning.specs.Basics.{pick}
use Rattle.meaning.specs.Told.{Edition, Strictness, strict}
use Rattle.meaning.specs.Headers.{Placed, Answer, refused, accepted, read_by, read}
use Rattle.meaning.specs.Writing.{Written, written, unwritten}
use Rattle.meaning.specs.Memory.{table_of, cells_of, skips_of, room_of, laid_over, Reply, read_reply, read_memory, words_read, room_with, answer_by, rows_by, words_by, write_reply, write_memory, write, write_answer, write_output}
use Rattle.meaning.specs.Payload.{part_start, part_end, part_bytes, payload_start, payload_end, payload_bytes}
use Rattle.laws_steps.specs.PlainRows.{other}
use Rattle.laws_tables.specs.Ties.{number_of, SameMeaning, plain_table}
use Rattle.laws_demands.specs.Demands.{read_then_written, ReadsSame, written_then_read, RefusedSevenOrNine, label_cannot_lie, payload_alters_nothing}
use Rattle.laws_tables.specs.Answered.{accepted_shape}
use Rattle.listing.specs.Listed.{table_length}
use Rattle.table.specs.declared.reply.Reply as declared
use Rattle.reader.specs.declared.Part.{Part}
use Rattle.reader.specs.Promises.{ReadsBy, ReadPromise, PartPromise, PayloadPromise}
use Rattle.writer.specs.Promise.{WritePromise}
use Rattle.certificate.specs.OneAnswer.{one_read}
use Rattle.certificate.specs.Lent.{first_rows, behind_rows, rows_read, rows_behind, bytes_written, accepted_call, fills, refuses, lays, written_call, same_count}

-- a call that answers 0 had room for the rows that it read
pub had_room : {w : Strictness} {edition : ℕ} {input before words after words' : List ℕ} {a : declared.Reply} → ReadsBy w edition input before words a after words' → a.answer ≡ 0 → {place : ℕ} {rows : List Placed} → read_by w edition input ≡ accepted place rows → length rows ≤ room_with before words
unfolding answer_by
had_room {before = before} {words = words} {a = a} p z {place} {rows} is = at (leb (length rows) (room_with before words)) refl (ap (λ (x : Reply). x.answer) (p.answers ∙ ap (read_reply (room_with before words)) is))
  where
    at : (b : Bool) → leb (length rows) (room_with before words) ≡ b → a.answer ≡ pick b 0 14 → length rows ≤ room_with before words
    at true q r = leb-true (length rows) (room_with before words) q
    at false q r = absurd (omega arith)

-- 1. "Read then written: the same bytes."
-- An accepted header's rows, written under the same edition with the input as pool, where the output has room: its bytes up to the payload
-- stand at the output's front, and nothing behind them changed.

pub record SameBytes (input : List ℕ) (was : declared.Reply) (output : List ℕ) (answer : declared.Reply) (after : List ℕ) : Type 0 where
  pub answers : answer.answer ≡ 0
  pub ends : answer.place ≡ was.place
  pub count : answer.rows ≡ was.rows
  pub leaves : after ≡ laid_over output (take was.place input)

pub read_write_same_bytes : {edition : ℕ} {input before words rows words' output after : List ℕ} {a : declared.Reply} {b : declared.Reply}
    → ReadPromise edition input before words a rows words' → a.answer ≡ 0 → WritePromise edition (first_rows a.rows rows) input output b after → a.place ≤ length output
    → SameBytes input a output b after
read_write_same_bytes {edition} {input} {rows = rows} {output = output} {a = a} p z q room =
    let (place, found, is, f) = accepted_call p z in
    let table : first_rows a.rows rows ≡ table_of found = rows_read f in
    let again = read_then_written edition input place found p.bytes is (length output) (omega (arith, f.ends)) in
    let l = lays q (ap (λ (x : List ℕ). write edition x input (length output)) table ∙ again) in
    let shape = accepted_shape strict edition input place found p.bytes is in
    record {
      answers = l.answers;
      ends = l.ends ∙ length-take-le place input shape.0 ∙ sym f.ends;
      count = omega (arith, l.count, ap length table, table_length found, f.count);
      leaves = l.leaves ∙ ap (λ (n : ℕ). laid_over output (take n input)) (sym f.ends);
    }

-- 2. "Written then read: the same table."
-- What was written, with any payload behind it, read under the same edition where as many rows are lent, and sixteen words: accepted up to the payload,
-- with as many rows, which mean the same; nothing behind them changed.

-- the bytes at the output's front, and a payload
abbrev pub sent : declared.Reply → List ℕ → List ℕ → List ℕ
sent was out payload = take was.place out ++ payload

pub record SameTable (rows pool : List ℕ) (was : declared.Reply) (input before : List ℕ) (answer : declared.Reply) (after : List ℕ) : Type 0 where
  pub answers : answer.answer ≡ 0
  pub ends : answer.place ≡ was.place
  pub count : answer.rows ≡ was.rows
  pub means : SameMeaning rows pool (first_rows answer.rows after) input
  pub leaves : behind_rows answer.rows after ≡ behind_rows answer.rows before

-- under any edition that reads the written bytes as the same table
same_table : {edition reading : ℕ} {rows pool output out before words after words' bytes : List ℕ} {a : declared.Reply} {b : declared.Reply} (p : WritePromise edition rows pool output a out) → write edition rows pool (length output) ≡ written bytes
    → (payload : List ℕ) → ReadPromise reading (sent a out payload) before words b after words' → a.rows ≤ room_with before words → ReadsSame reading bytes payload rows pool → SameTable rows pool a (sent a out payload) before b after
same_table {reading = reading} {out = out} {after = after} {bytes = bytes} {a = a} {b = b} p w payload q room (found, is, means) =
    let l = lays p w in
    let front : bytes ++ payload ≡ sent a out payload = ap (λ (x : List ℕ). x ++ payload) (sym (bytes_written l)) in
    let n : length found ≡ a.rows = same_count p w found (bytes ++ payload) means in
    let f = fills q (ap (read reading) (sym front) ∙ is) (omega arith) in
    record {
      answers = f.answers;
      ends = f.ends ∙ sym l.ends;
      count = f.count ∙ n;
      means = (means.0 ∙ ap (cells_of (bytes ++ payload)) (sym (rows_read f)) ∙ ap (λ (x : List ℕ). cells_of x (first_rows b.rows after)) front, means.1 ∙ ap skips_of (sym (rows_read f)));
      leaves = rows_behind f;
    }

pub write_read_same_table : {edition : ℕ} {rows pool output out before words after words' : List ℕ} {a : declared.Reply} {b : declared.Reply}
    → WritePromise edition rows pool output a out → a.answer ≡ 0 → (payload : List ℕ) → ReadPromise edition (sent a out payload) before words b after words' → a.rows ≤ room_with before words
    → SameTable rows pool a (sent a out payload) before b after
write_read_same_table {edition} {rows} {pool} {output} p z payload q room =
    let (bytes, w, l) = written_call p z in
    same_table p w payload q room (written_then_read edition rows pool (length output) bytes p.bytes w payload)

-- 3. "The label can't lie": "A table written under one edition and read under the other is the same table, or is refused with 7 or 9: never a different table."
-- The same if the table is plain, where its rows have room; refused if it is not, whatever is lent, and then no row and no word that was lent is changed.

pub record RefusesLabel (before words : List ℕ) (answer : declared.Reply) (after words' : List ℕ) : Type 0 where
  pub answers : (answer.answer ≡ 7) ⊎ (answer.answer ≡ 9)
  pub count : answer.rows ≡ 0
  pub leaves : after ≡ before
  pub carries : words' ≡ words

pub label_never_lies : (e : Edition) {rows pool output out before words after words' : List ℕ} {a : declared.Reply} {b : declared.Reply}
    → WritePromise (number_of e) rows pool output a out → a.answer ≡ 0 → (payload : List ℕ) → ReadPromise (number_of (other e)) (sent a out payload) before words b after words'
    → ((plain_table rows pool ≡ true) × (a.rows ≤ room_with before words → SameTable rows pool a (sent a out payload) before b after)) ⊎ ((plain_table rows pool ≡ false) × RefusesLabel before words b after words')
label_never_lies e {rows} {pool} {output} {out} {before} {words} {after} {words'} {a} {b} p z payload q =
    let (bytes, w, l) = written_call p z in
    at bytes w (ap (λ (x : List ℕ). x ++ payload) (bytes_written l)) (label_cannot_lie e rows pool (length output) bytes p.bytes w payload)
  where
    as_answered : {refusal : ℕ} → b.answer ≡ refusal → (refusal ≡ 7) ⊎ (refusal ≡ 9) → (b.answer ≡ 7) ⊎ (b.answer ≡ 9)
    as_answered is (inl seven) = inl (is ∙ seven)
    as_answered is (inr nine) = inr (is ∙ nine)

    at : (bytes : List ℕ) → write (number_of e) rows pool (length output) ≡ written bytes → sent a out payload ≡ bytes ++ payload
        → ((plain_table rows pool ≡ true) × ReadsSame (number_of (other e)) bytes payload rows pool) ⊎ ((plain_table rows pool ≡ false) × RefusedSevenOrNine (number_of (other e)) (bytes ++ payload))
        → ((plain_table rows pool ≡ true) × (a.rows ≤ room_with before words → SameTable rows pool a (sent a out payload) before b after)) ⊎ ((plain_table rows pool ≡ false) × RefusesLabel before words b after words')
    at bytes w front (inl (plain, same)) = inl (plain, λ room. same_table p w payload q room same)
    at bytes w front (inr (plain, (refusal, place, is, k))) =
        let (answer, _, count, leaves, carries) = refuses q (ap (read (number_of (other e))) front ∙ is) in
        inr (plain, record { answers = as_answered answer k; count = count; leaves = leaves; carries = carries })

-- the first half where there is room
pub with_room : {A B C R : Type 0} → R → (A × (R → B)) ⊎ C → (A × B) ⊎ C
with_room room (inl (a, f)) = inl (a, f room)
with_room room (inr c) = inr c

-- What a gateway wants: whatever rows and words are lent, an answer 0 under the other edition is that same table.

pub zero_is_same_table : (e : Edition) {rows pool output out before words after words' : List ℕ} {a : declared.Reply} {b : declared.Reply}
    → WritePromise (number_of e) rows pool output a out → a.answer ≡ 0 → (payload : List ℕ) → ReadPromise (number_of (other e)) (sent a out payload) before words b after words' → b.answer ≡ 0
    → (plain_table rows pool ≡ true) × SameTable rows pool a (sent a out payload) before b after
zero_is_same_table e {rows} {pool} {output} {out} {before} {words} {after} {words'} {a} {b} p z payload q accepts =
    let (bytes, w, l) = written_call p z in
    at bytes w (ap (λ (x : List ℕ). x ++ payload) (bytes_written l)) (label_cannot_lie e rows pool (length output) bytes p.bytes w payload)
  where
    at : (bytes : List ℕ) → write (number_of e) rows pool (length output) ≡ written bytes → sent a out payload ≡ bytes ++ payload
        → ((plain_table rows pool ≡ true) × ReadsSame (number_of (other e)) bytes payload rows pool) ⊎ ((plain_table rows pool ≡ false) × RefusedSevenOrNine (number_of (other e)) (bytes ++ payload))
        → (plain_table rows pool ≡ true) × SameTable rows pool a (sent a out payload) before b after
    at bytes w front (inl (plain, (found, is, means))) =
        let n : length found ≡ a.rows = same_count p w found (bytes ++ payload) means in
        let room = had_room q accepts (ap (read (number_of (other e))) front ∙ is) in
        (plain, same_table p w payload q (omega arith) (found, is, means))
    at bytes w front (inr (plain, (refusal, place, is, k))) = absurd (not_zero_refusal k (refuses q (ap (read (number_of (other e))) front ∙ is)).0)
      where
        not_zero_refusal : (refusal ≡ 7) ⊎ (refusal ≡ 9) → b.answer ≡ refusal → ⊥
        not_zero_refusal (inl seven) is = omega arith
        not_zero_refusal (inr nine) is = omega arith

-- 4. "Payload bytes and their number never alter an accepted answer."
-- With another payload behind the header: the same answer, the same rows and the same words.

pub payload_changes_nothing : {edition : ℕ} {input before words after words₁ later words₂ : List ℕ} {a b : declared.Reply}
    → ReadPromise edition input before words a after words₁ → a.answer ≡ 0 → (payload : List ℕ) → ReadPromise edition (take a.place input ++ payload) before words b later words₂ → (a ≡ b) × (after ≡ later) × (words₁ ≡ words₂)
unfolding answer_by rows_by words_by
payload_changes_nothing {edition} {input} {before} {words} {a = a} p z payload q =
    let (place, rows, is, f) = accepted_call p z in
    let ends : take a.place input ++ payload ≡ take place input ++ payload = ap (λ (n : ℕ). take n input ++ payload) f.ends in
    let alike : read edition (take a.place input ++ payload) ≡ read edition input = ap (read edition) ends ∙ payload_alters_nothing edition input place rows p.bytes is payload ∙ sym is in
    one_read p (record { bytes = p.bytes; answers = q.answers ∙ ap (read_reply (room_with before words)) alike; rows = q.rows ∙ ap (read_memory (room_with before words) table_of before) alike; carries = q.carries ∙ ap (read_memory (room_with before words) words_read words) alike })

-- 5. "The payload is handed back as a part of the caller's own input."
-- Behind an accepted header stands the payload: its bytes, and as two numbers, from the answer's place to the input's end.

pub payload_behind_header : {edition : ℕ} {input before words after words' bytes : List ℕ} {a : declared.Reply} {part : Part} → ReadPromise edition input before words a after words' → a.answer ≡ 0
    → PayloadPromise edition input bytes → PartPromise edition input part → (take a.place input ++ bytes ≡ input) × (part.start ≡ a.place) × (part.end ≡ length input)
unfolding payload_bytes payload_start payload_end
payload_behind_header {input = input} {a = a} p z q r =
    let (place, rows, is, f) = accepted_call p z in
    let payload : take a.place input ++ _ ≡ take a.place input ++ drop a.place input = ap (λ (x : List ℕ). take a.place input ++ x) (q.bytes ∙ ap (part_bytes input) is ∙ ap (λ (n : ℕ). drop n input) (sym f.ends)) in
    (payload ∙ take-append-drop a.place input, r.starts ∙ ap part_start is ∙ sym f.ends, r.ends ∙ ap (part_end input) is)

-- 6. "A refused call changes nothing lent." Whatever refuses it: 14 and 16, for want of room, too.

pub refused_read_changes_nothing : {w : Strictness} {edition : ℕ} {input before words after words' : List ℕ} {a : declared.Reply} → ReadsBy w edition input before words a after words' → (a.answer ≡ 0 → ⊥) → (after ≡ before) × (words' ≡ words)
unfolding answer_by rows_by words_by
refused_read_changes_nothing {w} {edition} {input} {before} {words} {after} {words'} {a} p some = at (read_by w edition input) (ap (λ (r : Reply). r.answer) p.answers) p.rows p.carries
  where
    fits : (rows : List Placed) (room : Bool) → a.answer ≡ pick room 0 14 → after ≡ pick room (laid_over before (table_of rows)) before → words' ≡ pick room (laid_over words (words_read rows)) words → (after ≡ before) × (words' ≡ words)
    fits rows true r m c = absurd (some r)
    fits rows false r m c = (m, c)

    at : (found : Answer) → a.answer ≡ (read_reply (room_with before words) found).answer → after ≡ read_memory (room_with before words) table_of before found → words' ≡ read_memory (room_with before words) words_read words found → (after ≡ before) × (words' ≡ words)
    at (refused refusal place) r m c = (m, c)
    at (accepted place rows) r m c = fits rows (leb (length rows) (room_with before words)) r m c

pub refused_write_changes_nothing : {edition : ℕ} {rows pool before after : List ℕ} {a : declared.Reply} → WritePromise edition rows pool before a after → (a.answer ≡ 0 → ⊥) → after ≡ before
unfolding write_answer write_output
refused_write_changes_nothing {edition} {rows} {pool} {before} {after} {a} p some = at (write edition rows pool (length before)) (ap (λ (r : Reply). r.answer) p.answers) p.leaves
  where
    at : (found : Written) → a.answer ≡ (write_reply (room_of rows) found).answer → after ≡ write_memory before found → after ≡ before
    at (unwritten refusal place) r m = m
    at (written bytes) r m = absurd (some r)
