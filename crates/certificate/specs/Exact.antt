-- Of calls of `read` and `write`: each answer is given exactly when document 01 says, over its grammar (`Grammar`, `Faults` and `WriterFaults` of `laws`); and the first fault decides.
-- That the input holds bytes, the promise of a call says, as in `Calls`.
use Rattle.std.specs.Prelude.{ℕ, ◌+◌, ◌≤◌, ◌<◌, List, ◌++◌, Bool, true, false, ◌⊎◌, ◌↔◌, ◌≡◌, refl, leb, length}
use Rattle.std.proofs.Common.{inl, inr, ap, sym, ◌∙◌, subst, arith}
use Rattle.meaning.specs.Basics.{pick}
use Rattle.meaning.specs.Headers.{Placed, Answer, refused, accepted, read}
use Rattle.meaning.specs.Writing.{Written, written, unwritten}
use Rattle.meaning.specs.Memory.{room_of, Reply, reply, read_reply, room_with, answer_by, write_reply, write, write_answer}
use Rattle.meaning.specs.Grammar.{HeaderOf}
use Rattle.meaning.specs.Faults.{ReaderRefusal}
use Rattle.meaning.specs.WriterFaults.{WriterFault, WritesAs}
use Rattle.laws_demands.specs.Decisive.{decided_by}
use Rattle.laws_demands.specs.ReadRefused.{place_of}
use Rattle.laws_demands.specs.Demands.{accepts_exactly, refuses_exactly, first_fault_decides, cut_before_place, writes_exactly, writer_refuses_exactly}
use Rattle.table.specs.declared.reply.Reply as declared
use Rattle.reader.specs.Promises.{ReadPromise}
use Rattle.writer.specs.Promise.{WritePromise}
use Rattle.certificate.specs.Calls.{had_room}
use Rattle.certificate.specs.Lent.{Filled, Laid, accepted_call, fills, written_call, lays}

-- 1. "The reader accepts exactly the edition's headers and gives exactly the rows."
-- A call answers 0 if and only if the input is a header of the edition, with any payload behind it, whose rows have room; then it leaves that table's rows and words, starts included.

pub record HeaderFilled (edition : ℕ) (input before words : List ℕ) (answer : declared.Reply) (after words' : List ℕ) : Type 0 where
  pub place : ℕ
  pub rows : List Placed
  pub header : HeaderOf edition input place rows
  pub room : length rows ≤ room_with before words
  pub filled : Filled place rows before words answer after words'

module _ {edition : ℕ} {input before words after words' : List ℕ} {a : declared.Reply} (p : ReadPromise edition input before words a after words') where
  -- what is answered is the definition's
  as_read : reply a.answer a.place a.rows ≡ read_reply (room_with before words) (read edition input)
  unfolding answer_by
  as_read = p.answers

  pub call_accepts_exactly : (a.answer ≡ 0) ↔ HeaderFilled edition input before words a after words'
  call_accepts_exactly = (
    (λ z.
        let (place, rows, is, f) = accepted_call p z in
        record { place = place; rows = rows; header = (accepts_exactly edition input place rows p.bytes).0 is; room = had_room p z is; filled = f }),
    λ h. h.filled.answers,
  )

  -- and every such header is accepted, where its rows have room
  pub call_accepts_header : (place : ℕ) (rows : List Placed) → HeaderOf edition input place rows → length rows ≤ room_with before words → Filled place rows before words a after words'
  call_accepts_header place rows h room = fills p ((accepts_exactly edition input place rows p.bytes).1 h) room

  -- 2. "Each refusal has its number and place, is given exactly when the documents say."
  -- A call answers this number, other than 0, with this place and these rows, if and only if what document 01 says of the number holds.

  pub call_refuses_exactly : (refusal place count : ℕ) → 1 ≤ refusal → (reply a.answer a.place a.rows ≡ reply refusal place count) ↔ ReaderRefusal edition input (room_with before words) refusal place count
  call_refuses_exactly refusal place count some =
      let both = refuses_exactly edition input (room_with before words) refusal place count p.bytes some in
      ((λ q. both.0 (sym as_read ∙ q)), λ r. as_read ∙ both.1 r)

  place_is : a.place ≡ place_of (read edition input)
  place_is = at (read edition input) as_read
    where
      at : (found : Answer) → reply a.answer a.place a.rows ≡ read_reply (room_with before words) found → a.place ≡ place_of found
      at (refused refusal place) q = ap (λ (x : Reply). x.place) q
      at (accepted place rows) q = ap (λ (x : Reply). x.place) q

  refused_as : {refusal place : ℕ} → read edition input ≡ refused refusal place → (a.answer ≡ refusal) × (a.place ≡ place)
  refused_as q = let r = as_read ∙ ap (read_reply (room_with before words)) q in (ap (λ (x : Reply). x.answer) r, ap (λ (x : Reply). x.place) r)

-- 3. "Reading goes byte by byte; the first fault decides."
-- Where a call refuses with 1 or 3 to 13, the input's front up to the fault decides: a call whose input has the same front, and anything behind it, refuses with the same number at the
-- same place, whatever it is lent; but that an input which then ends before the declared end is 2 at its own end.

pub record CallDecided (edition : ℕ) (input : List ℕ) (refusal place : ℕ) : Type 0 where
  pub front : List ℕ
  pub back : List ℕ
  pub parts : input ≡ front ++ back
  -- no more bytes from the place on than `decided_by` says
  pub near : length front ≤ place + decided_by refusal
  pub others : (other before words after words' : List ℕ) (b : declared.Reply) → ReadPromise edition (front ++ other) before words b after words'
      → ((b.answer ≡ refusal) × (b.place ≡ place)) ⊎ ((length other < length back) × (b.answer ≡ 2) × (b.place ≡ length (front ++ other)))

module _ {edition : ℕ} {input before words after words' : List ℕ} {a : declared.Reply} (p : ReadPromise edition input before words a after words') where
  -- an answer that is neither 0 nor 14 is a refusal of the definition
  was_refused : (a.answer ≡ 0 → ⊥) → (a.answer ≡ 14 → ⊥) → read edition input ≡ refused a.answer a.place
  was_refused some full = at (read edition input) refl (as_read p)
    where
      by_room : (place : ℕ) (rows : List Placed) (b : Bool) → a.answer ≡ pick b 0 14 → ⊥
      by_room place rows true r = some r
      by_room place rows false r = full r

      at : (found : Answer) → read edition input ≡ found → reply a.answer a.place a.rows ≡ read_reply (room_with before words) found → read edition input ≡ refused a.answer a.place
      at (refused refusal place) q r = q ∙ ap (λ (x : ℕ). refused x place) (sym (ap (λ (x : Reply). x.answer) r)) ∙ ap (refused a.answer) (sym (ap (λ (x : Reply). x.place) r))
      at (accepted place rows) q r = absurd (by_room place rows (leb (length rows) (room_with before words)) (ap (λ (x : Reply). x.answer) r))

  pub call_first_fault : (a.answer ≡ 0 → ⊥) → (a.answer ≡ 2 → ⊥) → (a.answer ≡ 14 → ⊥) → CallDecided edition input a.answer a.place
  call_first_fault some two full =
      let d = first_fault_decides edition input a.answer a.place p.bytes (was_refused some full) two in
      record { front = d.front; back = d.back; parts = d.parts; near = d.near; others = λ other before words after words' b q. as_called q (d.others other) }
    where
      as_called : {s lent lentWords later laterWords : List ℕ} {b : declared.Reply} {few : Type 0} → ReadPromise edition s lent lentWords b later laterWords
          → (read edition s ≡ refused a.answer a.place) ⊎ (few × (read edition s ≡ refused 2 (length s))) → ((b.answer ≡ a.answer) × (b.place ≡ a.place)) ⊎ (few × (b.answer ≡ 2) × (b.place ≡ length s))
      as_called q (inl r) = inl (refused_as q r)
      as_called q (inr (l, r)) = let (two, end) = refused_as q r in inr (l, two, end)

-- An input that is cut before the place that a call answers is 2 at its own end.

pub call_cut_is_two : {edition : ℕ} (front back : List ℕ) {before words after words' lent lentWords later laterWords : List ℕ} {a b : declared.Reply}
    → ReadPromise edition (front ++ back) before words a after words' → ReadPromise edition front lent lentWords b later laterWords → length front < a.place → (b.answer ≡ 2) × (b.place ≡ length front)
call_cut_is_two {edition} front back p q short = refused_as q (cut_before_place edition front back p.bytes (omega (arith, short, place_is p)))

-- 4. The writer: each answer exactly when the documents say, over the grammar.

module _ {edition : ℕ} {rows pool before after : List ℕ} {a : declared.Reply} (p : WritePromise edition rows pool before a after) where
  as_written : reply a.answer a.place a.rows ≡ write_reply (room_of rows) (write edition rows pool (length before))
  unfolding write_answer
  as_written = p.answers

  -- 0 if and only if the rows are a table of the edition within its limits whose bytes have room; these then stand at the output's front, and nothing behind them changed
  pub call_writes_exactly : (bytes : List ℕ) → WritesAs edition rows pool (length before) bytes → Laid bytes rows before a after
  call_writes_exactly bytes w = lays p ((writes_exactly edition rows pool (length before) bytes).1 w)

  pub call_wrote : a.answer ≡ 0 → (bytes : List ℕ) × WritesAs edition rows pool (length before) bytes × Laid bytes rows before a after
  call_wrote z = let (bytes, w, l) = written_call p z in (bytes, (writes_exactly edition rows pool (length before) bytes).0 w, l)

  -- what is said of a refusal's number holds, and where it holds that number is answered at that place
  pub call_write_refused : (a.answer ≡ 0 → ⊥) → WriterFault edition rows pool (length before) a.answer a.place
  call_write_refused some = at (write edition rows pool (length before)) refl as_written
    where
      at : (found : Written) → write edition rows pool (length before) ≡ found → reply a.answer a.place a.rows ≡ write_reply (room_of rows) found → WriterFault edition rows pool (length before) a.answer a.place
      at (written bytes) q r = absurd (some (ap (λ (x : Reply). x.answer) r))
      at (unwritten refusal place) q r =
          let f = (writer_refuses_exactly edition rows pool (length before) refusal place).0 q in
          subst (λ (x : ℕ). WriterFault edition rows pool (length before) x a.place) (sym (ap (λ (x : Reply). x.answer) r)) (subst (WriterFault edition rows pool (length before) refusal) (sym (ap (λ (x : Reply). x.place) r)) f)

  pub call_write_refuses : (refusal place : ℕ) → WriterFault edition rows pool (length before) refusal place → (a.answer ≡ refusal) × (a.place ≡ place) × (a.rows ≡ 0)
  call_write_refuses refusal place f =
      let r = as_written ∙ ap (write_reply (room_of rows)) ((writer_refuses_exactly edition rows pool (length before) refusal place).1 f) in
      (ap (λ (x : Reply). x.answer) r, ap (λ (x : Reply). x.place) r, ap (λ (x : Reply). x.rows) r)
