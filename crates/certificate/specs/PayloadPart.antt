-- "The payload is handed back as a part of the caller's own input; the view takes edition and input only, so 14 can't arise, and on any other
-- refusal it is the empty part at the front": of calls of the view, as bytes (`reader::payload`) and as two numbers (`gamulisyan_payload`).
use Rattle.std.specs.Prelude.{ℕ, ◌+◌, ◌-◌, ◌≤◌, Bool, ◌≡◌, T, leb, drop}
use mathlib.Core.List.{List, [], ◌++◌}
use Rattle.std.proofs.Math.Bool.{true, false}
use Rattle.std.proofs.Math.Path.{refl, ap, sym}
use Rattle.std.proofs.Common.{◌∙◌, arith, length-drop, length-take, drop-drop}
use Rattle.std.proofs.Math.ListN.{length, take, take-append-drop}
use Rattle.meaning.specs.Basics.{pick}
use Rattle.meaning.specs.Told.{Edition, Label, known, unknown, label_of, strict, told_by}
use Rattle.meaning.specs.Headers.{Answer, refused, accepted, envelopes_most, labelled, read_by, read}
use Rattle.meaning.specs.Memory.{Reply, reply, read_reply, room_with, answer_by}
use Rattle.meaning.specs.Payload.{part_start, part_end, part_bytes, payload_start, payload_end, payload_bytes}
use Rattle.laws_tables.specs.Refusals.{may_refuse, refused_shape as header_refused}
use Rattle.table.specs.declared.reply.Reply as declared
use Rattle.reader.specs.declared.Part.{Part}
use Rattle.reader.specs.Promises.{ReadPromise, PartPromise, PayloadPromise}

-- bytes that are those of the input from a part's start up to its end: the input is what stands before the part, these bytes, and what stands behind it
pub record IsPart (input bytes : List ℕ) (part : Part) : Type 0 where
  pub forward : part.start ≤ part.end
  pub inside : part.end ≤ length input
  pub long : length bytes ≡ part.end - part.start
  pub between : bytes ≡ take (part.end - part.start) (drop part.start input)
  pub whole : take part.start input ++ (bytes ++ drop part.end input) ≡ input

-- For every edition number and every input, refused ones too, the bytes that one call hands back are those between the numbers that the other answers.
pub payload_is_part : {edition : ℕ} {input bytes : List ℕ} {part : Part} → PayloadPromise edition input bytes → PartPromise edition input part → IsPart input bytes part
payload_is_part {edition} {input} {bytes} {part} q r =
    let many = part.end - part.start in
    let behind = drop part.start input in
    let n : part.start + many ≡ part.end = omega (arith, r.forward) in
    let is : bytes ≡ take many behind = q.is_part ∙ ap (λ (k : ℕ). take (payload_end edition input - k) (drop k input)) (sym r.starts) ∙ ap (λ (k : ℕ). take (k - part.start) behind) (sym r.ends) in
    let rest : drop part.end input ≡ drop many behind = ap (λ (k : ℕ). drop k input) (sym n) ∙ sym (drop-drop many part.start input) in
    let joined : bytes ++ drop part.end input ≡ behind = ap (λ (x : List ℕ). x ++ drop part.end input) is ∙ ap (λ (x : List ℕ). take many behind ++ x) rest ∙ take-append-drop many behind in
    record {
      forward = r.forward;
      inside = r.inside;
      long = omega (arith, ap length is, length-take many behind, length-drop part.start input, r.forward, r.inside);
      between = is;
      whole = ap (λ (x : List ℕ). take part.start input ++ x) joined ∙ take-append-drop part.start input;
    }

-- a header is never refused with 14
never_fourteen : (edition : ℕ) (input : List ℕ) {refusal place : ℕ} → read edition input ≡ refused refusal place → refusal ≡ 14 → ⊥
unfolding read_by
never_fourteen edition input {refusal} {place} q is = at (label_of edition) q
  where
    fourteen : (e : Edition) (k : ℕ) → k ≡ 14 → T (may_refuse (told_by strict e) k) → ⊥
    fourteen e k p t = rw p at t

    at : (l : Label) → labelled strict input l ≡ refused refusal place → ⊥
    at unknown r = let a : 1 ≡ refusal = cc r in absurd (omega arith)
    at (known e) r = fourteen e refusal is (header_refused envelopes_most (told_by strict e) input refusal place r).0

module _ {edition : ℕ} {input before words after words' bytes : List ℕ} {a : declared.Reply} {part : Part} (p : ReadPromise edition input before words a after words') (q : PayloadPromise edition input bytes) (r : PartPromise edition input part) where
  -- "on any other refusal it is the empty part at the front": whatever the reader refuses, but for want of room
  pub refused_payload_empty : (a.answer ≡ 0 → ⊥) → (a.answer ≡ 14 → ⊥) → (bytes ≡ []) × (part.start ≡ 0) × (part.end ≡ 0)
  unfolding answer_by payload_bytes payload_start payload_end
  refused_payload_empty some roomy = at (read edition input) (ap (λ (x : Reply). x.answer) p.answers) q.bytes r.starts r.ends
    where
      fits : (room : Bool) → a.answer ≡ pick room 0 14 → (bytes ≡ []) × (part.start ≡ 0) × (part.end ≡ 0)
      fits true x = absurd (some x)
      fits false x = absurd (roomy x)

      at : (found : Answer) → a.answer ≡ (read_reply (room_with before words) found).answer → bytes ≡ part_bytes input found → part.start ≡ part_start found → part.end ≡ part_end input found → (bytes ≡ []) × (part.start ≡ 0) × (part.end ≡ 0)
      at (refused refusal place) x b s e = (b, s, e)
      at (accepted place rows) x b s e = fits (leb (length rows) (room_with before words)) x

  -- "so 14 can't arise": where the reader has no room for the rows, the payload stands behind the header all the same
  pub payload_without_room : a.answer ≡ 14 → (take a.place input ++ bytes ≡ input) × (part.start ≡ a.place) × (part.end ≡ length input)
  unfolding answer_by payload_bytes payload_start payload_end
  payload_without_room z = at (read edition input) refl p.answers q.bytes r.starts r.ends
    where
      at : (found : Answer) → read edition input ≡ found → reply a.answer a.place a.rows ≡ read_reply (room_with before words) found → bytes ≡ part_bytes input found → part.start ≡ part_start found → part.end ≡ part_end input found
          → (take a.place input ++ bytes ≡ input) × (part.start ≡ a.place) × (part.end ≡ length input)
      at (refused refusal place) is x b s e = absurd (never_fourteen edition input is (sym (ap (λ (y : Reply). y.answer) x) ∙ z))
      at (accepted place rows) is x b s e =
          let n : a.place ≡ place = ap (λ (y : Reply). y.place) x in
          (ap (λ (k : ℕ). take k input ++ bytes) n ∙ ap (λ (y : List ℕ). take place input ++ y) b ∙ take-append-drop place input, s ∙ sym n, e)
