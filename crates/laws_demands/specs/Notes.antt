-- Order 5: "Bytes 09, 0A and 0D become allowed in kinds 20, 22 and 28 and nowhere else."
use Rattle.std.specs.Prelude.{ℕ, ◌<◌, Bool, true, false, ◌||◌, not, ◌≡◌, refl, T, eqb, leb}
use Rattle.std.proofs.Common.{arith, eqb-true}
use Rattle.std.proofs.lemmas.Bool.{lt-leb}
use Rattle.meaning.specs.Basics.{every, In}
use Rattle.meaning.specs.Kinds.{any_text, comments, own_value}
use Rattle.meaning.specs.Bytes.{line, note, is_break, text_byte}
use Rattle.meaning.specs.Told.{Edition}
use Rattle.meaning.specs.Editions.{Room, Form, text, date, number, block, itself, opens, quiet, Move, moves, shared, own}
use Rattle.laws_steps.specs.Tables.{every_in, all_rooms, each_room}

abbrev pub is_note_kind : ℕ → Bool
is_note_kind kind = eqb kind any_text || eqb kind comments || eqb kind own_value

abbrev pub is_note : Form → Bool
is_note (text note) = true
is_note (text line) = false
is_note (date reach designated) = false
is_note number = false
is_note (block width) = false
is_note itself = false
is_note opens = false
is_note quiet = false

abbrev alike : Bool → Bool → Bool
alike true b = b
alike false b = not b

same : (a b : Bool) → T (alike a b) → a ≡ b
same true true t = refl
same true false t = absurd t
same false true t = absurd t
same false false t = refl

abbrev by_kind : Move → Bool
by_kind m = alike (is_note m.form) (is_note_kind m.kind)

abbrev every_move : Edition → Room → Bool
every_move e r = every by_kind (moves e r)

by_kind_test : T (all_rooms every_move)
unfolding moves shared own
by_kind_test = tt

-- a move of either edition has a note behind it exactly if its kind is one of the three
pub notes_by_kind : (e : Edition) (r : Room) {m : Move} → In m (moves e r) → is_note m.form ≡ is_note_kind m.kind
notes_by_kind e r {m} i = same (is_note m.form) (is_note_kind m.kind) (every_in by_kind i (each_room every_move by_kind_test e r))

-- a note allows what a line allows, and the three breaks; a line allows no break
pub note_allows : (b : ℕ) → text_byte note b ≡ (text_byte line b || is_break b)
unfolding text_byte
note_allows b = refl

pub line_breaks_not : (b : ℕ) → T (is_break b) → text_byte line b ≡ false
unfolding text_byte
line_breaks_not b t = at (eqb b 0x09) (eqb b 0x0a) (eqb b 0x0d) refl refl refl t
  where
    low : (n : ℕ) → n < 0x20 → eqb b n ≡ true → leb 0x20 b ≡ false
    low n h q = let e = eqb-true b n q in lt-leb 0x20 b (omega arith)

    at : (x y z : Bool) → eqb b 0x09 ≡ x → eqb b 0x0a ≡ y → eqb b 0x0d ≡ z → T (x || y || z) → leb 0x20 b ≡ false
    at true y z p q r u = low 0x09 (omega arith) p
    at false true z p q r u = low 0x0a (omega arith) q
    at false false true p q r u = low 0x0d (omega arith) r
    at false false false p q r u = absurd u
