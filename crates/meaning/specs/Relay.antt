-- Document 02, order 2: "The gateway may not alter an envelope it received; it puts a new one in front. Wanted: an accepted header and a table of one
-- extension envelope in, the joined header out."
use Rattle.std.specs.Prelude.{ℕ, ◌+◌, List, [], ◌∷◌, ◌++◌, map, Bool, true, false, ◌&&◌, leb, ltb, length, take}
use Rattle.meaning.specs.Basics.{pick}
use Rattle.meaning.specs.Told.{Edition, Label, known, unknown, label_of, told}
use Rattle.meaning.specs.Kinds.{extension_opens}
use Rattle.meaning.specs.Reading.{Out, dry, fault, done, inside}
use Rattle.meaning.specs.Skips.{Skips, right, wrong_at}
use Rattle.meaning.specs.Headers.{Placed, placed_row, placed, Answer, refused, accepted, envelopes_most, start, header}
use Rattle.meaning.specs.Writing.{Cell, cell, broken, Opens, envelope_row, inner_row, opens_of, Plan, stuck, plan, plan_of, within_limit, wrap}
use Rattle.meaning.specs.Memory.{table_of, cells_of, skips_held, laid_over, Reply, reply, words_read, room_with}

-- The new table. "15 for the new table (any first row but kind 1, or a second envelope)"

-- the rows behind its first: those of an extension, behind which nothing opens, as it is with the writer's base, and with which the table ends
abbrev pub extension_inside : Edition → List Cell → Opens → Plan
extension_inside e cs inner_row = stuck 0
extension_inside e cs (envelope_row true) = stuck 0
extension_inside e cs (envelope_row false) = plan_of e cs 1 true (start false)

abbrev pub extension_plan : Edition → List Cell → Plan
extension_plan e [] = stuck 0
extension_plan e (broken ∷ cs) = stuck 0
extension_plan e (cell row ∷ cs) = extension_inside e cs (opens_of row)

-- The rows that are joined

-- the new envelope's rows, as the reader gives them from its bytes: its own, and those inside
abbrev pub rows_inside : ℕ → Out → List Placed
rows_inside end dry = []
rows_inside end (fault refusal left) = []
rows_inside end (done rs s) = map (placed end) rs

abbrev pub new_rows : Edition → List ℕ → List Placed
new_rows e bs = placed_row extension_opens 0 0 [] ∷ rows_inside (length (wrap false bs)) (inside (told e) (start false) bs)

-- "then the old with starts moved by the new envelope's length"
abbrev pub moved : ℕ → Placed → Placed
moved n r = placed_row r.kind r.level (n + r.start) r.view

-- .. in memory, where the skip numbers move by the new row count
unfoldable pub moved_table : ℕ → ℕ → List ℕ → List ℕ
moved_table n k [] = []
moved_table n k (kind ∷ []) = []
moved_table n k (kind ∷ (level ∷ [])) = []
moved_table n k (kind ∷ (level ∷ (at ∷ []))) = []
moved_table n k (kind ∷ (level ∷ (at ∷ (len ∷ [])))) = []
moved_table n k (kind ∷ (level ∷ (at ∷ (len ∷ (skip ∷ rows))))) = kind ∷ level ∷ (n + at) ∷ len ∷ (k + skip) ∷ moved_table n k rows

-- the new envelope and its rows; the old header, without its payload, and its rows
pub record Joint : Type 0 where
  pub envelope : List ℕ
  pub header : List ℕ
  pub new : List Placed
  pub old : List Placed

-- "The old header's bytes are unchanged behind it"
abbrev pub bytes_of : Joint → List ℕ
bytes_of j = j.envelope ++ j.header

-- "the new ones, then the old"
abbrev pub joined_table : Joint → List ℕ
joined_table j = table_of j.new ++ moved_table (length j.envelope) (length j.new) (table_of j.old)

abbrev pub joined_words : Joint → List ℕ
joined_words j = words_read j.new ++ words_read j.old

abbrev pub joined_count : Joint → ℕ
joined_count j = length j.new + length j.old

-- What a call comes to, the lent memory aside

pub data Relayed : Type 0 where
  relayed : Joint → Relayed
  unrelayed : ℕ → ℕ → Relayed

abbrev pub joint_of : Edition → List ℕ → List ℕ → List Placed → Joint
joint_of e bs old rows = record { envelope = wrap false bs; header = old; new = new_rows e bs; old = rows }

-- "5 at row 0 for a 17th envelope or a new one over the limit": the old header has a word for each of its envelopes
abbrev pub one_more_fits : List ℕ → List Placed → Bool
one_more_fits bs rows = ltb (length (words_read rows)) envelopes_most && within_limit (length bs)

abbrev pub joined_limits : Edition → List ℕ → List ℕ → List Placed → Relayed
joined_limits e bs old rows = pick (one_more_fits bs rows) (relayed (joint_of e bs old rows)) (unrelayed 5 0)

-- a wrong skip number comes after 15's other faults, as with the writer; row 0's is the new table's own row count
abbrev pub joined_skips : Edition → List ℕ → List ℕ → List Placed → Skips → Relayed
joined_skips e bs old rows right = joined_limits e bs old rows
joined_skips e bs old rows (wrong_at i) = unrelayed 15 i

abbrev pub joined_plan : Edition → List ℕ → List Placed → Skips → Plan → Relayed
joined_plan e old rows skips (stuck i) = unrelayed 15 i
joined_plan e old rows skips (plan bs vs) = joined_skips e bs old rows skips

-- "the reader's but 14 for the old header": strictly. The payload behind it does not travel
abbrev pub behind_old : Edition → List ℕ → List ℕ → List ℕ → Answer → Relayed
behind_old e input table pool (refused refusal place) = unrelayed refusal place
behind_old e input table pool (accepted place rows) = joined_plan e (take place input) rows (skips_held table) (extension_plan e (cells_of pool table))

abbrev pub relay_under : List ℕ → List ℕ → List ℕ → Label → Relayed
relay_under input table pool unknown = unrelayed 1 0
relay_under input table pool (known e) = behind_old e input table pool (header envelopes_most (told e) 0 input)

-- edition, the old input, the new table's rows and the pool that they view
unfoldable pub relay : ℕ → List ℕ → List ℕ → List ℕ → Relayed
relay edition input table pool = relay_under input table pool (label_of edition)

-- What is lent. "14, room for the joined rows, at the joined header's length with the rows needed; 16": with the bytes needed

-- room: for so many rows; space: for so many bytes
abbrev pub rooms_hold : ℕ → ℕ → Joint → Bool
rooms_hold room space j = leb (joined_count j) room && leb (length (bytes_of j)) space

abbrev pub relay_reply : ℕ → ℕ → Relayed → Reply
relay_reply room space (unrelayed refusal place) = reply refusal place 0
relay_reply room space (relayed j) =
    pick (leb (joined_count j) room) (pick (leb (length (bytes_of j)) space) (reply 0 (length (bytes_of j)) (joined_count j)) (reply 16 (length (bytes_of j)) 0)) (reply 14 (length (bytes_of j)) (joined_count j))

-- what is made of the joint stands at the front of the lent memory, or nothing changes
abbrev pub relay_memory : ℕ → ℕ → (Joint → List ℕ) → List ℕ → Relayed → List ℕ
relay_memory room space front lent (unrelayed refusal place) = lent
relay_memory room space front lent (relayed j) = pick (rooms_hold room space j) (laid_over lent (front j)) lent

-- order 6: fewer than sixteen words count as no room, for the relay as for the reader
module _ (edition : ℕ) (input table pool rows words output : List ℕ) where
  unfoldable pub relay_answer : Reply
  relay_answer = relay_reply (room_with rows words) (length output) (relay edition input table pool)

  unfoldable pub relay_rows : List ℕ
  relay_rows = relay_memory (room_with rows words) (length output) joined_table rows (relay edition input table pool)

  unfoldable pub relay_words : List ℕ
  relay_words = relay_memory (room_with rows words) (length output) joined_words words (relay edition input table pool)

  unfoldable pub relay_output : List ℕ
  relay_output = relay_memory (room_with rows words) (length output) bytes_of output (relay edition input table pool)
