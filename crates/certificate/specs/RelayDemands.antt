-- Order 2, of calls: "Demands 2 and 3 hold for the joined header", and "Present values of the result are the new envelope's where it has one, else the old ones".
use Rattle.std.specs.Prelude.{ℕ, ◌+◌, ◌≤◌, List, [], ◌∷◌, ◌++◌, Bool, true, false, ◌&&◌, ◌⊎◌, ◌≡◌, T, length, take, replicate}
use Rattle.std.proofs.Common.{inl, inr, ap, sym, ◌∙◌, subst, arith}
use Rattle.meaning.specs.Basics.{pick}
use Rattle.meaning.specs.Bytes.{text_byte, take_text, text_ok, turn, take_number, number_ok, last_day, passes, take_date, date_ok, high_first, too_wide, take_bytes, block_of, take_block, block_ok}
use Rattle.meaning.specs.Told.{Edition}
use Rattle.meaning.specs.Editions.{shared, own, moves}
use Rattle.meaning.specs.Reading.{take_value, find, look, step_move, step, run, inside}
use Rattle.meaning.specs.Skips.{belongs, belonging, held_against}
use Rattle.meaning.specs.Codes.{date_code, can_ask}
use Rattle.meaning.specs.Words.{occurs, word_of, words_of}
use Rattle.meaning.specs.Headers.{accepted, envelope, header}
use Rattle.meaning.specs.Writing.{written, valid, write_value, way_of, fit, fit_row, close_within, close, plan_of}
use Rattle.meaning.specs.Memory.{row, Reply, reply, table_of, cells_of, ranks_of, skips_of, skips_held, laid_over, room_with, write}
use Rattle.meaning.specs.Present.{present}
use Rattle.meaning.specs.Relay.{joined_table, relay, relay_answer}
use Rattle.meaning.specs.Cases.{hex, a_date, base_with, in_memory, reply_is}
use Rattle.laws_steps.specs.Logic.{are_bytes}
use Rattle.laws_steps.specs.PlainRows.{other}
use Rattle.laws_tables.specs.Ties.{number_of, plain_table}
use Rattle.laws_demands.specs.Demands.{read_then_written}
use Rattle.laws_tables.specs.Joined.{Joins}
use Rattle.laws_demands.specs.JoinedDemands.{joined_then_written}
use Rattle.laws_tables.specs.JoinedLaid.{joined_bytes}
use Rattle.laws_demands.specs.JoinedValues.{joined_present, joined_date}
use Rattle.laws_demands.specs.PresentAnswers.{found_as_written}
use Rattle.table.specs.declared.reply.Reply as declared
use Rattle.reader.specs.Promises.{ReadPromise}
use Rattle.writer.specs.Promise.{WritePromise}
use Rattle.present.specs.Promise.{PresentPromise}
use Rattle.relay.specs.Promise.{RelayPromise}
use Rattle.certificate.specs.Lent.{first_rows, bytes_written, rows_read, accepted_call, lays}
use Rattle.certificate.specs.Calls.{sent, SameTable, RefusesLabel, label_never_lies, with_room}
use Rattle.certificate.specs.Premises.{some_write}
use Rattle.certificate.specs.Relay.{declared_of, Joined, joined_call, joins_of, header_joined, table_long, table_joined}

module _ {edition : ℕ} {input table pool rows words output rows' words' out : List ℕ} {a : declared.Reply} (p : RelayPromise edition input table pool rows words output a rows' words' out) (z : a.answer ≡ 0) where
  abbrev call : Joined edition input table pool rows words output a rows' words' out
  call = joined_call p z

  abbrev good : Joins edition input table pool call.joint
  good = joins_of p z

  -- the joined table and header, as they lie in the lent memory
  abbrev pub rows_out : List ℕ
  rows_out = first_rows a.rows rows'

  abbrev pub header_out : List ℕ
  header_out = take a.place out

  out_written : (room : ℕ) → a.place ≤ room → write edition rows_out header_out room ≡ written header_out
  out_written room h =
      let j = call.joint in
      ap (λ (x : List ℕ). write edition x header_out room) (table_joined p z) ∙ ap (λ (x : List ℕ). write edition (joined_table j) x room) (header_joined p z)
      ∙ joined_then_written good p.bytes p.pool_bytes room (omega (arith, call.ends)) ∙ ap written (sym (header_joined p z))

  -- demand 2: the joined rows, written with the joined header as their pool, give it
  pub relay_then_written : {before after : List ℕ} {b : declared.Reply} → WritePromise edition rows_out header_out before b after → a.place ≤ length before → (b.answer ≡ 0) × (after ≡ laid_over before header_out)
  relay_then_written {before} w h = let l = lays w (out_written (length before) h) in (l.answers, l.leaves)

  -- "Present values of the result are the new envelope's where it has one, else the old ones", which stand behind the new rows; as calls of `present` on the joined
  -- table and on the old one give them
  module _ (code : ℕ) (asked : can_ask code ≡ true) {b : declared.Reply} (q : PresentPromise edition rows_out header_out code b) where
    joined_value : (b.answer ≡ 0) × (b.place ≡ present code (ranks_of (joined_table call.joint)))
    joined_value =
        let r = q.answers ∙ found_as_written edition rows_out header_out code a.place asked header_out (out_written a.place (omega arith)) in
        (ap (λ (x : Reply). x.answer) r, ap (λ (x : Reply). x.place) r ∙ ap (λ (x : List ℕ). present code (ranks_of x)) (table_joined p z))

    module _ {before words₀ after words₁ : List ℕ} {o d : declared.Reply} (r : ReadPromise edition input before words₀ o after words₁) (y : o.answer ≡ 0) (x : PresentPromise edition (first_rows o.rows after) input code d) where
      old_value : d.place ≡ present code (ranks_of (table_of call.joint.old))
      old_value =
          let (place, found, k, f) = accepted_call r y in
          let same : accepted place found ≡ accepted good.place call.joint.old = sym k ∙ good.accepts in
          let olds : found ≡ call.joint.old = cc same in
          let writes = ap (λ (m : List ℕ). write edition m input place) (rows_read f) ∙ read_then_written edition input place found p.bytes k place (omega arith) in
          let s = x.answers ∙ found_as_written edition (first_rows o.rows after) input code place asked (take place input) writes in
          ap (λ (m : Reply). m.place) s ∙ ap (λ (m : List ℕ). present code (ranks_of m)) (rows_read f ∙ ap table_of olds)

      pub relay_presents : (b.answer ≡ 0) × (b.place ≡ pick (occurs code (ranks_of table)) (present code (ranks_of table)) (length (ranks_of table) + d.place))
      relay_presents = (
        joined_value.0,
        joined_value.1 ∙ joined_present good p.bytes code asked ∙ ap (λ (n : ℕ). pick (occurs code (ranks_of table)) (present code (ranks_of table)) (length (ranks_of table) + n)) (sym old_value),
      )

      -- "For the base's own date that is always the old one"
      pub relay_keeps_date : code ≡ date_code → b.place ≡ length (ranks_of table) + d.place
      relay_keeps_date e =
          joined_value.1 ∙ ap (λ (n : ℕ). present n (ranks_of (joined_table call.joint))) e ∙ joined_date good p.bytes
          ∙ ap (λ (n : ℕ). length (ranks_of table) + present n (ranks_of (table_of call.joint.old))) (sym e) ∙ ap (λ (n : ℕ). length (ranks_of table) + n) (sym old_value)

-- demand 3: read under the other edition, with any payload behind it, the joined header is the same table, or is refused with 7 or 9
pub relay_never_lies : (e : Edition) {input table pool rows words output rows' words' out before words₀ after words₁ : List ℕ} {a b : declared.Reply} (p : RelayPromise (number_of e) input table pool rows words output a rows' words' out) (z : a.answer ≡ 0)
    → (payload : List ℕ) → ReadPromise (number_of (other e)) (sent a out payload) before words₀ b after words₁ → a.rows ≤ room_with before words₀
    → ((plain_table (first_rows a.rows rows') (take a.place out) ≡ true) × SameTable (first_rows a.rows rows') (take a.place out) a (sent a out payload) before b after)
    ⊎ ((plain_table (first_rows a.rows rows') (take a.place out) ≡ false) × RefusesLabel before words₀ b after words₁)
relay_never_lies e {rows' = rows'} {out = out} {before = before} {words₀ = words₀} {after = after} {words₁ = words₁} {a = a} {b = b} p z payload q room =
    let bytes : T (are_bytes (take a.place out)) = subst (λ (x : List ℕ). T (are_bytes x)) (sym (header_joined p z)) (joined_bytes (joins_of p z) p.bytes p.pool_bytes) in
    let (w, out', written-so) = some_write (number_of e) (first_rows a.rows rows') (take a.place out) (take a.place out) bytes in
    let long : a.place ≤ length (take a.place out) = omega (arith, ap length (header_joined p z), (joined_call p z).ends) in
    let l = lays written-so (out_written p z (length (take a.place out)) long) in
    let place : w.place ≡ a.place = omega (arith, l.ends, ap length (header_joined p z), (joined_call p z).ends) in
    let count : w.rows ≡ a.rows = omega (arith, l.count, ap length (table_joined p z), table_long p z) in
    let same : reply w.answer w.place w.rows ≡ reply a.answer a.place a.rows
    = ap (λ (x : ℕ). reply x w.place w.rows) (l.answers ∙ sym z) ∙ ap (λ (x : ℕ). reply a.answer x w.rows) place ∙ ap (reply a.answer a.place) count in
    let front : sent w out' payload ≡ sent a out payload = ap (λ (x : List ℕ). x ++ payload) (bytes_written l) in
    let room' : w.rows ≤ room_with before words₀ = omega arith in
    as_joined w out' same front (with_room room' (label_never_lies e written-so l.answers payload (subst (λ (x : List ℕ). ReadPromise (number_of (other e)) x before words₀ b after words₁) (sym front) q)))
  where
    as_joined : (w : declared.Reply) (out' : List ℕ) → reply w.answer w.place w.rows ≡ reply a.answer a.place a.rows → sent w out' payload ≡ sent a out payload
        → ((plain_table (first_rows a.rows rows') (take a.place out) ≡ true) × SameTable (first_rows a.rows rows') (take a.place out) w (sent w out' payload) before b after) ⊎ ((plain_table (first_rows a.rows rows') (take a.place out) ≡ false) × RefusesLabel before words₀ b after words₁)
        → ((plain_table (first_rows a.rows rows') (take a.place out) ≡ true) × SameTable (first_rows a.rows rows') (take a.place out) a (sent a out payload) before b after) ⊎ ((plain_table (first_rows a.rows rows') (take a.place out) ≡ false) × RefusesLabel before words₀ b after words₁)
    as_joined w out' r f (inl (plain, s)) =
        let as-a : w ≡ a = ap declared_of r in
        inl (plain, subst (λ (x : List ℕ). SameTable (first_rows a.rows rows') (take a.place out) a x before b after) f (subst (λ (x : declared.Reply). SameTable (first_rows a.rows rows') (take a.place out) x (sent w out' payload) before b after) as-a s))
    as_joined w out' r f (inr x) = inr x

-- No premise is empty: in each edition a relay that answers 0, of an extension received by `a` before document 01's M, lent just the room that it needs

abbrev a_header : List ℕ
a_header = base_with 0x0f 0x20 (hex 0x1_01)

abbrev a_pool : List ℕ
a_pool = 0x61 ∷ a_date

abbrev a_table : List ℕ
a_table = in_memory (row 1 0 0 0 ∷ row 8 0 0 1 ∷ row 5 1 1 9 ∷ [])

abbrev is_joined : ℕ → Bool
is_joined edition = reply_is 0 32 6 (relay_answer edition a_header a_table a_pool (replicate 30 0) (replicate 16 0) (replicate 32 0))

pub relay_premises : T (are_bytes a_header && are_bytes a_pool && is_joined 1 && is_joined 2)
unfolding text_byte take_text text_ok turn take_number number_ok last_day passes take_date date_ok high_first too_wide take_bytes block_of take_block block_ok shared own moves take_value find look step_move step run inside envelope header valid write_value way_of fit fit_row close_within close plan_of belongs belonging held_against cells_of ranks_of skips_of skips_held occurs word_of words_of relay relay_answer
relay_premises = tt
