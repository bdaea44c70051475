-- Order 1, of calls of `present`, and of `write` beside it: any results that the promises allow. That the pool holds bytes, the promise of a call says, as in `Calls`.
use Rattle.std.specs.Prelude.{ℕ, ◌<◌, List, [], Bool, true, false, ◌&&◌, ◌≡◌, T, eqb, length}
use Rattle.std.proofs.Math.Path.{refl, ap}
use Rattle.std.proofs.Common.{sym, ◌∙◌, subst, arith, eqb-true}
use Rattle.std.proofs.lemmas.Bool.{eqb-false}
use Rattle.meaning.specs.Bytes.{text_byte, text_ok, turn, number_ok, last_day, passes, date_ok, block_ok}
use Rattle.meaning.specs.Told.{Edition, B, D, known, label_of}
use Rattle.meaning.specs.Editions.{shared, own, moves}
use Rattle.meaning.specs.Reading.{find}
use Rattle.meaning.specs.Skips.{belongs, belonging, held_against}
use Rattle.meaning.specs.Codes.{code_of, can_ask}
use Rattle.meaning.specs.Writing.{Written, written, unwritten, valid, write_value, way_of, fit, fit_row, close_within, close, plan_of, write_rows}
use Rattle.meaning.specs.Memory.{Reply, reply, ranks_of, cells_of, skips_of, skips_held, room_of, write, write_reply, write_answer}
use Rattle.meaning.specs.Present.{copy_all, all_envelopes, present, passed, checked, present_answer}
use Rattle.meaning.specs.Cases.{hex, base_with, in_memory, base_rows, reply_is}
use Rattle.laws_steps.specs.Logic.{are_bytes}
use Rattle.laws_steps.specs.PlainRows.{other}
use Rattle.laws_tables.specs.Ties.{number_of, plain_table}
use Rattle.laws_steps.specs.Hopping.{rank_at}
use Rattle.laws_tables.specs.Passing.{FirstIs}
use Rattle.laws_tables.specs.PresentValues.{present_is, has_kind}
use Rattle.laws_demands.specs.PresentAnswers.{AllWell, zero_means, all_well, refused_as_written, found_as_written, found_without_room, no_such_code, same_under_other}
use Rattle.table.specs.declared.reply.Reply as declared
use Rattle.writer.specs.Promise.{WritePromise}
use Rattle.present.specs.Promise.{PresentPromise}

-- One promise allows one answer, and every call has one

abbrev declared_of : Reply → declared.Reply
declared_of r = record { answer = r.answer; place = r.place; rows = r.rows }

pub one_present : {edition : ℕ} {rows pool : List ℕ} {code : ℕ} {a b : declared.Reply} → PresentPromise edition rows pool code a → PresentPromise edition rows pool code b → a ≡ b
one_present p q = ap declared_of (p.answers ∙ sym q.answers)

pub some_present : (edition : ℕ) (rows pool : List ℕ) (code : ℕ) → T (are_bytes pool) → (a : declared.Reply) × PresentPromise edition rows pool code a
some_present edition rows pool code t = (declared_of (present_answer edition rows pool code), record { bytes = t; answers = refl })

module _ {edition : ℕ} {rows pool : List ℕ} {code : ℕ} {a : declared.Reply} (p : PresentPromise edition rows pool code a) where
  -- 1. "Proved equal to the published procedure over all envelopes": an answer of 0 is its row, and the row count.
  pub well : a.answer ≡ 0 → AllWell edition rows pool code
  well z = zero_means edition rows pool code (sym (ap (λ (r : Reply). r.answer) p.answers) ∙ z)

  pub present_by_procedure : a.answer ≡ 0 → (a.place ≡ present code (ranks_of rows)) × (a.rows ≡ room_of rows)
  present_by_procedure z = let q = p.answers ∙ all_well edition rows pool code (well z) in (ap (λ (r : Reply). r.place) q, ap (λ (r : Reply). r.rows) q)

  -- 2. The row given has a value with the code; no row before it has one, in its envelope or in one before it; and where it is the row count, none has.
  pub present_is_first : a.answer ≡ 0 → FirstIs code rows (room_of rows) 0 a.place
  present_is_first z = let w = well z in subst (FirstIs code rows (room_of rows) 0) (sym (present_by_procedure z).0) (present_is w.told rows pool code w.check w.asked)

  -- so it is of a kind that the code opens or holds, at envelope level
  pub present_has_kind : a.answer ≡ 0 → (a.place < a.rows) → (code_of (rank_at rows a.place).kind ≡ code) × ((rank_at rows a.place).level ≡ 0)
  present_has_kind z h = has_kind code (rank_at rows a.place) ((present_is_first z).has (omega (arith, (present_by_procedure z).1)))

  -- 3. "Refusals: 1; then 17 at place 0 ..": of an unknown code, in a known edition
  pub present_no_code : {e : Edition} → label_of edition ≡ known e → can_ask code ≡ false → (a.answer ≡ 17) × (a.place ≡ 0) × (a.rows ≡ 0)
  present_no_code {e} k n = let q = p.answers ∙ no_such_code edition e rows pool code k n in (ap (λ (r : Reply). r.answer) q, ap (λ (r : Reply). r.place) q, ap (λ (r : Reply). r.rows) q)

  -- ".. then 15 and 5 as the writer gives them": what a call of `write` refuses for the same edition, rows and pool, but 16, `present` refuses with the
  -- same number and place; where it writes, or answers 16, `present` answers 0
  module _ (asked : can_ask code ≡ true) {before after : List ℕ} {b : declared.Reply} (w : WritePromise edition rows pool before b after) where
    abbrev AsWritten : Type 0
    AsWritten = ((b.answer ≡ 0 → ⊥) → (b.answer ≡ 16 → ⊥) → a ≡ b) × (b.answer ≡ 0 → a.answer ≡ 0) × (b.answer ≡ 16 → a.answer ≡ 0)

    pub present_refuses_as_write : AsWritten
    unfolding write_answer
    present_refuses_as_write = at (write edition rows pool (length before)) refl w.answers
      where
        accepts : present_answer edition rows pool code ≡ reply 0 (present code (ranks_of rows)) (room_of rows) → a.answer ≡ 0
        accepts q = ap (λ (r : Reply). r.answer) (p.answers ∙ q)

        stops : (refusal place : ℕ) (sixteen : Bool) → eqb refusal 16 ≡ sixteen → write edition rows pool (length before) ≡ unwritten refusal place → reply b.answer b.place b.rows ≡ reply refusal place 0 → AsWritten
        stops refusal place true s q r =
            let n : refusal ≡ 16 = eqb-true refusal 16 s in
            let x : b.answer ≡ refusal = ap (λ (y : Reply). y.answer) r in
            let found = accepts (found_without_room edition rows pool code (length before) asked place (q ∙ ap (λ (k : ℕ). unwritten k place) n)) in
            (λ y z. absurd (z (x ∙ n)), λ y. found, λ y. found)
        stops refusal place false s q r =
            let n = eqb-false refusal 16 s in
            let x : b.answer ≡ refusal = ap (λ (y : Reply). y.answer) r in
            let same : a ≡ b = ap declared_of (p.answers ∙ refused_as_written edition rows pool code (length before) asked refusal place n q ∙ sym r) in
            (λ y z. same, λ y. ap (λ (k : declared.Reply). k.answer) same ∙ y, λ y. absurd (n (sym x ∙ y)))

        at : (found : Written) → write edition rows pool (length before) ≡ found → reply b.answer b.place b.rows ≡ write_reply (room_of rows) found → AsWritten
        at (unwritten refusal place) q r = stops refusal place (eqb refusal 16) refl q r
        at (written bytes) q r =
            let x : b.answer ≡ 0 = ap (λ (y : Reply). y.answer) r in
            let found = accepts (found_as_written edition rows pool code (length before) asked bytes q) in
            (λ y z. absurd (y x), λ y. found, λ y. found)

-- 4. Under the other edition the answer on a plain table is the same.
pub present_under_other : (e : Edition) {rows pool : List ℕ} {code : ℕ} {a b : declared.Reply} → plain_table rows pool ≡ true → PresentPromise (number_of e) rows pool code a → a.answer ≡ 0 → PresentPromise (number_of (other e)) rows pool code b → a ≡ b
present_under_other e {rows} {pool} {code} plain p z q =
    let w = well p z in
    let k : w.told ≡ e = one_edition e w.label in
    ap declared_of (p.answers ∙ sym (same_under_other e rows pool code p.bytes plain (subst (λ (x : Edition). checked x rows pool ≡ passed) k w.check)) ∙ sym q.answers)
  where
    one_edition : (e : Edition) {f : Edition} → label_of (number_of e) ≡ known f → f ≡ e
    one_edition B r = sym (cc r)
    one_edition D r = sym (cc r)

-- No premise is empty: a plain table, asked in each edition for what it has and for what it has not

abbrev a_header : List ℕ
a_header = base_with 0x0f 0x20 (hex 0x1_01)

abbrev rows : List ℕ
rows = in_memory (base_rows 5 9 [])

pub present_premises : T (are_bytes a_header && plain_table rows a_header && reply_is 0 2 3 (present_answer 1 rows a_header 0x20) && reply_is 0 2 3 (present_answer 2 rows a_header 0x20) && reply_is 0 3 3 (present_answer 2 rows a_header 0x02))
unfolding text_byte text_ok turn number_ok last_day passes date_ok block_ok shared own moves find valid write_value way_of fit fit_row close_within close plan_of write_rows belongs belonging held_against cells_of ranks_of skips_of skips_held copy_all all_envelopes present checked present_answer
present_premises = tt
