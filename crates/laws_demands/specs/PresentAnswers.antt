-- Order 1, over the definitions: what the entry answers: 1, 17, what the writer refuses, or the row.
use Rattle.std.specs.Prelude.{ℕ, List, [], ◌++◌, Bool, true, false, ◌⊎◌, ◌≡◌, T, leb, length}
use Rattle.std.proofs.Common.{append-nil, inl, inr, sym, ◌∙◌, subst, arith, ne_eqb}
use Rattle.std.proofs.Math.Path.{refl, ap}
use Rattle.meaning.specs.Basics.{pick}
use Rattle.meaning.specs.Told.{Edition, B, D, Label, known, unknown, label_of}
use Rattle.meaning.specs.Skips.{Skips, right, wrong_at}
use Rattle.meaning.specs.Codes.{can_ask}
use Rattle.meaning.specs.Headers.{envelopes_most}
use Rattle.meaning.specs.Writing.{Cell, Plan, stuck, plan, whole_plan, header_of, Limit, fine, exceeds, limits, Written, written, unwritten, limited, planned, write_rows, written_under}
use Rattle.meaning.specs.Memory.{reply, ranks_of, cells_of, skips_held, room_of, table_of, write}
use Rattle.meaning.specs.Present.{present, Judgement, passed, stopped, check_of, checked, answered_by, present_under, present_answer}
use Rattle.laws_steps.specs.Logic.{are_bytes}
use Rattle.laws_tables.specs.PresentValues.{absurd_check, room_check, check_is_lem, passed_written}
use Rattle.laws_tables.specs.RightSkips.{table_right}
use Rattle.laws_steps.specs.PlainRows.{other}
use Rattle.laws_tables.specs.Ties.{number_of, plain_table, write_known, written_right}
use Rattle.laws_demands.specs.Demands.{ReadsSame, RefusedSevenOrNine, label_cannot_lie, read_then_written, written_are_bytes_of}

-- The entry's answer, by the writer's

module _ (edition : ℕ) (rows pool : List ℕ) (code room : ℕ) where
  under : (l : Label) → can_ask code ≡ true → (c : Judgement) → check_of (written_under room (cells_of pool rows) (skips_held rows) l) ≡ c → (l ≡ unknown → answered_by rows code c ≡ reply 1 0 0) → present_under rows pool code l ≡ answered_by rows code c
  under unknown a c q f = sym (f refl)
  under (known e) a c q f = (rw a refl) ∙ ap (answered_by rows code) (sym (check_is_lem e rows pool room) ∙ q)

  module _ (a : can_ask code ≡ true) where
    -- "then 15 and 5 as the writer gives them", for the same edition, rows and pool, whatever output it is lent; and 1 before all
    pub refused_as_written : (refusal place : ℕ) → (refusal ≡ 16 → ⊥) → write edition rows pool room ≡ unwritten refusal place → present_answer edition rows pool code ≡ reply refusal place 0
    unfolding write present_answer
    refused_as_written refusal place n q =
        under (label_of edition) a (stopped refusal place) (ap check_of q ∙ rw (ne_eqb refusal 16 n) refl) (λ u. one (sym (ap (written_under room (cells_of pool rows) (skips_held rows)) u) ∙ q))
      where
        one : unwritten 1 0 ≡ unwritten refusal place → reply refusal place 0 ≡ reply 1 0 0
        one z = let x : 1 ≡ refusal = cc z in let y : 0 ≡ place = cc z in rw (x, y) refl

    found_where_written : (w : Written) → check_of w ≡ passed → write edition rows pool room ≡ w → present_answer edition rows pool code ≡ reply 0 (present code (ranks_of rows)) (room_of rows)
    unfolding write present_answer
    found_where_written w p q = under (label_of edition) a passed (ap check_of q ∙ p) (λ u. absurd_check (sym (ap (λ (l : Label). check_of (written_under room (cells_of pool rows) (skips_held rows) l)) u) ∙ ap check_of q ∙ p))

    -- where it writes, or only lacks room: 0, the row, the row count
    pub found_as_written : (bytes : List ℕ) → write edition rows pool room ≡ written bytes → present_answer edition rows pool code ≡ reply 0 (present code (ranks_of rows)) (room_of rows)
    found_as_written bytes q = found_where_written (written bytes) refl q

    pub found_without_room : (needed : ℕ) → write edition rows pool room ≡ unwritten 16 needed → present_answer edition rows pool code ≡ reply 0 (present code (ranks_of rows)) (room_of rows)
    found_without_room needed q = found_where_written (unwritten 16 needed) refl q

-- "17 at place 0, code not one of these": after 1, before the writer's
pub no_such_code : (edition : ℕ) (e : Edition) (rows pool : List ℕ) (code : ℕ) → label_of edition ≡ known e → can_ask code ≡ false → present_answer edition rows pool code ≡ reply 17 0 0
unfolding present_answer
no_such_code edition e rows pool code k a = ap (present_under rows pool code) k ∙ rw a refl

-- The other edition: a plain table that passes under one passes under the other, so the answer is the same

label_number : (e : Edition) → label_of (number_of e) ≡ known e
label_number B = refl
label_number D = refl

other_passes : (e : Edition) (rows pool : List ℕ) → T (are_bytes pool) → plain_table rows pool ≡ true → checked e rows pool ≡ passed → checked (other e) rows pool ≡ passed
other_passes e rows pool t p q =
    let (bytes, w) = passed_written e rows pool q in
    let room = length bytes in
    let all : write (number_of e) rows pool room ≡ written bytes = write_known e rows pool room ∙ w in
    at bytes (written_right e room (cells_of pool rows) (skips_held rows) bytes w) (written_are_bytes_of (number_of e) rows pool room bytes t all) (label_cannot_lie e rows pool room bytes t all [])
  where
    at : (bytes : List ℕ) → skips_held rows ≡ right → T (are_bytes bytes)
        → ((plain_table rows pool ≡ true) × ReadsSame (number_of (other e)) bytes [] rows pool) ⊎ ((plain_table rows pool ≡ false) × RefusedSevenOrNine (number_of (other e)) (bytes ++ [])) → checked (other e) rows pool ≡ passed
    at bytes s u (inr (f, _)) = let z : true ≡ false = sym p ∙ f in let y : ◌≡◌ {A = ℕ} 0 1 = cc z in absurd (omega arith)
    at bytes s u (inl (_, (read-rows, r, (cells, skips)))) =
        let o = other e in
        let room = length bytes in
        let again = read_then_written (number_of o) (bytes ++ []) room read-rows (subst (λ (x : List ℕ). T (are_bytes x)) (sym (append-nil bytes)) u) r room (omega arith) in
        let same : write_rows o room (cells_of pool rows) (skips_held rows) ≡ write_rows o room (cells_of (bytes ++ []) (table_of read-rows)) (skips_held (table_of read-rows))
        = ap (write_rows o room (cells_of pool rows)) (s ∙ sym (table_right read-rows)) ∙ ap (λ (cs : List Cell). write_rows o room cs (skips_held (table_of read-rows))) cells in
        sym (check_is_lem o rows pool room) ∙ ap check_of (same ∙ sym (write_known o (table_of read-rows) (bytes ++ []) room) ∙ again)

pub same_under_other : (e : Edition) (rows pool : List ℕ) (code : ℕ) → T (are_bytes pool) → plain_table rows pool ≡ true → checked e rows pool ≡ passed
    → present_answer (number_of (other e)) rows pool code ≡ present_answer (number_of e) rows pool code
unfolding present_answer
same_under_other e rows pool code t p q =
    let a = answered_by rows code in
    let one : (f : Edition) → checked f rows pool ≡ passed → present_under rows pool code (label_of (number_of f)) ≡ pick (can_ask code) (a passed) (reply 17 0 0)
    = λ f z. ap (present_under rows pool code) (label_number f) ∙ ap (λ (c : Judgement). pick (can_ask code) (a c) (reply 17 0 0)) z in
    one (other e) (other_passes e rows pool t p q) ∙ sym (one e q)

-- An answer of 0 says that all was well

stopped_never : (skips : Skips) (p : Plan) {refusal place : ℕ} → check_of (planned 0 skips p) ≡ stopped refusal place → refusal ≡ 0 → ⊥
stopped_never skips (stuck i) {refusal} q z = let x : 15 ≡ refusal = cc q in omega arith
stopped_never (wrong_at i) (plan bs vs) {refusal} q z = let x : 15 ≡ refusal = cc q in omega arith
stopped_never right (plan bs vs) {refusal} {place} q z = at (limits envelopes_most vs) q
  where
    at : (o : Limit) → check_of (limited 0 vs o) ≡ stopped refusal place → ⊥
    at fine r = absurd_check (sym r ∙ room_check (header_of vs) (leb (length (header_of vs)) 0))
    at (exceeds i) r = let x : 5 ≡ refusal = cc r in omega arith

never_zero : (e : Edition) (rows pool : List ℕ) (refusal place : ℕ) → checked e rows pool ≡ stopped refusal place → refusal ≡ 0 → ⊥
unfolding checked write_rows
never_zero e rows pool refusal place q z = stopped_never (skips_held rows) (whole_plan e (cells_of pool rows)) q z

pub record AllWell (edition : ℕ) (rows pool : List ℕ) (code : ℕ) : Type 0 where
  pub told : Edition
  pub label : label_of edition ≡ known told
  pub asked : can_ask code ≡ true
  pub check : checked told rows pool ≡ passed

pub zero_means : (edition : ℕ) (rows pool : List ℕ) (code : ℕ) → (present_answer edition rows pool code).answer ≡ 0 → AllWell edition rows pool code
unfolding present_answer
zero_means edition rows pool code z = at (label_of edition) refl z
  where
    by_check : (e : Edition) → label_of edition ≡ known e → can_ask code ≡ true → (c : Judgement) → checked e rows pool ≡ c → (answered_by rows code c).answer ≡ 0 → AllWell edition rows pool code
    by_check e k a passed q r = record { told = e; label = k; asked = a; check = q }
    by_check e k a (stopped refusal place) q r = absurd (never_zero e rows pool refusal place q r)

    by_code : (e : Edition) → label_of edition ≡ known e → (b : Bool) → can_ask code ≡ b → (pick b (answered_by rows code (checked e rows pool)) (reply 17 0 0)).answer ≡ 0 → AllWell edition rows pool code
    by_code e k true a r = by_check e k a (checked e rows pool) refl r
    by_code e k false a r = absurd (omega arith)

    at : (l : Label) → label_of edition ≡ l → (present_under rows pool code l).answer ≡ 0 → AllWell edition rows pool code
    at unknown k r = absurd (omega arith)
    at (known e) k r = by_code e k (can_ask code) refl r

-- .. and then it is the procedure's row, and the row count
pub all_well : (edition : ℕ) (rows pool : List ℕ) (code : ℕ) → AllWell edition rows pool code → present_answer edition rows pool code ≡ reply 0 (present code (ranks_of rows)) (room_of rows)
unfolding present_answer
all_well edition rows pool code w = ap (present_under rows pool code) w.label ∙ ap (λ (b : Bool). pick b (answered_by rows code (checked w.told rows pool)) (reply 17 0 0)) w.asked ∙ ap (answered_by rows code) w.check
