-- From the verdict to the public promise: what is answered, and what the output holds.
use Prim.Native.Nat.{ℕ, ◌+◌, ◌≤◌, ◌<◌}
use mathlib.Core.List.{List, []}
use mathlib.Core.Bool.{Bool, true, false}
use mathlib.Core.Path.{◌≡◌, refl, ap, sym, ◌∙◌}
use native.Mathlib.Omega.{arith}
use lib.Dec.{T, leb}
use lib.ListN.{length}
use borrow.Author.Tests.{le-leb, lt-leb}
use Rattle.meaning.specs.Basics.{pick}
use Rattle.meaning.specs.Told.{known, unknown, label_of, Edition}
use Rattle.meaning.specs.Writing.{Cell, Envelope, Plan, stuck, plan, whole_plan, header_of, Limit, fine, exceeds, limits, Written, written, unwritten, limited, planned, write_rows}
use Rattle.meaning.specs.Skips.{Skips, right, wrong_at}
use Rattle.meaning.specs.Memory.{cells_of, skips_held, reply, laid_over, write, write_answer, write_output, room_of}
use Rattle.meaning.specs.Present.{Judgement, stopped, passed as passes, check_of, checked}
use Rattle.laws_steps.specs.Logic.{are_bytes}
use Rattle.laws_steps.specs.Rows.{cells_at, cells_are}
use Rattle.meaning.specs.Headers.{envelopes_most}
use Rattle.write_envelopes.specs.Whole.{Verdict, bad, needs, verdict_of, verdict, verdict_is, bytes_of_plan, Writable}
use Rattle.table.specs.Reply.{fault_reply, reply_of}
use Rattle.writer.specs.Promise.{WrittenAs, WritePromise, skips_verdict, SkipsChecked, check_is}
use Rattle.table.specs.declared.reply.Reply.{Reply}
use Rattle.table.specs.declared.answers.Fault.{Fault}
use Rattle.std.specs.Prelude.{Result, Ok, Err}

-- The writer by the verdict

abbrev answered : ℕ → List ℕ → Verdict → Written
answered room w (bad answer place) = unwritten answer place
answered room w (needs t) = pick (leb t room) (written w) (unwritten 16 t)

by_limit : (room : ℕ) (vs : List Envelope) (o : Limit) → limited room vs o ≡ answered room (header_of vs) (verdict_of (length (header_of vs)) o)
by_limit room vs fine = refl
by_limit room vs (exceeds i) = refl

by_verdict : (room : ℕ) (skips : Skips) (p : Plan) → planned room skips p ≡ answered room (bytes_of_plan p) (skips_verdict skips p)
by_verdict room skips (stuck i) = refl
by_verdict room (wrong_at i) (plan bytes vs) = refl
by_verdict room right (plan bytes vs) =
    let q : length (header_of vs) ≡ 0 + length (header_of vs) = omega arith in
    by_limit room vs (limits envelopes_most vs) ∙ ap (λ (x : ℕ). answered room (header_of vs) (verdict_of x (limits envelopes_most vs))) q

needs_length : (p : Plan) (u : ℕ) → verdict envelopes_most 0 fine p ≡ needs u → length (bytes_of_plan p) ≡ u
needs_length (stuck i) u q = let z : ◌≡◌ {A = ℕ} 0 1 = cc q in absurd (omega arith)
needs_length (plan bytes vs) u q = at (limits envelopes_most vs) q
  where
    at : (o : Limit) → verdict_of (0 + length (header_of vs)) o ≡ needs u → length (header_of vs) ≡ u
    at fine q = let z : 0 + length (header_of vs) ≡ u = cc q in omega arith
    at (exceeds i) q = let z : ◌≡◌ {A = ℕ} 0 1 = cc q in absurd (omega arith)

abbrev judged : Verdict → Judgement
judged (bad answer place) = stopped answer place
judged (needs t) = passes

check_judged : (r : Result ℕ Fault) → check_is r ≡ judged (verdict_is r)
check_judged (Ok t) = refl
check_judged (Err fault) = refl

module _ (edition : Edition) (pool rows before : List ℕ) where
  abbrev all : Plan
  all = whole_plan edition (cells_at pool rows 0)

  abbrev found : Verdict
  found = skips_verdict (skips_held rows) all

  abbrev pub result : Written
  result = write_rows edition (length before) (cells_of pool rows) (skips_held rows)

  result_is : result ≡ answered (length before) (bytes_of_plan all) found
  unfolding write_rows
  result_is = ap (λ (cs : List Cell). planned (length before) (skips_held rows) (whole_plan edition cs)) (cells_are pool rows) ∙ by_verdict (length before) (skips_held rows) all

  -- the check alone: 16 is no fault of the rows
  room_aside : (w : List ℕ) (skips : Skips) (p : Plan) → judged (skips_verdict skips p) ≡ check_of (answered 0 w (skips_verdict skips p))
  room_aside w skips (stuck i) = refl
  room_aside w (wrong_at i) (plan bytes vs) = refl
  room_aside w right (plan bytes vs) = at (limits envelopes_most vs)
    where
      short : (t : ℕ) (b : Bool) → passes ≡ check_of (pick b (written w) (unwritten 16 t))
      short t true = refl
      short t false = refl

      at : (o : Limit) → judged (verdict_of (0 + length (header_of vs)) o) ≡ check_of (answered 0 w (verdict_of (0 + length (header_of vs)) o))
      at fine = short (0 + length (header_of vs)) (leb (0 + length (header_of vs)) 0)
      at (exceeds i) = refl

  written_as : {w : Written} {answer : Reply} {after : List ℕ} → result ≡ w → WrittenAs w rows before answer after → WrittenAs result rows before answer after
  written_as {w} {answer} {after} q x = rw q x

  module _ {r : Result ℕ Fault} {lengths : List ℕ} (k : SkipsChecked all (skips_held rows) r lengths) where
    pub refuses : {fault : Fault} {a : Reply} → r ≡ Err fault → reply_of a ≡ fault_reply fault → WrittenAs result rows before a before
    refuses q e = written_as (result_is ∙ ap (answered (length before) (bytes_of_plan all)) (sym k.is ∙ ap verdict_is q)) (record { answers = e; leaves = refl })

    module _ {many : ℕ} (q : r ≡ Ok many) where
      passed : found ≡ needs many
      passed = sym k.is ∙ ap verdict_is q

      pub writable : length lengths ≡ envelopes_most → many ≤ length before → Writable edition rows pool lengths before
      writable l h = let (p, n) = k.noted many passed in record { bytes_needed = many; passed = p; noted = n; long = l; room = h }

      pub too_short : {a : Reply} → length before < many → reply_of a ≡ reply 16 many 0 → WrittenAs result rows before a before
      too_short h e =
          written_as (result_is ∙ ap (answered (length before) (bytes_of_plan all)) passed ∙ ap (λ (b : Bool). pick b (written (bytes_of_plan all)) (unwritten 16 many)) (lt-leb many (length before) h))
          (record { answers = e; leaves = refl })

      pub accepts : {after : List ℕ} {n : ℕ} → many ≤ length before → after ≡ laid_over before (bytes_of_plan all) → n ≡ room_of rows → WrittenAs result rows before (record { answer = 0; place = many; rows = n }) after
      accepts h e q =
          written_as (result_is ∙ ap (answered (length before) (bytes_of_plan all)) passed ∙ ap (λ (b : Bool). pick b (written (bytes_of_plan all)) (unwritten 16 many)) (le-leb many (length before) h))
          (record { answers = ap (reply 0 many) q ∙ ap (λ (x : ℕ). reply 0 x (room_of rows)) (sym (needs_length all many (k.noted many passed).0)); leaves = e })

-- The edition's number

module _ (number : ℕ) (rows pool before : List ℕ) (t : T (are_bytes pool)) {answer : Reply} {after : List ℕ} where
  pub in_edition : {edition : Edition} → label_of number ≡ known edition → WrittenAs (write_rows edition (length before) (cells_of pool rows) (skips_held rows)) rows before answer after → WritePromise number rows pool before answer after
  unfolding write_answer write_output write
  in_edition q x = record { bytes = t; answers = x.answers ∙ rw q refl; leaves = x.leaves ∙ rw q refl }

  pub in_none : label_of number ≡ unknown → reply_of answer ≡ reply 1 0 0 → after ≡ before → WritePromise number rows pool before answer after
  unfolding write_answer write_output write
  in_none q e m = record { bytes = t; answers = e ∙ rw q refl; leaves = rw q m }

-- The check alone

pub checked_as : (edition : Edition) (pool rows : List ℕ) {r : Result ℕ Fault} {lengths : List ℕ} → SkipsChecked (whole_plan edition (cells_at pool rows 0)) (skips_held rows) r lengths → check_is r ≡ checked edition rows pool
unfolding checked
checked_as edition pool rows k = check_judged _ ∙ ap judged k.is ∙ room_aside edition pool rows [] (bytes_of_plan (all edition pool rows [])) (skips_held rows) (all edition pool rows []) ∙ ap check_of (sym (result_is edition pool rows []))
