-- A value behind its code, from the code's move and the value's own stage.
use Rattle.std.specs.Prelude.{ℕ, ◌+◌, ◌-◌, ◌<◌, List, ◌≡◌, length, get_or}
use Rattle.std.proofs.Common.{sym, arith}
use Rattle.meaning.specs.Told.{Told}
use Rattle.meaning.specs.Editions.{Next, Move, Form, on◌▸◌▸◌▸◌}
use Rattle.meaning.specs.Reading.{look, none, hit, take_value, reach_back}
use Rattle.laws_steps.specs.From.{from}
use Rattle.table.specs.declared.answers.Fault.{Fault}
use Rattle.table.specs.declared.refusals.Refusal.{Refusal}
use Rattle.table.specs.declared.refusals.Refusal.TheVariants.{EnvelopeEnds}
use Rattle.table.specs.Refusals.{answer_of}
use Rattle.values.specs.declared.Value.{Value}
use Rattle.values.specs.declared.Value.TheVariants.{Is, Refused}
use Rattle.values.specs.Stages.{Stands, Valued, Bears, Coded, ended, unknown, valued}

-- what stands behind a place stands behind the one before it
stands_behind : (end at kind back : ℕ) (r : Value) → Stands end (at + 1) kind back r → Stands end at kind back r
unfolding Stands
stands_behind end at kind back (Is k start length after) h = (h.0, h.1, omega arith, omega arith, h.4)
stands_behind end at kind back (Refused fault) h = h

-- the end where a code would stand
pub code_missing : {t : Told} {s : List ℕ} {end at strange : ℕ} {moves : Next → List Move} {fault : Fault} → fault ≡ record { refusal = EnvelopeEnds; at = at } → at ≡ end → Coded t moves strange s end at (Refused fault)
code_missing h q = rw h (ended q)

module _ {t : Told} {s : List ℕ} {end at strange : ℕ} {moves : Next → List Move} (h : at < end) {b : ℕ} (is : b ≡ get_or s at 0) where
  pub code_unknown : {refusal : Refusal} {fault : Fault} → fault ≡ record { refusal = refusal; at = at } → answer_of refusal ≡ strange → ((n : Next) → look b (moves n) ≡ none) → Coded t moves strange s end at (Refused fault)
  code_unknown e a q = rw e (unknown a h (λ n. rw (sym is) (q n)))

  pub code_known : {kind : ℕ} {r : Value} (form : Form) → Bears b kind form → ((n : Next) → look b (moves n) ≡ hit (on b ▸ kind ▸ form ▸ n))
      → Valued s end at kind (reach_back form) (take_value t form (end - at) b (from s (at + 1) end)) r → Coded t moves strange s end at r
  code_known {kind} {r} form a q v = valued {answer = r} kind form h (rw (sym is) a) (λ n. rw (sym is) (q n)) (rw (sym is) v)

  pub code_before : {kind : ℕ} {r : Value} (form : Form) → Bears b kind form → ((n : Next) → look b (moves n) ≡ hit (on b ▸ kind ▸ form ▸ n))
      → Valued s end (at + 1) kind (reach_back form) (take_value t form (end - at) b (from s (at + 1) end)) r → Coded t moves strange s end at r
  code_before {kind} {r} form a q v = code_known form a q (record { is = v.is; stands = stands_behind end at kind (reach_back form) r v.stands })
