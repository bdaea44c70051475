-- What refuses: the edition, the old input, the new table, one envelope too many or too long; and what is left to be joined.
use Prim.Native.Nat.{ℕ, ◌+◌, ◌≤◌}
use mathlib.Core.List.{List}
use mathlib.Core.Bool.{Bool, true, false, ◌&&◌}
use mathlib.Core.Path.{◌≡◌, refl, ap, sym, ◌∙◌}
use native.Mathlib.Omega.{arith}
use lib.Dec.{T, ltb}
use lib.ListN.{length, take}
use borrow.Author.Tests.{ltb-false, lt-leb}
use Rattle.std.specs.Prelude.{Ok, Err}
use Rattle.meaning.specs.Basics.{pick}
use Rattle.meaning.specs.Told.{Edition, B, D, Label, known, label_of, strict, told}
use Rattle.meaning.specs.Skips.{Skips, right, wrong_at}
use Rattle.meaning.specs.Headers.{envelope_most, envelopes_most}
use Rattle.meaning.specs.Writing.{Cell, Envelope, Plan, stuck, plan, within_limit}
use Rattle.meaning.specs.Memory.{skips_held, words_read}
use Rattle.meaning.specs.Relay.{extension_plan, relayed, unrelayed, joint_of, joined_plan, behind_old, relay_under, relay, relay_answer, relay_rows, relay_words, relay_output}
use Rattle.laws_steps.specs.Logic.{are_bytes, both_hold}
use Rattle.laws_steps.specs.Rows.{cells_at, cells_are}
use Rattle.laws_tables.specs.Ties.{read_as}
use Rattle.table.specs.declared.reply.Reply.{Reply}
use Rattle.table.specs.Reply.{fault_reply, reply_of}
use Rattle.table.specs.Refusals.{answer_of}
use Rattle.table.specs.declared.answers.Fault.{Fault}
use Rattle.table.specs.declared.answers.Reached.{Reached}
use Rattle.table.specs.declared.answers.Stage.{Stage}
use Rattle.table.specs.declared.answers.Stage.TheVariants.{Go, Refused}
use Rattle.reader.specs.Promises.{Accepted, Counted, accepted_told}
use Rattle.write_rows.specs.Laying.{capped}
use Rattle.write_envelopes.specs.Whole.{verdict_is}
use Rattle.relay.specs.Promise.{RelayPromise, new_verdict, OneMoreFits, Joinable}

-- One envelope more

limit_capped : (k : ℕ) → within_limit (capped k) ≡ within_limit k
limit_capped k = at (ltb k envelope_most) refl
  where
    past : (n : ℕ) → envelope_most ≤ n → within_limit n ≡ false
    past n h = rw (lt-leb (3 + n) 65535 (omega arith), lt-leb (7 + n) envelope_most (omega arith)) refl

    at : (b : Bool) → ltb k envelope_most ≡ b → within_limit (pick b k envelope_most) ≡ within_limit k
    at true q = refl
    at false q = past envelope_most (omega arith) ∙ sym (past k (ltb-false k envelope_most q))

small_capped : (k : ℕ) → within_limit k ≡ true → k ≡ capped k
small_capped k h = at (ltb k envelope_most) refl
  where
    at : (b : Bool) → ltb k envelope_most ≡ b → k ≡ pick b k envelope_most
    at true q = refl
    at false q =
        let l = ltb-false k envelope_most q in
        let no : within_limit k ≡ false = rw (lt-leb (3 + k) 65535 (omega arith), lt-leb (7 + k) envelope_most (omega arith)) refl in
        let x : ◌≡◌ {A = Bool} false true = sym no ∙ h in let z : ◌≡◌ {A = ℕ} 0 1 = cc x in absurd (omega arith)

-- Refusals

-- a number of the edition
abbrev pub number_of : Edition → ℕ
number_of B = 1
number_of D = 2

pub numbered : (e : Edition) → label_of (number_of e) ≡ known e
numbered B = refl
numbered D = refl

module _ (edition : ℕ) (input table pool rows words output : List ℕ) where
  -- what refuses both parts, or the edition before them, is the answer, and changes nothing
  pub refuses : T (are_bytes input) → T (are_bytes pool) → {label : Label} (fault : Fault) {r : Reply} → label ≡ label_of edition → relay_under input table pool label ≡ unrelayed (answer_of fault.refusal) fault.at → reply_of r ≡ fault_reply fault
      → RelayPromise edition input table pool rows words output r rows words output
  unfolding relay relay_answer relay_rows relay_words relay_output
  refuses t u fault l q s = let k = ap (relay_under input table pool) (sym l) ∙ q in record { bytes = t; pool_bytes = u; answers = s ∙ rw k refl; joins = rw k refl; carries = rw k refl; leaves = rw k refl }

module _ (e : Edition) (input table pool : List ℕ) where
  pub no_header : {old : Stage} {fault : Fault} → ((number : ℕ) → label_of number ≡ known e → Counted number input old) → old ≡ Refused fault → relay_under input table pool (known e) ≡ unrelayed (answer_of fault.refusal) fault.at
  no_header c g = ap (behind_old e input table pool) (sym (read_as strict (number_of e) e input (numbered e)) ∙ (c (number_of e) (numbered e)).refuses _ g)

  pub counted_header : {old : Stage} {to : Reached} → ((number : ℕ) → label_of number ≡ known e → Counted number input old) → old ≡ Go to → Accepted (told e) input to
  counted_header c g = accepted_told (numbered e) ((c (number_of e) (numbered e)).accepts _ g)

  module _ {to : Reached} (a : Accepted (told e) input to) where
    relay_is : relay_under input table pool (known e) ≡ joined_plan e (take to.at input) a.rows (skips_held table) (extension_plan e (cells_at pool table 0))
    relay_is = ap (behind_old e input table pool) a.is ∙ ap (λ (x : List Cell). joined_plan e (take to.at input) a.rows (skips_held table) (extension_plan e x)) (cells_are pool table)

    pub no_table : (fault : Fault) → verdict_is (Err fault) ≡ new_verdict (skips_held table) (extension_plan e (cells_at pool table 0)) → relay_under input table pool (known e) ≡ unrelayed (answer_of fault.refusal) fault.at
    no_table fault v = relay_is ∙ at (skips_held table) (extension_plan e (cells_at pool table 0)) v
      where
        at : (skips : Skips) (p : Plan) → verdict_is (Err fault) ≡ new_verdict skips p → joined_plan e (take to.at input) a.rows skips p ≡ unrelayed (answer_of fault.refusal) fault.at
        at skips (stuck i) q = cc q
        at right (plan bytes vs) q = let z : ◌≡◌ {A = ℕ} 0 1 = cc q in absurd (omega arith)
        at (wrong_at i) (plan bytes vs) q = cc q

    module _ {inside : ℕ} (v : verdict_is (Ok inside) ≡ new_verdict (skips_held table) (extension_plan e (cells_at pool table 0))) where
      abbrev Planned : Type 0
      Planned = (bytes : List ℕ) × (vs : List Envelope) × (extension_plan e (cells_at pool table 0) ≡ plan bytes vs) × (skips_held table ≡ right) × (capped (length bytes) ≡ inside)

      planned : Planned
      planned = at (skips_held table) refl (extension_plan e (cells_at pool table 0)) refl v
        where
          at : (skips : Skips) → skips_held table ≡ skips → (p : Plan) → extension_plan e (cells_at pool table 0) ≡ p → verdict_is (Ok inside) ≡ new_verdict skips p → Planned
          at skips s (stuck i) p q = let z : ◌≡◌ {A = ℕ} 0 1 = cc q in absurd (omega arith)
          at right s (plan bytes vs) p q = let z : inside ≡ capped (length bytes) = cc q in (bytes, vs, p, s, sym z)
          at (wrong_at i) s (plan bytes vs) p q = let z : ◌≡◌ {A = ℕ} 0 1 = cc q in absurd (omega arith)

      limits_decide : (b : Bool) → OneMoreFits input inside b → (bytes : List ℕ) (vs : List Envelope) → extension_plan e (cells_at pool table 0) ≡ plan bytes vs → skips_held table ≡ right → capped (length bytes) ≡ inside
          → relay_under input table pool (known e) ≡ pick b (relayed (joint_of e bytes (take to.at input) a.rows)) (unrelayed 5 0)
      limits_decide b f bytes vs p s m =
          let q : b ≡ ltb (length (words_read a.rows)) envelopes_most && within_limit (length bytes)
          = f.is (told e) to.at a.rows a.is ∙ ap (λ (x : Bool). ltb (length (words_read a.rows)) envelopes_most && x) (ap within_limit (sym m) ∙ limit_capped (length bytes)) in
          relay_is ∙ ap (λ (x : Skips). joined_plan e (take to.at input) a.rows x (extension_plan e (cells_at pool table 0))) s
          ∙ ap (joined_plan e (take to.at input) a.rows right) p ∙ ap (λ (x : Bool). pick x (relayed (joint_of e bytes (take to.at input) a.rows)) (unrelayed 5 0)) (sym q)

      pub past_limit : {b : Bool} → OneMoreFits input inside b → b ≡ false → relay_under input table pool (known e) ≡ unrelayed 5 0
      past_limit {b} f over =
          let (bytes, vs, p, s, m) = planned in
          limits_decide b f bytes vs p s m ∙ ap (λ (x : Bool). pick x (relayed (joint_of e bytes (take to.at input) a.rows)) (unrelayed 5 0)) over

      pub may_join : {b : Bool} → OneMoreFits input inside b → b ≡ true → Joinable e input table pool (record { old = to; inside = inside })
      may_join {b} f holds =
          let (bytes, vs, p, s, m) = planned in
          let fits = f.is (told e) to.at a.rows a.is in
          let (few, small) = both_hold (ltb (length (words_read a.rows)) envelopes_most) (within_limit inside) (sym fits ∙ holds) in
          record {
            old = a;
            body = bytes;
            envelopes = vs;
            planned = p;
            long = small_capped (length bytes) (sym (limit_capped (length bytes)) ∙ ap within_limit m ∙ small) ∙ m;
            small = small;
            is = limits_decide b f bytes vs p s m ∙ ap (λ (x : Bool). pick x (relayed (joint_of e bytes (take to.at input) a.rows)) (unrelayed 5 0)) holds;
          }
