-- Order 2, of calls of `relay`, and of `read` beside it: any results that the promises allow. That input and pool hold bytes, the promise of a call says, as in `Calls`.
use Rattle.std.specs.Prelude.{ℕ, ◌-◌, ◌*◌, ◌≤◌, List, ◌++◌, Bool, ◌&&◌, ◌≡◌, T, leb, length, take, drop}
use Rattle.std.proofs.Math.Bool.{true, false}
use Rattle.std.proofs.Math.Path.{refl, ap, sym}
use Rattle.std.proofs.Common.{◌∙◌, arith, length-append, length-take-le, leb-true}
use Rattle.std.proofs.Math.Seq.{drop-append_seam}
use Rattle.meaning.specs.Basics.{pick}
use Rattle.meaning.specs.Told.{Edition, Label, known, unknown, label_of, strict, told}
use Rattle.meaning.specs.Skips.{Skips, right, wrong_at}
use Rattle.meaning.specs.Headers.{Placed, Answer, refused, accepted, envelopes_most, header, read}
use Rattle.meaning.specs.Writing.{Plan, stuck, plan}
use Rattle.meaning.specs.Memory.{Reply, reply, row_width, cells_of, skips_held, laid_over, read_reply, room_with, answer_by}
use Rattle.meaning.specs.Relay.{extension_plan, Joint, bytes_of, joined_table, joined_words, joined_count, Relayed, relayed, unrelayed, joint_of, one_more_fits, joined_skips, joined_plan, behind_old, relay_under, relay, relay_reply, relay_memory, relay_answer, relay_rows, relay_words, relay_output}
use Rattle.laws_steps.specs.Logic.{are_bytes}
use Rattle.laws_tables.specs.Ties.{read_as}
use Rattle.laws_tables.specs.Answered.{refused_shape, accepted_shape}
use Rattle.laws_tables.specs.Joined.{Joins, joins}
use Rattle.laws_tables.specs.JoinedRead.{joined_rows, count_joined, table_is, words_are, joined_read, refused_as_read}
use Rattle.listing.specs.Listed.{table_length}
use Rattle.table.specs.declared.reply.Reply as declared
use Rattle.reader.specs.Promises.{ReadPromise}
use Rattle.relay.specs.Promise.{RelayPromise}
use Rattle.certificate.specs.Lent.{first_rows, laid_front, laid_behind, accepted_call, fills}
use Rattle.certificate.specs.Calls.{sent}

-- One promise allows one answer, and every call has one

abbrev pub declared_of : Reply → declared.Reply
declared_of r = record { answer = r.answer; place = r.place; rows = r.rows }

pub one_relay : {edition : ℕ} {input table pool rows words output rows₁ words₁ out₁ rows₂ words₂ out₂ : List ℕ} {a b : declared.Reply} → RelayPromise edition input table pool rows words output a rows₁ words₁ out₁
    → RelayPromise edition input table pool rows words output b rows₂ words₂ out₂ → (a ≡ b) × (rows₁ ≡ rows₂) × (words₁ ≡ words₂) × (out₁ ≡ out₂)
one_relay p q = (ap declared_of (p.answers ∙ sym q.answers), p.joins ∙ sym q.joins, p.carries ∙ sym q.carries, p.leaves ∙ sym q.leaves)

pub some_relay : (edition : ℕ) (input table pool rows words output : List ℕ) → T (are_bytes input) → T (are_bytes pool) → (a : declared.Reply) × (rows' : List ℕ) × (words' : List ℕ) × (out : List ℕ) × RelayPromise edition input table pool rows words output a rows' words' out
some_relay edition input table pool rows words output t u = (
  declared_of (relay_answer edition input table pool rows words output),
  relay_rows edition input table pool rows words output,
  relay_words edition input table pool rows words output,
  relay_output edition input table pool rows words output,
  record { bytes = t; pool_bytes = u; answers = refl; joins = refl; carries = refl; leaves = refl },
)

-- no refusal is 0
module _ (edition : ℕ) (input table pool : List ℕ) (refusal place : ℕ) where
  by_skips : (e : Edition) (bs old : List ℕ) (rows : List Placed) (s : Skips) → joined_skips e bs old rows s ≡ unrelayed refusal place → 1 ≤ refusal
  by_skips e bs old rows (wrong_at i) r = let z : 15 ≡ refusal = cc r in omega arith
  by_skips e bs old rows right r = at (one_more_fits bs rows) r
    where
      at : (b : Bool) → pick b (relayed (joint_of e bs old rows)) (unrelayed 5 0) ≡ unrelayed refusal place → 1 ≤ refusal
      at true q = let z : ◌≡◌ {A = ℕ} 0 1 = cc q in absurd (omega arith)
      at false q = let z : 5 ≡ refusal = cc q in omega arith

  by_plan : (e : Edition) (old : List ℕ) (rows : List Placed) (s : Skips) (p : Plan) → joined_plan e old rows s p ≡ unrelayed refusal place → 1 ≤ refusal
  by_plan e old rows s (stuck i) r = let z : 15 ≡ refusal = cc r in omega arith
  by_plan e old rows s (plan bs vs) r = by_skips e bs old rows s r

  by_answer : (e : Edition) → label_of edition ≡ known e → (a : Answer) → header envelopes_most (told e) 0 input ≡ a → behind_old e input table pool a ≡ unrelayed refusal place → 1 ≤ refusal
  by_answer e k (refused x at) h r =
      let z : x ≡ refusal = cc r in
      let y = (refused_shape strict edition input x at (read_as strict edition e input k ∙ h)).0 in
      omega arith
  by_answer e k (accepted at rows) h r = by_plan e (take at input) rows (skips_held table) (extension_plan e (cells_of pool table)) r

  by_label : (l : Label) → label_of edition ≡ l → relay_under input table pool l ≡ unrelayed refusal place → 1 ≤ refusal
  by_label unknown k r = let z : 1 ≡ refusal = cc r in omega arith
  by_label (known e) k r = by_answer e k (header envelopes_most (told e) 0 input) refl r

  unrelayed_some : relay edition input table pool ≡ unrelayed refusal place → 1 ≤ refusal
  unfolding relay
  unrelayed_some q = by_label (label_of edition) refl q

-- A call that answers 0: what was joined, and that it lies over the front of all that was lent
pub record Joined (edition : ℕ) (input table pool rows words output : List ℕ) (a : declared.Reply) (rows' words' out : List ℕ) : Type 0 where
  pub joint : Joint
  pub is : relay edition input table pool ≡ relayed joint
  pub room : joined_count joint ≤ room_with rows words
  pub ends : a.place ≡ length (bytes_of joint)
  pub count : a.rows ≡ joined_count joint
  pub joins : rows' ≡ laid_over rows (joined_table joint)
  pub carries : words' ≡ laid_over words (joined_words joint)
  pub leaves : out ≡ laid_over output (bytes_of joint)

module _ {edition : ℕ} {input table pool rows words output rows' words' out : List ℕ} {a : declared.Reply} (p : RelayPromise edition input table pool rows words output a rows' words' out) where
  abbrev Call : Type 0
  Call = Joined edition input table pool rows words output a rows' words' out

  pub joined_call : a.answer ≡ 0 → Call
  unfolding relay_answer relay_rows relay_words relay_output
  joined_call z = at (relay edition input table pool) refl p.answers p.joins p.carries p.leaves
    where
      other_answer : {n place count : ℕ} → 1 ≤ n → reply a.answer a.place a.rows ≡ reply n place count → Call
      other_answer h r = let x = ap (λ (y : Reply). y.answer) r in absurd (omega arith)

      fits : (j : Joint) → relay edition input table pool ≡ relayed j → (b c : Bool) → leb (joined_count j) (room_with rows words) ≡ b
          → reply a.answer a.place a.rows ≡ pick b (pick c (reply 0 (length (bytes_of j)) (joined_count j)) (reply 16 (length (bytes_of j)) 0)) (reply 14 (length (bytes_of j)) (joined_count j))
          → rows' ≡ pick (b && c) (laid_over rows (joined_table j)) rows → words' ≡ pick (b && c) (laid_over words (joined_words j)) words → out ≡ pick (b && c) (laid_over output (bytes_of j)) output → Call
      fits j q false c h r m w l = other_answer (omega arith) r
      fits j q true false h r m w l = other_answer (omega arith) r
      fits j q true true h r m w l =
          record { joint = j; is = q; room = leb-true (joined_count j) (room_with rows words) h; ends = ap (λ (y : Reply). y.place) r; count = ap (λ (y : Reply). y.rows) r; joins = m; carries = w; leaves = l }

      at : (r : Relayed) → relay edition input table pool ≡ r → reply a.answer a.place a.rows ≡ relay_reply (room_with rows words) (length output) r
          → rows' ≡ relay_memory (room_with rows words) (length output) joined_table rows r → words' ≡ relay_memory (room_with rows words) (length output) joined_words words r → out ≡ relay_memory (room_with rows words) (length output) bytes_of output r → Call
      at (unrelayed refusal place) q r m w l = other_answer (unrelayed_some edition input table pool refusal place q) r
      at (relayed j) q r m w l = fits j q (leb (joined_count j) (room_with rows words)) (leb (length (bytes_of j)) (length output)) refl r m w l

  -- "A refused call changes nothing lent"
  pub refused_relay_changes_nothing : (a.answer ≡ 0 → ⊥) → (rows' ≡ rows) × (words' ≡ words) × (out ≡ output)
  unfolding relay_answer relay_rows relay_words relay_output
  refused_relay_changes_nothing some = at (relay edition input table pool) p.answers p.joins p.carries p.leaves
    where
      fits : (j : Joint) (b c : Bool) → reply a.answer a.place a.rows ≡ pick b (pick c (reply 0 (length (bytes_of j)) (joined_count j)) (reply 16 (length (bytes_of j)) 0)) (reply 14 (length (bytes_of j)) (joined_count j))
          → rows' ≡ pick (b && c) (laid_over rows (joined_table j)) rows → words' ≡ pick (b && c) (laid_over words (joined_words j)) words → out ≡ pick (b && c) (laid_over output (bytes_of j)) output → (rows' ≡ rows) × (words' ≡ words) × (out ≡ output)
      fits j false c r m w l = (m, w, l)
      fits j true false r m w l = (m, w, l)
      fits j true true r m w l = absurd (some (ap (λ (y : Reply). y.answer) r))

      at : (r : Relayed) → reply a.answer a.place a.rows ≡ relay_reply (room_with rows words) (length output) r → rows' ≡ relay_memory (room_with rows words) (length output) joined_table rows r
          → words' ≡ relay_memory (room_with rows words) (length output) joined_words words r → out ≡ relay_memory (room_with rows words) (length output) bytes_of output r → (rows' ≡ rows) × (words' ≡ words) × (out ≡ output)
      at (unrelayed refusal place) r m w l = (m, w, l)
      at (relayed j) r m w l = fits j (leb (joined_count j) (room_with rows words)) (leb (length (bytes_of j)) (length output)) r m w l

  -- "the reader's but 14 for the old header": what a call of `read` refuses, the relay refuses, with the same number and place
  pub relay_refuses_as_read : {before words₀ after words₁ : List ℕ} {b : declared.Reply} → ReadPromise edition input before words₀ b after words₁ → (b.answer ≡ 0 → ⊥) → (b.answer ≡ 14 → ⊥) → a ≡ b
  unfolding relay_answer answer_by
  relay_refuses_as_read {before} {words₀} {b = b} q some other = at (read edition input) refl q.answers
    where
      at : (found : Answer) → read edition input ≡ found → reply b.answer b.place b.rows ≡ read_reply (room_with before words₀) found → a ≡ b
      at (refused refusal place) k r = ap declared_of (p.answers ∙ ap (relay_reply (room_with rows words) (length output)) (refused_as_read edition input table pool refusal place k) ∙ sym r)
      at (accepted place found) k r = absurd (by (leb (length found) (room_with before words₀)) (ap (λ (y : Reply). y.answer) r))
        where
          by : (z : Bool) → b.answer ≡ pick z 0 14 → ⊥
          by true h = some h
          by false h = other h

  module _ (z : a.answer ≡ 0) where
    abbrev call : Call
    call = joined_call z

    abbrev good : Joins edition input table pool call.joint
    good = joins edition input table pool call.joint call.is

    pub joins_of : Joins edition input table pool (joined_call z).joint
    joins_of = good

    -- what lies at the front of output and rows
    pub header_joined : take a.place out ≡ bytes_of call.joint
    header_joined = ap (take a.place) call.leaves ∙ laid_front output (bytes_of call.joint) (sym call.ends)

    pub table_long : length (joined_table call.joint) ≡ a.rows * row_width
    table_long = ap length (table_is good) ∙ table_length (joined_rows call.joint) ∙ ap (λ (n : ℕ). n * row_width) (sym (count_joined call.joint) ∙ sym call.count)

    pub table_joined : first_rows a.rows rows' ≡ joined_table call.joint
    table_joined = ap (first_rows a.rows) call.joins ∙ laid_front rows (joined_table call.joint) table_long

    -- "the joined rows are the reader's for the joined header", and so are the words: a call of `read` on the header in the output, with any payload behind it, lent
    -- the same rows and words, answers as the relay did and leaves the same
    pub relay_reads_as_joined : (payload : List ℕ) {b : declared.Reply} {rows'' words'' : List ℕ} → ReadPromise edition (sent a out payload) rows words b rows'' words'' → (a ≡ b) × (rows' ≡ rows'') × (words' ≡ words'')
    relay_reads_as_joined payload {b} q =
        let j = call.joint in
        let n = count_joined j in
        let room = call.room in
        let f = fills q (ap (λ (x : List ℕ). read edition (x ++ payload)) header_joined ∙ joined_read good p.bytes payload) (omega arith) in
        let answer : reply a.answer a.place a.rows ≡ reply b.answer b.place b.rows
        = ap (λ (x : ℕ). reply x a.place a.rows) (z ∙ sym f.answers) ∙ ap (λ (x : ℕ). reply b.answer x a.rows) (call.ends ∙ sym f.ends) ∙ ap (reply b.answer b.place) (call.count ∙ n ∙ sym f.count) in
        (ap declared_of answer, call.joins ∙ ap (laid_over rows) (table_is good) ∙ sym f.leaves, call.carries ∙ ap (laid_over words) (words_are good) ∙ sym f.carries)

    -- "The old header's bytes are unchanged behind it": the last bytes of the joined header are the old header's, as a call of `read` has it; and behind the joined
    -- header nothing changed
    pub old_header_unchanged : {before words₀ after words₁ : List ℕ} {b : declared.Reply} → ReadPromise edition input before words₀ b after words₁ → b.answer ≡ 0
        → (drop (a.place - b.place) (take a.place out) ≡ take b.place input) × (drop a.place out ≡ drop a.place output)
    old_header_unchanged {b = b} q y =
        let (place, found, k, f) = accepted_call q y in
        let j = call.joint in
        let same : accepted place found ≡ accepted good.place j.old = sym k ∙ good.accepts in
        let at : place ≡ good.place = cc same in
        let within = (accepted_shape strict edition input place found p.bytes k).0 in
        let long : length j.header ≡ b.place = ap length good.front ∙ ap (λ (n : ℕ). length (take n input)) (sym at) ∙ length-take-le place input within ∙ sym f.ends in
        let front : a.place - b.place ≡ length j.envelope = omega (arith, call.ends, length-append j.envelope j.header, long) in (
          ap (λ (n : ℕ). drop n (take a.place out)) front ∙ ap (drop (length j.envelope)) header_joined ∙ drop-append_seam j.envelope j.header ∙ good.front ∙ ap (λ (n : ℕ). take n input) (sym at ∙ sym f.ends),
          ap (drop a.place) call.leaves ∙ laid_behind output (bytes_of j) (sym call.ends),
        )
