-- The engine over the bytes of an envelope's inside: where it begins, past a text's bytes, at the declared end, and one turn of its loop.
use Prim.Native.Nat.{ℕ, zero, suc, ◌+◌, ◌-◌, ◌≤◌, ◌<◌}
use mathlib.Core.List.{List}
use mathlib.Core.Bool.{Bool, true, false}
use mathlib.Core.Path.{◌≡◌, refl, ap, sym, ◌∙◌}
use native.Mathlib.Omega.{arith}
use lib.ListN.{length}
use Rattle.std.specs.Prelude.{Option, None, Some}
use Rattle.meaning.specs.Told.{Told}
use Rattle.meaning.specs.Bytes.{Taken, took, failed, take_text, take_number, high_first, take_bytes, block_of}
use Rattle.meaning.specs.Editions.{state, go, closed}
use Rattle.meaning.specs.Reading.{is_closed}
use Rattle.meaning.specs.Headers.{start}
use Rattle.laws_steps.specs.From.{from, from_end}
use Rattle.laws_steps.specs.Rows.{put}
use Rattle.laws_steps.specs.Pouring.{Filling, Source, source, run_at}
use Rattle.laws_steps.specs.ReadAt.{at_end}
use Rattle.values.specs.Stages.{Span, spans, misses, span, rule_of, LineRun}
use Rattle.values.specs.declared.text.Rule.{Rule}
use Rattle.date.specs.Dates.{date_length}
use Rattle.date.specs.DateSteps.{date_ends}
use Rattle.table.specs.declared.answers.Fault.{Fault}
use Rattle.table.specs.declared.answers.Stage.{Stage}
use Rattle.table.specs.declared.answers.Stage.TheVariants as stage
use Rattle.table.specs.declared.refusals.Refusal.TheVariants.{EnvelopeEnds}
use Rattle.table.specs.Kinds.{number_of}
use Rattle.read_rows.specs.Stages.{after, Moved, Ran}
use Rattle.moves.specs.declared.rooms.Next.{Next}
use Rattle.moves.specs.Words.{room_of, next_of}
use Rattle.plain.specs.declared.feed.Pending.{Pending}
use Rattle.plain.specs.declared.feed.Taking.{Taking}
use Rattle.plain.specs.declared.feed.Taking.TheVariants.{Text, Date, Number, Length, Block}
use Rattle.plain.specs.declared.engine.Engine.{Engine}
use Rattle.plain.specs.declared.feed.Fed.{Fed}
use Rattle.plain.specs.declared.feed.Fed.TheVariants as fed
use Rattle.plain.specs.Lists.{state_of, Leads}
use Rattle.plain.specs.Values.{span_from, Valid}
use Rattle.plain.specs.Steps.{landed_span, value_at, fed_at, FedLeads, FedValid, taking_at, comes, TakingHolds, Holds, Steps, Begins, PastText, Ended}
use Rattle.plain.proofs.Feeding.{block_on}
use Rattle.plain.proofs.Coding.{closed_same}

-- Where it begins

pub begins_comes : {base : Bool} {e : Engine} → Begins base e → (i : Source) (at n : ℕ) (m : List ℕ) → run_at i (start base) at n m ≡ comes i e at n m
unfolding taking_at
begins_comes a i at n m = rw (a.code, a.is) refl

pub code_holds : (e : Engine) → e.taking ≡ None → (at : ℕ) → Holds e at
unfolding TakingHolds
code_holds e q at = rw q tt

-- Past a text's bytes

abbrev shift : ℕ → Span → Span
shift j (spans len rest) = spans (j + len) rest
shift j (misses refusal left) = misses refusal left

shift_span : (j k : ℕ) (g : Taken) → shift j (span k g) ≡ span (j + k) g
shift_span j k (took v rest) = ap (λ (x : ℕ). spans x rest) (omega arith)
shift_span j k (failed refusal left) = refl

span_further : (j k : ℕ) (g f : Taken) → span 0 g ≡ span k f → span j g ≡ span (j + k) f
span_further j k g f q = let u : j ≡ j + 0 = omega arith in ap (λ (x : ℕ). span x g) u ∙ sym (shift_span j 0 g) ∙ ap (shift j) q ∙ shift_span j k f

pub text_past : (e : Engine) (s : List ℕ) (end at place : ℕ) {rule : Rule} {of : Pending} → e.taking ≡ Some (Text rule of) → Holds e at → LineRun s end at place → PastText e s end at place
unfolding taking_at value_at span_from TakingHolds Valid
text_past e s end at place {rule} {of} p h a =
    let v = rw p at h in
    let k = a.skipped (rule_of rule) in
    let u : at - of.start + (place - at) ≡ place - of.start = omega (arith, k.inside, v.1) in
    record {
      inside = k.inside;
      before = k.before;
      is = λ t n m. rw p (ap (λ (y : Span). landed_span (source t s end) 1 (number_of of.kind) e.standing.lists.depth (go (next_of of.next) (state_of e.standing)) y n m)
          (span_further (at - of.start) (place - at) (take_text (rule_of rule) (from s at end)) (take_text (rule_of rule) (from s place end)) k.is ∙ ap (λ (y : ℕ). span y (take_text (rule_of rule) (from s place end))) u));
      holds = rw p (v.0, omega (arith, k.inside, v.1));
    }

-- .. and a block's

abbrev block_span : List ℕ → ℕ → ℕ → Pending → ℕ → Span
block_span s end until of at = span (at - of.start) (take_bytes (until - at) (from s at end))

blocks_on : (t : Told) (s : List ℕ) (end until : ℕ) (of : Pending) → end ≤ length s → (n at : ℕ) → of.start ≤ at → at + n < until → at + n ≤ end → block_span s end until of at ≡ block_span s end until of (at + n)
unfolding Valid
blocks_on t s end until of l zero at h k e = let q : at ≡ at + 0 = omega arith in ap (block_span s end until of) q
blocks_on t s end until of l (suc n) at h k e =
    let q : at + 1 + n ≡ at + suc n = omega arith in
    block_on t s at until of (h, omega arith) end (omega arith) l ∙ blocks_on t s end until of l n (at + 1) (omega arith) (omega arith) (omega arith) ∙ ap (block_span s end until of) q

pub block_past : (e : Engine) (s : List ℕ) (end at place : ℕ) {until : ℕ} {of : Pending} → end ≤ length s → e.taking ≡ Some (Block until of) → Holds e at → at ≤ place → place ≤ end → place < until → PastText e s end at place
unfolding taking_at value_at span_from TakingHolds Valid
block_past e s end at place {until} {of} l p h a b c =
    let v = rw p at h in
    let u : at + (place - at) ≡ place = omega arith in
    record {
      inside = a;
      before = b;
      is = λ t n m. rw p (ap (λ (y : Span). landed_span (source t s end) 0 (number_of of.kind) e.standing.lists.depth (go (next_of of.next) (state_of e.standing)) y n m)
          (blocks_on t s end until of l (place - at) at v.1.0 (omega arith) (omega arith) ∙ ap (block_span s end until of) u));
      holds = rw p (v.0, (omega (arith, v.1.0), c));
    }

pub block_ahead : (e : Engine) (at : ℕ) {until : ℕ} {of : Pending} → e.taking ≡ Some (Block until of) → Holds e at → at < until
unfolding TakingHolds Valid
block_ahead e at p h = let v = rw p at h in v.1.1

pub taken_is : (o : Option Taking) (x y : Taking) → o ≡ Some x → x ≡ y → o ≡ Some y
taken_is o x y p q = p ∙ ap Some q

-- At the declared end

value_ends : (t : Told) (s : List ℕ) (at : ℕ) → at ≤ length s → (taking : Taking) → Valid taking at → span_from (source t s at) taking at ≡ misses 6 0
unfolding span_from Valid take_text take_number high_first block_of take_bytes
value_ends t s at l (Text rule of) v = rw (from_end s at at (omega arith)) refl
value_ends t s at l (Date isAbsolute designated of) v =
    let u : at - at ≡ 0 = omega arith in
    date_ends s at of.start isAbsolute (date_length designated) (at - of.start) (omega (arith, v.0, v.1)) (omega (arith, v.0)) ∙ rw u refl
value_ends t s at l (Number so_far of) v = rw (from_end s at at (omega arith)) refl
value_ends t s at l (Length width so_far of) v =
    let k : of.start + width - at ≡ suc (of.start + width - (at + 1)) = omega (arith, v.2) in
    rw (from_end s at at (omega arith), k) refl
value_ends t s at l (Block until of) v =
    let k : until - at ≡ suc (until - (at + 1)) = omega (arith, v.1) in
    rw (from_end s at at (omega arith), k) refl

module _ (e : Engine) (at count : ℕ) {fault : Fault} (is_end : fault ≡ record { refusal = EnvelopeEnds; at = at }) where
  pub ended_value : {taking : Taking} → e.taking ≡ Some taking → Ended e at count (stage.Refused fault)
  unfolding taking_at value_at TakingHolds after Moved
  ended_value {taking} q = record {
    is = λ t s m l h.
        let v = rw q at h in
        let u : at - 0 ≡ at = omega arith in
        rw (q, value_ends t s at l taking v.1, u, is_end) refl;
    moved = λ least h k. tt;
  }

  pub ended_open : e.taking ≡ None → is_closed (room_of e.standing.room) ≡ false → Ended e at count (stage.Refused fault)
  unfolding taking_at after Moved
  ended_open q c = record {
    is = λ t s m l h. rw (q, is_end) (at_end (source t s at) at count m (state_of e.standing) (from_end s at at (omega arith)) refl c);
    moved = λ least h k. tt;
  }

pub ended_closed : (e : Engine) (at count : ℕ) → e.taking ≡ None → is_closed (room_of e.standing.room) ≡ true → Ended e at count (stage.Go (record { at = at; rows = count }))
unfolding taking_at after Moved
ended_closed e at count q c = record {
  is = λ t s m l h. rw q (closed_same (source t s at) at count m (omega arith) l (room_of e.standing.room) e.standing.lists.depth _ c);
  moved = λ least h k. (h, omega arith, k);
}

-- One turn of the loop

module _ (t : Told) (s : List ℕ) (end here place count : ℕ) (m : List ℕ) (e : Engine) (least : ℕ) {o : Filling} (inv : o ≡ comes (source t s end) e here count m) (past : PastText e s end here place) where
  reaches : o ≡ comes (source t s end) e place count m
  reaches = inv ∙ past.is t count m

  pub run_ended : {r : Stage} → end ≤ place → end ≤ length s → least ≤ here → count ≤ here → Ended e place count r → Ran (source t s end) least o r (state closed 0 false) m
  run_ended {r} h k l c a =
      let q : end ≡ place = omega (arith, past.before) in
      let w = past.inside in
      record { goes = reaches ∙ rw q (a.is t s m (omega arith) past.holds); moved = rw q (a.moved least (omega arith) (omega arith)) }

  module _ {x : Fed} (h : place < end) (k : end ≤ length s) (a : Steps e t s place x) where
    onward : o ≡ fed_at (source t s end) (state_of e.standing) x place count m
    onward = reaches ∙ a.is end h k count m

    pub run_refused : {fault : Fault} → x ≡ fed.Wrong fault → Ran (source t s end) least o (stage.Refused fault) (state closed 0 false) m
    unfolding fed_at after Moved
    run_refused q = record { goes = onward ∙ rw q refl; moved = tt }

    pub run_over : x ≡ fed.Over → least ≤ here → count ≤ here → Ran (source t s end) least o (stage.Go (record { at = place; rows = count })) (state closed 0 false) m
    unfolding fed_at after Moved
    run_over q l c = let w = past.inside in record { goes = onward ∙ rw q refl; moved = (omega arith, omega arith, omega arith) }

    pub run_goes : {taking : Taking} {f : Engine} → x ≡ fed.Goes taking → f ≡ record { standing = e.standing; taking = Some taking } → (o ≡ comes (source t s end) f (place + 1) count m) × Holds f (place + 1)
    unfolding fed_at taking_at TakingHolds FedValid FedLeads
    run_goes q w =
        let v = rw q at a.valid in
        let g = rw q at a.leads in
        (onward ∙ rw (q, w) refl, rw w (g, v))

    pub moves_lead : {n : Next} → x ≡ fed.Moves n → Leads n e.standing.lists
    unfolding FedLeads
    moves_lead q = rw q at a.leads

    pub run_moves : {n : Next} (f : Engine) → x ≡ fed.Moves n → f.taking ≡ None → state_of f.standing ≡ go (next_of n) (state_of e.standing) → (o ≡ comes (source t s end) f (place + 1) count m) × Holds f (place + 1)
    unfolding fed_at taking_at TakingHolds
    run_moves f q d g = (onward ∙ rw (q, d, g) refl, rw d tt)

    pub ends_lead : {of : Pending} {len : ℕ} → x ≡ fed.Ends of len → Leads of.next e.standing.lists
    unfolding FedLeads
    ends_lead q = rw q at a.leads

    pub row_fits : {of : Pending} {len : ℕ} → x ≡ fed.Ends of len → (of.start ≤ place + 1) × (len ≤ place + 1)
    unfolding FedValid
    row_fits q = rw q at a.valid

    pub run_ends : {of : Pending} {len level : ℕ} {left : List ℕ} (f : Engine) → x ≡ fed.Ends of len → level ≡ e.standing.lists.depth → left ≡ put m count (number_of of.kind) level of.start len → f.taking ≡ None
        → state_of f.standing ≡ go (next_of of.next) (state_of e.standing) → (o ≡ comes (source t s end) f (place + 1) (count + 1) left) × Holds f (place + 1)
    unfolding fed_at taking_at TakingHolds
    run_ends f q v w d g = (onward ∙ rw (q, w, v, d, g) refl, rw d tt)
