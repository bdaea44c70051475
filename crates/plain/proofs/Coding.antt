-- The step of a code: what the move at the byte comes to, by the form of its value.
use Prim.Native.Nat.{ℕ, suc, ◌+◌, ◌-◌, ◌≤◌, ◌<◌}
use mathlib.Core.List.{List, [], ◌∷◌}
use mathlib.Core.Bool.{Bool, true, false, ◌&&◌}
use mathlib.Core.Logic.{◌⊎◌, inl, inr}
use mathlib.Core.Path.{◌≡◌, refl, ap, sym, ◌∙◌}
use native.Mathlib.Omega.{arith}
use lib.Dec.{eqb, ltb}
use lib.ListN.{length, get_or}
use borrow.Author.Tests.{ne_eqb, eq-eqb, lt-ltb, ltb-false}
use Rattle.std.specs.Prelude.{Option, None, Some}
use Rattle.meaning.specs.Basics.{pick}
use Rattle.meaning.specs.Told.{Edition, Told}
use Rattle.meaning.specs.Kinds.{agent_name}
use Rattle.meaning.specs.Bytes.{line, Taken, took, failed, take_text, take_block, Width, bytes_of}
use Rattle.meaning.specs.Editions.{Room, State, state, go, Next, Form, is_quiet, no_code, no_kind, moves, shared, own, on◌▸◌▸◌▸◌, pass◌▸◌}
use Rattle.meaning.specs.Editions as meaning
use Rattle.meaning.specs.Reading.{take_value, reach_back, Found, or_else, look, find, none, hit, is_closed, strange, level_most, too_deep, next, step, step_move, onward, inside}
use Rattle.laws_steps.specs.From.{from, from_length, from_cons}
use Rattle.laws_steps.specs.Pouring.{filled, Source, source, pour, run_at, landed, Peeked, pour_none, run_step}
use Rattle.laws_steps.specs.ReadAt.{stepped, coded, too_deep_lem, strange_code, uncoded}
use Rattle.table.specs.declared.answers.Fault.{Fault}
use Rattle.table.specs.declared.kinds.Kind.{Kind}
use Rattle.table.specs.declared.refusals.Refusal.{Refusal}
use Rattle.table.specs.declared.refusals.Refusal.TheVariants.{AgentLevel}
use Rattle.table.specs.Kinds.{number_of}
use Rattle.table.specs.Refusals.{answer_of}
use Rattle.values.specs.Stages.{span, rule_of}
use Rattle.values.specs.declared.text.Rule.{Rule}
use Rattle.date.specs.Dates.{reaching, date_length}
use Rattle.date.specs.DateSteps.{date_begins, nine_at_least}
use Rattle.moves.specs.declared.rooms.Room as declared
use Rattle.moves.specs.declared.rooms.Move.{Move}
use Rattle.moves.specs.declared.rooms.Move.TheVariants.{Coded, Quiet, Uncoded}
use Rattle.moves.specs.declared.rooms.Form as declaredForm
use Rattle.moves.specs.declared.rooms.Form.TheVariants as form
use Rattle.moves.specs.declared.rooms.Next as declaredNext
use Rattle.moves.specs.declared.rooms.Next.TheVariants as nexts
use Rattle.moves.specs.Words.{room_of, reach_of, form_of, next_of, found_of}
use Rattle.plain.specs.declared.standing.Standing.{Standing}
use Rattle.plain.specs.declared.feed.Pending.{Pending}
use Rattle.plain.specs.declared.feed.Taking.{Taking}
use Rattle.plain.specs.declared.feed.Taking.TheVariants.{Text, Date, Number, Length}
use Rattle.plain.specs.declared.feed.Fed.{Fed}
use Rattle.plain.specs.declared.feed.Fed.TheVariants as fed
use Rattle.plain.specs.Lists.{state_of, Leads}
use Rattle.plain.specs.Values.{pending_of, back_of, width_of, span_from, Valid}
use Rattle.plain.specs.Steps.{landed_span, value_at, fed_at, FedLeads, FedValid, CodeSteps, Here}

landed_span_lem : (i : Source) (back kind level : ℕ) (q : State) (g : Taken) (n : ℕ) (m : List ℕ) → landed i back kind level q g n m ≡ landed_span i back kind level q (span 0 g) n m
landed_span_lem i back kind level q (took v rest) n m = let u : 0 + length v ≡ length v = omega arith in rw u refl
landed_span_lem i back kind level q (failed refusal left) n m = refl

reach_same : (b : Bool) → reach_of b ≡ reaching b
reach_same true = refl
reach_same false = refl

-- a room is closed or not; the closed one has no move
closed_is : (r : Room) → is_closed r ≡ true → r ≡ meaning.closed
closed_is meaning.received_begins q = absurd (let z : ◌≡◌ {A = ℕ} 0 1 = cc q in omega arith)
closed_is meaning.head_representation q = absurd (let z : ◌≡◌ {A = ℕ} 0 1 = cc q in omega arith)
closed_is meaning.head_date q = absurd (let z : ◌≡◌ {A = ℕ} 0 1 = cc q in omega arith)
closed_is meaning.parameters q = absurd (let z : ◌≡◌ {A = ℕ} 0 1 = cc q in omega arith)
closed_is meaning.own_text q = absurd (let z : ◌≡◌ {A = ℕ} 0 1 = cc q in omega arith)
closed_is meaning.parameter_representation q = absurd (let z : ◌≡◌ {A = ℕ} 0 1 = cc q in omega arith)
closed_is meaning.behaviour_value q = absurd (let z : ◌≡◌ {A = ℕ} 0 1 = cc q in omega arith)
closed_is meaning.encrypted_texts q = absurd (let z : ◌≡◌ {A = ℕ} 0 1 = cc q in omega arith)
closed_is meaning.received_date q = absurd (let z : ◌≡◌ {A = ℕ} 0 1 = cc q in omega arith)
closed_is meaning.after_date q = absurd (let z : ◌≡◌ {A = ℕ} 0 1 = cc q in omega arith)
closed_is meaning.after_from q = absurd (let z : ◌≡◌ {A = ℕ} 0 1 = cc q in omega arith)
closed_is meaning.after_id q = absurd (let z : ◌≡◌ {A = ℕ} 0 1 = cc q in omega arith)
closed_is meaning.after_via q = absurd (let z : ◌≡◌ {A = ℕ} 0 1 = cc q in omega arith)
closed_is meaning.received_extra q = absurd (let z : ◌≡◌ {A = ℕ} 0 1 = cc q in omega arith)
closed_is meaning.agent_list q = absurd (let z : ◌≡◌ {A = ℕ} 0 1 = cc q in omega arith)
closed_is meaning.one_agent q = absurd (let z : ◌≡◌ {A = ℕ} 0 1 = cc q in omega arith)
closed_is meaning.after_name q = absurd (let z : ◌≡◌ {A = ℕ} 0 1 = cc q in omega arith)
closed_is meaning.address_texts q = absurd (let z : ◌≡◌ {A = ℕ} 0 1 = cc q in omega arith)
closed_is meaning.after_addresses q = absurd (let z : ◌≡◌ {A = ℕ} 0 1 = cc q in omega arith)
closed_is meaning.after_resolvers q = absurd (let z : ◌≡◌ {A = ℕ} 0 1 = cc q in omega arith)
closed_is meaning.agent_extra q = absurd (let z : ◌≡◌ {A = ℕ} 0 1 = cc q in omega arith)
closed_is meaning.closed q = refl

no_move : (e : Edition) (b : ℕ) → look b (moves e meaning.closed) ≡ none
unfolding look find moves shared own
no_move e b = refl

hit_open : (e : Edition) (r : Room) (b : ℕ) {v : meaning.Move} → look b (moves e r) ≡ hit v → is_closed r ≡ false
hit_open e r b {v} q = by (is_closed r) refl
  where
    by : (z : Bool) → is_closed r ≡ z → is_closed r ≡ false
    by false k = k
    by true k = absurd (let u = no_move e b in let w = closed_is r k in let z : ◌≡◌ {A = ℕ} 0 1 = cc (q, u, w) in omega arith)

-- behind the closing 01 nothing is read, whatever the level
closed_filled : (i : Source) (at n : ℕ) (m : List ℕ) → at ≤ i.end → i.end ≤ length i.bytes → (level : ℕ) (o : Bool) → run_at i (state meaning.closed level o) at n m ≡ filled at n m
unfolding step step_move look find moves shared own
closed_filled i p n m h k level o = run_step i (state meaning.closed level o) p n m ∙ by (from i.bytes p i.end) (from_length i.bytes p i.end h k)
  where
    by : (x : List ℕ) → length x ≡ i.end - p → pour i.end (onward (step i.told (state meaning.closed level o) x) (inside i.told)) n m ≡ filled p n m
    by [] q = let u : i.end - 0 ≡ p = omega arith in let v : n + 0 ≡ n = omega arith in rw (u, v) refl
    by (b ∷ x) q = let u : i.end - suc (length x) ≡ p = omega arith in let v : n + 0 ≡ n = omega arith in rw (u, v) refl

pub closed_same : (i : Source) (at n : ℕ) (m : List ℕ) → at ≤ i.end → i.end ≤ length i.bytes → (r : Room) (level : ℕ) (o : Bool) → is_closed r ≡ true → run_at i (state r level o) at n m ≡ run_at i (state meaning.closed 0 false) at n m
closed_same i at n m h k r level o c = rw (closed_is r c) (closed_filled i at n m h k level o ∙ sym (closed_filled i at n m h k 0 false))

-- The values of each form, taken up behind their code
module _ (t : Told) (s : List ℕ) (at : ℕ) (kind : Kind) (g : declaredNext.Next) (end : ℕ) (h : at < end) (k : end ≤ length s) where
  abbrev pending : Pending
  pending = record { kind = kind; next = g; start = at + 1 }

  none_yet : at + 1 - (at + 1) ≡ 0
  none_yet = omega arith

  pub text_begins : (rule : Rule) → span 0 (take_value t (meaning.text (rule_of rule)) (end - at) (get_or s at 0) (from s (at + 1) end)) ≡ span_from (source t s end) (Text rule pending) (at + 1)
  unfolding take_value span_from
  text_begins rule = rw none_yet refl

  pub date_begun : (isAbsolute designated : Bool)
      → span 0 (take_value t (meaning.date (reach_of isAbsolute) designated) (end - at) (get_or s at 0) (from s (at + 1) end)) ≡ span_from (source t s end) (Date isAbsolute designated pending) (at + 1)
  unfolding take_value span_from
  date_begun isAbsolute designated = rw (reach_same isAbsolute, none_yet) (date_begins s end (at + 1) isAbsolute (date_length designated) designated refl)

  pub number_begins : span 0 (take_value t meaning.number (end - at) (get_or s at 0) (from s (at + 1) end)) ≡ span_from (source t s end) (Number 0 pending) (at + 1)
  unfolding take_value span_from
  number_begins = rw (eq-eqb (at + 1) (at + 1) refl, none_yet) refl

  pub block_begins : (w : Width) (width : ℕ) → width_of width ≡ w → bytes_of w ≡ width
      → span 0 (take_value t (meaning.block w) (end - at) (get_or s at 0) (from s (at + 1) end)) ≡ span_from (source t s end) (Length width 0 pending) (at + 1)
  unfolding take_value take_block span_from
  block_begins w width p r =
      let u : at + 1 + width - (at + 1) ≡ width = omega arith in
      let v : at + 1 - 1 ≡ at = omega arith in
      rw (u, v, p, r) refl

-- Where the ninth list is open

abbrev kind_of : Found → ℕ
kind_of none = 0
kind_of (hit v) = v.kind

abbrev leads_to : Found → Next
leads_to none = meaning.agent_ends
leads_to (hit v) = v.next

ends_list : (g : declaredNext.Next) → meaning.list_ends ≡ next_of g → g ≡ nexts.ListEnds
ends_list (nexts.Outer r) q = absurd (let z : ◌≡◌ {A = ℕ} 0 1 = cc q in omega arith)
ends_list (nexts.Inner r) q = absurd (let z : ◌≡◌ {A = ℕ} 0 1 = cc q in omega arith)
ends_list nexts.InnerOne q = absurd (let z : ◌≡◌ {A = ℕ} 0 1 = cc q in omega arith)
ends_list (nexts.Stay r) q = absurd (let z : ◌≡◌ {A = ℕ} 0 1 = cc q in omega arith)
ends_list nexts.Deeper q = absurd (let z : ◌≡◌ {A = ℕ} 0 1 = cc q in omega arith)
ends_list nexts.ListEnds q = refl
ends_list nexts.AgentEnds q = absurd (let z : ◌≡◌ {A = ℕ} 0 1 = cc q in omega arith)

list_next : (e : Edition) (b c kind : ℕ) (f : Form) (g : declaredNext.Next) → look b (moves e meaning.agent_list) ≡ hit (on c ▸ kind ▸ f ▸ next_of g) → (kind ≡ agent_name) ⊎ (g ≡ nexts.ListEnds)
unfolding look find moves shared own
list_next e b c kind f g q = by (eqb 0x02 b) (eqb 0x01 b) q
  where
    by : (x y : Bool) → or_else (pick x (hit (on 0x02 ▸ agent_name ▸ meaning.text line ▸ meaning.stay meaning.after_name)) (pick y (hit (pass meaning.closing ▸ meaning.list_ends)) none)) none ≡ hit (on c ▸ kind ▸ f ▸ next_of g)
        → (kind ≡ agent_name) ⊎ (g ≡ nexts.ListEnds)
    by true y q = inl (sym (ap kind_of q))
    by false true q = inr (ends_list g (ap leads_to q))
    by false false q = absurd (let z : ◌≡◌ {A = ℕ} 0 1 = cc q in omega arith)

-- where a code is awaited
module _ (t : Told) (s : List ℕ) (at : ℕ) (r : Standing) where
  abbrev q : State
  q = state_of r

  abbrev b : ℕ
  b = get_or s at 0

  -- what is not an agent too deep may lead on
  leads_on : (c kind : ℕ) (f : Form) (g : declaredNext.Next) → look b (moves t.edition (room_of r.room)) ≡ hit (on c ▸ kind ▸ f ▸ next_of g) → eqb kind agent_name && ltb level_most r.lists.depth ≡ false → Leads g r.lists
  leads_on c kind f g y flat other = by (ltb level_most r.lists.depth) refl
    where
      no_agent : ltb level_most r.lists.depth ≡ true → (kind ≡ agent_name) ⊎ (g ≡ nexts.ListEnds) → ⊥
      no_agent z (inl x) = let w : true ≡ false = sym z ∙ (rw (eq-eqb kind agent_name x) at flat) in let u : ◌≡◌ {A = ℕ} 0 1 = cc w in omega arith
      no_agent z (inr x) = other x

      by : (z : Bool) → ltb level_most r.lists.depth ≡ z → r.lists.depth ≤ 8
      by false z = ltb-false level_most r.lists.depth z
      by true z = r.bounded (λ x. no_agent z (list_next t.edition b c kind f g (ap (λ (y : declared.Room). look b (moves t.edition (room_of y))) (sym x) ∙ y)))

  -- a move whose code is the byte
  module _ {kind : Kind} {f : declaredForm.Form} {g : declaredNext.Next} (here : Here t s at r.room (Some (Coded kind f g))) (flat : eqb (number_of kind) agent_name && ltb level_most r.lists.depth ≡ false) where
    code_not : eqb b no_code ≡ false
    code_not = ne_eqb b no_code (λ e. omega (arith, here.byte))

    leads : Leads g r.lists
    leads = leads_on b (number_of kind) (form_of f) g here.is flat

    coded_span : is_quiet (form_of f) ≡ false → (end : ℕ) → at < end → end ≤ length s → (n : ℕ) (m : List ℕ)
        → run_at (source t s end) q at n m ≡ landed_span (source t s end) (reach_back (form_of f)) (number_of kind) r.lists.depth (go (next_of g) q) (span 0 (take_value t (form_of f) (end - at) b (from s (at + 1) end))) n m
    coded_span z end h k n m =
        coded (source t s end) at n m b h k (from_cons s at end h k) q (on b ▸ number_of kind ▸ form_of f ▸ next_of g) here.is flat code_not z
        ∙ landed_span_lem (source t s end) (reach_back (form_of f)) (number_of kind) r.lists.depth (go (next_of g) q) (take_value t (form_of f) (end - at) b (from s (at + 1) end)) n m

    abbrev of : Pending
    of = record { kind = kind; next = g; start = at + 1 }

    -- .. and a value behind it
    taken_up : (taking : Taking) → pending_of taking ≡ of → is_quiet (form_of f) ≡ false → reach_back (form_of f) ≡ back_of taking → Valid taking (at + 1)
        → ((end : ℕ) → at < end → end ≤ length s → span 0 (take_value t (form_of f) (end - at) b (from s (at + 1) end)) ≡ span_from (source t s end) taking (at + 1))
        → CodeSteps r t s at (fed.Goes taking)
    unfolding value_at fed_at FedLeads FedValid
    taken_up taking p z y v w = record { is = λ end h k n m. coded_span z end h k n m ∙ rw (p, ← y, w end h k) refl; valid = v; leads = rw p leads }

    pub takes_text : (rule : Rule) → f ≡ form.Text rule → CodeSteps r t s at (fed.Goes (Text rule of))
    unfolding Valid
    takes_text rule x = taken_up (Text rule of) refl (rw x refl) (rw x refl) (omega arith) (λ end h k. rw x (text_begins t s at kind g end h k rule))

    pub takes_date : (isAbsolute designated : Bool) → f ≡ form.Date isAbsolute designated → CodeSteps r t s at (fed.Goes (Date isAbsolute designated of))
    unfolding Valid
    takes_date isAbsolute designated x =
        taken_up (Date isAbsolute designated of) refl (rw x refl) (rw x refl) (omega arith, omega (arith, nine_at_least designated)) (λ end h k. rw x (date_begun t s at kind g end h k isAbsolute designated))

    pub takes_number : f ≡ form.Number → CodeSteps r t s at (fed.Goes (Number 0 of))
    unfolding Valid
    takes_number x = taken_up (Number 0 of) refl (rw x refl) (rw x refl) (omega arith, omega arith) (λ end h k. rw x (number_begins t s at kind g end h k))

    pub takes_block : (w : Width) (width : ℕ) → width_of width ≡ w → bytes_of w ≡ width → 0 < width → form_of f ≡ meaning.block w → {x : Fed} → x ≡ fed.Goes (Length width 0 of) → CodeSteps r t s at x
    unfolding Valid
    takes_block w width p c d x e =
        let u : at + 1 - (at + 1) ≡ 0 = omega arith in
        rw e (taken_up (Length width 0 of) refl (rw x refl) (rw x refl) (omega arith, omega arith, omega arith, ap bytes_of p ∙ c, rw u (omega arith))
        (λ end h k. rw x (block_begins t s at kind g end h k w width p c)))

    -- a row at the code
    abbrev here_row : Pending
    here_row = record { kind = kind; next = g; start = at }

    pub coded_itself : f ≡ form.Itself → CodeSteps r t s at (fed.Ends here_row 1)
    unfolding take_value fed_at FedLeads FedValid
    coded_itself x = record {
      is = λ end h k n m.
          let u : end - (length (from s (at + 1) end) + 1 + 0) ≡ at = omega (arith, from_length s (at + 1) end (omega arith) k) in
          coded_span (rw x refl) end h k n m ∙ rw (x, u) refl;
      valid = (omega arith, omega arith);
      leads = leads;
    }

    pub coded_opens : f ≡ form.Opens → CodeSteps r t s at (fed.Ends here_row 0)
    unfolding take_value fed_at FedLeads FedValid
    coded_opens x = record {
      is = λ end h k n m.
          let u : end - (length (from s (at + 1) end) + 0 + 1) ≡ at = omega (arith, from_length s (at + 1) end (omega arith) k) in
          coded_span (rw x refl) end h k n m ∙ rw (x, u) refl;
      valid = (omega arith, omega arith);
      leads = leads;
    }

  -- a move without a row
  pub quiet_moves : {g : declaredNext.Next} → Here t s at r.room (Some (Quiet g)) → CodeSteps r t s at (fed.Moves g)
  unfolding take_value step step_move fed_at FedLeads FedValid
  quiet_moves {g} here = record {
    is = λ end h k n m.
        let no : eqb b no_code ≡ false = ne_eqb b no_code (λ e. omega (arith, here.byte)) in
        stepped (source t s end) at n m q (b ∷ from s (at + 1) end) (next (go (next_of g) q) [] (from s (at + 1) end)) (from_cons s at end h k) (rw (here.is, no) refl)
        ∙ pour_none end (inside t (go (next_of g) q) (from s (at + 1) end)) n m;
    valid = tt;
    leads = leads_on b no_kind meaning.quiet g here.is refl;
  }

  -- an agent of level 9
  agent_deep : (v : meaning.Move) → look b (moves t.edition (room_of r.room)) ≡ hit v → too_deep v q ≡ true → {fault : Fault} → fault ≡ record { refusal = AgentLevel; at = at } → CodeSteps r t s at (fed.Wrong fault)
  unfolding fed_at FedLeads FedValid
  agent_deep v y d e = rw e (record { is = λ end h k n m. too_deep_lem (source t s end) at n m b h k (from_cons s at end h k) q v y d; valid = tt; leads = tt })

  pub coded_deep : {kind : Kind} {f : declaredForm.Form} {g : declaredNext.Next} → Here t s at r.room (Some (Coded kind f g)) → eqb (number_of kind) agent_name && ltb level_most r.lists.depth ≡ true → {fault : Fault} → fault ≡ record { refusal = AgentLevel; at = at } → CodeSteps r t s at (fed.Wrong fault)
  coded_deep here d e = agent_deep _ here.is d e

  pub uncoded_deep : {kind : Kind} {rule : Rule} {g : declaredNext.Next} → Here t s at r.room (Some (Uncoded kind rule g)) → eqb (number_of kind) agent_name && ltb level_most r.lists.depth ≡ true → {fault : Fault} → fault ≡ record { refusal = AgentLevel; at = at } → CodeSteps r t s at (fed.Wrong fault)
  uncoded_deep here d e = agent_deep _ here.is d e

  -- no move
  pub none_closed : is_closed (room_of r.room) ≡ true → CodeSteps r t s at fed.Over
  unfolding fed_at FedLeads FedValid
  none_closed c = record { is = λ end h k n m. closed_same (source t s end) at n m (omega arith) k (room_of r.room) r.lists.depth _ c; valid = tt; leads = tt }

  pub none_strange : Here t s at r.room None → is_closed (room_of r.room) ≡ false → {refusal : Refusal} → answer_of refusal ≡ strange (room_of r.room) → {fault : Fault} → fault ≡ record { refusal = refusal; at = at } → CodeSteps r t s at (fed.Wrong fault)
  unfolding fed_at FedLeads FedValid
  none_strange here c o e = rw e (record { is = λ end h k n m. strange_code (source t s end) at n m b h k (from_cons s at end h k) q _ here.is c (sym o); valid = tt; leads = tt })

  -- a text that begins at the byte
  module _ {kind : Kind} {rule : Rule} {g : declaredNext.Next} (here : Here t s at r.room (Some (Uncoded kind rule g))) (flat : eqb (number_of kind) agent_name && ltb level_most r.lists.depth ≡ false) where
    pub uncoded_leads : Leads g r.lists
    uncoded_leads = leads_on no_code (number_of kind) (meaning.text (rule_of rule)) g here.is flat

    pub uncoded_span : (end : ℕ) → at < end → end ≤ length s → (n : ℕ) (m : List ℕ)
        → run_at (source t s end) q at n m ≡ value_at (source t s end) q (Text rule (record { kind = kind; next = g; start = at })) at n m
    unfolding value_at span_from
    uncoded_span end h k n m =
        let u : at - at ≡ 0 = omega arith in
        let p : Peeked s end at b = record { is = from_cons s at end h k ∙ rw (lt-ltb b 256 here.byte) refl; inside = λ z. h; before = omega arith; whole = k; top = omega (arith, here.byte) } in
        uncoded (source t s end) at n m b p q (number_of kind) (rule_of rule) (next_of g) here.is flat (hit_open t.edition (room_of r.room) b here.is)
        ∙ landed_span_lem (source t s end) 1 (number_of kind) r.lists.depth (go (next_of g) q) (take_text (rule_of rule) (from s at end)) n m ∙ rw u refl

  -- what a look found
  pub is_here : {found : Option (Move Kind)} → b < 256 → found_of b found ≡ look b (moves t.edition (room_of r.room)) → Here t s at r.room found
  is_here low is = record { byte = low; is = sym is }
