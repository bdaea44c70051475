-- What the engine's states and steps come to, by the definitions of `meaning`: rows poured into lent memory, from the place `at` on.
use Rattle.std.specs.Prelude.{ℕ, ◌+◌, ◌-◌, ◌≤◌, ◌<◌, List, Bool, false, Option, None, Some, ◌≡◌, length, get_or}
use Rattle.meaning.specs.Told.{Told}
use Rattle.meaning.specs.Editions.{State, state, go, closed, moves}
use Rattle.meaning.specs.Reading.{inside, look}
use Rattle.meaning.specs.Headers.{start}
use Rattle.laws_steps.specs.Rows.{put}
use Rattle.laws_steps.specs.Pouring.{Filling, stopped, pour, Source, source, run_at}
use Rattle.values.specs.Stages.{Span, spans, misses}
use Rattle.table.specs.Kinds.{number_of}
use Rattle.table.specs.declared.kinds.Kind.{Kind}
use Rattle.table.specs.Refusals.{answer_of}
use Rattle.table.specs.declared.answers.Stage.{Stage}
use Rattle.read_rows.specs.Stages.{after, Moved}
use Rattle.moves.specs.declared.rooms.Room.{Room}
use Rattle.moves.specs.declared.rooms.Move.{Move}
use Rattle.moves.specs.Words.{room_of, next_of, found_of}
use Rattle.plain.specs.declared.lists.Lists.{Lists}
use Rattle.plain.specs.declared.standing.Standing.{Standing}
use Rattle.plain.specs.declared.feed.Taking.{Taking}
use Rattle.plain.specs.declared.feed.Fed.{Fed}
use Rattle.plain.specs.declared.feed.Fed.TheVariants as fed
use Rattle.plain.specs.declared.engine.Engine.{Engine}
use Rattle.plain.specs.Lists.{state_of, Leads}
use Rattle.plain.specs.Values.{pending_of, back_of, span_from, Valid}

-- behind a value: its row is stored, and reading goes on in the state q
abbrev pub landed_span : Source → ℕ → ℕ → ℕ → State → Span → ℕ → List ℕ → Filling
landed_span i back kind level q (spans len rest) n m =
    pour i.end (inside i.told q rest) (n + 1) (put m n kind level (i.end - (length rest + len + back)) len)
landed_span i back kind level q (misses refusal left) n m = stopped refusal (i.end - left)

-- a value that is being taken in the state st
unfoldable pub value_at : Source → State → Taking → ℕ → ℕ → List ℕ → Filling
value_at i st taking at n m =
    landed_span i (back_of taking) (number_of (pending_of taking).kind) st.level (go (next_of (pending_of taking).next) st) (span_from i taking at) n m

-- .. and what a byte did to it
unfoldable pub fed_at : Source → State → Fed → ℕ → ℕ → List ℕ → Filling
fed_at i st (fed.Goes taking) at n m = value_at i st taking (at + 1) n m
fed_at i st (fed.Ends of len) at n m = run_at i (go (next_of of.next) st) (at + 1) (n + 1) (put m n (number_of of.kind) st.level of.start len)
fed_at i st (fed.Moves next) at n m = run_at i (go (next_of next) st) (at + 1) n m
fed_at i st fed.Over at n m = run_at i (state closed 0 false) at n m
fed_at i st (fed.Wrong fault) at n m = stopped (answer_of fault.refusal) fault.at

unfoldable pub FedLeads : Lists → Fed → Type 0
FedLeads l (fed.Goes taking) = Leads (pending_of taking).next l
FedLeads l (fed.Ends of len) = Leads of.next l
FedLeads l (fed.Moves next) = Leads next l
FedLeads l fed.Over = Unit {0}
FedLeads l (fed.Wrong fault) = Unit {0}

unfoldable pub FedValid : ℕ → Fed → Type 0
FedValid at (fed.Goes taking) = Valid taking (at + 1)
FedValid at (fed.Ends of len) = (of.start ≤ at + 1) × (len ≤ at + 1)
FedValid at (fed.Moves next) = Unit {0}
FedValid at fed.Over = Unit {0}
FedValid at (fed.Wrong fault) = Unit {0}

-- the engine; where nothing is being taken, a code is awaited
unfoldable pub taking_at : Source → State → Option Taking → ℕ → ℕ → List ℕ → Filling
taking_at i st None at n m = run_at i st at n m
taking_at i st (Some taking) at n m = value_at i st taking at n m

abbrev pub comes : Source → Engine → ℕ → ℕ → List ℕ → Filling
comes i e at n m = taking_at i (state_of e.standing) e.taking at n m

unfoldable pub TakingHolds : Lists → ℕ → Option Taking → Type 0
TakingHolds l at None = Unit {0}
TakingHolds l at (Some taking) = Leads (pending_of taking).next l × Valid taking at

abbrev pub Holds : Engine → ℕ → Type 0
Holds e at = TakingHolds e.standing.lists at e.taking

-- a step from what reading comes to, whatever the declared end
pub record StepsFrom (begins : Source → ℕ → List ℕ → Filling) (r : Standing) (t : Told) (s : List ℕ) (at : ℕ) (x : Fed) : Type 0 where
  pub is : (end : ℕ) → at < end → end ≤ length s → (n : ℕ) (m : List ℕ) → begins (source t s end) n m ≡ fed_at (source t s end) (state_of r) x at n m
  pub valid : FedValid at x
  pub leads : FedLeads r.lists x

-- .. where a code is awaited
abbrev pub CodeSteps : Standing → Told → List ℕ → ℕ → Fed → Type 0
CodeSteps r t s at x = StepsFrom (λ i n m. run_at i (state_of r) at n m) r t s at x

-- .. in any state
abbrev pub Steps : Engine → Told → List ℕ → ℕ → Fed → Type 0
Steps e t s at x = StepsFrom (λ i n m. comes i e at n m) e.standing t s at x

-- what the room has for the byte at `at`: a move, or none
pub record Here (t : Told) (s : List ℕ) (at : ℕ) (room : Room) (found : Option (Move Kind)) : Type 0 where
  pub byte : get_or s at 0 < 256
  pub is : look (get_or s at 0) (moves t.edition (room_of room)) ≡ found_of (get_or s at 0) found

-- where the inside of an envelope begins
pub record Begins (base : Bool) (e : Engine) : Type 0 where
  pub code : e.taking ≡ None
  pub is : state_of e.standing ≡ start base

-- a place that a text goes past; where no text is taken, the same place
pub record PastText (e : Engine) (s : List ℕ) (end at place : ℕ) : Type 0 where
  pub inside : at ≤ place
  pub before : place ≤ end
  pub is : (t : Told) (n : ℕ) (m : List ℕ) → comes (source t s end) e at n m ≡ comes (source t s end) e place n m
  pub holds : Holds e place

-- what the declared end answers
pub record Ended (e : Engine) (at count : ℕ) (r : Stage) : Type 0 where
  pub is : (t : Told) (s m : List ℕ) → at ≤ length s → Holds e at → comes (source t s at) e at count m ≡ after (source t s at) (state closed 0 false) m r
  pub moved : (least : ℕ) → least ≤ at → count ≤ at → Moved least at r
