-- The agent's and the list's stages, which call each other.
use Rattle.std.specs.Prelude.{length}
use Rattle.std.proofs.Common.{◌≡◌, ◌≤◌, ◌+◌, ◌∙◌, ℕ, List, Bool, false, true, ap, refl, arith}
use native.Mathlib.Nat.{le_refl}
use lib.Dec.{ltb}
use borrow.Author.Tests.{le-ltb, lt-ltb}
use Rattle.meaning.specs.Bytes.{line}
use Rattle.meaning.specs.Editions.{State, after_addresses, after_name, after_resolvers, agent_list, deeper, go, agent_ends, list_ends, on◌▸◌▸◌▸◌, state, stay, text}
use Rattle.meaning.specs.Kinds.{agent_name, resolvers_open}
use Rattle.meaning.specs.Reading.{level_most}
use Rattle.meaning.specs.Told.{B, Told, told}
use Rattle.laws_steps.specs.AgentRooms.{addresses_else, addresses_resolvers, list_down, list_name, list_none, list_stop, list_up, stays_in_list}
use Rattle.laws_steps.specs.Pouring.{Filling, Peeked, ready_opened, run_at, source}
use Rattle.laws_steps.specs.ReadAt.{alike_at, opened_at, text_at_lem, too_deep_at}
use Rattle.laws_steps.specs.Rooms.{end_alike, step_alike}
use Rattle.laws_steps.specs.Rows.{put}
use Rattle.laws_steps.specs.Shapes.{InList}
use Rattle.table.specs.Told.{told_of}
use Rattle.table.specs.declared.answers.Reached.{Reached}
use Rattle.table.specs.declared.answers.Stage.{Stage}
use Rattle.read_rows.specs.Joining.{arrives, begun, closes, foreign_byte, handed, moved_to, onward, other_found, ready_inside, ready_on, refusing, row_fits, same_found, went}
use Rattle.read_rows.specs.Stages.{Ran, StateRead, TextRead, found}
use Rattle.read_objects.proofs.agents.+read_agent_read_list.Goals as goal

-- behind the name and the addresses, which end at `place`, the list of resolvers, a level down
resolved : {t : Told} {s : List ℕ} {end b : ℕ} {o : Filling} {r : Stage} {left : List ℕ} (place first : Reached) (named opened : List ℕ) (level : ℕ) (single : Bool) → 1 ≤ level
    → o ≡ run_at (source t s end) (state after_addresses level single) place.at place.rows named → Peeked s end place.at b → b ≡ 3
    → first.at ≡ place.at + 1 → first.rows ≡ place.rows + 1 → opened ≡ put named place.rows resolvers_open level place.at 0
    → StateRead t s end (state agent_list (level + 1) single) first.at first.rows opened r (go list_ends (state agent_list (level + 1) single)) left
    → Ran (source t s end) (place.at + 1) o r (state after_resolvers level single) left
resolved {t} {s} {end} {b} place first named opened level single low same p three x y w list =
    let i = source t s end in
    arrives (list_up level single low)
    (begun (le_refl _)
    (same
    ∙ opened_at i place.at place.rows named b p 0x03 three (omega arith) (state after_addresses level single) resolvers_open (deeper agent_list) (addresses_resolvers _) refl w
    ∙ ap (λ (q : State). run_at i q (place.at + 1) (place.rows + 1) opened) (list_down level single))
    (rw (x, y) at list))

pub read_agent-returns-in_default : goal.read_agent-returns-in_default
read_agent-returns-in_default t c single = handed c.in_default.is (c.name_and_addresses-named.ensures (told_of c.args.told) single)

pub read_agent-peek-requires : goal.read_agent-peek-requires
read_agent-peek-requires t c = ready_inside (ready_on c.requires.0 c.in-Go.is (c.name_and_addresses-named.ensures (told B) true))

pub read_agent-behind_resolvers-requires : goal.read_agent-behind_resolvers-requires
read_agent-behind_resolvers-requires t c = ready_on c.requires.0 c.in-Go.is (c.name_and_addresses-named.ensures (told B) true)

pub read_agent-returns-then-ne : goal.read_agent-returns-then-ne
read_agent-returns-then-ne t c single =
    let p = c.peek in
    let a = c.args in
    let to = c.in-Go.behind_addresses in
    let named = c.name_and_addresses-named.ensures (told_of a.told) single in
    let other = other_found p.result 0x03 (omega arith) c.ne.ensures c.if-ne.true in
    begun (moved_to c.in-Go.is named).0
    (went c.in-Go.is named
    ∙ alike_at (source (told_of a.told) a.s.now (length a.s.now)) to.at to.rows c.name_and_addresses-named.new.rows (found p.result) p.ensures (state after_addresses a.level single) (state after_resolvers a.level single)
    (λ s. step_alike _ after_addresses after_resolvers a.level single (found p.result) s (addresses_else _ (found p.result) other) refl refl) (end_alike _ after_addresses after_resolvers a.level single refl))
    (c.behind_resolvers.ensures single)

pub read_agent-open-opened-requires : goal.read_agent-open-opened-requires
read_agent-open-opened-requires t c = let fits = row_fits (ready_on c.requires.0 c.in-Go.is (c.name_and_addresses-named.ensures (told B) true)) in (fits.1, fits.0)

pub read_agent-read_list-resolvers-requires : goal.read_agent-read_list-resolvers-requires
read_agent-read_list-resolvers-requires t c =
    let ready = ready_on c.requires.0 c.in-Go.is (c.name_and_addresses-named.ensures (told B) true) in
    let resolvers = same_found c.peek.result 0x03 c.ne.ensures c.if-ne.false in
    let first = c.open-opened.ensures in
    (omega (arith, c.decreases, c.requires.2), (rw (first.at, first.rows) (ready_opened ready (c.peek.ensures.inside (omega arith))), omega arith, omega (arith, c.requires.2)))

pub read_agent-returns-in_default-resolvers : goal.read_agent-returns-in_default-resolvers
read_agent-returns-in_default-resolvers t c single =
    let a = c.args in
    let first = c.open-opened.ensures in
    handed c.in_default-resolvers.is
    (resolved c.in-Go.behind_addresses c.open-opened.result c.name_and_addresses-named.new.rows c.open-opened.new.rows a.level single c.requires.1
    (went c.in-Go.is (c.name_and_addresses-named.ensures (told_of a.told) single)) c.peek.ensures (same_found c.peek.result 0x03 c.ne.ensures c.if-ne.false) first.at first.rows first.put (c.read_list-resolvers.ensures single (λ _ h. omega (arith, c.requires.1))))

pub read_agent-behind_resolvers-requires-2 : goal.read_agent-behind_resolvers-requires-2
read_agent-behind_resolvers-requires-2 t c = ready_on c.requires.0 c.in-Go-resolvers.is (c.read_list-resolvers.ensures true (λ _ h. omega (arith, c.requires.1)))

pub read_agent-returns : goal.read_agent-returns
read_agent-returns t c single =
    let a = c.args in
    let first = c.open-opened.ensures in
    let named = c.name_and_addresses-named.ensures (told_of a.told) single in
    let u = moved_to c.in-Go.is named in
    begun (omega arith) refl
    (onward c.in-Go-resolvers.is
    (resolved c.in-Go.behind_addresses c.open-opened.result c.name_and_addresses-named.new.rows c.open-opened.new.rows a.level single c.requires.1
    (went c.in-Go.is named) c.peek.ensures (same_found c.peek.result 0x03 c.ne.ensures c.if-ne.false) first.at first.rows first.put (c.read_list-resolvers.ensures single (λ _ h. omega (arith, c.requires.1))))
    (c.behind_resolvers-2.ensures single))

-- one more agent
once_more : {t : Told} {s : List ℕ} {end b : ℕ} {o : Filling} {r : Stage} {left : List ℕ} (here name : Reached) (rows : List ℕ) (level : ℕ) (single : Bool) → InList level single → level ≤ level_most
    → o ≡ run_at (source t s end) (state agent_list level single) here.at here.rows rows → Peeked s end here.at b → b ≡ 2 → name.at ≡ here.at + 1 → name.rows ≡ here.rows
    → TextRead t s end agent_name line level (state after_name level single) name.at name.rows rows r (go agent_ends (state after_resolvers level single)) left
    → Ran (source t s end) (here.at + 1) o r (state agent_list level single) left
once_more {t} {s} {end} {b} here name rows level single h few same p two x y agent =
    let deep : ltb level_most level ≡ false = le-ltb level_most level few in
    arrives (stays_in_list level single h)
    (begun (omega arith)
    (same ∙ text_at_lem (source t s end) here.at here.rows rows b p 0x02 two (omega arith) (state agent_list level single) agent_name line (stay after_name) (list_name _) deep)
    (rw (x, y) at agent))

pub read_list-returns-in_default : goal.read_list-returns-in_default
read_list-returns-in_default t c single h =
    let l = c.loop-code in
    let a = c.args in
    let b = found c.peek-b.result in
    let not_closing : b ≡ 1 → ⊥ = rw c.in_default.is (λ q. omega arith) in
    let not_agent : b ≡ 0x02 → ⊥ = rw c.in_default.is (λ q. omega arith) in
    begun l.invariant.0 (l.invariant.4 single h)
    (foreign_byte (source (told_of a.told) a.s.now (length a.s.now)) l.here.at l.here.rows l.rows b c.peek-b.ensures (state agent_list a.level single) c.fault.ensures (list_none _ b not_closing not_agent) refl refl)

pub read_list-returns-then-code-eq-CLOSING : goal.read_list-returns-then-code-eq-CLOSING
read_list-returns-then-code-eq-CLOSING t c single h =
    let l = c.loop-code in
    let a = c.args in
    closes (source (told_of a.told) a.s.now (length a.s.now)) (state agent_list a.level single) l.here l.rows c.in-Some.code (rw c.in-Some.is at c.peek-b.ensures) c.if-code-eq-CLOSING.true (list_stop _) refl c.passed.ensures.at c.passed.ensures.rows (l.invariant.4 single h) l.invariant.0 l.invariant.2

pub read_list-returns-then-code-ne-AGENT : goal.read_list-returns-then-code-ne-AGENT
read_list-returns-then-code-ne-AGENT t c single h =
    let l = c.loop-code in
    let a = c.args in
    begun l.invariant.0 (l.invariant.4 single h)
    (foreign_byte (source (told_of a.told) a.s.now (length a.s.now)) l.here.at l.here.rows l.rows c.in-Some.code (rw c.in-Some.is at c.peek-b.ensures) (state agent_list a.level single) c.fault-then-code-ne-AGENT.ensures (list_none _ c.in-Some.code c.if-code-eq-CLOSING.false c.if-code-ne-AGENT.true) refl refl)

pub read_list-returns-then-level-gt-LEVEL_MOST : goal.read_list-returns-then-level-gt-LEVEL_MOST
read_list-returns-then-level-gt-LEVEL_MOST t c single h =
    let l = c.loop-code in
    let a = c.args in
    let deep : ltb level_most a.level ≡ true = lt-ltb level_most a.level (omega arith) in
    rw c.at.ensures
    (refusing (l.invariant.4 single h ∙ too_deep_at (source (told_of a.told) a.s.now (length a.s.now)) l.here.at l.here.rows l.rows c.in-Some.code (rw c.in-Some.is at c.peek-b.ensures) 0x02 c.if-code-ne-AGENT.false (omega arith) (state agent_list a.level single) (on 0x02 ▸ agent_name ▸ text line ▸ stay after_name) (list_name _) deep))

pub read_list-returns-in_default-r : goal.read_list-returns-in_default-r
read_list-returns-in_default-r t c single h =
    let l = c.loop-code in
    let name = c.passed-in-loop-code in
    handed c.in_default-r.is
    (once_more l.here name.result l.rows c.args.level single h (omega arith) (l.invariant.4 single h) (rw c.in-Some.is at c.peek-b.ensures) c.if-code-ne-AGENT.false name.ensures.at name.ensures.rows (c.read_agent-r.ensures single))

pub read_list-loop-code-smaller : goal.read_list-loop-code-smaller
read_list-loop-code-smaller t c =
    let looked = rw c.in-Some.is at c.peek-b.ensures in
    let u = moved_to c.in-Go.is (c.read_agent-r.ensures true) in
    omega arith

pub read_list-loop-code-preserved : goal.read_list-loop-code-preserved
read_list-loop-code-preserved t c =
    let l = c.loop-code in
    let name = c.passed-in-loop-code in
    let u = moved_to c.in-Go.is (c.read_agent-r.ensures true) in (
      omega arith,
      omega arith,
      omega arith,
      c.read_agent-r.auto.rows ∙ l.invariant.3,
      λ single h. went c.in-Go.is
          (once_more l.here name.result l.rows c.args.level single h (omega arith) (l.invariant.4 single h) (rw c.in-Some.is at c.peek-b.ensures) c.if-code-ne-AGENT.false name.ensures.at name.ensures.rows (c.read_agent-r.ensures single)),
    )
