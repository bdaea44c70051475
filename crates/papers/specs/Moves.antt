-- The reader's moves, for whatever a reading is told: what `Grammar` of `meaning` says of the strict one, with the blocks that a tolerant one takes too.
-- This stands between the papers' grammar and the reader; nothing is believed of it.
use Rattle.std.specs.Prelude.{ℕ, ◌+◌, ◌≤◌, List, [], ◌∷◌, ◌++◌, true, false, not, ◌≡◌, refl, T, length}
use Rattle.std.proofs.Common.{append_assoc, sym, subst, arith, length-append}
use Rattle.meaning.specs.Basics.{In, is_empty}
use Rattle.meaning.specs.Told.{Told}
use Rattle.meaning.specs.Kinds.{agent_name}
use Rattle.meaning.specs.Editions.{Room, State, state, Next, outer, inner, inner_one, stay, deeper, list_ends, agent_ends, go, is_quiet, Move, moves}
use Rattle.meaning.specs.Reading.{level_most}
use Rattle.meaning.specs.Headers.{Placed, placed_row}
use Rattle.meaning.specs.Grammar.{standing, start_in}
use Rattle.laws_steps.specs.Values.{allowed}

-- the moves from one state to another, over the bytes from the place `at` on, and their rows
pub data Steps (t : Told) : State → ℕ → List ℕ → List Placed → State → Type 0 where
  still : {st : State} {at : ℕ} → Steps t st at [] [] st
  row : {st st' : State} {at : ℕ} {bytes : List ℕ} {rows : List Placed} (m : Move) (v : List ℕ)
      → In m (moves t.edition st.room) → is_quiet m.form ≡ false → T (allowed t m.form m.code v) → (m.kind ≡ agent_name → st.level ≤ level_most)
      → Steps t (go m.next st) (at + length (standing m v)) bytes rows st' → Steps t st at (standing m v ++ bytes) (placed_row m.kind st.level (at + start_in m) v ∷ rows) st'
  silent : {st st' : State} {at : ℕ} {bytes : List ℕ} {rows : List Placed} (m : Move)
      → In m (moves t.edition st.room) → is_quiet m.form ≡ true → Steps t (go m.next st) (at + 1) bytes rows st' → Steps t st at (m.code ∷ bytes) rows st'

-- where a move leads does not hang on the room it is made from
same_go : (x : Next) (st : State) (r : Room) → go x st ≡ go x (state r st.level st.single)
same_go (outer r') st r = refl
same_go (inner r') st r = refl
same_go (inner_one r') st r = refl
same_go (stay r') st r = refl
same_go (deeper r') st r = refl
same_go list_ends st r = refl
same_go agent_ends st r = refl

module _ {t : Told} where
  pub re_place : {st st' : State} {at at' : ℕ} {a : List ℕ} {rows : List Placed} → at ≡ at' → Steps t st at a rows st' → Steps t st at' a rows st'
  re_place {st} {st'} {a} {rows} q s = subst (λ (x : ℕ). Steps t st x a rows st') q s

  pub re_byte : {st st' : State} {at : ℕ} {a a' : List ℕ} {rows : List Placed} → a ≡ a' → Steps t st at a rows st' → Steps t st at a' rows st'
  re_byte {st} {st'} {at} {rows} q s = subst (λ (x : List ℕ). Steps t st at x rows st') q s

  pub re_row : {st st' : State} {at : ℕ} {a : List ℕ} {rows rows' : List Placed} → rows ≡ rows' → Steps t st at a rows st' → Steps t st at a rows' st'
  re_row {st} {st'} {at} {a} q s = subst (λ (x : List Placed). Steps t st at a x st') q s

  pub re_end : {st st' st'' : State} {at : ℕ} {a : List ℕ} {rows : List Placed} → st' ≡ st'' → Steps t st at a rows st' → Steps t st at a rows st''
  re_end {st} {at} {a} {rows} q s = subst (λ (x : State). Steps t st at a rows x) q s

  pub re_start : {st st' st'' : State} {at : ℕ} {a : List ℕ} {rows : List Placed} → st ≡ st'' → Steps t st at a rows st' → Steps t st'' at a rows st'
  re_start {st'} {at} {a} {rows} q s = subst (λ (x : State). Steps t x at a rows st') q s

  pub join : {st st₁ st₂ : State} {at : ℕ} {a b : List ℕ} {rows more : List Placed} → Steps t st at a rows st₁ → Steps t st₁ (at + length a) b more st₂ → Steps t st at (a ++ b) (rows ++ more) st₂
  join (still {at}) after = re_place (omega arith) after
  join {b} (row {at} {bytes} m v i q ok deep s) after =
      re_byte (sym (append_assoc (standing m v) bytes b)) (row m v i q ok deep (join s (re_place (omega (arith, length-append (standing m v) bytes)) after)))
  join (silent {at} {bytes} m i q s) after = silent m i q (join s (re_place (omega arith) after))

  -- a run may begin in any room that has the moves of its own, once it moves
  pub from_wider : {st st' : State} {at : ℕ} {a : List ℕ} {rows : List Placed} (r : Room) → ((m : Move) → In m (moves t.edition st.room) → In m (moves t.edition r)) → T (not (is_empty a)) → Steps t st at a rows st'
      → Steps t (state r st.level st.single) at a rows st'
  from_wider r wider moving still = absurd moving
  from_wider r wider moving (row {st} m v i q ok deep s) = row m v (wider m i) q ok deep (re_start (same_go m.next st r) s)
  from_wider r wider moving (silent {st} m i q s) = silent m (wider m i) q (re_start (same_go m.next st r) s)
