-- One turn of the pass over given skip numbers: the row before those that are held, by its class; a run as a whole.
use Prim.Native.Nat.{ℕ, suc, ◌+◌, ◌-◌, ◌*◌, ◌≤◌, ◌<◌}
use mathlib.Core.List.{List}
use mathlib.Core.Bool.{Bool, true, false, ◌||◌}
use mathlib.Core.Path.{◌≡◌, refl, ap, sym, ◌∙◌, subst}
use native.Mathlib.Omega.{arith}
use lib.Dec.{eqb}
use lib.ListN.{get_or}
use borrow.Author.Tests.{eqb-true, eqb-false}
use Rattle.meaning.specs.Basics.{pick}
use Rattle.meaning.specs.Skips.{Rank, rank, is_envelope, beside, belongs}
use Rattle.meaning.specs.Memory.{row_width, room_of}
use Rattle.laws_steps.specs.Nesting.{false_not, beside_belongs}
use Rattle.laws_steps.specs.Hopping.{rank_at, given_at, skip_at, HopsTo, AllRight}
use Rattle.laws_tables.specs.Neighbours.{is_follower, leads}
use Rattle.skips.specs.Owners.{Hoppable, Owned, deeper_test, above_test}
use Rattle.skips.specs.Classes.{class_of}
use Rattle.hold_skips.specs.Holding.{held_if, HeldFrom, HeldTurn, EnvelopeHeld, RunToHold}
use Rattle.std.specs.Prelude.{Option, Some, None}
use Rattle.hold_skips.specs.declared.Held.{Held}
use Rattle.skips.specs.Owning.{of_agent}
use Rattle.skips.specs.Belonging.{follower_alone, follower_inner, Light, light_belongs, Leader, is_leader}
use Rattle.skips.specs.Passes.{hoppable, none_wrong}
use Rattle.skips.specs.Ends.{IsTop, run_ends, runs_to, alone, envelope_run}
use Rattle.skips.specs.Classing.{is_plain, is_deeper, is_agent, is_follower_lem, is_envelope_lem, deeper_owns}

pub none_held : (m : List ℕ) (n : ℕ) → n ≤ room_of m → HeldFrom m n n n
none_held m n r = record { room = r; few = omega arith; most = omega arith; right = none_wrong m n; inner = λ j x y. absurd (omega arith); free = λ u. absurd (omega arith); there = λ u. absurd (omega arith) }

-- one row more whose skip number is right
right_more : (m : List ℕ) (n i : ℕ) → AllRight m n (suc i) → given_at m i ≡ skip_at m n i → AllRight m n i
right_more m n i a q j x y = at (eqb j i) refl
  where
    at : (z : Bool) → eqb j i ≡ z → given_at m j ≡ skip_at m n j
    at true z = let e = eqb-true j i z in ap (given_at m) e ∙ q ∙ ap (skip_at m n) (sym e)
    at false z = let e = eqb-false j i z in a j (omega arith) y

-- A row that is held or not

held_turn : {m : List ℕ} {n next end i right : ℕ} {r : Option Held} → r ≡ held_if (given_at m i) right i end → (given_at m i ≡ right → HeldFrom m n i end × (i < next)) → HeldTurn m n next r
unfolding HeldTurn
held_turn {m} {n} {next} {end} {i} {right} {r} q f = subst (HeldTurn m n next) (sym q) (at (eqb (given_at m i) right) refl)
  where
    at : (z : Bool) → eqb (given_at m i) right ≡ z → HeldTurn m n next (pick z (Some (record { next = i; end = end })) None)
    at true z = f (eqb-true (given_at m i) right z)
    at false z = tt

pub nothing_held : (m : List ℕ) (n next : ℕ) → HeldTurn m n next None
unfolding HeldTurn
nothing_held m n next = tt

-- an envelope's own row at level 0
pub envelope_held_if : (m : List ℕ) (i end : ℕ) {r : Option Held} → (rank_at m i).level ≡ 0 → r ≡ held_if (given_at m i) end i i → EnvelopeHeld m i end r
unfolding EnvelopeHeld
envelope_held_if m i end l q = subst (EnvelopeHeld m i end) (sym q) (at (eqb (given_at m i) end) refl)
  where
    at : (z : Bool) → eqb (given_at m i) end ≡ z → EnvelopeHeld m i end (pick z (Some (record { next = i; end = i })) None)
    at true z = (refl, l, eqb-true (given_at m i) end z)
    at false z = tt

-- A run

pub record RunHeld (m : List ℕ) (n last kind level i : ℕ) : Type 0 where
  pub most : i ≤ last
  pub right : AllRight m n (suc i)
  pub run : (j : ℕ) → i < j → j ≤ last → ((rank_at m j).kind ≡ kind) × ((rank_at m j).level ≡ level)

module _ {m : List ℕ} {n last kind end : ℕ} (b : RunToHold m n last kind end) where
  last_in : last < n
  last_in = omega (arith, b.from.few, b.from.most)

  pub last_inside : last < room_of m
  last_inside = omega (arith, last_in, b.from.room)

  pub run_begins : (level : ℕ) → RunHeld m n last kind level last
  run_begins level = record { most = omega arith; right = b.from.right; run = λ j x y. absurd (omega arith) }

  module _ {level i : ℕ} (r : RunHeld m n last kind level i) where
    here : i < n
    here = omega (arith, r.most, last_in)

    pub here_inside : i < room_of m
    here_inside = omega (arith, here, b.from.room)

    pub run_on : (rank_at m i).kind ≡ kind → (rank_at m i).level ≡ level → given_at m i ≡ i + 1 → (i ≡ 0 → ⊥) → RunHeld m n last kind level (i - 1)
    run_on k l g z =
        let before : i ≡ suc (i - 1) = omega arith in
        let skip : skip_at m n i ≡ suc i = alone m n i here (λ _. follower_alone (rank_at m i) (rank_at m (suc i)) (ap is_follower k ∙ b.follower)) in
        let given : given_at m i ≡ skip_at m n i = omega (arith, g, skip) in
        record { most = omega (arith, r.most); right = subst (AllRight m n) before (right_more m n i r.right given); run = λ j x y. at j x y (eqb j i) refl }
      where
        at : (j : ℕ) → i - 1 < j → j ≤ last → (y : Bool) → eqb j i ≡ y → ((rank_at m j).kind ≡ kind) × ((rank_at m j).level ≡ level)
        at j x y true q = let e = eqb-true j i q in (ap (λ (u : ℕ). (rank_at m u).kind) e ∙ k, ap (λ (u : ℕ). (rank_at m u).level) e ∙ l)
        at j x y false q = let e = eqb-false j i q in r.run j (omega (arith, z)) y

    module _ (other : (rank_at m i).kind ≡ kind → ⊥) (opens : leads (rank_at m i).kind kind ≡ true) (l : (rank_at m i).level ≡ level) where
      leader : Leader (rank_at m i).kind kind
      leader = is_leader (rank_at m i).kind kind b.follower opens

      less : i < last
      less = at (eqb i last) refl
        where
          at : (z : Bool) → eqb i last ≡ z → i < last
          at false z = let e = eqb-false i last z in omega (arith, r.most)
          at true z = absurd (other (ap (λ (u : ℕ). (rank_at m u).kind) (eqb-true i last z) ∙ sym b.kind_is))

      skip : skip_at m n i ≡ suc last
      skip =
          let all : (j : ℕ) → i < j → j ≤ last → belongs (rank_at m i) (rank_at m j) ≡ true
          = λ j x y. beside_belongs (rank_at m i) (rank_at m j) ((r.run j x y).1 ∙ sym l) (ap (beside (rank_at m i).kind) (r.run j x y).0 ∙ leader.has) in
          let e : i + 1 + (last - i) ≡ suc last = omega (arith, less) in
          let hops : HopsTo m n i (suc last) = subst (HopsTo m n i) e (runs_to m n i here (last - i) (λ j x y. all j x (omega arith)) (omega (arith, last_in, less))) in
          run_ends m n i here hops (λ u. ends (belongs (rank_at m i) (rank_at m (suc last))) refl u)
        where
          ends : (z : Bool) → belongs (rank_at m i) (rank_at m (suc last)) ≡ z → suc last < n → belongs (rank_at m i) (rank_at m (suc last)) ≡ false
          ends false z u = z
          ends true z u = false_not (sym (b.from.free u) ∙ light_belongs (rank_at m i) (rank_at m (suc last)) leader.light z)

      pub run_held : {h : Option Held} → h ≡ held_if (given_at m i) (last + 1) i end → HeldTurn m n (suc last) h
      run_held q = held_turn q (λ g. (from g, omega (arith, less)))
        where
          from : given_at m i ≡ last + 1 → HeldFrom m n i end
          from g = record {
            room = b.from.room;
            few = omega (arith, b.from.few, less);
            most = b.from.most;
            right = right_more m n i r.right (let x : given_at m i ≡ skip_at m n i = omega (arith, g, skip) in x);
            inner = λ j x y. at j x y (eqb j i) refl;
            free = λ _. leader.follows_none;
            there = b.from.there;
          }
            where
              later : (j : ℕ) → i < j → j < end → (z : Bool) → eqb (suc last - j) 0 ≡ z → 3 ≤ (rank_at m j).kind
              later j x y true z = let e = eqb-true (suc last - j) 0 z in b.from.inner j (omega arith) y
              later j x y false z = let e = eqb-false (suc last - j) 0 z in follower_inner (rank_at m j).kind (ap is_follower (r.run j x (omega arith)).0 ∙ b.follower)

              at : (j : ℕ) → i ≤ j → j < end → (z : Bool) → eqb j i ≡ z → 3 ≤ (rank_at m j).kind
              at j x y true z = subst (λ (u : ℕ). 3 ≤ (rank_at m u).kind) (sym (eqb-true j i z)) leader.inner
              at j x y false z = let e = eqb-false j i z in later j (omega arith) y (eqb (suc last - j) 0) refl

-- The row before those that are held

not_envelope : (kind : ℕ) → 1 ≤ kind → is_envelope kind ≡ false → 3 ≤ kind
not_envelope kind h f = at (eqb kind 1) (eqb kind 2) refl refl f
  where
    at : (x y : Bool) → eqb kind 1 ≡ x → eqb kind 2 ≡ y → x || y ≡ false → 3 ≤ kind
    at true y p q z = false_not (sym z)
    at false true p q z = false_not (sym z)
    at false false p q z = let e = eqb-false kind 1 p in let g = eqb-false kind 2 q in omega arith

is_top : (kind level : ℕ) → is_envelope kind ≡ true → level ≡ 0 → IsTop (rank kind level)
is_top kind level e z = at (eqb kind 1) (eqb kind 2) refl refl e
  where
    at : (x y : Bool) → eqb kind 1 ≡ x → eqb kind 2 ≡ y → x || y ≡ true → IsTop (rank kind level)
    at true y p q t = (false, rw (eqb-true kind 1 p, z) refl)
    at false true p q t = (true, rw (eqb-true kind 2 q, z) refl)
    at false false p q t = false_not t

module _ {m : List ℕ} {n next end : ℕ} (f : HeldFrom m n next end) (some : 0 < next) where
  next_is : suc (next - 1) ≡ next
  next_is = omega (arith, some)

  at_hand : next - 1 < n
  at_hand = omega (arith, some, f.few, f.most)

  pub turn_inside : next - 1 < room_of m
  turn_inside = omega (arith, at_hand, f.room)

  pub turn_hoppable : Hoppable m n (next - 1)
  turn_hoppable = hoppable m n next some (omega (arith, f.few, f.most)) f.room f.right

  right_behind : AllRight m n (suc (next - 1))
  right_behind = subst (AllRight m n) (sym next_is) f.right

  module _ {kind class : ℕ} (k : kind ≡ get_or m ((next - 1) * row_width) 0) (known : 1 ≤ kind) (c : class ≡ class_of kind) where
    one_turn : {right : ℕ} {h : Option Held} → is_envelope kind ≡ false → is_follower kind ≡ false → right ≡ skip_at m n (next - 1) → h ≡ held_if (given_at m (next - 1)) right (next - 1) end → HeldTurn m n next h
    one_turn {right} e o v q = held_turn q (λ g. (from g, omega (arith, some)))
      where
        from : given_at m (next - 1) ≡ right → HeldFrom m n (next - 1) end
        from g = record {
          room = f.room;
          few = omega (arith, f.few);
          most = f.most;
          right = right_more m n (next - 1) right_behind (g ∙ v);
          inner = λ j x y. at j x y (eqb j (next - 1)) refl;
          free = λ _. ap is_follower (sym k) ∙ o;
          there = f.there;
        }
          where
            at : (j : ℕ) → next - 1 ≤ j → j < end → (z : Bool) → eqb j (next - 1) ≡ z → 3 ≤ (rank_at m j).kind
            at j x y true z = subst (λ (u : ℕ). 3 ≤ (rank_at m u).kind) (sym (eqb-true j (next - 1) z)) (omega (arith, k, not_envelope kind known e))
            at j x y false z = let d = eqb-false j (next - 1) z in f.inner j (omega (arith, some)) y

    pub plain_held : {h : Option Held} → class < 0x1000 → h ≡ held_if (given_at m (next - 1)) next (next - 1) end → HeldTurn m n next h
    plain_held u q = let (l, o) = is_plain kind class c u in one_turn l.no_envelope o (sym (skip l ∙ next_is)) q
      where
        ends : Light (rank_at m (next - 1)).kind → (z : Bool) → belongs (rank_at m (next - 1)) (rank_at m (suc (next - 1))) ≡ z → suc (next - 1) < n → belongs (rank_at m (next - 1)) (rank_at m (suc (next - 1))) ≡ false
        ends l false z v = z
        ends l true z v =
            false_not (sym (f.free (omega (arith, next_is))) ∙ ap (λ (x : ℕ). is_follower (rank_at m x).kind) (sym next_is) ∙ light_belongs (rank_at m (next - 1)) (rank_at m (suc (next - 1))) l z)

        skip : Light kind → skip_at m n (next - 1) ≡ suc (next - 1)
        skip l = alone m n (next - 1) at_hand (ends (subst Light k l) (belongs (rank_at m (next - 1)) (rank_at m (suc (next - 1)))) refl)

    module _ (g : 0x1000 ≤ class) (u : class < 0x2000) where
      pub deeper_owned : Owned m (next - 1) deeper_test
      deeper_owned s =
          let (p, q, r, d) = is_deeper kind class c g u in
          let level = (rank_at m (next - 1)).level in
          ap (λ (x : ℕ). belongs (rank x level) s) (sym k) ∙ deeper_owns kind level s p r d

      pub deeper_held : {right : ℕ} {h : Option Held} → right ≡ skip_at m n (next - 1) → h ≡ held_if (given_at m (next - 1)) right (next - 1) end → HeldTurn m n next h
      deeper_held v q = let (p, o, r, d) = is_deeper kind class c g u in one_turn p o v q

    module _ (g : 0x2000 ≤ class) (u : class < 0x3000) where
      pub agent_owned : Owned m (next - 1) (above_test 15)
      agent_owned s = of_agent (rank_at m (next - 1)).level s (sym k ∙ is_agent kind class c g u)

      pub agent_held : {right : ℕ} {h : Option Held} → right ≡ skip_at m n (next - 1) → h ≡ held_if (given_at m (next - 1)) right (next - 1) end → HeldTurn m n next h
      agent_held v q = let e = is_agent kind class c g u in one_turn (ap is_envelope e) (ap is_follower e) v q

    module _ (g : 0x3000 ≤ class) (u : class < 0x4000) where
      pub run_to_hold : RunToHold m n (next - 1) kind end
      run_to_hold = record { from = subst (λ (x : ℕ). HeldFrom m n x end) (sym next_is) f; kind_is = k; follower = is_follower_lem kind class c g u }

      pub run_turned : (h : Option Held) → HeldTurn m n (suc (next - 1)) h → HeldTurn m n next h
      run_turned h t = subst (λ (x : ℕ). HeldTurn m n x h) next_is t

    pub envelope_held : (h : Option Held) → 0x4000 ≤ class → EnvelopeHeld m (next - 1) end h → HeldTurn m n next h
    unfolding HeldTurn EnvelopeHeld
    envelope_held None g t = tt
    envelope_held (Some h) g (q, z, v) =
        let top : IsTop (rank_at m (next - 1)) = subst (λ (x : ℕ). IsTop (rank x (rank_at m (next - 1)).level)) k (is_top kind (rank_at m (next - 1)).level (is_envelope_lem kind class c g) z) in
        let skip : skip_at m n (next - 1) ≡ end = envelope_run m n (next - 1) at_hand end top (omega (arith, some, f.few)) f.most (λ i x y. f.inner i (omega (arith, some)) y) f.there in (
          subst (λ (x : Held). HeldFrom m n x.next x.end) (sym q)
              (record {
                room = f.room;
                few = omega arith;
                most = omega (arith, at_hand);
                right = right_more m n (next - 1) right_behind (v ∙ sym skip);
                inner = λ i x y. absurd (omega arith);
                free = λ _. leads_none top;
                there = λ _. top;
              }),
          omega (arith, ap (λ (x : Held). x.next) q, some),
        )
      where
        leads_none : IsTop (rank_at m (next - 1)) → is_follower (rank_at m (next - 1)).kind ≡ false
        leads_none (true, p) = ap (λ (r : Rank). is_follower r.kind) p
        leads_none (false, p) = ap (λ (r : Rank). is_follower r.kind) p
