-- A run of rows that follow the one that opens it, laid from its last row back.
use Prim.Native.Nat.{ℕ, suc, ◌+◌, ◌-◌, ◌*◌, ◌≤◌, ◌<◌}
use mathlib.Core.List.{List}
use mathlib.Core.Bool.{Bool, true, false, ◌||◌}
use mathlib.Core.Path.{◌≡◌, refl, ap, sym, ◌∙◌, subst}
use native.Mathlib.Omega.{arith}
use lib.Dec.{T, eqb}
use lib.ListN.{length, get_or, set}
use borrow.Author.Tests.{eqb-true, eqb-false}
use Rattle.meaning.specs.Skips.{Rank, belongs, beside}
use Rattle.meaning.specs.Memory.{row_width, room_of}
use Rattle.laws_steps.specs.Logic.{is_true}
use Rattle.laws_steps.specs.Nesting.{false_not, beside_belongs}
use Rattle.laws_steps.specs.Hopping.{rank_at, skip_at, HopsTo}
use Rattle.laws_tables.specs.Skipping.{skips_laid, laid_more, laid_length, laid_kind, laid_level}
use Rattle.laws_tables.specs.Neighbours.{is_follower, leads, may_stand_before}
use Rattle.table.specs.Rows.{u32_most}
use Rattle.skips.specs.Ends.{run_ends, runs_to, alone, top_alone}
use Rattle.lay_skips.specs.Laying.{RunBefore, RunLaid}
use Rattle.skips.specs.Belonging.{follower_alone, light_belongs, Leader, is_leader}

-- One row laid

pub ranks_stay : (m rows : List ℕ) (n d : ℕ) → rows ≡ skips_laid m n d → (j : ℕ) → rank_at rows j ≡ rank_at m j
ranks_stay m rows n d q j = ap (λ (x : List ℕ). rank_at x j) q ∙ rw (laid_kind m n d j, laid_level m n d j) refl

pub stays_long : (m rows : List ℕ) (n d : ℕ) → rows ≡ skips_laid m n d → length rows ≡ length m
stays_long m rows n d q = ap length q ∙ laid_length m n d

module _ (m : List ℕ) (n i : ℕ) (l : i < n) where
  pub lays : {rows after : List ℕ} {v : ℕ} → rows ≡ skips_laid m n (n - suc i) → v ≡ skip_at m n i → after ≡ set rows (i * row_width + 4) v → after ≡ skips_laid m n (n - i)
  lays {rows} {after} {v} q e s =
      let d : suc (n - suc i) ≡ n - i = omega arith in
      s ∙ ap (λ (x : List ℕ). set x (i * row_width + 4) v) q ∙ ap (set (skips_laid m n (n - suc i)) (i * row_width + 4)) e ∙ sym (laid_more m n (n - suc i) i (omega arith)) ∙ ap (skips_laid m n) d

-- The run

pub record RunBack (m : List ℕ) (n : ℕ) (rows : List ℕ) (last kind i : ℕ) : Type 0 where
  pub most : i ≤ last
  pub is : rows ≡ skips_laid m n (n - suc i)
  pub run : (j : ℕ) → i < j → j ≤ last → ((rank_at m j).kind ≡ kind) × ((rank_at m j).level ≡ (rank_at m last).level)

module _ {m : List ℕ} {n : ℕ} {rows₀ : List ℕ} {last kind : ℕ} (b : RunBefore m n rows₀ last kind) where
  pub run_begins : RunBack m n rows₀ last kind last
  run_begins = record { most = omega arith; is = b.is; run = λ j x y. absurd (omega arith) }

  pub before_long : length rows₀ ≡ length m
  before_long = stays_long m rows₀ n (n - suc last) b.is

  module _ {rows : List ℕ} {i : ℕ} (r : RunBack m n rows last kind i) where
    here : i < n
    here = omega (arith, r.most, b.inside)

    pub run_inside : i < room_of rows
    run_inside = omega (arith, stays_long m rows n (n - suc i) r.is, here, b.stands.room)

    pub run_long : length rows ≡ length m
    run_long = stays_long m rows n (n - suc i) r.is

    pub next_small : i + 1 ≤ u32_most
    next_small = omega (arith, here, b.stands.most)

    -- the row behind is of the run, where this is not its last
    behind_follows : i < last → is_follower (rank_at m (suc i)).kind ≡ true
    behind_follows h = ap is_follower (r.run (suc i) (omega arith) h).0 ∙ b.follower

    level_same : i ≤ last → (rank_at m i).level ≡ (rank_at m last).level
    level_same h = at (eqb i last) refl
      where
        at : (z : Bool) → eqb i last ≡ z → (rank_at m i).level ≡ (rank_at m last).level
        at true z = ap (λ (x : ℕ). (rank_at m x).level) (eqb-true i last z)
        at false z =
            let d = eqb-false i last z in
            let less : i < last = omega (arith, r.most) in
            (b.stands.beside.follows i (omega (arith, b.inside))).beside (behind_follows less) ∙ (r.run (suc i) (omega arith) less).1

    module _ {k : ℕ} (seen : k ≡ get_or rows (i * row_width) 0) where
      kind_here : k ≡ (rank_at m i).kind
      kind_here = seen ∙ ap (λ (x : Rank). x.kind) (ranks_stay m rows n (n - suc i) r.is i)

      module _ (same : k ≡ kind) where
        own_kind : (rank_at m i).kind ≡ kind
        own_kind = sym kind_here ∙ same

        pub not_first : 1 ≤ i
        not_first = at (eqb i 0) refl
          where
            at : (z : Bool) → eqb i 0 ≡ z → 1 ≤ i
            at false z = let d = eqb-false i 0 z in omega arith
            at true z =
                let (c, q) = b.stands.opens (omega (arith, here)) in
                let top-kind : (rank_at m 0).kind ≡ kind = ap (λ (x : ℕ). (rank_at m x).kind) (sym (eqb-true i 0 z)) ∙ own_kind in
                top_alone c (ap is_follower (sym (ap (λ (x : Rank). x.kind) q) ∙ top-kind) ∙ b.follower)

        pub run_again : {after : List ℕ} → after ≡ set rows (i * row_width + 4) (i + 1) → RunBack m n after last kind (i - 1)
        run_again s =
            let one = not_first in
            let before : suc (i - 1) ≡ i = omega arith in
            let one_on : i + 1 ≡ suc i = omega arith in
            let skip : i + 1 ≡ skip_at m n i = one_on ∙ sym (alone m n i here (λ _. follower_alone (rank_at m i) (rank_at m (suc i)) (ap is_follower own_kind ∙ b.follower))) in
            record {
              most = omega (arith, r.most);
              is = lays m n i here r.is skip s ∙ ap (λ (x : ℕ). skips_laid m n (n - x)) (sym before);
              run = λ j x y. at j x y (eqb j i) refl;
            }
          where
            at : (j : ℕ) → i - 1 < j → j ≤ last → (z : Bool) → eqb j i ≡ z → ((rank_at m j).kind ≡ kind) × ((rank_at m j).level ≡ (rank_at m last).level)
            at j x y true z = let e = eqb-true j i z in (ap (λ (u : ℕ). (rank_at m u).kind) e ∙ own_kind, ap (λ (u : ℕ). (rank_at m u).level) e ∙ level_same r.most)
            at j x y false z = let d = eqb-false j i z in r.run j (omega (arith, not_first)) y

      module _ (other : k ≡ kind → ⊥) where
        less : i < last
        less = at (eqb i last) refl
          where
            at : (z : Bool) → eqb i last ≡ z → i < last
            at false z = let d = eqb-false i last z in omega (arith, r.most)
            at true z = absurd (other (kind_here ∙ ap (λ (x : ℕ). (rank_at m x).kind) (eqb-true i last z) ∙ sym b.kind_is))

        first_kind : ℕ
        first_kind = (rank_at m i).kind

        leader : Leader (rank_at m i).kind kind
        leader =
            let t = (b.stands.beside.follows i (omega (arith, less, b.inside))).behind (behind_follows less) in
            let u : T (may_stand_before kind (rank_at m i).kind) = subst (λ (x : ℕ). T (may_stand_before x (rank_at m i).kind)) (r.run (suc i) (omega arith) less).0 t in
            is_leader (rank_at m i).kind kind b.follower (by (eqb (rank_at m i).kind kind) refl u)
          where
            by : (z : Bool) → eqb (rank_at m i).kind kind ≡ z → T (z || leads (rank_at m i).kind kind) → leads (rank_at m i).kind kind ≡ true
            by true z t = absurd (other (kind_here ∙ eqb-true (rank_at m i).kind kind z))
            by false z t = is_true (leads (rank_at m i).kind kind) t

        pub last_small : last + 1 ≤ u32_most
        last_small = omega (arith, b.inside, b.stands.most)

        pub run_ended : {after : List ℕ} → after ≡ set rows (i * row_width + 4) (last + 1) → RunLaid m n after i last kind
        run_ended s =
            let all : (j : ℕ) → i < j → j ≤ last → belongs (rank_at m i) (rank_at m j) ≡ true
            = λ j x y. beside_belongs (rank_at m i) (rank_at m j) ((r.run j x y).1 ∙ sym (level_same (omega (arith, less)))) (ap (beside (rank_at m i).kind) (r.run j x y).0 ∙ leader.has) in
            let e : i + 1 + (last - i) ≡ suc last = omega (arith, less) in
            let hops : HopsTo m n i (suc last) = subst (HopsTo m n i) e (runs_to m n i here (last - i) (λ j x y. all j x (omega arith)) (omega (arith, b.inside, less))) in
            let skip : skip_at m n i ≡ suc last = run_ends m n i here hops (λ u. ends (belongs (rank_at m i) (rank_at m (suc last))) refl u) in
            let v : last + 1 ≡ skip_at m n i = omega (arith, skip) in
            record { less = less; is = lays m n i here r.is v s; run = λ j x y. (r.run j x y).0; leads = leader.follows_none; inside = leader.light.no_envelope }
          where
            ends : (z : Bool) → belongs (rank_at m i) (rank_at m (suc last)) ≡ z → suc last < n → belongs (rank_at m i) (rank_at m (suc last)) ≡ false
            ends false z u = z
            ends true z u = false_not (sym (b.free u) ∙ light_belongs (rank_at m i) (rank_at m (suc last)) leader.light z)
