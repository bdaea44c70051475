-- One turn of the pass inside an envelope: the row before those that are laid, by its class.
use Prim.Native.Nat.{ℕ, zero, suc, ◌+◌, ◌-◌, ◌*◌, ◌%◌, ◌≤◌, ◌<◌}
use mathlib.Core.List.{List, ◌∷◌}
use mathlib.Core.Bool.{Bool, true, false, ◌||◌}
use mathlib.Core.Logic.{◌⊎◌, inl, inr}
use mathlib.Core.Path.{◌≡◌, refl, ap, sym, ◌∙◌, subst}
use native.Mathlib.Omega.{arith}
use lib.Bits.{bit_or}
use lib.Dec.{eqb}
use lib.ListN.{length, get_or, set}
use borrow.Author.Tests.{eqb-true, eqb-false}
use Rattle.meaning.specs.Skips.{Rank, rank, is_envelope, belongs}
use Rattle.meaning.specs.Words.{word_of}
use Rattle.meaning.specs.Memory.{row_width, room_of}
use Rattle.laws_steps.specs.Nesting.{false_not}
use Rattle.laws_steps.specs.Hopping.{rank_at, ranks_for, skip_at}
use Rattle.laws_tables.specs.Skipping.{skips_laid, laid_same}
use Rattle.laws_tables.specs.Presence.{no_word}
use Rattle.laws_tables.specs.Wording.{top}
use Rattle.laws_tables.specs.Neighbours.{is_follower, kind_most}
use Rattle.table.specs.Rows.{u32_most}
use Rattle.skips.specs.Owners.{Hoppable, Owned, deeper_test, above_test}
use Rattle.skips.specs.Classes.{class_of}
use Rattle.lay_skips.specs.Laying.{LaidFrom, LaidBack, InsideLaid, Turned, RunBefore, RunLaid}
use Rattle.std.specs.Prelude.{Some, None}
use Rattle.skips.specs.Owning.{of_agent}
use Rattle.skips.specs.Belonging.{Light, light_belongs}
use Rattle.skips.specs.Passes.{laid_hoppable}
use Rattle.skips.specs.Ends.{IsTop, alone, top_alone}
use Rattle.lay_skips.proofs.Running.{ranks_stay, stays_long, lays}
use Rattle.skips.specs.Classing.{is_plain, is_deeper, is_agent, is_follower_lem, is_envelope_lem, deeper_owns, one_seen, follower_unseen}

top_opens : (c : Bool) → is_envelope (top c).kind ≡ true
top_opens true = refl
top_opens false = refl

ranks_more : (m : List ℕ) (i end : ℕ) → i < end → ranks_for m i (end - i) ≡ rank_at m i ∷ ranks_for m (suc i) (end - suc i)
ranks_more m i end h = let q : end - i ≡ suc (end - suc i) = omega arith in ap (ranks_for m i) q

module _ {m : List ℕ} {n end : ℕ} {rows : List ℕ} {next word : ℕ} (b : LaidBack m n end rows next word) where
  next_is : suc (next - 1) ≡ next
  next_is = omega (arith, b.some)

  here : next - 1 < n
  here = omega (arith, b.some, b.most, b.few)

  is_here : rows ≡ skips_laid m n (n - suc (next - 1))
  is_here = b.is ∙ ap (λ (x : ℕ). skips_laid m n (n - x)) (sym next_is)

  pub back_long : length rows ≡ length m
  back_long = stays_long m rows n (n - next) b.is

  pub back_inside : next - 1 < room_of rows
  back_inside = omega (arith, back_long, here, b.stands.room)

  pub back_small : next ≤ u32_most
  back_small = omega (arith, b.most, b.few, b.stands.most)

  -- a row that is no envelope's own
  inner_at : (j : ℕ) → j < n → is_envelope (rank_at m j).kind ≡ false → 3 ≤ (rank_at m j).kind
  inner_at j l f = at (b.stands.each j l)
    where
      at : (3 ≤ (rank_at m j).kind) ⊎ IsTop (rank_at m j) → 3 ≤ (rank_at m j).kind
      at (inl three) = three
      at (inr (c, q)) = false_not (sym f ∙ ap (λ (r : Rank). is_envelope r.kind) q ∙ top_opens c)

  not_zero : (j : ℕ) → j < n → is_envelope (rank_at m j).kind ≡ false → 0 < j
  not_zero j l f = at (eqb j 0) refl
    where
      at : (z : Bool) → eqb j 0 ≡ z → 0 < j
      at false z = let d = eqb-false j 0 z in omega arith
      at true z =
          let (c, q) = b.stands.opens (omega arith) in
          false_not (sym f ∙ ap (λ (x : ℕ). is_envelope (rank_at m x).kind) (eqb-true j 0 z) ∙ ap (λ (r : Rank). is_envelope r.kind) q ∙ top_opens c)

  right_here : {skip : ℕ} → skip ≡ skip_at rows n (next - 1) → skip ≡ skip_at m n (next - 1)
  right_here e = e ∙ ap (λ (x : List ℕ). skip_at x n (next - 1)) b.is ∙ laid_same m n (n - next) (next - 1)

  pub back_hoppable : Hoppable rows n (next - 1)
  back_hoppable = laid_hoppable m n next b.some (omega (arith, b.most, b.few)) rows b.is b.stands.room

  module _ {kind : ℕ} (k : kind ≡ get_or rows ((next - 1) * row_width) 0) where
    kind_here : (rank_at m (next - 1)).kind ≡ kind
    kind_here = sym (k ∙ ap (λ (r : Rank). r.kind) (ranks_stay m rows n (n - next) b.is (next - 1)))

    pub kind_known : kind ≤ kind_most
    kind_known = omega (arith, kind_here, (b.stands.beside.flat (next - 1) here).known)

    module _ {class : ℕ} (c : class ≡ class_of kind) where
      class_here : class ≡ class_of (rank_at m (next - 1)).kind
      class_here = c ∙ ap class_of (sym kind_here)

      seen_here : bit_or word class % 4096 ≡ word_of (ranks_for m (next - 1) (end - (next - 1)))
      seen_here =
          let behind : word % 4096 ≡ word_of (ranks_for m (suc (next - 1)) (end - suc (next - 1))) = b.seen ∙ ap (λ (x : ℕ). word_of (ranks_for m x (end - x))) (sym next_is) in
          one_seen (rank_at m (next - 1)) (ranks_for m (suc (next - 1)) (end - suc (next - 1))) word (b.stands.beside.flat (next - 1) here) behind class_here
          ∙ ap word_of (sym (ranks_more m (next - 1) end (omega (arith, b.some, b.most))))

      -- one row more
      turned : {skip : ℕ} {after : List ℕ} → is_envelope kind ≡ false → is_follower kind ≡ false → skip ≡ skip_at m n (next - 1) → after ≡ set rows ((next - 1) * row_width + 4) skip
          → Turned m n end next word after (Some (record { row = next - 1; word = bit_or word class }))
      unfolding Turned
      turned e f v s =
          let no : is_envelope (rank_at m (next - 1)).kind ≡ false = ap is_envelope kind_here ∙ e in (
            record {
              stands = b.stands;
              some = not_zero (next - 1) here no;
              most = omega (arith, b.most);
              few = b.few;
              is = lays m n (next - 1) here is_here v s;
              inner = λ j x y. at j x y (eqb j (next - 1)) refl;
              free = λ _. ap is_follower kind_here ∙ f;
              seen = seen_here;
            },
            omega (arith, b.some),
          )
        where
          at : (j : ℕ) → next - 1 ≤ j → j < end → (z : Bool) → eqb j (next - 1) ≡ z → 3 ≤ (rank_at m j).kind
          at j x y true z = subst (λ (i : ℕ). 3 ≤ (rank_at m i).kind) (sym (eqb-true j (next - 1) z)) (inner_at (next - 1) here (ap is_envelope kind_here ∙ e))
          at j x y false z = let d = eqb-false j (next - 1) z in b.inner j (omega (arith, b.some)) y

      pub plain_turn : {after : List ℕ} → class < 0x1000 → after ≡ set rows ((next - 1) * row_width + 4) next → Turned m n end next word after (Some (record { row = next - 1; word = bit_or word class }))
      plain_turn h s = let (l, f) = is_plain kind class c h in turned l.no_envelope f (sym (skip l ∙ next_is)) s
        where
          ends : Light (rank_at m (next - 1)).kind → (z : Bool) → belongs (rank_at m (next - 1)) (rank_at m (suc (next - 1))) ≡ z → suc (next - 1) < n → belongs (rank_at m (next - 1)) (rank_at m (suc (next - 1))) ≡ false
          ends l false z u = z
          ends l true z u =
              false_not (sym (b.free (omega (arith, next_is))) ∙ ap (λ (x : ℕ). is_follower (rank_at m x).kind) (sym next_is) ∙ light_belongs (rank_at m (next - 1)) (rank_at m (suc (next - 1))) l z)

          skip : Light kind → skip_at m n (next - 1) ≡ suc (next - 1)
          skip l = alone m n (next - 1) here (ends (subst Light (sym kind_here) l) (belongs (rank_at m (next - 1)) (rank_at m (suc (next - 1)))) refl)

      module _ (g : 0x1000 ≤ class) (h : class < 0x2000) where
        pub deeper_owned : Owned rows (next - 1) deeper_test
        deeper_owned s =
            let (p, q, r, d) = is_deeper kind class c g h in
            let level = (rank_at rows (next - 1)).level in
            ap (λ (x : ℕ). belongs (rank x level) s) (sym k) ∙ deeper_owns kind level s p r d

        pub deeper_turn : {skip : ℕ} {after : List ℕ} → skip ≡ skip_at rows n (next - 1) → after ≡ set rows ((next - 1) * row_width + 4) skip → Turned m n end next word after (Some (record { row = next - 1; word = bit_or word class }))
        deeper_turn e s = let (p, q, r, d) = is_deeper kind class c g h in turned p q (right_here e) s

      module _ (g : 0x2000 ≤ class) (h : class < 0x3000) where
        pub agent_owned : Owned rows (next - 1) (above_test 15)
        agent_owned s = of_agent (rank_at rows (next - 1)).level s (sym k ∙ is_agent kind class c g h)

        pub agent_turn : {skip : ℕ} {after : List ℕ} → skip ≡ skip_at rows n (next - 1) → after ≡ set rows ((next - 1) * row_width + 4) skip → Turned m n end next word after (Some (record { row = next - 1; word = bit_or word class }))
        agent_turn e s = let q = is_agent kind class c g h in turned (ap is_envelope q) (ap is_follower q) (right_here e) s

      module _ (g : 0x3000 ≤ class) (h : class < 0x4000) where
        pub run_before : RunBefore m n rows (next - 1) kind
        run_before = record {
          stands = b.stands;
          inside = here;
          is = is_here;
          kind_is = sym kind_here;
          follower = is_follower_lem kind class c g h;
          free = λ u. ap (λ (x : ℕ). is_follower (rank_at m x).kind) next_is ∙ b.free (omega (arith, next_is));
        }

        module _ {after : List ℕ} {first : ℕ} (r : RunLaid m n after first (next - 1) kind) where
          first_here : first < n
          first_here = omega (arith, r.less, here)

          pub run_inside : first < room_of after
          run_inside = omega (arith, stays_long m after n (n - first) r.is, first_here, b.stands.room)

          -- the run has no bit
          unseen : (d : ℕ) → suc first + d ≤ next - 1 → word_of (ranks_for m (next - 1 - d) (end - (next - 1 - d))) ≡ word_of (ranks_for m (next - 1) (end - (next - 1)))
          unseen zero l = let q : next - 1 - 0 ≡ next - 1 = omega arith in ap (λ (x : ℕ). word_of (ranks_for m x (end - x))) q
          unseen (suc d) l =
              let j = next - 1 - suc d in
              let q : suc j ≡ next - 1 - d = omega arith in
              let of_run : (rank_at m j).kind ≡ kind = r.run j (omega arith) (omega arith) in
              ap word_of (ranks_more m j end (omega (arith, b.some, b.most)))
              ∙ follower_unseen (rank_at m j) (ranks_for m (suc j) (end - suc j)) (b.stands.beside.flat j (omega (arith, here))) (ap is_follower of_run ∙ is_follower_lem kind class c g h)
              ∙ ap (λ (x : ℕ). word_of (ranks_for m x (end - x))) q ∙ unseen d (omega arith)

          module _ {opener : ℕ} (o : opener ≡ get_or after (first * row_width) 0) where
            opener_here : (rank_at m first).kind ≡ opener
            opener_here = sym (o ∙ ap (λ (x : Rank). x.kind) (ranks_stay m after n (n - first) r.is first))

            pub opener_known : opener ≤ kind_most
            opener_known = omega (arith, opener_here, (b.stands.beside.flat first first_here).known)

            pub run_turn : {class₂ : ℕ} → class₂ ≡ class_of opener → Turned m n end next word after (Some (record { row = first; word = bit_or (bit_or word class) class₂ }))
            unfolding Turned
            run_turn {class₂} e =
                let whole : next - 1 - (next - 1 - suc first) ≡ suc first = omega (arith, r.less) in
                let behind : bit_or word class % 4096 ≡ word_of (ranks_for m (suc first) (end - suc first)) = seen_here ∙ sym (unseen (next - 1 - suc first) (omega (arith, r.less))) ∙ ap (λ (x : ℕ). word_of (ranks_for m x (end - x))) whole in (
                  record {
                    stands = b.stands;
                    some = not_zero first first_here r.inside;
                    most = omega (arith, r.less, b.most);
                    few = b.few;
                    is = r.is;
                    inner = λ j x y. at j x y (eqb j first) refl;
                    free = λ _. r.leads;
                    seen = one_seen (rank_at m first) (ranks_for m (suc first) (end - suc first)) (bit_or word class) (b.stands.beside.flat first first_here) behind (e ∙ ap class_of (sym opener_here))
                        ∙ ap word_of (sym (ranks_more m first end (omega (arith, r.less, b.some, b.most))));
                  },
                  omega (arith, r.less, b.some),
                )
              where
                of_run : (j : ℕ) → first < j → j ≤ next - 1 → 3 ≤ (rank_at m j).kind
                of_run j x y = by (b.stands.each j (omega (arith, here)))
                  where
                    by : (3 ≤ (rank_at m j).kind) ⊎ IsTop (rank_at m j) → 3 ≤ (rank_at m j).kind
                    by (inl three) = three
                    by (inr (t, q)) = top_alone t (ap is_follower (sym (ap (λ (s : Rank). s.kind) q) ∙ r.run j x y) ∙ is_follower_lem kind class c g h)

                later : (j : ℕ) → first < j → j < end → (z : Bool) → eqb (next - j) 0 ≡ z → 3 ≤ (rank_at m j).kind
                later j x y true z = let e = eqb-true (next - j) 0 z in b.inner j (omega arith) y
                later j x y false z = let e = eqb-false (next - j) 0 z in of_run j x (omega arith)

                at : (j : ℕ) → first ≤ j → j < end → (z : Bool) → eqb j first ≡ z → 3 ≤ (rank_at m j).kind
                at j x y true z = subst (λ (i : ℕ). 3 ≤ (rank_at m i).kind) (sym (eqb-true j first z)) (inner_at first first_here r.inside)
                at j x y false z = let d = eqb-false j first z in later j (omega arith) y (eqb (next - j) 0) refl

      pub envelope_turn : 0x4000 ≤ class → Turned m n end next word rows None
      unfolding Turned
      envelope_turn g =
          record {
            less = omega (arith, b.some, b.most);
            opened = at (b.stands.each (next - 1) here);
            inner = λ j x y. b.inner j (omega (arith, b.some)) y;
            is = is_here;
            carries = b.seen ∙ ap (λ (x : ℕ). word_of (ranks_for m x (end - x))) (sym next_is);
          }
        where
          low : (z : Bool) → is_envelope kind ≡ z → z ≡ true → 3 ≤ kind → ⊥
          low z q t l = by (eqb kind 1) (eqb kind 2) refl refl (q ∙ t)
            where
              by : (x y : Bool) → eqb kind 1 ≡ x → eqb kind 2 ≡ y → x || y ≡ true → ⊥
              by true y p q t = let u = eqb-true kind 1 p in omega arith
              by false true p q t = let u = eqb-true kind 2 q in omega arith
              by false false p q t = false_not t

          at : (3 ≤ (rank_at m (next - 1)).kind) ⊎ IsTop (rank_at m (next - 1)) → IsTop (rank_at m (next - 1))
          at (inl three) = absurd (low (is_envelope kind) refl (is_envelope_lem kind class c g) (omega (arith, kind_here)))
          at (inr own) = own

-- The turns

top_leads : (c : Bool) → is_follower (top c).kind ≡ false
top_leads true = refl
top_leads false = refl

pub back_begins : {m : List ℕ} {n : ℕ} {rows : List ℕ} {end : ℕ} → LaidFrom m n rows end → LaidBack m n end rows end 0
back_begins {m} {n} {rows} {end} f =
    let none : end - end ≡ 0 = omega arith in
    record {
      stands = f.stands;
      some = f.some;
      most = omega arith;
      few = f.few;
      is = f.is;
      inner = λ j x y. absurd (omega arith);
      free = λ u. let (c, q) = f.there u in ap (λ (r : Rank). is_follower r.kind) q ∙ top_leads c;
      seen = sym no_word ∙ ap (λ (k : ℕ). word_of (ranks_for m end k)) (sym none);
    }

-- memory stays as long as it was
pub from_long : {m : List ℕ} {n : ℕ} {rows : List ℕ} {end : ℕ} → LaidFrom m n rows end → length rows ≡ length m
from_long {m} {n} {rows} {end} f = stays_long m rows n (n - end) f.is

pub inside_long : {m : List ℕ} {n end : ℕ} {rows : List ℕ} {i word : ℕ} → InsideLaid m n end rows i word → length rows ≡ length m
inside_long {m} {n} {rows = rows} {i = i} f = stays_long m rows n (n - suc i) f.is
