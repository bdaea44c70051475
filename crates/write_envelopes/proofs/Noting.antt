-- The lengths that the check notes: those so far and those of the plan from here on are all, unless a limit is passed.
use Prim.Native.Nat.{ℕ, zero, suc, ◌-◌, ◌≤◌, ◌<◌}
use mathlib.Core.List.{List, [], ◌∷◌, ◌++◌, append_assoc, append-nil}
use mathlib.Core.Path.{◌≡◌, ap, sym, ◌∙◌}
use native.Mathlib.Omega.{arith}
use lib.ListN.{length, take, drop, set, length-append, length-set}
use lib.Seq.{set_split, take_at, length-take-le}
use Rattle.meaning.specs.Writing.{Envelope, Plan, whole_plan, Limit, fine}
use Rattle.laws_steps.specs.Rows.{cells_at}
use Rattle.meaning.specs.Told.{Edition}
use Rattle.meaning.specs.Headers.{envelopes_most}
use Rattle.write_inside.specs.Insides.{open_base}
use Rattle.write_envelopes.specs.Whole.{bad, needs, verdict, sized, limit_of, verdict_is, envelopes_of, insides, insides_of, Begins, CheckedAs}
use Rattle.table.specs.declared.answers.Fault.{Fault}
use Rattle.std.specs.Prelude.{Result, Some}
use mathlib.Core.Bool.{Bool, true, false}
use Rattle.write_envelopes.specs.declared.measure.Sizes.{Sizes}
use Rattle.write_envelopes.proofs.Wholes.{whole_edge, small_count}
use Rattle.write_envelopes.proofs.Checking.{rest, here, Ends}
use Rattle.write_envelopes.proofs.Passing.{Passing, never, still_fine, passing_fine, passing_extension, passing_base}

-- where the check refuses, no length has to be noted
pub checked_bad : (p : Plan) {r : Result ℕ Fault} {lengths : List ℕ} {answer place : ℕ} → verdict envelopes_most 0 fine p ≡ bad answer place → verdict_is r ≡ bad answer place → CheckedAs p r lengths
checked_bad p q e = record { is = e ∙ sym q; noted = λ t z. never (sym q ∙ z) }

sized_some : (n i k : ℕ) → sized n i k ≡ fine → 0 < n
sized_some zero i k q = let z : ◌≡◌ {A = ℕ} 0 1 = cc q in absurd (omega arith)
sized_some (suc n) i k q = omega arith

-- a number set behind the first k
module _ (l : List ℕ) (k a : ℕ) (h : k < length l) where
  set_parts : set l k a ≡ (take k l ++ (a ∷ [])) ++ drop (suc k) l
  set_parts = set_split l k a h ∙ sym (append_assoc (take k l) (a ∷ []) (drop (suc k) l))

  set_front : take (suc k) (set l k a) ≡ take k l ++ (a ∷ [])
  set_front = ap (take (suc k)) set_parts ∙ take_at (take k l ++ (a ∷ [])) (drop (suc k) l) (suc k) (length-append (take k l) (a ∷ []) ∙ omega (arith, length-take-le k l (omega arith)))

module _ (edition : Edition) (pool rows : List ℕ) where
  abbrev all : Plan
  all = whole_plan edition (cells_at pool rows 0)

  abbrev passed : ℕ → Type 0
  passed u = verdict envelopes_most 0 fine all ≡ needs u

  pub record Noting (left i : ℕ) (lengths : List ℕ) : Type 0 where
    pub long : length lengths ≡ envelopes_most
    pub so_far : (u : ℕ) → passed u → insides_of all ≡ take (envelopes_most - left) lengths ++ insides_of (rest edition pool rows i)

  pub noting_starts : {lengths : List ℕ} → length lengths ≡ envelopes_most → Noting envelopes_most 0 lengths
  noting_starts h = record { long = h; so_far = λ u z. ap insides_of (whole_edge edition (cells_at pool rows 0)) }

  module _ {i : ℕ} (t : Sizes) {lengths : List ℕ} (a : Noting t.left i lengths) (few : t.left ≤ envelopes_most)
      (v : verdict envelopes_most 0 fine all ≡ verdict t.left t.total (limit_of t.over) (rest edition pool rows i))
      {base : Bool} (q : Some base ≡ open_base (cells_at pool rows i)) {row many : ℕ} (z : Ends (here edition pool rows i q) pool rows row many) where
    abbrev k : ℕ
    k = envelopes_most - t.left

    passes : (u : ℕ) → passed u → Passing edition pool rows i t.left t.total u
    passes u p =
        let w = sym v ∙ p in
        let f = still_fine t.left t.total u (limit_of t.over) (rest edition pool rows i) w in
        record { is = ap (λ (o : Limit). verdict t.left t.total o (rest edition pool rows i)) (sym f) ∙ w }

    counts : (u : ℕ) → passed u → (k < length lengths) × (many ≡ length z.0)
    counts u p =
        let f = (passing_fine (passes u p) q z.1).0 in
        (omega (arith, sized_some t.left i (length z.0) f, a.long), z.2 ∙ small_count t.left i (length z.0) f)

    noted_here : (u : ℕ) (p : passed u) (vs : List Envelope) → insides_of (rest edition pool rows i) ≡ length z.0 ∷ insides vs → insides_of all ≡ (take k lengths ++ (many ∷ [])) ++ insides vs
    noted_here u p vs e =
        a.so_far u p ∙ ap (λ (x : List ℕ). take k lengths ++ x) (e ∙ ap (λ (x : ℕ). x ∷ insides vs) (sym (counts u p).1)) ∙ sym (append_assoc (take k lengths) (many ∷ []) (insides vs))

    pub noting_on : {left : ℕ} → left ≡ t.left - 1 → base ≡ false → Noting left row (set lengths k many)
    noting_on {left} l two =
        record {
          long = length-set lengths k many ∙ a.long;
          so_far = λ u p.
              let (c, m) = counts u p in
              let j : suc k ≡ envelopes_most - left = omega (arith, a.long) in
              noted_here u p (envelopes_of (rest edition pool rows row)) (ap insides (passing_extension (passes u p) q z.1 two))
              ∙ ap (λ (x : List ℕ). x ++ insides_of (rest edition pool rows row)) (sym (set_front lengths k many c) ∙ ap (λ (x : ℕ). take x (set lengths k many)) j);
        }

    pub noting_ends : base ≡ true → (u : ℕ) → passed u → Begins (insides_of all) (set lengths k many)
    noting_ends two u p =
        let e = noted_here u p [] (ap insides (passing_base (passes u p) q z.1 two)) in
        (drop (suc k) lengths, set_parts lengths k many (counts u p).0 ∙ ap (λ (x : List ℕ). x ++ drop (suc k) lengths) (sym (e ∙ append-nil (take k lengths ++ (many ∷ [])))))
