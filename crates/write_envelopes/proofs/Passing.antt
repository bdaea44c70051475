-- What a verdict that needs bytes says of the envelope that opens at a row: its body ends, passes no limit, and stands first in the plan.
use Prim.Native.Nat.{ℕ, suc, ◌+◌, ◌-◌, ◌≤◌}
use mathlib.Core.List.{List, [], ◌∷◌}
use mathlib.Core.Bool.{Bool, true, false}
use mathlib.Core.Path.{◌≡◌, refl, ap, sym, ◌∙◌}
use native.Mathlib.Omega.{arith}
use lib.ListN.{length}
use Rattle.meaning.specs.Told.{Edition}
use Rattle.meaning.specs.Headers.{start}
use Rattle.meaning.specs.Writing.{Cell, cell, broken, Opens, envelope_row, inner_row, opens_of, Envelope, envelope_at, Plan, stuck, plan, new_plan, plan_of, envelope_size, header_of, Limit, fine, exceeds, limits}
use Rattle.laws_steps.specs.Rows.{cells_at}
use Rattle.write_rows.specs.Bodies.{Body, halt, body}
use Rattle.std.specs.Prelude.{None, Some}
use Rattle.write_inside.specs.Insides.{open_base}
use Rattle.write_envelopes.specs.Whole.{open_plan, edge, from_body, bad, needs, verdict_of, verdict, sized, end_verdict, envelopes_of}
use Rattle.write_envelopes.proofs.Wholes.{verdict_extension, verdict_base}
use Rattle.write_envelopes.proofs.Checking.{rest, rest_none, here, rest_opens}

pub never : {A : Type 0} {answer place t : ℕ} → bad answer place ≡ needs t → A
never q = let z : ◌≡◌ {A = ℕ} 0 1 = cc q in absurd (omega arith)

-- a verdict that needs bytes has passed no limit
not_over : {A : Type 0} (n t u j : ℕ) (p : Plan) → verdict n t (exceeds j) p ≡ needs u → A
not_over n t u j (stuck i) q = never q
not_over n t u j (plan bs vs) q = never q

pub still_fine : (n t u : ℕ) (o : Limit) (p : Plan) → verdict n t o p ≡ needs u → o ≡ fine
still_fine n t u fine p q = refl
still_fine n t u (exceeds j) p q = not_over n t u j p q

pub needs_most : (n t u : ℕ) (p : Plan) → verdict n t fine p ≡ needs u → t ≤ u
needs_most n t u (stuck i) q = never q
needs_most n t u (plan bs vs) q = at (limits n vs) q
  where
    at : (o : Limit) → verdict_of (t + length (header_of vs)) o ≡ needs u → t ≤ u
    at fine q = let z : t + length (header_of vs) ≡ u = cc q in omega arith
    at (exceeds j) q = never q

-- an extension, and what follows it
extension_first : (n t u i : ℕ) (e : Edition) (bs : List ℕ) (r : ℕ) (cs : List Cell) → verdict n t fine (edge e false [] r cs) ≡ needs u
    → envelopes_of (new_plan i false [] (edge e false bs r cs)) ≡ envelope_at i false bs ∷ envelopes_of (edge e false [] r cs)
extension_first n t u i e bs r [] q = never q
extension_first n t u i e bs r (broken ∷ cs) q = never q
extension_first n t u i e bs r (cell row ∷ cs) q = at (opens_of row) q
  where
    plans : (c : Bool) (p : Plan) → verdict n t fine (new_plan r c [] p) ≡ needs u → envelopes_of (new_plan i false [] (new_plan r c bs p)) ≡ envelope_at i false bs ∷ envelopes_of (new_plan r c [] p)
    plans c (stuck j) q = never q
    plans c (plan ds vs) q = refl

    at : (o : Opens) → verdict n t fine (open_plan r [] (λ c. plan_of e cs (suc r) c (start c)) o) ≡ needs u
        → envelopes_of (new_plan i false [] (open_plan r bs (λ c. plan_of e cs (suc r) c (start c)) o)) ≡ envelope_at i false bs ∷ envelopes_of (open_plan r [] (λ c. plan_of e cs (suc r) c (start c)) o)
    at inner_row q = never q
    at (envelope_row c) q = plans c (plan_of e cs (suc r) c (start c)) q

-- the base, behind which nothing is left
base_alone : (t u i : ℕ) (o : Limit) (e : Edition) (bs : List ℕ) (r : ℕ) (cs : List Cell) → end_verdict cs r t o ≡ needs u → envelopes_of (new_plan i true [] (edge e true bs r cs)) ≡ envelope_at i true bs ∷ []
base_alone t u i o e bs r [] q = refl
base_alone t u i o e bs r (c ∷ cs) q = never q

end_fine : (t u r : ℕ) (o : Limit) (cs : List Cell) → end_verdict cs r t o ≡ needs u → (o ≡ fine) × (t ≡ u)
end_fine t u r fine [] q = (refl, cc q)
end_fine t u r (exceeds j) [] q = never q
end_fine t u r o (c ∷ cs) q = never q

-- the rows from row i on pass: m envelopes may still come, t bytes are needed so far and u in all
pub record Passing (edition : Edition) (pool rows : List ℕ) (i m t u : ℕ) : Type 0 where
  pub is : verdict m t fine (rest edition pool rows i) ≡ needs u

module _ {edition : Edition} {pool rows : List ℕ} {i m t u : ℕ} (v : Passing edition pool rows i m t u) where
  pub passing_none : {A : Type 0} → None ≡ open_base (cells_at pool rows i) → A
  passing_none q = never (ap (verdict m t fine) (sym (rest_none edition pool rows i q)) ∙ v.is)

  module _ {base : Bool} (q : Some base ≡ open_base (cells_at pool rows i)) where
    passes_here : verdict m t fine (new_plan i base [] (from_body edition base (here edition pool rows i q))) ≡ needs u
    passes_here = ap (verdict m t fine) (sym (rest_opens edition pool rows i q)) ∙ v.is

    pub passing_stuck : {A : Type 0} {j : ℕ} → here edition pool rows i q ≡ halt j → A
    passing_stuck e = never (ap (λ (b : Body). verdict m t fine (new_plan i base [] (from_body edition base b))) (sym e) ∙ passes_here)

    pub passing_body : (bytes : List ℕ) × (row : ℕ) × (cells : List Cell) × (here edition pool rows i q ≡ body bytes row cells)
    passing_body = at (here edition pool rows i q) refl
      where
        at : (b : Body) → here edition pool rows i q ≡ b → (bytes : List ℕ) × (row : ℕ) × (cells : List Cell) × (here edition pool rows i q ≡ body bytes row cells)
        at (halt j) e = passing_stuck e
        at (body bytes row cells) e = (bytes, row, cells, e)

    module _ {bytes : List ℕ} {row : ℕ} {cells : List Cell} (z : here edition pool rows i q ≡ body bytes row cells) where
      opens_at : (b : Bool) → base ≡ b → rest edition pool rows i ≡ new_plan i b [] (edge edition b bytes row cells)
      opens_at b e =
          rest_opens edition pool rows i q ∙ ap (λ (x : Body). new_plan i base [] (from_body edition base x)) z
          ∙ ap (λ (b : Bool). new_plan i b [] (edge edition b bytes row cells)) e

      passes_at : (b : Bool) → base ≡ b → verdict m t fine (new_plan i b [] (edge edition b bytes row cells)) ≡ needs u
      passes_at b e = ap (verdict m t fine) (sym (opens_at b e)) ∙ v.is

      extension_passes : base ≡ false → (verdict (m - 1) (t + envelope_size (length bytes)) fine (edge edition false [] row cells) ≡ needs u) × (sized m i (length bytes) ≡ fine)
      extension_passes e =
          let w = sym (verdict_extension m t i fine edition bytes row cells) ∙ passes_at false e in
          let f = still_fine (m - 1) (t + envelope_size (length bytes)) u (sized m i (length bytes)) (edge edition false [] row cells) w in
          (ap (λ (o : Limit). verdict (m - 1) (t + envelope_size (length bytes)) o (edge edition false [] row cells)) (sym f) ∙ w, f)

      base_passes : base ≡ true → end_verdict cells row (t + envelope_size (length bytes)) (sized m i (length bytes)) ≡ needs u
      base_passes e = sym (verdict_base m t i fine edition bytes row cells) ∙ passes_at true e

      pub passing_on : base ≡ false → verdict (m - 1) (t + envelope_size (length bytes)) fine (edge edition false [] row cells) ≡ needs u
      passing_on e = (extension_passes e).0

      pub passing_fine : (sized m i (length bytes) ≡ fine) × (t + envelope_size (length bytes) ≤ u)
      passing_fine = at base refl
        where
          at : (b : Bool) → base ≡ b → (sized m i (length bytes) ≡ fine) × (t + envelope_size (length bytes) ≤ u)
          at true e = let (f, g) = end_fine (t + envelope_size (length bytes)) u row (sized m i (length bytes)) cells (base_passes e) in (f, omega arith)
          at false e = ((extension_passes e).1, needs_most (m - 1) (t + envelope_size (length bytes)) u (edge edition false [] row cells) (passing_on e))

      pub passing_extension : base ≡ false → envelopes_of (rest edition pool rows i) ≡ envelope_at i false bytes ∷ envelopes_of (edge edition false [] row cells)
      passing_extension e = ap envelopes_of (opens_at false e) ∙ extension_first (m - 1) (t + envelope_size (length bytes)) u i edition bytes row cells (passing_on e)

      pub passing_base : base ≡ true → envelopes_of (rest edition pool rows i) ≡ envelope_at i true bytes ∷ []
      passing_base e = ap envelopes_of (opens_at true e) ∙ base_alone (t + envelope_size (length bytes)) u i (sized m i (length bytes)) edition bytes row cells (base_passes e)

      pub passing_first : (behind : List Envelope) × (envelopes_of (rest edition pool rows i) ≡ envelope_at i base bytes ∷ behind)
      passing_first = at base refl
        where
          at : (b : Bool) → base ≡ b → (behind : List Envelope) × (envelopes_of (rest edition pool rows i) ≡ envelope_at i b bytes ∷ behind)
          at true e = ([], passing_base e)
          at false e = (envelopes_of (edge edition false [] row cells), passing_extension e)
