-- A table of one extension: its plan is the body behind the first row, with which the table ends as with the base.
use Prim.Native.Nat.{ℕ, ◌+◌, ◌<◌}
use mathlib.Core.List.{List, [], ◌∷◌}
use mathlib.Core.Bool.{true, false}
use mathlib.Core.Path.{◌≡◌, refl, ap, sym, ◌∙◌}
use native.Mathlib.Omega.{arith}
use lib.ListN.{length}
use Rattle.meaning.specs.Told.{Edition}
use Rattle.meaning.specs.Headers.{start}
use Rattle.meaning.specs.Writing.{Cell, cell, broken, Opens, envelope_row, inner_row, opens_of, Envelope, Plan, stuck, plan, fine, envelope_size, wrap}
use Rattle.meaning.specs.Memory.{room_of, laid_over}
use Rattle.meaning.specs.Relay.{extension_inside, extension_plan}
use Rattle.laws_steps.specs.Rows.{cells_at, cells_next}
use Rattle.write_rows.specs.Laying.{capped}
use Rattle.write_rows.specs.Bodies.{Body, halt, body, body_of}
use Rattle.write_inside.specs.Insides.{base_of, open_base}
use Rattle.laws_steps.specs.Envelopes.{wrap_length}
use Rattle.write_inside.specs.declared.body.Inside.{Inside}
use Rattle.write_rows.specs.declared.advance.Misfit.{Misfit}
use Rattle.std.specs.Prelude.{Some, Result}
use Rattle.write_envelopes.specs.Whole.{edge, from_body, bad, end_verdict, EnvelopeWritten}
use Rattle.write_envelopes.specs.Extension.{extension_verdict}
use Rattle.write_envelopes.proofs.Wholes.{plan_body, opened}
use Rattle.write_envelopes.proofs.Checking.{row_inside, Ends}

no_plan : {A : Type 0} {i : ℕ} {bytes : List ℕ} {vs : List Envelope} → stuck i ≡ plan bytes vs → A
no_plan q = let z : ◌≡◌ {A = ℕ} 0 1 = cc q in absurd (omega arith)

other_opens : (e : Edition) (cs : List Cell) → (open_base cs ≡ Some false → ⊥) → extension_plan e cs ≡ stuck 0
other_opens e [] h = refl
other_opens e (broken ∷ cs) h = refl
other_opens e (cell row ∷ cs) h = at (opens_of row) h
  where
    at : (o : Opens) → (base_of o ≡ Some false → ⊥) → extension_inside e cs o ≡ stuck 0
    at inner_row h = refl
    at (envelope_row true) h = refl
    at (envelope_row false) h = absurd (h refl)

extension_opens_lem : (e : Edition) (cs ds : List Cell) → open_base cs ≡ Some false → opened cs ≡ ds → extension_plan e cs ≡ from_body e true (body_of e ds 1 (start false))
extension_opens_lem e [] ds h d = cc
extension_opens_lem e (broken ∷ cs) ds h d = cc
extension_opens_lem e (cell row ∷ cs) ds h d = at (opens_of row) h
  where
    at : (o : Opens) → base_of o ≡ Some false → extension_inside e cs o ≡ from_body e true (body_of e ds 1 (start false))
    at inner_row h = cc
    at (envelope_row true) h = cc
    at (envelope_row false) h = plan_body e cs 1 true (start false) ∙ ap (λ (x : List Cell). from_body e true (body_of e x 1 (start false))) d

module _ (e : Edition) (pool rows : List ℕ) where
  pub no_extension : (open_base (cells_at pool rows 0) ≡ Some false → ⊥) → bad 15 0 ≡ extension_verdict (extension_plan e (cells_at pool rows 0))
  no_extension h = sym (ap extension_verdict (other_opens e (cells_at pool rows 0) h))

  module _ (q : Some false ≡ open_base (cells_at pool rows 0)) where
    pub some_row : 0 < room_of rows
    some_row = row_inside e pool rows 0 q

    abbrev pub inside : Body
    inside = body_of e (cells_at pool rows 1) 1 (start false)

    pub its_plan : extension_plan e (cells_at pool rows 0) ≡ from_body e true inside
    its_plan = extension_opens_lem e (cells_at pool rows 0) (cells_at pool rows 1) (sym q) (ap opened (cells_next pool rows 0 some_row))

    pub extension_stuck : {j : ℕ} → inside ≡ halt j → bad 15 j ≡ extension_verdict (extension_plan e (cells_at pool rows 0))
    extension_stuck h = sym (ap extension_verdict (its_plan ∙ ap (from_body e true) h))

    pub extension_ended : {row many : ℕ} → Ends inside pool rows row many → end_verdict (cells_at pool rows row) row many fine ≡ extension_verdict (extension_plan e (cells_at pool rows 0))
    extension_ended {row} (bytes, h, m, l) = sym (ap extension_verdict (its_plan ∙ ap (from_body e true) h) ∙ at (cells_at pool rows row) ∙ ap (λ (x : ℕ). end_verdict (cells_at pool rows row) row x fine) (sym m))
      where
        at : (cs : List Cell) → extension_verdict (edge e true bytes row cs) ≡ end_verdict cs row (capped (length bytes)) fine
        at [] = refl
        at (broken ∷ cs) = refl
        at (cell row ∷ cs) = refl

-- Laying it

pub extension_long : {p : Plan} {xs ys : List ℕ} {vs ws : List Envelope} → p ≡ plan xs vs → p ≡ plan ys ws → length ys ≡ length xs
extension_long {xs = xs} {ys = ys} {vs = vs} {ws = ws} a b =
    let q : plan ys ws ≡ plan xs vs = sym b ∙ a in
    let z : ys ≡ xs = cc q in
    ap length z

one_opens : (e : Edition) (cs : List Cell) (bytes : List ℕ) (vs : List Envelope) → extension_plan e cs ≡ plan bytes vs → open_base cs ≡ Some false
one_opens e [] bytes vs p = no_plan p
one_opens e (broken ∷ cs) bytes vs p = no_plan p
one_opens e (cell row ∷ cs) bytes vs p = at (opens_of row) p
  where
    at : (o : Opens) → extension_inside e cs o ≡ plan bytes vs → base_of o ≡ Some false
    at inner_row q = no_plan q
    at (envelope_row true) q = no_plan q
    at (envelope_row false) q = refl

body_planned : (e : Edition) (b : Body) (bytes : List ℕ) (vs : List Envelope) → from_body e true b ≡ plan bytes vs → (j : ℕ) × (cells : List Cell) × (b ≡ body bytes j cells)
body_planned e (halt j) bytes vs p = no_plan p
body_planned e (body bs j []) bytes vs p = let q : bs ≡ bytes = cc p in (j, [], ap (λ (x : List ℕ). body x j []) q)
body_planned e (body bs j (broken ∷ cs)) bytes vs p = no_plan p
body_planned e (body bs j (cell row ∷ cs)) bytes vs p = no_plan p

module _ (e : Edition) (pool rows : List ℕ) (bytes : List ℕ) (vs : List Envelope) (p : extension_plan e (cells_at pool rows 0) ≡ plan bytes vs) where
  pub planned_row : 0 < room_of rows
  planned_row = some_row e pool rows (sym (one_opens e (cells_at pool rows 0) bytes vs p))

  planned_body : (j : ℕ) × (cells : List Cell) × (body_of e (cells_at pool rows 1) 1 (start false) ≡ body bytes j cells)
  planned_body = body_planned e (body_of e (cells_at pool rows 1) 1 (start false)) bytes vs (sym (its_plan e pool rows (sym (one_opens e (cells_at pool rows 0) bytes vs p))) ∙ p)

  pub extension_laid : {many : ℕ} {before after : List ℕ} {r : Result Inside Misfit} → length bytes ≡ many → EnvelopeWritten (body_of e (cells_at pool rows 1) 1 (start false)) pool rows false many before 0 after r → after ≡ laid_over before (wrap false bytes)
  unfolding laid_over
  extension_laid {many} {before} l w =
      let (j, cells, q) = planned_body in
      let long : envelope_size many ≡ length (wrap false bytes) = ap envelope_size (sym l) ∙ sym (wrap_length false bytes) in
      let zero_more : 0 + envelope_size many ≡ length (wrap false bytes) = omega (arith, long) in
      w.laid bytes j cells q l ∙ rw zero_more refl
