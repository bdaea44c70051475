-- "04 representation": the code leads to the row of a kind, which is needed there.
use Prim.Native.Nat.{ℕ, ◌≤◌}
use mathlib.Core.List.{List, [], ◌∷◌}
use mathlib.Core.Bool.{false}
use mathlib.Core.Path.{◌≡◌, ap, sym, ◌∙◌, subst}
use lib.ListN.{length}
use Rattle.meaning.specs.Editions.{state, parameters, parameter_representation, outer, Move, moves, representations}
use Rattle.meaning.specs.Headers.{envelope_most}
use Rattle.meaning.specs.Memory.{room_of}
use Rattle.meaning.specs.Told.{Edition}
use Rattle.meaning.specs.Writing.{Cell, cell, broken, way_to}
use Rattle.laws_steps.specs.Rows.{cells_at}
use Rattle.write_rows.specs.Among.{SameAhead, tried_same}
use Rattle.write_rows.specs.Laying.{Laid}
use Rattle.write_rows.specs.Onward.{needed_is, needed_beyond, advance_then}
use Rattle.write_rows.specs.Rooms.{of_kind}
use Rattle.write_rows.specs.Stages.{TriedIs, after_needed, at_parameters}
use Rattle.write_rows.specs.declared.advance.Onto.{Onto}
use Rattle.write_rows.specs.declared.advance.Misfit.{Misfit}
use Rattle.std.specs.Prelude.{Option, Result}
use Rattle.write_inside.specs.Parameters.{after_advance, KindAhead, FoundIs}
use Rattle.write_inside.proofs.Choosing.{WayAhead, found_advance, pass_on, way_ahead}
use Rattle.write_inside.proofs.Rooms.{pass_represents, parameter_representation_lem}

kind_same : (k level : ℕ) (l l₁ : List Move) (cs : List Cell) → of_kind k l ≡ of_kind k l₁ → KindAhead k cs → SameAhead l l₁ level cs
kind_same k level l l₁ [] same a = tt
kind_same k level l l₁ (broken ∷ cs) same a = tt
kind_same k level l l₁ (cell row ∷ cs) same q = λ at. ap (λ (n : ℕ). of_kind n l) q ∙ same ∙ sym (ap (λ (n : ℕ). of_kind n l₁) q)

module _ (edition : Edition) (pool rows : List ℕ) (i k : ℕ) (l : List Move) (same : of_kind k l ≡ of_kind k (representations (outer parameters))) (none_of : of_kind k (moves edition parameters) ≡ []) (past : 3 ≤ k) (way : way_to k ≡ 0x04) (ahead : KindAhead k (cells_at pool rows i)) where
  pub represented_found : {before : List ℕ} {at : ℕ} {m : List ℕ} {p : ℕ} (t : Option ℕ) (s : Result Onto Misfit) (r : Result (Option Onto) Misfit) (after : List ℕ) → i ≤ room_of rows → length before ≤ envelope_most → Laid before at (0x04 ∷ []) m p → TriedIs l 0 pool rows i m p t after → s ≡ after_needed i t → r ≡ after_advance s → FoundIs edition pool rows i before at r after
  represented_found {before} {at} {m} {p} t s r after inside small laid tried q e =
      let led = subst (λ (c : ℕ). WayAhead edition c (cells_at pool rows i)) way (way_ahead edition k (cells_at pool rows i) ahead past none_of) in
      let pass = pass_on edition pool rows i 0x04 (pass_represents edition) inside led laid in
      let row = tried_same l (representations (outer parameters)) 0 pool rows i (kind_same k 0 l (representations (outer parameters)) (cells_at pool rows i) same ahead) m p after t tried in
      found_advance edition pool rows i before at s after (advance_then small pass at_parameters after s (needed_is edition pool rows i (state parameter_representation 0 false) (parameter_representation_lem edition) m p t after row q)) (needed_beyond i t q) e
