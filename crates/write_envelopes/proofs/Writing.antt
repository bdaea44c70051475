-- The pass that writes, envelope by envelope: what the check saw holds at every envelope, and the bytes so far are the front of all.
use Prim.Native.Nat.{ℕ, ◌+◌, ◌-◌, ◌≤◌, ◌<◌}
use mathlib.Core.List.{List, [], ◌∷◌, ◌++◌, append_assoc, append-nil}
use mathlib.Core.Bool.{Bool, true, false}
use mathlib.Core.Path.{◌≡◌, refl, ap, sym, ◌∙◌, subst}
use native.Mathlib.Omega.{arith}
use lib.ListN.{length, take, drop, get_or, length-append, length-drop}
use lib.Seq.{take_at, drop_at, drop-drop, get_or-drop}
use Rattle.meaning.specs.Writing.{Cell, Envelope, Plan, whole_plan, envelope_size, wrap, header_of, fine}
use Rattle.meaning.specs.Memory.{laid_over}
use Rattle.laws_steps.specs.Envelopes.{wrap_length}
use Rattle.laws_steps.specs.Rows.{cells_at}
use Rattle.meaning.specs.Told.{Edition}
use Rattle.meaning.specs.Headers.{envelope_most, envelopes_most}
use Rattle.write_rows.specs.Bodies.{halt, body}
use Rattle.write_inside.specs.Insides.{open_base}
use Rattle.write_envelopes.specs.Whole.{verdict, bytes_of_plan, insides, insides_of, Begins, Writable, EnvelopeWritten}
use Rattle.write_inside.specs.declared.body.Inside.{Inside}
use Rattle.write_rows.specs.declared.advance.Misfit.{Misfit}
use Rattle.std.specs.Prelude.{Option, None, Some, Result}
use Rattle.write_rows.specs.Laying.{capped_most}
use Rattle.write_envelopes.proofs.Wholes.{whole_edge, small_count}
use Rattle.write_envelopes.proofs.Checking.{rest, here, Ends}
use Rattle.write_envelopes.proofs.Passing.{Passing, needs_most, passing_none, passing_stuck, passing_body, passing_on, passing_fine, passing_extension, passing_base, passing_first}

-- where the writing stands: before row i and the k-th length, with the bytes so far in front of the output
pub record WritingAt (edition : Edition) (pool rows lengths before : List ℕ) (u i k at : ℕ) (output : List ℕ) : Type 0 where
  may_come : ℕ
  pub bytes : List ℕ
  pub passes : Passing edition pool rows i may_come at u
  pub noted : Begins (insides_of (rest edition pool rows i)) (drop k lengths)
  pub count : length bytes ≡ at
  pub all : bytes ++ bytes_of_plan (rest edition pool rows i) ≡ bytes_of_plan (whole_plan edition (cells_at pool rows 0))
  pub memory : output ≡ bytes ++ drop at before

module _ (edition : Edition) (pool rows lengths before : List ℕ) (w : Writable edition rows pool lengths before) where
  pub writing_starts : WritingAt edition pool rows lengths before w.bytes_needed 0 0 0 before
  writing_starts =
      let q = whole_edge edition (cells_at pool rows 0) in
      record {
        may_come = envelopes_most;
        bytes = [];
        passes = record { is = ap (verdict envelopes_most 0 fine) (sym q) ∙ w.passed };
        noted = subst (λ (p : Plan). Begins (insides_of p) lengths) q w.noted;
        count = refl;
        all = ap bytes_of_plan (sym q);
        memory = refl;
      }

  pub writing_length : {i k at : ℕ} {output : List ℕ} → WritingAt edition pool rows lengths before w.bytes_needed i k at output → length output ≡ length before
  writing_length {i} {k} {at} a =
      let h = needs_most a.may_come at w.bytes_needed (rest edition pool rows i) a.passes.is in
      ap length a.memory ∙ length-append a.bytes (drop at before) ∙ omega (arith, a.count, w.room, length-drop at before)

  module _ {i k at : ℕ} {output : List ℕ} (a : WritingAt edition pool rows lengths before w.bytes_needed i k at output) where
    pub writing_none : {A : Type 0} → None ≡ open_base (cells_at pool rows i) → A
    writing_none q = passing_none a.passes q

    module _ {base : Bool} (q : Some base ≡ open_base (cells_at pool rows i)) where
      pub writing_stuck : {A : Type 0} {j : ℕ} → here edition pool rows i q ≡ halt j → A
      writing_stuck e = passing_stuck a.passes q e

      -- the length noted is the inside's
      noted_first : (bytes : List ℕ) (row : ℕ) (cells : List Cell) → here edition pool rows i q ≡ body bytes row cells → (k < length lengths) × (get_or lengths k 0 ≡ length bytes)
      noted_first bytes row cells z =
          let (vs, f) = passing_first a.passes q z in
          let (behind, g) = a.noted in
          let d : drop k lengths ≡ length bytes ∷ (insides vs ++ behind) = g ∙ ap (λ (x : List Envelope). insides x ++ behind) f in
          let l : length (drop k lengths) ≡ 1 + length (insides vs ++ behind) = ap length d ∙ omega arith in
          let e : k + 0 ≡ k = omega arith in
          (omega (arith, l, length-drop k lengths), ap (λ (x : ℕ). get_or lengths x 0) (sym e) ∙ sym (get_or-drop k lengths 0 0) ∙ ap (λ (x : List ℕ). get_or x 0 0) d)

      abbrev many : ℕ
      many = get_or lengths k 0

      pub writing_noted : (k < length lengths) × (at + envelope_size many ≤ length before) × (many ≤ envelope_most)
      writing_noted =
          let (bytes, row, cells, z) = passing_body a.passes q in
          let (l, m) = noted_first bytes row cells z in
          let f = passing_fine a.passes q z in (
            l,
            subst (λ (x : ℕ). at + envelope_size x ≤ length before) (sym m) (omega (arith, f.1, w.room)),
            omega (arith, m, small_count a.may_come i (length bytes) f.0, capped_most (length bytes)),
          )

      module _ {row counted : ℕ} (z : Ends (here edition pool rows i q) pool rows row counted) {after : List ℕ} {r : Result Inside Misfit} (x : EnvelopeWritten (here edition pool rows i q) pool rows base many output at after r) where
        abbrev within : List ℕ
        within = z.0

        abbrev end : ℕ
        end = at + envelope_size many

        exact : length within ≡ many
        exact = sym (noted_first within row (cells_at pool rows row) z.1).1

        front_length : length (a.bytes ++ wrap base within) ≡ end
        front_length =
            length-append a.bytes (wrap base within) ∙ ap (λ (k : ℕ). length a.bytes + k) (wrap_length base within ∙ ap envelope_size exact)
            ∙ ap (λ (k : ℕ). k + envelope_size many) a.count

        drop_back : drop end output ≡ drop end before
        drop_back =
            let d : drop at output ≡ drop at before = ap (drop at) a.memory ∙ drop_at a.bytes (drop at before) at a.count in
            sym (drop-drop (envelope_size many) at output) ∙ ap (drop (envelope_size many)) d ∙ drop-drop (envelope_size many) at before

        after_is : after ≡ (a.bytes ++ wrap base within) ++ drop end before
        after_is =
            x.laid within row (cells_at pool rows row) z.1 exact
            ∙ ap (λ (y : List ℕ). y ++ (wrap base within ++ drop end output)) (ap (take at) a.memory ∙ take_at a.bytes (drop at before) at a.count)
            ∙ ap (λ (y : List ℕ). a.bytes ++ (wrap base within ++ y)) drop_back ∙ sym (append_assoc a.bytes (wrap base within) (drop end before))

        goes_on : base ≡ false → WritingAt edition pool rows lengths before w.bytes_needed row (k + 1) end after
        goes_on two =
            let e = two in
            let first = passing_extension a.passes q z.1 e in
            let (behind, g) = a.noted in
            let ended : at + envelope_size (length within) ≡ end = ap (λ (k : ℕ). at + envelope_size k) exact in
            let d : drop k lengths ≡ length within ∷ (insides_of (rest edition pool rows row) ++ behind) = g ∙ ap (λ (x : List Envelope). insides x ++ behind) first in
            record {
              may_come = a.may_come - 1;
              bytes = a.bytes ++ wrap base within;
              passes = record { is = ap (λ (k : ℕ). verdict (a.may_come - 1) k fine (rest edition pool rows row)) (sym ended) ∙ passing_on a.passes q z.1 e };
              noted = (behind, sym (drop-drop 1 k lengths) ∙ ap (drop 1) d);
              count = front_length;
              all =
                  append_assoc a.bytes (wrap base within) (bytes_of_plan (rest edition pool rows row))
                  ∙ ap (λ (b : Bool). a.bytes ++ (wrap b within ++ bytes_of_plan (rest edition pool rows row))) e
                  ∙ ap (λ (x : List Envelope). a.bytes ++ header_of x) (sym first) ∙ a.all;
              memory = after_is;
            }

        pub writing_on : {size : ℕ} → size ≡ envelope_size many → base ≡ false → WritingAt edition pool rows lengths before w.bytes_needed row (k + 1) (at + size) after
        writing_on s two = subst (λ (x : ℕ). WritingAt edition pool rows lengths before w.bytes_needed row (k + 1) (at + x) after) (sym s) (goes_on two)

        pub writing_ends : base ≡ true → after ≡ laid_over before (bytes_of_plan (whole_plan edition (cells_at pool rows 0)))
        unfolding laid_over
        writing_ends two =
            let e = two in
            let all : a.bytes ++ wrap base within ≡ bytes_of_plan (whole_plan edition (cells_at pool rows 0))
            = ap (λ (b : Bool). a.bytes ++ wrap b within) e ∙ ap (λ (y : List ℕ). a.bytes ++ y) (sym (append-nil (wrap true within)))
            ∙ ap (λ (x : List Envelope). a.bytes ++ header_of x) (sym (passing_base a.passes q z.1 e)) ∙ a.all in
            after_is ∙ ap (λ (k : ℕ). (a.bytes ++ wrap base within) ++ drop k before) (sym front_length) ∙ ap (λ (y : List ℕ). y ++ drop (length y) before) all

  -- an envelope is left for as many lengths as there are
  pub writing_over : {i k at : ℕ} {output : List ℕ} {A : Type 0} → WritingAt edition pool rows lengths before w.bytes_needed i k at output → length lengths ≤ k → A
  writing_over {i} {k} {A = A} a h = by (open_base (cells_at pool rows i)) refl
    where
      by : (o : Option Bool) → o ≡ open_base (cells_at pool rows i) → A
      by None q = writing_none a q
      by (Some base) q = let n = (writing_noted a q).0 in absurd (omega arith)
