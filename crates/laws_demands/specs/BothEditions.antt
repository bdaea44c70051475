-- Order 9: "no bytes are allowed by both with different tables, tables meaning rows with starts included". Where both editions accept, the table is plain; and over a
-- plain table the two readers go the same steps.
use Rattle.std.specs.Prelude.{ℕ, zero, suc, ◌+◌, ◌≤◌, List, [], ◌∷◌, ◌++◌, map, Bool, true, false, ◌⊎◌, ◌≡◌, refl, T, length}
use Rattle.std.proofs.Common.{append_assoc, inl, inr, ap, sym, ◌∙◌, subst, arith, length-append}
use Rattle.meaning.specs.Told.{Edition, told}
use Rattle.meaning.specs.Editions.{State}
use Rattle.meaning.specs.Reading.{Row, Seen, done, with_rows, inside}
use Rattle.meaning.specs.Headers.{Placed, meant, refused, accepted, behind, envelopes_most, start, header}
use Rattle.meaning.specs.Writing.{fits, fit_row, envelope_size, within_limit, wrap}
use Rattle.laws_steps.specs.Logic.{are_bytes, both_hold}
use Rattle.laws_steps.specs.Steps.{inside_path, inside_over, step_over}
use Rattle.laws_steps.specs.WrittenRead.{seen_before, fit_all, then_inv, row_written_read, closing_read, Closes}
use Rattle.laws_steps.specs.PlainRows.{Crosses, other, is_plain, all_plain, row_crosses}
use Rattle.laws_steps.specs.Crossing.{closing_crosses}
use Rattle.laws_steps.specs.Envelopes.{Writes, the_base, before, wrap_length, rows_of, base_step, extension_step, plain_behind, plain_append, RefusesHeader, CrossHeader, header_crosses}
use Rattle.laws_tables.specs.Ties.{whole_of, whole_written}

bad : {A : Type 0} → false ≡ true → A
bad q = let z : ◌≡◌ {A = ℕ} 0 1 = cc q in absurd (omega arith)

-- the inside of an envelope
abbrev BothInside : Edition → State → List ℕ → Type 0
BothInside e st bs = (seens : List Seen) × (inside (told e) st bs ≡ done seens []) × (inside (told (other e)) st bs ≡ done seens [])

both_closed : (e : Edition) (st st' : State) (bs : List ℕ) → Closes (told e) st bs st' → Closes (told (other e)) st bs st' → BothInside e st bs
both_closed e st st' bs (h, p) (k, q) =
    ([], inside_path (told e) p ∙ ap (with_rows []) (inside_over (told e) st' [] (step_over (told e) st' h)), inside_path (told (other e)) q ∙ ap (with_rows []) (inside_over (told (other e)) st' [] (step_over (told (other e)) st' k)))

both_inside : (e : Edition) (rows : List Row) (st st' : State) (bs : List ℕ) → fit_all e rows st ≡ fits st' bs → all_plain rows ≡ true → BothInside e st bs
unfolding fit_all
both_inside e [] st st' bs q a = both_closed e st st' bs (closing_read (told e) st st' bs q) (closing_crosses e (other e) st st' bs q)
both_inside e (row ∷ rows) st st' bs q a =
    let (st₁, cs, ds, q₁, q₂, q₃) = then_inv (fit_row e st row) (fit_all e rows) st' bs q in
    let (p, r) = both_hold (is_plain row) (all_plain rows) a in
    rw q₃ (on st₁ cs ds (row_crosses e (other e) row st st₁ cs q₁ ds) q₁ p (both_inside e rows st₁ st' ds q₂ r))
  where
    on : (st₁ : State) (cs ds : List ℕ) → Crosses e (other e) row st (cs ++ ds) st₁ ds → fit_row e st row ≡ fits st₁ cs → is_plain row ≡ true → BothInside e st₁ ds → BothInside e st (cs ++ ds)
    on st₁ cs ds (inl (u, p)) q₁ v (seens, x, y) = (
      seen_before row ds ∷ seens,
      inside_path (told e) (row_written_read (told e) row st st₁ cs q₁ ds) ∙ ap (with_rows (seen_before row ds ∷ [])) x,
      inside_path (told (other e)) p ∙ ap (with_rows (seen_before row ds ∷ [])) y,
    )
    on st₁ cs ds (inr (u, f)) q₁ v b = bad (sym u ∙ v)

-- a whole header, with any payload behind it
abbrev BothHeader : ℕ → Edition → ℕ → List ℕ → Type 0
BothHeader k e at w = (rows : List Placed) × ((payload : List ℕ) → (header k (told e) at (w ++ payload) ≡ accepted (at + length w) rows) × (header k (told (other e)) at (w ++ payload) ≡ accepted (at + length w) rows))

both_base : (k : ℕ) (e : Edition) (at : ℕ) (bs : List ℕ) → within_limit (length bs) ≡ true → BothInside e (start true) bs → BothHeader (suc k) e at (wrap true bs)
both_base k e at bs hi (rs, x, y) = (rows_of true at (envelope_size (length bs)) rs, λ payload. (base_step k (told e) at bs payload rs hi x, base_step k (told (other e)) at bs payload rs hi y))

both_extension : (k : ℕ) (e : Edition) (at : ℕ) (bs w : List ℕ) → within_limit (length bs) ≡ true → BothInside e (start false) bs → ((x : ℕ) → BothHeader k e x w) → BothHeader (suc k) e at (wrap false bs ++ w)
both_extension k e at bs w hi (rs, x, y) ih =
    let n = envelope_size (length bs) in
    let (ts, f) = ih (at + n) in
    let p : at + n + length w ≡ at + length (wrap false bs ++ w) = omega (arith, length-append (wrap false bs) w, wrap_length false bs) in
    (rows_of false at n rs ++ ts, λ payload. (goes e x ts p payload (f payload).0, goes (other e) y ts p payload (f payload).1))
  where
    goes : (d : Edition) → inside (told d) (start false) bs ≡ done rs [] → (ts : List Placed) → at + envelope_size (length bs) + length w ≡ at + length (wrap false bs ++ w) → (payload : List ℕ)
        → header k (told d) (at + envelope_size (length bs)) (w ++ payload) ≡ accepted (at + envelope_size (length bs) + length w) ts
        → header (suc k) (told d) at ((wrap false bs ++ w) ++ payload) ≡ accepted (at + length (wrap false bs ++ w)) (rows_of false at (envelope_size (length bs)) rs ++ ts)
    goes d z ts p payload h =
        ap (header (suc k) (told d) at) (append_assoc (wrap false bs) w payload) ∙ extension_step k (told d) at bs (w ++ payload) rs hi z ∙ ap (behind (rows_of false at (envelope_size (length bs)) rs)) h
        ∙ ap (λ (x : ℕ). accepted x (rows_of false at (envelope_size (length bs)) rs ++ ts)) p

both_header : (e : Edition) {n : ℕ} {table : List Row} {w : List ℕ} → Writes e n table w → all_plain table ≡ true → (k : ℕ) → n ≤ k → (at : ℕ) → BothHeader k e at w
both_header e (the_base rows st bs q hi) a zero h at = absurd (omega arith)
both_header e (the_base rows st bs q hi) a (suc k) h at = both_base k e at bs hi (both_inside e rows (start true) st bs q (sym (plain_behind true rows) ∙ a))
both_header e (before rows table st bs w n q hi more) a zero h at = absurd (omega arith)
both_header e (before rows table st bs w n q hi more) a (suc k) h at =
    let (p, r) = both_hold (all_plain rows) (all_plain table) (sym (plain_append rows table) ∙ sym (plain_behind false (rows ++ table)) ∙ a) in
    both_extension k e at bs w hi (both_inside e rows (start false) st bs q p) (λ x. both_header e more r k (omega arith) x)

-- What one edition accepts, the other accepts as the same rows, starts included, if the table is plain; else it refuses with 7 or 9

abbrev pub OtherReads : Edition → List ℕ → ℕ → List Placed → Type 0
OtherReads e input place rows =
    ((all_plain (map meant rows) ≡ true) × (header envelopes_most (told (other e)) 0 input ≡ accepted place rows)) ⊎ ((all_plain (map meant rows) ≡ false) × RefusesHeader envelopes_most (told (other e)) 0 input)

pub other_reads : (e : Edition) (input : List ℕ) (place : ℕ) (rows : List Placed) → T (are_bytes input) → header envelopes_most (told e) 0 input ≡ accepted place rows → OtherReads e input place rows
other_reads e input place rows t a = at (all_plain (map meant rows)) refl
  where
    alike : all_plain (map meant rows) ≡ true → header envelopes_most (told (other e)) 0 input ≡ accepted place rows
    alike p =
        let w = whole_of (told e) input place rows t a in
        let (found, f) = both_header e (whole_written w) p envelopes_most w.few 0 in
        let both = f w.payload in
        ap (header envelopes_most (told (other e)) 0) w.parts ∙ both.1 ∙ sym both.0 ∙ ap (header envelopes_most (told e) 0) (sym w.parts) ∙ a

    lost : CrossHeader envelopes_most e 0 (whole_of (told e) input place rows t a).bytes (map meant rows) → all_plain (map meant rows) ≡ false → RefusesHeader envelopes_most (told (other e)) 0 input
    lost (inl (u, r)) p = bad (sym p ∙ u)
    lost (inr (u, f)) p =
        let w = whole_of (told e) input place rows t a in
        subst (RefusesHeader envelopes_most (told (other e)) 0) (sym w.parts) (f w.payload)

    at : (b : Bool) → all_plain (map meant rows) ≡ b → OtherReads e input place rows
    at true p = inl (p, alike p)
    at false p = let w = whole_of (told e) input place rows t a in inr (p, lost (header_crosses e (whole_written w) envelopes_most w.few 0) p)

-- "no bytes are allowed by both with different tables, tables meaning rows with starts included"
pub one_table : (e : Edition) (input : List ℕ) {place elsewhere : ℕ} {rows others : List Placed} → T (are_bytes input) → header envelopes_most (told e) 0 input ≡ accepted place rows → header envelopes_most (told (other e)) 0 input ≡ accepted elsewhere others
    → (all_plain (map meant rows) ≡ true) × (place ≡ elsewhere) × (rows ≡ others)
one_table e input {place} {elsewhere} {rows} {others} t a b = at (other_reads e input place rows t a)
  where
    at : OtherReads e input place rows → (all_plain (map meant rows) ≡ true) × (place ≡ elsewhere) × (rows ≡ others)
    at (inl (p, q)) =
        let same : accepted place rows ≡ accepted elsewhere others = sym q ∙ b in
        (p, cc same, cc same)
    at (inr (p, (refusal, x, r, z))) = let same : refused refusal x ≡ accepted elsewhere others = sym r ∙ b in let y : ◌≡◌ {A = ℕ} 0 1 = cc same in absurd (omega arith)
