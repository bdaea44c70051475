-- What a refusal of a whole reading says (`ReaderRefusal`), both ways; and that the first fault decides, of inputs.
use Rattle.std.specs.Prelude.{ℕ, ◌+◌, ◌≤◌, ◌<◌, List, [], ◌++◌, Bool, true, false, ◌⊎◌, ◌↔◌, ◌≡◌, refl, T, eqb, leb, length}
use Rattle.std.proofs.Common.{append_assoc, inl, inr, ap, sym, ◌∙◌, subst, arith, length-append, eqb-true, leb-false}
use Rattle.std.proofs.lemmas.Bool.{eqb-false, lt-leb}
use Rattle.meaning.specs.Basics.{pick}
use Rattle.meaning.specs.Told.{Edition, Label, known, unknown, label_of, strict, told}
use Rattle.meaning.specs.Headers.{Placed, Answer, refused, accepted, envelopes_most, header, labelled, read_by, read}
use Rattle.meaning.specs.Memory.{Reply, reply, read_reply}
use Rattle.laws_steps.specs.Logic.{are_bytes, bytes_front}
use Rattle.laws_tables.specs.Refusals.{refused_shape}
use Rattle.laws_tables.specs.Ties.{read_as, from_zero}
use Rattle.meaning.specs.Grammar.{HeaderOf}
use Rattle.laws_demands.specs.Exactly.{header_accepted, accepted_header}
use Rattle.meaning.specs.Faults.{BadHeader, ReaderRefusal, no_edition, faulty, no_room}
use Rattle.laws_demands.specs.FaultyHeaders.{header_refuses, refused_header}
use Rattle.laws_demands.specs.Decisive.{decided_by}
use Rattle.laws_demands.specs.FirstFault.{header_decided, two_at_end}

-- a refusal of the definition is no edition's, or a fault of the input
abbrev Known : ℕ → List ℕ → ℕ → ℕ → Type 0
Known edition input refusal place = (e : Edition) × (label_of edition ≡ known e) × (header envelopes_most (told e) 0 input ≡ refused refusal place)

refused_known : (edition : ℕ) (input : List ℕ) (refusal place : ℕ) → read edition input ≡ refused refusal place → ((label_of edition ≡ unknown) × (refusal ≡ 1) × (place ≡ 0)) ⊎ Known edition input refusal place
unfolding read_by
refused_known edition input refusal place q = at (label_of edition) refl q
  where
    at : (l : Label) → label_of edition ≡ l → labelled strict input l ≡ refused refusal place → ((label_of edition ≡ unknown) × (refusal ≡ 1) × (place ≡ 0)) ⊎ Known edition input refusal place
    at unknown k r = inl (k, sym (cc r), sym (cc r))
    at (known e) k r = inr (e, k, r)

read_unknown : (edition : ℕ) (input : List ℕ) → label_of edition ≡ unknown → read edition input ≡ refused 1 0
unfolding read_by
read_unknown edition input k = ap (labelled strict input) k

as_said : {edition : ℕ} {input : List ℕ} {room r r' p p' n n' : ℕ} → r' ≡ r → p' ≡ p → n' ≡ n → ReaderRefusal edition input room r p n → ReaderRefusal edition input room r' p' n'
as_said {edition} {input} {room} {r' = r'} {p = p} {p' = p'} {n = n} a b c h =
    subst (ReaderRefusal edition input room r' p') (sym c) (subst (λ (x : ℕ). ReaderRefusal edition input room r' x n) (sym b) (subst (λ (x : ℕ). ReaderRefusal edition input room x p n) (sym a) h))

-- What a refusal says, both ways

refusal_given : (edition : ℕ) (input : List ℕ) (room : ℕ) {refusal place count : ℕ} → ReaderRefusal edition input room refusal place count → read_reply room (read edition input) ≡ reply refusal place count
refusal_given edition input room (no_edition k) = ap (read_reply room) (read_unknown edition input k)
refusal_given edition input room (faulty {e = e} k h) = ap (read_reply room) (read_as strict edition e input k ∙ header_refuses e h)
refusal_given edition input room (no_room {place = p} {rows = rows} h l) = ap (read_reply room) (header_accepted edition input p rows h) ∙ rw (lt-leb (length rows) room l) refl

refusal_said : (edition : ℕ) (input : List ℕ) (room refusal place count : ℕ) → T (are_bytes input) → 1 ≤ refusal → (a : Answer) → read edition input ≡ a → read_reply room a ≡ reply refusal place count → ReaderRefusal edition input room refusal place count
refusal_said edition input room refusal place count t some (refused r p) q s = by (refused_known edition input r p q)
  where
    by : ((label_of edition ≡ unknown) × (r ≡ 1) × (p ≡ 0)) ⊎ Known edition input r p → ReaderRefusal edition input room refusal place count
    by (inl (k, one, zero)) = as_said (sym (ap (λ (x : Reply). x.answer) s) ∙ one) (sym (ap (λ (x : Reply). x.place) s) ∙ zero) (sym (ap (λ (x : Reply). x.rows) s)) (no_edition k)
    by (inr (e, k, h)) = as_said (sym (ap (λ (x : Reply). x.answer) s)) (sym (ap (λ (x : Reply). x.place) s)) (sym (ap (λ (x : Reply). x.rows) s)) (faulty k (refused_header e envelopes_most 0 input r p t h))
refusal_said edition input room refusal place count t some (accepted p rows) q s = by (leb (length rows) room) refl s
  where
    by : (b : Bool) → leb (length rows) room ≡ b → reply (pick b 0 14) p (length rows) ≡ reply refusal place count → ReaderRefusal edition input room refusal place count
    by true l r = let zero : 0 ≡ refusal = ap (λ (x : Reply). x.answer) r in absurd (omega arith)
    by false l r = as_said (sym (ap (λ (x : Reply). x.answer) r)) (sym (ap (λ (x : Reply). x.place) r)) (sym (ap (λ (x : Reply). x.rows) r)) (no_room (accepted_header edition input p rows t q) (leb-false (length rows) room l))

pub refuses_as_said : (edition : ℕ) (input : List ℕ) (room refusal place count : ℕ) → T (are_bytes input) → 1 ≤ refusal → (read_reply room (read edition input) ≡ reply refusal place count) ↔ ReaderRefusal edition input room refusal place count
refuses_as_said edition input room refusal place count t some = (refusal_said edition input room refusal place count t some (read edition input) refl, λ h. refusal_given edition input room h)

-- The first fault decides

pub record Decided (edition : ℕ) (input : List ℕ) (refusal place : ℕ) : Type 0 where
  -- the bytes that decide, and those behind them
  pub front : List ℕ
  pub back : List ℕ
  pub parts : input ≡ front ++ back
  pub near : length front ≤ place + decided_by refusal
  -- with others behind: the same answer, but that an input which is shorter may end before the declared end
  pub others : (other : List ℕ) → (read edition (front ++ other) ≡ refused refusal place) ⊎ ((length other < length back) × (read edition (front ++ other) ≡ refused 2 (length (front ++ other))))

pub fault_decides : (edition : ℕ) (input : List ℕ) (refusal place : ℕ) → T (are_bytes input) → read edition input ≡ refused refusal place → (refusal ≡ 2 → ⊥) → Decided edition input refusal place
fault_decides edition input refusal place t q two = by (refused_known edition input refusal place q)
  where
    as_read : (e : Edition) → label_of edition ≡ known e → (s : List ℕ) (few : Type 0) → BadHeader e envelopes_most 0 s refusal place ⊎ (few × BadHeader e envelopes_most 0 s 2 (0 + length s)) → (read edition s ≡ refused refusal place) ⊎ (few × (read edition s ≡ refused 2 (length s)))
    as_read e k s few (inl h) = inl (read_as strict edition e s k ∙ header_refuses e h)
    as_read e k s few (inr (l, h)) = inr (l, read_as strict edition e s k ∙ header_refuses e h ∙ ap (refused 2) (from_zero (length s)))

    by : ((label_of edition ≡ unknown) × (refusal ≡ 1) × (place ≡ 0)) ⊎ Known edition input refusal place → Decided edition input refusal place
    by (inl (k, one, zero)) =
        record { front = []; back = input; parts = refl; near = omega arith; others = λ other. inl (read_unknown edition other k ∙ ap (λ (x : ℕ). refused x 0) (sym one) ∙ ap (refused refusal) (sym zero)) }
    by (inr (e, k, h)) =
        let d = header_decided e (refused_header e envelopes_most 0 input refusal place t h) two in
        record { front = d.front; back = d.back; parts = d.parts; near = omega (arith, d.near); others = λ other. as_read e k (d.front ++ other) (length other < length d.back) (d.others other) }

-- the place of an answer
abbrev pub place_of : Answer → ℕ
place_of (refused refusal place) = place
place_of (accepted place rows) = place

-- a header stays one, whatever comes behind it
header_stays : (edition : ℕ) (input : List ℕ) (place : ℕ) (rows : List Placed) → HeaderOf edition input place rows → (more : List ℕ) → HeaderOf edition (input ++ more) place rows
header_stays edition input place rows h more =
    record { e = h.e; label = h.label; bytes = h.bytes; payload = h.payload ++ more; parts = ap (λ (x : List ℕ). x ++ more) h.parts ∙ append_assoc h.bytes h.payload more; ends = h.ends; table = h.table }

pub cut_is_two : (edition : ℕ) (front back : List ℕ) → T (are_bytes (front ++ back)) → length front < place_of (read edition (front ++ back)) → read edition front ≡ refused 2 (length front)
cut_is_two edition front back t short = by (read edition front) refl
  where
    bytes : T (are_bytes front)
    bytes = bytes_front front back t

    -- 2 at its end
    at_end : (refusal place : ℕ) → read edition front ≡ refused refusal place → refusal ≡ 2 → ((label_of edition ≡ unknown) × (refusal ≡ 1) × (place ≡ 0)) ⊎ Known edition front refusal place → read edition front ≡ refused 2 (length front)
    at_end refusal place q two (inl (k, one, zero)) = absurd (omega arith)
    at_end refusal place q two (inr (e, k, h)) = q ∙ ap (λ (x : ℕ). refused x place) two ∙ ap (refused 2) (two_at_end e (refused_header e envelopes_most 0 front refusal place bytes h) two ∙ from_zero (length front))

    -- another refusal would be the whole input's
    stands : (refusal place : ℕ) → place ≤ length front → (d : Decided edition front refusal place)
        → (read edition (d.front ++ (d.back ++ back)) ≡ refused refusal place) ⊎ ((length (d.back ++ back) < length d.back) × (read edition (d.front ++ (d.back ++ back)) ≡ refused 2 (length (d.front ++ (d.back ++ back))))) → ⊥
    stands refusal place h d (inl q) =
        let whole : front ++ back ≡ d.front ++ (d.back ++ back) = ap (λ (x : List ℕ). x ++ back) d.parts ∙ append_assoc d.front d.back back in
        let there : place_of (read edition (front ++ back)) ≡ place = ap place_of (ap (read edition) whole ∙ q) in
        omega (arith, short, there)
    stands refusal place h d (inr (l, q)) = omega (arith, l, length-append d.back back)

    within : (refusal place : ℕ) → ((label_of edition ≡ unknown) × (refusal ≡ 1) × (place ≡ 0)) ⊎ Known edition front refusal place → place ≤ length front
    within refusal place (inl (k, one, zero)) = omega arith
    within refusal place (inr (e, k, h)) = (refused_shape envelopes_most (told e) front refusal place h).1

    by_number : (refusal place : ℕ) → read edition front ≡ refused refusal place → (z : Bool) → eqb refusal 2 ≡ z → read edition front ≡ refused 2 (length front)
    by_number refusal place q true z = at_end refusal place q (eqb-true refusal 2 z) (refused_known edition front refusal place q)
    by_number refusal place q false z =
        let d = fault_decides edition front refusal place bytes q (eqb-false refusal 2 z) in
        absurd (stands refusal place (within refusal place (refused_known edition front refusal place q)) d (d.others (d.back ++ back)))

    by : (a : Answer) → read edition front ≡ a → read edition front ≡ refused 2 (length front)
    by (accepted place rows) q =
        let h = accepted_header edition front place rows bytes q in
        let all : read edition (front ++ back) ≡ accepted place rows = header_accepted edition (front ++ back) place rows (header_stays edition front place rows h back) in
        let there : place_of (read edition (front ++ back)) ≡ place = ap place_of all in
        absurd (omega (arith, short, there, h.ends, ap length h.parts, length-append h.bytes h.payload))
    by (refused refusal place) q = by_number refusal place q (eqb refusal 2) refl
