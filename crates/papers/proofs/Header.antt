-- A header of the papers, and envelopes by the reader's moves: the same bytes and rows, both ways.
use Rattle.std.specs.Prelude.{ℕ, suc, ◌+◌, ◌≤◌, List, [], ◌∷◌, ◌++◌, true, false, ◌≡◌, refl, length}
use Rattle.std.proofs.Common.{append_assoc, append-nil, ap, ap₂, sym, ◌∙◌, subst, subst₂, arith, length-append}
use Rattle.std.proofs.lemmas.Bool.{false≢true}
use Rattle.meaning.specs.Told.{Told}
use Rattle.meaning.specs.Kinds.{extension_opens, base_opens}
use Rattle.meaning.specs.Editions.{State, state, closed, parameters}
use Rattle.meaning.specs.Reading.{is_closed}
use Rattle.meaning.specs.Headers.{Placed, placed_row, envelope_most}
use Rattle.meaning.specs.Writing.{envelope_size, wrap}
use Rattle.meaning.specs.Grammar.{head_size}
use Rattle.laws_steps.specs.Envelopes.{wrap_length}
use Rattle.papers.specs.Notation.{Trees, end, tree, ◌⊕◌, flat, Syntax, ◌⨾◌, ◌then◌, many, up_to, byte}
use Rattle.papers.specs.Papers.{ACLRepresentation, Date, ReceivedObject, Parameter, BaseEnvelope, ExtEnvelope, Header}
use Rattle.papers.proofs.Walks.{flat_⊕}
use Rattle.papers.proofs.Walked.{base_walks, extension_walks}
use Rattle.papers.proofs.Pieces.{⊕_assoc}
use Rattle.papers.proofs.Chains.{rest, follow, Chain, over, link, begins, representation}
use Rattle.papers.proofs.Chained.{chained}
use Rattle.papers.specs.Envelopes.{Inside, Envelopes, the_base, extension}
use Rattle.papers.proofs.Headed.{to_right, to_left, opened}
use Rattle.papers.proofs.Headed

module _ (t : Told) where
  -- what the envelopes hold
  abbrev Parameters : Syntax
  Parameters = many (Parameter t) ⨾ byte 0x01

  abbrev Base : Syntax
  Base = ACLRepresentation t ⨾ (Date t 0 ⨾ Parameters)

  abbrev Extension : Syntax
  Extension = ReceivedObject t ⨾ Parameters

  -- (1) from the papers' rules to moves

  base_in : (n at : ℕ) (a : List ℕ) (ts : Trees) → BaseEnvelope t at a ts → Envelopes t n at a (flat ts)
  base_in n at a ts x =
      let o = opened base_opens 0xfe (ACLRepresentation t ⨾ Date t 0) Parameters at a ts x in
      let place = at + head_size (length o.body) in
      let inside : Inside t true place o.body (flat o.held) = record { last = state closed 0 false; steps = base_walks t place o.body o.held (to_right place o.body o.held o.inside); closes = refl } in
      subst₂ (λ (l : List ℕ) (us : Trees). Envelopes t n at l (flat us)) (sym o.is) (sym o.trees) (subst (λ (rows : List Placed). Envelopes t n at (wrap true o.body) (placed_row base_opens 0 at [] ∷ rows)) (sym (append-nil (flat o.held))) (the_base o.fits inside))

  extension_in : (n at : ℕ) (a c : List ℕ) (ts us : Trees) → ExtEnvelope t at a ts → Envelopes t n (at + length a) c (flat us) → Envelopes t (suc n) at (a ++ c) (flat (ts ⊕ us))
  extension_in n at a c ts us x more =
      let o = opened extension_opens 0xfd (ReceivedObject t) Parameters at a ts x in
      let place = at + head_size (length o.body) in
      let inside : Inside t false place o.body (flat o.held) = record { last = state closed 0 false; steps = extension_walks t place o.body o.held o.inside; closes = refl } in
      let long : length a ≡ envelope_size (length o.body) = ap length o.is ∙ wrap_length false o.body in
      let more' : Envelopes t n (at + envelope_size (length o.body)) c (flat us) = subst (λ (k : ℕ). Envelopes t n k c (flat us)) (omega (arith, long)) more in
      subst₂ (λ (l : List ℕ) (vs : Trees). Envelopes t (suc n) at (l ++ c) (flat (vs ⊕ us))) (sym o.is) (sym o.trees) (extension o.fits inside more')

  pub header_in : (n at : ℕ) (a b : List ℕ) (ts us : Trees) → up_to (ExtEnvelope t) n at a ts → BaseEnvelope t (at + length a) b us → Envelopes t n at (a ++ b) (flat (ts ⊕ us))
  header_in _ _ _ b _ us (up_to.none {n} {at}) z = base_in n at b us (subst (λ (x : ℕ). BaseEnvelope t x b us) (omega arith) z)
  header_in _ _ _ c _ vs (up_to.more {n} {at} {a} {b} {ts} {us} x y) z =
      let z' : BaseEnvelope t (at + length a + length b) c vs = subst (λ (w : ℕ). BaseEnvelope t w c vs) (omega (arith, length-append a b)) z in
      let h = extension_in n at a (b ++ c) ts (us ⊕ vs) x (header_in n (at + length a) b c us vs y z') in
      subst₂ (λ (l : List ℕ) (us : Trees). Envelopes t (suc n) at l (flat us)) (sym (append_assoc a b c)) (sym (⊕_assoc ts us vs)) h

  pub papers_in : (at : ℕ) (a : List ℕ) (ts : Trees) → Header t at a ts → Envelopes t 15 at a (flat ts)
  papers_in _ _ _ (◌then◌ {at} {a} {b} {ts} {us} x y) = header_in 15 at a b ts us x y

  -- (2) and back: bytes and rows that have a tree of the rule

  abbrev pub Treed : Syntax → ℕ → List ℕ → List Placed → Type 0
  Treed P at a rows = (ts : Trees) × P at a ts × (flat ts ≡ rows)

  -- the first piece of a chain, and all that follows
  first_piece : {P Q : Syntax} {st : State} {at : ℕ} {a : List ℕ} {rows : List Placed} → is_closed st.room ≡ false → ((at : ℕ) (a : List ℕ) (ts : Trees) → rest t st at a ts → P at a ts)
      → ((at : ℕ) (a : List ℕ) (rows : List Placed) → Chain t (follow st) at a rows → Treed Q at a rows) → Chain t st at a rows → Treed (P ⨾ Q) at a rows
  first_piece ajar p q (over h) = absurd (false≢true (sym ajar ∙ h))
  first_piece {P} {Q} ajar p q (link {at} {b} {rows} a ts x c) = joined (q (at + length a) b rows c)
    where
      joined : Treed Q (at + length a) b rows → Treed (P ⨾ Q) at (a ++ b) (flat ts ++ rows)
      joined (us, y, same) = (ts ⊕ us, p at a ts x then y, flat_⊕ ts us ∙ ap (λ (l : List Placed). flat ts ++ l) same)

  last_piece : {P : Syntax} {st : State} {at : ℕ} {a : List ℕ} {rows : List Placed} → is_closed st.room ≡ false → follow st ≡ state closed 0 false → ((at : ℕ) (a : List ℕ) (ts : Trees) → rest t st at a ts → P at a ts)
      → Chain t st at a rows → Treed P at a rows
  last_piece ajar ends p (over h) = absurd (false≢true (sym ajar ∙ h))
  last_piece {P} ajar ends p (link {at} {b} {rows} a ts x c) = nothing_more (subst (λ (s : State). Chain t s (at + length a) b rows) ends c)
    where
      nothing_more : {b : List ℕ} {rows : List Placed} {at' : ℕ} → Chain t (state closed 0 false) at' b rows → Treed P at (a ++ b) (flat ts ++ rows)
      nothing_more (over h) = (ts, subst (λ (l : List ℕ). P at l ts) (sym (append-nil a)) (p at a ts x), sym (append-nil (flat ts)))
      nothing_more (link a ts y c) = absurd y

  parameters_out : (at : ℕ) (a : List ℕ) (rows : List Placed) → Chain t (state parameters 0 false) at a rows → Treed Parameters at a rows
  parameters_out at a rows c = last_piece refl refl (λ at a ts x. x) c

  base_out : (at : ℕ) (a : List ℕ) (rows : List Placed) → Inside t true at a rows → Treed Base at a rows
  base_out at a rows i = first_piece refl (λ at a ts x. x) (λ at a rows c. first_piece refl (λ at a ts x. x) parameters_out c) (chained t representation i.closes i.steps)

  extension_out : (at : ℕ) (a : List ℕ) (rows : List Placed) → Inside t false at a rows → Treed Extension at a rows
  extension_out at a rows i = first_piece refl (λ at a ts x. x) parameters_out (chained t begins i.closes i.steps)

  -- an envelope from what it holds
  base_closed : (at : ℕ) (bytes : List ℕ) (rows : List Placed) → envelope_size (length bytes) ≤ envelope_most → Inside t true (at + head_size (length bytes)) bytes rows → Treed (BaseEnvelope t) at (wrap true bytes) (placed_row base_opens 0 at [] ∷ rows)
  base_closed at bytes rows fits i =
      let place = at + head_size (length bytes) in
      let (ts, x, same) = base_out place bytes rows i in
      (tree base_opens 0 at [] ts end, Headed.closed base_opens 0xfe (ACLRepresentation t ⨾ Date t 0) Parameters at bytes ts fits (to_left place bytes ts x), ap (λ (l : List Placed). placed_row base_opens 0 at [] ∷ l) (append-nil (flat ts) ∙ same))

  extension_closed : (at : ℕ) (bytes : List ℕ) (rows : List Placed) → envelope_size (length bytes) ≤ envelope_most → Inside t false (at + head_size (length bytes)) bytes rows → Treed (ExtEnvelope t) at (wrap false bytes) (placed_row extension_opens 0 at [] ∷ rows)
  extension_closed at bytes rows fits i =
      let place = at + head_size (length bytes) in
      let (ts, x, same) = extension_out place bytes rows i in
      (tree extension_opens 0 at [] ts end, Headed.closed extension_opens 0xfd (ReceivedObject t) Parameters at bytes ts fits x, ap (λ (l : List Placed). placed_row extension_opens 0 at [] ∷ l) (append-nil (flat ts) ∙ same))

  -- envelopes, one before another
  abbrev pub Headers : ℕ → Syntax
  Headers n = up_to (ExtEnvelope t) n ⨾ BaseEnvelope t

  one_up : {at : ℕ} (n at' : ℕ) (a c : List ℕ) (ts vs : Trees) → ExtEnvelope t at a ts → at + length a ≡ at' → Headers n at' c vs → Headers (suc n) at (a ++ c) (ts ⊕ vs)
  one_up {at} n _ a _ ts _ x q (◌then◌ {at = at'} {a = c} {b = d} {ts = us} {us = vs} ys z) =
      let ys' : up_to (ExtEnvelope t) n (at + length a) c us = subst (λ (k : ℕ). up_to (ExtEnvelope t) n k c us) (sym q) ys in
      let z' : BaseEnvelope t (at + length (a ++ c)) d vs = subst (λ (k : ℕ). BaseEnvelope t k d vs) (omega (arith, length-append a c, q)) z in
      let w : Headers (suc n) at ((a ++ c) ++ d) ((ts ⊕ us) ⊕ vs) = up_to.more x ys' then z' in
      subst₂ (λ (l : List ℕ) (ws : Trees). Headers (suc n) at l ws) (append_assoc a c d) (⊕_assoc ts us vs) w

  pub header_out : {n at : ℕ} {a : List ℕ} {rows : List Placed} → Envelopes t n at a rows → Treed (Headers n) at a rows
  header_out (the_base {n} {at} {bytes} {rows} fits i) =
      let (ts, x, same) = base_closed at bytes rows fits i in
      let x' : BaseEnvelope t (at + 0) (wrap true bytes) ts = subst (λ (k : ℕ). BaseEnvelope t k (wrap true bytes) ts) (omega arith) x in
      (ts, up_to.none then x', same)
  header_out (extension {n} {at} {bytes} {more} {rows} {table} fits i h) =
      let (ts, x, same) = extension_closed at bytes rows fits i in
      let (us, y, same₂) = header_out h in
      (ts ⊕ us, one_up n (at + envelope_size (length bytes)) (wrap false bytes) more ts us x (omega (arith, wrap_length false bytes)) y, flat_⊕ ts us ∙ ap₂ (λ (l r : List Placed). l ++ r) same same₂)
