-- The papers' grammar and the project's: for each edition the papers and `Grammar` of `meaning` allow the same bytes with the same rows, starts included; and the
-- reader, strict and tolerant, accepts exactly the papers' message envelopes.
use Rattle.std.specs.Prelude.{ℕ, List, ◌++◌, ◌↔◌, ◌≡◌, refl, T, length}
use Rattle.std.proofs.Common.{ap, sym, ◌∙◌, subst}
use Rattle.meaning.specs.Told.{Edition, known, label_of, Strictness, strict, told, told_by}
use Rattle.meaning.specs.Headers.{Placed, accepted, header, envelopes_most, read_by}
use Rattle.meaning.specs.Memory.{table_of}
use Rattle.meaning.specs.Grammar.{TableOf, HeaderOf}
use Rattle.laws_steps.specs.Logic.{are_bytes}
use Rattle.laws_tables.specs.Ties.{accepted_known, read_as, from_zero}
use Rattle.papers.specs.Notation.{Trees, end, tree, ◌⊕◌, flat, laid, ◌then◌}
use Rattle.papers.specs.Papers.{Header, MessageEnvelope, any}
use Rattle.papers.specs.Envelopes.{table_of_lem, of_table}
use Rattle.papers.proofs.Header.{papers_in, header_out}
use Rattle.papers.specs.Reads.{envelopes_read}
use Rattle.papers.specs.HeaderBack.{header_found}
use Rattle.papers.specs.HeaderBack
use Rattle.papers.proofs.Laid.{laid_flat}
use Rattle.papers.proofs.OneTree.{one_tree}

-- Strictly, for all bytes: a table of the edition is a header of the papers, with its rows in trees

pub same : (e : Edition) (bytes : List ℕ) (rows : List Placed) → TableOf e bytes rows ↔ ((ts : Trees) × Header (told e) 0 bytes ts × (flat ts ≡ rows))
same e bytes rows = (
  (λ t. header_out (told e) (of_table e t)),
  λ w. subst (λ (l : List Placed). TableOf e bytes l) w.2 (table_of_lem e (papers_in (told e) 0 bytes w.0 w.1)),
)

-- An input under an edition's number, read strictly or not: a header of that paper, and any payload behind it

pub record Message (strictness : Strictness) (edition : ℕ) (input : List ℕ) (place : ℕ) (trees : Trees) : Type 0 where
  pub e : Edition
  pub label : label_of edition ≡ known e
  pub bytes : List ℕ
  pub payload : List ℕ
  pub parts : input ≡ bytes ++ payload
  pub ends : place ≡ length bytes
  pub is : Header (told_by strictness e) 0 bytes trees

-- .. which is a MessageEnvelope of the papers, and every such envelope is one
nothing_after : (ts : Trees) → ts ⊕ end ≡ ts
nothing_after end = refl
nothing_after (tree k n s v inside beside) = ap (tree k n s v inside) (nothing_after beside)

pub message_envelope : {strictness : Strictness} {edition : ℕ} {input : List ℕ} {place : ℕ} {trees : Trees} (m : Message strictness edition input place trees) → MessageEnvelope (told_by strictness m.e) 0 input trees
message_envelope {strictness} {input = input} {trees = trees} m =
    let t = told_by strictness m.e in
    let x : MessageEnvelope t 0 (m.bytes ++ m.payload) (trees ⊕ end) = m.is then any in
    subst (λ (l : List ℕ). MessageEnvelope t 0 l trees) (sym m.parts) (subst (λ (us : Trees). MessageEnvelope t 0 (m.bytes ++ m.payload) us) (nothing_after trees) x)

pub envelope_message : (strictness : Strictness) (edition : ℕ) (e : Edition) (input : List ℕ) (trees : Trees) → label_of edition ≡ known e → MessageEnvelope (told_by strictness e) 0 input trees → (place : ℕ) × Message strictness edition input place trees
envelope_message strictness edition e _ _ label (◌then◌ {a = a} {b = b} {ts = ts} x any) =
    (length a, record { e = e; label = label; bytes = a; payload = b; parts = refl; ends = refl; is = subst (λ (us : Trees). Header (told_by strictness e) 0 a us) (sym (nothing_after ts)) x })

-- the reader accepts it, with the rows of its trees
pub message_read : {strictness : Strictness} {edition : ℕ} {input : List ℕ} {place : ℕ} {trees : Trees} → Message strictness edition input place trees → read_by strictness edition input ≡ accepted place (flat trees)
message_read {strictness} {edition} {input} {place} {trees} m =
    let t = told_by strictness m.e in
    read_as strictness edition m.e input m.label ∙ ap (header envelopes_most t 0) m.parts ∙ envelopes_read t (papers_in t 0 m.bytes trees m.is) m.payload
    ∙ ap (λ (x : ℕ). accepted x (flat trees)) (from_zero (length m.bytes) ∙ sym m.ends)

-- THE tie: the reader accepts exactly these, with the rows of their trees
pub accepts_messages : (strictness : Strictness) (edition : ℕ) (input : List ℕ) (place : ℕ) (rows : List Placed) → T (are_bytes input)
    → (read_by strictness edition input ≡ accepted place rows) ↔ ((trees : Trees) × Message strictness edition input place trees × (flat trees ≡ rows))
accepts_messages strictness edition input place rows u = (
  (λ q. found (accepted_known strictness edition input place rows q)),
  λ w. subst (λ (l : List Placed). read_by strictness edition input ≡ accepted place l) w.2 (message_read w.1),
)
  where
    found : (e : Edition) × (label_of edition ≡ known e) × (header envelopes_most (told_by strictness e) 0 input ≡ accepted place rows) → (trees : Trees) × Message strictness edition input place trees × (flat trees ≡ rows)
    found (e, label, q) =
        let t = told_by strictness e in
        let f : HeaderBack.Found 16 t 0 input place rows = subst (HeaderBack.Again 16 t 0 input) q (header_found 16 t 0 input u) in
        let (ts, x, same) = header_out t f.envelopes in
        (ts, record { e = e; label = label; bytes = f.bytes; payload = f.payload; parts = f.parts; ends = f.place ∙ from_zero (length f.bytes); is = x }, same)

-- for the strict reading it is what `Grammar` calls a header of the input, bytes or not; so what Faults and WriterFaults say over that is said over the papers
pub header_is_message : (edition : ℕ) (input : List ℕ) (place : ℕ) (rows : List Placed) → HeaderOf edition input place rows ↔ ((trees : Trees) × Message strict edition input place trees × (flat trees ≡ rows))
header_is_message edition input place rows = (
  (λ h.
      let (ts, x, laid) = (same h.e h.bytes rows).0 h.table in
      (ts, record { e = h.e; label = h.label; bytes = h.bytes; payload = h.payload; parts = h.parts; ends = h.ends; is = x }, laid)),
  λ w.
      let m = w.1 in
      record { e = m.e; label = m.label; bytes = m.bytes; payload = m.payload; parts = m.parts; ends = m.ends; table = (same m.e m.bytes rows).1 (w.0, m.is, w.2) },
)

-- its rows in memory are the tree laid flat, with the tree's skip numbers
pub message_laid : {strictness : Strictness} {edition : ℕ} {input : List ℕ} {place : ℕ} {trees : Trees} → Message strictness edition input place trees → table_of (flat trees) ≡ laid 0 trees
message_laid {strictness} {trees = trees} m = laid_flat (told_by strictness m.e) 0 m.bytes trees m.is

-- no input is two messages
same_edition_lem : {a b : Edition} → known a ≡ known b → a ≡ b
same_edition_lem q = cc q

pub one_message : {strictness : Strictness} {edition : ℕ} {input : List ℕ} {p q : ℕ} {ts us : Trees} → Message strictness edition input p ts → Message strictness edition input q us → (p ≡ q) × (ts ≡ us)
one_message {strictness} {ts = ts} {us = us} m n =
    let e : n.e ≡ m.e = same_edition_lem (sym n.label ∙ m.label) in
    let is : Header (told_by strictness m.e) 0 n.bytes us = subst (λ (x : Edition). Header (told_by strictness x) 0 n.bytes us) e n.is in
    let (bytes, trees) = one_tree (told_by strictness m.e) 0 m.bytes n.bytes m.payload n.payload ts us m.is is (sym m.parts ∙ n.parts) in
    (m.ends ∙ ap length bytes ∙ sym n.ends, trees)
