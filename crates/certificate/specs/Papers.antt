-- Of calls of `gamulisyan_read`, `gamulisyan_read_tolerant`, `gamulisyan_write`, `gamulisyan_present` and `gamulisyan_which`, over the papers' own grammar (`Papers` of `papers`): what is accepted
-- is exactly a MessageEnvelope of the papers, and what is written exactly the rows of one. That the input holds bytes, the promise of a call says, as in `Calls`.
use Rattle.std.specs.Prelude.{ℕ, ◌≤◌, List, Bool, ◌↔◌, ◌≡◌, refl, length}
use Rattle.std.proofs.Common.{ap, sym, ◌∙◌, subst, arith, eq-eqb}
use Rattle.meaning.specs.Basics.{pick}
use Rattle.meaning.specs.Told.{Strictness, strict, tolerant, told_by}
use Rattle.meaning.specs.Headers.{Placed, accepted, read_by}
use Rattle.meaning.specs.Memory.{read_reply, room_with, laid_over}
use Rattle.meaning.specs.Which.{Sorted, editions_of, read_either, which_answer}
use Rattle.papers.specs.Notation.{Trees, flat, size, laid}
use Rattle.papers.proofs.OneTree.{flat_size}
use Rattle.papers.proofs.Same.{Message, accepts_messages, message_laid}
use Rattle.papers.proofs.WritesTrees.{WritesTrees, writes_trees}
use Rattle.papers.proofs.Children.{tree_words}
use Rattle.papers.proofs.ByTrees.{words_read_by_trees}
use Rattle.papers.proofs.PresentTrees.{PresentIn, present_in_trees}
use Rattle.table.specs.declared.reply.Reply as declared
use Rattle.reader.specs.Promises.{ReadsBy, ReadPromise, TolerantPromise}
use Rattle.writer.specs.Promise.{WritePromise}
use Rattle.papers.proofs.BothPapers.{AllowedAs, editions_are_papers}
use Rattle.present.specs.Promise.{PresentPromise}
use Rattle.which.specs.declared.Sorted as which
use Rattle.which.specs.Promise.{WhichPromise}
use Rattle.certificate.specs.Present.{present_by_procedure, well}
use Rattle.certificate.specs.Calls.{had_room}
use Rattle.certificate.specs.Lent.{Filled, Laid, accepted_call, fills, written_call, lays}

-- what a reading answers and leaves for a header of the papers: the place after it, its rows, its tree laid flat with the tree's skip numbers, and its words
pub record TreeFilled (place : ℕ) (trees : Trees) (before words : List ℕ) (a : declared.Reply) (after words' : List ℕ) : Type 0 where
  pub answers : a.answer ≡ 0
  pub ends : a.place ≡ place
  pub count : a.rows ≡ size trees
  pub leaves : after ≡ laid_over before (laid 0 trees)
  pub carries : words' ≡ laid_over words (tree_words trees)

-- "The reader accepts exactly the edition's headers and gives exactly the rows."
-- A call answers 0 if and only if the input is a MessageEnvelope of the edition's paper whose rows have room; then it leaves that tree.
pub record MessageFilled (strictness : Strictness) (edition : ℕ) (input before words : List ℕ) (a : declared.Reply) (after words' : List ℕ) : Type 0 where
  pub place : ℕ
  pub trees : Trees
  pub message : Message strictness edition input place trees
  pub room : size trees ≤ room_with before words
  pub filled : TreeFilled place trees before words a after words'

tree_filled : {strictness : Strictness} {edition : ℕ} {input before words after words' : List ℕ} {a : declared.Reply} (place : ℕ) (trees : Trees) → Message strictness edition input place trees
    → Filled place (flat trees) before words a after words' → TreeFilled place trees before words a after words'
tree_filled {strictness} {before = before} {words = words} place trees m f =
    record { answers = f.answers; ends = f.ends; count = f.count ∙ flat_size trees; leaves = f.leaves ∙ ap (laid_over before) (message_laid m); carries = f.carries ∙ ap (laid_over words) (words_read_by_trees (told_by strictness m.e) 0 m.bytes trees m.is) }

module _ {strictness : Strictness} {edition : ℕ} {input before words after words' : List ℕ} {a : declared.Reply} (p : ReadsBy strictness edition input before words a after words') where
  -- every such message is accepted, where its rows have room
  pub call_fills_message : (place : ℕ) (trees : Trees) → Message strictness edition input place trees → size trees ≤ room_with before words → TreeFilled place trees before words a after words'
  call_fills_message place trees m room =
      tree_filled place trees m (fills p ((accepts_messages strictness edition input place (flat trees) p.bytes).1 (trees, m, refl)) (omega (arith, room, flat_size trees)))

  pub call_accepts_messages : (a.answer ≡ 0) ↔ MessageFilled strictness edition input before words a after words'
  call_accepts_messages = ((λ z. found z (accepted_call p z)), λ m. m.filled.answers)
    where
      found : a.answer ≡ 0 → (place : ℕ) × (rows : List Placed) × (read_by strictness edition input ≡ accepted place rows) × Filled place rows before words a after words' → MessageFilled strictness edition input before words a after words'
      found z (place, rows, is, f) =
          let (trees, m, same) = (accepts_messages strictness edition input place rows p.bytes).0 is in
          let room : length rows ≤ room_with before words = had_room p z is in
          record {
            place = place;
            trees = trees;
            message = m;
            room = omega (arith, room, ap length same, flat_size trees);
            filled = tree_filled place trees m (subst (λ (l : List Placed). Filled place l before words a after words') (sym same) f);
          }

-- `gamulisyan_read`, and `gamulisyan_read_tolerant`

pub read_accepts_messages : {edition : ℕ} {input before words after words' : List ℕ} {a : declared.Reply} → ReadPromise edition input before words a after words' → (a.answer ≡ 0) ↔ MessageFilled strict edition input before words a after words'
read_accepts_messages p = call_accepts_messages p

pub tolerant_accepts_messages : {edition : ℕ} {input before words after words' : List ℕ} {a : declared.Reply} → TolerantPromise edition input before words a after words' → (a.answer ≡ 0) ↔ MessageFilled tolerant edition input before words a after words'
tolerant_accepts_messages p = call_accepts_messages p

-- `gamulisyan_write`: 0 if and only if the rows are those of a header's trees, starts aside, and its bytes have room; these bytes then stand at the output's front

module _ {edition : ℕ} {rows pool before after : List ℕ} {a : declared.Reply} (p : WritePromise edition rows pool before a after) where
  pub call_writes_trees : (bytes : List ℕ) → WritesTrees edition rows pool (length before) bytes → Laid bytes rows before a after
  call_writes_trees bytes w = lays p ((writes_trees edition rows pool (length before) bytes).1 w)

  pub call_wrote_trees : a.answer ≡ 0 → (bytes : List ℕ) × WritesTrees edition rows pool (length before) bytes × Laid bytes rows before a after
  call_wrote_trees z = let (bytes, w, l) = written_call p z in (bytes, (writes_trees edition rows pool (length before) bytes).0 w, l)

-- `gamulisyan_present`: an answer of 0 is the first child with the code, envelopes in order, or the row count for none

pub call_present_in_trees : {edition : ℕ} {rows pool : List ℕ} {code : ℕ} {a : declared.Reply} → PresentPromise edition rows pool code a → a.answer ≡ 0 → PresentIn edition rows pool code a.place
call_present_in_trees {edition} {rows} {pool} {code} p z = subst (PresentIn edition rows pool code) (sym (present_by_procedure p z).0) (present_in_trees edition rows pool code (well p z))

-- `gamulisyan_which`: an answer of 0 names the editions whose papers allow the input, and no others

pub call_which_papers : {input before words after words' : List ℕ} {a : which.Sorted} → WhichPromise input before words a after words' → a.answer ≡ 0 → AllowedAs input a.editions
unfolding which_answer
call_which_papers {input} {before} {words} {a = a} p z =
    let reply = read_reply (room_with before words) (read_either input) in
    let zero : reply.answer ≡ 0 = sym (ap (λ (s : Sorted). s.reply.answer) p.answers) ∙ z in
    let named : a.editions ≡ editions_of input = ap (λ (s : Sorted). s.editions) p.answers ∙ ap (λ (b : Bool). pick b (editions_of input) 0) (eq-eqb reply.answer 0 zero) in
    subst (AllowedAs input) (sym named) (editions_are_papers input p.bytes)
