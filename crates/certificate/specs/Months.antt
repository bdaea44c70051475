-- Order 13, of calls: figures lent from one call to the next are those of the messages added; joined, those of both lists; and what the report prints.
use Rattle.std.specs.Prelude.{ℕ, ◌+◌, ◌≤◌, ◌<◌, List, [], ◌∷◌, ◌++◌, Bool, true, false, ◌&&◌, ◌≡◌, refl, T, leb, length, replicate}
use Rattle.std.proofs.Common.{ap, sym, ◌∙◌, arith, le-leb}
use Rattle.meaning.specs.Basics.{pick}
use Rattle.meaning.specs.Told.{Edition, known, label_of, strict, told}
use Rattle.meaning.specs.Headers.{Placed, Answer, refused, accepted, header, envelopes_most, labelled, read_by, read}
use Rattle.meaning.specs.Memory.{Reply, reply, laid_over, read_reply, room_with, answer_by, words_read}
use Rattle.meaning.specs.Plain.{Outcome, outcome, encode_outcome, encode_memory}
use Rattle.meaning.specs.Figures.{Message, Entry, taken, turned, entry_in, entry_by, entry_of, total, figures_of, messages_most, are_figures, takes_more, add_answer, add_figures, joinable, join_answer, join_figures, report, report_answer, report_output}
use Rattle.laws_steps.specs.Logic.{are_bytes}
use Rattle.laws_demands.specs.Months.{are_messages, are_figures_lem, added, not_added, joined}
use Rattle.table.specs.declared.reply.Reply as declared
use Rattle.reader.specs.Promises.{ReadPromise}
use Rattle.figures.specs.declared.Figured.{Figured}
use Rattle.figures.specs.Promises.{message, AddPromise, JoinPromise, ReportPromise}
use Rattle.certificate.specs.Lent.{accepted_call}

-- One answer, and some answer

abbrev figured_as : Outcome → Figured
figured_as o = record { answer = o.answer; place = o.place }

pub one_figures_add : {edition : ℕ} {input before after later : List ℕ} {r s : Figured} → AddPromise edition input before after r → AddPromise edition input before later s → (r ≡ s) × (after ≡ later)
one_figures_add p q = (ap figured_as (p.answers ∙ sym q.answers), p.figures ∙ sym q.figures)

pub one_figures_join : {others before after later : List ℕ} {r s : Figured} → JoinPromise others before after r → JoinPromise others before later s → (r ≡ s) × (after ≡ later)
one_figures_join p q = (ap figured_as (p.answers ∙ sym q.answers), p.figures ∙ sym q.figures)

pub one_figures_report : {figures before after later : List ℕ} {r s : Figured} → ReportPromise figures before after r → ReportPromise figures before later s → (r ≡ s) × (after ≡ later)
one_figures_report p q = (ap figured_as (p.answers ∙ sym q.answers), p.text ∙ sym q.text)

pub some_figures_add : (edition : ℕ) (input before : List ℕ) → T (are_bytes input) → (r : Figured) × (after : List ℕ) × AddPromise edition input before after r
some_figures_add edition input before t = (figured_as (add_answer before), add_figures (message edition input) before, record { bytes = t; answers = refl; figures = refl })

pub some_figures_join : (others before : List ℕ) → (r : Figured) × (after : List ℕ) × JoinPromise others before after r
some_figures_join others before = (figured_as (join_answer before others), join_figures before others, record { answers = refl; figures = refl })

pub some_figures_report : (figures before : List ℕ) → (r : Figured) × (after : List ℕ) × ReportPromise figures before after r
some_figures_report figures before = (figured_as (report_answer figures (length before)), report_output figures before, record { answers = refl; text = refl })

-- "The figures equal those worked out from the list of messages added": a call on the figures of a list leaves those of the list with the message behind
pub call_added : (ms : List Message) → T (are_messages ms) → length ms < messages_most → {edition : ℕ} {input after : List ℕ} {r : Figured} → AddPromise edition input (figures_of ms) after r
    → (outcome r.answer r.place ≡ outcome 0 0) × (after ≡ figures_of (ms ++ (message edition input ∷ [])))
call_added ms t few {edition} {input} p = let (a, f) = added ms t (message edition input) few in (p.answers ∙ a, p.figures ∙ f)

-- "19 at place 0 after 1,000,000 messages of any edition, figures unchanged"
pub call_full : (ms : List Message) → T (are_messages ms) → messages_most ≤ length ms → {edition : ℕ} {input after : List ℕ} {r : Figured} → AddPromise edition input (figures_of ms) after r
    → (outcome r.answer r.place ≡ outcome 19 0) × (after ≡ figures_of ms)
call_full ms t many {edition} {input} p = let (a, f) = not_added ms t (message edition input) many in (p.answers ∙ a, p.figures ∙ f)

-- the empty figures are thirty-one zeros
pub empty_figures : figures_of [] ≡ replicate 31 0
unfolding figures_of total
empty_figures = refl

-- our own: figures of two lists join to those of one behind the other
pub call_joined : (ms ks : List Message) → T (are_messages ms) → T (are_messages ks) → length ms + length ks ≤ messages_most → {after : List ℕ} {r : Figured} → JoinPromise (figures_of ks) (figures_of ms) after r
    → (outcome r.answer r.place ≡ outcome 0 0) × (after ≡ figures_of (ms ++ ks))
call_joined ms ks t u few p = let (a, f) = joined ms ks t u few in (p.answers ∙ a, p.figures ∙ f)

-- the report of a list's figures, over the front of an output that has room for it
pub call_reported : (ms : List Message) → T (are_messages ms) → length ms ≤ messages_most → {before after : List ℕ} {r : Figured} → length (report (figures_of ms)) ≤ length before → ReportPromise (figures_of ms) before after r
    → (outcome r.answer r.place ≡ outcome 0 (length (report (figures_of ms)))) × (after ≡ laid_over before (report (figures_of ms)))
unfolding report_answer report_output
call_reported ms t few {before} room p =
    let is = are_figures_lem ms t few in
    let fits = le-leb (length (report (figures_of ms))) (length before) room in
    (p.answers ∙ rw (is, fits) refl, p.text ∙ rw (is, fits) refl)

-- "A refused call changes nothing lent."
other : (z : Bool) (x y : List ℕ) (r : Figured) → (r.answer ≡ 0 → ⊥) → outcome r.answer r.place ≡ pick z (outcome 0 0) (outcome 19 0) → pick z x y ≡ y
other true x y r some q = absurd (some (ap (λ (o : Outcome). o.answer) q))
other false x y r some q = refl

pub refused_add_changes_nothing : {edition : ℕ} {input before after : List ℕ} {r : Figured} → AddPromise edition input before after r → (r.answer ≡ 0 → ⊥) → after ≡ before
unfolding add_answer add_figures
refused_add_changes_nothing {before = before} {r = r} p some = p.figures ∙ other (takes_more before) _ before r some p.answers

pub refused_join_changes_nothing : {others before after : List ℕ} {r : Figured} → JoinPromise others before after r → (r.answer ≡ 0 → ⊥) → after ≡ before
unfolding join_answer join_figures
refused_join_changes_nothing {others} {before} {r = r} p some = p.figures ∙ other (joinable before others) _ before r some p.answers

pub refused_report_changes_nothing : {figures before after : List ℕ} {r : Figured} → ReportPromise figures before after r → (r.answer ≡ 0 → ⊥) → after ≡ before
unfolding report_answer report_output
refused_report_changes_nothing {figures} {before} {after} {r} p some = by (are_figures figures) (leb (length (report figures)) (length before)) p.answers p.text
  where
    by : (z w : Bool) → outcome r.answer r.place ≡ pick z (pick w (outcome 0 (length (report figures))) (outcome 16 (length (report figures)))) (outcome 19 0) → after ≡ pick (z && w) (laid_over before (report figures)) before → after ≡ before
    by true true q l = absurd (some (ap (λ (o : Outcome). o.answer) q))
    by true false q l = l
    by false w q l = l

-- "Each message is added by its bytes and edition": it counts as the reader answers it, with room for its rows
pub counts_as_read : {edition : ℕ} {e : Edition} {input before words after words' : List ℕ} {a : declared.Reply} → label_of edition ≡ known e → ReadPromise edition input before words a after words' → a.answer ≡ 0
    → (rows : List Placed) × (read edition input ≡ accepted a.place rows) × (entry_of (message edition input) ≡ taken e (length (words_read rows)) a.place)
unfolding entry_of read_by
counts_as_read {edition} {e} {input} k p z =
    let (place, rows, is, f) = accepted_call p z in
    let at : accepted place rows ≡ accepted (a_place p) rows = ap (λ (n : ℕ). accepted n rows) (sym f.ends) in
    (rows, is ∙ at, ap (entry_by input) k ∙ ap (entry_in e) (ap (labelled strict input) (sym k) ∙ is ∙ at))
  where
    a_place : {edition : ℕ} {input before words after words' : List ℕ} {a : declared.Reply} → ReadPromise edition input before words a after words' → ℕ
    a_place {a = a} p = a.place
