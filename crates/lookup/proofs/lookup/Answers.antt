-- `lookup`: what is refused, in the documents' order, and then the hops.
use mathlib.Core.Path.{ap, sym, ◌∙◌}
use Rattle.meaning.specs.Memory.{reply}
use Rattle.table.specs.Reply.{fault_reply}
use Rattle.lookup.proofs.Looks.{not_asked, few_words, not_whole, whole_rows}
use Rattle.lookup.proofs.lookup.Goals as goal

pub returns-then-not-can_ask : goal.returns-then-not-can_ask
returns-then-not-can_ask c =
    let a = c.args in
    record { answers = c.into.ensures ∙ ap fault_reply c.at.ensures ∙ not_asked a.rows.now a.words.now a.code (sym c.can_ask.ensures ∙ c.if-not-can_ask.true) }

pub returns-then-words : goal.returns-then-words
returns-then-words c =
    let a = c.args in
    record { answers = c.into-then-words.ensures ∙ ap fault_reply c.at-then-words.ensures ∙ few_words a.rows.now a.words.now a.code (sym c.can_ask.ensures ∙ c.if-not-can_ask.false) c.if-words.true }

pub returns-then-not-whole : goal.returns-then-not-whole
returns-then-not-whole c =
    let a = c.args in
    record { answers = c.into-then-not-whole.ensures ∙ ap fault_reply c.at-then-not-whole.ensures ∙ ap (λ n. reply 15 n 0) c.room.ensures ∙ not_whole a.rows.now a.words.now a.code (sym c.can_ask.ensures ∙ c.if-not-can_ask.false) c.if-words.false (sym c.whole.ensures ∙ c.if-not-whole.true) }

pub returns : goal.returns
returns c =
    let a = c.args in
    record { answers = c.look.ensures ∙ whole_rows a.rows.now a.words.now a.code (sym c.can_ask.ensures ∙ c.if-not-can_ask.false) c.if-words.false (sym c.whole.ensures ∙ c.if-not-whole.false) }
