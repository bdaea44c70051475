-- The code's refusals, by document 01's "Answers by number".
use Rattle.std.specs.Prelude.{ℕ}
use Rattle.table.specs.declared.refusals.Refusal.{Refusal}
use Rattle.table.specs.declared.refusals.Refusal.TheVariants.{EditionUnknown, InputEnds, IdentifierWrong, LengthWrong, EnvelopeLimit, EnvelopeEnds, CodeWrong, TextWrong, DateWrong, NumberWrong, LengthFormWide, AgentLevel, ClosedEarly, RowsShort, TableWrong, OutputShort, ParameterUnknown, FiguresFull}

abbrev pub answer_of : Refusal → ℕ
answer_of EditionUnknown = 1
answer_of InputEnds = 2
answer_of IdentifierWrong = 3
answer_of LengthWrong = 4
answer_of EnvelopeLimit = 5
answer_of EnvelopeEnds = 6
answer_of CodeWrong = 7
answer_of TextWrong = 8
answer_of DateWrong = 9
answer_of NumberWrong = 10
answer_of LengthFormWide = 11
answer_of AgentLevel = 12
answer_of ClosedEarly = 13
answer_of RowsShort = 14
answer_of TableWrong = 15
answer_of OutputShort = 16
answer_of ParameterUnknown = 17
answer_of FiguresFull = 19
