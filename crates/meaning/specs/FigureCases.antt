-- Order 13: lists of messages, their figures given as numbers and their report as text; figures at their bounds and one over.
use Rattle.std.specs.Prelude.{ℕ, ◌+◌, List, [], ◌∷◌, ◌++◌, Bool, ◌&&◌, not, length, take, replicate}
use Rattle.meaning.specs.Figures.{Message, figures_of, are_figures, takes_more, add_answer, add_figures, join_answer, join_figures, report, report_answer, report_output}
use Rattle.meaning.specs.Cases.{same, hex, base_with, outcome_is}
use Rattle.meaning.specs.AcceptedCases.{an_extension, with_parameters}

abbrev M : List ℕ
M = base_with 0x0f 0x20 (hex 0x1_01)

abbrev message : ℕ → List ℕ → Message
message edition bytes = record { edition = edition; bytes = bytes }

-- an edition's fifteen: accepted, refused by 2 to 13, envelopes, bytes
abbrev none : List ℕ
none = replicate 15 0

abbrev month : List Message
month = message 1 M ∷ message 1 (an_extension ++ M) ∷ message 1 (take 14 M) ∷ message 0 M ∷ []

-- the example of our readings, each figure; under edition 2; an unknown edition; a refusal's number, not its place
abbrev lists : Bool
lists =
    same (figures_of []) (replicate 31 0) && same (figures_of month) ((2 ∷ 1 ∷ replicate 11 0 ++ (3 ∷ 47 ∷ [])) ++ (none ++ (1 ∷ []))) &&
    same (figures_of (message 2 (an_extension ++ (M ++ hex 0x1_07_08)) ∷ message 3 [] ∷ [])) (none ++ ((1 ∷ replicate 12 0 ++ (2 ∷ (length an_extension + 15) ∷ [])) ++ (1 ∷ []))) &&
    same (figures_of (message 2 (hex 0x1_fc) ∷ message 2 (with_parameters (hex 0x1_0c)) ∷ message 1 (with_parameters (hex 0x1_01)) ∷ []))
    ((replicate 12 0 ++ (1 ∷ 0 ∷ 0 ∷ [])) ++ ((0 ∷ 0 ∷ 1 ∷ 0 ∷ 0 ∷ 0 ∷ 1 ∷ replicate 8 0) ++ (0 ∷ [])))

-- .. and added one by one
abbrev added_all : List ℕ → List Message → List ℕ
added_all ns [] = ns
added_all ns (m ∷ ms) = added_all (add_figures m ns) ms

abbrev adds : Bool
adds = same (added_all (replicate 31 0) month) (figures_of month) && same (join_figures (figures_of (take 2 month)) (figures_of (message 1 (take 14 M) ∷ message 0 M ∷ []))) (figures_of month)

abbrev reports : Bool
reports =
    same (report (figures_of month)) (hex 0x1_31_09_32_09_31_09_30_09_30_09_30_09_30_09_30_09_30_09_30_09_30_09_30_09_30_09_30_09_33_09_34_37_09_32_33_09_31_0a_32_09_30_09_30_09_30_09_30_09_30_09_30_09_30_09_30_09_30_09_30_09_30_09_30_09_30_09_30_09_30_09_30_09_30_0a_31_0a) &&
    same (report (replicate 31 0)) (hex 0x1_31_09_30_09_30_09_30_09_30_09_30_09_30_09_30_09_30_09_30_09_30_09_30_09_30_09_30_09_30_09_30_09_30_09_30_0a_32_09_30_09_30_09_30_09_30_09_30_09_30_09_30_09_30_09_30_09_30_09_30_09_30_09_30_09_30_09_30_09_30_09_30_0a_30_0a) &&
    outcome_is 0 76 (report_answer (figures_of month) 76) && outcome_is 16 76 (report_answer (figures_of month) 75) && outcome_is 19 0 (report_answer [] 76) &&
    same (report_output (figures_of month) (replicate 75 7)) (replicate 75 7) && same (report_output (replicate 31 0) (replicate 75 7)) (report (replicate 31 0) ++ (7 ∷ []))

-- so many accepted under edition 1, with these envelopes and bytes, and so many unknown
abbrev counted : ℕ → ℕ → ℕ → ℕ → List ℕ
counted accepted envelopes bytes unknown = (accepted ∷ replicate 12 0 ++ (envelopes ∷ bytes ∷ [])) ++ (none ++ (unknown ∷ []))

abbrev bounds : Bool
bounds =
    are_figures (counted 1 16 16777216 0) && not (are_figures (counted 1 17 16777216 0)) && not (are_figures (counted 1 16 16777217 0)) && not (are_figures (counted 0 1 0 0)) && not (are_figures (counted 0 0 1 0)) &&
    are_figures (counted 999999 999999 0 1) && not (are_figures (counted 1000000 1000000 0 1)) && not (are_figures (counted 1000001 0 0 0)) &&
    takes_more (counted 999998 0 0 1) && not (takes_more (counted 999999 0 0 1)) && outcome_is 0 0 (add_answer (counted 999999 0 0 0)) && outcome_is 19 0 (add_answer (counted 1000000 0 0 0)) &&
    same (add_figures (message 0 []) (counted 999999 0 0 0)) (counted 999999 0 0 1) && same (add_figures (message 0 []) (counted 999999 0 0 1)) (counted 999999 0 0 1) &&
    outcome_is 19 0 (add_answer (replicate 30 0)) && outcome_is 19 0 (add_answer (replicate 32 0)) && outcome_is 0 0 (join_answer (counted 999999 0 0 0) (counted 0 0 0 1)) && outcome_is 19 0 (join_answer (counted 999999 0 0 0) (counted 1 0 0 1)) &&
    outcome_is 19 0 (join_answer [] (replicate 31 0)) && outcome_is 19 0 (join_answer (replicate 31 0) []) && same (join_figures (counted 2 3 4 5) (counted 1 1 1 1)) (counted 3 4 5 6) && same (join_figures (counted 2 3 4 5) []) (counted 2 3 4 5)

abbrev pub figures : Bool
figures = lists && adds && reports && bounds
