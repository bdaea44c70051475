-- Order 2, over the definitions: "Present values of the result are the new envelope's where it has one, else the old ones", their rows moved by the new row count;
-- "For the base's own date that is always the old one."
use Rattle.std.specs.Prelude.{ℕ, suc, ◌+◌, List, [], ◌∷◌, ◌++◌, map, Bool, true, false, ◌||◌, refl, T, length}
use Rattle.std.proofs.Math.Path.{◌≡◌, ap}
use Rattle.std.proofs.Common.{sym, ◌∙◌, subst, arith}
use Rattle.meaning.specs.Basics.{pick}
use Rattle.meaning.specs.Reading.{Row}
use Rattle.meaning.specs.Skips.{Rank, rank}
use Rattle.meaning.specs.Codes.{date_code, has_value, can_ask}
use Rattle.meaning.specs.Words.{occurs}
use Rattle.meaning.specs.Headers.{meant, start}
use Rattle.meaning.specs.Memory.{numbers_of, ranks_of, table_of}
use Rattle.meaning.specs.Present.{present}
use Rattle.meaning.specs.Relay.{moved, Joint, joined_table}
use Rattle.laws_steps.specs.Logic.{are_bytes}
use Rattle.laws_tables.specs.Firsts.{first_from}
use Rattle.laws_tables.specs.Filling.{Standing, none_left, one_more, first_stands}
use Rattle.laws_tables.specs.AllTabled.{ranks_read, ranks_append}
use Rattle.laws_steps.specs.Envelopes.{opening_row}
use Rattle.laws_tables.specs.RightSkips.{standing, table_ranks, cells_ranks}
use Rattle.laws_tables.specs.Standing.{Opened, opened, table_stands}
use Rattle.laws_tables.specs.PresentValues.{can_ask_open}
use Rattle.laws_tables.specs.Moving.{ranks_moved}
use Rattle.laws_demands.specs.Dateless.{extension_dateless}
use Rattle.laws_tables.specs.Joined.{Joins, ranks_meant, old_written, joined_written}
use Rattle.laws_tables.specs.JoinedRead.{joined_rows, new_means, table_is}

-- The first value, among rows and rows behind them

first_moved : (code k i : ℕ) (ranks : List Rank) → first_from code (k + i) ranks ≡ k + first_from code i ranks
unfolding first_from
first_moved code k i [] = refl
first_moved code k i (r ∷ ranks) = at (has_value code r) (ap (λ (x : ℕ). first_from code x ranks) (omega arith) ∙ first_moved code k (suc i) ranks)
  where
    at : (b : Bool) → first_from code (suc (k + i)) ranks ≡ k + first_from code (suc i) ranks → pick b (k + i) (first_from code (suc (k + i)) ranks) ≡ k + pick b i (first_from code (suc i) ranks)
    at true ih = refl
    at false ih = ih

first_joined : (code i : ℕ) (xs ys : List Rank) → first_from code i (xs ++ ys) ≡ pick (occurs code xs) (first_from code i xs) (first_from code (length xs + i) ys)
unfolding first_from occurs
first_joined code i [] ys = ap (λ (x : ℕ). first_from code x ys) (omega arith)
first_joined code i (x ∷ xs) ys = at (has_value code x) (first_joined code (suc i) xs ys ∙ ap (λ (n : ℕ). pick (occurs code xs) (first_from code (suc i) xs) (first_from code n ys)) (omega arith))
  where
    at : (b : Bool) → first_from code (suc i) (xs ++ ys) ≡ pick (occurs code xs) (first_from code (suc i) xs) (first_from code (suc (length xs) + i) ys)
        → pick b i (first_from code (suc i) (xs ++ ys)) ≡ pick (b || occurs code xs) (pick b i (first_from code (suc i) xs)) (first_from code (suc (length xs) + i) ys)
    at true ih = refl
    at false ih = ih

-- Rows that stand

stands_front : (xs ys : List Rank) → Standing (xs ++ ys) → Standing xs
stands_front [] ys t = none_left
stands_front (x ∷ xs) ys (one_more w t) = one_more w (stands_front xs ys t)

first_of : (code : ℕ) (ranks : List Rank) → can_ask code ≡ true → Standing ranks → Opened ranks → present code ranks ≡ first_from code 0 ranks
first_of code [] a t h = elim h [ ]
first_of code (r ∷ rest) a t (opened h) = first_stands code r rest (can_ask_open code a) h t

map_both : (xs ys : List Row) → map standing (xs ++ ys) ≡ map standing xs ++ map standing ys
map_both [] ys = refl
map_both (x ∷ xs) ys = ap (λ (l : List Rank). standing x ∷ l) (map_both xs ys)

module _ {edition : ℕ} {input table pool : List ℕ} {j : Joint} (s : Joins edition input table pool j) (t : T (are_bytes input)) where
  -- the new table's ranks, and those of the old rows
  opens_new : ranks_of table ≡ rank 1 0 ∷ map standing s.extension.rows
  opens_new = cells_ranks pool table (opening_row false ∷ s.extension.rows) s.extension.cells_are

  old_ranks : ranks_of (table_of j.old) ≡ map standing (map meant j.old)
  old_ranks = table_ranks 0 (map numbers_of j.old) ∙ sym (ranks_meant j.old)

  joined_ranks : ranks_of (joined_table j) ≡ ranks_of table ++ ranks_of (table_of j.old)
  joined_ranks =
      let n = length j.envelope in
      ap ranks_of (table_is s) ∙ table_ranks 0 (map numbers_of (joined_rows j)) ∙ ranks_append j.new (map (moved n) j.old)
      ∙ ap (λ (x : List Rank). ranks_read j.new ++ x) (ranks_moved n j.old ∙ sym (table_ranks 0 (map numbers_of j.old)))
      ∙ ap (λ (x : List Rank). x ++ ranks_of (table_of j.old)) (sym (cells_ranks pool table (map meant j.new) (new_means s) ∙ ranks_meant j.new))

  all_stand : Standing (ranks_of table ++ ranks_of (table_of j.old))
  all_stand =
      let whole = (table_stands s.told_in (joined_written s t)).0 in
      subst Standing (ap (λ (x : List Rank). rank 1 0 ∷ x) (map_both s.extension.rows (map meant j.old)) ∙ ap (λ (x : List Rank). x ++ map standing (map meant j.old)) (sym opens_new) ∙ ap (λ (x : List Rank). ranks_of table ++ x) (sym old_ranks)) whole

  opened_new : (rest : List Rank) → Opened (ranks_of table ++ rest)
  opened_new rest = subst (λ (x : List Rank). Opened (x ++ rest)) (sym opens_new) (opened refl)

  module _ (code : ℕ) (a : can_ask code ≡ true) where
    -- the old header's own
    old_first : present code (ranks_of (table_of j.old)) ≡ first_from code 0 (ranks_of (table_of j.old))
    old_first =
        let (stands, opens) = table_stands s.told_in (old_written s t) in
        first_of code (ranks_of (table_of j.old)) a (subst Standing (sym old_ranks) stands) (subst Opened (sym old_ranks) opens)

    new_first : present code (ranks_of table) ≡ first_from code 0 (ranks_of table)
    new_first = first_of code (ranks_of table) a (stands_front (ranks_of table) (ranks_of (table_of j.old)) all_stand) (subst Opened (sym opens_new) (opened refl))

    pub joined_present : present code (ranks_of (joined_table j)) ≡ pick (occurs code (ranks_of table)) (present code (ranks_of table)) (length (ranks_of table) + present code (ranks_of (table_of j.old)))
    joined_present =
        let new = ranks_of table in
        let old = ranks_of (table_of j.old) in
        ap (present code) joined_ranks ∙ first_of code (new ++ old) a all_stand (opened_new old) ∙ first_joined code 0 new old
        ∙ ap (λ (x : ℕ). pick (occurs code new) (first_from code 0 new) x) (first_moved code (length new) 0 old ∙ ap (λ (x : ℕ). length new + x) (sym old_first))
        ∙ ap (λ (x : ℕ). pick (occurs code new) x (length new + present code old)) (sym new_first)

  -- "20 for the base envelope's own date": the new envelope has none
  no_date_lem : occurs date_code (ranks_of table) ≡ false
  unfolding occurs
  no_date_lem = ap (occurs date_code) opens_new ∙ extension_dateless s.told_in s.extension.rows (start false) s.extension.to s.body s.extension.fits_all tt (λ q. let z : ◌≡◌ {A = ℕ} 0 1 = cc q in absurd (omega arith))

  pub joined_date : present date_code (ranks_of (joined_table j)) ≡ length (ranks_of table) + present date_code (ranks_of (table_of j.old))
  joined_date =
      joined_present date_code refl
      ∙ ap (λ (b : Bool). pick b (present date_code (ranks_of table)) (length (ranks_of table) + present date_code (ranks_of (table_of j.old)))) no_date_lem
