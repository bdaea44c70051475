-- The end of a received object: "in D extras, then 01".
use Prim.Native.Nat.{ℕ, ◌≤◌}
use mathlib.Core.List.{List, [], ◌∷◌}
use mathlib.Core.Bool.{false}
use mathlib.Core.Path.{◌≡◌, sym, subst}
use Rattle.std.specs.Prelude.{None, Some}
use Rattle.table.specs.Codes.{received_extra_code}
use Rattle.meaning.specs.Editions.{state, after_via}
use Rattle.meaning.specs.Told.{Edition, B, D}
use Rattle.meaning.specs.Memory.{room_of}
use Rattle.write_rows.specs.Laying.{Laid}
use Rattle.laws_steps.specs.Rows.{cells_at}
use Rattle.write_rows.specs.Rooms.{ExtrasIn}
use Rattle.write_rows.specs.Stages.{Onward, at_parameters}
use Rattle.write_rows.specs.Among.{nothing_among}
use Rattle.write_rows.specs.Onward.{close_on}
use Rattle.write_objects.proofs.Rooms.{received_ends, received_extras_lem}

pub extras_when : (edition : Edition) {code : ℕ} → Some code ≡ received_extra_code edition → ExtrasIn edition after_via 1 false code at_parameters
extras_when D {code} q = let z : code ≡ 5 = cc in subst (λ (k : ℕ). ExtrasIn D after_via 1 false k at_parameters) (sym z) received_extras_lem
extras_when B q = absurd cc

pub received_closes : (edition : Edition) (pool rows : List ℕ) {i : ℕ} {before : List ℕ} {at : ℕ} {after : List ℕ} {p : ℕ} → None ≡ received_extra_code edition → i ≤ room_of rows → Laid before at (1 ∷ []) after p → Onward edition pool rows i (state after_via 1 false) i at_parameters before at after p
received_closes D pool rows q h l = absurd cc
received_closes B pool rows {i} q h l = close_on B pool rows (state after_via 1 false) received_ends.0 (nothing_among 1 (cells_at pool rows i)) received_ends.1 h l
