-- A whole header poured into lent memory, envelope by envelope: storing goes through `ends` and `behind`.
use Rattle.std.specs.Prelude.{ℕ, suc, ◌+◌, ◌-◌, ◌≤◌, ◌<◌, List, [], ◌∷◌, ◌++◌, map, Bool, true, false, ◌≡◌, refl, eqb, length}
use Rattle.std.proofs.Common.{ap, ◌∙◌, arith, length-append, eq-eqb, ne_eqb}
use Rattle.std.proofs.lemmas.List.{length-map}
use Rattle.meaning.specs.Basics.{pick}
use Rattle.meaning.specs.Told.{Told}
use Rattle.meaning.specs.Editions.{state, closed, shared, own, moves}
use Rattle.meaning.specs.Reading.{Seen, look, find, step_move, step, Out, dry, fault, done, onward, inside}
use Rattle.meaning.specs.Headers.{Placed, placed_row, placed, Answer, refused, accepted, behind, opening, start, Onward, ends, header}
use Rattle.laws_steps.specs.From.{from, from_length}
use Rattle.laws_steps.specs.Rows.{put, put_all}
use Rattle.laws_steps.specs.Pouring.{store, Filling, filled, stopped, pour, Source, source, run_at, run_step}

abbrev pub finish : Answer → ℕ → List ℕ → Filling
finish (refused refusal place) n m = stopped refusal place
finish (accepted place rs) n m = filled place (n + length rs) (put_all rs n m)

-- what follows an envelope, stored from row n on
abbrev pub onward_from : List ℕ → Onward → ℕ → ℕ → List ℕ → Filling
onward_from s more p n m = finish (more p (from s p (length s))) n m

-- reading from the envelope at `at` on, where `left` may still come, with n rows in the memory m
abbrev pub header_at : Told → List ℕ → ℕ → ℕ → ℕ → List ℕ → Filling
header_at t s left at n m = onward_from s (header left t) at n m

-- an envelope's own row, and then its inside and what is behind it
abbrev pub opened : Told → Onward → List ℕ → ℕ → Bool → ℕ → ℕ → Answer
opened t more s at base first end =
    behind (placed_row (opening base) 0 at [] ∷ []) (ends base end (from s end (length s)) more (inside t (start base) (from s first end)))

-- behind an envelope's closing 01: "13: closing 01 before the declared end, byte after it"
abbrev pub closes : Bool → ℕ → (ℕ → ℕ → List ℕ → Filling) → Filling → Filling
closes base end more (stopped refusal p) = stopped refusal p
closes base end more (filled p n m) = pick (eqb p end) (pick base (filled end n m) (more end n m)) (stopped 13 p)

-- Storing

put_placed : (end : ℕ) (rs : List Seen) (n : ℕ) (m : List ℕ) → put_all (map (placed end) rs) n m ≡ store end rs n m
put_placed end [] n m = refl
put_placed end (r ∷ rs) n m = put_placed end rs (n + 1) (put m n r.kind r.level (end - r.left) (length r.view))

put_append : (rs ts : List Placed) (n : ℕ) (m : List ℕ) → put_all (rs ++ ts) n m ≡ put_all ts (n + length rs) (put_all rs n m)
put_append [] ts n m = let q : n ≡ n + 0 = omega arith in ap (λ (x : ℕ). put_all ts x m) q
put_append (r ∷ rs) ts n m =
    let q : n + 1 + length rs ≡ n + suc (length rs) = omega arith in
    put_append rs ts (n + 1) (put m n r.kind r.level r.start (length r.view))
    ∙ ap (λ (x : ℕ). put_all ts x (put_all (r ∷ rs) n m)) q

finish_behind : (rs : List Placed) (a : Answer) (n : ℕ) (m : List ℕ) → finish (behind rs a) n m ≡ finish a (n + length rs) (put_all rs n m)
finish_behind rs (refused refusal place) n m = refl
finish_behind rs (accepted place ts) n m =
    let q : n + length (rs ++ ts) ≡ n + length rs + length ts = omega (arith, length-append rs ts) in
    rw (q, put_append rs ts n m) refl

-- an envelope's end, from what its inside comes to
module _ (s : List ℕ) (base : Bool) (end n : ℕ) (m : List ℕ) (more : Onward) where
  abbrev rest : List ℕ
  rest = from s end (length s)

  ends_done : (b : Bool) (rs : List Seen) → finish (ends b end rest more (done rs [])) n m ≡ pick b (filled end (n + length rs) (store end rs n m)) (onward_from s more end (n + length rs) (store end rs n m))
  ends_done true rs = rw (length-map rs (placed end), put_placed end rs n m) refl
  ends_done false rs = finish_behind (map (placed end) rs) (more end rest) n m ∙ rw (length-map rs (placed end), put_placed end rs n m) refl

  ends_finish : (o : Out) → 0 < end → finish (ends base end rest more o) n m ≡ closes base end (onward_from s more) (pour end o n m)
  ends_finish dry h = refl
  ends_finish (fault refusal left) h = refl
  ends_finish (done rs (b ∷ t)) h =
      let q : eqb (end - suc (length t)) end ≡ false = ne_eqb (end - suc (length t)) end (λ z. omega arith) in
      rw q refl
  ends_finish (done rs []) h =
      let q : end - 0 ≡ end = omega arith in
      let z : eqb end end ≡ true = eq-eqb end end refl in
      ends_done base rs ∙ rw (q, z) refl

-- behind the closing 01 nothing is read
pub closed_at : (i : Source) (p n : ℕ) (m : List ℕ) → p ≤ i.end → i.end ≤ length i.bytes → run_at i (state closed 0 false) p n m ≡ filled p n m
unfolding step step_move look find moves shared own
closed_at i p n m h k = run_step i (state closed 0 false) p n m ∙ by (from i.bytes p i.end) (from_length i.bytes p i.end h k)
  where
    by : (t : List ℕ) → length t ≡ i.end - p → pour i.end (onward (step i.told (state closed 0 false) t) (inside i.told)) n m ≡ filled p n m
    by [] q = let u : i.end - 0 ≡ p = omega arith in let v : n + 0 ≡ n = omega arith in rw (u, v) refl
    by (b ∷ t) q = let u : i.end - suc (length t) ≡ p = omega arith in let v : n + 0 ≡ n = omega arith in rw (u, v) refl

-- an envelope is its own row, its inside and what comes behind it
pub opened_closes : (t : Told) (more : Onward) (s : List ℕ) (at first end : ℕ) (base : Bool) (n : ℕ) (m : List ℕ) → 0 < end
    → finish (opened t more s at base first end) n m ≡ closes base end (onward_from s more) (run_at (source t s end) (start base) first (n + 1) (put m n (opening base) 0 at 0))
opened_closes t more s at first end base n m h =
    finish_behind (placed_row (opening base) 0 at [] ∷ []) (ends base end (from s end (length s)) more (inside t (start base) (from s first end))) n m
    ∙ ends_finish s base end (n + 1) (put m n (opening base) 0 at 0) more (inside t (start base) (from s first end)) h
