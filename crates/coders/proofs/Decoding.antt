-- A slice that must hold exactly one value: what a decoder answers, from the span of the value at its front.
use Prim.Native.Nat.{ℕ, suc, ◌+◌, ◌-◌, ◌≤◌, ◌<◌}
use mathlib.Core.List.{List, [], ◌∷◌, ◌++◌, append-nil}
use mathlib.Core.Bool.{Bool, true, false}
use mathlib.Core.Path.{◌≡◌, refl, ap, sym, ◌∙◌}
use native.Mathlib.Nat.{le_refl}
use native.Mathlib.Omega.{arith}
use borrow.Author.Tests.{lt-ltb}
use lib.ListN.{length, get_or}
use lib.Seq.{take_all}
use Rattle.meaning.specs.Basics.{pick}
use Rattle.meaning.specs.Bytes.{Taken, took, failed, prefixed, Check, passes, date_checks, take_date, take_number}
use Rattle.meaning.specs.Plain.{decoded, undecoded, exactly, Reached, reach_of, number_value, decode_number, number_decoded, number_plain, date_of, dated, decode_date, date_decoded, date_plain}
use Rattle.laws_steps.specs.From.{from, from_end, from_cons}
use Rattle.values.specs.declared.number.Number.{Number}
use Rattle.values.specs.declared.number.Number.TheVariants.{Counts, Fails}
use Rattle.coders.specs.declared.Date.{Date}
use Rattle.values.specs.Stages.{span, spans, misses}
use Rattle.values.specs.Answers.{valued_at, valued_refused}
use Rattle.values.specs.Numbers.{counts, tally, tallied, Counted}
use Rattle.std.specs.Prelude.{Ok}
use Rattle.table.specs.declared.answers.Fault.{Fault}
use Rattle.date.specs.Dates.{reaching, date_length, check_at, earlier}
use Rattle.date.specs.DateSteps.{date_from, date_begins, date_over, date_ends, date_wrong, passing_goes}
use Rattle.coders.specs.declared.decode.DecodedDate.{DecodedDate}
use Rattle.coders.specs.Stepped.{has_designator, Passed, RefusedAt, decoded_by}
use Rattle.coders.specs.Plain.{NumberDecodes, DateDecodes, DecodesReach, plain_of, unread_at}
use Rattle.values.specs.Counting.{counted_is, counted_refused}

pub from_all : (s : List ℕ) → from s 0 (length s) ≡ s
unfolding from
from_all s = take_all (length s - 0) s (omega arith)

-- the value that was taken, if any
abbrev front : Taken → List ℕ
front (took v rest) = v
front (failed refusal left) = []

module _ (s : List ℕ) where
  exactly_refused : (t : Taken) {refusal place : ℕ} → span 0 t ≡ misses refusal (length s - place) → place ≤ length s → exactly s t ≡ undecoded place
  exactly_refused (took v rest) q h = let z : ◌≡◌ {A = ℕ} 0 1 = cc in absurd (omega arith)
  exactly_refused (failed refusal left) {place = place} q h = let e : left ≡ length s - place = cc in ap undecoded (omega arith)

  exactly_left : (t : Taken) {many after : ℕ} → span 0 t ≡ spans many (from s after (length s)) → many ≡ after → after < length s → exactly s t ≡ undecoded after
  exactly_left (took v rest) {many} {after} q m h =
      let e : rest ≡ from s after (length s) = cc in
      let k : 0 + length v ≡ many = cc in
      rw (e, from_cons s after (length s) h (le_refl (length s))) (ap undecoded (omega arith))
  exactly_left (failed refusal left) q m h = let z : ◌≡◌ {A = ℕ} 0 1 = cc in absurd (omega arith)

  -- the slice's end: the value is all of it
  exactly_all : (t : Taken) {many after : ℕ} → span 0 t ≡ spans many (from s after (length s)) → many ≡ after → length s ≤ after → (exactly s t ≡ decoded (front t)) × (length (front t) ≡ after) × (t ≡ took (front t) [])
  exactly_all (took v rest) {many} {after} q m h =
      let e : rest ≡ [] = (let r : rest ≡ from s after (length s) = cc in r ∙ from_end s after (length s) h) in
      let k : 0 + length v ≡ many = cc in
      (rw e refl, omega arith, rw e refl)
  exactly_all (failed refusal left) q m h = let z : ◌≡◌ {A = ℕ} 0 1 = cc in absurd (omega arith)

tally_worth : (t : Taken) {many value : ℕ} {rest : List ℕ} → tally 0 0 t ≡ counts many value rest → number_value 0 (front t) ≡ value
tally_worth (took v rest) q = cc
tally_worth (failed refusal left) q = let z : ◌≡◌ {A = ℕ} 0 1 = cc in absurd (omega arith)

module _ (s : List ℕ) {r : Number} (a : Counted s (length s) 0 r) where
  abbrev number : Taken
  number = take_number 0 true s

  here : take_number 0 true (from s 0 (length s)) ≡ number
  here = ap (take_number 0 true) (from_all s)

  refused_at : (place : ℕ) → exactly s number ≡ undecoded place → NumberDecodes s (unread_at place)
  unfolding number_decoded number_plain decode_number
  refused_at place q = record { is = rw q refl; worth = rw q refl }

  pub number_refused : {fault : Fault} → r ≡ Fails fault → NumberDecodes s (unread_at fault.at)
  number_refused {fault} h =
      let (q, k) = valued_refused (counted_refused a h) refl in
      refused_at fault.at (exactly_refused s number (ap (span 0) (sym here) ∙ q) k)

  pub number_left : {value after : ℕ} → r ≡ Counts value after → after < length s → NumberDecodes s (unread_at after)
  number_left {after = after} h k =
      let p = valued_at (counted_is a h) refl in
      refused_at after (exactly_left s number (ap (span 0) (sym here) ∙ p.0) (omega arith) k)

  pub number_whole : {value after : ℕ} → r ≡ Counts value after → length s ≤ after → NumberDecodes s (record { answer = 0; place = after; value = value })
  unfolding number_decoded number_plain decode_number tallied
  number_whole {value} {after} h k =
      let p = valued_at (counted_is a h) refl in
      let (q, n, e) = exactly_all s number (ap (span 0) (sym here) ∙ p.0) (omega arith) k in
      let w : number_value 0 (front number) ≡ value = tally_worth number (ap (tally 0 0) (sym here) ∙ a.is ∙ ap (tallied s (length s) 0) h) in
      record { is = rw (q, n) refl; worth = rw q (sym w) }

-- a date that was taken is the front of the bytes, with a byte for each check
abbrev Fronts : List Check → List ℕ → Taken → Type 0
Fronts cs s (took v rest) = (s ≡ v ++ rest) × (length v ≡ length cs)
Fronts cs s (failed refusal left) = Unit {0}

fronts_byte : (z : Bool) (cs : List Check) (c : Check) (b : ℕ) (s : List ℕ) (t : Taken) (refusal left : ℕ) → Fronts cs s t → Fronts (c ∷ cs) (b ∷ s) (pick z (prefixed b t) (failed refusal left))
fronts_byte true cs c b s (took v rest) refusal left f = (ap (λ (x : List ℕ). b ∷ x) f.0, ap suc f.1)
fronts_byte true cs c b s (failed x y) refusal left f = tt
fronts_byte false cs c b s t refusal left f = tt

date_fronts : (cs : List Check) (earlier s : List ℕ) → Fronts cs s (take_date cs earlier s)
unfolding take_date
date_fronts [] earlier s = (refl, refl)
date_fronts (c ∷ cs) earlier [] = tt
date_fronts (c ∷ cs) earlier (b ∷ s) = fronts_byte (passes c earlier b) cs c b s (take_date cs (b ∷ earlier) s) 9 (suc (length s)) (date_fronts cs (b ∷ earlier) s)

front_whole : (cs : List Check) (s : List ℕ) (t : Taken) → Fronts cs s t → t ≡ took (front t) [] → (front t ≡ s) × (length s ≡ length cs)
front_whole cs s (took v rest) f e =
    let z : rest ≡ [] = cc in
    let q : s ≡ v = f.0 ∙ ap (λ (x : List ℕ). v ++ x) z ∙ append-nil v in
    (sym q, ap length q ∙ f.1)
front_whole cs s (failed refusal left) f e = let z : ◌≡◌ {A = ℕ} 0 1 = cc in absurd (omega arith)

-- A date byte by byte

module _ (s : List ℕ) (isAbsolute : Bool) where
  abbrev many : ℕ
  many = date_length (has_designator s)

  abbrev checks : List Check
  checks = date_checks (reaching isAbsolute) (has_designator s)

  abbrev date : Taken
  date = take_date checks [] s

  there : take_date checks [] (from s 0 (length s)) ≡ date
  there = ap (take_date checks []) (from_all s)

  undated_at : (place : ℕ) → exactly s date ≡ undecoded place → RefusedAt s isAbsolute place
  undated_at place q = record { is = rw q refl; worth = rw q refl }

  -- the bytes before byte j have passed: what is left to take
  module _ {j : ℕ} (p : Passed s isAbsolute j) (h : j ≤ many) where
    behind : span 0 date ≡ date_from s (length s) 0 isAbsolute many j
    behind =
        ap (span 0) (sym there) ∙ date_begins s (length s) 0 isAbsolute many (has_designator s) refl
        ∙ passing_goes s (length s) 0 isAbsolute many (le_refl (length s)) j h (omega (arith, p.inside)) p.passing

  module _ {j : ℕ} (p : Passed s isAbsolute j) (h : j < many) where
    pub missing : length s ≤ j → RefusedAt s isAbsolute j
    missing l =
        let z : length s - length s ≡ length s - j = omega (arith, p.inside) in
        undated_at j (exactly_refused s date (behind p (omega arith) ∙ date_ends s (length s) 0 isAbsolute many j h (omega arith) ∙ ap (misses 6) z) p.inside)

    pub wrong : j < length s → {r : Bool} → r ≡ passes (check_at isAbsolute j) (earlier s 0 j) (get_or s (0 + j) 0) → r ≡ false → RefusedAt s isAbsolute j
    wrong l q f =
        let z : length s - (0 + j) ≡ length s - j = omega arith in
        undated_at j (exactly_refused s date (behind p (omega arith) ∙ date_wrong s (length s) 0 isAbsolute many j h (le_refl (length s)) (omega arith) q f ∙ ap (misses 9) z) p.inside)

  module _ {j : ℕ} (p : Passed s isAbsolute j) (h : j ≡ many) where
    over : span 0 date ≡ spans j (from s j (length s))
    over =
        let z : 0 + j ≡ j = omega arith in
        behind p (omega arith) ∙ date_over s (length s) 0 isAbsolute many j (omega arith) ∙ ap (λ (x : ℕ). spans j (from s x (length s))) z

    pub left_over : j < length s → RefusedAt s isAbsolute j
    left_over l = undated_at j (exactly_left s date over refl l)

  pub date_whole : Passed s isAbsolute (length s) → length s ≡ many → {d : Date} → plain_of d ≡ date_of s → DecodesReach (dated (reaching isAbsolute)) s (decoded_by s (Ok d))
  date_whole p h g =
      let w = exactly_all s date (over p h) refl (le_refl (length s)) in
      let f = front_whole checks s date (date_fronts checks [] s) w.2 in
      record { is = rw (w.0, w.1) refl; worth = g ∙ rw (w.0, f.0) refl }

-- how many bytes the slice's length asks for
pub ten_long : (s : List ℕ) → 10 ≤ length s → 10 ≡ date_length (has_designator s)
ten_long s h = sym (ap date_length (lt-ltb 9 (length s) (omega arith)))

-- the kind's reach
pub kind_decodes : (kind : ℕ) (s : List ℕ) {reach : Reached} {r : DecodedDate} → reach_of kind ≡ reach → DecodesReach reach s r → DateDecodes kind s r
unfolding date_decoded date_plain decode_date
kind_decodes kind s h a = record { is = a.is ∙ rw h refl; worth = a.worth ∙ rw h refl }
