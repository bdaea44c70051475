-- A value byte by byte is the value at once: each form's step against its `take..`.
use Prim.Native.Nat.{ℕ, zero, suc, ◌+◌, ◌-◌, ◌*◌, ◌≤◌, ◌<◌}
use mathlib.Core.List.{List}
use mathlib.Core.Bool.{Bool, true, false}
use mathlib.Core.Path.{◌≡◌, refl, ap, ◌∙◌}
use native.Mathlib.Omega.{arith}
use lib.Dec.{eqb}
use lib.ListN.{length, get_or}
use borrow.Author.Tests.{ne_eqb, eqb-true, eqb-false}
use Rattle.meaning.specs.Basics.{pick}
use Rattle.meaning.specs.Told.{Told}
use Rattle.meaning.specs.Bytes.{Taken, text_byte, passes, number_most, stop, more, wrong, turn, take_number, high_first, too_wide, take_bytes, block_of, Width, one_byte, two_bytes, four_bytes, bytes_of}
use Rattle.laws_steps.specs.From.{from, from_length, from_cons}
use Rattle.table.specs.declared.answers.Fault.{Fault}
use Rattle.table.specs.declared.refusals.Refusal.TheVariants.{TextWrong, DateWrong, NumberWrong, LengthFormWide}
use Rattle.values.specs.Stages.{misses, span, rule_of}
use Rattle.values.specs.Answers.{span_prefixed}
use Rattle.values.proofs.Texts.{text_stops, text_wrong, text_goes}
use Rattle.values.specs.declared.text.Rule.{Rule}
use Rattle.values.specs.Numbers.{turned, Worth, Turned}
use Rattle.values.specs.declared.number.Turning.{Turning}
use Rattle.values.specs.declared.number.Turning.TheVariants as turning
use Rattle.date.specs.Dates.{date_length, check_at, earlier}
use Rattle.date.specs.DateSteps.{date_from, date_over, date_wrong, date_goes}
use Rattle.plain.specs.declared.feed.Pending.{Pending}
use Rattle.plain.specs.declared.feed.Taking.TheVariants.{Text, Date, Number, Length, Block}
use Rattle.plain.specs.declared.feed.Fed.{Fed}
use Rattle.plain.specs.declared.feed.Fed.TheVariants.{Goes, Ends, Wrong}
use Rattle.plain.specs.Values.{width_of, length_below, span_from, Valid, fed_span, Follows, block_from, Feeds}

module _ (t : Told) (s : List ℕ) (at : ℕ) where
  -- Texts
  module _ (rule : Rule) (of : Pending) (v : Valid (Text rule of) at) where
    pub text_ended : get_or s at 0 ≡ 0 → Feeds t s (Text rule of) at (Ends of (at - of.start))
    unfolding span_from fed_span Follows Valid
    text_ended z = record { is = λ end h l. text_stops (rule_of rule) s end l of.start at v h z; follows = (record { kind = refl; next = refl }, omega arith) }

    pub text_further : text_byte (rule_of rule) (get_or s at 0) ≡ true → Feeds t s (Text rule of) at (Goes (Text rule of))
    unfolding span_from fed_span Follows Valid
    text_further b = record { is = λ end h l. text_goes (rule_of rule) s end l of.start at v h b; follows = (record { kind = refl; next = refl }, refl, omega arith) }

    pub text_refused : (get_or s at 0 ≡ 0 → ⊥) → text_byte (rule_of rule) (get_or s at 0) ≡ false → {fault : Fault} → fault ≡ record { refusal = TextWrong; at = at } → Feeds t s (Text rule of) at (Wrong fault)
    unfolding span_from fed_span Follows Valid
    text_refused z b e = rw e (record { is = λ end h l. text_wrong (rule_of rule) s end l of.start at v h z b; follows = omega arith })

  -- Dates; r: whether the byte passes
  module _ (isAbsolute designated : Bool) (of : Pending) (v : Valid (Date isAbsolute designated of) at) {r : Bool}
      (is : r ≡ passes (check_at isAbsolute (at - of.start)) (earlier s of.start (at - of.start)) (get_or s (of.start + (at - of.start)) 0)) where
    date_on : r ≡ true → (end : ℕ) → at < end → end ≤ length s
        → date_from s end of.start isAbsolute (date_length designated) (at - of.start) ≡ date_from s end of.start isAbsolute (date_length designated) (at + 1 - of.start)
    unfolding Valid
    date_on q end h l =
        let u : at - of.start + 1 ≡ at + 1 - of.start = omega (arith, v.0) in
        date_goes s end of.start isAbsolute (date_length designated) (at - of.start) (omega (arith, v.0, v.1)) l (omega (arith, v.0)) is q ∙ ap (date_from s end of.start isAbsolute (date_length designated)) u

    pub date_further : r ≡ true → at - of.start + 1 < date_length designated → Feeds t s (Date isAbsolute designated of) at (Goes (Date isAbsolute designated of))
    unfolding span_from fed_span Follows Valid
    date_further q k = record { is = date_on q; follows = (record { kind = refl; next = refl }, refl, (omega (arith, v.0), omega (arith, v.0))) }

    pub date_ended : r ≡ true → date_length designated ≤ at - of.start + 1 → Feeds t s (Date isAbsolute designated of) at (Ends of (at - of.start + 1))
    unfolding span_from fed_span Follows Valid
    date_ended q k = record {
      is = λ end h l.
          let u : of.start + (at + 1 - of.start) ≡ at + 1 = omega (arith, v.0) in
          let w : at + 1 - of.start ≡ at - of.start + 1 = omega (arith, v.0) in
          date_on q end h l ∙ date_over s end of.start isAbsolute (date_length designated) (at + 1 - of.start) (omega (arith, v.0)) ∙ rw (u, w) refl;
      follows = (record { kind = refl; next = refl }, omega (arith, v.0));
    }

    pub date_refused : r ≡ false → {fault : Fault} → fault ≡ record { refusal = DateWrong; at = at } → Feeds t s (Date isAbsolute designated of) at (Wrong fault)
    unfolding span_from fed_span Follows Valid
    date_refused q e = rw e (record {
      is = λ end h l.
          let u : of.start + (at - of.start) ≡ at = omega (arith, v.0) in
          date_wrong s end of.start isAbsolute (date_length designated) (at - of.start) (omega (arith, v.0, v.1)) l (omega (arith, v.0)) is q ∙ rw u refl;
      follows = omega arith;
    })

  -- Payload lengths
  module _ (number : ℕ) (of : Pending) (v : Valid (Number number of) at) where
    pub number_ended : turn number (eqb at of.start) (get_or s at 0) ≡ stop → Feeds t s (Number number of) at (Ends of (at - of.start + 1))
    unfolding span_from fed_span Follows Valid take_number
    number_ended q = record {
      is = λ end h l. rw (from_cons s at end h l, q) refl;
      follows = (record { kind = refl; next = refl }, omega (arith, v.0));
    }

    pub number_further : (value : ℕ) → value ≤ number_most → turn number (eqb at of.start) (get_or s at 0) ≡ more value → Feeds t s (Number number of) at (Goes (Number value of))
    unfolding span_from fed_span Follows Valid take_number
    number_further value k q = record {
      is = λ end h l.
          let u : at - of.start + 1 ≡ at + 1 - of.start = omega (arith, v.0) in
          let z : eqb (at + 1) of.start ≡ false = ne_eqb (at + 1) of.start (λ e. omega (arith, v.0)) in
          rw (from_cons s at end h l, q, z) (span_prefixed (at - of.start) (get_or s at 0) (take_number value false (from s (at + 1) end)) ∙ rw u refl);
      follows = (record { kind = refl; next = refl }, refl, (omega (arith, v.0), k));
    }

    pub number_refused : turn number (eqb at of.start) (get_or s at 0) ≡ wrong → {fault : Fault} → fault ≡ record { refusal = NumberWrong; at = at } → Feeds t s (Number number of) at (Wrong fault)
    unfolding span_from fed_span Follows Valid take_number
    number_refused q e = rw e (record {
      is = λ end h l. rw (from_cons s at end h l, q) (ap (misses 10) (omega (arith, from_length s (at + 1) end (omega arith) l)));
      follows = omega arith;
    })

    -- .. by what a turn answers
    module _ {b : ℕ} {answer : Turning} (byte : b ≡ get_or s at 0) (turns : Turned number (eqb at of.start) b answer) where
      turn_is : turn number (eqb at of.start) (get_or s at 0) ≡ turned answer
      turn_is = rw (← byte) turns.is

      pub number_stops : {value : ℕ} → answer ≡ turning.Stop value → Feeds t s (Number number of) at (Ends of (at - of.start + 1))
      unfolding turned
      number_stops q = number_ended (turn_is ∙ ap turned q)

      pub number_goes : {value : ℕ} → answer ≡ turning.More value → Feeds t s (Number number of) at (Goes (Number value of))
      unfolding turned Worth
      number_goes {value} q = let w = rw q at turns.worth in number_further value w.0 (turn_is ∙ ap turned q)

      pub number_wrongs : answer ≡ turning.Wrong → {fault : Fault} → fault ≡ record { refusal = NumberWrong; at = at } → Feeds t s (Number number of) at (Wrong fault)
      unfolding turned
      number_wrongs q e = number_refused (turn_is ∙ ap turned q) e

  -- Blocks
  module _ (until : ℕ) (of : Pending) (v : Valid (Block until of) at) where
    pub block_on : (end : ℕ) → at < end → end ≤ length s → span (at - of.start) (take_bytes (until - at) (from s at end)) ≡ span (at + 1 - of.start) (take_bytes (until - (at + 1)) (from s (at + 1) end))
    unfolding Valid take_bytes
    block_on end h l =
        let k : until - at ≡ suc (until - (at + 1)) = omega (arith, v.1) in
        let u : at - of.start + 1 ≡ at + 1 - of.start = omega (arith, v.0) in
        rw (k, from_cons s at end h l) (span_prefixed (at - of.start) (get_or s at 0) (take_bytes (until - (at + 1)) (from s (at + 1) end)) ∙ rw u refl)

    pub block_further : at + 1 < until → Feeds t s (Block until of) at (Goes (Block until of))
    unfolding span_from fed_span Follows Valid
    block_further k = record { is = block_on; follows = (record { kind = refl; next = refl }, refl, (omega (arith, v.0), k)) }

    pub block_ended : until ≤ at + 1 → Feeds t s (Block until of) at (Ends of (at + 1 - of.start))
    unfolding span_from fed_span Follows Valid take_bytes
    block_ended k = record {
      is = λ end h l.
          let z : until - (at + 1) ≡ 0 = omega arith in
          let u : at + 1 - of.start + 0 ≡ at + 1 - of.start = omega arith in
          block_on end h l ∙ rw (z, u) refl;
      follows = (record { kind = refl; next = refl }, omega (arith, v.0));
    }

  -- Lengths of blocks
  module _ (width number : ℕ) (of : Pending) (v : Valid (Length width number of) at) (n : ℕ) (is : n ≡ 256 * number + get_or s at 0) where
    length_on : (end : ℕ) → at < end → end ≤ length s → high_first (of.start + width - at) number (from s at end) ≡ high_first (of.start + width - (at + 1)) n (from s (at + 1) end)
    unfolding Valid high_first
    length_on end h l =
        let k : of.start + width - at ≡ suc (of.start + width - (at + 1)) = omega (arith, v.2) in
        rw (k, from_cons s at end h l, is) refl

    pub length_further : at + 1 - of.start < width → n < length_below (at + 1 - of.start) → Feeds t s (Length width number of) at (Goes (Length width n of))
    unfolding span_from fed_span Follows Valid
    length_further k b = record {
      is = λ end h l. rw (length_on end h l) refl;
      follows = (record { kind = refl; next = refl }, refl, (v.0, omega (arith, v.1), omega (arith, v.1), v.3, b));
    }

    module _ (whole : width ≤ at + 1 - of.start) where
      length_over : (end : ℕ) → at < end → end ≤ length s
          → span_from (record { told = t; bytes = s; end = end }) (Length width number of) at ≡ span 0 (pick (too_wide t (width_of width) n) (Taken.failed 11 (end - (of.start - 1))) (take_bytes n (from s (at + 1) end)))
      unfolding span_from Valid high_first block_of
      length_over end h l =
          let z : of.start + width - (at + 1) ≡ 0 = omega (arith, v.1) in
          rw (length_on end h l, z) refl

      pub length_wide : too_wide t (width_of width) n ≡ true → {fault : Fault} → fault ≡ record { refusal = LengthFormWide; at = of.start - 1 } → Feeds t s (Length width number of) at (Wrong fault)
      unfolding fed_span Follows Valid
      length_wide q e = rw e (record { is = λ end h l. length_over end h l ∙ rw q refl; follows = omega (arith, v.1) })

      module _ (narrow : too_wide t (width_of width) n ≡ false) where
        abbrev here : Pending
        here = record { kind = of.kind; next = of.next; start = at + 1 }

        length_block : (z : Bool) → eqb n 0 ≡ z → Feeds t s (Length width number of) at (pick z (Ends here 0) (Goes (Block (at + 1 + n) here)))
        unfolding span_from fed_span Follows Valid take_bytes
        length_block true q = record {
          is = λ end h l.
              let e : n ≡ 0 = eqb-true n 0 q in
              length_over end h l ∙ rw (narrow, e) refl;
          follows = (record { kind = refl; next = refl }, omega arith);
        }
        length_block false q = record {
          is = λ end h l.
              let u : at + 1 - (at + 1) ≡ 0 = omega arith in
              let w : at + 1 + n - (at + 1) ≡ n = omega arith in
              length_over end h l ∙ rw (narrow, u, w) refl;
          follows = (record { kind = refl; next = refl }, refl, (omega arith, omega (arith, eqb-false n 0 q)));
        }

        pub length_ended : Feeds t s (Length width number of) at (block_from (at + 1) n of)
        length_ended = length_block (eqb n 0) refl

        pub length_ends : {x : Fed} → x ≡ block_from (at + 1) n of → Feeds t s (Length width number of) at x
        length_ends q = rw q length_ended

-- a length's bytes so far are below what so many bytes can say
pub below_most : (j : ℕ) → length_below j ≤ 4294967296
below_most zero = omega arith
below_most (suc zero) = omega arith
below_most (suc (suc zero)) = omega arith
below_most (suc (suc (suc zero))) = omega arith
below_most (suc (suc (suc (suc j)))) = omega arith

pub below_next : (j number b : ℕ) → number < length_below j → b < 256 → j < 4 → 256 * number + b < length_below (j + 1)
below_next zero number b h k l = omega arith
below_next (suc zero) number b h k l = omega arith
below_next (suc (suc zero)) number b h k l = omega arith
below_next (suc (suc (suc zero))) number b h k l = omega arith
below_next (suc (suc (suc (suc j)))) number b h k l = absurd (omega arith)

width_most : (w : Width) → bytes_of w ≤ 4
width_most one_byte = omega arith
width_most two_bytes = omega arith
width_most four_bytes = omega arith

module _ (width number at : ℕ) (of : Pending) (v : Valid (Length width number of) at) where
  pub length_low : number < 4294967296
  unfolding Valid
  length_low = omega (arith, v.4, below_most (at - of.start))

  pub length_next : {b : ℕ} → b < 256 → 256 * number + b < length_below (at + 1 - of.start)
  unfolding Valid
  length_next {b} h =
      let q : at - of.start + 1 ≡ at + 1 - of.start = omega (arith, v.1) in
      rw (← q) (below_next (at - of.start) number b v.4 h (omega (arith, v.1, v.2, v.3, width_most (width_of width))))

  pub length_starts : (1 ≤ of.start) × (of.start ≤ at) × (bytes_of (width_of width) ≡ width)
  unfolding Valid
  length_starts = (v.0, v.1, v.3)
