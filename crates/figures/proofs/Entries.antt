-- What a message counts as, by its label and its strict reading.
use Prim.Native.Nat.{ℕ, ◌≤◌}
use mathlib.Core.List.{List}
use mathlib.Core.Bool.{◌&&◌, ◌||◌, not}
use mathlib.Core.Path.{◌≡◌, refl, ap, sym, ◌∙◌}
use native.Mathlib.Omega.{arith}
use lib.Dec.{T, leb, eqb, leb→le}
use Rattle.meaning.specs.Told.{Edition, known, unknown, label_of, strict, told}
use Rattle.meaning.specs.Headers.{Placed, refused, accepted, header, envelopes_most, labelled, read_by, read}
use Rattle.meaning.specs.Bytes.{shortest_only}
use Rattle.meaning.specs.Figures.{apart, taken, turned, entry_in, entry_by, entry_of}
use Rattle.laws_steps.specs.Logic.{are_bytes, left_of, right_of}
use Rattle.laws_tables.specs.Refusals.{refused_shape}
use Rattle.laws_tables.specs.EnvelopeCounts.{place_most}
use Rattle.frames.specs.Counts.{EnvelopesCounted}
use Rattle.figures.specs.Stages.{number_bound}
use Rattle.figures.specs.Promises.{message}

module _ (edition : ℕ) (input : List ℕ) where
  pub entry_apart : label_of edition ≡ unknown → entry_of (message edition input) ≡ apart
  unfolding entry_of
  entry_apart k = rw k refl

  module _ {e : Edition} (k : label_of edition ≡ known e) where
    module _ {refusal place : ℕ} (q : read edition input ≡ refused refusal place) where
      by_header : header envelopes_most (told e) 0 input ≡ refused refusal place
      unfolding read_by
      by_header = ap (labelled strict input) (sym k) ∙ q

      pub entry_turned : entry_of (message edition input) ≡ turned e refusal
      unfolding entry_of
      entry_turned = ap (entry_by input) k ∙ ap (entry_in e) by_header

      may : T (leb 2 refusal && leb refusal 13)
      may = left_of (leb 2 refusal && leb refusal 13) (not (eqb refusal 11) || shortest_only strict) (refused_shape envelopes_most (told e) input refusal place by_header).0

      pub turned_least : 2 ≤ refusal
      turned_least = leb→le 2 refusal (left_of (leb 2 refusal) (leb refusal 13) may)

      pub turned_most : refusal ≤ 13
      turned_most = leb→le refusal 13 (right_of (leb 2 refusal) (leb refusal 13) may)

    pub entry_taken : {place envelopes : ℕ} {rows : List Placed} → read edition input ≡ accepted place rows → EnvelopesCounted input envelopes → entry_of (message edition input) ≡ taken e envelopes place
    unfolding entry_of read_by
    entry_taken {place} {envelopes} {rows} q c =
        let h : header envelopes_most (told e) 0 input ≡ accepted place rows = ap (labelled strict input) (sym k) ∙ q in
        ap (entry_by input) k ∙ ap (entry_in e) h ∙ ap (λ n. taken e n place) (sym (c.is (told e) place rows h))

  pub taken_bytes : {place : ℕ} {rows : List Placed} → T (are_bytes input) → read edition input ≡ accepted place rows → place ≤ number_bound
  taken_bytes {place} {rows} t q = let m = place_most edition input place rows t q in omega (arith, m)
