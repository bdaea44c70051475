-- "Envelope at most 1,048,576 bytes", where an envelope's bytes are left open: so many cannot be computed. From which length on they are over the limit,
-- Coding's `sizes` computes.
use Rattle.std.specs.Prelude.{ℕ, suc, ◌≡◌, refl, List, ◌∷◌, Bool, true, false, ◌&&◌, ltb, length}
use Rattle.std.proofs.Common.{ap}
use Rattle.meaning.specs.Basics.{pick}
use Rattle.meaning.specs.Told.{Edition}
use Rattle.meaning.specs.Headers.{Placed, envelopes_most}
use Rattle.meaning.specs.Writing.{Envelope, envelope_at, within_limit, exceeds, limits}
use Rattle.meaning.specs.Memory.{words_read}
use Rattle.meaning.specs.Relay.{relayed, unrelayed, joint_of, joined_limits}

-- the writer: "5 (place: the envelope's row)", wherever it stands and whatever follows; one within the limit leaves it to those behind it
pub over_limit : (n at : ℕ) (base : Bool) (bs : List ℕ) (vs : List Envelope) → within_limit (length bs) ≡ false → limits (suc n) (envelope_at at base bs ∷ vs) ≡ exceeds at
over_limit n at base bs vs over = ap (λ b. pick b (limits n vs) (exceeds at)) over

pub within_limit_lem : (n at : ℕ) (base : Bool) (bs : List ℕ) (vs : List Envelope) → within_limit (length bs) ≡ true → limits (suc n) (envelope_at at base bs ∷ vs) ≡ limits n vs
within_limit_lem n at base bs vs within = ap (λ b. pick b (limits n vs) (exceeds at)) within

-- the relay: "5 at row 0 for .. a new one over the limit"
and_false : (a b : Bool) → b ≡ false → (a && b) ≡ false
and_false true b p = p
and_false false b p = refl

pub relay_over_limit : (e : Edition) (bs old : List ℕ) (rows : List Placed) → within_limit (length bs) ≡ false → joined_limits e bs old rows ≡ unrelayed 5 0
relay_over_limit e bs old rows over =
    ap (λ b. pick b (relayed (joint_of e bs old rows)) (unrelayed 5 0)) (and_false (ltb (length (words_read rows)) envelopes_most) (within_limit (length bs)) over)
