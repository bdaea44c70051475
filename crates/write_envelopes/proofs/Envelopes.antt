-- An envelope's parts laid into the output: what was laid before it stays, and what lies behind it is as it was.
use Prim.Native.Nat.{ℕ, suc, ◌+◌, ◌-◌, ◌≤◌, ◌<◌}
use mathlib.Core.List.{List, ◌∷◌, ◌++◌, append_assoc, append-nil}
use mathlib.Core.Bool.{Bool, true, false}
use mathlib.Core.Path.{◌≡◌, refl, ap, sym, ◌∙◌, subst}
use native.Mathlib.Omega.{arith}
use lib.Dec.{leb}
use lib.ListN.{length, take, drop, length-append, length-take}
use lib.Seq.{sets, sets-eq, take_at, drop-length, length-take-le}
use borrow.Rule.Slice.PartMut.{put_mid, post_of, Post-is, mid_len, drop_put, same_len_mid}
use borrow.Author.Tests.{le-leb, lt-leb}
use Rattle.meaning.specs.Basics.{pick}
use Rattle.meaning.specs.Bytes.{length_bytes, two_bytes, four_bytes}
use Rattle.meaning.specs.Writing.{Cell, envelope_size, wrap}
use Rattle.write_rows.specs.Laying.{one, capped, Laid, laid_as}
use Rattle.write_rows.specs.Bodies.{Body, halt, body}
use Rattle.write_inside.specs.Insides.{BodyIs}
use Rattle.write_envelopes.specs.Whole.{Measured, identifier_of, head_of, EnvelopeWritten}
use Rattle.write_inside.specs.declared.body.Inside.{Inside}
use Rattle.write_rows.specs.declared.advance.Misfit.{Misfit}
use Rattle.std.specs.Prelude.{Result, Ok, Err}

-- a part that is filled whole
sets_all : (m bs : List ℕ) → length m ≡ length bs → sets m 0 bs ≡ bs
sets_all m bs q =
    let e : 0 + length bs ≡ length m = omega arith in
    sets-eq bs m 0 (omega arith) ∙ ap (λ (x : List ℕ). bs ++ x) (ap (λ (k : ℕ). drop k m) e ∙ drop-length m) ∙ append-nil bs

laid_all : {m bs m₁ : List ℕ} {p : ℕ} → Laid m 0 bs m₁ p → length m ≡ length bs → m₁ ≡ bs
laid_all {m} {bs} l q = l.memory ∙ sets_all m bs q

-- identifier and length
head_length : (base : Bool) (many : ℕ) → length (head_of base many) + many ≡ envelope_size many
head_length base many = at (leb (3 + many) 65535)
  where
    at : (b : Bool) → suc (length (pick b (length_bytes two_bytes (3 + many)) (0 ∷ 0 ∷ length_bytes four_bytes (7 + many)))) + many ≡ pick b (3 + many) (7 + many)
    at true = omega arith
    at false = omega arith

pub head_short : (base : Bool) (many : ℕ) → 3 + many ≤ 65535 → one (identifier_of base) ++ length_bytes two_bytes (3 + many) ≡ head_of base many
head_short base many h = rw (le-leb (3 + many) 65535 h) refl

pub head_long : (base : Bool) (many : ℕ) → 65535 < 3 + many → (one (identifier_of base) ++ length_bytes two_bytes 0) ++ length_bytes four_bytes (7 + many) ≡ head_of base many
head_long base many h = rw (lt-leb (3 + many) 65535 h) refl

pub one_as : {b c : ℕ} {m : List ℕ} {at : ℕ} {m₁ : List ℕ} {p : ℕ} → b ≡ c → Laid m at (one b) m₁ p → Laid m at (one c) m₁ p
one_as {b} {c} q l = laid_as l (one c) (ap one q)

-- The two parts put back

module _ (out : List ℕ) (at n end : ℕ) (h : at ≤ n) (k : n ≤ end) (l : end ≤ length out) (head bytes : List ℕ) (p : length head ≡ n - at) where
  first_part : take n (put_mid at (n - at) out head) ≡ take at out ++ head
  first_part =
      ap (take n) (sym (append_assoc (take at out) head (post_of at (n - at) out)))
      ∙ take_at (take at out ++ head) (post_of at (n - at) out) n (length-append (take at out) head ∙ omega (arith, length-take-le at out (omega arith)))

  behind : post_of n (end - n) (put_mid at (n - at) out head) ≡ drop end out
  behind = ap (drop (end - n)) (drop_put at n out head h (omega arith) p) ∙ Post-is n end out k

  pub parts_put : put_mid n (end - n) (put_mid at (n - at) out head) bytes ≡ take at out ++ ((head ++ bytes) ++ drop end out)
  parts_put =
      ap (λ (x : List ℕ). x ++ (bytes ++ post_of n (end - n) (put_mid at (n - at) out head))) first_part
      ∙ ap (λ (x : List ℕ). (take at out ++ head) ++ (bytes ++ x)) behind
      ∙ append_assoc (take at out) head (bytes ++ drop end out) ∙ ap (λ (x : List ℕ). take at out ++ x) (sym (append_assoc head bytes (drop end out)))

-- A body over an empty part is only measured

pub measured : (B : Body) (pool rows m after : List ℕ) (r : Result Inside Misfit) → BodyIs B pool rows m 0 r after → Measured B pool rows r
measured (halt j) pool rows m after (Err misfit) z = z
measured (halt j) pool rows m after (Ok inside) z = z
measured (body bytes j cells) pool rows m after (Err misfit) z = z
measured (body bytes j cells) pool rows m after (Ok inside) z = (z.0, z.1, z.2, z.3.counted ∙ (let q : 0 + length bytes ≡ length bytes = omega arith in ap capped q))

module _ (out : List ℕ) (at n end many : ℕ) (base : Bool) (e : end ≡ at + envelope_size many) (i : n ≡ end - many) (l : end ≤ length out) where
  n_is : n ≡ at + length (head_of base many)
  n_is = omega (arith, head_length base many)

  head_part : length (take (n - at) (drop at out)) ≡ length (head_of base many)
  head_part = mid_len at n out (omega (arith, head_length base many)) ∙ (let q : n - at ≡ length (head_of base many) = omega (arith, n_is) in q)

  body_bytes : (B : Body) (pool rows m lb : List ℕ) (r : Result Inside Misfit) → length m ≡ many → BodyIs B pool rows m 0 r lb → (bytes : List ℕ) (j : ℕ) (cells : List Cell) → B ≡ body bytes j cells → length bytes ≡ many → lb ≡ bytes
  body_bytes B pool rows m lb r q b bytes j cells f w = from r (subst (λ (x : Body). BodyIs x pool rows m 0 r lb) f b)
    where
      from : (r : Result Inside Misfit) → BodyIs (body bytes j cells) pool rows m 0 r lb → lb ≡ bytes
      from (Err misfit) z = absurd z
      from (Ok inside) z = laid_all z.3 (q ∙ sym w)

  pub envelope_laid : (B : Body) (pool rows lh lb : List ℕ) (r : Result Inside Misfit) {p : ℕ} → Laid (take (n - at) (drop at out)) 0 (head_of base many) lh p → BodyIs B pool rows (take (end - n) (drop n (put_mid at (n - at) out lh))) 0 r lb
      → EnvelopeWritten B pool rows base many out at (put_mid n (end - n) (put_mid at (n - at) out lh) lb) r
  envelope_laid B pool rows lh lb r a b =
      let hn = n_is in
      let hl = head_length base many in
      let lhIs : lh ≡ head_of base many = laid_all a head_part in
      let lhLength : length lh ≡ n - at = ap length lhIs ∙ (let q : length (head_of base many) ≡ n - at = omega (arith, n_is) in q) in
      let whole : length (put_mid at (n - at) out lh) ≡ length out = same_len_mid at (n - at) out lh (lhLength ∙ sym (mid_len at n out (omega arith))) in
      let m : length (take (end - n) (drop n (put_mid at (n - at) out lh))) ≡ many = mid_len n end (put_mid at (n - at) out lh) (omega arith) ∙ (let q : end - n ≡ many = omega (arith, n_is, head_length base many) in q) in
      record {
        inside = measured B pool rows (take (end - n) (drop n (put_mid at (n - at) out lh))) lb r b;
        laid = λ bytes j cells f w.
            parts_put out at n end (omega (arith, n_is)) (omega arith) l lh lb lhLength
            ∙ ap (λ (x : List ℕ). take at out ++ ((lh ++ x) ++ drop end out)) (body_bytes B pool rows (take (end - n) (drop n (put_mid at (n - at) out lh))) lb r m b bytes j cells f w)
            ∙ ap (λ (x : List ℕ). take at out ++ ((x ++ bytes) ++ drop end out)) lhIs
            ∙ ap (λ (k : ℕ). take at out ++ ((head_of base k ++ bytes) ++ drop end out)) (sym w) ∙ ap (λ (k : ℕ). take at out ++ (wrap base bytes ++ drop k out)) e;
      }

-- Parts are no longer than asked, and an envelope is a little longer than its inside

pub take_most : (k : ℕ) (xs : List ℕ) → length (take k xs) ≤ k
take_most k xs = omega (arith, length-take k xs)

pub size_least : (many : ℕ) → (many ≤ envelope_size many) × (envelope_size many ≤ 7 + many)
size_least many = at (leb (3 + many) 65535)
  where
    at : (b : Bool) → (many ≤ pick b (3 + many) (7 + many)) × (pick b (3 + many) (7 + many) ≤ 7 + many)
    at true = (omega arith, omega arith)
    at false = (omega arith, omega arith)
