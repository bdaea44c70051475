-- A header is refused exactly where `BadHeader` says so. By induction over the envelopes.
use Rattle.std.specs.Prelude.{ℕ, zero, suc, ◌+◌, ◌-◌, ◌≤◌, ◌<◌, List, [], ◌∷◌, ◌++◌, map, Bool, true, false, ◌≡◌, T, eqb, ltb, take, drop}
use Rattle.std.proofs.Common.{append_assoc, ap, sym, ◌∙◌, subst, length-take, take-append-drop}
use Rattle.std.proofs.Math.Path.{refl}
use native.Mathlib.Omega.{arith}
use Rattle.std.proofs.Math.ListN.{length, length-append}
use Rattle.std.proofs.Math.Seq.{take-append_seam, drop-append_seam}
use borrow.Author.Tests.{eqb-true, eqb-false, ne_eqb, lt-ltb, le-ltb, ltb-true, ltb-false}
use Rattle.meaning.specs.Basics.{pick}
use Rattle.meaning.specs.Bytes.{Count, counted, short, high_first}
use Rattle.meaning.specs.Told.{Edition, Told, told}
use Rattle.meaning.specs.Editions.{State}
use Rattle.meaning.specs.Reading.{Out, dry, fault, done, inside}
use Rattle.meaning.specs.Headers.{Placed, placed_row, placed, Answer, refused, accepted, behind, envelope_most, opening, start, Onward, ends, envelope, short_least, long_least, long_form, sized, header}
use Rattle.laws_steps.specs.Logic.{are_bytes, other_bytes, bytes_front, bytes_behind}
use Rattle.laws_steps.specs.Steps.{Wet, never_dry}
use Rattle.laws_tables.specs.Refusals.{OutNumbered, run_numbered}
use Rattle.laws_demands.specs.Grammatical.{inside_done}
use Rattle.meaning.specs.Faults.{Worth, identifier, Declares, in_short, in_long, CutLength, in_two, in_four, GoodLength, BadHeader, no_identifier, length_cut, input_cut, not_identifier, one_too_many, length_low, length_high, bad_inside, bad_behind}
use Rattle.laws_demands.specs.FaultyValues.{worth_before, worth_length, worth_of, too_short, is_short_lem}
use Rattle.laws_demands.specs.FaultyInsides.{inside_stops, InsideIs, inside_is}

-- identifier and length take `head` bytes, seven at most, and no length that its form allows is less
pub head_length : {ls : List ℕ} {head least n : ℕ} → Declares ls head least n → suc (length ls) ≡ head
head_length (in_short h q) = omega (arith, worth_length h)
head_length (in_long {zeros = zeros} {ls = ls} h k) = omega (arith, worth_length h, worth_length k, length-append zeros ls)

pub head_most : {ls : List ℕ} {head least n : ℕ} → Declares ls head least n → suc (length ls) ≤ 7
head_most (in_short h q) = omega (arith, worth_length h)
head_most (in_long {zeros = zeros} {ls = ls} h k) = omega (arith, worth_length h, worth_length k, length-append zeros ls)

pub head_least : {ls : List ℕ} {head least n : ℕ} → Declares ls head least n → head ≤ least
head_least (in_short h q) = omega arith
head_least (in_long h k) = omega arith

-- From what is said to what is given

module _ (t : Told) (base : Bool) (at all : ℕ) (more : Onward) where
  declared : {ls : List ℕ} {head least n : ℕ} → Declares ls head least n → (s : List ℕ) → sized t base at all more (high_first 2 0 (ls ++ s)) ≡ envelope t base least at head n s more
  declared (in_short {n = n} h q) s = rw (worth_before h s, ne_eqb n 0 q) refl
  declared (in_long {zeros = zeros} {ls = ls} h k) s = rw (append_assoc zeros ls s, worth_before h (ls ++ s), worth_before k s) refl

  cut_length : {s : List ℕ} → CutLength s → sized t base at all more (high_first 2 0 s) ≡ refused 2 (at + all)
  cut_length (in_two {s = s} h) = rw (too_short 2 0 s h) refl
  cut_length (in_four s h l) = rw (worth_before h s, too_short 4 0 s l) refl

  envelope_cut : (least head n : ℕ) (s : List ℕ) → least ≤ n → n ≤ envelope_most → head + length s < n → envelope t base least at head n s more ≡ refused 2 (at + head + length s)
  unfolding envelope
  envelope_cut least head n s lo hi h = rw (le-ltb n least lo, le-ltb envelope_most n hi, lt-ltb (head + length s) n h) refl

  envelope_low : (least head n : ℕ) (s : List ℕ) → n < least → envelope t base least at head n s more ≡ refused 4 (at + 1)
  unfolding envelope
  envelope_low least head n s h = rw (lt-ltb n least h) refl

  envelope_high : (least head n : ℕ) (s : List ℕ) → least ≤ n → envelope_most < n → envelope t base least at head n s more ≡ refused 5 (at + 1)
  unfolding envelope
  envelope_high least head n s lo h = rw (le-ltb n least lo, lt-ltb envelope_most n h) refl

  envelope_read : (least head n : ℕ) (bytes rest : List ℕ) → least ≤ n → n ≤ envelope_most → head + length bytes ≡ n
      → envelope t base least at head n (bytes ++ rest) more ≡ behind (placed_row (opening base) 0 at [] ∷ []) (ends base (at + n) rest more (inside t (start base) bytes))
  unfolding envelope
  envelope_read least head n bytes rest lo hi q =
      let c : n - head ≡ length bytes = omega arith in
      rw (le-ltb n least lo, le-ltb envelope_most n hi, le-ltb (head + length (bytes ++ rest)) n (omega (arith, length-append bytes rest)), c, take-append_seam bytes rest, drop-append_seam bytes rest) refl

header_none : (k : ℕ) (t : Told) (at : ℕ) → header k t at [] ≡ refused 2 at
unfolding header
header_none zero t at = refl
header_none (suc k) t at = refl

header_strange : (k : ℕ) (t : Told) (at b : ℕ) (s : List ℕ) → (b ≡ identifier true → ⊥) → (b ≡ identifier false → ⊥) → header k t at (b ∷ s) ≡ refused 3 at
unfolding header
header_strange zero t at b s p q = rw (ne_eqb b 0xfd q, ne_eqb b 0xfe p) refl
header_strange (suc k) t at b s p q = rw (ne_eqb b 0xfd q, ne_eqb b 0xfe p) refl

header_last : (t : Told) (at : ℕ) (base : Bool) (s : List ℕ) → header 0 t at (identifier base ∷ s) ≡ refused 5 at
unfolding header
header_last t at true s = refl
header_last t at false s = refl

pub header_sized : (k : ℕ) (t : Told) (at : ℕ) (base : Bool) (s : List ℕ) → header (suc k) t at (identifier base ∷ s) ≡ sized t base at (suc (length s)) (header k t) (high_first 2 0 s)
unfolding header
header_sized k t at true s = refl
header_sized k t at false s = refl

pub header_refuses : (e : Edition) {k at : ℕ} {s : List ℕ} {refusal place : ℕ} → BadHeader e k at s refusal place → header k (told e) at s ≡ refused refusal place
header_refuses e (no_identifier {k} {at}) = header_none k (told e) at
header_refuses e (length_cut {k} {at} final {s} h) = header_sized k (told e) at final s ∙ cut_length (told e) final at (suc (length s)) (header k (told e)) h
header_refuses e (input_cut {k} {at} {head} {n} {ls} final s g h) =
    let all = suc (length (ls ++ s)) in
    let p : at + head + length s ≡ at + all = omega (arith, length-append ls s, head_length g.declares) in
    header_sized k (told e) at final (ls ++ s) ∙ declared (told e) final at all (header k (told e)) g.declares s ∙ envelope_cut (told e) final at all (header k (told e)) g.least head n s g.enough g.within h ∙ ap (refused 2) p
header_refuses e (not_identifier {k} {at} {b} {s} p q) = header_strange k (told e) at b s p q
header_refuses e (one_too_many {at} {s} final) = header_last (told e) at final s
header_refuses e (length_low {k} {at} {head} {least} {n} {ls} final s d h) =
    let all = suc (length (ls ++ s)) in
    header_sized k (told e) at final (ls ++ s) ∙ declared (told e) final at all (header k (told e)) d s ∙ envelope_low (told e) final at all (header k (told e)) least head n s h
header_refuses e (length_high {k} {at} {head} {least} {n} {ls} final s d lo h) =
    let all = suc (length (ls ++ s)) in
    header_sized k (told e) at final (ls ++ s) ∙ declared (told e) final at all (header k (told e)) d s ∙ envelope_high (told e) final at all (header k (told e)) least head n s lo h
header_refuses e (bad_inside {k} {at} {head} {n} {refusal} {left} {place} {ls} {bytes} final rest g q i p) =
    let s = bytes ++ rest in
    let all = suc (length (ls ++ s)) in
    let there : at + n - left ≡ place = omega arith in
    header_sized k (told e) at final (ls ++ s) ∙ declared (told e) final at all (header k (told e)) g.declares s ∙ envelope_read (told e) final at all (header k (told e)) g.least head n bytes rest g.enough g.within q
    ∙ ap (behind (placed_row (opening final) 0 at [] ∷ [])) (inside_stops e final (at + head) bytes refusal left i (at + n) rest (header k (told e))) ∙ ap (refused refusal) there
header_refuses e (bad_behind {k} {at} {head} {n} {refusal} {place} {ls} {bytes} {rest} {rows} g q i h) =
    let s = bytes ++ rest in
    let all = suc (length (ls ++ s)) in
    let (seens, d, are) = inside_done e false (at + head) bytes rows i in
    header_sized k (told e) at false (ls ++ s) ∙ declared (told e) false at all (header k (told e)) g.declares s ∙ envelope_read (told e) false at all (header k (told e)) g.least head n bytes rest g.enough g.within q
    ∙ ap (λ (o : Out). behind (placed_row (opening false) 0 at [] ∷ []) (ends false (at + n) rest (header k (told e)) o)) d
    ∙ ap (λ (a : Answer). behind (placed_row (opening false) 0 at [] ∷ []) (behind (map (placed (at + n)) seens) a)) (header_refuses e h)

-- From what is given to what is said

abbrev HeaderIs : Edition → ℕ → ℕ → List ℕ → Answer → Type 0
HeaderIs e k at s (refused refusal place) = BadHeader e k at s refusal place
HeaderIs e k at s (accepted place rows) = Unit {0}

-- no more bytes are left at a fault than there were
inside_left : (t : Told) (st : State) (s : List ℕ) → OutNumbered t (length s) (inside t st s)
unfolding inside
inside_left t st s = run_numbered (suc (length s)) t st s

abbrev Ih : Edition → ℕ → Type 0
Ih e k = (at : ℕ) (s : List ℕ) → T (are_bytes s) → HeaderIs e k at s (header k (told e) at s)

module _ (e : Edition) (k at : ℕ) (ls : List ℕ) (least head n : ℕ) (d : Declares ls head least n) (ih : Ih e k) where
  -- behind an extension
  behind_is : (bytes rest : List ℕ) (rs : List Placed) (a : Answer) → GoodLength ls head n → head + length bytes ≡ n → InsideIs e (start false) (at + head) bytes (done [] []) → HeaderIs e k (at + n) rest a
      → HeaderIs e (suc k) at (identifier false ∷ (ls ++ (bytes ++ rest))) (behind (placed_row (opening false) 0 at [] ∷ []) (behind rs a))
  behind_is bytes rest rs (refused refusal place) g q i h = bad_behind g q (record { last = i.last; steps = i.steps; closes = i.closes }) h
  behind_is bytes rest rs (accepted place ts) g q i h = tt

  -- the inside is read, to its end or to a fault
  ends_is : (final : Bool) (bytes rest : List ℕ) (o : Out) → GoodLength ls head n → head + length bytes ≡ n → T (are_bytes rest) → InsideIs e (start final) (at + head) bytes o → Wet o → OutNumbered (told e) (length bytes) o
      → HeaderIs e (suc k) at (identifier final ∷ (ls ++ (bytes ++ rest))) (behind (placed_row (opening final) 0 at [] ∷ []) (ends final (at + n) rest (header k (told e)) o))
  ends_is final bytes rest dry g q t i w l = absurd w
  ends_is final bytes rest (fault refusal left) g q t i w (m, l) = bad_inside {place = at + n - left} final rest g q i (omega arith)
  ends_is final bytes rest (done rs (b ∷ s)) g q t i w l = bad_inside {place = at + n - length (b ∷ s)} final rest g q i (omega arith)
  ends_is true bytes rest (done rs []) g q t i w l = tt
  ends_is false bytes rest (done rs []) g q t i w l = behind_is bytes rest (map (placed (at + n)) rs) (header k (told e) (at + n) rest) g q i (ih (at + n) rest t)

  envelope_is : (final : Bool) (s : List ℕ) → T (are_bytes s) → HeaderIs e (suc k) at (identifier final ∷ (ls ++ s)) (envelope (told e) final least at head n s (header k (told e)))
  envelope_is final s t = by (ltb n least) (ltb envelope_most n) (ltb (head + length s) n) refl refl refl
    where
      whole : least ≤ n → GoodLength ls head n → head ≤ n → n ≤ head + length s → (bytes rest : List ℕ) → bytes ++ rest ≡ s → length bytes ≡ n - head → HeaderIs e (suc k) at (identifier final ∷ (ls ++ s)) (envelope (told e) final least at head n s (header k (told e)))
      whole lo g h all bytes rest c l =
          let u : T (are_bytes (bytes ++ rest)) = subst (λ (x : List ℕ). T (are_bytes x)) (sym c) t in
          let q : head + length bytes ≡ n = omega arith in
          subst (λ (x : List ℕ). HeaderIs e (suc k) at (identifier final ∷ (ls ++ x)) (envelope (told e) final least at head n x (header k (told e)))) c
          (subst (HeaderIs e (suc k) at (identifier final ∷ (ls ++ (bytes ++ rest)))) (sym (envelope_read (told e) final at 0 (header k (told e)) least head n bytes rest lo g.within q))
          (ends_is final bytes rest (inside (told e) (start final) bytes) g q (bytes_behind bytes rest u) (inside_is e (start final) (at + head) bytes (bytes_front bytes rest u)) (never_dry (told e) (start final) bytes) (inside_left (told e) (start final) bytes)))

      by : (x y z : Bool) → ltb n least ≡ x → ltb envelope_most n ≡ y → ltb (head + length s) n ≡ z → HeaderIs e (suc k) at (identifier final ∷ (ls ++ s)) (envelope (told e) final least at head n s (header k (told e)))
      by true y z p q r =
          let h = ltb-true n least p in
          subst (HeaderIs e (suc k) at (identifier final ∷ (ls ++ s))) (sym (envelope_low (told e) final at 0 (header k (told e)) least head n s h)) (length_low final s d h)
      by false true z p q r =
          let lo = ltb-false n least p in
          let h = ltb-true envelope_most n q in
          subst (HeaderIs e (suc k) at (identifier final ∷ (ls ++ s))) (sym (envelope_high (told e) final at 0 (header k (told e)) least head n s lo h)) (length_high final s d lo h)
      by false false true p q r =
          let lo = ltb-false n least p in
          let hi = ltb-false envelope_most n q in
          let h = ltb-true (head + length s) n r in
          let there : at + length (identifier final ∷ (ls ++ s)) ≡ at + head + length s = omega (arith, length-append ls s, head_length d) in
          subst (HeaderIs e (suc k) at (identifier final ∷ (ls ++ s))) (sym (envelope_cut (told e) final at 0 (header k (told e)) least head n s lo hi h))
          (subst (BadHeader e (suc k) at (identifier final ∷ (ls ++ s)) 2) there (input_cut final s (record { least = least; declares = d; enough = lo; within = hi }) h))
      by false false false p q r =
          let lo = ltb-false n least p in
          let hi = ltb-false envelope_most n q in
          let all = ltb-false (head + length s) n r in
          let short = head_least d in
          whole lo (record { least = least; declares = d; enough = lo; within = hi }) (omega arith) all (take (n - head) s) (drop (n - head) s) (take-append-drop (n - head) s) (omega (arith, length-take (n - head) s))

module _ (e : Edition) (k at : ℕ) (final : Bool) (ih : Ih e k) where
  long_is : (zeros rest : List ℕ) (all : ℕ) → Worth 2 zeros 0 → T (are_bytes rest) → all ≡ suc (length (zeros ++ rest)) → (r : Count) → high_first 4 0 rest ≡ r
      → HeaderIs e (suc k) at (identifier final ∷ (zeros ++ rest)) (long_form (told e) final at all (header k (told e)) r)
  long_is zeros rest all h t a short q = subst (λ (x : ℕ). BadHeader e (suc k) at (identifier final ∷ (zeros ++ rest)) 2 (at + x)) (sym a) (length_cut final (in_four rest h (is_short_lem 4 0 rest q)))
  long_is zeros rest all h t a (counted n s) q =
      let (ls, p, w) = worth_of 4 rest n s q in
      let parts : (zeros ++ ls) ++ s ≡ zeros ++ rest = append_assoc zeros ls s ∙ ap (λ (x : List ℕ). zeros ++ x) (sym p) in
      subst (λ (x : List ℕ). HeaderIs e (suc k) at (identifier final ∷ x) (envelope (told e) final long_least at 7 n s (header k (told e)))) parts
      (envelope_is e k at (zeros ++ ls) long_least 7 n (in_long h w) ih final s (bytes_behind ls s (subst (λ (x : List ℕ). T (are_bytes x)) p t)))

  sized_is : (s : List ℕ) → T (are_bytes s) → (r : Count) → high_first 2 0 s ≡ r → HeaderIs e (suc k) at (identifier final ∷ s) (sized (told e) final at (suc (length s)) (header k (told e)) r)
  sized_is s t short q = length_cut final (in_two (is_short_lem 2 0 s q))
  sized_is s t (counted n rest) q = by (worth_of 2 s n rest q) (eqb n 0) refl
    where
      by : (ls : List ℕ) × (s ≡ ls ++ rest) × Worth 2 ls n → (z : Bool) → eqb n 0 ≡ z
          → HeaderIs e (suc k) at (identifier final ∷ s) (pick z (long_form (told e) final at (suc (length s)) (header k (told e)) (high_first 4 0 rest)) (envelope (told e) final short_least at 3 n rest (header k (told e))))
      by (ls, p, w) true z =
          subst (λ (x : List ℕ). HeaderIs e (suc k) at (identifier final ∷ x) (long_form (told e) final at (suc (length s)) (header k (told e)) (high_first 4 0 rest))) (sym p)
          (long_is ls rest (suc (length s)) (subst (Worth 2 ls) (eqb-true n 0 z) w) (bytes_behind ls rest (subst (λ (x : List ℕ). T (are_bytes x)) p t)) (ap (λ (x : List ℕ). suc (length x)) p) (high_first 4 0 rest) refl)
      by (ls, p, w) false z =
          subst (λ (x : List ℕ). HeaderIs e (suc k) at (identifier final ∷ x) (envelope (told e) final short_least at 3 n rest (header k (told e)))) (sym p)
          (envelope_is e k at ls short_least 3 n (in_short w (eqb-false n 0 z)) ih final rest (bytes_behind ls rest (subst (λ (x : List ℕ). T (are_bytes x)) p t)))

-- the identifier, as the reader tells it
header_identified : (e : Edition) (k at b : ℕ) (s : List ℕ) → T (are_bytes s) → Ih e k → (x y : Bool) → eqb b (identifier false) ≡ x → eqb b (identifier true) ≡ y → HeaderIs e (suc k) at (b ∷ s) (header (suc k) (told e) at (b ∷ s))
header_identified e k at b s t ih true y p q =
    subst (λ (x : ℕ). HeaderIs e (suc k) at (x ∷ s) (header (suc k) (told e) at (x ∷ s))) (sym (eqb-true b (identifier false) p))
    (subst (HeaderIs e (suc k) at (identifier false ∷ s)) (sym (header_sized k (told e) at false s)) (sized_is e k at false ih s t (high_first 2 0 s) refl))
header_identified e k at b s t ih false true p q =
    subst (λ (x : ℕ). HeaderIs e (suc k) at (x ∷ s) (header (suc k) (told e) at (x ∷ s))) (sym (eqb-true b (identifier true) q))
    (subst (HeaderIs e (suc k) at (identifier true ∷ s)) (sym (header_sized k (told e) at true s)) (sized_is e k at true ih s t (high_first 2 0 s) refl))
header_identified e k at b s t ih false false p q =
    let no-base = eqb-false b (identifier true) q in
    let no_extension = eqb-false b (identifier false) p in
    subst (HeaderIs e (suc k) at (b ∷ s)) (sym (header_strange (suc k) (told e) at b s no-base no_extension)) (not_identifier no-base no_extension)

header_seventeenth : (e : Edition) (at b : ℕ) (s : List ℕ) → (x y : Bool) → eqb b (identifier false) ≡ x → eqb b (identifier true) ≡ y → HeaderIs e 0 at (b ∷ s) (header 0 (told e) at (b ∷ s))
header_seventeenth e at b s true y p q =
    subst (λ (x : ℕ). HeaderIs e 0 at (x ∷ s) (header 0 (told e) at (x ∷ s))) (sym (eqb-true b (identifier false) p)) (subst (HeaderIs e 0 at (identifier false ∷ s)) (sym (header_last (told e) at false s)) (one_too_many false))
header_seventeenth e at b s false true p q =
    subst (λ (x : ℕ). HeaderIs e 0 at (x ∷ s) (header 0 (told e) at (x ∷ s))) (sym (eqb-true b (identifier true) q)) (subst (HeaderIs e 0 at (identifier true ∷ s)) (sym (header_last (told e) at true s)) (one_too_many true))
header_seventeenth e at b s false false p q =
    let no-base = eqb-false b (identifier true) q in
    let no_extension = eqb-false b (identifier false) p in
    subst (HeaderIs e 0 at (b ∷ s)) (sym (header_strange 0 (told e) at b s no-base no_extension)) (not_identifier no-base no_extension)

header_is : (e : Edition) (k : ℕ) → Ih e k
header_is e zero at [] t = subst (HeaderIs e 0 at []) (sym (header_none 0 (told e) at)) no_identifier
header_is e zero at (b ∷ s) t = header_seventeenth e at b s (eqb b (identifier false)) (eqb b (identifier true)) refl refl
header_is e (suc k) at [] t = subst (HeaderIs e (suc k) at []) (sym (header_none (suc k) (told e) at)) no_identifier
header_is e (suc k) at (b ∷ s) t = header_identified e k at b s (other_bytes b s t) (header_is e k) (eqb b (identifier false)) (eqb b (identifier true)) refl refl

pub refused_header : (e : Edition) (k at : ℕ) (s : List ℕ) (refusal place : ℕ) → T (are_bytes s) → header k (told e) at s ≡ refused refusal place → BadHeader e k at s refusal place
refused_header e k at s refusal place t q = subst (HeaderIs e k at s) q (header_is e k at s t)
