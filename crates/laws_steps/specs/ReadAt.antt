-- Reading at a place, by what a look at it finds: one law for each way that a move can go. They hold for any table of moves.
use Rattle.std.specs.Prelude.{ℕ, suc, ◌+◌, ◌-◌, ◌≤◌, ◌<◌, Bool, ◌≡◌, eqb, ltb, length}
use mathlib.Core.List.{List, [], ◌∷◌}
use Rattle.std.proofs.Math.Bool.{true, false}
use Rattle.std.proofs.Math.Path.{refl}
use Rattle.std.proofs.Common.{ap, sym, ◌∙◌, lt-ltb, ltb-true, ne_eqb}
use native.Mathlib.Omega.{arith}
use Rattle.meaning.specs.Basics.{pick}
use Rattle.meaning.specs.Bytes.{Rule, take_text}
use Rattle.meaning.specs.Editions.{State, Next, go, text, number, opens, is_quiet, Move, no_code, moves, on◌▸◌▸◌▸◌, pass◌▸◌}
use Rattle.meaning.specs.Reading.{take_value, reach_back, none, hit, look, is_closed, strange, too_deep, Step, fails, next, step_taken, step_move, step, onward, inside}
use Rattle.laws_steps.specs.From.{from, from_length}
use Rattle.laws_steps.specs.Rows.{put}
use Rattle.laws_steps.specs.Pouring.{stopped, pour, Source, run_at, landed, text_at, number_at, Peeked, pour_none, run_step, lands}

module _ (i : Source) (at n : ℕ) (m : List ℕ) where
  pub stepped : (q : State) (t : List ℕ) (x : Step) → from i.bytes at i.end ≡ t → step i.told q t ≡ x → run_at i q at n m ≡ pour i.end (onward x (inside i.told)) n m
  stepped q t x h y = run_step i q at n m ∙ rw (h, y)

  alike : (q d : State) → step i.told q (from i.bytes at i.end) ≡ step i.told d (from i.bytes at i.end) → run_at i q at n m ≡ run_at i d at n m
  alike q d h = run_step i q at n m ∙ ap (λ (x : Step). pour i.end (onward x (inside i.told)) n m) h ∙ sym (run_step i d at n m)

  uncoded_all : (q : State) (kind : ℕ) (rule : Rule) (g : Next) (t : List ℕ) → ((b : ℕ) → look b (moves i.told.edition q.room) ≡ hit (on no_code ▸ kind ▸ text rule ▸ g)) → too_deep (on no_code ▸ kind ▸ text rule ▸ g) q ≡ false → is_closed q.room ≡ false
      → pour i.end (onward (step i.told q t) (inside i.told)) n m ≡ landed i 1 kind q.level (go g q) (take_text rule t) n m
  unfolding step step_move take_value take_text
  uncoded_all q kind rule g (b ∷ t) y d c = rw (y b, d) (lands i q (on no_code ▸ kind ▸ text rule ▸ g) n m refl (take_text rule (b ∷ t)))
  uncoded_all q kind rule g [] y d c = rw c refl

  -- a text with no code in a room that has nothing else
  pub only_text : (q : State) (kind : ℕ) (rule : Rule) (g : Next) → ((b : ℕ) → look b (moves i.told.edition q.room) ≡ hit (on no_code ▸ kind ▸ text rule ▸ g)) → too_deep (on no_code ▸ kind ▸ text rule ▸ g) q ≡ false → is_closed q.room ≡ false
      → run_at i q at n m ≡ text_at i kind rule q.level (go g q) at n m
  only_text q kind rule g y d c = run_step i q at n m ∙ uncoded_all q kind rule g (from i.bytes at i.end) y d c

  -- a step from a byte that is there
  module _ (b : ℕ) (inside_of : at < i.end) (whole : i.end ≤ length i.bytes) (is : from i.bytes at i.end ≡ b ∷ from i.bytes (at + 1) i.end) where
    left_is : suc (length (from i.bytes (at + 1) i.end)) ≡ i.end - at
    left_is = omega (arith, from_length i.bytes (at + 1) i.end (omega arith) whole)

    -- a coded move with a row
    pub coded : (q : State) (v : Move) → look b (moves i.told.edition q.room) ≡ hit v → too_deep v q ≡ false → eqb v.code no_code ≡ false → is_quiet v.form ≡ false
        → run_at i q at n m ≡ landed i (reach_back v.form) v.kind q.level (go v.next q) (take_value i.told v.form (i.end - at) v.code (from i.bytes (at + 1) i.end)) n m
    unfolding step step_move
    coded q v y d c z =
        stepped q (b ∷ from i.bytes (at + 1) i.end) (step_taken q v (take_value i.told v.form (i.end - at) v.code (from i.bytes (at + 1) i.end))) is
        (rw (y, d, c, left_is) refl)
        ∙ lands i q v n m z (take_value i.told v.form (i.end - at) v.code (from i.bytes (at + 1) i.end))

    pub coded_text : (q : State) (code kind : ℕ) (rule : Rule) (g : Next) → look b (moves i.told.edition q.room) ≡ hit (on code ▸ kind ▸ text rule ▸ g) → too_deep (on code ▸ kind ▸ text rule ▸ g) q ≡ false → eqb code no_code ≡ false
        → run_at i q at n m ≡ text_at i kind rule q.level (go g q) (at + 1) n m
    unfolding take_value
    coded_text q code kind rule g y d c = coded q (on code ▸ kind ▸ text rule ▸ g) y d c refl

    -- a move without a row
    pub passed : (q : State) (code : ℕ) (g : Next) → look b (moves i.told.edition q.room) ≡ hit (pass code ▸ g) → eqb code no_code ≡ false → run_at i q at n m ≡ run_at i (go g q) (at + 1) n m
    unfolding step step_move take_value
    passed q code g y d =
        stepped q (b ∷ from i.bytes (at + 1) i.end) (next (go g q) [] (from i.bytes (at + 1) i.end)) is (rw (y, d) refl)
        ∙ pour_none i.end (inside i.told (go g q) (from i.bytes (at + 1) i.end)) n m

    -- an opening row, with the memory that its store gives
    pub opened : (q : State) (code kind : ℕ) (g : Next) → look b (moves i.told.edition q.room) ≡ hit (on code ▸ kind ▸ opens ▸ g) → too_deep (on code ▸ kind ▸ opens ▸ g) q ≡ false → eqb code no_code ≡ false
        → {k : List ℕ} → k ≡ put m n kind q.level at 0 → run_at i q at n m ≡ run_at i (go g q) (at + 1) (n + 1) k
    unfolding take_value
    opened q code kind g y d c w =
        let u : i.end - (length (from i.bytes (at + 1) i.end) + (0 + 0) + 1) ≡ at = omega (arith, left_is) in
        coded q (on code ▸ kind ▸ opens ▸ g) y d c refl ∙ rw (w, u) refl

    -- an agent of level 9
    pub too_deep_lem : (q : State) (v : Move) → look b (moves i.told.edition q.room) ≡ hit v → too_deep v q ≡ true → run_at i q at n m ≡ stopped 12 at
    unfolding step step_move
    too_deep_lem q v y d =
        let u : i.end - (i.end - at) ≡ at = omega arith in
        stepped q (b ∷ from i.bytes (at + 1) i.end) (fails 12 (i.end - at)) is (rw (y, d, left_is) refl) ∙ rw u refl

    -- a code that is in no move
    pub strange_code : (q : State) (refusal : ℕ) → look b (moves i.told.edition q.room) ≡ none → is_closed q.room ≡ false → strange q.room ≡ refusal → run_at i q at n m ≡ stopped refusal at
    unfolding step step_move
    strange_code q refusal y d o =
        let u : i.end - (i.end - at) ≡ at = omega arith in
        stepped q (b ∷ from i.bytes (at + 1) i.end) (fails refusal (i.end - at)) is (rw (y, d, o, left_is) refl) ∙ rw u refl

  -- "6: a byte is needed at the declared end"
  pub at_end : (q : State) → from i.bytes at i.end ≡ [] → at ≡ i.end → is_closed q.room ≡ false → run_at i q at n m ≡ stopped 6 at
  unfolding step
  at_end q p h d =
      let u : i.end - 0 ≡ at = omega arith in
      stepped q [] (fails 6 0) p (rw d refl) ∙ rw u refl

  -- the same by a look
  module _ (b : ℕ) (a : Peeked i.bytes i.end at b) where
    pub byte_is : b < 256 → from i.bytes at i.end ≡ b ∷ from i.bytes (at + 1) i.end
    byte_is l = a.is ∙ rw (lt-ltb b 256 l)

    foreign_by : (q : State) → look b (moves i.told.edition q.room) ≡ none → is_closed q.room ≡ false → (z : Bool) → ltb b 256 ≡ z → run_at i q at n m ≡ pick z (stopped (strange q.room) at) (stopped 6 at)
    foreign_by q y c true z = let l = ltb-true b 256 z in strange_code b (a.inside l) a.whole (byte_is l) q (strange q.room) y c refl
    foreign_by q y c false z =
        let p : from i.bytes at i.end ≡ [] = a.is ∙ rw z refl in
        let l : length (from i.bytes at i.end) ≡ 0 = rw p refl in
        at_end q p (omega (arith, from_length i.bytes at i.end a.before a.whole, a.before)) c

    -- a byte that the room does not take, or none
    pub foreign : (q : State) → look b (moves i.told.edition q.room) ≡ none → is_closed q.room ≡ false → run_at i q at n m ≡ pick (ltb b 256) (stopped (strange q.room) at) (stopped 6 at)
    foreign q y c = foreign_by q y c (ltb b 256) refl

    -- a text with no code
    uncoded_by : (q : State) (kind : ℕ) (rule : Rule) (g : Next) (t : List ℕ) → look b (moves i.told.edition q.room) ≡ hit (on no_code ▸ kind ▸ text rule ▸ g) → too_deep (on no_code ▸ kind ▸ text rule ▸ g) q ≡ false → is_closed q.room ≡ false → (z : Bool)
        → pour i.end (onward (step i.told q (pick z (b ∷ t) [])) (inside i.told)) n m ≡ landed i 1 kind q.level (go g q) (take_text rule (pick z (b ∷ t) [])) n m
    unfolding step step_move take_value take_text
    uncoded_by q kind rule g t y d c true = rw (y, d) (lands i q (on no_code ▸ kind ▸ text rule ▸ g) n m refl (take_text rule (b ∷ t)))
    uncoded_by q kind rule g t y d c false = rw c refl

    pub uncoded : (q : State) (kind : ℕ) (rule : Rule) (g : Next) → look b (moves i.told.edition q.room) ≡ hit (on no_code ▸ kind ▸ text rule ▸ g) → too_deep (on no_code ▸ kind ▸ text rule ▸ g) q ≡ false → is_closed q.room ≡ false
        → run_at i q at n m ≡ text_at i kind rule q.level (go g q) at n m
    uncoded q kind rule g y d c = run_step i q at n m ∙ rw a.is (uncoded_by q kind rule g (from i.bytes (at + 1) i.end) y d c (ltb b 256))

    -- a state whose room has the same moves for this byte
    alike_by : (q d : State) → ((t : List ℕ) → step i.told q (b ∷ t) ≡ step i.told d (b ∷ t)) → step i.told q [] ≡ step i.told d []
        → (t : List ℕ) (z : Bool) → step i.told q (pick z (b ∷ t) []) ≡ step i.told d (pick z (b ∷ t) [])
    alike_by q d x y t true = x t
    alike_by q d x y t false = y

    pub alike_at : (q d : State) → ((t : List ℕ) → step i.told q (b ∷ t) ≡ step i.told d (b ∷ t)) → step i.told q [] ≡ step i.told d [] → run_at i q at n m ≡ run_at i d at n m
    alike_at q d x y = alike q d (rw a.is (alike_by q d x y (from i.bytes (at + 1) i.end) (ltb b 256)))

    -- a look that found the code k
    module _ (k : ℕ) (h : b ≡ k) (l : k < 256) where
      pub here : at < i.end
      here = a.inside (omega arith)

      code_is : from i.bytes at i.end ≡ k ∷ from i.bytes (at + 1) i.end
      code_is = a.is ∙ rw (h, lt-ltb k 256 l)

      pub text_at_lem : (q : State) (kind : ℕ) (rule : Rule) (g : Next) → look k (moves i.told.edition q.room) ≡ hit (on k ▸ kind ▸ text rule ▸ g) → too_deep (on k ▸ kind ▸ text rule ▸ g) q ≡ false
          → run_at i q at n m ≡ text_at i kind rule q.level (go g q) (at + 1) n m
      text_at_lem q kind rule g y d = coded_text k here a.whole code_is q k kind rule g y d (ne_eqb k no_code (λ z. omega arith))

      pub number_at_lem : (q : State) (kind : ℕ) (g : Next) → look k (moves i.told.edition q.room) ≡ hit (on k ▸ kind ▸ number ▸ g) → too_deep (on k ▸ kind ▸ number ▸ g) q ≡ false
          → run_at i q at n m ≡ number_at i kind q.level (go g q) (at + 1) n m
      unfolding take_value
      number_at_lem q kind g y d = coded k here a.whole code_is q (on k ▸ kind ▸ number ▸ g) y d (ne_eqb k no_code (λ z. omega arith)) refl

      pub passed_at : (q : State) (g : Next) → look k (moves i.told.edition q.room) ≡ hit (pass k ▸ g) → run_at i q at n m ≡ run_at i (go g q) (at + 1) n m
      passed_at q g y = passed k here a.whole code_is q k g y (ne_eqb k no_code (λ z. omega arith))

      pub opened_at : (q : State) (kind : ℕ) (g : Next) → look k (moves i.told.edition q.room) ≡ hit (on k ▸ kind ▸ opens ▸ g) → too_deep (on k ▸ kind ▸ opens ▸ g) q ≡ false
          → {f : List ℕ} → f ≡ put m n kind q.level at 0 → run_at i q at n m ≡ run_at i (go g q) (at + 1) (n + 1) f
      opened_at q kind g y d w = opened k here a.whole code_is q k kind g y d (ne_eqb k no_code (λ z. omega arith)) w

      pub too_deep_at : (q : State) (v : Move) → look k (moves i.told.edition q.room) ≡ hit v → too_deep v q ≡ true → run_at i q at n m ≡ stopped 12 at
      too_deep_at q v y d = too_deep_lem k here a.whole code_is q v y d
