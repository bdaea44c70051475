-- The shortest form of a value that a reading took: its move's own, and for a block in a wider form the move of a narrower one,
-- which stands in the same room, with the same kind, and leads to the same place.
use Rattle.std.specs.Prelude.{ℕ, ◌+◌, ◌≤◌, ◌<◌, List, [], ◌∷◌, ◌++◌, Bool, true, false, ◌&&◌, ◌||◌, ◌⊎◌, refl, eqb, leb, ltb, length}
use Rattle.std.proofs.Math.Bool.{not}
use Rattle.std.proofs.Common.{inl, inr, sym, ◌∙◌, arith, le→leb, lt→ltb, ltb→lt, eqb→eq, ltb-true, ltb-false}
use Rattle.std.proofs.Math.Path.{◌≡◌, ap, subst}
use Rattle.std.proofs.Math.Dec.{T}
use Rattle.meaning.specs.Basics.{every, In, here, there}
use Rattle.meaning.specs.Bytes.{Width, one_byte, two_bytes, four_bytes, bytes_of, fewest, past, shortest_only, too_wide, block_ok}
use Rattle.meaning.specs.Kinds.{agent_name, any_bytes}
use Rattle.meaning.specs.Told.{Strictness, strict, Told}
use Rattle.meaning.specs.Editions.{Room, behaviour_value, received_extra, agent_extra, State, Form, text, date, number, block, itself, opens, quiet, is_quiet, Next, Move, on◌▸◌▸◌▸◌, any_values, shared, own, moves}
use Rattle.meaning.specs.Reading.{level_most, too_deep}
use Rattle.meaning.specs.Writing.{valid, write_value, lead}
use Rattle.laws_steps.specs.Logic.{left_of, right_of, both, either, not_both}
use Rattle.laws_steps.specs.Values.{may_stand, allowed}
use Rattle.laws_steps.specs.Tables.{every_in, all_rooms, each_room, rooms, room_number, room_at, room_again}

pub record Shortest (told : Told) (r : Room) (m : Move) (v : List ℕ) : Type 0 where
  pub by : Move
  pub member : In by (moves told.edition r)
  pub ok : T (valid by.form by.code v)
  pub loud : is_quiet by.form ≡ false
  pub kind : by.kind ≡ m.kind
  pub next : by.next ≡ m.next
  pub shorter : length (lead by ++ write_value by.form v) ≤ length (lead m ++ write_value m.form v)
  pub exact : told.strictness ≡ strict → by ≡ m

-- how deep a move may stand is told by its kind
pub deep_by_kind : (st : State) (m n : Move) → m.kind ≡ n.kind → too_deep n st ≡ false → too_deep m st ≡ false
deep_by_kind st m n q d = ap (λ (k : ℕ). eqb k agent_name && ltb level_most st.level) q ∙ d

abbrev is_block : Form → Bool
is_block (text rule) = false
is_block (date reach designated) = false
is_block number = false
is_block (block w) = true
is_block itself = false
is_block opens = false
is_block quiet = false

-- what is no block stands in its only form
only_form : (told : Told) (f : Form) (c : ℕ) (v : List ℕ) → is_block f ≡ false → T (allowed told f c v) → T (valid f c v)
unfolding allowed
only_form told (text rule) c v q t = t
only_form told (date reach designated) c v q t = t
only_form told number c v q t = t
only_form told (block w) c v q t = let z : ◌≡◌ {A = ℕ} 0 1 = cc q in absurd (omega arith)
only_form told itself c v q t = t
only_form told opens c v q t = t
only_form told quiet c v q t = t

-- The narrowest width for a length that some width holds

abbrev Narrowest : ℕ → Width → Type 0
Narrowest n w = (u : Width) × (fewest u ≤ n) × (n < past u) × (bytes_of u ≤ bytes_of w) × (fewest w ≤ n → u ≡ w)

narrow : (n : ℕ) (w : Width) → n < past w → Narrowest n w
narrow n one_byte hi = (one_byte, omega arith, hi, omega arith, λ h. refl)
narrow n two_bytes hi = by (ltb n 256) refl
  where
    by : (x : Bool) → ltb n 256 ≡ x → Narrowest n two_bytes
    by true q = let h = ltb-true n 256 q in (one_byte, omega arith, h, omega arith, λ k. absurd (omega arith))
    by false q = let h = ltb-false n 256 q in (two_bytes, h, hi, omega arith, λ k. refl)
narrow n four_bytes hi = by (ltb n 256) (ltb n 65536) refl refl
  where
    by : (x y : Bool) → ltb n 256 ≡ x → ltb n 65536 ≡ y → Narrowest n four_bytes
    by true y q p = let h = ltb-true n 256 q in (one_byte, omega arith, h, omega arith, λ k. absurd (omega arith))
    by false true q p = let h = ltb-false n 256 q in let l = ltb-true n 65536 p in (two_bytes, h, l, omega arith, λ k. absurd (omega arith))
    by false false q p = let l = ltb-false n 65536 p in (four_bytes, l, hi, omega arith, λ k. refl)

-- a strict reading takes no length that is too wide
strict_length : (told : Told) (w : Width) (n : ℕ) → told.strictness ≡ strict → T (not (too_wide told w n)) → fewest w ≤ n
unfolding too_wide
strict_length told w n q t = at (ltb n (fewest w)) refl (subst (λ (s : Strictness). T (not (ltb n (fewest w) && shortest_only s))) q t)
  where
    at : (b : Bool) → ltb n (fewest w) ≡ b → T (not (b && true)) → fewest w ≤ n
    at true p u = absurd u
    at false p u = ltb-false n (fewest w) p

-- The three moves of a block

abbrev code_of : Width → ℕ
code_of one_byte = 0x16
code_of two_bytes = 0x17
code_of four_bytes = 0x19

abbrev block_move : Next → Width → Move
block_move n w = on code_of w ▸ any_bytes ▸ block w ▸ n

block_in : (n : Next) (w : Width) → In (block_move n w) (any_values n)
block_in n one_byte = there here
block_in n two_bytes = there (there here)
block_in n four_bytes = there (there (there here))

block_long : (n : Next) (w : Width) (v : List ℕ) → length (lead (block_move n w) ++ write_value (block w) v) ≡ 1 + bytes_of w + length v
unfolding write_value
block_long n one_byte v = omega arith
block_long n two_bytes v = omega arith
block_long n four_bytes v = omega arith

module _ (told : Told) (r : Room) (n : Next) (has : any_values n ≡ moves told.edition r) (v : List ℕ) where
  narrowed : (w : Width) → T (may_stand told w v) → Narrowest (length v) w → Shortest told r (block_move n w) v
  unfolding valid block_ok
  narrowed w t (u, low, high, less, same) =
      record {
        by = block_move n u;
        member = subst (In (block_move n u)) has (block_in n u);
        ok = both (leb (fewest u) (length v)) (ltb (length v) (past u)) (le→leb (fewest u) (length v) low) (lt→ltb (length v) (past u) high);
        loud = refl;
        kind = refl;
        next = refl;
        shorter = omega (arith, block_long n u v, block_long n w v, less);
        exact = λ q. ap (block_move n) (same (strict_length told w (length v) q (left_of (not (too_wide told w (length v))) (ltb (length v) (past w)) t)));
      }

  block_shortest : (w : Width) → T (may_stand told w v) → Shortest told r (block_move n w) v
  block_shortest w t = narrowed w t (narrow (length v) w (ltb→lt (length v) (past w) (right_of (not (too_wide told w (length v))) (ltb (length v) (past w)) t)))

  -- every move of the room that is a block
  abbrev BlockShortest : Move → Type 0
  BlockShortest m = is_block m.form ≡ true → T (allowed told m.form m.code v) → Shortest told r m v

  abbrev AllShortest : List Move → Type 0
  AllShortest [] = Unit {0}
  AllShortest (m ∷ l) = BlockShortest m × AllShortest l

  each_shortest : {m : Move} {l : List Move} → In m l → AllShortest l → BlockShortest m
  each_shortest here a = a.0
  each_shortest (there i) a = each_shortest i a.1

  any_shortest : (m : Move) → In m (moves told.edition r) → BlockShortest m
  unfolding allowed
  any_shortest m i =
      each_shortest (subst (In m) (sym has) i) ((λ q t. let z : ◌≡◌ {A = ℕ} 0 1 = cc q in absurd (omega arith)), ((λ q t. block_shortest one_byte t), ((λ q t. block_shortest two_bytes t), ((λ q t. block_shortest four_bytes t), tt))))

-- The rooms that have blocks: any-values, and nothing else

abbrev is_room : Room → Room → Bool
is_room r t = eqb (room_number r) (room_number t)

abbrev has_blocks : Room → Bool
has_blocks r = is_room r behaviour_value || is_room r received_extra || is_room r agent_extra

blocks_test : T (all_rooms (λ e r. every (λ m. not (is_block m.form) || has_blocks r) (moves e r)))
unfolding shared own moves
blocks_test = tt

room_of : (r t : Room) → T (is_room r t) → r ≡ t
room_of r t q = sym (room_again r) ∙ ap (λ (n : ℕ). room_at n rooms) (eqb→eq (room_number r) (room_number t) q) ∙ room_again t

module _ (told : Told) (r : Room) (m : Move) (v : List ℕ) (i : In m (moves told.edition r)) where
  abbrev In-room : Room → Type 0
  In-room t = (n : Next) × (any_values n ≡ moves told.edition t)

  -- the three rooms' moves
  any_room : (t : Room) → r ≡ t → In-room t → is_block m.form ≡ true → T (allowed told m.form m.code v) → Shortest told r m v
  any_room t q (n, has) = any_shortest told r n (has ∙ ap (moves told.edition) (sym q)) v m i

  wide_shortest : is_block m.form ≡ true → T (allowed told m.form m.code v) → Shortest told r m v
  unfolding shared own moves
  wide_shortest q t = at (either (not (is_block m.form)) (has_blocks r) (every_in (λ x. not (is_block x.form) || has_blocks r) i (each_room (λ e x. every (λ y. not (is_block y.form) || has_blocks x) (moves e x)) blocks_test told.edition r)))
    where
      first : T (is_room r behaviour_value) ⊎ T (is_room r received_extra) → Shortest told r m v
      first (inl p) = any_room behaviour_value (room_of r behaviour_value p) (_, refl) q t
      first (inr p) = any_room received_extra (room_of r received_extra p) (_, refl) q t

      which : T (is_room r behaviour_value || is_room r received_extra) ⊎ T (is_room r agent_extra) → Shortest told r m v
      which (inl p) = first (either (is_room r behaviour_value) (is_room r received_extra) p)
      which (inr p) = any_room agent_extra (room_of r agent_extra p) (_, refl) q t

      at : T (not (is_block m.form)) ⊎ T (has_blocks r) → Shortest told r m v
      at (inl p) = absurd (not_both (is_block m.form) (subst T (sym q) tt) p)
      at (inr p) = which (either (is_room r behaviour_value || is_room r received_extra) (is_room r agent_extra) p)

  pub shortest : is_quiet m.form ≡ false → T (allowed told m.form m.code v) → Shortest told r m v
  shortest nq t = by (is_block m.form) refl
    where
      by : (z : Bool) → is_block m.form ≡ z → Shortest told r m v
      by true q = wide_shortest q t
      by false q =
          record { by = m; member = i; ok = only_form told m.form m.code v q t; loud = nq; kind = refl; next = refl; shorter = omega arith; exact = λ h. refl }
