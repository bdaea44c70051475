-- Order 2: an extension has no date of its own: every date in it stands deeper, in a received object. By one computed test: from an extension's rooms no move
-- leads to the base's head, and no other room has a date at envelope level.
use Rattle.std.specs.Prelude.{ℕ, zero, suc, ◌≤◌, List, [], ◌∷◌, map, Bool, true, false, ◌&&◌, ◌||◌, not, ◌⊎◌, ◌≡◌, refl, T, eqb}
use Rattle.std.proofs.Common.{inl, inr, ap, ◌∙◌, subst, arith, eqb-true}
use Rattle.meaning.specs.Basics.{pick, every, In}
use Rattle.meaning.specs.Told.{Edition}
use Rattle.meaning.specs.Kinds.{received_by, to_opens, from_opens, receiver_opens, comments, payload_length, payload_encoding, encrypted_opens, own_key, behaviour_opens}
use Rattle.meaning.specs.Editions.{closing, Room, head_representation, head_date, parameters, agent_list, State, state, Next, outer, inner, inner_one, stay, deeper, list_ends, agent_ends, list_end, go, Move, moves, shared, own}
use Rattle.meaning.specs.Reading.{Row}
use Rattle.meaning.specs.Skips.{Rank}
use Rattle.meaning.specs.Codes.{is_date, is_representation, code_of, date_code, has_value}
use Rattle.meaning.specs.Words.{occurs}
use Rattle.meaning.specs.Writing.{fits, fit_row}
use Rattle.laws_steps.specs.Logic.{left_of, right_of, either, not_both, is_true}
use Rattle.laws_steps.specs.Nesting.{false_not}
use Rattle.laws_steps.specs.Tables.{room_number, every_in, all_rooms, each_room}
use Rattle.laws_steps.specs.Fits.{fit_holds}
use Rattle.laws_steps.specs.WrittenRead.{fit_all, then_inv}
use Rattle.laws_tables.specs.RightSkips.{standing}
use Rattle.laws_tables.specs.Tabled.{is_deep, Deep, go_deep, moves_well, move_well, leads_well, row_well, well_test}

-- the rooms of a base's head
abbrev is_head_room : Room → Bool
is_head_room r = eqb (room_number r) (room_number head_representation) || eqb (room_number r) (room_number head_date)

abbrev leads_off : Next → Bool
leads_off (outer r) = not (is_head_room r)
leads_off (inner r) = not (is_head_room r)
leads_off (inner_one r) = not (is_head_room r)
leads_off (stay r) = not (is_head_room r)
leads_off (deeper r) = not (is_head_room r)
leads_off list_ends = true
leads_off agent_ends = true

abbrev date_deep : Room → Move → Bool
date_deep r m = not (is_date m.kind) || is_deep r

abbrev headless : Edition → Room → Bool
headless e r = is_head_room r || every (λ m. leads_off m.next && date_deep r m) (moves e r)

headless_test : T (all_rooms headless)
unfolding moves shared own
headless_test = tt

-- a state in an extension
abbrev Off : State → Type 0
Off st = T (not (is_head_room st.room))

off_list : (n : ℕ) (o : Bool) → Off (list_end n o)
off_list zero o = tt
off_list (suc zero) o = tt
off_list (suc (suc n)) true = tt
off_list (suc (suc n)) false = tt

off_agent : (st : State) (b : Bool) → Off (pick b (state parameters 0 false) (state agent_list st.level st.single))
off_agent st true = tt
off_agent st false = tt

go_off : (st : State) (n : Next) → T (leads_off n) → Off (go n st)
go_off st (outer r) t = t
go_off st (inner r) t = t
go_off st (inner_one r) t = t
go_off st (stay r) t = t
go_off st (deeper r) t = t
go_off st list_ends t = off_list st.level st.single
go_off st agent_ends t = off_agent st (st.single && eqb st.level 1)

module _ (e : Edition) (st : State) {m : Move} (i : In m (moves e st.room)) (o : Off st) (d : Deep st) where
  off_move : T (leads_off m.next && date_deep st.room m)
  off_move = at (either (is_head_room st.room) (every (λ x. leads_off x.next && date_deep st.room x) (moves e st.room)) (each_room headless headless_test e st.room))
    where
      at : T (is_head_room st.room) ⊎ T (every (λ x. leads_off x.next && date_deep st.room x) (moves e st.room)) → T (leads_off m.next && date_deep st.room m)
      at (inl h) = absurd (not_both (is_head_room st.room) h o)
      at (inr h) = every_in (λ x. leads_off x.next && date_deep st.room x) i h

  move_on : Off (go m.next st) × Deep (go m.next st)
  move_on = (
    go_off st m.next (left_of (leads_off m.next) (date_deep st.room m) off_move),
    go_deep st m.next (left_of (leads_well (is_deep st.room) m.next) (row_well st.room m) (every_in (move_well st.room) i (each_room moves_well well_test e st.room))) d,
  )

  date_deep_lem : is_date m.kind ≡ true → 1 ≤ st.level
  date_deep_lem q = at (either (not (is_date m.kind)) (is_deep st.room) (right_of (leads_off m.next) (date_deep st.room m) off_move))
    where
      at : T (not (is_date m.kind)) ⊎ T (is_deep st.room) → 1 ≤ st.level
      at (inl x) = let z : T false = subst (λ (b : Bool). T (not b)) q x in absurd z
      at (inr x) = d (is_true (is_deep st.room) x)

row_dateless : (e : Edition) (row : Row) (st st' : State) (bs : List ℕ) → fit_row e st row ≡ fits st' bs → Off st → Deep st → (Off st' × Deep st') × (is_date row.kind ≡ true → 1 ≤ row.level)
row_dateless e row =
    fit_holds e row (λ st st' bs. Off st → Deep st → (Off st' × Deep st') × (is_date row.kind ≡ true → 1 ≤ row.level))
    (λ st st' m bs i p o d. (
      subst (λ (x : State). Off x × Deep x) p.to (move_on e st i o d),
      λ q. let h = date_deep_lem e st i o d (ap is_date p.kind_is ∙ q) in omega (arith, p.level_is),
    ))
    (λ st st' m bs i q h o d. let (a, b) = move_on e st i o d in h a b)

-- the date's code is that of dates alone
date_kind : (kind : ℕ) → eqb (code_of kind) date_code ≡ true → is_date kind ≡ true
date_kind kind q =
    at (eqb kind own_key) (eqb kind to_opens) (eqb kind from_opens) (is_representation kind) (eqb kind comments) (eqb kind payload_length) (eqb kind payload_encoding) (eqb kind encrypted_opens) (eqb kind receiver_opens) (eqb kind received_by) (eqb kind behaviour_opens) (is_date kind) q
  where
    at : (a b c d e f g h i k l z : Bool) → eqb (pick a 0x00 (pick b 0x02 (pick c 0x03 (pick d 0x04 (pick e 0x05 (pick f 0x06 (pick g 0x07 (pick h 0x08 (pick i 0x09 (pick k 0x0a (pick l 0x0b (pick z date_code closing)))))))))))) date_code ≡ true → z ≡ true
    at true b c d e f g h i k l z p = false_not p
    at false true c d e f g h i k l z p = false_not p
    at false false true d e f g h i k l z p = false_not p
    at false false false true e f g h i k l z p = false_not p
    at false false false false true f g h i k l z p = false_not p
    at false false false false false true g h i k l z p = false_not p
    at false false false false false false true h i k l z p = false_not p
    at false false false false false false false true i k l z p = false_not p
    at false false false false false false false false true k l z p = false_not p
    at false false false false false false false false false true l z p = false_not p
    at false false false false false false false false false false true z p = false_not p
    at false false false false false false false false false false false true p = refl
    at false false false false false false false false false false false false p = false_not p

silent : (r : Rank) → (is_date r.kind ≡ true → 1 ≤ r.level) → has_value date_code r ≡ false
silent r h = at (eqb r.level 0) (eqb (code_of r.kind) date_code) refl refl
  where
    at : (x y : Bool) → eqb r.level 0 ≡ x → eqb (code_of r.kind) date_code ≡ y → x && y ≡ false
    at false y p q = refl
    at true false p q = refl
    at true true p q = let k = h (date_kind r.kind q) in let z = eqb-true r.level 0 p in absurd (omega arith)

pub extension_dateless : (e : Edition) (rows : List Row) (st st' : State) (bs : List ℕ) → fit_all e rows st ≡ fits st' bs → Off st → Deep st → occurs date_code (map standing rows) ≡ false
unfolding fit_all occurs
extension_dateless e [] st st' bs q o d = refl
extension_dateless e (row ∷ rows) st st' bs q o d =
    let (st₁, cs, ds, q₁, q₂, q₃) = then_inv (fit_row e st row) (fit_all e rows) st' bs q in
    let ((o₁, d₁), h) = row_dateless e row st st₁ cs q₁ o d in
    rw (silent (standing row) h) (extension_dateless e rows st₁ st' ds q₂ o₁ d₁)
