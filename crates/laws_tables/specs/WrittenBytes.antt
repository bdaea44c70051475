-- What the writer gives are bytes, if the rows view bytes: codes, lengths and values are each below 256.
use Rattle.std.specs.Prelude.{ℕ, zero, suc, ◌+◌, ◌/◌, ◌%◌, ◌≤◌, ◌<◌, List, [], ◌∷◌, ◌++◌, map, Bool, true, false, ◌≡◌, refl, T, leb, ltb, length, take, drop}
use Rattle.std.proofs.Common.{subst, arith, leb→le, ltb→lt, lt→ltb, leb-true}
use Rattle.std.proofs.lemmas.Bool.{eqb-false}
use Rattle.meaning.specs.Basics.{pick, every, In}
use Rattle.meaning.specs.Bytes.{Width, one_byte, two_bytes, four_bytes, fewest, past, length_bytes, block_ok}
use Rattle.meaning.specs.Told.{Edition}
use Rattle.meaning.specs.Editions.{Room, State, Form, text, date, number, block, itself, opens, quiet, is_quiet, Move, no_code, moves, shared, own}
use Rattle.meaning.specs.Reading.{Row, has_code}
use Rattle.meaning.specs.Headers.{envelope_most}
use Rattle.meaning.specs.Writing.{valid, write_value, fits, lead, fit_row, close, Cell, cell, broken, is_short, within_limit, envelope_length, wrap}
use Rattle.meaning.specs.Memory.{cells_of}
use Rattle.laws_steps.specs.Logic.{left_of, right_of, both, is_byte, are_bytes}
use Rattle.laws_steps.specs.Rows.{every_cell}
use Rattle.laws_steps.specs.Tables.{every_in, all_rooms, each_room}
use Rattle.laws_steps.specs.Lookups.{quiet_coded}
use Rattle.laws_steps.specs.Fits.{fit_holds, close_holds}
use Rattle.laws_steps.specs.WrittenRead.{fit_all, then_inv}
use Rattle.laws_steps.specs.Envelopes.{Writes, the_base, before, limit_size}

pub bytes_append : (s t : List ℕ) → T (are_bytes s) → T (are_bytes t) → T (are_bytes (s ++ t))
bytes_append [] t p q = q
bytes_append (b ∷ s) t p q = both (is_byte b) (are_bytes (s ++ t)) (left_of (is_byte b) (are_bytes s) p) (bytes_append s t (right_of (is_byte b) (are_bytes s) p) q)

bytes_cons : (b : ℕ) (s : List ℕ) → b < 256 → T (are_bytes s) → T (are_bytes (b ∷ s))
bytes_cons b s h t = both (is_byte b) (are_bytes s) (lt→ltb b 256 h) t

length_are_bytes : (w : Width) (n : ℕ) → n < past w → T (are_bytes (length_bytes w n))
length_are_bytes one_byte n h = bytes_cons n [] h tt
length_are_bytes two_bytes n h = bytes_cons (n / 256) (n % 256 ∷ []) (omega arith) (bytes_cons (n % 256) [] (omega arith) tt)
length_are_bytes four_bytes n h =
    bytes_cons (n / 16777216) (n / 65536 % 256 ∷ n / 256 % 256 ∷ n % 256 ∷ []) (omega arith)
    (bytes_cons (n / 65536 % 256) (n / 256 % 256 ∷ n % 256 ∷ []) (omega arith) (bytes_cons (n / 256 % 256) (n % 256 ∷ []) (omega arith) (bytes_cons (n % 256) [] (omega arith) tt)))

value_bytes : (f : Form) (c : ℕ) (v : List ℕ) → T (valid f c v) → T (are_bytes v) → T (are_bytes (write_value f v))
unfolding valid write_value block_ok
value_bytes (text rule) c v ok t = bytes_append v (0 ∷ []) t tt
value_bytes (date reach designated) c v ok t = t
value_bytes number c v ok t = t
value_bytes (block w) c v ok t = bytes_append (length_bytes w (length v)) v (length_are_bytes w (length v) (ltb→lt (length v) (past w) (right_of (leb (fewest w) (length v)) (ltb (length v) (past w)) ok))) t
value_bytes itself c v ok t = tt
value_bytes opens c v ok t = tt
value_bytes quiet c v ok t = tt

-- every code is a byte, or none
abbrev coded_moves : Edition → Room → Bool
coded_moves e r = every (λ m. leb m.code no_code) (moves e r)

coded_test : T (all_rooms coded_moves)
unfolding moves shared own
coded_test = tt

code_byte : (e : Edition) (r : Room) {m : Move} → In m (moves e r) → has_code no_code m ≡ false → m.code < 256
code_byte e r {m} i q =
    let h : m.code ≤ no_code = leb→le m.code no_code (every_in (λ x. leb x.code no_code) i (each_room coded_moves coded_test e r)) in
    let k : m.code ≡ no_code → ⊥ = eqb-false m.code no_code q in
    below h k
  where
    below : {c : ℕ} → c ≤ 256 → (c ≡ 256 → ⊥) → c < 256
    below h k = omega arith

lead_bytes : (e : Edition) (r : Room) {m : Move} → In m (moves e r) → (b : Bool) → has_code no_code m ≡ b → T (are_bytes (pick b [] (m.code ∷ [])))
lead_bytes e r i true q = tt
lead_bytes e r {m} i false q = bytes_cons m.code [] (code_byte e r i q) tt

pass_bytes : (e : Edition) (st : State) (m : Move) (bs : List ℕ) → In m (moves e st.room) → is_quiet m.form ≡ true → T (are_bytes bs) → T (are_bytes (m.code ∷ bs))
pass_bytes e st m bs i q t = bytes_cons m.code bs (code_byte e st.room i (quiet_coded e st.room i q)) t

row_bytes : (e : Edition) (row : Row) → T (are_bytes row.view) → (st st' : State) (bs : List ℕ) → fit_row e st row ≡ fits st' bs → T (are_bytes bs)
row_bytes e row t =
    fit_holds e row (λ st st' bs. T (are_bytes bs))
    (λ st st' m bs i p. subst (λ (x : List ℕ). T (are_bytes x)) p.out (bytes_append (lead m) (write_value m.form row.view) (lead_bytes e st.room i (has_code no_code m) refl) (value_bytes m.form m.code row.view p.ok t)))
    (λ st st' m bs i q u. pass_bytes e st m bs i q u)

close_bytes : (e : Edition) (st st' : State) (bs : List ℕ) → close e st ≡ fits st' bs → T (are_bytes bs)
close_bytes e = close_holds e (λ st st' bs. T (are_bytes bs)) (λ st h. tt) (λ st st' m bs i q u. pass_bytes e st m bs i q u)

-- every row views bytes
abbrev pub views_bytes : Row → Bool
views_bytes row = are_bytes row.view

pub all_bytes : (e : Edition) (rows : List Row) (st st' : State) (bs : List ℕ) → T (every views_bytes rows) → fit_all e rows st ≡ fits st' bs → T (are_bytes bs)
unfolding fit_all
all_bytes e [] st st' bs t q = close_bytes e st st' bs q
all_bytes e (row ∷ rows) st st' bs t q =
    let (st₁, cs, ds, q₁, q₂, q₃) = then_inv (fit_row e st row) (fit_all e rows) st' bs q in
    rw q₃ (bytes_append cs ds (row_bytes e row (left_of (views_bytes row) (every views_bytes rows) t) st st₁ cs q₁) (all_bytes e rows st₁ st' ds (right_of (views_bytes row) (every views_bytes rows) t) q₂))

head_bytes : (n : ℕ) (b : Bool) → is_short n ≡ b → within_limit n ≡ true → T (are_bytes (pick b (length_bytes two_bytes (3 + n)) (0 ∷ 0 ∷ length_bytes four_bytes (7 + n))))
head_bytes n true q l = let h : 3 + n ≤ 65535 = leb-true (3 + n) 65535 q in length_are_bytes two_bytes (3 + n) (omega arith)
head_bytes n false q l =
    let h = limit_size n l in
    let k : 7 + n ≤ envelope_most = rw q at h in
    bytes_cons 0 (0 ∷ length_bytes four_bytes (7 + n)) (omega arith) (bytes_cons 0 (length_bytes four_bytes (7 + n)) (omega arith) (length_are_bytes four_bytes (7 + n) (omega arith)))

pub wrap_bytes : (b : Bool) (bs : List ℕ) → within_limit (length bs) ≡ true → T (are_bytes bs) → T (are_bytes (wrap b bs))
wrap_bytes true bs l t = bytes_append (envelope_length (length bs)) bs (head_bytes (length bs) (is_short (length bs)) refl l) t
wrap_bytes false bs l t = bytes_append (envelope_length (length bs)) bs (head_bytes (length bs) (is_short (length bs)) refl l) t

every_front : (xs ys : List Row) → T (every views_bytes (xs ++ ys)) → T (every views_bytes xs)
every_front [] ys t = tt
every_front (x ∷ xs) ys t = both (views_bytes x) (every views_bytes xs) (left_of (views_bytes x) (every views_bytes (xs ++ ys)) t) (every_front xs ys (right_of (views_bytes x) (every views_bytes (xs ++ ys)) t))

every_behind : (xs ys : List Row) → T (every views_bytes (xs ++ ys)) → T (every views_bytes ys)
every_behind [] ys t = t
every_behind (x ∷ xs) ys t = every_behind xs ys (right_of (views_bytes x) (every views_bytes (xs ++ ys)) t)

pub writes_bytes : (e : Edition) {n : ℕ} {table : List Row} {w : List ℕ} → Writes e n table w → T (every views_bytes table) → T (are_bytes w)
writes_bytes e (the_base rows st bs q l) t = wrap_bytes true bs l (all_bytes e rows _ st bs t q)
writes_bytes e (before rows table st bs w n q l more) t =
    bytes_append (wrap false bs) w (wrap_bytes false bs l (all_bytes e rows _ st bs (every_front rows table t) q)) (writes_bytes e more (every_behind rows table t))

-- the rows of a pool of bytes view bytes
take_bytes_lem : (n : ℕ) (s : List ℕ) → T (are_bytes s) → T (are_bytes (take n s))
take_bytes_lem zero s t = tt
take_bytes_lem (suc n) [] t = tt
take_bytes_lem (suc n) (b ∷ s) t = both (is_byte b) (are_bytes (take n s)) (left_of (is_byte b) (are_bytes s) t) (take_bytes_lem n s (right_of (is_byte b) (are_bytes s) t))

drop_bytes : (n : ℕ) (s : List ℕ) → T (are_bytes s) → T (are_bytes (drop n s))
drop_bytes zero s t = t
drop_bytes (suc n) [] t = tt
drop_bytes (suc n) (b ∷ s) t = drop_bytes n s (right_of (is_byte b) (are_bytes s) t)

abbrev pub cell_bytes : Cell → Bool
cell_bytes (cell row) = views_bytes row
cell_bytes broken = true

cell_bytes_lem : (pool : List ℕ) (kind level start len : ℕ) (b : Bool) → T (are_bytes pool) → T (cell_bytes (pick b (cell (record { kind = kind; level = level; view = take len (drop start pool) })) broken))
cell_bytes_lem pool kind level start len true t = take_bytes_lem len (drop start pool) (drop_bytes start pool t)
cell_bytes_lem pool kind level start len false t = tt

pub cells_bytes : (pool rows : List ℕ) → T (are_bytes pool) → T (every cell_bytes (cells_of pool rows))
cells_bytes pool rows t = every_cell cell_bytes pool (λ kind level start len. cell_bytes_lem pool kind level start len (leb (start + len) (length pool)) t) tt rows

pub table_bytes : (table : List Row) → T (every cell_bytes (map cell table)) → T (every views_bytes table)
table_bytes [] t = tt
table_bytes (row ∷ table) t = both (views_bytes row) (every views_bytes table) (left_of (views_bytes row) (every cell_bytes (map cell table)) t) (table_bytes table (right_of (views_bytes row) (every cell_bytes (map cell table)) t))

pub written_are_bytes : (e : Edition) {n : ℕ} {table : List Row} {w : List ℕ} (pool rows : List ℕ) → T (are_bytes pool) → cells_of pool rows ≡ map cell table → Writes e n table w → T (are_bytes w)
written_are_bytes e {table = table} pool rows t c w = writes_bytes e w (table_bytes table (subst (λ (x : List Cell). T (every cell_bytes x)) c (cells_bytes pool rows t)))
