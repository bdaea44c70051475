-- Order 2: what does not change by what stands before it. A header is read alike wherever it stands, its starts moved; what belongs to a row does not
-- change by the rows before it, and an envelope's rows end where the next envelope begins, so that skip numbers move too and words stay.
use Rattle.std.specs.Prelude.{ℕ, zero, suc, ◌+◌, ◌-◌, ◌≤◌, List, [], ◌∷◌, ◌++◌, map, Bool, true, false, ◌≡◌, refl, T, length}
use Rattle.std.proofs.Common.{append_assoc, ap, sym, ◌∙◌, inl, inr, arith, length-append}
use Rattle.meaning.specs.Told.{Told}
use Rattle.meaning.specs.Reading.{Row, Seen, done, inside}
use Rattle.meaning.specs.Skips.{Rank, rank, belongs, belonging}
use Rattle.meaning.specs.Headers.{Placed, placed_row, placed, accepted, behind, opening, start, header}
use Rattle.meaning.specs.Writing.{envelope_size, within_limit, envelope_length, wrap}
use Rattle.meaning.specs.Relay.{moved}
use Rattle.laws_steps.specs.Logic.{are_bytes, bytes_front, bytes_behind}
use Rattle.laws_steps.specs.Nesting.{above, belongs_not, Belongs, belonging_ends}
use Rattle.laws_tables.specs.Tabled.{Tabled, the_last, one_more}
use Rattle.laws_tables.specs.AllTabled.{ranks_read}
use Rattle.laws_tables.specs.Wording.{top}
use Rattle.laws_tables.specs.Views.{AllSeen, inside_seen}
use Rattle.laws_steps.specs.WrittenRead.{all_written_read}
use Rattle.laws_steps.specs.Envelopes.{Writes, the_base, before, rows_of, envelope_read, extension_step, wrap_length}

-- Starts

move_twice : (n k : ℕ) (rs : List Placed) → map (moved n) (map (moved k) rs) ≡ map (moved (n + k)) rs
move_twice n k [] = refl
move_twice n k (r ∷ rs) =
    let q : n + (k + r.start) ≡ n + k + r.start = omega arith in
    rw (move_twice n k rs) (ap (λ (x : ℕ). placed_row r.kind r.level x r.view ∷ map (moved (n + k)) rs) q)

pub moved_append : (n : ℕ) (rs ts : List Placed) → map (moved n) (rs ++ ts) ≡ map (moved n) rs ++ map (moved n) ts
moved_append n [] ts = refl
moved_append n (r ∷ rs) ts = ap (λ (x : List Placed). moved n r ∷ x) (moved_append n rs ts)

-- a row inside starts no further from the end than the inside is long
seen_moved : (n end : ℕ) (s : List ℕ) (rs : List Seen) → length s ≤ end → AllSeen s rs → map (placed (n + end)) rs ≡ map (moved n) (map (placed end) rs)
seen_moved n end s [] h i = refl
seen_moved n end s (r ∷ rs) h ((front, tail, q, l), i) =
    let e : n + end - r.left ≡ n + (end - r.left) = omega (arith, ap length q, length-append front (r.view ++ tail), length-append r.view tail) in
    rw (seen_moved n end s rs h i) (ap (λ (x : ℕ). placed_row r.kind r.level x r.view ∷ map (moved n) (map (placed end) rs)) e)

size_least : (bs : List ℕ) → length bs ≤ envelope_size (length bs)
size_least bs = omega (arith, wrap_length true bs, length-append (envelope_length (length bs)) bs)

-- the rows of one envelope, wherever it stands
rows_moved : (b : Bool) (at : ℕ) (bs : List ℕ) (rs : List Seen) → AllSeen bs rs → rows_of b at (envelope_size (length bs)) rs ≡ map (moved at) (rows_of b 0 (envelope_size (length bs)) rs)
rows_moved b at bs rs i =
    let k = envelope_size (length bs) in
    let z : at ≡ at + 0 = omega arith in
    let o : 0 + k ≡ k = omega arith in
    let first : placed_row (opening b) 0 at [] ∷ map (placed (at + k)) rs ≡ placed_row (opening b) 0 (at + 0) [] ∷ map (moved at) (map (placed k) rs)
    = rw (seen_moved at k bs rs (size_least bs) i) (ap (λ (x : ℕ). placed_row (opening b) 0 x [] ∷ map (moved at) (map (placed k) rs)) z) in
    first ∙ ap (λ (x : ℕ). map (moved at) (placed_row (opening b) 0 0 [] ∷ map (placed x) rs)) (sym o)

-- these bytes are read as these rows, moved to where they stand; so many envelopes and any payload may follow
abbrev pub ReadsMoved : Told → ℕ → List ℕ → List Placed → Type 0
ReadsMoved told n w rows = (k : ℕ) → n ≤ k → (at : ℕ) (payload : List ℕ) → header k told at (w ++ payload) ≡ accepted (at + length w) (map (moved at) rows)

base_moved : (told : Told) (bs : List ℕ) (rs : List Seen) → within_limit (length bs) ≡ true → inside told (start true) bs ≡ done rs [] → AllSeen bs rs → ReadsMoved told 1 (wrap true bs) (rows_of true 0 (envelope_size (length bs)) rs)
base_moved told bs rs hi q i zero h at payload = absurd (omega arith)
base_moved told bs rs hi q i (suc k) h at payload =
    envelope_read k told true bs payload at hi ∙ rw (q, wrap_length true bs) (ap (accepted (at + envelope_size (length bs))) (rows_moved true at bs rs i))

pub extension_moved : (told : Told) (n : ℕ) (bs w : List ℕ) (rs : List Seen) (ts : List Placed) → within_limit (length bs) ≡ true → inside told (start false) bs ≡ done rs [] → AllSeen bs rs → ReadsMoved told n w ts
    → ReadsMoved told (suc n) (wrap false bs ++ w) (rows_of false 0 (envelope_size (length bs)) rs ++ map (moved (envelope_size (length bs))) ts)
extension_moved told n bs w rs ts hi q i ih zero h at payload = absurd (omega arith)
extension_moved told n bs w rs ts hi q i ih (suc k) h at payload =
    let size = envelope_size (length bs) in
    let own = rows_of false 0 size rs in
    let p : at + size + length w ≡ at + length (wrap false bs ++ w) = omega (arith, length-append (wrap false bs) w, wrap_length false bs) in
    let all : rows_of false at size rs ++ map (moved (at + size)) ts ≡ map (moved at) (own ++ map (moved size) ts)
    = ap (λ (x : List Placed). x ++ map (moved (at + size)) ts) (rows_moved false at bs rs i) ∙ ap (λ (x : List Placed). map (moved at) own ++ x) (sym (move_twice at size ts)) ∙ sym (moved_append at own (map (moved size) ts)) in
    ap (header (suc k) told at) (append_assoc (wrap false bs) w payload) ∙ extension_step k told at bs (w ++ payload) rs hi q ∙ ap (behind (rows_of false at size rs)) (ih k (omega arith) (at + size) payload)
    ∙ ap (accepted (at + size + length w)) all ∙ ap (λ (x : ℕ). accepted x (map (moved at) (own ++ map (moved size) ts))) p

pub header_moved : (told : Told) {n : ℕ} {table : List Row} {w : List ℕ} → Writes told.edition n table w → T (are_bytes w) → (rows : List Placed) × ReadsMoved told n w rows
header_moved told (the_base rows st bs q hi) t =
    let (rs, a, m) = all_written_read told rows (start true) st bs q in
    let i = inside_seen told (start true) bs [] rs (bytes_behind (0xfe ∷ envelope_length (length bs)) bs t) a in
    (rows_of true 0 (envelope_size (length bs)) rs, base_moved told bs rs hi a i)
header_moved told (before rows table st bs w n q hi more) t =
    let (rs, a, m) = all_written_read told rows (start false) st bs q in
    let i = inside_seen told (start false) bs [] rs (bytes_behind (0xfd ∷ envelope_length (length bs)) bs (bytes_front (wrap false bs) w t)) a in
    let (ts, f) = header_moved told more (bytes_behind (wrap false bs) w t) in
    (rows_of false 0 (envelope_size (length bs)) rs ++ map (moved (envelope_size (length bs))) ts, extension_moved told n bs w rs ts hi a i f)

-- where a header is accepted, so it is with the bytes moved
pub moved_rows_lem : (told : Told) {n : ℕ} {table : List Row} {w : List ℕ} → Writes told.edition n table w → T (are_bytes w) → (k : ℕ) → n ≤ k → (payload : List ℕ) (place : ℕ) (rows : List Placed) → header k told 0 (w ++ payload) ≡ accepted place rows → ReadsMoved told n w rows
moved_rows_lem told {n} {w = w} h t k few payload place rows q =
    let (own, f) = header_moved told h t in
    let a : accepted (0 + length w) (map (moved 0) own) ≡ accepted place rows = sym (f k few 0 payload) ∙ q in
    let same : map (moved 0) own ≡ rows = cc a in
    λ j l at behind-it. f j l at behind-it ∙ ap (accepted (at + length w)) (again at own ∙ ap (map (moved at)) same)
  where
    again : (at : ℕ) (own : List Placed) → map (moved at) own ≡ map (moved at) (map (moved 0) own)
    again at own = let z : at ≡ at + 0 = omega arith in ap (λ (x : ℕ). map (moved x) own) z ∙ sym (move_twice at 0 own)

-- Ranks do not move

pub ranks_moved : (n : ℕ) (rs : List Placed) → ranks_read (map (moved n) rs) ≡ ranks_read rs
ranks_moved n [] = refl
ranks_moved n (r ∷ rs) = ap (λ (x : List Rank). rank r.kind r.level ∷ x) (ranks_moved n rs)

-- Belonging

-- an envelope's row belongs to none, whatever stands before it
pub none_owns : (r : Rank) (b : Bool) → belongs r (top b) ≡ false
none_owns r b = belongs_not r (top b) (λ h. at b h)
  where
    low : (c : ℕ) → c ≤ 2 → Rattle.meaning.specs.Skips.beside r.kind c ≡ true → ⊥
    low c l q = let h = above 2 r.kind c (λ x. omega arith) (λ x. omega arith) (λ x. omega arith) (omega arith) q in omega arith

    at : (b : Bool) → Belongs r (top b) → ⊥
    at b (inl (x, y)) = omega arith
    at true (inr (x, y)) = low 2 (omega arith) y
    at false (inr (x, y)) = low 1 (omega arith) y

-- so none of a table's rows belongs to a row before it
pub table_apart : {n : ℕ} {rest : List Rank} → Tabled n rest → (r : Rank) → belonging r rest ≡ 0
table_apart (the_last head inner h t) r = belonging_ends r (top true) (head ∷ inner) (none_owns r true)
table_apart (one_more head inner rest n h t more) r = belonging_ends r (top false) (head ∷ (inner ++ rest)) (none_owns r false)
