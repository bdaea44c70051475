-- A row's own move among some: the search is one among those of its kind, or those that have a row at all.
use Rattle.std.specs.Prelude.{ℕ, ◌≤◌, List, [], ◌∷◌, ◌++◌, Bool, true, false, ◌&&◌, not, ◌≡◌, refl, Option, None, Some}
use Rattle.std.proofs.Common.{sym, ◌∙◌, subst, arith, eq-eqb, eqb-true}
use Rattle.std.proofs.Math.Path.{ap}
use Rattle.std.proofs.Math.Dec.{eqb}
use Rattle.meaning.specs.Basics.{pick}
use Rattle.meaning.specs.Editions.{State, Next, Form, text, date, number, block, itself, opens, quiet, is_quiet, Move}
use Rattle.meaning.specs.Reading.{Row, too_deep, Found, none, hit, find, or_else}
use Rattle.meaning.specs.Writing.{at_level, stands_for, valid, lead, write_value, Cell, cell, broken}
use Rattle.table.specs.Rows.{row_with, RowAhead, viewed}
use Rattle.write_rows.specs.Laying.{Laid}
use Rattle.laws_steps.specs.Rows.{cells_at}
use Rattle.write_rows.specs.Rooms.{rows_of, of_kind, own_among, NotAmong, AllLead}
use Rattle.write_rows.specs.Stages.{NotOf, IsSought, RowTaken, TriedIs}
use Rattle.table.specs.declared.rows.Ahead.{Ahead}
use Rattle.write_rows.specs.Openings.{opens_past}

abbrev pub takes : List ℕ → Move → Bool
takes v m = valid m.form m.code v

pub find_kind : (row : Row) (l : List Move) → find (stands_for row) l ≡ find (takes row.view) (of_kind row.kind l)
unfolding find
find_kind row [] = refl
find_kind row (m ∷ l) = at (not (is_quiet m.form) && eqb m.kind row.kind) (find_kind row l)
  where
    at : (b : Bool) → find (stands_for row) l ≡ find (takes row.view) (of_kind row.kind l) → pick (b && takes row.view m) (hit m) (find (stands_for row) l) ≡ find (takes row.view) (pick b (m ∷ of_kind row.kind l) (of_kind row.kind l))
    at true q = ap (pick (takes row.view m) (hit m)) q
    at false q = q

pub find_rows : (row : Row) (l : List Move) → find (stands_for row) l ≡ find (stands_for row) (rows_of l)
unfolding find
find_rows row [] = refl
find_rows row (m ∷ l) = at m.form refl (find_rows row l)
  where
    at : (f : Form) → m.form ≡ f → find (stands_for row) l ≡ find (stands_for row) (rows_of l) → find (stands_for row) (m ∷ l) ≡ find (stands_for row) (pick (is_quiet f) (rows_of l) (m ∷ rows_of l))
    at quiet e q = ap (λ (f : Form). pick (not (is_quiet f) && eqb m.kind row.kind && takes row.view m) (hit m) (find (stands_for row) l)) e ∙ q
    at (text rule) e q = ap (pick (stands_for row m) (hit m)) q
    at (date reach designated) e q = ap (pick (stands_for row m) (hit m)) q
    at number e q = ap (pick (stands_for row m) (hit m)) q
    at (block w) e q = ap (pick (stands_for row m) (hit m)) q
    at itself e q = ap (pick (stands_for row m) (hit m)) q
    at opens e q = ap (pick (stands_for row m) (hit m)) q

-- the same moves of a row's kind: the same own move
pub same_kind : (row : Row) (l l₁ : List Move) → of_kind row.kind l ≡ of_kind row.kind l₁ → find (stands_for row) l ≡ find (stands_for row) l₁
same_kind row l l₁ q = find_kind row l ∙ ap (find (takes row.view)) q ∙ sym (find_kind row l₁)

-- What is found

abbrev found : Move → Found → Move
found m none = m
found m (hit x) = x

hit_is : {m x : Move} → hit m ≡ hit x → m ≡ x
hit_is {m} q = ap (found m) q

abbrev IsHit : Found → Type 0
IsHit none = ⊥
IsHit (hit m) = Unit {0}

pub not_hit : {m : Move} → none ≡ hit m → ⊥
not_hit q = subst IsHit (sym q) tt

pub hit_leads : (p : Move → Bool) (l : List Move) {m : Move} {n : Next} (st : State) → AllLead l n st → find p l ≡ hit m → (m.next ≡ n) × (too_deep m st ≡ false)
unfolding find
hit_leads p [] st a q = absurd (not_hit q)
hit_leads p (x ∷ l) {m} {n} st a q = at (p x) (λ z. hit_leads p l st a.2 z) q
  where
    at : (b : Bool) → (find p l ≡ hit m → (m.next ≡ n) × (too_deep m st ≡ false)) → pick b (hit x) (find p l) ≡ hit m → (m.next ≡ n) × (too_deep m st ≡ false)
    at true f z = (ap (λ (y : Move). y.next) (sym (hit_is z)) ∙ a.0, ap (λ (y : Move). too_deep y st) (sym (hit_is z)) ∙ a.1)
    at false f z = f z

pub level_hit : (b : Bool) (o : Found) {m : Move} → at_level b o ≡ hit m → o ≡ hit m
level_hit true o q = q
level_hit false o q = absurd (not_hit q)

-- the one move that there is to find
pub sole_move : (m : Move) (level : ℕ) (row : Row) {x : Move} → own_among (m ∷ []) level row ≡ hit x → m ≡ x
unfolding find
sole_move m level row {x} q = at (stands_for row m) (level_hit (eqb row.level level) (find (stands_for row) (m ∷ [])) q)
  where
    at : (b : Bool) → pick b (hit m) none ≡ hit x → m ≡ x
    at true z = hit_is z
    at false z = absurd (not_hit z)

-- One move: a row of its kind and level with bytes that it takes, and no other

module _ (m : Move) (level : ℕ) (q : is_quiet m.form ≡ false) where
  alone : (row : Row) (b : Bool) → eqb m.kind row.kind ≡ b → find (stands_for row) (m ∷ []) ≡ pick (b && takes row.view m) (hit m) none
  unfolding find
  alone row b z = ap (λ (x : Bool). pick (not x && eqb m.kind row.kind && takes row.view m) (hit m) none) q ∙ ap (λ (x : Bool). pick (x && takes row.view m) (hit m) none) z

  sole_hit : (v : List ℕ) → takes v m ≡ true → own_among (m ∷ []) level (row_with m.kind level v) ≡ hit m
  sole_hit v t =
      ap (λ (b : Bool). at_level b (find (stands_for (row_with m.kind level v)) (m ∷ []))) (eq-eqb level level refl)
      ∙ alone (row_with m.kind level v) true (eq-eqb m.kind m.kind refl) ∙ ap (λ (b : Bool). pick b (hit m) none) t

  sole_none : (row : Row) → (row.kind ≡ m.kind → row.level ≡ level → takes row.view m ≡ false) → own_among (m ∷ []) level row ≡ none
  sole_none row f = by (eqb row.level level) refl
    where
      kinds : (b : Bool) → eqb m.kind row.kind ≡ b → row.level ≡ level → find (stands_for row) (m ∷ []) ≡ none
      kinds true z l = alone row true z ∙ ap (λ (b : Bool). pick b (hit m) none) (f (sym (eqb-true m.kind row.kind z)) l)
      kinds false z l = alone row false z

      by : (b : Bool) → eqb row.level level ≡ b → at_level b (find (stands_for row) (m ∷ [])) ≡ none
      by true z = kinds (eqb m.kind row.kind) refl (eqb-true row.level level z)
      by false z = refl

  pub cells_none : (cs : List Cell) → NotOf m.kind level cs → NotAmong (m ∷ []) level cs
  cells_none [] x = tt
  cells_none (broken ∷ cs) x = tt
  cells_none (cell row ∷ cs) x = sole_none row (λ k l. absurd (x k l))

pub row_none : {pool rows : List ℕ} {i : ℕ} {row : Row} (l : List Move) (level : ℕ) → RowAhead pool rows i row → own_among l level row ≡ none → NotAmong l level (cells_at pool rows i)
row_none l level a q = subst (NotAmong l level) (sym a.cells) q

-- The row sought, for one move

module _ {pool rows : List ℕ} {i : ℕ} (m : Move) (level : ℕ) {r : Ahead} (q : is_quiet m.form ≡ false) (s : IsSought pool rows i m.kind level r) where
  pub sought_taken : {before : List ℕ} {at : ℕ} {after : List ℕ} {p : ℕ} → 3 ≤ m.kind → takes (viewed pool r) m ≡ true → Laid before at (lead m ++ write_value m.form (viewed pool r)) after p → RowTaken (m ∷ []) level pool rows i before at after p
  sought_taken k t l =
      record {
        row = row_with m.kind level (viewed pool r);
        move = m;
        ahead = s.row;
        inner = sym (opens_past m.kind level (viewed pool r) (omega arith));
        stands = sole_hit m level q (viewed pool r) t;
        laid = l;
      }

  -- what is ahead has other bytes
  pub sought_none : takes (viewed pool r) m ≡ false → NotAmong (m ∷ []) level (cells_at pool rows i)
  sought_none t = row_none (m ∷ []) level s.row (sole_none m level q _ (λ k l. t))

-- Among none

pub nothing_among : (level : ℕ) (cs : List Cell) → NotAmong [] level cs
unfolding find
nothing_among level [] = tt
nothing_among level (broken ∷ cs) = tt
nothing_among level (cell row ∷ cs) = at (eqb row.level level)
  where
    at : (b : Bool) → at_level b none ≡ none
    at true = refl
    at false = refl

-- Among moves that are the same for the row ahead

abbrev pub SameAhead : List Move → List Move → ℕ → List Cell → Type 0
SameAhead l l₁ level [] = Unit {0}
SameAhead l l₁ level (broken ∷ cs) = Unit {0}
SameAhead l l₁ level (cell row ∷ cs) = row.level ≡ level → of_kind row.kind l ≡ of_kind row.kind l₁

module _ (l l₁ : List Move) (level : ℕ) where
  own_same : (row : Row) → (row.level ≡ level → of_kind row.kind l ≡ of_kind row.kind l₁) → own_among l₁ level row ≡ own_among l level row
  own_same row same = at (eqb row.level level) refl
    where
      at : (b : Bool) → eqb row.level level ≡ b → at_level b (find (stands_for row) l₁) ≡ at_level b (find (stands_for row) l)
      at true q = sym (same_kind row l l₁ (same (eqb-true row.level level q)))
      at false q = refl

  none_same : (cs : List Cell) → SameAhead l l₁ level cs → NotAmong l level cs → NotAmong l₁ level cs
  none_same [] same x = tt
  none_same (broken ∷ cs) same x = tt
  none_same (cell row ∷ cs) same x = own_same row same ∙ x

  pub tried_same : (pool rows : List ℕ) (i : ℕ) → SameAhead l l₁ level (cells_at pool rows i) → (before : List ℕ) (at : ℕ) (after : List ℕ) (t : Option ℕ) → TriedIs l level pool rows i before at t after → TriedIs l₁ level pool rows i before at t after
  tried_same pool rows i same before at after (Some p) x =
      record { row = x.row; move = x.move; ahead = x.ahead; inner = x.inner; stands = own_same x.row (subst (SameAhead l l₁ level) x.ahead.cells same) ∙ x.stands; laid = x.laid }
  tried_same pool rows i same before at after None x = (x.0, none_same (cells_at pool rows i) same x.1)

-- moves of a kind that is not ahead change nothing
pub tried_away : (k level : ℕ) (l l₁ : List Move) → ((j : ℕ) → (j ≡ k → ⊥) → of_kind j l ≡ of_kind j l₁) → (pool rows : List ℕ) (i : ℕ) → NotOf k level (cells_at pool rows i) → (before : List ℕ) (at : ℕ) (after : List ℕ) (t : Option ℕ) → TriedIs l level pool rows i before at t after → TriedIs l₁ level pool rows i before at t after
tried_away k level l l₁ same pool rows i away = tried_same l l₁ level pool rows i (by (cells_at pool rows i) away)
  where
    by : (cs : List Cell) → NotOf k level cs → SameAhead l l₁ level cs
    by [] x = tt
    by (broken ∷ cs) x = tt
    by (cell row ∷ cs) x = λ q. same row.kind (λ z. x z q)

-- Among some moves, and else among others

find_else : (p : Move → Bool) (l l₁ : List Move) → find p (l ++ l₁) ≡ or_else (find p l) (find p l₁)
unfolding find
find_else p [] l₁ = refl
find_else p (m ∷ l) l₁ = at (p m) (find_else p l l₁)
  where
    at : (b : Bool) → find p (l ++ l₁) ≡ or_else (find p l) (find p l₁) → pick b (hit m) (find p (l ++ l₁)) ≡ or_else (pick b (hit m) (find p l)) (find p l₁)
    at true q = refl
    at false q = q

module _ (l l₁ : List Move) (level : ℕ) where
  own_else : (row : Row) {o : Found} → own_among l level row ≡ o → own_among (l ++ l₁) level row ≡ or_else o (own_among l₁ level row)
  own_else row q = at (eqb row.level level) ∙ ap (λ (x : Found). or_else x (own_among l₁ level row)) q
    where
      at : (b : Bool) → at_level b (find (stands_for row) (l ++ l₁)) ≡ or_else (at_level b (find (stands_for row) l)) (at_level b (find (stands_for row) l₁))
      at true = find_else (stands_for row) l l₁
      at false = refl

  none_else : (cs : List Cell) → NotAmong l level cs → NotAmong l₁ level cs → NotAmong (l ++ l₁) level cs
  none_else [] x y = tt
  none_else (broken ∷ cs) x y = tt
  none_else (cell row ∷ cs) x y = own_else row x ∙ y

  pub taken_first : {pool rows : List ℕ} {i : ℕ} {before : List ℕ} {at : ℕ} {after : List ℕ} {p : ℕ} → RowTaken l level pool rows i before at after p → RowTaken (l ++ l₁) level pool rows i before at after p
  taken_first x = record { row = x.row; move = x.move; ahead = x.ahead; inner = x.inner; stands = own_else x.row x.stands; laid = x.laid }

  pub tried_else : (pool rows : List ℕ) (i : ℕ) → NotAmong l level (cells_at pool rows i) → (before : List ℕ) (at : ℕ) (after : List ℕ) (t : Option ℕ) → TriedIs l₁ level pool rows i before at t after → TriedIs (l ++ l₁) level pool rows i before at t after
  tried_else pool rows i none_there before at after (Some p) x =
      record { row = x.row; move = x.move; ahead = x.ahead; inner = x.inner; stands = own_else x.row (subst (NotAmong l level) x.ahead.cells none_there) ∙ x.stands; laid = x.laid }
  tried_else pool rows i none_there before at after None x = (x.0, none_else (cells_at pool rows i) none_there x.1)
