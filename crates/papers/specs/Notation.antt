-- The papers' notation (Table 1, "EBNF Rules"), said once. A syntax says which bytes may stand at a place and which rows they show; the rows form trees, since
-- one row may hold others.
use Rattle.std.specs.Prelude.{ℕ, suc, ◌+◌, List, [], ◌∷◌, ◌++◌, ◌≡◌, length}
use Rattle.meaning.specs.Told.{Edition, Told}
use Rattle.meaning.specs.Headers.{Placed, placed_row}

-- rows as trees: a row (kind, level, start, view), the trees inside it, and the trees beside it
pub data Trees : Type 0 where
  end : Trees
  tree : ℕ → ℕ → ℕ → List ℕ → Trees → Trees → Trees

-- trees, and those after them
infixr 65 ◌⊕◌
abbrev pub ◌⊕◌ : Trees → Trees → Trees
end ⊕ us = us
tree k n s v inside beside ⊕ us = tree k n s v inside (beside ⊕ us)

-- document 01: "Rows stand in byte order": a row, what is inside it, what is beside it
abbrev pub flat : Trees → List Placed
flat end = []
flat (tree k n s v inside beside) = placed_row k n s v ∷ (flat inside ++ flat beside)

-- how many rows trees have
abbrev pub size : Trees → ℕ
size end = 0
size (tree k n s v inside beside) = suc (size inside) + size beside

-- order 7, "the row after all that belongs to it": the row's own number, and itself with all that is inside it; i: the first row's number
abbrev pub skip_numbers : ℕ → Trees → List ℕ
skip_numbers i end = []
skip_numbers i (tree k n s v inside beside) = (suc i + size inside) ∷ (skip_numbers (suc i) inside ++ skip_numbers (suc i + size inside) beside)

-- .. and the table itself, as it stands in memory: kind, level, start, length and skip number of each row
abbrev pub laid : ℕ → Trees → List ℕ
laid i end = []
laid i (tree k n s v inside beside) = k ∷ n ∷ s ∷ length v ∷ (suc i + size inside) ∷ (laid (suc i) inside ++ laid (suc i + size inside) beside)

-- a syntax: the place of the first byte, the bytes, the trees
abbrev pub Syntax : Type 1
Syntax = ℕ → List ℕ → Trees → Type 0

-- "A B": one after the other
infixr 60 ◌⨾◌
pub data ◌⨾◌ (P Q : Syntax) : ℕ → List ℕ → Trees → Type 0 where
  ◌then◌ : {at : ℕ} {a b : List ℕ} {ts us : Trees} → P at a ts → Q (at + length a) b us → ◌⨾◌ P Q at (a ++ b) (ts ⊕ us)

infixr 61 ◌then◌
-- "Vertical bars denote an alternative between choices"
infixr 50 ◌∣◌
pub data ◌∣◌ (P Q : Syntax) : ℕ → List ℕ → Trees → Type 0 where
  first : {at : ℕ} {a : List ℕ} {ts : Trees} → P at a ts → ◌∣◌ P Q at a ts
  other : {at : ℕ} {a : List ℕ} {ts : Trees} → Q at a ts → ◌∣◌ P Q at a ts

-- "Square brackets denote an optional construct"
pub data optional (P : Syntax) : ℕ → List ℕ → Trees → Type 0 where
  absent : {at : ℕ} → optional P at [] end
  present : {at : ℕ} {a : List ℕ} {ts : Trees} → P at a ts → optional P at a ts

-- "Asterisk denotes zero or more repetitions of the preceding expression"
pub data many (P : Syntax) : ℕ → List ℕ → Trees → Type 0 where
  none : {at : ℕ} → many P at [] end
  more : {at : ℕ} {a b : List ℕ} {ts us : Trees} → P at a ts → many P (at + length a) b us → many P at (a ++ b) (ts ⊕ us)

-- .. and at most so many
pub data up_to (P : Syntax) : ℕ → ℕ → List ℕ → Trees → Type 0 where
  none : {n at : ℕ} → up_to P n at [] end
  more : {n at : ℕ} {a b : List ℕ} {ts us : Trees} → P at a ts → up_to P n (at + length a) b us → up_to P (suc n) at (a ++ b) (ts ⊕ us)

-- "0x?? is a hexadecimal byte": one that shows no row
pub data byte (c : ℕ) : ℕ → List ℕ → Trees → Type 0 where
  it : {at : ℕ} → byte c at (c ∷ []) end

-- bytes that show no row, by a rule of their own
pub data unseen (S : List ℕ → Type 0) : ℕ → List ℕ → Trees → Type 0 where
  these : {at : ℕ} {a : List ℕ} → S a → unseen S at a end

-- a syntax under a condition
pub data when (C : Type 0) (P : Syntax) : ℕ → List ℕ → Trees → Type 0 where
  met : {at : ℕ} {a : List ℕ} {ts : Trees} → C → P at a ts → when C P at a ts

-- what stands in one paper alone
abbrev pub only : Told → Edition → Syntax → Syntax
only t e P = when (t.edition ≡ e) P

-- a value: its bytes, how many of them stand before what its row views, and the view
abbrev pub Value : Type 1
Value = List ℕ → ℕ → List ℕ → Type 0

-- a value behind its code
infixr 70 ◌⊳◌
pub data ◌⊳◌ (c : ℕ) (X : Value) : List ℕ → ℕ → List ℕ → Type 0 where
  coded : {before : ℕ} {a view : List ℕ} → X a before view → ◌⊳◌ c X (c ∷ a) (suc before) view

-- document 01, "The table": a value with its row, of this kind and level
pub data leaf (kind level : ℕ) (X : Value) : ℕ → List ℕ → Trees → Type 0 where
  shows : {at before : ℕ} {a view : List ℕ} → X a before view → leaf kind level X at a (tree kind level (at + before) view end end)

-- .. and with what follows it inside its row
pub data node (kind level : ℕ) (X : Value) (P : Syntax) : ℕ → List ℕ → Trees → Type 0 where
  holds : {at before : ℕ} {a b view : List ℕ} {ts : Trees} → X a before view → P (at + length a) b ts → node kind level X P at (a ++ b) (tree kind level (at + before) view ts end)

-- a byte that opens a list: "Opening rows have length 0 and start at their identifier or code byte"
pub data opens (c : ℕ) : List ℕ → ℕ → List ℕ → Type 0 where
  it : opens c (c ∷ []) 0 []

-- a byte that is its own value: "standard representation (its one byte)"
pub data itself (c : ℕ) : List ℕ → ℕ → List ℕ → Type 0 where
  it : itself c (c ∷ []) 0 (c ∷ [])
