-- A line of numbers, field by field.
use Rattle.std.specs.Prelude.{ℕ, List, [], ◌∷◌, ◌++◌, map, ◌≡◌, refl}
use Rattle.std.proofs.Common.{append_assoc, ap, sym, ◌∙◌}
use Rattle.meaning.specs.Listing.{decimal, line_of}

-- the fields of numbers, each with its tab
unfoldable pub fields_of : List ℕ → List ℕ
fields_of [] = []
fields_of (n ∷ row) = (decimal n ++ (0x09 ∷ [])) ++ fields_of row

pub fields_next : (n : ℕ) (row : List ℕ) → fields_of (n ∷ row) ≡ (decimal n ++ (0x09 ∷ [])) ++ fields_of row
unfolding fields_of
fields_next n row = refl

pub fields_none : fields_of [] ≡ []
unfolding fields_of
fields_none = refl

one_more : (f rest t : List ℕ) → f ++ (0x09 ∷ (rest ++ t)) ≡ ((f ++ (0x09 ∷ [])) ++ rest) ++ t
one_more f rest t = sym (append_assoc (f ++ (0x09 ∷ [])) rest t ∙ append_assoc f (0x09 ∷ []) (rest ++ t))

-- a line of numbers and one field behind them
pub line_of_fields : (row last : List ℕ) → line_of (map decimal row ++ (last ∷ [])) ≡ fields_of row ++ (last ++ (0x0a ∷ []))
unfolding line_of fields_of
line_of_fields [] last = refl
line_of_fields (n ∷ []) last = one_more (decimal n) [] (last ++ (0x0a ∷ []))
line_of_fields (n ∷ (m ∷ row)) last = ap (λ (x : List ℕ). decimal n ++ (0x09 ∷ x)) (line_of_fields (m ∷ row) last) ∙ one_more (decimal n) (fields_of (m ∷ row)) (last ++ (0x0a ∷ []))
