-- Small words that the definitions share.
use Rattle.std.specs.Prelude.{List, [], ◌∷◌, Bool, true, false, ◌&&◌}

module _ {A : Type 0} where
  -- the first answer where the test holds, else the second (both are computed: a costly one is bound by a `let` before)
  abbrev pub pick : Bool → A → A → A
  pick true a b = a
  pick false a b = b

  abbrev pub is_empty : List A → Bool
  is_empty [] = true
  is_empty (x ∷ xs) = false

  -- every member passes
  abbrev pub every : (A → Bool) → List A → Bool
  every p [] = true
  every p (x ∷ xs) = p x && every p xs

-- x is a member of the list
pub data In {A : Type 0} (x : A) : List A → Type 0 where
  here : {l : List A} → In x (x ∷ l)
  there : {y : A} {l : List A} → In x l → In x (y ∷ l)
