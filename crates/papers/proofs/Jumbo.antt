-- A JumboEnvelope, derived: a base envelope with a comment of n letters, for every n that makes it too long for two bytes and not too long at all.
use Rattle.std.specs.Prelude.{ℕ, zero, suc, ◌+◌, ◌≤◌, List, [], ◌∷◌, ◌++◌, Bool, false, ◌≡◌, refl, length}
use Rattle.std.proofs.Common.{append-nil, ap, subst, arith, leb→le, length-append}
use Rattle.std.proofs.lemmas.Bool.{lt-leb}
use Rattle.meaning.specs.Bytes.{Rule, two_bytes, four_bytes, length_bytes}
use Rattle.meaning.specs.Basics.{pick}
use Rattle.meaning.specs.Headers.{envelope_most}
use Rattle.meaning.specs.Writing.{is_short, envelope_size}
use Rattle.meaning.specs.Grammar.{head_size}
use Rattle.meaning.specs.Told.{Told}
use Rattle.meaning.specs.Kinds.{base_opens, standard_representation, date_absolute, comments}
use Rattle.papers.specs.Notation.{Trees, end, tree, ◌⨾◌, ◌then◌, first, other, many, up_to, byte, shows, coded, itself}
use Rattle.papers.specs.Values.{plain, String, empty, character, string}
use Rattle.papers.specs.Papers.{ACLRepresentation, Date, Parameter, BaseEnvelope, Header}
use Rattle.papers.specs.ExampleTexts.{may_date}
use Rattle.papers.proofs.Examples.{the_date}
use Rattle.papers.proofs.Headed

-- n times the letter a
abbrev pub letters : ℕ → List ℕ
letters zero = []
letters (suc n) = 0x61 ∷ letters n

all_letters : {rule : Rule} (n : ℕ) → String rule (letters n)
all_letters zero = empty
all_letters (suc n) = character (plain (leb→le 0x20 0x61 tt)) (all_letters n)

letters_long : (n : ℕ) → length (letters n) ≡ n
letters_long zero = refl
letters_long (suc n) = ap suc (letters_long n)

module _ (t : Told) (n : ℕ) where
  -- 05 and the comment
  abbrev comment : List ℕ
  comment = 0x05 ∷ (letters n ++ (0x00 ∷ []))

  -- representation, date, comment, 01
  abbrev pub body : List ℕ
  body = (0x12 ∷ (0x20 ∷ may_date)) ++ (comment ++ (0x01 ∷ []))

  -- its rows, from the place p on
  abbrev pub rows : ℕ → Trees
  rows p = tree standard_representation 0 (p + 0) (0x12 ∷ []) end (tree date_absolute 0 (p + 1 + 1) may_date end (tree comments 0 (p + 11 + 1) (letters n) end end))

  body_is : (p : ℕ) → ((ACLRepresentation t ⨾ Date t 0) ⨾ (many (Parameter t) ⨾ byte 0x01)) p body (rows p)
  body_is p =
      let one : Parameter t (p + 11) comment (tree comments 0 (p + 11 + 1) (letters n) end end) = first (other (other (other (first (shows (coded (string (all_letters n)))))))) in
      let some : many (Parameter t) (p + 11) (comment ++ []) (tree comments 0 (p + 11 + 1) (letters n) end end) = many.more one many.none in
      let all : many (Parameter t) (p + 11) comment (tree comments 0 (p + 11 + 1) (letters n) end end) = subst (λ (l : List ℕ). many (Parameter t) (p + 11) l (tree comments 0 (p + 11 + 1) (letters n) end end)) (append-nil comment) some in
      (other (other (other (shows itself.it))) then first (shows (coded the_date))) then all then byte.it

  body_long : length body ≡ 14 + n
  body_long = omega (arith, length-append comment (0x01 ∷ []), length-append (letters n) (0x00 ∷ []), letters_long n)

  -- "The long form is used exactly if the envelope in the short form would pass 65,535 bytes": from 65,519 letters on, to the envelope's limit
  pub jumbo_is : 65519 ≤ n → n ≤ 1048555 → Header t 0 (0xfe ∷ (0x00 ∷ (0x00 ∷ (length_bytes four_bytes (21 + n) ++ body)))) (tree base_opens 0 0 [] (rows 7) end)
  jumbo_is lo hi =
      let k = length body in
      let long : is_short k ≡ false = lt-leb (3 + k) 65535 (omega (arith, body_long)) in
      let fits : envelope_size k ≤ envelope_most = rw long (omega (arith, body_long)) in
      let x = Headed.closed base_opens 0xfe (ACLRepresentation t ⨾ Date t 0) (many (Parameter t) ⨾ byte 0x01) 0 body (rows (0 + head_size k)) fits (body_is (0 + head_size k)) in
      let y : BaseEnvelope t 0 (0xfe ∷ (0x00 ∷ (0x00 ∷ (length_bytes four_bytes (7 + k) ++ body)))) (tree base_opens 0 0 [] (rows 7) end)
      = subst (λ (b : Bool). BaseEnvelope t 0 (0xfe ∷ (pick b (length_bytes two_bytes (3 + k)) (0 ∷ (0 ∷ length_bytes four_bytes (7 + k))) ++ body)) (tree base_opens 0 0 [] (rows (0 + pick b 3 7)) end)) long x in
      let z : BaseEnvelope t 0 (0xfe ∷ (0x00 ∷ (0x00 ∷ (length_bytes four_bytes (21 + n) ++ body)))) (tree base_opens 0 0 [] (rows 7) end)
      = subst (λ (m : ℕ). BaseEnvelope t 0 (0xfe ∷ (0x00 ∷ (0x00 ∷ (length_bytes four_bytes m ++ body)))) (tree base_opens 0 0 [] (rows 7) end)) (omega (arith, body_long)) y in
      up_to.none then z
