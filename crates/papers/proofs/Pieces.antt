-- Rules put together from a front and what follows it, and the moves of a room one by one.
use Rattle.std.specs.Prelude.{ℕ, ◌+◌, List, [], ◌∷◌, ◌++◌, true, false, not, ◌≡◌, refl, T, length}
use Rattle.std.proofs.Common.{append_assoc, ap, sym, subst, arith, eqb→eq, length-append}
use Rattle.meaning.specs.Basics.{is_empty, In, here, there}
use Rattle.meaning.specs.Told.{Edition, B, D, Told}
use Rattle.meaning.specs.Bytes.{absolute, relative, line, text_ok}
use Rattle.meaning.specs.Kinds.{extra_key, encrypted_opens, date_absolute, date_forward, date_backward}
use Rattle.meaning.specs.Editions.{Room, encrypted_texts, received_extra, Next, outer, stay, Form, text, date, Move, on◌▸◌▸◌▸◌, extra_code, received_extras, own_parameters, own_dates}
use Rattle.meaning.specs.Writing.{write_value, is_only}
use Rattle.meaning.specs.Grammar.{standing, start_in}
use Rattle.papers.specs.Notation.{Trees, end, tree, ◌⊕◌, Syntax, ◌⨾◌, ◌then◌, first, other, optional, absent, present, many, met, leaf, shows, node, holds, opens, itself, ◌⊳◌, coded}
use Rattle.papers.specs.Values.{NullTerminatedString}
use Rattle.papers.specs.Papers.{Any, UserDefinedParameter}
use Rattle.papers.proofs.Texts.{textual}

pub ⊕_assoc : (ts us vs : Trees) → (ts ⊕ us) ⊕ vs ≡ ts ⊕ (us ⊕ vs)
⊕_assoc end us vs = refl
⊕_assoc (tree k n s v inside beside) us vs = ap (λ (x : Trees). tree k n s v inside x) (⊕_assoc beside us vs)

module _ {P Q : Syntax} {at : ℕ} where
  pub skip : (a : List ℕ) (ts : Trees) → Q at a ts → (optional P ⨾ Q) at a ts
  skip a ts x =
      let x' : Q (at + 0) a ts = subst (λ (n : ℕ). Q n a ts) (omega arith) x in
      absent then x'

  pub taken : (f b c : List ℕ) (ts vs : Trees) → P at (f ++ b) ts → Q (at + length f + length b) c vs → (optional P ⨾ Q) at (f ++ (b ++ c)) (ts ⊕ vs)
  taken f b c ts vs x y =
      let y' : Q (at + length (f ++ b)) c vs = subst (λ (n : ℕ). Q n c vs) (omega (arith, length-append f b)) y in
      subst (λ (l : List ℕ). (optional P ⨾ Q) at l (ts ⊕ vs)) (append_assoc f b c) (present x then y')

  pub one_again : (at' : ℕ) (a c : List ℕ) (ts vs : Trees) → P at a ts → at + length a ≡ at' → (many P ⨾ Q) at' c vs → (many P ⨾ Q) at (a ++ c) (ts ⊕ vs)
  one_again _ a _ ts _ x q (◌then◌ {at = at'} {a = c} {b = d} {ts = us} {us = vs} ys z) =
      let ys' : many P (at + length a) c us = subst (λ (n : ℕ). many P n c us) (sym q) ys in
      let z' : Q (at + length (a ++ c)) d vs = subst (λ (n : ℕ). Q n d vs) (omega (arith, length-append a c, q)) z in
      let w : (many P ⨾ Q) at ((a ++ c) ++ d) ((ts ⊕ us) ⊕ vs) = many.more x ys' then z' in
      subst (λ (l : List ℕ). (many P ⨾ Q) at l (ts ⊕ (us ⊕ vs))) (append_assoc a c d) (subst (λ (us : Trees). (many P ⨾ Q) at ((a ++ c) ++ d) us) (⊕_assoc ts us vs) w)

  pub again : (f b c : List ℕ) (ts vs : Trees) → P at (f ++ b) ts → (many P ⨾ Q) (at + length f + length b) c vs → (many P ⨾ Q) at (f ++ (b ++ c)) (ts ⊕ vs)
  again f b c ts vs x y =
      subst (λ (l : List ℕ). (many P ⨾ Q) at l (ts ⊕ vs)) (append_assoc f b c) (one_again (at + length f + length b) (f ++ b) c ts vs x (omega (arith, length-append f b)) y)

-- the moves of a list, one by one
some : {m : Move} {l : List Move} → In m l → T (not (is_empty l))
some here = tt
some (there i) = tt

module _ (C : Move → Type 0) where
  pub first_of : (x : Move) (l : List Move) → C x → ((m : Move) → In m l → C m) → (m : Move) → In m (x ∷ l) → C m
  first_of x l c d m here = c
  first_of x l c d m (there i) = d m i

  pub no_more : (m : Move) → In m [] → C m
  no_more m i = absurd (some i)

pub only_one : (c : ℕ) (v : List ℕ) → T (is_only c v) → v ≡ c ∷ []
only_one c [] t = absurd t
only_one c (b ∷ []) t = ap (λ (x : ℕ). x ∷ []) (eqb→eq b c t)
only_one c (b ∷ (d ∷ v)) t = absurd t

pub agent_extra_lem : (t : Told) (n at : ℕ) (a : List ℕ) (ts : Trees) → node extra_key n (extra_code t.edition ⊳ NullTerminatedString line) (Any t n) at a ts → UserDefinedParameter t n at a ts
agent_extra_lem t n at a ts x = by t.edition refl x
  where
    by : (e : Edition) → t.edition ≡ e → node extra_key n (extra_code e ⊳ NullTerminatedString line) (Any t n) at a ts → UserDefinedParameter t n at a ts
    by B q y = first (met q y)
    by D q y = other (met q y)

abbrev pub extra_move : Edition → Room → Move
extra_move e r = on extra_code e ▸ extra_key ▸ text line ▸ stay r

pub extra_value : (e : Edition) (r : Room) (v : List ℕ) → T (text_ok line v) → (extra_code e ⊳ NullTerminatedString line) (standing (extra_move e r) v) (start_in (extra_move e r)) v
unfolding write_value
extra_value B r v ok = coded (textual ok)
extra_value D r v ok = coded (textual ok)

-- what one edition has alone
module _ (C : Move → Type 0) where
  pub received_extras_lem : (e : Edition) → (e ≡ D → C (extra_move e received_extra)) → (m : Move) → In m (received_extras e) → C m
  received_extras_lem B c = no_more C
  received_extras_lem D c = first_of C (extra_move D received_extra) [] (c refl) (no_more C)

  pub own_parameters_lem : (e : Edition) → (e ≡ B → C (on 0x08 ▸ encrypted_opens ▸ Form.opens ▸ outer encrypted_texts)) → (m : Move) → In m (own_parameters e) → C m
  own_parameters_lem B c = first_of C (on 0x08 ▸ encrypted_opens ▸ Form.opens ▸ outer encrypted_texts) [] (c refl) (no_more C)
  own_parameters_lem D c = no_more C

  pub own_dates_lem : (e : Edition) (n : Next) → (e ≡ B → C (on 0x21 ▸ date_absolute ▸ date absolute true ▸ n)) → (e ≡ D → C (on 0x21 ▸ date_forward ▸ date relative false ▸ n)) → (e ≡ D → C (on 0x22 ▸ date_backward ▸ date relative false ▸ n))
      → (e ≡ D → C (on 0x24 ▸ date_absolute ▸ date absolute true ▸ n)) → (e ≡ D → C (on 0x25 ▸ date_forward ▸ date relative true ▸ n)) → (e ≡ D → C (on 0x26 ▸ date_backward ▸ date relative true ▸ n)) → (m : Move) → In m (own_dates e n) → C m
  own_dates_lem B n a b c d f g = first_of C (on 0x21 ▸ date_absolute ▸ date absolute true ▸ n) [] (a refl) (no_more C)
  own_dates_lem D n a b c d f g =
      first_of C (on 0x21 ▸ date_forward ▸ date relative false ▸ n) _ (b refl) (first_of C (on 0x22 ▸ date_backward ▸ date relative false ▸ n) _ (c refl) (first_of C (on 0x24 ▸ date_absolute ▸ date absolute true ▸ n) _ (d refl)
      (first_of C (on 0x25 ▸ date_forward ▸ date relative true ▸ n) _ (f refl) (first_of C (on 0x26 ▸ date_backward ▸ date relative true ▸ n) _ (g refl) (no_more C)))))

-- a byte that opens a list views nothing, and one that is its own value views itself
pub opened_as : {c k n at : ℕ} {b : List ℕ} {ts : Trees} {P : Syntax} (v : List ℕ) → T (is_empty v) → P (at + 1) b ts → node k n (opens c) P at (c ∷ b) (tree k n (at + 0) v ts end)
opened_as [] ok y = holds opens.it y
opened_as (x ∷ v) ok y = absurd ok

pub itself_as : (c : ℕ) {k n at : ℕ} (v : List ℕ) → T (is_only c v) → leaf k n (itself c) at (c ∷ []) (tree k n (at + 0) v end end)
itself_as c {k} {n} {at} v ok = subst (λ (u : List ℕ). leaf k n (itself c) at (c ∷ []) (tree k n (at + 0) u end end)) (sym (only_one c v ok)) (shows itself.it)
