-- A kind that neither begins a parameter nor has a code that leads to it.
use Prim.Native.Nat.{ℕ}
use lib.Dec.{eqb}
use mathlib.Core.Bool.{Bool, true, false}
use mathlib.Core.List.{[]}
use mathlib.Core.Logic.{◌⊎◌, inl, inr}
use mathlib.Core.Path.{◌≡◌, refl, sym}
use native.Mathlib.Omega.{arith}
use borrow.Author.Tests.{ne_eqb}
use denote.Enum.Bare.{sameb}
use Rattle.meaning.specs.Kinds.{standard_representation, own_representation, from_opens}
use Rattle.meaning.specs.Editions.{parameters, closing, moves, shared, own}
use Rattle.meaning.specs.Writing.{way_to}
use Rattle.meaning.specs.Told.{Edition, B, D}
use Rattle.write_rows.specs.Rooms.{of_kind}
use Rattle.table.specs.Kinds.{number_of}
use Rattle.table.specs.contracts.kinds.Kind.{the_type}
use Rattle.table.specs.declared.kinds.Kind.{Kind}
use Rattle.table.specs.declared.kinds.Kind.TheVariants.{StandardRepresentation, OwnRepresentation, ReceivedBy, ToOpens, FromOpens, ReceiverOpens, Comments, PayloadLength, PayloadEncoding, EncryptedOpens, OwnKey, BehaviourOpens}
use Rattle.write_inside.specs.Parameters.{Names, Represents}
use Rattle.std.proofs.lemmas.Grind.{common_steps}

pub record OtherKind (k : ℕ) : Type 0 where
  pub represents : Represents k → ⊥
  pub names : Names k → ⊥
  pub receives : k ≡ 8 → ⊥
  pub comment : k ≡ 22 → ⊥
  pub long : k ≡ 23 → ⊥
  pub encoding : k ≡ 24 → ⊥
  pub encrypted : k ≡ 25 → ⊥
  pub key : k ≡ 27 → ⊥
  pub behaviour : k ≡ 29 → ⊥

-- a kind that begins no parameter
pub other_kind : (k : Kind) → (k ≡ StandardRepresentation → ⊥) → (k ≡ OwnRepresentation → ⊥) → (k ≡ ReceivedBy → ⊥) → (k ≡ ToOpens → ⊥) → (k ≡ FromOpens → ⊥) → (k ≡ ReceiverOpens → ⊥) → (k ≡ Comments → ⊥) → (k ≡ PayloadLength → ⊥) → (k ≡ PayloadEncoding → ⊥) → (k ≡ EncryptedOpens → ⊥) → (k ≡ OwnKey → ⊥) → (k ≡ BehaviourOpens → ⊥) → OtherKind (number_of k)
other_kind k standard own by to from receiver note long encoding encrypted key behaviour =
    record {
      represents = λ x. grind (arith, common_steps);
      names = λ x. grind (arith, common_steps);
      receives = λ q. grind (arith, common_steps);
      comment = λ q. grind (arith, common_steps);
      long = λ q. grind (arith, common_steps);
      encoding = λ q. grind (arith, common_steps);
      encrypted = λ q. grind (arith, common_steps);
      key = λ q. grind (arith, common_steps);
      behaviour = λ q. grind (arith, common_steps);
    }

pub names_kind : (k : Kind) → (k ≡ ToOpens) ⊎ ((k ≡ FromOpens) ⊎ (k ≡ ReceiverOpens)) → Names (number_of k)
names_kind k (inl q) = rw q (omega arith, omega arith)
names_kind k (inr (inl q)) = rw q (omega arith, omega arith)
names_kind k (inr (inr q)) = rw q (omega arith, omega arith)

-- the code's own tests of a kind
pub from_kind : (k : Kind) {b : Bool} → b ≡ sameb the_type k FromOpens → b ≡ eqb (number_of k) from_opens
from_kind k q = grind (arith, common_steps)

pub standard_kind : (k : Kind) {b : Bool} → b ≡ sameb the_type k StandardRepresentation → b ≡ true → number_of k ≡ standard_representation
standard_kind k q t = grind (arith, common_steps)

pub own_kind : (k : Kind) {b : Bool} → b ≡ sameb the_type k StandardRepresentation → b ≡ false → Represents (number_of k) → number_of k ≡ own_representation
own_kind k q t r = grind (arith, common_steps)

-- a number that is no kind's
pub no_kind : (k : ℕ) → ((kind : Kind) → number_of kind ≡ k → ⊥) → OtherKind k
no_kind k h =
    record {
      represents = λ x. let a = h StandardRepresentation in let b = h OwnRepresentation in omega (arith, x);
      names = λ x. let a = h ToOpens in let b = h FromOpens in let d = h ReceiverOpens in omega (arith, x);
      receives = λ q. h ReceivedBy (sym q);
      comment = λ q. h Comments (sym q);
      long = λ q. h PayloadLength (sym q);
      encoding = λ q. h PayloadEncoding (sym q);
      encrypted = λ q. h EncryptedOpens (sym q);
      key = λ q. h OwnKey (sym q);
      behaviour = λ q. h BehaviourOpens (sym q);
    }

pub none_other : (edition : Edition) (k : ℕ) → OtherKind k → of_kind k (moves edition parameters) ≡ []
unfolding moves shared own
none_other D k o =
    rw (ne_eqb 12 k (λ z. o.names (omega arith, omega arith)), ne_eqb 13 k (λ z. o.names (omega arith, omega arith)), ne_eqb 14 k (λ z. o.names (omega arith, omega arith)), ne_eqb 22 k (λ z. o.comment (sym z)), ne_eqb 23 k (λ z. o.long (sym z)), ne_eqb 24 k (λ z. o.encoding (sym z)), ne_eqb 27 k (λ z. o.key (sym z)), ne_eqb 29 k (λ z. o.behaviour (sym z))) refl
none_other B k o =
    rw (ne_eqb 12 k (λ z. o.names (omega arith, omega arith)), ne_eqb 13 k (λ z. o.names (omega arith, omega arith)), ne_eqb 14 k (λ z. o.names (omega arith, omega arith)), ne_eqb 22 k (λ z. o.comment (sym z)), ne_eqb 23 k (λ z. o.long (sym z)), ne_eqb 24 k (λ z. o.encoding (sym z)), ne_eqb 25 k (λ z. o.encrypted (sym z)), ne_eqb 27 k (λ z. o.key (sym z)), ne_eqb 29 k (λ z. o.behaviour (sym z))) refl

pub closes_other : (k : ℕ) → OtherKind k → way_to k ≡ closing
closes_other k o = rw (ne_eqb k 3 (λ z. o.represents (omega arith, omega arith)), ne_eqb k 4 (λ z. o.represents (omega arith, omega arith)), ne_eqb k 8 o.receives) refl
