-- Which rows stand directly inside which, by the papers' rules: so order 7's sentence, clause by clause, is the tree's.
use Rattle.std.specs.Prelude.{ℕ, suc, ◌+◌, List, Bool, true, false, ◌&&◌, ◌||◌, ◌≡◌, T, eqb, length}
use Rattle.std.proofs.lemmas.Bool.{false≢true}
use Rattle.std.proofs.Common.{sym, ◌∙◌}
use Rattle.meaning.specs.Basics.{pick}
use Rattle.meaning.specs.Kinds.{received_by, received_from, received_id, received_via, to_opens, from_opens, receiver_opens, agent_name, addresses_open, address, resolvers_open, extra_key, comments, payload_length, payload_encoding, encrypted_opens, encrypted_item, own_key, own_value, behaviour_opens}
use Rattle.meaning.specs.Codes.{is_representation, is_date}
use Rattle.meaning.specs.Skips.{Rank, rank, is_envelope, is_value}
use Rattle.papers.specs.Notation.{Trees, end, tree, ◌⊕◌, size, Syntax, Value, ◌⨾◌, ◌then◌, ◌∣◌, first, other, optional, absent, present, many, up_to, byte, unseen, these, when, met, leaf, shows, node, holds}
use Rattle.papers.specs.Papers.{envelope, of}

-- the lists of agents
abbrev pub lists_agents : ℕ → Bool
lists_agents kind = eqb kind to_opens || eqb kind from_opens || eqb kind receiver_opens || eqb kind resolvers_open

-- what an envelope's own rows are: its fixed head and its parameters
abbrev pub in_envelope : ℕ → Bool
in_envelope kind =
    is_representation kind || is_date kind || eqb kind received_by || eqb kind to_opens || eqb kind from_opens || eqb kind receiver_opens || eqb kind comments || eqb kind payload_length || eqb kind payload_encoding || eqb kind encrypted_opens ||
    eqb kind own_key || eqb kind behaviour_opens

-- the kinds of the rows directly inside a row of this kind: none for a kind that is not named
abbrev pub kind_in : ℕ → ℕ → Bool
kind_in owner kind =
    pick (is_envelope owner) (in_envelope kind)
    (pick (lists_agents owner) (eqb kind agent_name)
    (pick (eqb owner agent_name) (eqb kind addresses_open || eqb kind resolvers_open || eqb kind extra_key)
    (pick (eqb owner addresses_open) (eqb kind address)
    (pick (eqb owner received_by) (is_date kind || eqb kind received_from || eqb kind received_id || eqb kind received_via || eqb kind extra_key)
    (pick (eqb owner extra_key || eqb owner behaviour_opens) (is_value kind)
    (pick (eqb owner encrypted_opens) (eqb kind encrypted_item)
    (pick (eqb owner own_key) (eqb kind own_value) false)))))))

-- their level
abbrev pub level_in : Rank → ℕ
level_in r = pick (lists_agents r.kind || eqb r.kind received_by) (suc r.level) r.level

abbrev pub may_hold : Rank → Rank → Bool
may_hold owner r = kind_in owner.kind r.kind && eqb r.level (level_in owner)

-- "an own or extra key includes its value": one row; so does transport behaviour
abbrev pub holds_one : ℕ → Bool
holds_one kind = eqb kind own_key || eqb kind extra_key || eqb kind behaviour_opens

-- the rows beside each other, without what is inside them
abbrev pub Tops : (Rank → Bool) → Trees → Type 0
Tops p end = Unit {0}
Tops p (tree k n s v inside beside) = T (p (rank k n)) × Tops p beside

-- every row holds what it may
abbrev pub Each : Trees → Type 0
Each end = Unit {0}
Each (tree k n s v inside beside) = Tops (may_hold (rank k n)) inside × (holds_one k ≡ true → size inside ≡ 1) × Each inside × Each beside

tops_⊕ : (p : Rank → Bool) (ts us : Trees) → Tops p ts → Tops p us → Tops p (ts ⊕ us)
tops_⊕ p end us x y = y
tops_⊕ p (tree k n s v inside beside) us x y = (x.0, tops_⊕ p beside us x.1 y)

each_⊕ : (ts us : Trees) → Each ts → Each us → Each (ts ⊕ us)
each_⊕ end us x y = y
each_⊕ (tree k n s v inside beside) us x y = (x.0, x.1, x.2, each_⊕ beside us x.3 y)

-- a syntax whose trees are so, with these rows beside each other
pub record Holding (P : Syntax) (p : Rank → Bool) : Type 0 where
  pub tops : (at : ℕ) (a : List ℕ) (ts : Trees) → P at a ts → Tops p ts
  pub each : (at : ℕ) (a : List ℕ) (ts : Trees) → P at a ts → Each ts

module _ {p : Rank → Bool} where
  pub holding_then : {P Q : Syntax} → Holding P p → Holding Q p → Holding (P ⨾ Q) p
  holding_then {P} {Q} x y = record { tops = tops; each = each }
    where
      tops : (at : ℕ) (a : List ℕ) (ts : Trees) → (P ⨾ Q) at a ts → Tops p ts
      tops _ _ _ (◌then◌ {at} {a} {b} {ts} {us} u w) = tops_⊕ p ts us (x.tops at a ts u) (y.tops (at + length a) b us w)

      each : (at : ℕ) (a : List ℕ) (ts : Trees) → (P ⨾ Q) at a ts → Each ts
      each _ _ _ (◌then◌ {at} {a} {b} {ts} {us} u w) = each_⊕ ts us (x.each at a ts u) (y.each (at + length a) b us w)

  pub holding_either : {P Q : Syntax} → Holding P p → Holding Q p → Holding (P ∣ Q) p
  holding_either {P} {Q} x y = record { tops = tops; each = each }
    where
      tops : (at : ℕ) (a : List ℕ) (ts : Trees) → (P ∣ Q) at a ts → Tops p ts
      tops at a ts (first u) = x.tops at a ts u
      tops at a ts (other w) = y.tops at a ts w

      each : (at : ℕ) (a : List ℕ) (ts : Trees) → (P ∣ Q) at a ts → Each ts
      each at a ts (first u) = x.each at a ts u
      each at a ts (other w) = y.each at a ts w

  pub holding_byte : {c : ℕ} → Holding (byte c) p
  holding_byte {c} = record { tops = tops; each = each }
    where
      tops : (at : ℕ) (a : List ℕ) (ts : Trees) → byte c at a ts → Tops p ts
      tops _ _ _ byte.it = tt

      each : (at : ℕ) (a : List ℕ) (ts : Trees) → byte c at a ts → Each ts
      each _ _ _ byte.it = tt

  pub holding_unseen : {R : List ℕ → Type 0} → Holding (unseen R) p
  holding_unseen {R} = record { tops = tops; each = each }
    where
      tops : (at : ℕ) (a : List ℕ) (ts : Trees) → unseen R at a ts → Tops p ts
      tops _ _ _ (these x) = tt

      each : (at : ℕ) (a : List ℕ) (ts : Trees) → unseen R at a ts → Each ts
      each _ _ _ (these x) = tt

  pub holding_when : {P : Syntax} {C : Type 0} → Holding P p → Holding (when C P) p
  holding_when {P} {C} x = record { tops = tops; each = each }
    where
      tops : (at : ℕ) (a : List ℕ) (ts : Trees) → when C P at a ts → Tops p ts
      tops at a ts (met c u) = x.tops at a ts u

      each : (at : ℕ) (a : List ℕ) (ts : Trees) → when C P at a ts → Each ts
      each at a ts (met c u) = x.each at a ts u

  module _ {P : Syntax} (x : Holding P p) where
    pub holding_optional : Holding (optional P) p
    holding_optional = record { tops = tops; each = each }
      where
        tops : (at : ℕ) (a : List ℕ) (ts : Trees) → optional P at a ts → Tops p ts
        tops _ _ _ absent = tt
        tops at a ts (present u) = x.tops at a ts u

        each : (at : ℕ) (a : List ℕ) (ts : Trees) → optional P at a ts → Each ts
        each _ _ _ absent = tt
        each at a ts (present u) = x.each at a ts u

    pub holding_many : Holding (many P) p
    holding_many = record { tops = tops; each = each }
      where
        tops : (at : ℕ) (a : List ℕ) (ts : Trees) → many P at a ts → Tops p ts
        tops _ _ _ many.none = tt
        tops _ _ _ (many.more {at} {a} {b} {ts} {us} u w) = tops_⊕ p ts us (x.tops at a ts u) (tops (at + length a) b us w)

        each : (at : ℕ) (a : List ℕ) (ts : Trees) → many P at a ts → Each ts
        each _ _ _ many.none = tt
        each _ _ _ (many.more {at} {a} {b} {ts} {us} u w) = each_⊕ ts us (x.each at a ts u) (each (at + length a) b us w)

    pub holding_up_to : (n : ℕ) → Holding (up_to P n) p
    holding_up_to n = record { tops = tops n; each = each n }
      where
        tops : (n at : ℕ) (a : List ℕ) (ts : Trees) → up_to P n at a ts → Tops p ts
        tops _ _ _ _ up_to.none = tt
        tops _ _ _ _ (up_to.more {n} {at} {a} {b} {ts} {us} u w) = tops_⊕ p ts us (x.tops at a ts u) (tops n (at + length a) b us w)

        each : (n at : ℕ) (a : List ℕ) (ts : Trees) → up_to P n at a ts → Each ts
        each _ _ _ _ up_to.none = tt
        each _ _ _ _ (up_to.more {n} {at} {a} {b} {ts} {us} u w) = each_⊕ ts us (x.each at a ts u) (each n (at + length a) b us w)

  -- a row with nothing inside it
  pub holding_leaf : (k n : ℕ) {X : Value} → T (p (rank k n)) → holds_one k ≡ false → Holding (leaf k n X) p
  holding_leaf k n {X} here none = record { tops = tops; each = each }
    where
      tops : (at : ℕ) (a : List ℕ) (ts : Trees) → leaf k n X at a ts → Tops p ts
      tops _ _ _ (shows u) = (here, tt)

      each : (at : ℕ) (a : List ℕ) (ts : Trees) → leaf k n X at a ts → Each ts
      each _ _ _ (shows u) = (tt, (λ q. absurd (false≢true (sym none ∙ q))), tt, tt)

  -- a row and what is inside it
  pub holding_node : (k n : ℕ) {X : Value} {P : Syntax} → T (p (rank k n)) → ((at : ℕ) (a : List ℕ) (ts : Trees) → P at a ts → holds_one k ≡ true → size ts ≡ 1) → Holding P (may_hold (rank k n)) → Holding (node k n X P) p
  holding_node k n {X} {P} here one x = record { tops = tops; each = each }
    where
      tops : (at : ℕ) (a : List ℕ) (ts : Trees) → node k n X P at a ts → Tops p ts
      tops _ _ _ (holds u w) = (here, tt)

      each : (at : ℕ) (a : List ℕ) (ts : Trees) → node k n X P at a ts → Each ts
      each _ _ _ (holds {at} {a} {b} {ts} u w) = (x.tops (at + length a) b ts w, one (at + length a) b ts w, x.each (at + length a) b ts w, tt)

  pub holding_envelope : (k : ℕ) {P : ℕ → Syntax} → T (p (rank k 0)) → holds_one k ≡ false → ((n : ℕ) → Holding (P n) (may_hold (rank k 0))) → Holding (envelope k P) p
  holding_envelope k {P} here none x = record { tops = tops; each = each }
    where
      tops : (at : ℕ) (a : List ℕ) (ts : Trees) → envelope k P at a ts → Tops p ts
      tops _ _ _ (of fits w) = (here, tt)

      each : (at : ℕ) (a : List ℕ) (ts : Trees) → envelope k P at a ts → Each ts
      each _ _ _ (of {at} {bytes} {ts} fits w) = ((x (length bytes)).tops at bytes ts w, (λ q. absurd (false≢true (sym none ∙ q))), (x (length bytes)).each at bytes ts w, tt)
