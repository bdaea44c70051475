-- The papers' rules and the reader's moves, the other way: a run of moves is cut into the papers' rules.
-- From each room a piece of a rule is left (`rest`), and behind it the run stands where that rule was begun (`follow`): a run is a chain of such pieces.
use Rattle.std.specs.Prelude.{ℕ, zero, suc, ◌+◌, ◌-◌, ◌≤◌, List, [], ◌∷◌, ◌++◌, Bool, true, false, ◌&&◌, ◌≡◌, refl, T, eqb, length}
use Rattle.std.proofs.Common.{append_assoc, append-nil, ap, sym, ◌∙◌, subst, arith, ne_eqb, length-append}
use Rattle.std.proofs.lemmas.Bool.{false≢true}
use Rattle.meaning.specs.Basics.{pick}
use Rattle.meaning.specs.Told.{D, Told}
use Rattle.meaning.specs.Bytes.{note}
use Rattle.meaning.specs.Kinds.{agent_name, own_value}
use Rattle.meaning.specs.Editions.{Room, received_begins, head_representation, head_date, parameters, own_text, parameter_representation, behaviour_value, encrypted_texts, received_date, after_date, after_from, after_id, after_via, received_extra, closed, agent_list, one_agent, after_name, address_texts, after_addresses, after_resolvers, agent_extra, State, state, agent_ends, list_end, go, is_quiet, Move}
use Rattle.meaning.specs.Reading.{is_closed, level_most}
use Rattle.meaning.specs.Headers.{Placed, placed_row}
use Rattle.meaning.specs.Grammar.{standing, start_in}
use Rattle.papers.specs.Notation.{Trees, end, tree, ◌⊕◌, flat, Syntax, ◌⨾◌, optional, many, only, leaf}
use Rattle.laws_steps.specs.Values.{allowed}
use Rattle.papers.specs.Values.{NullTerminatedString}
use Rattle.papers.specs.Papers.{Any, UserDefinedParameter, UrlSequence, Addresses, AgentIdentifier, AgentIdentifierSequence, Resolvers, EndOfCollection, ReceivedObject, ACLRepresentation, Date, Parameter, StringSequence}
use Rattle.papers.proofs.Walks.{flat_⊕, and_false}
use Rattle.papers.proofs.Walked.{AfterDate, AfterFrom, AfterId}

-- where a run stands behind that
abbrev pub behind : Room → ℕ → Bool → State
behind received_begins n o = state parameters 0 false
behind head_representation n o = state head_date 0 false
behind head_date n o = state parameters 0 false
behind parameters n o = state closed 0 false
behind own_text n o = state parameters 0 false
behind parameter_representation n o = state parameters 0 false
behind behaviour_value n o = state parameters 0 false
behind encrypted_texts n o = state parameters 0 false
behind received_date n o = state parameters 0 false
behind after_date n o = state parameters 0 false
behind after_from n o = state parameters 0 false
behind after_id n o = state parameters 0 false
behind after_via n o = state parameters 0 false
behind received_extra n o = state after_via n o
behind agent_list n o = list_end n o
behind one_agent n o = go agent_ends (state after_resolvers n o)
behind after_name n o = go agent_ends (state after_resolvers n o)
behind address_texts n o = state after_addresses n o
behind after_addresses n o = go agent_ends (state after_resolvers n o)
behind after_resolvers n o = go agent_ends (state after_resolvers n o)
behind agent_extra n o = state after_resolvers n o
behind closed n o = state closed 0 false

abbrev pub follow : State → State
follow st = behind st.room st.level st.single

-- where the reader can stand
pub data Fine : State → Type 0 where
  list : (n : ℕ) (o : Bool) → o && eqb (suc n) 1 ≡ false → Fine (state agent_list (suc n) o)
  one : (n : ℕ) (o : Bool) → Fine (state one_agent (suc n) o)
  name : (n : ℕ) (o : Bool) → Fine (state after_name (suc n) o)
  texts : (n : ℕ) (o : Bool) → Fine (state address_texts (suc n) o)
  addresses : (n : ℕ) (o : Bool) → Fine (state after_addresses (suc n) o)
  resolvers : (n : ℕ) (o : Bool) → Fine (state after_resolvers (suc n) o)
  extra : (n : ℕ) (o : Bool) → Fine (state agent_extra (suc n) o)
  begins : Fine (state received_begins 0 false)
  representation : Fine (state head_representation 0 false)
  dated : Fine (state head_date 0 false)
  parameter : Fine (state parameters 0 false)
  own_text_lem : Fine (state own_text 0 false)
  own_representation_lem : Fine (state parameter_representation 0 false)
  behaviour : Fine (state behaviour_value 0 false)
  encrypted : Fine (state encrypted_texts 0 false)
  received_date_lem : Fine (state received_date 1 false)
  date_over : Fine (state after_date 1 false)
  from_over : Fine (state after_from 1 false)
  id_over : Fine (state after_id 1 false)
  via_over : Fine (state after_via 1 false)
  received_extra_lem : Fine (state received_extra 1 false)
  shut : Fine (state closed 0 false)

pub no_pass : {A : Type 0} → false ≡ true → A
no_pass q = absurd (false≢true q)

pub agent_ends_lem : (n : ℕ) (o : Bool) → Fine (go agent_ends (state after_resolvers (suc n) o))
agent_ends_lem n o = by (o && eqb (suc n) 1) refl
  where
    by : (b : Bool) → o && eqb (suc n) 1 ≡ b → Fine (pick b (state parameters 0 false) (state agent_list (suc n) o))
    by true q = parameter
    by false q = list n o q

pub deep_list : (n : ℕ) (o : Bool) → o && eqb (suc (suc n)) 1 ≡ false
deep_list n o = rw (ne_eqb (suc (suc n)) 1 (λ h. absurd (omega arith)), and_false o) refl

pub list_ends_lem : (n : ℕ) (o : Bool) → Fine (list_end (suc n) o)
list_ends_lem zero o = parameter
list_ends_lem (suc n) o = resolvers n o

module _ (t : Told) where
  -- an agent of level n: so many levels are left
  abbrev pub Agent : ℕ → Syntax
  Agent n = AgentIdentifier t (9 - n) n

  -- what is left of a rule in a room
  abbrev pub Extras : ℕ → Syntax
  Extras n = many (UserDefinedParameter t n) ⨾ EndOfCollection

  abbrev pub FromResolvers : ℕ → Syntax
  FromResolvers n = optional (Resolvers t n (Agent (suc n))) ⨾ Extras n

  abbrev pub FromAddresses : ℕ → Syntax
  FromAddresses n = optional (Addresses t n) ⨾ FromResolvers n

  abbrev pub left : Room → ℕ → Syntax
  left received_begins n = ReceivedObject t
  left head_representation n = ACLRepresentation t
  left head_date n = Date t 0
  left parameters n = many (Parameter t) ⨾ EndOfCollection
  left own_text n = leaf own_value 0 (NullTerminatedString note)
  left parameter_representation n = ACLRepresentation t
  left behaviour_value n = Any t 0
  left encrypted_texts n = StringSequence t
  left received_date n = Date t 1 ⨾ AfterDate t
  left after_date n = AfterDate t
  left after_from n = AfterFrom t
  left after_id n = AfterId t
  left after_via n = many (only t D (UserDefinedParameter t 1)) ⨾ EndOfCollection
  left received_extra n = Any t 1
  left agent_list n = AgentIdentifierSequence t (Agent n)
  left one_agent n = Agent n
  left after_name n = FromAddresses n
  left address_texts n = UrlSequence t n
  left after_addresses n = FromResolvers n
  left after_resolvers n = Extras n
  left agent_extra n = Any t n
  left closed n = λ at a ts. ⊥

  abbrev pub rest : State → Syntax
  rest st = left st.room st.level

  pub data Chain : State → ℕ → List ℕ → List Placed → Type 0 where
    over : {st : State} {at : ℕ} → is_closed st.room ≡ true → Chain st at [] []
    link : {st : State} {at : ℕ} {b : List ℕ} {rows : List Placed} (a : List ℕ) (ts : Trees) → rest st at a ts → Chain (follow st) (at + length a) b rows → Chain st at (a ++ b) (flat ts ++ rows)

  pub re_place : {st : State} {at at' : ℕ} {a : List ℕ} {rows : List Placed} → at ≡ at' → Chain st at a rows → Chain st at' a rows
  re_place {st} {a} {rows} q s = subst (λ (x : ℕ). Chain st x a rows) q s

  pub re_byte : {st : State} {at : ℕ} {a a' : List ℕ} {rows : List Placed} → a ≡ a' → Chain st at a rows → Chain st at a' rows
  re_byte {st} {at} {rows} q s = subst (λ (x : List ℕ). Chain st at x rows) q s

  pub re_row : {st : State} {at : ℕ} {a : List ℕ} {rows rows' : List Placed} → rows ≡ rows' → Chain st at a rows → Chain st at a rows'
  re_row {st} {at} {a} q s = subst (λ (x : List Placed). Chain st at a x) q s

  pub re_start : {st st' : State} {at : ℕ} {a : List ℕ} {rows : List Placed} → st ≡ st' → Chain st at a rows → Chain st' at a rows
  re_start {at} {a} {rows} q s = subst (λ (x : State). Chain x at a rows) q s

  -- A move at the front of a chain: it is all that was left of the rule; or what is left behind it makes the rule; or so do two pieces

  module _ (st : State) (at : ℕ) (f : List ℕ) (rs : List Placed) where
    pub all_that : (ts : Trees) → rest st at f ts → flat ts ≡ rs → {b : List ℕ} {rows : List Placed} → Chain (follow st) (at + length f) b rows → Chain st at (f ++ b) (rs ++ rows)
    all_that ts x q {b} {rows} c = re_row (ap (λ (l : List Placed). l ++ rows) q) (link f ts x c)

    -- what a front and what follows it make
    abbrev pub Made : List ℕ → List Placed → Type 0
    Made b more = (ts : Trees) × rest st at (f ++ b) ts × (flat ts ≡ rs ++ more)

    pub one_more : (st₁ : State) → is_closed st₁.room ≡ false → follow st₁ ≡ follow st → ((b : List ℕ) (us : Trees) → rest st₁ (at + length f) b us → Made b (flat us))
        → {b : List ℕ} {rows : List Placed} → Chain st₁ (at + length f) b rows → Chain st at (f ++ b) (rs ++ rows)
    one_more st₁ ajar same made (over q) = absurd (false≢true (sym ajar ∙ q))
    one_more st₁ ajar same made (link {b = c} {rows} b us y more) = joined (made b us y)
      where
        joined : Made b (flat us) → Chain st at (f ++ (b ++ c)) (rs ++ (flat us ++ rows))
        joined (ts, x, q) =
            re_byte (append_assoc f b c) (re_row (ap (λ (l : List Placed). l ++ rows) q ∙ append_assoc rs (flat us) rows) (link (f ++ b) ts x (re_place (omega (arith, length-append f b)) (re_start same more))))

    pub two_more : (st₁ st₂ : State) → is_closed st₁.room ≡ false → is_closed st₂.room ≡ false → follow st₁ ≡ st₂ → follow st₂ ≡ follow st
        → ((b c : List ℕ) (us vs : Trees) → rest st₁ (at + length f) b us → rest st₂ (at + length f + length b) c vs → Made (b ++ c) (flat us ++ flat vs))
        → {b : List ℕ} {rows : List Placed} → Chain st₁ (at + length f) b rows → Chain st at (f ++ b) (rs ++ rows)
    two_more st₁ st₂ ajar ajar₂ leads same made (over q) = absurd (false≢true (sym ajar ∙ q))
    two_more st₁ st₂ ajar ajar₂ leads same made (link {b = bc} {rows} b us y more) = then_two (re_start leads more)
      where
        then_two : {bc : List ℕ} {rows : List Placed} → Chain st₂ (at + length f + length b) bc rows → Chain st at (f ++ (b ++ bc)) (rs ++ (flat us ++ rows))
        then_two (over q) = absurd (false≢true (sym ajar₂ ∙ q))
        then_two (link {b = d} {rows} c vs z more) = joined (made b c us vs y z)
          where
            joined : Made (b ++ c) (flat us ++ flat vs) → Chain st at (f ++ (b ++ (c ++ d))) (rs ++ (flat us ++ (flat vs ++ rows)))
            joined (ts, x, q) =
                re_byte (append_assoc f (b ++ c) d ∙ ap (λ (l : List ℕ). f ++ l) (append_assoc b c d))
                (re_row (ap (λ (l : List Placed). l ++ rows) q ∙ append_assoc rs (flat us ++ flat vs) rows ∙ ap (λ (l : List Placed). rs ++ l) (append_assoc (flat us) (flat vs) rows))
                (link (f ++ (b ++ c)) ts x (re_place (omega (arith, length-append f (b ++ c), length-append b c)) (re_start same more))))

  -- Loud and silent moves at the front

  abbrev pub Loud : State → Move → Type 0
  Loud st m = (at : ℕ) (v b : List ℕ) (rows : List Placed) → T (allowed t m.form m.code v) → (m.kind ≡ agent_name → st.level ≤ level_most) → Chain (go m.next st) (at + length (standing m v)) b rows
      → Chain st at (standing m v ++ b) (placed_row m.kind st.level (at + start_in m) v ∷ rows)

  abbrev pub Silent : State → Move → Type 0
  Silent st m = (at : ℕ) (b : List ℕ) (rows : List Placed) → Chain (go m.next st) (at + 1) b rows → Chain st at (m.code ∷ b) rows

  -- what is to be shown of each move of a room
  pub record Back (st : State) (m : Move) : Type 0 where
    pub fine : Fine (go m.next st)
    pub loud : is_quiet m.form ≡ false → Loud st m
    pub silent : is_quiet m.form ≡ true → Silent st m

  module _ {st : State} {m : Move} where
    -- its row is all that was left of the rule
    pub row_alone : Fine (go m.next st) → is_quiet m.form ≡ false → follow st ≡ go m.next st
        → ((at : ℕ) (v : List ℕ) → T (allowed t m.form m.code v) → rest st at (standing m v) (tree m.kind st.level (at + start_in m) v end end)) → Back st m
    row_alone fine row leads made =
        record {
          fine = fine;
          loud = λ q at v b rows ok deep c. all_that st at (standing m v) (placed_row m.kind st.level (at + start_in m) v ∷ []) (tree m.kind st.level (at + start_in m) v end end) (made at v ok) refl (re_start (sym leads) c);
          silent = λ q. no_pass (sym row ∙ q);
        }

    -- .. or stands before what is left behind it
    pub row_before : Fine (go m.next st) → is_quiet m.form ≡ false → is_closed (go m.next st).room ≡ false → follow (go m.next st) ≡ follow st
        → ((at : ℕ) (v : List ℕ) → T (allowed t m.form m.code v) → (b : List ℕ) (us : Trees) → rest (go m.next st) (at + length (standing m v)) b us → rest st at (standing m v ++ b) (tree m.kind st.level (at + start_in m) v end us)) → Back st m
    row_before fine row ajar same made =
        record {
          fine = fine;
          loud = λ q at v b rows ok deep c. one_more st at (standing m v) (placed_row m.kind st.level (at + start_in m) v ∷ []) (go m.next st) ajar same (λ b us y. (tree m.kind st.level (at + start_in m) v end us, made at v ok b us y, refl)) c;
          silent = λ q. no_pass (sym row ∙ q);
        }

    -- .. or holds it
    pub row_around : Fine (go m.next st) → is_quiet m.form ≡ false → is_closed (go m.next st).room ≡ false → follow (go m.next st) ≡ follow st
        → ((at : ℕ) (v : List ℕ) → T (allowed t m.form m.code v) → (m.kind ≡ agent_name → st.level ≤ level_most) → (b : List ℕ) (us : Trees) → rest (go m.next st) (at + length (standing m v)) b us
        → rest st at (standing m v ++ b) (tree m.kind st.level (at + start_in m) v us end)) → Back st m
    row_around fine row ajar same made =
        record {
          fine = fine;
          loud = λ q at v b rows ok deep c. one_more st at (standing m v) (placed_row m.kind st.level (at + start_in m) v ∷ []) (go m.next st) ajar same
              (λ b us y. (tree m.kind st.level (at + start_in m) v us end, made at v ok deep b us y, ap (λ (l : List Placed). placed_row m.kind st.level (at + start_in m) v ∷ l) (append-nil (flat us)))) c;
          silent = λ q. no_pass (sym row ∙ q);
        }

    -- .. or holds a piece, and what is left stands beside it
    pub row_beside : (st₂ : State) → Fine (go m.next st) → is_quiet m.form ≡ false → is_closed (go m.next st).room ≡ false → is_closed st₂.room ≡ false → follow (go m.next st) ≡ st₂ → follow st₂ ≡ follow st
        → ((at : ℕ) (v : List ℕ) → T (allowed t m.form m.code v) → (m.kind ≡ agent_name → st.level ≤ level_most) → (b c : List ℕ) (us vs : Trees) → rest (go m.next st) (at + length (standing m v)) b us
        → rest st₂ (at + length (standing m v) + length b) c vs → rest st at (standing m v ++ (b ++ c)) (tree m.kind st.level (at + start_in m) v us vs)) → Back st m
    row_beside st₂ fine row ajar ajar₂ leads same made =
        record {
          fine = fine;
          loud = λ q at v b rows ok deep c. two_more st at (standing m v) (placed_row m.kind st.level (at + start_in m) v ∷ []) (go m.next st) st₂ ajar ajar₂ leads same
              (λ b c us vs y z. (tree m.kind st.level (at + start_in m) v us vs, made at v ok deep b c us vs y z, refl)) c;
          silent = λ q. no_pass (sym row ∙ q);
        }

    -- a byte without a row, that ends the rule
    pub pass_alone : Fine (go m.next st) → is_quiet m.form ≡ true → follow st ≡ go m.next st → ((at : ℕ) → rest st at (m.code ∷ []) end) → Back st m
    pass_alone fine quiet leads made =
        record { fine = fine; loud = λ q. no_pass (sym q ∙ quiet); silent = λ q at b rows c. all_that st at (m.code ∷ []) [] end (made at) refl (re_start (sym leads) c) }

    -- .. or stands before a piece, and what is left behind that
    pub pass_before : (st₂ : State) → Fine (go m.next st) → is_quiet m.form ≡ true → is_closed (go m.next st).room ≡ false → is_closed st₂.room ≡ false → follow (go m.next st) ≡ st₂ → follow st₂ ≡ follow st
        → ((at : ℕ) (b c : List ℕ) (us vs : Trees) → rest (go m.next st) (at + 1) b us → rest st₂ (at + 1 + length b) c vs → rest st at (m.code ∷ (b ++ c)) (us ⊕ vs)) → Back st m
    pass_before st₂ fine quiet ajar ajar₂ leads same made =
        record {
          fine = fine;
          loud = λ q. no_pass (sym q ∙ quiet);
          silent = λ q at b rows c. two_more st at (m.code ∷ []) [] (go m.next st) st₂ ajar ajar₂ leads same (λ b c us vs y z. (us ⊕ vs, made at b c us vs y z, flat_⊕ us vs)) c;
        }
