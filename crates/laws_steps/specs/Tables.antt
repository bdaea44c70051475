-- Finding a move in a list, and how a fact about every room of both editions is one computed test.
use Rattle.std.specs.Prelude.{ℕ, zero, suc, List, [], ◌∷◌, ◌++◌, Bool, true, false, ◌&&◌, not, ◌⊎◌, ◌≡◌, refl, T}
use Rattle.std.proofs.Common.{inl, inr, sym, subst}
use Rattle.meaning.specs.Basics.{pick, every, In, here, there}
use Rattle.meaning.specs.Told.{Edition, B, D}
use Rattle.meaning.specs.Editions.{Room, received_begins, head_representation, head_date, parameters, own_text, parameter_representation, behaviour_value, encrypted_texts, received_date, after_date, after_from, after_id, after_via, received_extra, agent_list, one_agent, after_name, address_texts, after_addresses, after_resolvers, agent_extra, closed, Move, shared, own, moves}
use Rattle.meaning.specs.Reading.{Found, none, hit, find}
use Rattle.laws_steps.specs.Logic.{left_of, right_of, is_true, not_both}

pub every_in : {A : Type 0} (p : A → Bool) {x : A} {l : List A} → In x l → T (every p l) → T (p x)
every_in p {x} (here {l = l}) t = left_of (p x) (every p l) t
every_in p (there {y = y} {l = l} i) t = every_in p i (right_of (p y) (every p l) t)

front : {A : Type 0} (x : A) (l k : List A) → In x l → In x (l ++ k)
front x l k (here {l = l₁}) = here
front x l k (there {y = y} {l = l₁} i) = there (front x l₁ k i)

pub in_front : {A : Type 0} (l k : List A) (x : A) → In x l → In x (l ++ k)
in_front l k x i = front x l k i

in_there : {A : Type 0} {x y : A} {l k : List A} → In x l ⊎ In x k → In x (y ∷ l) ⊎ In x k
in_there (inl i) = inl (there i)
in_there (inr i) = inr i

in_either : {A : Type 0} (l k : List A) (x : A) → In x (l ++ k) → In x l ⊎ In x k
in_either [] k x i = inr i
in_either (y ∷ l) k x here = inl here
in_either (y ∷ l) k x (there i) = in_there (in_either l k x i)

-- What finding gives: a member that passes
abbrev pub Hits : (Move → Bool) → List Move → Found → Type 0
Hits p l none = Unit {0}
Hits p l (hit m) = In m l × T (p m)

hits_cons : (p : Move → Bool) (x : Move) (l : List Move) (o : Found) → Hits p l o → Hits p (x ∷ l) o
hits_cons p x l none i = tt
hits_cons p x l (hit m) i = (there i.0, i.1)

hits_pick : (p : Move → Bool) (x : Move) (l : List Move) (b : Bool) → p x ≡ b → Hits p l (find p l) → Hits p (x ∷ l) (pick b (hit x) (find p l))
hits_pick p x l true e i = (here, subst T (sym e) tt)
hits_pick p x l false e i = hits_cons p x l (find p l) i

pub find_hits : (p : Move → Bool) (l : List Move) → Hits p l (find p l)
unfolding find
find_hits p [] = tt
find_hits p (x ∷ l) = hits_pick p x l (p x) refl (find_hits p l)

-- no two moves of the list are alike
abbrev pub apart : (Move → Move → Bool) → List Move → Bool
apart alike [] = true
apart alike (x ∷ l) = every (λ y. not (alike x y)) l && apart alike l

-- a member that passes is the one found, where any other that passes would be alike
find_there : (p : Move → Bool) (m x : Move) (l : List Move) (b : Bool) → p x ≡ b → (T (p x) → ⊥) → find p l ≡ hit m → pick b (hit x) (find p l) ≡ hit m
find_there p m x l true e h q = absurd (h (subst T (sym e) tt))
find_there p m x l false e h q = q

pub find_in : (p : Move → Bool) (alike : Move → Move → Bool) {m : Move} {l : List Move} → In m l → T (apart alike l) → T (p m) → ((x : Move) → T (p x) → T (alike x m)) → find p l ≡ hit m
unfolding find
find_in p alike {m} (here {l = l}) t ok h = rw (is_true (p m) ok) refl
find_in p alike {m} (there {y = x} {l = l} i) t ok h =
    let others = left_of (every (λ y. not (alike x y)) l) (apart alike l) t in
    find_there p m x l (p x) refl (λ px. not_both (alike x m) (h x px) (every_in (λ y. not (alike x y)) i others))
    (find_in p alike i (right_of (every (λ y. not (alike x y)) l) (apart alike l) t) ok h)

pub finds_none : (p : Move → Bool) (l : List Move) → T (every (λ m. not (p m)) l) → find p l ≡ none
finds_none p l t = nothing (find p l) (find_hits p l)
  where
    nothing : (o : Found) → Hits p l o → o ≡ none
    nothing none i = refl
    nothing (hit m) i = absurd (not_both (p m) i.1 (every_in (λ x. not (p x)) i.0 t))

-- what an edition has, the other shares, or it has alone
pub in_moves : (e : Edition) (r : Room) (m : Move) → In m (moves e r) → In m (shared r) ⊎ In m (own e r)
unfolding moves
in_moves e r m i = in_either (shared r) (own e r) m i

pub in_shared : (e : Edition) (r : Room) (m : Move) → In m (shared r) → In m (moves e r)
unfolding moves
in_shared e r m i = in_front (shared r) (own e r) m i

-- Every room of both editions, in one test

abbrev pub rooms : List Room
rooms = received_begins ∷ head_representation ∷ head_date ∷ parameters ∷ own_text ∷ parameter_representation ∷ behaviour_value ∷ encrypted_texts ∷ received_date ∷ after_date ∷ after_from ∷ after_id ∷ after_via ∷ received_extra ∷ agent_list ∷ one_agent ∷ after_name ∷ address_texts ∷ after_addresses ∷ after_resolvers ∷ agent_extra ∷ closed ∷ []

-- a room's number
abbrev pub room_number : Room → ℕ
room_number received_begins = 0
room_number head_representation = 1
room_number head_date = 2
room_number parameters = 3
room_number own_text = 4
room_number parameter_representation = 5
room_number behaviour_value = 6
room_number encrypted_texts = 7
room_number received_date = 8
room_number after_date = 9
room_number after_from = 10
room_number after_id = 11
room_number after_via = 12
room_number received_extra = 13
room_number agent_list = 14
room_number one_agent = 15
room_number after_name = 16
room_number address_texts = 17
room_number after_addresses = 18
room_number after_resolvers = 19
room_number agent_extra = 20
room_number closed = 21

abbrev pub room_at : ℕ → List Room → Room
room_at n [] = closed
room_at zero (r ∷ rs) = r
room_at (suc n) (r ∷ rs) = room_at n rs

pub room_again : (r : Room) → room_at (room_number r) rooms ≡ r
room_again received_begins = refl
room_again head_representation = refl
room_again head_date = refl
room_again parameters = refl
room_again own_text = refl
room_again parameter_representation = refl
room_again behaviour_value = refl
room_again encrypted_texts = refl
room_again received_date = refl
room_again after_date = refl
room_again after_from = refl
room_again after_id = refl
room_again after_via = refl
room_again received_extra = refl
room_again agent_list = refl
room_again one_agent = refl
room_again after_name = refl
room_again address_texts = refl
room_again after_addresses = refl
room_again after_resolvers = refl
room_again agent_extra = refl
room_again closed = refl

every_index : (p : Room → Bool) → T (p closed) → (n : ℕ) (rs : List Room) → T (every p rs) → T (p (room_at n rs))
every_index p c n [] t = c
every_index p c zero (r ∷ rs) t = left_of (p r) (every p rs) t
every_index p c (suc n) (r ∷ rs) t = every_index p c n rs (right_of (p r) (every p rs) t)

every_room : (p : Room → Bool) → T (p closed && every p rooms) → (r : Room) → T (p r)
every_room p t r =
    subst (λ (x : Room). T (p x)) (room_again r) (every_index p (left_of (p closed) (every p rooms) t) (room_number r) rooms (right_of (p closed) (every p rooms) t))

abbrev pub all_rooms : (Edition → Room → Bool) → Bool
all_rooms test = (test B closed && every (test B) rooms) && (test D closed && every (test D) rooms)

-- a test that computes to true for every room of both editions holds for each
pub each_room : (test : Edition → Room → Bool) → T (all_rooms test) → (e : Edition) (r : Room) → T (test e r)
each_room test t B r = every_room (test B) (left_of (test B closed && every (test B) rooms) (test D closed && every (test D) rooms) t) r
each_room test t D r = every_room (test D) (right_of (test B closed && every (test B) rooms) (test D closed && every (test D) rooms) t) r
