-- `owner::owner_of`: each arm is its kinds'; all other kinds, and a number that is no kind's, have nothing.
use Rattle.std.specs.Prelude.{ℕ, ◌≡◌, ◌⊎◌, false, refl}
use Rattle.std.proofs.Common.{ap, sym, ◌∙◌, inl, inr}
use Rattle.meaning.specs.Skips.{Rank, rank, belongs}
use Rattle.table.specs.Kinds.{number_of}
use Rattle.table.specs.declared.kinds.Kind.{Kind}
use Rattle.table.specs.declared.kinds.Kind.TheVariants.{ExtensionOpens, BaseOpens, StandardRepresentation, OwnRepresentation, DateAbsolute, DateForward, DateBackward, ReceivedBy, ReceivedFrom, ReceivedId, ReceivedVia, ToOpens, FromOpens, ReceiverOpens, AgentName, AddressesOpen, Address, ResolversOpen, ExtraKey, AnyText, AnyBytes, Comments, PayloadLength, PayloadEncoding, EncryptedOpens, EncryptedItem, OwnKey, OwnValue, BehaviourOpens}
use Rattle.skips.specs.Belonging.{alone}
use Rattle.skips.specs.Owning.{of_addresses, of_agent, of_base, of_behaviour, of_encrypted, of_envelope, of_extra, of_from, of_others, of_own, of_received, of_receiver, of_resolvers, of_to}
use Rattle.skips.proofs.owner.owner_of.Goals as goal

by_either : {A B C : Type 0} → (A → C) → (B → C) → A ⊎ B → C
by_either f g (inl a) = f a
by_either f g (inr b) = g b

-- the number of a kind that an arm names
named : {kind arm : Kind} {number : ℕ} → number_of kind ≡ number → kind ≡ arm → number ≡ number_of arm
named is q = sym is ∙ ap number_of q

abbrev Not : Kind → Kind → Type 0
Not k arm = k ≡ arm → ⊥

others : (at : ℕ) (s : Rank) (k : Kind) → Not k ExtensionOpens → Not k BaseOpens → Not k ReceivedBy → Not k ToOpens → Not k FromOpens → Not k ReceiverOpens → Not k AgentName → Not k AddressesOpen → Not k ResolversOpen → Not k ExtraKey → Not k EncryptedOpens → Not k OwnKey → Not k BehaviourOpens → belongs (rank (number_of k) at) s ≡ false
others at s ExtensionOpens n _ _ _ _ _ _ _ _ _ _ _ _ = absurd (n refl)
others at s BaseOpens _ n _ _ _ _ _ _ _ _ _ _ _ = absurd (n refl)
others at s StandardRepresentation _ _ _ _ _ _ _ _ _ _ _ _ _ = alone at s 3 refl refl
others at s OwnRepresentation _ _ _ _ _ _ _ _ _ _ _ _ _ = alone at s 4 refl refl
others at s DateAbsolute _ _ _ _ _ _ _ _ _ _ _ _ _ = alone at s 5 refl refl
others at s DateForward _ _ _ _ _ _ _ _ _ _ _ _ _ = alone at s 6 refl refl
others at s DateBackward _ _ _ _ _ _ _ _ _ _ _ _ _ = alone at s 7 refl refl
others at s ReceivedBy _ _ n _ _ _ _ _ _ _ _ _ _ = absurd (n refl)
others at s ReceivedFrom _ _ _ _ _ _ _ _ _ _ _ _ _ = alone at s 9 refl refl
others at s ReceivedId _ _ _ _ _ _ _ _ _ _ _ _ _ = alone at s 10 refl refl
others at s ReceivedVia _ _ _ _ _ _ _ _ _ _ _ _ _ = alone at s 11 refl refl
others at s ToOpens _ _ _ n _ _ _ _ _ _ _ _ _ = absurd (n refl)
others at s FromOpens _ _ _ _ n _ _ _ _ _ _ _ _ = absurd (n refl)
others at s ReceiverOpens _ _ _ _ _ n _ _ _ _ _ _ _ = absurd (n refl)
others at s AgentName _ _ _ _ _ _ n _ _ _ _ _ _ = absurd (n refl)
others at s AddressesOpen _ _ _ _ _ _ _ n _ _ _ _ _ = absurd (n refl)
others at s Address _ _ _ _ _ _ _ _ _ _ _ _ _ = alone at s 17 refl refl
others at s ResolversOpen _ _ _ _ _ _ _ _ n _ _ _ _ = absurd (n refl)
others at s ExtraKey _ _ _ _ _ _ _ _ _ n _ _ _ = absurd (n refl)
others at s AnyText _ _ _ _ _ _ _ _ _ _ _ _ _ = alone at s 20 refl refl
others at s AnyBytes _ _ _ _ _ _ _ _ _ _ _ _ _ = alone at s 21 refl refl
others at s Comments _ _ _ _ _ _ _ _ _ _ _ _ _ = alone at s 22 refl refl
others at s PayloadLength _ _ _ _ _ _ _ _ _ _ _ _ _ = alone at s 23 refl refl
others at s PayloadEncoding _ _ _ _ _ _ _ _ _ _ _ _ _ = alone at s 24 refl refl
others at s EncryptedOpens _ _ _ _ _ _ _ _ _ _ n _ _ = absurd (n refl)
others at s EncryptedItem _ _ _ _ _ _ _ _ _ _ _ _ _ = alone at s 26 refl refl
others at s OwnKey _ _ _ _ _ _ _ _ _ _ _ n _ = absurd (n refl)
others at s OwnValue _ _ _ _ _ _ _ _ _ _ _ _ _ = alone at s 28 refl refl
others at s BehaviourOpens _ _ _ _ _ _ _ _ _ _ _ _ n = absurd (n refl)

pub returns-in-ExtensionOpens : goal.returns-in-ExtensionOpens
returns-in-ExtensionOpens c = λ at s. by_either (λ q. of_envelope at s (named c.in-Ok.ensures q)) (λ q. of_base at s (named c.in-Ok.ensures q)) c.in-ExtensionOpens.is

pub returns-in-ReceivedBy : goal.returns-in-ReceivedBy
returns-in-ReceivedBy c = λ at s. by_either (λ q. of_received at s (named c.in-Ok.ensures q)) (by_either (λ q. of_to at s (named c.in-Ok.ensures q)) (by_either (λ q. of_from at s (named c.in-Ok.ensures q)) (by_either (λ q. of_receiver at s (named c.in-Ok.ensures q)) (λ q. of_resolvers at s (named c.in-Ok.ensures q))))) c.in-ReceivedBy.is

pub returns-in-AgentName : goal.returns-in-AgentName
returns-in-AgentName c = λ at s. of_agent at s (named c.in-Ok.ensures c.in-AgentName.is)

pub returns-in-AddressesOpen : goal.returns-in-AddressesOpen
returns-in-AddressesOpen c = λ at s. of_addresses at s (named c.in-Ok.ensures c.in-AddressesOpen.is)

pub returns-in-ExtraKey : goal.returns-in-ExtraKey
returns-in-ExtraKey c = λ at s. by_either (λ q. of_extra at s (named c.in-Ok.ensures q)) (λ q. of_behaviour at s (named c.in-Ok.ensures q)) c.in-ExtraKey.is

pub returns-in-EncryptedOpens : goal.returns-in-EncryptedOpens
returns-in-EncryptedOpens c = λ at s. of_encrypted at s (named c.in-Ok.ensures c.in-EncryptedOpens.is)

pub returns-in-OwnKey : goal.returns-in-OwnKey
returns-in-OwnKey c = λ at s. of_own at s (named c.in-Ok.ensures c.in-OwnKey.is)

pub returns-in_default-kind : goal.returns-in_default-kind
returns-in_default-kind c =
    let d = c.in_default-kind in
    λ at s. ap (λ (x : ℕ). belongs (rank x at) s) (sym c.in-Ok.ensures) ∙ others at s c.in-Ok.kind d.not-ExtensionOpens d.not-BaseOpens d.not-ReceivedBy d.not-ToOpens d.not-FromOpens d.not-ReceiverOpens d.not-AgentName d.not-AddressesOpen d.not-ResolversOpen d.not-ExtraKey d.not-EncryptedOpens d.not-OwnKey d.not-BehaviourOpens

pub returns-in_default : goal.returns-in_default
returns-in_default c =
    let none : (k : Kind) → c.args.kind ≡ number_of k → ⊥ = λ k q. c.in_default.ensures.1 k (sym q) in
    λ at s. of_others at s c.args.kind (none ExtensionOpens) (none BaseOpens) (none ReceivedBy) (none ToOpens) (none FromOpens) (none ReceiverOpens) (none AgentName) (none AddressesOpen) (none ResolversOpen) (none ExtraKey) (none EncryptedOpens) (none OwnKey) (none BehaviourOpens)
