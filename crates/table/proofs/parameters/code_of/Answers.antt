-- `parameters::code_of`: a number that is no kind's is none of those with a code.
use Rattle.std.specs.Prelude.{◌≡◌, false, eqb, refl}
use Rattle.std.proofs.Common.{sym}
use Rattle.std.proofs.lemmas.Bool.{ne_eqb}
use Rattle.table.specs.Kinds.{number_of}
use Rattle.table.specs.declared.kinds.Kind.{Kind}
use Rattle.table.specs.declared.kinds.Kind.TheVariants.{OwnKey, ToOpens, FromOpens, StandardRepresentation, OwnRepresentation, Comments, PayloadLength, PayloadEncoding, EncryptedOpens, ReceiverOpens, ReceivedBy, BehaviourOpens, DateAbsolute, DateForward, DateBackward}
use Rattle.table.proofs.parameters.code_of.Goals as goal

pub returns-in_default : goal.returns-in_default
returns-in_default c =
    let other : (k : Kind) → eqb c.args.kind (number_of k) ≡ false = λ k. ne_eqb _ _ (λ e. c.in_default.ensures.1 k (sym e)) in
    rw (other OwnKey, other ToOpens, other FromOpens, other StandardRepresentation, other OwnRepresentation, other Comments, other PayloadLength, other PayloadEncoding, other EncryptedOpens, other ReceiverOpens, other ReceivedBy, other BehaviourOpens, other DateAbsolute, other DateForward, other DateBackward) refl
