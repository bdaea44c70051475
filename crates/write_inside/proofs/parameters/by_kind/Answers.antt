-- `parameters::by_kind`: each kind that begins a parameter, those that its code leads to, and all others.
use Rattle.meaning.specs.Bytes.{line, note}
use Rattle.meaning.specs.Editions.{own_text, behaviour_value, parameters, outer, text, number, opens, on◌▸◌▸◌▸◌}
use Rattle.meaning.specs.Kinds.{behaviour_opens, comments, encrypted_opens, own_key, payload_encoding, payload_length}
use Rattle.table.specs.Kinds.{number_of}
use Rattle.table.specs.Told.{edition_of}
use Rattle.write_inside.proofs.Others.{closes_other, names_kind, none_other, other_kind, no_kind}
use Rattle.write_inside.proofs.Rooms.{behaviour_first, comments_first, encoding_first, length_first, encrypted_is, names_alone, names_first, own_first}
use Rattle.write_inside.proofs.Choosing.{found_kind, found_none, found_nothing}
use Rattle.write_inside.specs.Parameters.{encrypted_in, naming_move}
use Rattle.std.specs.Prelude.{Ok}
use Prim.Native.Nat.{ℕ}
use mathlib.Core.List.{[], ◌∷◌}
use mathlib.Core.Path.{◌∙◌, ap, refl, sym}
use Rattle.write_inside.proofs.parameters.by_kind.Goals as goal

pub returns-in_default : goal.returns-in_default
returns-in_default c = found_nothing (edition_of c.args.edition) _ _ _ _ c.args.at c.in_default.ensures

pub returns-in_default-try_from : goal.returns-in_default-try_from
returns-in_default-try_from c =
    let d = edition_of c.args.edition in
    let other = no_kind c.in-Some.r.kind c.in_default-try_from.ensures.1 in
    found_none d _ _ _ _ c.in-Some.ensures refl (closes_other _ other) _ c.args.at refl (none_other d _ other)

pub returns-in-Comments : goal.returns-in-Comments
returns-in-Comments c =
    let d = edition_of c.args.edition in
    found_kind d _ _ _ comments c.in-Some.ensures (sym c.in-Ok.ensures ∙ ap number_of c.in-Comments.is) refl _ _ (on 0x05 ▸ comments ▸ text note ▸ outer parameters ∷ []) (comments_first d) (Ok c.one_text.result) _ (c.one_text.ensures d (comments_first d) refl)

pub returns-in-PayloadLength : goal.returns-in-PayloadLength
returns-in-PayloadLength c =
    let d = edition_of c.args.edition in
    found_kind d _ _ _ payload_length c.in-Some.ensures (sym c.in-Ok.ensures ∙ ap number_of c.in-PayloadLength.is) refl _ _ (on 0x06 ▸ payload_length ▸ number ▸ outer parameters ∷ []) (length_first d) (Ok c.payload_length.result) _ (c.payload_length.ensures d)

pub returns-in-PayloadEncoding : goal.returns-in-PayloadEncoding
returns-in-PayloadEncoding c =
    let d = edition_of c.args.edition in
    found_kind d _ _ _ payload_encoding c.in-Some.ensures (sym c.in-Ok.ensures ∙ ap number_of c.in-PayloadEncoding.is) refl _ _ (on 0x07 ▸ payload_encoding ▸ text line ▸ outer parameters ∷ []) (encoding_first d) (Ok c.one_text-in-PayloadEncoding.result) _ (c.one_text-in-PayloadEncoding.ensures d (encoding_first d) refl)

pub returns-in-EncryptedOpens : goal.returns-in-EncryptedOpens
returns-in-EncryptedOpens c =
    let d = edition_of c.args.edition in
    found_kind d _ _ _ encrypted_opens c.in-Some.ensures (sym c.in-Ok.ensures ∙ ap number_of c.in-EncryptedOpens.is) refl _ _ (encrypted_in d) (encrypted_is d) (Ok c.encrypted.result) _ c.encrypted.ensures

pub returns-in-OwnKey : goal.returns-in-OwnKey
returns-in-OwnKey c =
    let d = edition_of c.args.edition in
    found_kind d _ _ _ own_key c.in-Some.ensures (sym c.in-Ok.ensures ∙ ap number_of c.in-OwnKey.is) refl _ _ (on 0x00 ▸ own_key ▸ text line ▸ outer own_text ∷ []) (own_first d) c.own_parameter.result _ (c.own_parameter.ensures d)

pub returns-in-BehaviourOpens : goal.returns-in-BehaviourOpens
returns-in-BehaviourOpens c =
    let d = edition_of c.args.edition in
    found_kind d _ _ _ behaviour_opens c.in-Some.ensures (sym c.in-Ok.ensures ∙ ap number_of c.in-BehaviourOpens.is) refl _ _ (on 0x0b ▸ behaviour_opens ▸ opens ▸ outer behaviour_value ∷ []) (behaviour_first d) c.behaviour.result _ (c.behaviour.ensures d)

pub returns-in-ToOpens : goal.returns-in-ToOpens
returns-in-ToOpens c =
    let d = edition_of c.args.edition in
    let kind : ℕ = number_of c.in-Ok.kind in
    let first = names_first d (names_kind c.in-Ok.kind c.in-ToOpens.is) in
    found_kind d _ _ _ kind c.in-Some.ensures (sym c.in-Ok.ensures) first.led _ _ (naming_move kind ∷ []) (first.is ∙ sym (names_alone kind)) c.naming.result _ c.naming.ensures

pub returns-in_default-kind : goal.returns-in_default-kind
returns-in_default-kind c =
    let d = edition_of c.args.edition in
    let not = c.in_default-kind in
    let other = other_kind c.in-Ok.kind not.not-StandardRepresentation not.not-OwnRepresentation not.not-ReceivedBy not.not-ToOpens not.not-FromOpens not.not-ReceiverOpens not.not-Comments not.not-PayloadLength not.not-PayloadEncoding not.not-EncryptedOpens not.not-OwnKey not.not-BehaviourOpens in
    found_none d _ _ _ _ c.in-Some.ensures (sym c.in-Ok.ensures) (closes_other _ other) _ c.args.at refl (none_other d _ other)
