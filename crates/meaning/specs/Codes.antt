-- Document 02, orders 6, 1 and 8: parameters by their codes, as the rows of level 0 open or hold them.
use Rattle.std.specs.Prelude.{ℕ, Bool, ◌&&◌, ◌||◌, eqb, leb}
use Rattle.meaning.specs.Basics.{pick}
use Rattle.meaning.specs.Kinds.{standard_representation, own_representation, date_absolute, date_forward, date_backward, received_by, to_opens, from_opens, receiver_opens, comments, payload_length, payload_encoding, encrypted_opens, own_key, behaviour_opens}
use Rattle.meaning.specs.Editions.{closing}
use Rattle.meaning.specs.Skips.{Rank}

abbrev pub is_representation : ℕ → Bool
is_representation kind = eqb kind standard_representation || eqb kind own_representation

abbrev pub is_date : ℕ → Bool
is_date kind = eqb kind date_absolute || eqb kind date_forward || eqb kind date_backward

-- "20 for the base envelope's own date"
abbrev pub date_code : ℕ
date_code = 0x20

-- the code of what a row of this kind opens or holds; the closing 01, which no parameter has, for a row that is no parameter's first
abbrev pub code_of : ℕ → ℕ
code_of kind =
    pick (eqb kind own_key) 0x00
    (pick (eqb kind to_opens) 0x02
    (pick (eqb kind from_opens) 0x03
    (pick (is_representation kind) 0x04
    (pick (eqb kind comments) 0x05
    (pick (eqb kind payload_length) 0x06
    (pick (eqb kind payload_encoding) 0x07
    (pick (eqb kind encrypted_opens) 0x08
    (pick (eqb kind receiver_opens) 0x09
    (pick (eqb kind received_by) 0x0a
    (pick (eqb kind behaviour_opens) 0x0b
    (pick (is_date kind) date_code closing)))))))))))

-- whether a row opens or holds a value with this code: codes inside agents and received objects are no parameters, and their rows stand deeper
abbrev pub has_value : ℕ → Rank → Bool
has_value code r = eqb r.level 0 && eqb (code_of r.kind) code

-- "Ask by code 02 to 0B, or 20 for the base envelope's own date."
abbrev pub can_ask : ℕ → Bool
can_ask code = leb 0x02 code && leb code 0x0b || eqb code date_code
