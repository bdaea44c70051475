-- Document 01, "The table": what a row's kind says. Nowhere else does a kind stand as a number.
use Rattle.std.specs.Prelude.{ℕ}

abbrev pub extension_opens : ℕ
extension_opens = 1

abbrev pub base_opens : ℕ
base_opens = 2

abbrev pub standard_representation : ℕ
standard_representation = 3

abbrev pub own_representation : ℕ
own_representation = 4

abbrev pub date_absolute : ℕ
date_absolute = 5

abbrev pub date_forward : ℕ
date_forward = 6

abbrev pub date_backward : ℕ
date_backward = 7

abbrev pub received_by : ℕ
received_by = 8

abbrev pub received_from : ℕ
received_from = 9

abbrev pub received_id : ℕ
received_id = 10

abbrev pub received_via : ℕ
received_via = 11

abbrev pub to_opens : ℕ
to_opens = 12

abbrev pub from_opens : ℕ
from_opens = 13

abbrev pub receiver_opens : ℕ
receiver_opens = 14

abbrev pub agent_name : ℕ
agent_name = 15

abbrev pub addresses_open : ℕ
addresses_open = 16

abbrev pub address : ℕ
address = 17

abbrev pub resolvers_open : ℕ
resolvers_open = 18

abbrev pub extra_key : ℕ
extra_key = 19

abbrev pub any_text : ℕ
any_text = 20

abbrev pub any_bytes : ℕ
any_bytes = 21

abbrev pub comments : ℕ
comments = 22

abbrev pub payload_length : ℕ
payload_length = 23

abbrev pub payload_encoding : ℕ
payload_encoding = 24

abbrev pub encrypted_opens : ℕ
encrypted_opens = 25

abbrev pub encrypted_item : ℕ
encrypted_item = 26

abbrev pub own_key : ℕ
own_key = 27

abbrev pub own_value : ℕ
own_value = 28

abbrev pub behaviour_opens : ℕ
behaviour_opens = 29
