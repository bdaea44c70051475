-- Document 02, order 7: "Each row gets a fifth number: the row after all that belongs to it." Which rows belong to a row is said here,
-- by kinds and levels alone.
use Rattle.std.specs.Prelude.{ℕ, suc, ◌+◌, List, [], ◌∷◌, Bool, false, ◌&&◌, ◌||◌, eqb, ltb}
use Rattle.meaning.specs.Basics.{pick}
use Rattle.meaning.specs.Kinds.{extension_opens, base_opens, received_by, to_opens, from_opens, receiver_opens, agent_name, addresses_open, address, resolvers_open, extra_key, any_text, any_bytes, encrypted_opens, encrypted_item, own_key, own_value, behaviour_opens}

-- where a row stands
pub record Rank : Type 0 where
  pub kind : ℕ
  pub level : ℕ

abbrev pub rank : ℕ → ℕ → Rank
rank k n = record { kind = k; level = n }

abbrev pub is_envelope : ℕ → Bool
is_envelope kind = eqb kind extension_opens || eqb kind base_opens

-- "an agent or a received object, .. its contents"; "any other opening row" of agents: what stands deeper belongs to these, and to an envelope
abbrev pub holds_deeper : ℕ → Bool
holds_deeper kind =
    is_envelope kind || eqb kind received_by || eqb kind to_opens || eqb kind from_opens || eqb kind receiver_opens || eqb kind agent_name || eqb kind resolvers_open

-- a value of an extra or of transport behaviour
abbrev pub is_value : ℕ → Bool
is_value kind = eqb kind any_text || eqb kind any_bytes

-- what belongs to a row where it stands at the row's own level. To an envelope: all above an envelope's kind. To an agent: all above an agent's,
-- which are its addresses, resolvers and extras. To addresses an address, to an encrypted list an item, to an extra key and to transport behaviour
-- the value; "an own .. key includes its value"
abbrev pub beside : ℕ → ℕ → Bool
beside owner kind =
    pick (is_envelope owner) (ltb base_opens kind)
    (pick (eqb owner agent_name) (ltb agent_name kind)
    (pick (eqb owner addresses_open) (eqb kind address)
    (pick (eqb owner extra_key || eqb owner behaviour_opens) (is_value kind)
    (pick (eqb owner encrypted_opens) (eqb kind encrypted_item)
    (pick (eqb owner own_key) (eqb kind own_value) false)))))

-- whether the second row belongs to the first, where all rows between them do
unfoldable pub belongs : Rank → Rank → Bool
belongs r s = holds_deeper r.kind && ltb r.level s.level || eqb s.level r.level && beside r.kind s.kind

-- how many of the rows behind a row belong to it: those before the first that does not
unfoldable pub belonging : Rank → List Rank → ℕ
belonging r [] = 0
belonging r (s ∷ rest) =
    let more : ℕ = suc (belonging r rest) in
    pick (belongs r s) more 0

-- the skip number of row i, with these behind it: "otherwise it is the next row"
abbrev pub skip_of : ℕ → Rank → List Rank → ℕ
skip_of i r rest = suc i + belonging r rest

-- the skip numbers of the rows from row i on
abbrev pub skips_from : ℕ → List Rank → List ℕ
skips_from i [] = []
skips_from i (r ∷ rest) = skip_of i r rest ∷ skips_from (suc i) rest

-- "15 for a wrong skip number, at its row": the lowest
pub data Skips : Type 0 where
  right : Skips
  wrong_at : ℕ → Skips

-- the skip numbers given from row i on, held against the right ones
unfoldable pub held_against : ℕ → List ℕ → List ℕ → Skips
held_against i [] own = right
held_against i (x ∷ given) [] = wrong_at i
held_against i (x ∷ given) (y ∷ own) = pick (eqb x y) (held_against (suc i) given own) (wrong_at i)
