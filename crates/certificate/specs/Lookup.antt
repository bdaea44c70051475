-- Order 8, of calls of `lookup`: the promise allows one answer, and there is one for all rows, words and codes. On rows that a call read or wrote, lent
-- with their true words, it is the first row that opens or holds the value, and at most sixteen rows more are looked at than stand at level 0.
use Rattle.std.specs.Prelude.{ℕ, ◌+◌, ◌≤◌, List, true, ◌≡◌, refl, length, take}
use Rattle.std.proofs.Common.{ap, sym, ◌∙◌, subst, arith}
use Rattle.meaning.specs.Told.{Strictness}
use Rattle.meaning.specs.Codes.{can_ask}
use Rattle.meaning.specs.Headers.{envelopes_most}
use Rattle.meaning.specs.Memory.{ranks_of, Reply}
use Rattle.meaning.specs.Lookup.{lookup}
use Rattle.laws_tables.specs.Firsts.{first_from}
use Rattle.laws_demands.specs.PresentAnswers.{zero_means}
use Rattle.laws_demands.specs.PassedOver.{level_zero}
use Rattle.laws_demands.specs.LookedUp.{TrueWords, LooksUp, written_looks_up, read_looks_up, looks_up_present}
use Rattle.table.specs.declared.reply.Reply as declared
use Rattle.reader.specs.Promises.{ReadsBy}
use Rattle.writer.specs.Promise.{WritePromise}
use Rattle.present.specs.Promise.{PresentPromise}
use Rattle.lookup.specs.Promise.{LookupPromise}
use Rattle.certificate.specs.Lent.{first_rows, rows_read, accepted_call, written_call}
use Rattle.certificate.specs.Presence.{words_carried}
use Rattle.certificate.specs.Present.{present_by_procedure}

pub one_lookup : {rows words : List ℕ} {code : ℕ} {a b : declared.Reply} → LookupPromise rows words code a → LookupPromise rows words code b → a ≡ b
one_lookup p q = ap (λ (r : Reply). record { answer = r.answer; place = r.place; rows = r.rows }) (p.answers ∙ sym q.answers)

pub some_lookup : (rows words : List ℕ) (code : ℕ) → (a : declared.Reply) × LookupPromise rows words code a
some_lookup rows words code = let r = lookup rows words code in (record { answer = r.answer; place = r.place; rows = r.rows }, record { answers = refl })

-- accepted, with the first such row or the row count; the rows looked at are few
pub record FirstValue (rows : List ℕ) (code : ℕ) (a : declared.Reply) : Type 0 where
  pub answers : a.answer ≡ 0
  pub first : a.place ≡ first_from code 0 (ranks_of rows)
  pub few : a.rows ≤ envelopes_most + level_zero (ranks_of rows)

first_value_lem : {rows words : List ℕ} {code : ℕ} {a : declared.Reply} → LookupPromise rows words code a → LooksUp rows words code → FirstValue rows code a
first_value_lem {rows} {words} {code} p l =
    let q = p.answers ∙ l.is in
    record { answers = ap (λ (r : Reply). r.answer) q; first = ap (λ (r : Reply). r.place) q; few = omega (arith, ap (λ (r : Reply). r.rows) q, l.few) }

pub lookup_in_written : {edition code : ℕ} {rows pool before after words : List ℕ} {a b : declared.Reply} → WritePromise edition rows pool before a after → a.answer ≡ 0 → TrueWords rows words → can_ask code ≡ true → LookupPromise rows words code b → FirstValue rows code b
lookup_in_written {edition} {code} {rows} {pool} {before} {words = words} p z t c q =
    let (bytes, w, l) = written_call p z in
    first_value_lem q (written_looks_up edition rows pool (length before) bytes w words t code c)

-- the rows and words that one call of a reader left
pub lookup_in_read : {w : Strictness} {edition code : ℕ} {input before words after words' : List ℕ} {a b : declared.Reply} → ReadsBy w edition input before words a after words' → a.answer ≡ 0 → envelopes_most ≤ length words' → can_ask code ≡ true
    → LookupPromise (first_rows a.rows after) words' code b → FirstValue (first_rows a.rows after) code b
lookup_in_read {w} {edition} {code} {input} {after = after} {words' = words'} {a = a} p z enough c q =
    let (place, found, is, f) = accepted_call p z in
    let carried = words_carried p z in
    let table = rows_read f in
    let own : TrueWords (first_rows a.rows after) words' = record { front = ap (λ (n : ℕ). take n words') carried.one_each ∙ carried.walked; enough = enough } in
    first_value_lem q (subst (λ (x : List ℕ). LooksUp x words' code) (sym table) (read_looks_up w edition input place found p.bytes is words' (subst (λ (x : List ℕ). TrueWords x words') table own) code c))

-- "the answer equals order 1's": of a call of `present` that answers 0
pub lookup_is_present : {edition code : ℕ} {rows pool words : List ℕ} {a b : declared.Reply} → PresentPromise edition rows pool code a → a.answer ≡ 0 → TrueWords rows words → LookupPromise rows words code b
    → (b.answer ≡ 0) × (b.place ≡ a.place) × (b.rows ≤ envelopes_most + level_zero (ranks_of rows))
lookup_is_present {edition} {code} {rows} {pool} {words} {a} {b} p z t q =
    let well = zero_means edition rows pool code (ap (λ (r : Reply). r.answer) (sym p.answers) ∙ z) in
    let l = looks_up_present well.told rows pool words code well.check t well.asked in
    let r = q.answers ∙ l.is in
    (ap (λ (x : Reply). x.answer) r, ap (λ (x : Reply). x.place) r ∙ sym (present_by_procedure p z).0, omega (arith, ap (λ (x : Reply). x.rows) r, l.few))
