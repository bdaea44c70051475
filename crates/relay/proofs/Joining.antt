-- What may be joined: its sizes, too little room for it, and that the reader's rows for the joined header are the joined rows.
use Prim.Native.Nat.{ℕ, ◌+◌, ◌-◌, ◌*◌, ◌≤◌, ◌<◌}
use mathlib.Core.List.{List, [], ◌++◌, append-nil}
use mathlib.Core.Bool.{true, false}
use mathlib.Core.Path.{◌≡◌, refl, ap, sym, ◌∙◌, subst}
use native.Mathlib.Omega.{arith}
use lib.Dec.{T, leb}
use lib.ListN.{length, take, drop, length-append}
use lib.Seq.{length-take-le}
use borrow.Author.Tests.{le-leb, lt-leb}
use borrow.Rule.Slice.PartMut.{put_mid}
use Rattle.meaning.specs.Told.{Edition, known, label_of, strict, told}
use Rattle.meaning.specs.Headers.{accepted, envelope_most, envelopes_most, read}
use Rattle.meaning.specs.Writing.{envelope_size, wrap}
use Rattle.meaning.specs.Memory.{reply, room_of, room_with, laid_over}
use Rattle.meaning.specs.Relay.{Joint, bytes_of, joined_count, joint_of, relay, relay_under, relayed, relay_answer, relay_rows, relay_words, relay_output}
use Rattle.laws_steps.specs.Logic.{are_bytes}
use Rattle.laws_steps.specs.Envelopes.{wrap_length, limit_size}
use Rattle.laws_tables.specs.EnvelopeCounts.{place_most}
use Rattle.laws_tables.specs.Ties.{read_as}
use Rattle.laws_tables.specs.Answered.{accepted_shape}
use Rattle.laws_tables.specs.Joined.{joins}
use Rattle.laws_tables.specs.JoinedRead.{joined_rows, count_joined, new_count, joined_read}
use Rattle.laws_tables.specs.JoinedLaid.{LaidAsRead, joined_bytes, laid_as_read, read_laid}
use Rattle.table.specs.declared.answers.Reached.{Reached}
use Rattle.table.specs.declared.reply.Reply.{Reply}
use Rattle.table.specs.Reply.{reply_of}
use Rattle.reader.specs.Promises.{Accepted, AcceptedHeader, ReadsBy, accepted_told}
use Rattle.write_envelopes.specs.Extension.{ExtensionLaid}
use Rattle.relay.specs.declared.Joint as declared
use Rattle.relay.specs.Promise.{RelayPromise, Joinable}
use Rattle.relay.proofs.Parts.{copied, joined_laid}

laid_is : (output front : List ℕ) → laid_over output front ≡ front ++ drop (length front) output
unfolding laid_over
laid_is output front = refl

-- where the joined header ends and how many rows it has, by the new envelope's size and the new table's rows
abbrev pub joined_to : declared.Joint → ℕ → ℕ → Reached
joined_to parts size room = record { at = size + parts.old.at; rows = room + parts.old.rows }

module _ {e : Edition} {input table pool : List ℕ} {parts : declared.Joint} (k : Joinable e input table pool parts) where
  abbrev pub joint : Joint
  joint = joint_of e k.body (take parts.old.at input) k.old.rows

  new_long : length (wrap false k.body) ≡ envelope_size parts.inside
  new_long = wrap_length false k.body ∙ ap envelope_size k.long

  all_long : length (bytes_of joint) ≡ envelope_size parts.inside + parts.old.at
  all_long = omega (arith, length-append (wrap false k.body) (take parts.old.at input), new_long, length-take-le parts.old.at input k.old.within)

  module _ (edition : ℕ) (n : label_of edition ≡ known e) (t : T (are_bytes input)) (u : T (are_bytes pool)) where
    joined_as : relay edition input table pool ≡ relayed joint
    unfolding relay
    joined_as = ap (relay_under input table pool) n ∙ k.is

    old_short : parts.old.at ≤ envelopes_most * envelope_most
    old_short = place_most edition input parts.old.at k.old.rows t (read_as strict edition e input n ∙ k.old.is)

    all_rows : joined_count joint ≡ room_of table + parts.old.rows
    all_rows = omega (arith, new_count (joins edition input table pool joint joined_as), k.old.count)

    -- never more rows than bytes
    few_rows : length (joined_rows joint) ≤ length (bytes_of joint)
    few_rows =
        let s = joins edition input table pool joint joined_as in
        let alone : read edition (bytes_of joint) ≡ accepted (length (bytes_of joint)) (joined_rows joint) = ap (read edition) (sym (append-nil (bytes_of joint))) ∙ joined_read s t [] in
        (accepted_shape strict edition (bytes_of joint) (length (bytes_of joint)) (joined_rows joint) (joined_bytes s t u) alone).1

    module _ (rows words output : List ℕ) {size room : ℕ} (s : size ≡ envelope_size parts.inside) (c : room ≡ room_of table) where
      -- "14, room for the joined rows, at the joined header's length with the rows needed"
      pub rows_short : room_with rows words < room + parts.old.rows → RelayPromise edition input table pool rows words output (record { answer = 14; place = size + parts.old.at; rows = room + parts.old.rows }) rows words output
      unfolding relay_answer relay_rows relay_words relay_output
      rows_short h =
          let no : leb (joined_count joint) (room_with rows words) ≡ false = lt-leb (joined_count joint) (room_with rows words) (omega (arith, all_rows)) in
          let a : size + parts.old.at ≡ length (bytes_of joint) = omega (arith, all_long) in
          let b : room + parts.old.rows ≡ joined_count joint = omega (arith, all_rows) in
          record { bytes = t; pool_bytes = u; answers = rw (joined_as, no, a, b) refl; joins = rw (joined_as, no) refl; carries = rw (joined_as, no) refl; leaves = rw (joined_as, no) refl }

      module _ (h : room + parts.old.rows ≤ room_with rows words) where
        -- "16"
        pub output_short : {r : Reply} → length output < size + parts.old.at → reply_of r ≡ reply 16 (size + parts.old.at) 0 → RelayPromise edition input table pool rows words output r rows words output
        unfolding relay_answer relay_rows relay_words relay_output
        output_short g q =
            let fits : leb (joined_count joint) (room_with rows words) ≡ true = le-leb (joined_count joint) (room_with rows words) (omega (arith, all_rows)) in
            let no : leb (length (bytes_of joint)) (length output) ≡ false = lt-leb (length (bytes_of joint)) (length output) (omega (arith, all_long)) in
            let a : size + parts.old.at ≡ length (bytes_of joint) = omega (arith, all_long) in
            record { bytes = t; pool_bytes = u; answers = q ∙ rw (joined_as, fits, no, a) refl; joins = rw (joined_as, fits, no) refl; carries = rw (joined_as, fits, no) refl; leaves = rw (joined_as, fits, no) refl }

        module _ (g : size + parts.old.at ≤ length output) {laid part : List ℕ} (x : ExtensionLaid e table pool output laid) (p : part ≡ copied (take parts.old.at input) laid size) where
          abbrev good : LaidAsRead edition input table pool rows words output joint
          good = laid_as_read edition input table pool rows words output joint joined_as t (omega (arith, all_rows)) (omega (arith, all_long))

          whole_laid : put_mid size (length laid - size) laid part ≡ laid_over output (bytes_of joint)
          whole_laid =
              ap (put_mid size (length laid - size) laid) p ∙ joined_laid output (wrap false k.body) (take parts.old.at input) laid size (new_long ∙ sym s) (x k.body k.envelopes k.planned)

          joined_header : AcceptedHeader strict edition (laid_over output (bytes_of joint)) (joined_to parts size room)
          joined_header = record {
            rows = joined_rows joint;
            is = read_laid edition input table pool rows words output joint joined_as t (omega (arith, all_rows)) (omega (arith, all_long)) ∙ ap (λ (z : ℕ). accepted z (joined_rows joint)) (let q : length (bytes_of joint) ≡ size + parts.old.at = omega (arith, all_long) in q);
            count = sym (count_joined joint) ∙ all_rows ∙ ap (λ (z : ℕ). z + parts.old.rows) (sym c);
            within = omega (arith, all_long, ap length (laid_is output (bytes_of joint)), length-append (bytes_of joint) (drop (length (bytes_of joint)) output));
            few = omega (arith, few_rows, all_long, all_rows, count_joined joint, old_short, limit_size parts.inside k.small);
          }

          pub joined_accepted : Accepted (told e) (put_mid size (length laid - size) laid part) (joined_to parts size room)
          joined_accepted = subst (λ (z : List ℕ). Accepted (told e) z (joined_to parts size room)) (sym whole_laid) (accepted_told n joined_header)

          pub joined_filled : {r : Reply} {rows' words' : List ℕ} → ReadsBy strict edition (put_mid size (length laid - size) laid part) rows words r rows' words' → RelayPromise edition input table pool rows words output r rows' words' (put_mid size (length laid - size) laid part)
          joined_filled {r} {rows'} {words'} a =
              let b = subst (λ (z : List ℕ). ReadsBy strict edition z rows words r rows' words') whole_laid a in
              record { bytes = t; pool_bytes = u; answers = b.answers ∙ sym good.answers; joins = b.rows ∙ sym good.rows_laid; carries = b.carries ∙ sym good.words_laid; leaves = whole_laid ∙ sym good.header_laid }
