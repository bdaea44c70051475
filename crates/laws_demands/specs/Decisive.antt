-- What decides a fault inside an envelope: the bytes up to it, and how many stand behind; what these are is never looked at.
-- By cases on what is said of the fault.
use Rattle.std.specs.Prelude.{ℕ, suc, ◌+◌, ◌≤◌, List, [], ◌∷◌, ◌++◌, Bool, true, false, ◌||◌, ◌⊎◌, ◌≡◌, refl, T, eqb, leb, length}
use Rattle.std.proofs.Common.{append_assoc, append-nil, inl, inr, ap, sym, ◌∙◌, subst, arith, leb→le, length-append}
use Rattle.meaning.specs.Basics.{pick}
use Rattle.meaning.specs.Bytes.{Width, one_byte, two_bytes, four_bytes, bytes_of}
use Rattle.meaning.specs.Told.{Edition}
use Rattle.meaning.specs.Editions.{State, Form, Move, no_code, moves}
use Rattle.meaning.specs.Reading.{hit, has_code, look, is_closed, strange, level_most, value_from}
use Rattle.meaning.specs.Kinds.{agent_name}
use Rattle.laws_steps.specs.Tables.{all_rooms, each_room}
use Rattle.meaning.specs.Faults.{BadValue, text_ends, date_ends, number_ends, length_ends, block_ends, text_byte_lem, date_byte, number_byte, length_wide, BadStep, code_needed, strange_code, agent_deep, bad_value, closed_early}
use Rattle.laws_demands.specs.FaultyValues.{worth_length}

-- how many bytes from its place on decide a refusal, at most: 6 and 13 are decided by those before the place, a wrong length by its up to six bytes,
-- a length form that is too wide by its code and up to four bytes, and any other refusal by the byte at its place
abbrev pub decided_by : ℕ → ℕ
decided_by refusal = pick (eqb refusal 6 || eqb refusal 13) 0 (pick (eqb refusal 4 || eqb refusal 5) 6 (pick (eqb refusal 11) 5 1))

strange_test : T (all_rooms (λ e r. leb 1 (decided_by (strange r))))
strange_test = tt

-- a list of no bytes, and one of some
no_bytes : (s : List ℕ) → length s ≡ 0 → s ≡ []
no_bytes [] q = refl
no_bytes (b ∷ s) q = absurd (omega arith)

-- A value's fault

record DecidedValue (code : ℕ) (f : Form) (s : List ℕ) (refusal left : ℕ) : Type 0 where
  front : List ℕ
  back : List ℕ
  parts : s ≡ front ++ back
  some : 1 ≤ length s → 1 ≤ length front
  near : (length front + left ≤ length s + decided_by refusal) ⊎ ((refusal ≡ 11) × (left ≡ code) × (length front ≤ 4))
  others : (other : List ℕ) → length other ≡ length back → BadValue code f (front ++ other) refusal left

-- at the declared end: all bytes decide
at_end : (code : ℕ) (f : Form) (s : List ℕ) → BadValue code f s 6 0 → DecidedValue code f s 6 0
at_end code f s h =
    record {
      front = s;
      back = [];
      parts = sym (append-nil s);
      some = λ q. q;
      near = inl (omega arith);
      others = λ other q. subst (λ (x : List ℕ). BadValue code f x 6 0) (sym (append-nil s) ∙ ap (λ (x : List ℕ). s ++ x) (sym (no_bytes other q))) h;
    }

-- at a byte: it and those before it
at_byte : (code : ℕ) (f : Form) (v rest : List ℕ) (b refusal : ℕ) → 1 ≤ decided_by refusal → ((other : List ℕ) → BadValue code f (v ++ (b ∷ other)) refusal (length (b ∷ other))) → DecidedValue code f (v ++ (b ∷ rest)) refusal (length (b ∷ rest))
at_byte code f v rest b refusal d h =
    record {
      front = v ++ (b ∷ []);
      back = rest;
      parts = sym (append_assoc v (b ∷ []) rest);
      some = λ q. omega (arith, length-append v (b ∷ []));
      near = inl (omega (arith, length-append v (b ∷ []), length-append v (b ∷ rest)));
      others = λ other q. subst (λ (x : List ℕ). BadValue code f x refusal (length (b ∷ rest))) (sym (append_assoc v (b ∷ []) other)) (subst (λ (n : ℕ). BadValue code f (v ++ (b ∷ other)) refusal (suc n)) q (h other));
    }

some_bytes : (w : Width) → (1 ≤ bytes_of w) × (bytes_of w ≤ 4)
some_bytes one_byte = (omega arith, omega arith)
some_bytes two_bytes = (omega arith, omega arith)
some_bytes four_bytes = (omega arith, omega arith)

value_decided : {code : ℕ} {f : Form} {s : List ℕ} {refusal left : ℕ} → BadValue code f s refusal left → DecidedValue code f s refusal left
value_decided {code} (text_ends v t) = at_end code _ v (text_ends v t)
value_decided {code} (date_ends cs ds c v q t) = at_end code _ v (date_ends cs ds c v q t)
value_decided {code} (number_ends {v = v} d) = at_end code _ v (number_ends d)
value_decided {code} (length_ends v h) = at_end code _ v (length_ends v h)
value_decided {code} (block_ends {ls = ls} v h lo hi) = at_end code _ (ls ++ v) (block_ends v h lo hi)
value_decided {code} (text_byte_lem v rest b t n q) = at_byte code _ v rest b 8 (omega arith) (λ other. text_byte_lem v other b t n q)
value_decided {code} (date_byte cs ds c v rest b p t q) = at_byte code _ v rest b 9 (omega arith) (λ other. date_byte cs ds c v other b p t q)
value_decided {code} (number_byte {v = v} rest b d q) = at_byte code _ v rest b 10 (omega arith) (λ other. number_byte other b d q)
value_decided {code} (length_wide {w = w} {ls = ls} rest h hi) =
    let (one, four) = some_bytes w in
    let n = worth_length h in
    record { front = ls; back = rest; parts = refl; some = λ q. omega arith; near = inr (refl, refl, omega arith); others = λ other q. length_wide other h hi }

-- A step's fault

pub record DecidedStep (e : Edition) (st : State) (s : List ℕ) (refusal left : ℕ) : Type 0 where
  pub front : List ℕ
  pub back : List ℕ
  pub parts : s ≡ front ++ back
  pub near : length front + left ≤ length s + decided_by refusal
  pub others : (other : List ℕ) → length other ≡ length back → BadStep e st (front ++ other) refusal left

-- by the byte where the code stands
by_first : (e : Edition) (st : State) (b : ℕ) (s : List ℕ) (refusal : ℕ) → 1 ≤ decided_by refusal → ((other : List ℕ) → BadStep e st (b ∷ other) refusal (length (b ∷ other))) → DecidedStep e st (b ∷ s) refusal (length (b ∷ s))
by_first e st b s refusal d h = record { front = b ∷ []; back = s; parts = refl; near = omega arith; others = λ other q. subst (λ (n : ℕ). BadStep e st (b ∷ other) refusal (suc n)) q (h other) }

module _ (e : Edition) (st : State) (b : ℕ) (m : Move) (refusal left : ℕ) (p : look b (moves e st.room) ≡ hit m) (k : m.kind ≡ agent_name → st.level ≤ level_most) where
  -- a value's fault behind the code, or from the byte on that was looked at
  as_step : (t : List ℕ) (n : ℕ) (z : Bool) → has_code no_code m ≡ z → n ≡ suc (length t) → BadValue n m.form (pick z (b ∷ t) t) refusal left → BadStep e st (b ∷ t) refusal left
  as_step t n z q l v = bad_value p k (subst (λ (x : ℕ). BadValue x m.form (value_from m b t) refusal left) l (subst (λ (x : Bool). BadValue n m.form (pick x (b ∷ t) t) refusal left) (sym q) v))

  coded_decided : (s : List ℕ) → has_code no_code m ≡ false → DecidedValue (suc (length s)) m.form s refusal left → DecidedStep e st (b ∷ s) refusal left
  coded_decided s q d =
      record {
        front = b ∷ d.front;
        back = d.back;
        parts = ap (λ (x : List ℕ). b ∷ x) d.parts;
        near = near_by d.near;
        others = λ other l. as_step (d.front ++ other) (suc (length s)) false q (omega (arith, ap length d.parts, length-append d.front d.back, length-append d.front other)) (d.others other l);
      }
    where
      near_by : (length d.front + left ≤ length s + decided_by refusal) ⊎ ((refusal ≡ 11) × (left ≡ suc (length s)) × (length d.front ≤ 4)) → length (b ∷ d.front) + left ≤ length (b ∷ s) + decided_by refusal
      near_by (inl h) = omega arith
      near_by (inr (eleven, l, h)) = let five : decided_by refusal ≡ 5 = ap decided_by eleven in omega arith

  uncoded_decided : (s : List ℕ) → has_code no_code m ≡ true → DecidedValue (suc (length s)) m.form (b ∷ s) refusal left → DecidedStep e st (b ∷ s) refusal left
  uncoded_decided s q d = by d.front d.parts (d.some (omega arith)) d.near d.others
    where
      by : (front : List ℕ) → b ∷ s ≡ front ++ d.back → 1 ≤ length front → (length front + left ≤ length (b ∷ s) + decided_by refusal) ⊎ ((refusal ≡ 11) × (left ≡ suc (length s)) × (length front ≤ 4))
          → ((other : List ℕ) → length other ≡ length d.back → BadValue (suc (length s)) m.form (front ++ other) refusal left) → DecidedStep e st (b ∷ s) refusal left
      by [] c some near others = absurd (omega arith)
      by (x ∷ f) c some near others =
          let first : x ≡ b = sym (cc c) in
          let later : s ≡ f ++ d.back = cc c in
          record {
            front = b ∷ f;
            back = d.back;
            parts = ap (λ (y : List ℕ). b ∷ y) later;
            near = near_by near;
            others = λ other l. as_step (f ++ other) (suc (length s)) true q (omega (arith, ap length later, length-append f d.back, length-append f other)) (subst (λ (y : ℕ). BadValue (suc (length s)) m.form (y ∷ (f ++ other)) refusal left) first (others other l));
          }
        where
          near_by : (length (x ∷ f) + left ≤ length (b ∷ s) + decided_by refusal) ⊎ ((refusal ≡ 11) × (left ≡ suc (length s)) × (length (x ∷ f) ≤ 4)) → length (b ∷ f) + left ≤ length (b ∷ s) + decided_by refusal
          near_by (inl h) = omega arith
          near_by (inr (eleven, l, h)) = let five : decided_by refusal ≡ 5 = ap decided_by eleven in omega arith

  value_step : (s : List ℕ) (z : Bool) → has_code no_code m ≡ z → BadValue (suc (length s)) m.form (pick z (b ∷ s) s) refusal left → DecidedStep e st (b ∷ s) refusal left
  value_step s true q v = uncoded_decided s q (value_decided v)
  value_step s false q v = coded_decided s q (value_decided v)

-- what stands behind the closing 01 is not looked at
early_decided : (e : Edition) (st : State) (b : ℕ) (s : List ℕ) → is_closed st.room ≡ true → DecidedStep e st (b ∷ s) 13 (length (b ∷ s))
early_decided e st b s q = record { front = []; back = b ∷ s; parts = refl; near = omega arith; others = any }
  where
    any : (other : List ℕ) → length other ≡ length (b ∷ s) → BadStep e st other 13 (length (b ∷ s))
    any [] l = absurd (omega arith)
    any (x ∷ t) l = subst (BadStep e st (x ∷ t) 13) l (closed_early q)

pub step_decided : (e : Edition) (st : State) {s : List ℕ} {refusal left : ℕ} → BadStep e st s refusal left → DecidedStep e st s refusal left
step_decided e st (code_needed q) = record { front = []; back = []; parts = refl; near = omega arith; others = λ other p. subst (λ (x : List ℕ). BadStep e st x 6 0) (sym (no_bytes other p)) (code_needed q) }
step_decided e st (strange_code {b = b} {s = s} q p) =
    by_first e st b s (strange st.room) (leb→le 1 (decided_by (strange st.room)) (each_room (λ e r. leb 1 (decided_by (strange r))) strange_test e st.room)) (λ other. strange_code q p)
step_decided e st (agent_deep {b = b} {s = s} p k h) = by_first e st b s 12 (omega arith) (λ other. agent_deep p k h)
step_decided e st (bad_value {b = b} {s = s} {m = m} {refusal = refusal} {left = left} p k v) = value_step e st b m refusal left p k s (has_code no_code m) refl v
step_decided e st (closed_early {b = b} {s = s} q) = early_decided e st b s q
