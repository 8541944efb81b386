-- What a caller holds after the first call and after each way that a call can go, by numbers: the laws that the entries go by.
use mathlib.Core.Path.{◌≡◌, refl, sym}
use mathlib.Core.Bool.{Bool, true, false, cond}
use mathlib.Core.List.{List, [], ◌∷◌, ◌++◌}
use Prim.Native.Nat.{ℕ, min}
use native.Mathlib.Omega.{arith}
use borrow.Author.Tests.{ne_eqb}
use lib.Dec.{eqb, leb}
use lib.ListN.{length, length-take}
use Rattle.rules.specs.declared.Record.{Record}
use Rattle.rules.specs.declared.Runs.{Runs}
use Rattle.rules.specs.declared.Progress.TheVariants.{More, Done, Refused}
use Rattle.rules.specs.declared.Refusal.{Refusal}
use Rattle.rules.specs.Refusal.{number_of, refusal_at}
use Rattle.rules.specs.Event.{check, text_of, Count, at, no, reach_of, number_in, tally, Holds}
use Rattle.rules.specs.Format.{inputs, limit_of}
use Rattle.rules.specs.Runs.{Call, Lent, Arrived, limit_for, started, checks, added, entered, called, laid, written, store_by, store_after, progressed, said_by, Held, held, count_by, arrived_of, numbers_of, lent_of, held_after}
use Rattle.rules.proofs.FormatLaws.{CountOk}
use Rattle.rules.proofs.OneAnswer.{OfTable, number_known}
use Rattle.rules.proofs.CheckLaws.{OnlyChecks, first_of, first_counts}
use Rattle.rules.proofs.CallLaws.{end_repeats, end_stores, refusal_repeats, refusal_stores, repeats_write, turned, was_read}
use Rattle.rules.proofs.HeldLaws.{numbers_known, reach_by}

-- ## Numbers as they are read

number_by : (number n : ℕ) → number_in (count_by number n) ≡ cond (eqb number 0) 0 (number_of (refusal_at number))
unfolding number_in
number_by number n = go (eqb number 0)
  where
    go : (t : Bool) → number_in (cond t (at n) (no (number_of (refusal_at number)) n)) ≡ cond t 0 (number_of (refusal_at number))
    go true = refl
    go false = refl

-- no more is kept than the store holds, and a refusal is one of the table
pub numbers_read : (s : Runs) (store : List ℕ) (kept number : ℕ) → kept ≡ min s.kept (length store) → number ≡ cond (eqb s.number 0) 0 (number_of (refusal_at s.number)) →
    record { total = s.total; passed = s.passed; kept = kept; written = s.written; number = number; over = s.over } ≡ numbers_of (arrived_of s store)
numbers_read s store kept number e k =
    sym (rw (reach_by s.number s.written, number_by s.number s.written, length-take s.kept store, ← e, ← k))

-- the answer by its three cases
module _ (over : Bool) (number n : ℕ) where
  pub answer_refused : (number ≡ 0 → ⊥) → (r : Refusal) → r ≡ refusal_at number → progressed (Refused r) ≡ said_by over (count_by number n)
  unfolding progressed
  answer_refused h r e = rw (e, ne_eqb number 0 h)

  pub answer_done : number ≡ 0 → over ≡ true → progressed (Done n) ≡ said_by over (count_by number n)
  unfolding progressed
  answer_done z o = rw (z, o)

  pub answer_more : number ≡ 0 → over ≡ false → progressed More ≡ said_by over (count_by number n)
  unfolding progressed
  answer_more z o = rw (z, o)

-- ## The first call

pub numbers_started : (total zone_length room store number : ℕ) → number ≡ first_of (inputs total zone_length room ++ (check (leb total store) 4 ∷ [])) →
    record { total = total; passed = 0; kept = 0; written = 0; number = number; over = false } ≡ numbers_of (started total zone_length room store)
unfolding started OnlyChecks
numbers_started total zone_length room store number e =
    let w = first_counts (limit_of total) room (inputs total zone_length room ++ (check (leb total store) 4 ∷ [])) 0 tt in
    sym (rw (w.0, w.1, ← e))

-- ## A call, by the way that it goes

module _ (zone : List ℕ) (time : Record) (h : Held) (c : Call) where
  abbrev was : Arrived
  was = arrived_of h.numbers h.store

  abbrev lent : Lent
  lent = lent_of zone time h

  repeats : called lent was c ≡ was → store_after lent was c h.store ≡ h.store → held (numbers_of was) h.store h.buffer ≡ held_after zone time h c
  unfolding held_after
  repeats e k = sym (rw (repeats_write lent was c h.buffer e, k, e))

  -- an answer is repeated, after the end and after a refusal
  pub held_over : was.over ≡ true → held (numbers_of was) h.store h.buffer ≡ held_after zone time h c
  held_over o = repeats (end_repeats lent was c o) (end_stores lent was c o h.store)

  pub held_no : (number_in was.count ≡ 0 → ⊥) → held (numbers_of was) h.store h.buffer ≡ held_after zone time h c
  unfolding number_in
  held_no z = by was.count refl z
    where
      by : (x : Count) → was.count ≡ x → (number_in x ≡ 0 → ⊥) → held (numbers_of was) h.store h.buffer ≡ held_after zone time h c
      by (at n) q k = absurd (k refl)
      by (no number m) q k = repeats (refusal_repeats lent was c number m q) (refusal_stores lent was c number m q h.store)

  module _ (o : was.over ≡ false) (z : number_in was.count ≡ 0) where
    pub counted : was.count ≡ at (reach_of was.count)
    unfolding number_in reach_of
    counted = by was.count (numbers_known h.numbers.number h.numbers.written) z
      where
        by : (x : Count) → CountOk OfTable x → number_in x ≡ 0 → x ≡ at (reach_of x)
        by (at n) t k = refl
        by (no number m) t k = let y : ◌≡◌ {A = ℕ} 0 1 = cc (number_known t).0 in absurd (omega arith)

    -- the first of the call's own checks that fails
    pub held_turned : (number : ℕ) → number ≡ first_of (checks lent was c) → (number ≡ 0 → ⊥) →
        held (record { total = was.total; passed = was.passed; kept = length was.pending; written = reach_of was.count; number = number; over = was.over }) h.store h.buffer
        ≡ held_after zone time h c
    unfolding held_after reach_of number_in
    held_turned number e k =
        let w = turned lent was c o (reach_of was.count) counted number (sym e) k in
        sym (rw (w.bytes h.buffer, w.store h.store, w.state))

    -- or all of it is read
    pub held_read : Holds (checks lent was c) →
        held (numbers_of (entered lent was c (at (reach_of was.count)))) (store_by was c h.store (at (reach_of was.count)))
        (laid (reach_of was.count) (reach_of (tally (limit_for was) (length h.buffer) (added lent was c) (at (reach_of was.count)))) (text_of (added lent was c)) h.buffer)
        ≡ held_after zone time h c
    unfolding held_after written
    held_read k =
        let w = was_read lent was c o (reach_of was.count) counted k in
        sym (rw (w.store h.store, w.state))
