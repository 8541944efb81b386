-- The entries, by the way that a call goes.
use mathlib.Core.Path.{◌≡◌, sym, ap, ◌∙◌}
use mathlib.Core.Bool.{true, false}
use mathlib.Core.List.{List}
use Prim.Native.Nat.{ℕ, ◌≤◌}
use native.Mathlib.Omega.{arith}
use lib.ListN.{length, length-take}
use Rattle.rules.specs.declared.Record.{Record}
use Rattle.rules.specs.declared.Refusal.{Refusal}
use Rattle.rules.specs.declared.Runs.{Runs}
use Rattle.rules.specs.Refusal.{number_of}
use Rattle.rules.specs.Event.{number_in}
use Rattle.rules.specs.Runs.{Call, bring, close, Lent, Arrived, checks, Held, held, arrived_of, numbers_of, lent_of, held_after}
use Rattle.rules.proofs.CheckLaws.{first_of, first_holds}
use Rattle.rules.proofs.OneAnswer.{number_some}
use Rattle.rules.proofs.CallLaws.{only_checks, checks_numbered}
use Rattle.rules.proofs.HeldLaws.{take_front}
use Rattle.rules.proofs.HeldWays.{held_over, held_no, counted, held_turned, held_read}
use Rattle.runs.specs.Checks.{run_checks, end_checks}
use Rattle.runs.specs.Read.{unread, read_in}

-- s are the numbers that were passed, and r what is read of them
module _ (zone : List ℕ) (time : Record) (s : Runs) (store buffer : List ℕ) (r : Runs) (e : r ≡ numbers_of (arrived_of s store)) where
  abbrev before : Held
  before = held s store buffer

  abbrev was : Arrived
  was = arrived_of s store

  abbrev lent : Lent
  lent = lent_of zone time before

  pub kept_fits : r.kept ≤ length store
  kept_fits = omega (arith, ap (λ (x : Runs). x.kept) e, length-take s.kept store)

  module _ (c : Call) where
    pub after_end : r.over ≡ true → held r store buffer ≡ held_after zone time before c
    after_end o = ap (λ (x : Runs). held x store buffer) e ∙ held_over zone time before c (sym (ap (λ (x : Runs). x.over) e) ∙ o)

    pub after_refusal : (r.number ≡ 0 → ⊥) → held r store buffer ≡ held_after zone time before c
    after_refusal h = ap (λ (x : Runs). held x store buffer) e ∙ held_no zone time before c (λ z. h (ap (λ (x : Runs). x.number) e ∙ z))

    module _ (o : r.over ≡ false) (z : r.number ≡ 0) where
      going : was.over ≡ false
      going = sym (ap (λ (x : Runs). x.over) e) ∙ o

      none : number_in was.count ≡ 0
      none = sym (ap (λ (x : Runs). x.number) e) ∙ z

      own : (number : ℕ) (t : Runs) → number ≡ first_of (checks lent was c) → (number ≡ 0 → ⊥) →
          t ≡ record { total = r.total; passed = r.passed; kept = r.kept; written = r.written; number = number; over = r.over } → held t store buffer ≡ held_after zone time before c
      own number t f h q =
          ap (λ (x : Runs). held x store buffer) (q ∙ ap (λ (x : Runs). record { total = x.total; passed = x.passed; kept = x.kept; written = x.written; number = number; over = x.over }) e)
          ∙ held_turned zone time before c going none number f h

      was_unread : unread r store ≡ was
      was_unread =
          ap (λ (x : Runs). unread x store) e
          ∙ rw (take_front s.kept store, ← counted zone time before c going none, ← going)

      through : first_of (checks lent was c) ≡ 0 → (h : Held) → h ≡ read_in zone time (unread r store) c store buffer → h ≡ held_after zone time before c
      through f h q =
          q ∙ ap (λ (x : Arrived). read_in zone time x c store buffer) was_unread
          ∙ held_read zone time before c going none (first_holds (checks lent was c) (only_checks lent was c) (checks_numbered lent was c) f)

  -- ## A run

  run_checks_lem : (bytes : List ℕ) → checks lent was (bring bytes) ≡ run_checks r (length bytes) (length zone) (length buffer) (length store)
  unfolding checks
  run_checks_lem bytes = rw e

  module _ (bytes : List ℕ) (o : r.over ≡ false) (z : r.number ≡ 0) where
    pub run_own_lem : (answer : Refusal) → number_of answer ≡ first_of (run_checks r (length bytes) (length zone) (length buffer) (length store)) → (t : Runs) →
        t ≡ record { total = r.total; passed = r.passed; kept = r.kept; written = r.written; number = number_of answer; over = r.over } → held t store buffer ≡ held_after zone time before (bring bytes)
    run_own_lem answer f t q = own (bring bytes) o z (number_of answer) t (f ∙ ap first_of (sym (run_checks_lem bytes))) (number_some answer) q

    pub run_through : 0 ≡ first_of (run_checks r (length bytes) (length zone) (length buffer) (length store)) → (h : Held) → h ≡ read_in zone time (unread r store) (bring bytes) store buffer → h ≡ held_after zone time before (bring bytes)
    run_through f h q = through (bring bytes) o z (ap first_of (run_checks_lem bytes) ∙ sym f) h q

  -- ## An end

  end_checks_lem : checks lent was close ≡ end_checks r (length zone) (length buffer)
  unfolding checks
  end_checks_lem = rw e

  module _ (o : r.over ≡ false) (z : r.number ≡ 0) where
    pub end_own_lem : (answer : Refusal) → number_of answer ≡ first_of (end_checks r (length zone) (length buffer)) → (t : Runs) →
        t ≡ record { total = r.total; passed = r.passed; kept = r.kept; written = r.written; number = number_of answer; over = r.over } → held t store buffer ≡ held_after zone time before close
    end_own_lem answer f t q = own close o z (number_of answer) t (f ∙ ap first_of (sym end_checks_lem)) (number_some answer) q

    pub end_through : 0 ≡ first_of (end_checks r (length zone) (length buffer)) → (h : Held) → h ≡ read_in zone time (unread r store) close store buffer → h ≡ held_after zone time before close
    end_through f h q = through close o z (ap first_of end_checks_lem ∙ sym f) h q
