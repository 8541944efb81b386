-- A call's own checks by numbers: the first that fails, and what holds where none does.
use mathlib.Core.Path.{◌≡◌, sym, ◌∙◌}
use mathlib.Core.List.{List, ◌++◌}
use Prim.Native.Nat.{ℕ, ◌+◌, ◌≤◌, ◌<◌}
use borrow.Author.Tests.{le-leb, lt-leb, leb-true, eq-eqb, ne_eqb, eqb-true}
use Rattle.rules.specs.declared.Refusal.{Refusal}
use Rattle.rules.specs.declared.Runs.{Runs}
use Rattle.rules.specs.Record.{longest_format, longest_buffer}
use Rattle.rules.specs.Refusal.{number_of}
use Rattle.rules.specs.Event.{Event, Holds}
use Rattle.rules.specs.Format.{inputs}
use Rattle.rules.specs.Runs.{longest_run}
use Rattle.rules.proofs.FormatLaws.{Numbered}
use Rattle.rules.proofs.CheckLaws.{OnlyChecks, first_of, first_holds, first_stops, first_passes}
use Rattle.rules.proofs.OneAnswer.{number_some}
use Rattle.rules.proofs.CallLaws.{five, ten, four}
use Rattle.runs.specs.Checks.{Good, start_own, run_own, end_own, start_checks, run_checks, end_checks}

-- the inputs, and then other checks
module _ (total zone room : ℕ) (es : List Event) where
  inputs_stop : (r : Refusal) → number_of r ≡ first_of (inputs total zone room) → number_of r ≡ first_of (inputs total zone room ++ es)
  inputs_stop r e = e ∙ sym (first_stops (inputs total zone room) es (λ z. number_some r (e ∙ z)))

  inputs_pass : 0 ≡ first_of (inputs total zone room) → first_of (inputs total zone room ++ es) ≡ first_of es
  unfolding OnlyChecks Numbered
  inputs_pass e = first_passes (inputs total zone room) es tt (λ e. five, (λ e. five, (λ e. five, tt))) (sym e)

-- ## A start

module _ (total zone room store : ℕ) where
  pub start_inputs : (r : Refusal) → number_of r ≡ first_of (inputs total zone room) → number_of r ≡ first_of (start_checks total zone room store)
  start_inputs = inputs_stop total zone room (start_own total store)

  module _ (e : 0 ≡ first_of (inputs total zone room)) where
    first : first_of (start_checks total zone room store) ≡ first_of (start_own total store)
    first = inputs_pass total zone room (start_own total store) e

    pub past_store : store < total → 4 ≡ first_of (start_checks total zone room store)
    unfolding first_of
    past_store h = sym (first ∙ rw (lt-leb total store h))

    pub start_passes : total ≤ store → 0 ≡ first_of (start_checks total zone room store)
    unfolding first_of
    start_passes h = sym (first ∙ rw (le-leb total store h))

-- ## A run

-- the first check that fails, in the order of the tests
module _ (s : Runs) (count zone room store : ℕ) where
  pub run_inputs : (r : Refusal) → number_of r ≡ first_of (inputs s.total zone room) → number_of r ≡ first_of (run_checks s count zone room store)
  run_inputs = inputs_stop s.total zone room (run_own s count room store)

  module _ (e : 0 ≡ first_of (inputs s.total zone room)) where
    run_first : first_of (run_checks s count zone room store) ≡ first_of (run_own s count room store)
    run_first = inputs_pass s.total zone room (run_own s count room store) e

    pub run_long : longest_run < count → 5 ≡ first_of (run_checks s count zone room store)
    unfolding first_of
    run_long h = sym (run_first ∙ rw (lt-leb count longest_run h))

    module _ (h : count ≤ longest_run) where
      pub run_past_total : s.total < s.passed + s.kept + count → 10 ≡ first_of (run_checks s count zone room store)
      unfolding first_of
      run_past_total g = sym (run_first ∙ rw (le-leb count longest_run h, lt-leb (s.passed + s.kept + count) s.total g))

      module _ (g : s.passed + s.kept + count ≤ s.total) where
        pub run_past_store : store < s.kept + count → 4 ≡ first_of (run_checks s count zone room store)
        unfolding first_of
        run_past_store k =
            sym (run_first ∙ rw (le-leb count longest_run h, le-leb (s.passed + s.kept + count) s.total g, lt-leb (s.kept + count) store k))

        module _ (k : s.kept + count ≤ store) where
          pub run_past_room : room < s.written → 4 ≡ first_of (run_checks s count zone room store)
          unfolding first_of
          run_past_room p =
              sym (run_first ∙ rw (le-leb count longest_run h, le-leb (s.passed + s.kept + count) s.total g, le-leb (s.kept + count) store k, lt-leb s.written room p))

          pub run_passes : s.written ≤ room → 0 ≡ first_of (run_checks s count zone room store)
          unfolding first_of
          run_passes p =
              sym (run_first ∙ rw (le-leb count longest_run h, le-leb (s.passed + s.kept + count) s.total g, le-leb (s.kept + count) store k, le-leb s.written room p))

-- what holds where none fails
module _ (s : Runs) (count zone room store : ℕ) where
  run_holds : first_of (run_checks s count zone room store) ≡ 0 → Holds (run_checks s count zone room store)
  unfolding OnlyChecks Numbered
  run_holds e =
      first_holds (run_checks s count zone room store) tt
      (λ e. five, (λ e. five, (λ e. five, (λ e. five, (λ e. ten, (λ e. four, (λ e. four, tt))))))) e

  pub run_good : first_of (run_checks s count zone room store) ≡ 0 → Good s count zone room store
  unfolding Holds
  run_good e =
      let h = run_holds e in
      record {
        sum = leb-true _ _ h.0;
        small = leb-true _ _ h.1.1.0;
        within = leb-true _ _ h.1.1.1.1.0;
        holds = leb-true _ _ h.1.1.1.1.1.0;
        place = leb-true _ _ h.1.1.1.1.1.1.0;
      }

-- ## An end

module _ (s : Runs) (zone room : ℕ) where
  pub end_inputs : (r : Refusal) → number_of r ≡ first_of (inputs s.total zone room) → number_of r ≡ first_of (end_checks s zone room)
  end_inputs = inputs_stop s.total zone room (end_own s room)

  module _ (e : 0 ≡ first_of (inputs s.total zone room)) where
    end_first : first_of (end_checks s zone room) ≡ first_of (end_own s room)
    end_first = inputs_pass s.total zone room (end_own s room) e

    pub end_other_total : (s.passed + s.kept ≡ s.total → ⊥) → 10 ≡ first_of (end_checks s zone room)
    unfolding first_of
    end_other_total h = sym (end_first ∙ rw (ne_eqb (s.passed + s.kept) s.total h))

    module _ (h : s.passed + s.kept ≡ s.total) where
      pub end_past_room : room < s.written → 4 ≡ first_of (end_checks s zone room)
      unfolding first_of
      end_past_room p = sym (end_first ∙ rw (eq-eqb (s.passed + s.kept) s.total h, lt-leb s.written room p))

      pub end_passes : s.written ≤ room → 0 ≡ first_of (end_checks s zone room)
      unfolding first_of
      end_passes p = sym (end_first ∙ rw (eq-eqb (s.passed + s.kept) s.total h, le-leb s.written room p))

module _ (s : Runs) (zone room : ℕ) where
  pub record EndGood : Type 0 where
    pub sum : s.total ≤ longest_format
    pub small : room ≤ longest_buffer
    pub all : s.passed + s.kept ≡ s.total
    pub place : s.written ≤ room

  end_holds : first_of (end_checks s zone room) ≡ 0 → Holds (end_checks s zone room)
  unfolding OnlyChecks Numbered
  end_holds e = first_holds (end_checks s zone room) tt (λ e. five, (λ e. five, (λ e. five, (λ e. ten, (λ e. four, tt))))) e

  pub end_good : first_of (end_checks s zone room) ≡ 0 → EndGood
  unfolding Holds
  end_good e =
      let h = end_holds e in
      record { sum = leb-true _ _ h.0; small = leb-true _ _ h.1.1.0; all = eqb-true _ _ h.1.1.1.0; place = leb-true _ _ h.1.1.1.1.0 }
