-- What the entry answers, and the buffer afterwards, for each way through it.
use Rattle.std.specs.Prelude.{Ok, Err}
use mathlib.Core.Path.{◌≡◌, sym, subst, ◌∙◌}
use mathlib.Core.List.{List}
use Prim.Native.Nat.{ℕ, ◌/◌, ◌≤◌, ◌<◌}
use lib.ListN.{length}
use Rattle.rules.specs.declared.Refusal.{Refusal}
use Rattle.rules.specs.Record.{longest_buffer}
use Rattle.rules.specs.Refusal.{number_of, ByEvent, numbered}
use Rattle.rules.specs.Event.{Event, at, Outcome, run, reported}
use Rattle.rules.proofs.FormatLaws.{Numbered, CountOk, tally_ok}
use Rattle.rules.proofs.Promised.{Promised}
use Rattle.text.specs.Ran.{refused_unit}
use Rattle.text.proofs.PlaceLaws.{count_no}
use Rattle.text.proofs.EntryLaws.{ran_done, ran_refused, ran_length}
use Rattle.walk.specs.Stamp.{Stamped}

module _ {limit : ℕ} {es : List Event} {l b l' b' : List ℕ} {n : ℕ} (w : Stamped limit es l b l' b' n) where
  -- a refusal's number is one that an event gives
  pub refusal_known : Numbered ByEvent es → longest_buffer < n → ByEvent (n / refused_unit)
  refusal_known h k =
      subst (CountOk ByEvent) (sym w.count ∙ count_no n k) (tally_ok ByEvent (λ number g. g) limit (length b) es (at 0) h tt)

  module _ {outcome : Outcome} (e : outcome ≡ run limit (length b) es) where
    pub refused_there : (q : Refusal) → longest_buffer < n → number_of q ≡ n / refused_unit → Promised outcome b (Err q) b'
    unfolding numbered reported
    refused_there q h k = rw e (rw (ran_refused limit (length b) es n w.count h, k), w.buffer)

    pub done_there : n ≤ longest_buffer → Promised outcome b (Ok n) b'
    unfolding numbered reported
    done_there h = let k = ran_length limit (length b) es n w.count h in rw e (rw (ran_done limit (length b) es n w.count h, ← k), w.buffer)
