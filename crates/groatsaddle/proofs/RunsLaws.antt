-- Any two answers to a C caller of a format in runs are equal.
use mathlib.Core.Path.{◌≡◌, sym, ap, ◌∙◌}
use mathlib.Core.List.{List}
use Prim.Native.Nat.{ℕ}
use Rattle.rules.specs.Runs.{Held}
use Rattle.groatsaddle.specs.declared.by_runs.GsRuns.{GsRuns}
use Rattle.groatsaddle.specs.Runs.{GsHeld, gs_held, held_to}

pub gs_runs_once : (h : Held) (a b : GsRuns) (store-a store-b buffer-a buffer-b : List ℕ) → gs_held a store-a buffer-a ≡ held_to h → gs_held b store-b buffer-b ≡ held_to h →
    (a ≡ b) × (store-a ≡ store-b) × (buffer-a ≡ buffer-b)
gs_runs_once h a b store-a store-b buffer-a buffer-b p q =
    let e = p ∙ sym q in
    (ap (λ (x : GsHeld). x.numbers) e, ap (λ (x : GsHeld). x.store) e, ap (λ (x : GsHeld). x.buffer) e)
