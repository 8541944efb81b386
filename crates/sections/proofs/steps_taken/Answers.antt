-- What is left of the steps answers as all of them do.
use mathlib.Core.Path.{◌≡◌, refl, ◌∙◌}
use mathlib.Core.List.{List}
use Prim.Native.Nat.{ℕ}
use native.Mathlib.Omega.{arith}
use lib.ListN.{drop}
use Rattle.rules.specs.Stored.{steps_taken}
use Rattle.sections.proofs.StepLaws.{text_passes, text_next, no_section, piece_passes, piece_next, steps_end}
use Rattle.sections.proofs.steps_taken.Goals.{in-0, in-1}
use Rattle.sections.proofs.steps_taken.Goals as goal

-- the same steps, by the loop's counts
same : (s : List ℕ) (d : ℕ) {n n' i i' l l' : ℕ} → n' ≡ n → i' ≡ i → l' ≡ l → steps_taken n' (drop i' s) d l' ≡ steps_taken n (drop i s) d l
same s d p q r = rw (p, q, r) refl

pub returns-in_default : goal.returns-in_default
returns-in_default c = text_passes c.args.s.now _ c.args.directives c.two_at-n.ensures.same c.in-0.is _ _ (omega arith) c.if-n-left.false ∙ c.loop-index.invariant

pub returns-in_default-2 : goal.returns-in_default-2
returns-in_default-2 c = piece_passes c.args.s.now _ c.args.directives c.two_at-n.ensures.same c.in-1.is _ _ (omega arith) c.if-n-directives.false ∙ c.loop-index.invariant

pub returns-in_default-3 : goal.returns-in_default-3
returns-in_default-3 c = no_section c.args.s.now _ c.args.directives c.two_at-n.ensures.same _ _ (omega arith) (λ e. omega arith) (λ e. omega arith) ∙ c.loop-index.invariant

pub loop-index-preserved : goal.loop-index-preserved
loop-index-preserved c =
    let s = c.args.s.now in
    let d = c.args.directives in
    let n = c.two_at-n.ensures.same in
    elim c.match-s-i.branch [
      | in-0 w ↦ same s d (omega arith) (omega arith) w.left-is ∙ text_next s _ d n w.in-0.is _ _ (omega arith) w.if-n-left.true ∙ c.loop-index.invariant
      | in-1 w ↦ same s d (omega arith) (omega arith) w.left-is ∙ piece_next s _ d n w.in-1.is _ _ (omega arith) w.if-n-directives.true ∙ c.loop-index.invariant
    ]

pub returns : goal.returns
returns c = steps_end _ _ _ _ (omega arith) ∙ c.loop-index.invariant
