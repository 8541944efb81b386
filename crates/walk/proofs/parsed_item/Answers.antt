-- A directive, an echo or a cut, by what is parsed.
use mathlib.Core.Path.{refl, sym, ◌∙◌}
use native.Mathlib.Omega.{arith}
use Rattle.rules.specs.Refusal.{number_of}
use Rattle.reading.proofs.Positions.{items_at}
use Rattle.reading.proofs.ElseBranches.{only_cut}
use Rattle.walk.proofs.WalkLaws.{step_directive, step_echo, step_cut}
use Rattle.walk.proofs.parsed_item.Goals as goal

pub returns-in_default-parsed : goal.returns-in_default-parsed
unfolding number_of
returns-in_default-parsed c =
    let p = c.parsed_at-parsed in
    step_cut _ c.requires.1 refl ((items_at _ _).percent c.requires.1 c.requires.2 _ (sym p.ensures ∙ only_cut p.result c.in_default.not-Directive c.in_default-parsed.not-Echo))
    (c.refused_at.ensures _ _ _)

pub put_part-requires : goal.put_part-requires
put_part-requires c =
    let q = (items_at _ _).percent c.requires.1 c.requires.2 _ (sym c.parsed_at-parsed.ensures ∙ c.in-Echo.is) in
    (c.requires.0, omega (arith, q.onward), q.within)

pub returns-in_default : goal.returns-in_default
returns-in_default c = step_echo _ _ ((items_at _ _).percent c.requires.1 c.requires.2 _ (sym c.parsed_at-parsed.ensures ∙ c.in-Echo.is)) (c.put_part.ensures _)

pub returns : goal.returns
returns c =
    step_directive _ _ ((items_at _ _).percent c.requires.1 c.requires.2 _ (sym c.parsed_at-parsed.ensures ∙ c.in-Directive.is)) c.directive.ensures
