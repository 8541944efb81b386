-- After i turns the first i bytes lie over out, each in its case.
use Rattle.text.proofs.OverlayLaws.{laid_none}
use Rattle.name_directive.specs.Named.{byte_in}
use Rattle.name_directive.proofs.CaseLaws.{laid_through}
use Rattle.name_directive.proofs.CasedSource.lay.Goals as goal

pub loop-i-init : goal.loop-i-init
loop-i-init c = laid_none

pub loop-i-preserved : goal.loop-i-preserved
loop-i-preserved c =
    let s = c.args.self in
    laid_through (byte_in s.lowered) s.src.now c.loop-i.invariant c.loop-i-test.true c.byte_in.ensures
