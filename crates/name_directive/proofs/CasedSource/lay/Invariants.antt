-- After i turns the first i bytes lie over out, each in its case.
use mathlib.Core.List.{map}
use Rattle.text.proofs.OverlayLaws.{Laid}
use Rattle.name_directive.specs.Named.{byte_in}
use Rattle.name_directive.proofs.CasedSource.lay.Given as goal

abbrev pub invariant-loop-i : goal.invariant-loop-i
invariant-loop-i l = let s = l.fn.self in Laid l.at (map (byte_in s.lowered) s.src.now) l.initial.out l.i l.out
