-- The front in a case is the front of the text in that case.
use mathlib.Core.Path.{sym}
use Rattle.std.proofs.lemmas.List.{take-map}
use Rattle.name_directive.specs.Named.{byte_in}
use Rattle.name_directive.proofs.CasedSource.front.Goals as goal

pub returns : goal.returns
returns c = let s = c.args.self in sym (take-map (byte_in s.lowered) c.args.count s.src.now)
