-- `digits`: each turn takes a digit, after the first.
use Rattle.std.proofs.Common.{◌<◌, length}
use Rattle.lines.proofs.reader.Reader.digits.Given as goal

abbrev pub invariant-loop-digit : goal.invariant-loop-digit
invariant-loop-digit l = length l.self.rest.now < length l.fn.self.rest.now

abbrev pub decreases-loop-digit : goal.decreases-loop-digit
decreases-loop-digit l = length l.self.rest.now
