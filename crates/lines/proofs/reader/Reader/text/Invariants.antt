-- `text`: each turn takes a run; the bytes so far lie in the buffer, whose length is kept.
use Rattle.std.proofs.Common.{◌≤◌, length}
use Rattle.lines.proofs.reader.Reader.text.Given as goal

abbrev pub invariant-loop-byte : goal.invariant-loop-byte
invariant-loop-byte l = l.count ≤ length l.fn.out

abbrev pub decreases-loop-byte : goal.decreases-loop-byte
decreases-loop-byte l = length l.self.rest.now
