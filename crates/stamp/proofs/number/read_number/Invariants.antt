-- `read_number`: what is read so far and the bytes from there say what all of them say.
use Rattle.std.proofs.Common.{◌≡◌, drop}
use Rattle.stamp.specs.Numbers.{number_behind, number_of}
use Rattle.stamp.proofs.number.read_number.Given as goal

abbrev pub invariant-loop-byte : goal.invariant-loop-byte
invariant-loop-byte l = number_behind l.most l.value (drop l.byte-index l.bytes) ≡ number_of l.most l.bytes
