-- `replay_lines`: each answer took a byte of the list, and no more differ than there are answers.
use Rattle.std.proofs.Common.{◌+◌, ◌≤◌, length}
use Rattle.std.specs.Slice.Iter.{split_inclusive_rest}
use Rattle.vectors.proofs.replay.replay_lines.Given as goal

abbrev pub invariant-loop-line : goal.invariant-loop-line
invariant-loop-line l =
    (goal.iterator-loop-line).can_next l.line-iterator × (goal.iterator-loop-line).is_finite l.line-iterator × (l.answers + length (split_inclusive_rest l.line-iterator) ≤ length l.list) × (l.differ ≤ l.answers)
