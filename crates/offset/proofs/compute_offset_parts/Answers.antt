-- `compute_offset_parts`, by what its callees ensure.
use mathlib.Core.Path.{ap, ◌∙◌}
use Prim.Native.Nat.{ℕ, ◌/◌, ◌%◌}
use lib.IntN.{nat_abs}
use Rattle.offset.proofs.Signed.{back}
use Rattle.offset.proofs.Laws.{hour_from}
use Rattle.offset.proofs.compute_offset_parts.Goals as goal

pub returns : goal.returns
returns c =
    let same = back c.args.utc_offset c.ranges.utc_offset in
    let size = c.unsigned_abs-utc_offset_abs.ensures ∙ ap nat_abs same in
    record {
      hour_value = hour_from _ _ c.args.is_utc c.args.left same c.unsigned_abs-utc_offset_abs.ensures c.is_minus-negative.ensures c.signed_hour.ensures;
      minute_value = ap (λ (n : ℕ). n / 60 % 60) size;
      second_value = ap (λ (n : ℕ). n % 60) size;
    }
