-- What the text of an offset is made of, in plain numbers.
use Rattle.std.specs.Prelude.{Bool, ℤ}
use Rattle.rules.specs.Offset.{hours_of, minutes_of, seconds_of, minus, extra}
use Rattle.offset.specs.declared.OffsetParts.{OffsetParts}

unfoldable pub parts_for : ℤ → Bool → Bool → OffsetParts
parts_for offset utc left =
    record {
      minus = minus left utc offset;
      extra = extra (minus left utc offset) (hours_of offset);
      hours = hours_of offset;
      minute = minutes_of offset;
      second = seconds_of offset;
    }
