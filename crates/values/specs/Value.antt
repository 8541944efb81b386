-- What a number directive prints (01, "Writing a directive": "Numbers"), as one answer.
use Rattle.std.specs.Prelude.{◌≡◌, Bool, true, false, List, ℕ, ◌≤◌}
use Rattle.rules.specs.declared.Number.{Number}
use Rattle.rules.specs.declared.Padding.{Padding}
use Rattle.rules.specs.declared.Record.{Record}
use Rattle.rules.specs.Record.{all_ok}
use Rattle.rules.specs.Decimal.{Fill}
use Rattle.rules.specs.Writing.{value_of, default_width, zeros_unless, spaces_unless, fill_of, number_fields}
use Rattle.values.specs.declared.Value.{Value}

-- a value's own fill: space for `e`, `k`, `l`
abbrev pub fill_by : Bool → Padding → Fill
fill_by true p = spaces_unless p
fill_by false p = zeros_unless p

-- the answer for a number directive: whether its fields are in range and, if so, its value, default width and fill
pub record ValueIs (n : Number) (r : Record) (v : Value) : Type 0 where
  pub ok : (zone : List ℕ) → v.ok ≡ all_ok (number_fields n) r zone
  pub number : v.ok ≡ true → v.number ≡ value_of n r
  pub width : v.ok ≡ true → v.width ≡ default_width n (value_of n r)
  pub fill : (p : Padding) → fill_of n p ≡ fill_by v.space p
  pub narrow : v.width ≤ 5
