-- The writes of an offset that is given in parts, as plain numbers.
use Rattle.std.specs.Prelude.{List, [], ◌∷◌, ◌++◌, ℕ, ◌+◌, ◌-◌, ◌≤◌, ◌<◌}
use Rattle.rules.specs.Ascii.{byte}
use Rattle.rules.specs.Decimal.{digits, two, Fill}
use Rattle.rules.specs.Event.{Write, put}
use Rattle.rules.specs.Offset.{Form, hh, hhmm, hh:mm, hh:mm:ss, length_of_form, sign_and_pad}
use Rattle.offset.specs.declared.OffsetParts.{OffsetParts}

-- what follows the hours: m minutes and s seconds
unfoldable pub parts_text : Form → ℕ → ℕ → List ℕ
parts_text hh m s = []
parts_text hhmm m s = two m
parts_text hh:mm m s = byte ":" ∷ two m
parts_text hh:mm:ss m s = byte ":" ∷ (two m ++ (byte ":" ∷ two s))

unfoldable pub parts_writes : Form → Fill → ℕ → OffsetParts → List Write
parts_writes form fill width p =
    sign_and_pad fill p.minus (width - length_of_form form + p.extra)
    ++ (put (digits p.hours ++ parts_text form p.minute p.second) ∷ [])

-- what the writers require of the parts
pub record Small (p : OffsetParts) : Type 0 where
  pub place : p.extra ≤ 1
  pub minutes : p.minute < 60
  pub seconds : p.second < 60
