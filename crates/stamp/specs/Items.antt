-- The items of a format, by positions.
use Rattle.std.specs.Prelude.{◌≡◌, Bool, true, false, cond, List, ℕ, ◌+◌, ◌≤◌, eqb, length, drop, get_or, Option, Some, None}
use Rattle.rules.specs.declared.Reading.TheVariants.{InFlags}
use Rattle.rules.specs.declared.Parsed.{Parsed}
use Rattle.rules.specs.declared.Parsed.TheVariants.{Directive, Echo, Cut}
use Rattle.rules.specs.Ascii.{byte}
use Rattle.rules.specs.Reading.{outset}
use Rattle.rules.specs.Format.{parse_from}
use Rattle.stamp.specs.declared.item.Item.{Item}
use Rattle.stamp.specs.declared.item.Items.{Items}

-- by what is parsed after a percent sign, in a format of `length` bytes: where the item ends, and whether it is an echo
abbrev pub item_by : ℕ → Parsed → ℕ × Bool
item_by length (Directive p next) = (next, false)
item_by length (Echo next) = (next, true)
item_by length Cut = (length, false)

unfoldable pub item_at : List ℕ → ℕ → ℕ × Bool
item_at format at =
    cond (eqb (get_or format at 0) (byte "%"))
    (item_by (length format) (parse_from (InFlags outset) (at + 1) (drop (at + 1) format)))
    (at + 1, false)

-- the item that begins at a position
pub record Stands (format : List ℕ) (at : ℕ) (item : Item) : Type 0 where
  pub right : (item.end, item.echoed) ≡ item_at format at
  pub start : item.start ≡ at
  pub text : item.format.now ≡ format

-- a call gave the item that begins at the position, and went on to its end; or nothing, at the end of the format
abbrev pub GivesItem : Items → Option Item → Items → Type 0
GivesItem s (Some item) t = Stands s.format.now s.at item × (t.at ≡ item.end) × (t.format ≡ s.format)
GivesItem s None t = (length s.format.now ≤ s.at) × (t ≡ s)
