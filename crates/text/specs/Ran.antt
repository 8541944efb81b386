-- What a function of the engine does: it counts every byte, and writes those that have a place in the list.
use Rattle.std.specs.Prelude.{◌≡◌, cond, List, ℕ, ◌-◌, ◌/◌, ◌%◌, leb, take}
use Rattle.rules.specs.Record.{longest_buffer}
use Rattle.rules.specs.Event.{Event, Count, at, no, reach_of, tally, text_of}
use Rattle.text.specs.Overlay.{overlay}

-- a refused place is so many times the refusal's number, and how far the text came
abbrev pub refused_unit : ℕ
refused_unit = 131072

-- what a place stands for
unfoldable pub count_at : ℕ → Count
count_at n = cond (leb n longest_buffer) (at n) (no (n / refused_unit) (n % refused_unit))

-- the events es, run from place n over the list l, lead to place n' and the list l': the count is the tally's, and the text, as far as it
-- came, is laid over the list from n on. On 4 it came as far as the room, and on any other refusal as far as the event that failed; from a
-- refused place nothing comes. Bytes that have no place in the list are dropped.
pub record Ran (limit room : ℕ) (es : List Event) (l : List ℕ) (n : ℕ) (l' : List ℕ) (n' : ℕ) : Type 0 where
  pub count : count_at n' ≡ tally limit room es (count_at n)
  pub text : l' ≡ overlay n (take (reach_of (count_at n') - n) (text_of es)) l
