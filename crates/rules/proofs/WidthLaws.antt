-- How wide the parts of a text are: a year by default, the hour of twelve, the extra place of an offset, a text in a case.
use mathlib.Core.Path.{◌≡◌, refl}
use mathlib.Core.Bool.{Bool, ◌||◌}
use mathlib.Core.List.{List}
use Prim.Native.Nat.{ℕ, ◌%◌, ◌≤◌, ◌<◌}
use native.Mathlib.Omega.{arith}
use lib.Dec.{ltb, eqb, lit≤}
use lib.IntN.{ℤ, pos, negsuc}
use lib.ListN.{length, length-map}
use Rattle.rules.specs.Name.{upper, lower, Case, as_it_is, raised, lowered, in_case}
use Rattle.rules.specs.Offset.{extra}
use Rattle.rules.specs.Writing.{year_width, hour12}
use Rattle.rules.proofs.EventLaws.{split_on}

pub year_narrow : (z : ℤ) → year_width z ≤ 5
year_narrow (pos n) = lit≤ tt
year_narrow (negsuc n) = lit≤ tt

pub hour12_below : (h : ℕ) → hour12 h < 100
hour12_below h = split_on (λ n. n < 100) (eqb (h % 12) 0) (λ t. omega arith) (λ t. omega arith)

pub extra_small : (negative : Bool) (hours : ℕ) → extra negative hours ≤ 1
unfolding extra
extra_small negative hours = split_on (λ n. n ≤ 1) (negative || ltb hours 10) (λ t. lit≤ tt) (λ t. lit≤ tt)

pub length_cased : (c : Case) (text : List ℕ) → length (in_case c text) ≡ length text
unfolding in_case
length_cased as_it_is text = refl
length_cased raised text = length-map text upper
length_cased lowered text = length-map text lower
