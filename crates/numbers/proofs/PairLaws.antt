-- The table of pairs, held to its rule by one computed test.
use Rattle.std.specs.Prelude.{◌≡◌, Bool, true, ℕ, ◌+◌, ◌*◌, ◌/◌, ◌%◌, ◌<◌, eqb, slice_index}
use mathlib.Core.Path.{refl}
use borrow.Author.Tests.{eqb-true}
use Rattle.rules.proofs.CalendarLaws.{every, every_at}
use Rattle.numbers.specs.declared.pairs.TheConstants.{PAIRS}

right : ℕ → Bool
right v = eqb (slice_index PAIRS v) (48 + v / 10 + 256 * (48 + v % 10))

tested : every 100 right ≡ true
unfolding right
tested = refl

pub pair_at : (v : ℕ) → v < 100 → slice_index PAIRS v ≡ 48 + v / 10 + 256 * (48 + v % 10)
unfolding right
pair_at v h = eqb-true _ _ (every_at right 100 tested v h)
