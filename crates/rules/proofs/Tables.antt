-- The tables' rules, each by one computed test.
use mathlib.Core.Path.{◌≡◌, refl}
use mathlib.Core.Bool.{true}
use lib.ListN.{length}
use Rattle.rules.specs.Reading.{possible_specs, letters, rising, modified}
use Rattle.rules.specs.declared.Modifier.TheVariants.{E, O}

pub table_rising : rising (letters possible_specs) ≡ true
unfolding possible_specs
table_rising = refl

pub table_length : length (letters possible_specs) ≡ 44
unfolding possible_specs
table_length = refl

pub modified_rising : (rising (modified E) ≡ true) × (rising (modified O) ≡ true)
unfolding modified
modified_rising = (refl, refl)
