-- Each of the three by the law of the week's fields.
use mathlib.Core.Path.{refl, ap, ◌∙◌}
use native.Mathlib.Omega.{arith}
use lib.IntN.{ℤ, pos}
use mir.Syntax.{w64}
use mir.ValLaws.{to_z-of_z}
use Rattle.rules.specs.declared.IsoWeek.{IsoWeek}
use Rattle.rules.specs.Decimal.{floor_mod}
use Rattle.rules.specs.Writing.{value_of, default_width, fill_of, number_fields}
use Rattle.values.proofs.Laws.{last_of_three, weekly, week_checked}
use Rattle.values.proofs.iso_value.Goals as goal

pub returns-in-YearIso8601 : goal.returns-in-YearIso8601
unfolding value_of default_width fill_of number_fields
returns-in-YearIso8601 c =
    let iso = c.iso-iso in
    let year = to_z-of_z w64 iso.result.year (omega arith) in
    λ h. week_checked c.in-YearIso8601.is refl refl (λ w. year ∙ ap (λ (i : IsoWeek). i.year) (iso.ensures w)) (weekly c.week.ensures c.year.ensures)

pub returns-in-YearIso8601Rem100 : goal.returns-in-YearIso8601Rem100
unfolding value_of default_width fill_of number_fields
returns-in-YearIso8601Rem100 c =
    let iso = c.iso-iso in
    let year = to_z-of_z w64 iso.result.year (omega arith) in
    let rem = c.rem_euclid_100.ensures ∙ ap (λ (y : ℤ). floor_mod y 100) year in
    λ h. week_checked c.in-YearIso8601Rem100.is refl refl (λ w. ap pos (rem ∙ ap (λ (i : IsoWeek). floor_mod i.year 100) (iso.ensures w))) c.weekly.ensures

pub returns-in_default : goal.returns-in_default
unfolding value_of default_width fill_of number_fields
returns-in_default c = λ h. week_checked (last_of_three c.in_default.not-YearIso8601 c.in_default.not-YearIso8601Rem100 h) refl refl (λ w. ap (λ (i : IsoWeek). pos i.week) (c.iso-iso.ensures w)) c.weekly-in_default.ensures
