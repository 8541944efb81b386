-- Each arm writes the letters of its name.
use mathlib.Core.Path.{refl}
use Rattle.rules.specs.declared.Name.{Name}
use Rattle.text.proofs.RanLaws.{said}
use Rattle.name_directive.specs.Named.{letters_of}
use Rattle.name_directive.proofs.LetterLaws.{known, either_meridian}
use Rattle.name_directive.proofs.put_name.Goals as goal

pub returns-in-MonthName : goal.returns-in-MonthName
unfolding letters_of
returns-in-MonthName c =
    let a = c.args in
    λ limit. said (known (λ (n : Name). letters_of n a.capital a.number) c.in-MonthName.is refl) (c.put.ensures limit)

pub returns-in-MonthNameAbbr : goal.returns-in-MonthNameAbbr
unfolding letters_of
returns-in-MonthNameAbbr c =
    let a = c.args in
    λ limit. said (known (λ (n : Name). letters_of n a.capital a.number) c.in-MonthNameAbbr.is c.three-three.ensures) (c.put-in-MonthNameAbbr.ensures limit)

pub returns-in-MeridianLower : goal.returns-in-MeridianLower
returns-in-MeridianLower c =
    let a = c.args in
    λ limit. said (either_meridian a.capital a.number c.in-MeridianLower.is) (c.put_meridian.ensures limit)

pub returns-in-WeekDayName : goal.returns-in-WeekDayName
unfolding letters_of
returns-in-WeekDayName c =
    let a = c.args in
    λ limit. said (known (λ (n : Name). letters_of n a.capital a.number) c.in-WeekDayName.is refl) (c.put-in-WeekDayName.ensures limit)

pub returns-in-WeekDayNameAbbr : goal.returns-in-WeekDayNameAbbr
unfolding letters_of
returns-in-WeekDayNameAbbr c =
    let a = c.args in
    λ limit. said (known (λ (n : Name). letters_of n a.capital a.number) c.in-WeekDayNameAbbr.is c.three-three-in-WeekDayNameAbbr.ensures) (c.put-in-WeekDayNameAbbr.ensures limit)
