-- Four digits at once, or the printer with the year's own width.
use mathlib.Core.Path.{sym, ap, ◌∙◌}
use mir.Syntax.{w64}
use mir.ValLaws.{to_z-of_z}
use Rattle.rules.specs.Writing.{year_width}
use Rattle.text.proofs.RanLaws.{said}
use Rattle.printing.proofs.FilledLaws.{year_filled}
use Rattle.printing.proofs.YearLaws.{four_text}
use Rattle.printing.proofs.put_year.Goals as goal

pub returns-then-year-lt10000 : goal.returns-then-year-lt10000
returns-then-year-lt10000 c = λ limit. said (four_text c.ranges.year c.if-year-ge0.true c.if-year-lt10000.true) (c.put_four.ensures limit)

pub returns : goal.returns
returns c =
    let read = to_z-of_z w64 _ c.ranges.year in
    λ limit. said (year_filled read (sym (c.year_width.ensures ∙ ap year_width read))) (c.put_decimal.ensures limit)
