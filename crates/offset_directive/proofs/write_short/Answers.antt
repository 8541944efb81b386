-- The text of the form that the arm knows.
use mathlib.Core.Path.{◌≡◌, refl, sym, ap}
use mathlib.Core.List.{List, [], ◌∷◌, ◌++◌}
use Prim.Native.Nat.{ℕ}
use native.Mathlib.Omega.{arith}
use Rattle.rules.specs.Decimal.{two}
use Rattle.rules.specs.Offset.{Form, hh, hhmm, hh:mm, hh:mm:ss, sign_of}
use Rattle.rules.proofs.DecimalLaws.{two_is}
use Rattle.text.proofs.RanLaws.{said}
use Rattle.offset_directive.specs.Form.{as_form}
use Rattle.offset_directive.specs.Parts.{parts_text}
use Rattle.offset_directive.proofs.TextLaws.{colon_minute, colons_minute_second, short_text}
use Rattle.offset_directive.proofs.write_short.Goals as goal
use Rattle.offset_directive.proofs.write_short.Goals.{After-ones-n}

minutes : (c : After-ones-n) → c.tens-m.result ∷ c.ones-n.result ∷ [] ≡ two c.args.minute
minutes c = two_is c.args.minute (omega (arith, c.requires.2)) c.tens-m.ensures c.ones-n.ensures

text : (c : After-ones-n) {form other : Form} {rest : List ℕ} → form ≡ other → rest ≡ parts_text form c.args.minute c.args.second
    → c.hour_sign-sign.result ∷ c.tens-h.result ∷ c.ones-k.result ∷ rest ≡ sign_of c.args.negative ++ (two c.args.hours ++ parts_text other c.args.minute c.args.second)
text c f p =
    short_text c.args.negative c.args.hours c.args.minute c.args.second f c.hour_sign-sign.ensures
    (two_is c.args.hours c.requires.1 c.tens-h.ensures c.ones-k.ensures) p

pub returns-in-Hour : goal.returns-in-Hour
unfolding as_form parts_text
returns-in-Hour c = λ limit. said (text (goal.at.returns-in-Hour c).After-ones-n {form = hh} (ap as_form (sym c.in-Hour.is)) refl) (c.put.ensures limit)

pub returns-in-HourMinute : goal.returns-in-HourMinute
unfolding as_form parts_text
returns-in-HourMinute c = λ limit. said (text (goal.at.returns-in-HourMinute c).After-ones-n {form = hhmm} (ap as_form (sym c.in-HourMinute.is)) (minutes (goal.at.returns-in-HourMinute c).After-ones-n)) (c.put-in-HourMinute.ensures limit)

pub returns-in-HourMinuteColon : goal.returns-in-HourMinuteColon
unfolding as_form
returns-in-HourMinuteColon c = λ limit. said (text (goal.at.returns-in-HourMinuteColon c).After-ones-n {form = hh:mm} (ap as_form (sym c.in-HourMinuteColon.is)) (colon_minute _ _ (minutes (goal.at.returns-in-HourMinuteColon c).After-ones-n))) (c.put-in-HourMinuteColon.ensures limit)

pub returns-in-HourMinuteSecond : goal.returns-in-HourMinuteSecond
unfolding as_form
returns-in-HourMinuteSecond c =
    λ limit.
    said
    (text (goal.at.returns-in-HourMinuteSecond c).After-ones-n {form = hh:mm:ss} (ap as_form (sym c.in-HourMinuteSecond.is))
    (colons_minute_second _ _ (minutes (goal.at.returns-in-HourMinuteSecond c).After-ones-n) (two_is c.args.second (omega (arith, c.requires.3)) c.tens-s.ensures c.ones-t.ensures)))
    (c.put-in-HourMinuteSecond.ensures limit)
