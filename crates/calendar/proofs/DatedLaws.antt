-- The record of a local time, from its day and second.
use Rattle.std.specs.Prelude.{Option, Some, None, SomeIff, Result, Ok, Err, OkIff}
use mathlib.Core.Path.{◌≡◌, refl, sym, ap, ◌∙◌}
use mathlib.Core.Bool.{Bool}
use Prim.Native.Nat.{ℕ, ◌+◌, ◌*◌, ◌/◌, ◌%◌, ◌<◌, ◌≤◌}
use native.Mathlib.Omega.{arith}
use lib.Dec.{lit<}
use lib.IntN.{ℤ, pos, negsuc, ◌+ℤ◌}
use lib.Signed.{mag}
use mir.Syntax.{w32, w64}
use mir.Val.{SFits, of_z, to_z}
use mir.ValLaws.{to_z-of_z}
use Rattle.rules.specs.declared.Refusal.TheVariants.{OutOfRange}
use Rattle.rules.specs.Record.{InI32, InI64}
use Rattle.rules.specs.Refusal.{number_of}
use Rattle.rules.specs.Decimal.{floor_div, floor_mod}
use Rattle.rules.specs.Calendar.{weekday_of, DateOf}
use Rattle.rules.specs.Counter.{dated_reply, DatedBy, year_leaves, made}
use Rattle.rules.proofs.FloorLaws.{mod_below}
use Rattle.numbers.proofs.Signed.{widened}
use Rattle.calendar.specs.declared.Date.{Date}
use Rattle.calendar.specs.Inner.{DateFor}

-- the sum that is asked of an i64, and what is known of it
pub summed : {count offset by : ℤ} (r : Option ℤ) → SFits w64 count → SFits w32 offset → by ≡ to_z w32 (of_z w32 offset) →
    (let sum = to_z w64 (of_z w64 count) +ℤ to_z w64 (of_z w64 by) in SomeIff r (SFits w64 sum) sum) → SomeIff r (SFits w64 (count +ℤ offset)) (count +ℤ offset)
summed {count = count} {offset = offset} r f g e s = rw (to_z-of_z w64 count f, e, widened offset g) at s

pub local_at : {local sum : ℤ} {r : Option ℤ} → SomeIff r (SFits w64 sum) sum → r ≡ Some local → (local ≡ sum) × InI64 sum
local_at {r = Some x} s e = (cc, s.0.sfits)
local_at {r = None} s e = let z : ◌≡◌ {A = ℕ} 0 1 = cc in absurd (omega arith)

pub local_out : (sum : ℤ) {r : Option ℤ} → SomeIff r (SFits w64 sum) sum → r ≡ None → InI64 sum → ⊥
local_out sum {r = Some x} s e = let z : ◌≡◌ {A = ℕ} 0 1 = cc in absurd (omega arith)
local_out sum {r = None} s e = λ f. s (record { sfits = f })

-- the day and the second of a local time
pub record Split (count offset day : ℤ) (s : ℕ) : Type 0 where
  pub days : day ≡ floor_div (count +ℤ offset) 86400
  pub second : s ≡ floor_mod (count +ℤ offset) 86400
  pub fits : InI64 (count +ℤ offset)

few : (local : ℤ) → InI64 local → mag (floor_div local 86400) < 106753078619162
few (pos a) h = omega arith
few (negsuc a) h = omega arith

module _ {count offset day : ℤ} {s : ℕ} (p : Split count offset day s) where
  pub days_few : mag day < 106753078619162
  days_few = rw p.days (few (count +ℤ offset) p.fits)

  pub second_to : s < 86400
  second_to = rw p.second (mod_below (count +ℤ offset) 86400 (lit< tt))

-- the year as an i32
pub year_in : {y year : ℤ} {E : Type 0} {r : Result ℤ E} → OkIff r (SFits w32 y) y → r ≡ Ok year → (year ≡ y) × InI32 y
year_in {r = Ok x} s e = (cc, s.0.sfits)
year_in {r = Err x} s e = let z : ◌≡◌ {A = ℕ} 0 1 = cc in absurd (omega arith)

clock : (s : ℕ) → s < 86400 → s / 3600 * 3600 + s / 60 % 60 * 60 + s % 60 ≡ s
clock s h = omega arith

module _ {count offset day : ℤ} {nanos s : ℕ} (utc : Bool) (d : Date) (h : nanos ≤ 999999999) (p : Split count offset day s) (w : DateFor day d) where
  date : DateOf (floor_div (count +ℤ offset) 86400) d.year d.month d.day
  date = rw p.days at w.date

  pub out_of_range : (InI32 d.year → ⊥) → DatedBy count offset nanos utc (dated_reply (Err OutOfRange))
  unfolding dated_reply number_of
  out_of_range f = year_leaves h date f

  pub is_made : InI32 d.year → DatedBy count offset nanos utc (dated_reply (Ok (record {
    year = d.year;
    month = d.month;
    day = d.day;
    hour = s / 3600;
    minute = s / 60 % 60;
    second = s % 60;
    nanoseconds = nanos;
    day_of_week = d.day_of_week;
    day_of_year = d.day_of_year;
    to_int = count;
    is_utc = utc;
    utc_offset = offset;
  })))
  unfolding dated_reply
  is_made f =
      let t = second_to p in
      let hour : s / 3600 ≤ 23 = omega arith in
      let minute : s / 60 % 60 ≤ 59 = omega arith in
      let second : s % 60 ≤ 59 = omega arith in
      made h p.fits f (
      record {
        date = date;
        clock = record { hour = hour; minute = minute; second = second };
        time = clock s t ∙ p.second;
        nanoseconds = refl;
        weekday = w.weekday ∙ sym (ap weekday_of w.date.number);
        day_of_year = w.day_of_year;
        to_int = refl;
        is_utc = refl;
        utc_offset = refl;
      })
