-- The count of a day, a second of the day and an offset, in the numbers of an i64.
use Rattle.std.specs.Prelude.{Option, Some, None, Ok}
use mathlib.Core.Path.{◌≡◌, ap, ap₂, subst}
use Prim.Native.Nat.{ℕ, ◌<◌}
use native.Mathlib.Omega.{arith}
use lib.IntN.{ℤ, pos, ◌+ℤ◌, ◌-ℤ◌, ◌*ℤ◌}
use lib.Signed.{mag}
use mir.Syntax.{w32, w64}
use mir.Val.{SFits, to_z, of_z}
use mir.ValLaws.{to_z-of_z, to_z_pos}
use Rattle.rules.specs.declared.Record.{Record}
use Rattle.rules.specs.Calendar.{Exists, DateOf}
use Rattle.rules.specs.Counter.{counted_reply, seconds_of, OnClock, count_of, CountedBy, counted}
use Rattle.rules.proofs.Shift.{Is, is_pos, is_add, is_minus, is_times, shift_within, within_shift}
use Rattle.rules.proofs.CounterLaws.{day_near}
use Rattle.numbers.proofs.Signed.{through, widened}
use Rattle.calendar.specs.Inner.{DayFor, found, missing}

pub there : {y day : ℤ} {m d : ℕ} {r : Option ℤ} → DayFor y m d r → r ≡ Some day → DateOf day y m d
there {y} {m = m} {d = d} (found w) e = subst (λ (n : ℤ). DateOf n y m d) (cc) w
there (missing f) e = let z : ◌≡◌ {A = ℕ} 0 1 = cc in absurd (omega arith)

pub not_there : {y : ℤ} {m d : ℕ} {r : Option ℤ} → DayFor y m d r → r ≡ None → Exists y m d → ⊥
not_there (found w) e = let z : ◌≡◌ {A = ℕ} 0 1 = cc in absurd (omega arith)
not_there (missing f) e = f

-- the days of an i32's years
pub record Near (day : ℤ) : Type 0 where
  pub near : mag day < 1000000000000

pub date_near : {y day : ℤ} {m d : ℕ} → SFits w32 y → DateOf day y m d → Near day
date_near {y = y} {m = m} {d = d} f w = record { near = rw w.number at (day_near y m d f.sfits w.exists) }

-- what the code's steps ask, and what is read back of the last
module _ {day : ℤ} (h : Near day) where
  n : (n : ℕ) × Is day 1000000000000 n × (n < 2000000000000)
  n = within_shift day h.near

  day_read : to_z w64 (of_z w64 day) ≡ day
  day_read = to_z-of_z w64 day (record { sfits = omega (arith, h.near) })

  days_fit : SFits w64 (day *ℤ pos 86400)
  days_fit = record { sfits = shift_within 9223372036854775808 (is_times 86400 n.1) (omega (arith, n.2)) (omega (arith, n.2)) }

  pub days_asks : SFits w64 (to_z w64 (of_z w64 day) *ℤ pos 86400)
  days_asks = rw day_read days_fit

  module _ {s : ℕ} (k : s < 86400) where
    local_fits : SFits w64 (day *ℤ pos 86400 +ℤ pos s)
    local_fits = record { sfits = shift_within 9223372036854775808 (is_add (is_times 86400 n.1) (is_pos s)) (omega (arith, n.2)) (omega (arith, n.2)) }

    local_is : to_z w64 (of_z w64 (to_z w64 (of_z w64 day) *ℤ pos 86400)) +ℤ to_z w64 s ≡ day *ℤ pos 86400 +ℤ pos s
    local_is = ap₂ (λ (y z : ℤ). y +ℤ z) (through w64 (ap (λ (z : ℤ). z *ℤ pos 86400) day_read) days_fit) (to_z_pos w64 s (omega arith))

    pub local_asks : SFits w64 (to_z w64 (of_z w64 (to_z w64 (of_z w64 day) *ℤ pos 86400)) +ℤ to_z w64 s)
    local_asks = rw local_is local_fits

    module _ {o : ℤ} (f : SFits w32 o) where
      abbrev count : ℤ
      count = to_z w64 (of_z w64 (to_z w64 (of_z w64 (to_z w64 (of_z w64 day) *ℤ pos 86400)) +ℤ to_z w64 s)) -ℤ to_z w64 (of_z w64 (to_z w32 (of_z w32 o)))

      count_fits : SFits w64 (day *ℤ pos 86400 +ℤ pos s -ℤ o)
      count_fits =
          let p = within_shift o f.sfits in
          record { sfits = shift_within 9223372036854775808 (is_minus (is_add (is_times 86400 n.1) (is_pos s)) p.1) (omega (arith, n.2, p.2)) (omega (arith, n.2, p.2)) }

      count_is : count ≡ day *ℤ pos 86400 +ℤ pos s -ℤ o
      count_is = ap₂ (λ (y z : ℤ). y -ℤ z) (through w64 local_is local_fits) (widened o f)

      pub count_asks : SFits w64 count
      count_asks = rw count_is count_fits

      pub count_read : to_z w64 (of_z w64 count) ≡ day *ℤ pos 86400 +ℤ pos s -ℤ o
      count_read = through w64 count_is count_fits

pub is_counted : (r : Record) {day : ℤ} → DateOf day r.year r.month r.day → OnClock r → CountedBy r (counted_reply (Ok (day *ℤ pos 86400 +ℤ pos (seconds_of r) -ℤ r.utc_offset)))
unfolding counted_reply count_of
is_counted r w c = rw (← w.number) (counted (record { date = w.exists; clock = c }))
