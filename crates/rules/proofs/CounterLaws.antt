-- What the promises of the two entries of a counter say of their answers.
use Rattle.std.specs.Prelude.{Result, Ok, Err}
use mathlib.Core.Path.{◌≡◌, refl, sym, ap, ◌∙◌, subst}
use mathlib.Core.Bool.{Bool}
use mathlib.Core.List.{List}
use mathlib.Core.Logic.{◌⊎◌, inl, inr, ◌↔◌}
use mathlib.Core.Option.{none, some}
use Prim.Native.Nat.{ℕ, ◌+◌, ◌*◌, ◌<◌, ◌≤◌}
use native.Mathlib.Decide.{dec_lt}
use native.Mathlib.Omega.{arith}
use borrow.Author.Tests.{le-leb}
use lib.Dec.{T, le→leb, lit<}
use lib.IntN.{ℤ, pos, negsuc, ◌+ℤ◌, ◌*ℤ◌, +ℤ-neg_ℤ_cancel}
use lib.Signed.{mag, nat_abs-le}
use Rattle.rules.specs.declared.Refusal.{Refusal}
use Rattle.rules.specs.declared.Record.{Record}
use Rattle.rules.specs.declared.Spec.{Spec}
use Rattle.rules.specs.Refusal.{refusal_at}
use Rattle.rules.specs.Record.{Field, InI32, InI64, month, day, hour, minute, second, nanoseconds, weekday, day_of_year, zone_name, zone_ok, within, ok_field, InRange}
use Rattle.rules.specs.Decimal.{floor_div}
use Rattle.rules.specs.Calendar.{leap_day, days_in, Exists, year_day, day_number, weekday_of, DateOf}
use Rattle.rules.specs.Counter.{Reply, dated_reply, counted_reply, seconds_of, OnClock, RecordFor, DatedBy, too_many, sum_leaves, year_leaves, made, Countable, count_of, CountedBy, invalid, counted}
use Rattle.rules.specs.Writing.{fields_of, verdict, verdict_of}
use Rattle.rules.specs.Size.{Typed}
use Rattle.rules.proofs.FloorLaws.{mod_below, div_mod}
use Rattle.rules.proofs.OneAnswer.{refusal_at_lem}
use Rattle.rules.proofs.RecordLaws.{all_ok_lem}
use Rattle.rules.proofs.Shift.{Is, is_pos, is_add, is_minus, is_times, within_shift, shift_within}
use Rattle.rules.proofs.YearLaws.{leap_day_to}
use Rattle.rules.proofs.CalendarLaws.{starts, leap_is, room, month_to, month_in}
use Rattle.rules.proofs.Dates.{day_is, date_unique}

-- ## Any two answers are equal

-- an answer is known by its number and value
dated_from : Reply Record → Result Record Refusal
dated_from r = elim r.value [ some v ↦ Ok v | none ↦ Err (refusal_at r.number) ]

dated_back : (a : Result Record Refusal) → dated_from (dated_reply a) ≡ a
unfolding dated_from dated_reply
dated_back (Ok r) = refl
dated_back (Err e) = ap Err (refusal_at_lem e).1

counted_from : Reply ℤ → Result ℤ Refusal
counted_from r = elim r.value [ some v ↦ Ok v | none ↦ Err (refusal_at r.number) ]

counted_back : (a : Result ℤ Refusal) → counted_from (counted_reply a) ≡ a
unfolding counted_from counted_reply
counted_back (Ok c) = refl
counted_back (Err e) = ap Err (refusal_at_lem e).1

same_record : (r s : Record) → r.year ≡ s.year → r.month ≡ s.month → r.day ≡ s.day → r.hour ≡ s.hour → r.minute ≡ s.minute → r.second ≡ s.second →
    r.nanoseconds ≡ s.nanoseconds → r.day_of_week ≡ s.day_of_week → r.day_of_year ≡ s.day_of_year → r.to_int ≡ s.to_int →
    r.is_utc ≡ s.is_utc → r.utc_offset ≡ s.utc_offset → r ≡ s
same_record r s y m d h mi se n w x t u o =
    λ i. record {
      year = y i;
      month = m i;
      day = d i;
      hour = h i;
      minute = mi i;
      second = se i;
      nanoseconds = n i;
      day_of_week = w i;
      day_of_year = x i;
      to_int = t i;
      is_utc = u i;
      utc_offset = o i;
    }

same_clock : (r s : Record) → OnClock r → OnClock s → seconds_of r ≡ seconds_of s → (r.hour ≡ s.hour) × (r.minute ≡ s.minute) × (r.second ≡ s.second)
same_clock r s a b e =
    let p : r.hour ≡ s.hour = omega arith in
    let q : r.minute ≡ s.minute = omega arith in
    (p, q, omega arith)

module _ (count offset : ℤ) (nanos : ℕ) (utc : Bool) where
  pub record_unique : (r s : Record) → RecordFor count offset nanos utc r → RecordFor count offset nanos utc s → r ≡ s
  record_unique r s a b =
      let d = date_unique (floor_div (count +ℤ offset) 86400) r.year s.year r.month s.month r.day s.day a.date b.date in
      let c = same_clock r s a.clock b.clock (a.time ∙ sym b.time) in
      same_record r s d.0 d.1 d.2 c.0 c.1 c.2 (a.nanoseconds ∙ sym b.nanoseconds)
      (a.weekday ∙ ap weekday_of (a.date.number ∙ sym b.date.number) ∙ sym b.weekday)
      (a.day_of_year ∙ days d.0 d.1 d.2 ∙ sym b.day_of_year)
      (a.to_int ∙ sym b.to_int) (a.is_utc ∙ sym b.is_utc) (a.utc_offset ∙ sym b.utc_offset)
    where
      days : {y y' : ℤ} {m m' d d' : ℕ} → y ≡ y' → m ≡ m' → d ≡ d' → year_day y m d ≡ year_day y' m' d'
      days p q r = cc

  not_both : (r : Record) (y : ℤ) (m d : ℕ) → InI32 r.year → RecordFor count offset nanos utc r → DateOf (floor_div (count +ℤ offset) 86400) y m d → (InI32 y → ⊥) → ⊥
  not_both r y m d f a w out =
      out (subst InI32 (date_unique (floor_div (count +ℤ offset) 86400) r.year y r.month m r.day d a.date w).0 f)

  pub same_dated : (a b : Reply Record) → DatedBy count offset nanos utc a → DatedBy count offset nanos utc b → a ≡ b
  same_dated a b (too_many h) (too_many k) = refl
  same_dated a b (too_many h) (sum_leaves k s) = absurd (omega arith)
  same_dated a b (too_many h) (year_leaves k w s) = absurd (omega arith)
  same_dated a b (too_many h) (made k f g p) = absurd (omega arith)
  same_dated a b (sum_leaves h s) (too_many k) = absurd (omega arith)
  same_dated a b (sum_leaves h s) (sum_leaves k t) = refl
  same_dated a b (sum_leaves h s) (year_leaves k w t) = refl
  same_dated a b (sum_leaves h s) (made k f g p) = absurd (s f)
  same_dated a b (year_leaves h w s) (too_many k) = absurd (omega arith)
  same_dated a b (year_leaves h w s) (sum_leaves k t) = refl
  same_dated a b (year_leaves h w s) (year_leaves k v t) = refl
  same_dated a b (year_leaves h w s) (made k f g p) = absurd (not_both _ _ _ _ g p w s)
  same_dated a b (made h f g p) (too_many k) = absurd (omega arith)
  same_dated a b (made h f g p) (sum_leaves k s) = absurd (s f)
  same_dated a b (made h f g p) (year_leaves k w s) = absurd (not_both _ _ _ _ g p w s)
  same_dated a b (made h f g p) (made k f' g' q) = ap (λ (r : Record). record { number = 0; value = some r }) (record_unique _ _ p q)

  pub dated_once : (a b : Result Record Refusal) → DatedBy count offset nanos utc (dated_reply a) → DatedBy count offset nanos utc (dated_reply b) → a ≡ b
  dated_once a b p q = sym (dated_back a) ∙ ap dated_from (same_dated _ _ p q) ∙ dated_back b

pub same_counted : (r : Record) (a b : Reply ℤ) → CountedBy r a → CountedBy r b → a ≡ b
same_counted r a b (invalid f) (invalid g) = refl
same_counted r a b (invalid f) (counted w) = absurd (f w)
same_counted r a b (counted v) (invalid g) = absurd (g v)
same_counted r a b (counted v) (counted w) = refl

pub counted_once : (r : Record) (a b : Result ℤ Refusal) → CountedBy r (counted_reply a) → CountedBy r (counted_reply b) → a ≡ b
counted_once r a b p q = sym (counted_back a) ∙ ap counted_from (same_counted r _ _ p q) ∙ counted_back b

-- ## The way in

-- "that sum or the year leaves its type"
abbrev pub Leaves : ℤ → Type 0
Leaves local = (InI64 local → ⊥) ⊎ ((y : ℤ) × (m : ℕ) × (d : ℕ) × DateOf (floor_div local 86400) y m d × (InI32 y → ⊥))

module _ {count offset : ℤ} {nanos : ℕ} {utc : Bool} where
  -- 1 exactly for "nanoseconds above 999,999,999", "before 7"
  pub one_exactly : {a : Reply Record} → DatedBy count offset nanos utc a → (a.number ≡ 1) ↔ (999999999 < nanos)
  one_exactly (too_many h) = (λ e. h, λ k. refl)
  one_exactly (sum_leaves h s) = (λ e. absurd (omega arith), λ k. absurd (omega arith))
  one_exactly (year_leaves h w s) = (λ e. absurd (omega arith), λ k. absurd (omega arith))
  one_exactly (made h f g p) = (λ e. absurd (omega arith), λ k. absurd (omega arith))

  -- 7 exactly "if that sum or the year leaves its type"
  pub seven_exactly : {a : Reply Record} → DatedBy count offset nanos utc a → (a.number ≡ 7) ↔ ((nanos ≤ 999999999) × Leaves (count +ℤ offset))
  seven_exactly (too_many h) = (λ e. absurd (omega arith), λ k. absurd (omega (arith, k.0)))
  seven_exactly (sum_leaves h s) = (λ e. (h, inl s), λ k. refl)
  seven_exactly (year_leaves h w s) = (λ e. (h, inr (_, _, _, w, s)), λ k. refl)
  seven_exactly (made {r} h f g p) = (λ e. absurd (omega arith), λ k. never k.1)
    where
      never : Leaves (count +ℤ offset) → ◌≡◌ {A = ℕ} 0 7
      never (inl s) = absurd (s f)
      never (inr (y, m, d, w, s)) = absurd (not_both count offset nanos utc r y m d g p w s)

-- every record made: its fields by `RecordFor`, among them "second at most 59", "weekday and day of year agree with its date", "to_int is the count"
module _ {count offset : ℤ} {nanos : ℕ} {utc : Bool} (r : Record) (made-r : DatedBy count offset nanos utc (dated_reply (Ok r))) where
  pub made_record : RecordFor count offset nanos utc r × (nanos ≤ 999999999)
  unfolding dated_reply
  made_record = go made-r
    where
      go : DatedBy count offset nanos utc (record { number = 0; value = some r }) → RecordFor count offset nanos utc r × (nanos ≤ 999999999)
      go (made h f g p) = (p, h)

  -- a day that the year has
  pub made_year_day : (1 ≤ r.day_of_year) × (r.day_of_year ≤ days_in r.year)
  unfolding year_day days_in
  made_year_day =
      let p = made_record.0 in
      let x = p.date.exists in
      (omega (arith, p.day_of_year, x.day_from), omega (arith, p.day_of_year, x.day_to, month_in (leap_day r.year) r.month (leap_day_to r.year) x.month_from x.month_to))

  -- "Every record made this way has in-range fields"
  pub made_in_range : (zone : List ℕ) → T (zone_ok zone) → InRange r zone
  unfolding ok_field weekday_of
  made_in_range zone ok f =
      let p = made_record.0 in
      let x = p.date.exists in
      elim f as (λ (f : Field). T (ok_field f r zone)) [
        | month ↦ both_pass x.month_from x.month_to
        | day ↦ both_pass x.day_from (omega (arith, x.day_to, month_to (leap_day r.year) r.month (leap_day_to r.year) x.month_from x.month_to))
        | hour ↦ le→leb _ _ p.clock.hour
        | minute ↦ le→leb _ _ p.clock.minute
        | second ↦ le→leb r.second 60 (omega (arith, p.clock.second))
        | nanoseconds ↦ le→leb r.nanoseconds 999999999 (omega (arith, p.nanoseconds, made_record.1))
        | weekday ↦ le→leb r.day_of_week 6 (omega (arith, p.weekday, mod_below (day_number r.year r.month r.day +ℤ pos 4) 7 (lit< tt)))
        | day_of_year ↦ both_pass made_year_day.0 made_year_day.1
        | zone_name ↦ ok
      ]
    where
      both_pass : {least n most : ℕ} → least ≤ n → n ≤ most → T (within least most n)
      both_pass {least} {n} {most} a b = rw (le-leb least n a) (le→leb n most b)

  -- so no directive refuses it
  pub made_passes : (zone : List ℕ) → T (zone_ok zone) → (s : Spec) → verdict_of s r zone ≡ 0
  unfolding verdict_of verdict
  made_passes zone ok s = rw (all_ok_lem r zone (made_in_range zone ok) (fields_of s))

-- ## The way back

-- "To the record and back is the same count."
pub round_trip : {count offset : ℤ} {nanos : ℕ} {utc : Bool} (r : Record) (a : Result ℤ Refusal) → DatedBy count offset nanos utc (dated_reply (Ok r)) → CountedBy r (counted_reply a) → a ≡ Ok count
unfolding count_of counted_reply
round_trip {count} {offset} r a d c =
    let p = (made_record r d).0 in
    let l : day_number r.year r.month r.day *ℤ pos 86400 +ℤ pos (seconds_of r) ≡ count +ℤ offset = rw (p.date.number, p.time) (sym (div_mod (count +ℤ offset) 86400 (lit< tt))) in
    let e : count_of r ≡ count = rw (l, p.utc_offset) (+ℤ-neg_ℤ_cancel count offset) in
    counted_once r a (Ok count) c (subst (λ (z : ℤ). CountedBy r (record { number = 0; value = some z })) e (counted (record { date = p.date.exists; clock = p.clock })))

-- 1 exactly for "a date that doesn't exist, one of these out of range or second 60"
abbrev pub Uncountable : Record → Type 0
Uncountable r = (Exists r.year r.month r.day → ⊥) ⊎ ((23 < r.hour) ⊎ ((59 < r.minute) ⊎ (59 < r.second)))

pub invalid_exactly : {r : Record} {a : Reply ℤ} → CountedBy r a → (a.number ≡ 1) ↔ Uncountable r
invalid_exactly {r} (invalid f) = (λ e. out, λ o. refl)
  where
    out : Uncountable r
    out =
        elim (dec_lt 23 r.hour) [
          | yes h ↦ inr (inl h)
          | no h ↦ elim (dec_lt 59 r.minute) [
            | yes m ↦ inr (inr (inl m))
            | no m ↦ elim (dec_lt 59 r.second) [
              | yes s ↦ inr (inr (inr s))
              | no s ↦ inl (λ x. f (record { date = x; clock = record { hour = omega arith; minute = omega arith; second = omega arith } }))
            ]
          ]
        ]
invalid_exactly {r} (counted v) = (λ e. absurd (omega arith), λ o. absurd (not-out o))
  where
    not-out : Uncountable r → ⊥
    not-out (inl f) = f v.date
    not-out (inr (inl h)) = omega arith
    not-out (inr (inr (inl m))) = omega arith
    not-out (inr (inr (inr s))) = omega arith

-- and never 7
pub never_seven : {r : Record} {a : Reply ℤ} → CountedBy r a → a.number ≡ 7 → ⊥
never_seven (invalid f) e = omega arith
never_seven (counted v) e = omega arith

-- ## The greatest numbers

near : (z : ℕ) → (146097 * z ≤ 400 * starts z + 800) × (400 * starts z ≤ 146097 * z + 400)
unfolding starts
near z = (omega arith, omega arith)

year_near : {y : ℤ} {z : ℕ} → InI32 y → Is y 858993459600 (z + 1) → (856845975951 ≤ z) × (z ≤ 861140943246)
year_near {y = pos a} h i = (omega arith, omega arith)
year_near {y = negsuc a} h i = (omega arith, omega arith)

-- the days of an i32's years are fewer than 10 ^ 12 either way
pub day_near : (y : ℤ) (m d : ℕ) → InI32 y → Exists y m d → mag (day_number y m d) < 1000000000000
day_near y m d h x =
    let v = room y 2147483649 (omega (arith, nat_abs-le y h)) in
    let z = v.0 in
    let f = leap_day_to (pos (z + 1)) in
    let to = rw (leap_is y 2147483649 (z + 1) v.1) at x.day_to in
    shift_within 1000000000000 (day_is y m d 2147483649 z v.1)
    (omega (arith, near z, year_near h v.1, month_in (leap_day (pos (z + 1))) m f x.month_from x.month_to))
    (omega (arith, near z, year_near h v.1))

-- so a sum beyond an i64 is of a year beyond an i32
pub sum_year : (local y : ℤ) (m d : ℕ) → (InI64 local → ⊥) → DateOf (floor_div local 86400) y m d → InI32 y → ⊥
sum_year local y m d out w h = out (fits local (rw w.number at (day_near y m d h w.exists)))
  where
    fits : (z : ℤ) → mag (floor_div z 86400) < 1000000000000 → InI64 z
    fits (pos a) h = omega arith
    fits (negsuc a) h = omega arith

-- a count that is answered is one of an i64
pub count_fits : (r : Record) → Typed r → Countable r → InI64 (count_of r)
unfolding count_of
count_fits r t c =
    let n = within_shift (day_number r.year r.month r.day) (day_near r.year r.month r.day t.year c.date) in
    let o = within_shift r.utc_offset t.utc_offset in
    shift_within 9223372036854775808 (is_minus (is_add (is_times 86400 n.1) (is_pos (seconds_of r))) o.1) (omega (arith, n.2, o.2, c.clock)) (omega (arith, n.2, o.2))
