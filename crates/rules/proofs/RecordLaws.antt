-- What a check of fields that passes says of each, and that every check of a record in range passes.
use mathlib.Core.Path.{◌≡◌, refl}
use mathlib.Core.Bool.{Bool, true, false, cond, ◌&&◌}
use mathlib.Core.List.{List, [], ◌∷◌}
use Prim.Native.Nat.{ℕ, ◌≤◌}
use lib.Dec.{T}
use borrow.Author.Tests.{leb-true}
use Rattle.rules.specs.declared.Record.{Record}
use Rattle.rules.specs.Record.{Field, month, day, hour, minute, second, nanoseconds, weekday, day_of_year, zone_name, within, ok_field, all_ok, InRange}
use Rattle.rules.specs.Calendar.{days_in}

-- ## Tests

-- by the two outcomes of a test, each as an equation
pub by_test : {A : Type 0} (P : A → Type 0) (b : Bool) {x y : A} → (b ≡ true → P x) → (b ≡ false → P y) → P (cond b x y)
by_test P true f g = f refl
by_test P false f g = g refl

pub both : (a b : Bool) → (a && b) ≡ true → (a ≡ true) × (b ≡ true)
both true b h = (refl, h)
both false b h = (h, cc)

pub together : {a b : Bool} → a ≡ true → b ≡ true → (a && b) ≡ true
together p q = rw (p, q)

pub true_of : (b : Bool) → T b → b ≡ true
true_of true h = refl
true_of false h = absurd h

pub ends : (least most n : ℕ) → within least most n ≡ true → (least ≤ n) × (n ≤ most)
ends least most n h = let k = both _ _ h in (leb-true _ _ k.0, leb-true _ _ k.1)

-- ## One field

-- the range of a field, in numbers. (A zone name is no field of the record.)
abbrev pub Within : Field → Record → Type 0
Within month r = (1 ≤ r.month) × (r.month ≤ 12)
Within day r = (1 ≤ r.day) × (r.day ≤ 31)
Within hour r = r.hour ≤ 23
Within minute r = r.minute ≤ 59
Within second r = r.second ≤ 60
Within nanoseconds r = r.nanoseconds ≤ 999999999
Within weekday r = r.day_of_week ≤ 6
Within day_of_year r = (1 ≤ r.day_of_year) × (r.day_of_year ≤ days_in r.year)
Within zone_name r = Unit {0}

pub range_of : (f : Field) (r : Record) (zone : List ℕ) → ok_field f r zone ≡ true → Within f r
unfolding ok_field
range_of month r zone h = ends _ _ _ h
range_of day r zone h = ends _ _ _ h
range_of hour r zone h = leb-true _ _ h
range_of minute r zone h = leb-true _ _ h
range_of second r zone h = leb-true _ _ h
range_of nanoseconds r zone h = leb-true _ _ h
range_of weekday r zone h = leb-true _ _ h
range_of day_of_year r zone h = ends _ _ _ h
range_of zone_name r zone h = tt

-- ## A list of fields

-- each passes
abbrev pub Passed : List Field → Record → List ℕ → Type 0
Passed [] r zone = Unit {0}
Passed (f ∷ fs) r zone = (ok_field f r zone ≡ true) × Passed fs r zone

pub passed : (fs : List Field) (r : Record) (zone : List ℕ) → all_ok fs r zone ≡ true → Passed fs r zone
unfolding all_ok
passed [] r zone h = tt
passed (f ∷ fs) r zone h = let k = both _ _ h in (k.0, passed fs r zone k.1)

-- each is in its range
abbrev pub Each : List Field → Record → Type 0
Each [] r = Unit {0}
Each (f ∷ fs) r = Within f r × Each fs r

pub ranges_of : (fs : List Field) (r : Record) (zone : List ℕ) → all_ok fs r zone ≡ true → Each fs r
unfolding all_ok
ranges_of [] r zone h = tt
ranges_of (f ∷ fs) r zone h = let k = both _ _ h in (range_of f r zone k.0, ranges_of fs r zone k.1)

-- ## A record in range

module _ (r : Record) (zone : List ℕ) (h : InRange r zone) where
  pub in_range : (f : Field) → Within f r
  in_range f = range_of f r zone (true_of _ (h f))

  pub all_ok_lem : (fs : List Field) → all_ok fs r zone ≡ true
  unfolding all_ok
  all_ok_lem [] = refl
  all_ok_lem (f ∷ fs) = rw (true_of (ok_field f r zone) (h f)) (all_ok_lem fs)
