-- The letters of a name by its number: they are the name in its case, and so many; a checked field has a name.
use mathlib.Core.Path.{◌≡◌, refl, sym, ap, subst, ◌∙◌}
use mathlib.Core.Bool.{Bool, true, false, cond, not, ◌||◌, or_comm}
use mathlib.Core.Logic.{◌⊎◌, inl, inr}
use mathlib.Core.List.{List, []}
use Prim.Native.Nat.{ℕ, ◌≤◌}
use native.Mathlib.Omega.{arith}
use lib.Dec.{ltb}
use lib.ListN.{length}
use Rattle.rules.specs.declared.Flags.{Flags}
use Rattle.rules.specs.declared.Name.{Name}
use Rattle.rules.specs.declared.Name.TheVariants.{MonthName, MonthNameAbbr, MeridianLower, MeridianUpper, WeekDayName, WeekDayNameAbbr}
use Rattle.rules.specs.declared.Record.{Record}
use Rattle.rules.specs.Ascii.{ascii}
use Rattle.rules.specs.Name.{day_name, month_name, abbreviated, upper, lower, as_it_is, raised, lowered, in_case, before12, name_of, case_of}
use Rattle.rules.specs.Record.{all_ok}
use Rattle.rules.specs.Writing.{name_fields}
use Rattle.rules.proofs.RecordLaws.{Each, ranges_of}
use Rattle.names.specs.Calendar.{case_by}
use Rattle.names.specs.Laws.{days_long, months_long}
use Rattle.names.proofs.CalendarLaws.{three_long}
use Rattle.name_directive.specs.Named.{capitals, meridian_text, name_number, Named, letters_of}

-- ## A name that an arm knows

pub known : {A : Type 0} (f : Name → A) {n m : Name} {x : A} → n ≡ m → x ≡ f m → x ≡ f n
known f e h = h ∙ ap f (sym e)

-- one of the two that share an arm
pub either_meridian : (capital : Bool) (k : ℕ) {n : Name} → (n ≡ MeridianLower) ⊎ (n ≡ MeridianUpper) → meridian_text capital k ≡ letters_of n capital k
unfolding letters_of
either_meridian capital k (inl e) = known (λ (n : Name). letters_of n capital k) e refl
either_meridian capital k (inr e) = known (λ (n : Name). letters_of n capital k) e refl

-- ## Case

meridian_raised : (am u : Bool) → cond am (cond u (ascii "AM") (ascii "am")) (cond u (ascii "PM") (ascii "pm")) ≡ in_case (case_by u) (cond am (ascii "am") (ascii "pm"))
unfolding in_case upper
meridian_raised true true = refl
meridian_raised true false = refl
meridian_raised false true = refl
meridian_raised false false = refl

meridian_lowered : (am c : Bool) → cond am (cond (not c) (ascii "AM") (ascii "am")) (cond (not c) (ascii "PM") (ascii "pm")) ≡ in_case (cond c lowered as_it_is) (cond am (ascii "AM") (ascii "PM"))
unfolding in_case lower
meridian_lowered true true = refl
meridian_lowered true false = refl
meridian_lowered false true = refl
meridian_lowered false false = refl

raised_by : (f : Flags) (t : List ℕ) → in_case (case_by (f.change || f.upper)) t ≡ in_case (cond (f.upper || f.change) raised as_it_is) t
raised_by f t = ap (λ (u : Bool). in_case (case_by u) t) (or_comm f.change f.upper)

pub letters_cased : (n : Name) (f : Flags) (r : Record) → letters_of n (capitals n f) (name_number n r) ≡ in_case (case_of n f) (name_of n r)
unfolding letters_of name_number capitals case_of name_of
letters_cased MonthName f r = raised_by f (month_name r.month)
letters_cased MonthNameAbbr f r = raised_by f (abbreviated (month_name r.month))
letters_cased MeridianLower f r = meridian_raised (ltb r.hour 12) (f.change || f.upper) ∙ raised_by f (before12 r.hour (ascii "am") (ascii "pm"))
letters_cased MeridianUpper f r = meridian_lowered (ltb r.hour 12) f.change
letters_cased WeekDayName f r = raised_by f (day_name r.day_of_week)
letters_cased WeekDayNameAbbr f r = raised_by f (abbreviated (day_name r.day_of_week))

-- ## Length

pub month_letters : (capital : Bool) {k : ℕ} → (1 ≤ k) × (k ≤ 12) → 3 ≡ length (in_case (case_by capital) (abbreviated (month_name k)))
month_letters capital {k} h = sym (three_long (case_by capital) (month_name k) (months_long k h.0 h.1))

pub day_letters : (capital : Bool) {k : ℕ} → k ≤ 6 → 3 ≡ length (in_case (case_by capital) (abbreviated (day_name k)))
day_letters capital {k} h = sym (three_long (case_by capital) (day_name k) (days_long k (omega arith) h))

two_letters : (am u : Bool) → 2 ≡ length (cond am (cond u (ascii "AM") (ascii "am")) (cond u (ascii "PM") (ascii "pm")))
two_letters true true = refl
two_letters true false = refl
two_letters false true = refl
two_letters false false = refl

pub meridian_letters : (capital : Bool) (k : ℕ) → 2 ≡ length (meridian_text capital k)
meridian_letters capital k = two_letters (ltb k 12) capital

-- ## The field that a name reads

checked_named : (n : Name) (r : Record) → Each (name_fields n) r → Named n (name_number n r)
unfolding name_fields name_number Named
checked_named MonthName r e = e.0
checked_named MonthNameAbbr r e = e.0
checked_named MeridianLower r e = tt
checked_named MeridianUpper r e = tt
checked_named WeekDayName r e = e.0
checked_named WeekDayNameAbbr r e = e.0

-- of which the check held
pub in_range_named : (n : Name) (r : Record) {ok : Bool} {k : ℕ} → ((zone : List ℕ) → ok ≡ all_ok (name_fields n) r zone) → ok ≡ true → k ≡ name_number n r → Named n k
in_range_named n r f t e =
    subst (λ (x : ℕ). Named n x) (sym e) (checked_named n r (ranges_of (name_fields n) r [] (sym (f []) ∙ t)))
