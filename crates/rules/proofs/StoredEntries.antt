-- A directive in 8 bytes: what is stored of one that a parse gives is taken, and is that directive again.
use Rattle.std.specs.Prelude.{Option, Some, None}
use mathlib.Core.Path.{◌≡◌, refl, sym, ap}
use mathlib.Core.Bool.{Bool, true, false, ◌&&◌}
use mathlib.Core.List.{List, [], ◌∷◌, ◌++◌, append_assoc}
use Prim.Native.Nat.{ℕ, ◌+◌, ◌*◌, ◌<◌}
use native.Mathlib.Omega.{arith}
use lib.Dec.{leb}
use lib.ListN.{length, drop}
use borrow.Author.Tests.{le-leb}
use Rattle.rules.specs.declared.Number.TheVariants.{Year4Digits, YearDiv100, YearRem100, Month, MonthDayZero, MonthDaySpace, YearDay, Hour24hZero, Hour24hSpace, Hour12hZero, Hour12hSpace, Minute, Second, WeekDayFrom1, WeekDayFrom0, YearIso8601, YearIso8601Rem100, WeekNumberIso8601, WeekNumberFromSunday, WeekNumberFromMonday, SecondsSinceEpoch}
use Rattle.rules.specs.declared.Name.TheVariants.{MonthName, MonthNameAbbr, MeridianLower, MeridianUpper, WeekDayName, WeekDayNameAbbr}
use Rattle.rules.specs.declared.Fraction.TheVariants.{MilliSecond, FractionalSecond}
use Rattle.rules.specs.declared.Offset.TheVariants.{TimeZoneOffsetHourMinute, TimeZoneOffsetHourMinuteColon, TimeZoneOffsetHourMinuteSecondColon, TimeZoneOffsetColonMinimal}
use Rattle.rules.specs.declared.Fixed.TheVariants.{Newline, Tabulation, Percent}
use Rattle.rules.specs.declared.Combination.TheVariants.{CombinationDateTime, CombinationDate, CombinationIso8601, CombinationVmsDate, CombinationTime12h, CombinationHourMinute24h, CombinationTime24h}
use Rattle.rules.specs.declared.Spec.{Spec}
use Rattle.rules.specs.declared.Spec.TheVariants.{Number as number, Name as name, Fraction as fraction, Offset as offset, TimeZoneName, Fixed as fixed, Combination as combination}
use Rattle.rules.specs.declared.Flags.{Flags}
use Rattle.rules.specs.declared.Padding.{Padding}
use Rattle.rules.specs.declared.Padding.TheVariants.{Left, Spaces, Zeros}
use Rattle.rules.specs.declared.Piece.{Piece}
use Rattle.rules.specs.Reading.{Row, possible_specs, look_up}
use Rattle.rules.specs.Stored.{two_bytes, two_of, four_bytes, four_of, code_of, coded_spec, padding_code, bit, present, width_value, entry_bytes, spec_from, padding_from, flags_from, width_from, entry_of, is_known, width_taken, entry_taken, entries_of, entries_taken, entries_bytes}
use Rattle.rules.proofs.RecordLaws.{together}
use Rattle.rules.proofs.WidthsRead.{WidthOk}

pub two_back : (n : ℕ) (s : List ℕ) → n < 65536 → two_of (two_bytes n ++ s) ≡ n
two_back n s h = omega arith

four_back : (n : ℕ) (s : List ℕ) → n < 4294967296 → four_of (four_bytes n ++ s) ≡ n
four_back n s h = omega arith

-- ## The codes

-- every kind of directive has a code, from which it comes back
pub spec_back : (s : Spec) → coded_spec (code_of s) ≡ Some s
unfolding coded_spec code_of look_up possible_specs
spec_back (fixed Percent) = refl
spec_back (name WeekDayName) = refl
spec_back (name MonthName) = refl
spec_back (number YearDiv100) = refl
spec_back (combination CombinationDate) = refl
spec_back (combination CombinationIso8601) = refl
spec_back (number YearIso8601) = refl
spec_back (number Hour24hZero) = refl
spec_back (number Hour12hZero) = refl
spec_back (fraction MilliSecond) = refl
spec_back (number Minute) = refl
spec_back (fraction FractionalSecond) = refl
spec_back (name MeridianLower) = refl
spec_back (combination CombinationHourMinute24h) = refl
spec_back (number Second) = refl
spec_back (combination CombinationTime24h) = refl
spec_back (number WeekNumberFromSunday) = refl
spec_back (number WeekNumberIso8601) = refl
spec_back (number WeekNumberFromMonday) = refl
spec_back (number Year4Digits) = refl
spec_back TimeZoneName = refl
spec_back (name WeekDayNameAbbr) = refl
spec_back (name MonthNameAbbr) = refl
spec_back (combination CombinationDateTime) = refl
spec_back (number MonthDayZero) = refl
spec_back (number MonthDaySpace) = refl
spec_back (number YearIso8601Rem100) = refl
spec_back (number YearDay) = refl
spec_back (number Hour24hSpace) = refl
spec_back (number Hour12hSpace) = refl
spec_back (number Month) = refl
spec_back (fixed Newline) = refl
spec_back (name MeridianUpper) = refl
spec_back (combination CombinationTime12h) = refl
spec_back (number SecondsSinceEpoch) = refl
spec_back (fixed Tabulation) = refl
spec_back (number WeekDayFrom1) = refl
spec_back (combination CombinationVmsDate) = refl
spec_back (number WeekDayFrom0) = refl
spec_back (number YearRem100) = refl
spec_back (offset TimeZoneOffsetHourMinute) = refl
spec_back (offset TimeZoneOffsetHourMinuteColon) = refl
spec_back (offset TimeZoneOffsetHourMinuteSecondColon) = refl
spec_back (offset TimeZoneOffsetColonMinimal) = refl

-- no letter of the table that means the same stands before the code
unfoldable pub firsts : List Row → Bool
firsts [] = true
firsts (r ∷ rs) = leb (code_of r.spec) r.letter && firsts rs

pub codes_first : firsts possible_specs ≡ true
unfolding firsts code_of possible_specs
codes_first = refl

pub padding_back : (d : Padding) → (padding_from (padding_code d) ≡ d) × (leb (padding_code d) 2 ≡ true)
padding_back Left = (refl, refl)
padding_back Spaces = (refl, refl)
padding_back Zeros = (refl, refl)

pub flags_back : (l c u : Bool) →
    (flags_from (bit l + (bit c * 2 + bit u * 4)) ≡ record { left = l; change = c; upper = u }) × (leb (bit l + (bit c * 2 + bit u * 4)) 7 ≡ true)
flags_back true true true = (refl, refl)
flags_back true true false = (refl, refl)
flags_back true false true = (refl, refl)
flags_back true false false = (refl, refl)
flags_back false true true = (refl, refl)
flags_back false true false = (refl, refl)
flags_back false false true = (refl, refl)
flags_back false false false = (refl, refl)

-- ## The width

pub width_taken_lem : (w : Option ℕ) → WidthOk w → width_taken (present w) (width_value w) ≡ true
width_taken_lem None h = refl
width_taken_lem (Some w) h = together (le-leb 1 w h.0) (le-leb w 2147483647 h.1)

width_small : (w : Option ℕ) → WidthOk w → width_value w < 4294967296
width_small None h = omega arith
width_small (Some w) h = omega arith

width_back : (w : Option ℕ) (s : List ℕ) → WidthOk w → width_from (present w) (four_of (four_bytes (width_value w) ++ s)) ≡ w
width_back None s h = refl
width_back (Some w) s h = ap Some (four_back w s (width_small (Some w) h))

-- ## A directive

-- a width that a parse gives, and no skipped letter
pub record Given (p : Piece) : Type 0 where
  pub width : WidthOk p.width
  pub unskipped : p.skipped ≡ false

same_piece : (p : Piece) {w : Option ℕ} {d : Padding} {f : Flags} {s : Spec} {k : Bool} → w ≡ p.width → d ≡ p.padding → f ≡ p.flags → s ≡ p.spec → k ≡ p.skipped →
    record { width = w; padding = d; flags = f; spec = s; skipped = k } ≡ p
same_piece p h₁ h₂ h₃ h₄ h₅ = rw (h₁, h₂, h₃, h₄, h₅)

module _ (p : Piece) (g : Given p) (s : List ℕ) where
  entry_back : entry_of (entry_bytes p ++ s) ≡ p
  unfolding entry_of entry_bytes
  entry_back =
      same_piece p (width_back p.width s g.width) (padding_back p.padding).0
      (flags_back p.flags.left p.flags.change p.flags.upper).0 (ap spec_from (spec_back p.spec)) (sym g.unskipped)

  entry_taken_lem : entry_taken (entry_bytes p ++ s) ≡ true
  unfolding entry_taken entry_bytes
  entry_taken_lem =
      let e : four_of (four_bytes (width_value p.width) ++ s) ≡ width_value p.width = four_back (width_value p.width) s (width_small p.width g.width) in
      together (ap is_known (spec_back p.spec)) (together (padding_back p.padding).1
      (together (flags_back p.flags.left p.flags.change p.flags.upper).1 (rw e (width_taken_lem p.width g.width))))

-- ## A section of directives

unfoldable pub AllGiven : List Piece → Type 0
AllGiven [] = Unit {0}
AllGiven (p ∷ ps) = Given p × AllGiven ps

eight : (p : Piece) (s : List ℕ) → drop 8 (entry_bytes p ++ s) ≡ s
unfolding entry_bytes
eight p s = refl

pub entries_back : (ps : List Piece) (s : List ℕ) → AllGiven ps → entries_of (length ps) (entries_bytes ps ++ s) ≡ ps
unfolding entries_of entries_bytes AllGiven
entries_back [] s g = refl
entries_back (p ∷ ps) s g =
    rw (append_assoc (entry_bytes p) (entries_bytes ps) s, entry_back p g.0 (entries_bytes ps ++ s), eight p (entries_bytes ps ++ s))
    (ap (λ (r : List Piece). p ∷ r) (entries_back ps s g.1))

pub entries_taken_lem : (ps : List Piece) (s : List ℕ) → AllGiven ps → entries_taken (length ps) (entries_bytes ps ++ s) ≡ true
unfolding entries_taken entries_bytes AllGiven
entries_taken_lem [] s g = refl
entries_taken_lem (p ∷ ps) s g =
    rw (append_assoc (entry_bytes p) (entries_bytes ps) s, entry_taken_lem p g.0 (entries_bytes ps ++ s), eight p (entries_bytes ps ++ s)) (entries_taken_lem ps s g.1)

pub entries_length : (ps : List Piece) → length (entries_bytes ps) ≡ length ps * 8
unfolding entries_bytes entry_bytes
entries_length [] = omega arith
entries_length (p ∷ ps) = omega (arith, entries_length ps)
