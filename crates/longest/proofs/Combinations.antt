-- The text of a combination has the length that it is padded by, where the fields that it checks are in range.
use mathlib.Core.Path.{◌≡◌, refl, ◌∙◌}
use mathlib.Core.Bool.{true}
use mathlib.Core.List.{List, flatten}
use Prim.Native.Nat.{ℕ, ◌≤◌}
use native.Mathlib.Omega.{arith}
use lib.Dec.{ltb}
use lib.ListN.{length, length-append, length-take}
use lib.IntN.{pos}
use Rattle.rules.specs.declared.Record.{Record}
use Rattle.rules.specs.declared.Flags.{Flags}
use Rattle.rules.specs.declared.Combination.{Combination}
use Rattle.rules.specs.declared.Combination.TheVariants.{CombinationDateTime, CombinationDate, CombinationIso8601, CombinationVmsDate, CombinationTime12h, CombinationHourMinute24h, CombinationTime24h}
use Rattle.rules.specs.Ascii.{ascii}
use Rattle.rules.specs.Record.{month, day, weekday, all_ok}
use Rattle.rules.specs.Decimal.{two, spaces}
use Rattle.rules.specs.Name.{day_name, month_name, abbreviated, Case, in_case, before12}
use Rattle.rules.specs.Writing.{day_text, combination_length, combination_text, combination_fields}
use Rattle.rules.proofs.EventLaws.{split_on}
use Rattle.rules.proofs.DecimalLaws.{length_places, length_filled, count_le, length_decimal_pos}
use Rattle.rules.proofs.RecordLaws.{Within, Each, ranges_of}
use Rattle.rules.proofs.WidthLaws.{length_cased}
use Rattle.longest.proofs.NameTables.{month_letters, day_letters}

pub length_meridian : (hour : ℕ) (am pm : List ℕ) → length am ≡ 2 → length pm ≡ 2 → length (before12 hour am pm) ≡ 2
length_meridian hour am pm a p = split_on (λ text. length text ≡ 2) (ltb hour 12) (λ t. a) (λ t. p)

length_two : (n : ℕ) → length (two n) ≡ 2
length_two n = length_places 2 n

length_day : (d : ℕ) → d ≤ 31 → length (day_text d) ≡ 2
length_day d l = omega (arith, length_filled spaces 2 (pos d), length_decimal_pos d, count_le 1 d (omega arith))

three : (c : Case) (name : List ℕ) → 3 ≤ length name → length (in_case c (abbreviated name)) ≡ 3
three c name h = length_cased c (abbreviated name) ∙ omega (arith, length-take 3 name)

module _ (r : Record) where
  three_day : Within weekday r → (c : Case) → length (in_case c (abbreviated (day_name r.day_of_week))) ≡ 3
  three_day h c = three c (day_name r.day_of_week) (day_letters r.day_of_week h)

  three_month : Within month r → (c : Case) → length (in_case c (abbreviated (month_name r.month))) ≡ 3
  three_month h c = three c (month_name r.month) (month_letters r.month h.0 h.1)

  two_day : Within day r → length (day_text r.day) ≡ 2
  two_day h = length_day r.day h.1

  length_ranged : (c : Combination) (f : Flags) → Each (combination_fields c) r → length (combination_text c f r) ≡ combination_length c r.year
  unfolding combination_text combination_length combination_fields flatten
  length_ranged CombinationDateTime f h =
      simp (length-append, length_two, three_day h.0, three_month h.1.0, two_day h.1.1.0) (omega arith)
  length_ranged CombinationDate f h = simp (length-append, length_two)
  length_ranged CombinationIso8601 f h = simp (length-append, length_two) (omega arith)
  length_ranged CombinationVmsDate f h = simp (length-append, three_month h.0, two_day h.1.0) (omega arith)
  length_ranged CombinationTime12h f h = simp (length-append, length_two, length_meridian r.hour (ascii "AM") (ascii "PM") refl refl)
  length_ranged CombinationHourMinute24h f h = simp (length-append, length_two)
  length_ranged CombinationTime24h f h = simp (length-append, length_two)

  -- "the length of their whole text (it depends on the year alone)"
  pub combination_length_lem : (zone : List ℕ) (c : Combination) (f : Flags) → all_ok (combination_fields c) r zone ≡ true → length (combination_text c f r) ≡ combination_length c r.year
  combination_length_lem zone c f h = length_ranged c f (ranges_of (combination_fields c) r zone h)
