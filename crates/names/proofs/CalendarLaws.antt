-- The rules of a table of names, in either case.
use mathlib.Core.Path.{◌≡◌, refl, sym, ap, ◌∙◌}
use mathlib.Core.Bool.{Bool, true, false}
use mathlib.Core.List.{List, [], ◌∷◌, ◌++◌, map, flatten, append-nil}
use Prim.Native.Nat.{ℕ, zero, suc, ◌+◌, ◌-◌, ◌≤◌, ◌<◌}
use native.Mathlib.Nat.{not-suc-le-zero, le_of_suc-le-suc}
use native.Mathlib.Omega.{arith}
use lib.ListN.{length, get_or, take, drop, length-take, length-drop}
use Rattle.std.proofs.lemmas.List.{length-append, length-map, length-take-le, take-take, take_all}
use Rattle.std.proofs.Math.Seq.{take-append_seam, drop-append-add}
use Rattle.std.specs.List.{take-map, drop-map}
use Rattle.rules.specs.Ascii.{ascii}
use Rattle.rules.specs.Name.{day_name, month_name, abbreviated, Case, as_it_is, raised, lowered, upper, lower, in_case}
use Rattle.rules.proofs.WidthLaws.{length_cased}
use Rattle.names.specs.Calendar.{case_by, name_start}
use Rattle.names.specs.Laws.{days_long, months_long}

-- ## The upper twins: each is the upper case of its table, by one computed test

pub days_raised : ascii "SUNDAYMONDAYTUESDAYWEDNESDAYTHURSDAYFRIDAYSATURDAY" ≡ in_case raised (ascii "SundayMondayTuesdayWednesdayThursdayFridaySaturday")
unfolding upper in_case
days_raised = refl

pub months_raised : ascii "JANUARYFEBRUARYMARCHAPRILMAYJUNEJULYAUGUSTSEPTEMBEROCTOBERNOVEMBERDECEMBER" ≡ in_case raised (ascii "JanuaryFebruaryMarchAprilMayJuneJulyAugustSeptemberOctoberNovemberDecember")
unfolding upper in_case
months_raised = refl

-- the table of the case that is asked for
module _ (names : List (List ℕ)) {u : Bool} {table : List ℕ} where
  pub raised_table : u ≡ true → table ≡ in_case raised (flatten names) → table ≡ in_case (case_by u) (flatten names)
  raised_table e t = rw e t

  pub plain_table : u ≡ false → table ≡ flatten names → table ≡ in_case (case_by u) (flatten names)
  unfolding in_case
  plain_table e t = rw e t

-- ## Tables: each name stands between its place and the next

pub record Cut (table : List ℕ) (from end : ℕ) (name : List ℕ) : Type 0 where
  pub order : from ≤ end
  pub inside : end ≤ length table
  pub part : take (end - from) (drop from table) ≡ name

pub cut_length : {table : List ℕ} {from end : ℕ} {name : List ℕ} → Cut table from end name → end - from ≡ length name
cut_length w =
    let e = simp (length-take, length-drop) at (ap length w.part) in
    omega (arith, w.order, w.inside)

-- the names before it stand in front
later : (x : List ℕ) {table : List ℕ} {from end : ℕ} {name : List ℕ} → Cut table from end name → Cut (x ++ table) (length x + from) (length x + end) name
later x {table} {from} {end} w =
    let gap : length x + end - (length x + from) ≡ end - from = omega arith in
    record {
      order = omega (arith, w.order);
      inside = omega (arith, w.inside, length-append x table);
      part = rw (gap, drop-append-add x table from) w.part;
    }

mapped : (f : ℕ → ℕ) {table : List ℕ} {from end : ℕ} {name : List ℕ} → Cut table from end name → Cut (map f table) from end (map f name)
mapped f {table} {from} {end} w =
    record {
      order = w.order;
      inside = rw (length-map table f) w.inside;
      part = rw (drop-map f from table, take-map f (end - from) (drop from table)) (ap (map f) w.part);
    }

stands : (names : List (List ℕ)) (k : ℕ) → k < length names → Cut (flatten names) (name_start names k) (name_start names (suc k)) (get_or names k [])
unfolding name_start flatten
stands [] k h = absurd (not-suc-le-zero h)
stands (x ∷ xs) zero h =
    let whole : length (x ++ []) ≡ length x = ap length (append-nil x) in
    let gap : length (x ++ []) - 0 ≡ length x = omega (arith, whole) in
    record {
      order = omega arith;
      inside = omega (arith, whole, length-append x (flatten xs));
      part = rw gap (take-append_seam x (flatten xs));
    }
stands (x ∷ xs) (suc k) h = rw (length-append x (flatten (take k xs)), length-append x (flatten (take (suc k) xs))) (later x (stands xs k (le_of_suc-le-suc h)))

-- and in the case that is asked for
cased : (c : Case) {table : List ℕ} {from end : ℕ} {name : List ℕ} → Cut table from end name → Cut (in_case c table) from end (in_case c name)
unfolding in_case
cased as_it_is w = w
cased raised {table} {from} {end} w = mapped upper w
cased lowered w = mapped lower w

pub part_of : (names : List (List ℕ)) (name : ℕ → List ℕ) {first last : ℕ} → last < first + length names → ((n : ℕ) → name n ≡ get_or names (n - first) []) → (c : Case) {number from end : ℕ} {table : List ℕ} → first ≤ number → number ≤ last → table ≡ in_case c (flatten names) → from ≡ name_start names (number - first) → end ≡ name_start names (number + 1 - first) → Cut table from end (in_case c (name number))
part_of names name {first} counted numbered c {number} l h t f e =
    let next : number + 1 - first ≡ suc (number - first) = omega (arith, l) in
    rw (t, f, e, next, numbered number) (cased c (stands names (number - first) (omega (arith, l, h, counted))))

-- ## The first three letters of a name

firsts : (t : List ℕ) (from : ℕ) → from + 3 ≤ length t → get_or t from 0 ∷ get_or t (from + 1) 0 ∷ get_or t (from + 2) 0 ∷ [] ≡ take 3 (drop from t)
firsts [] from h = absurd (omega (arith, h))
firsts (x ∷ []) zero h = absurd (omega (arith, h))
firsts (x ∷ y ∷ []) zero h = absurd (omega (arith, h))
firsts (x ∷ y ∷ z ∷ t) zero h = refl
firsts (x ∷ t) (suc k) h =
    let one : suc k + 1 ≡ suc (k + 1) = omega arith in
    let two : suc k + 2 ≡ suc (k + 2) = omega arith in
    rw (one, two) (firsts t k (omega (arith, h)))

take_cased : (c : Case) (t : List ℕ) → take 3 (in_case c t) ≡ in_case c (take 3 t)
unfolding in_case
take_cased as_it_is t = refl
take_cased raised t = take-map upper 3 t
take_cased lowered t = take-map lower 3 t

-- of a name that stands in its table
module _ (c : Case) (name : List ℕ) {table : List ℕ} {from end : ℕ} (w : Cut table from end (in_case c name)) (h : 3 ≤ length name) where
  pub room_for_three : from + 3 ≤ length table
  room_for_three = omega (arith, w.order, w.inside, cut_length w, length_cased c name, h)

  pub first_three : get_or table from 0 ∷ get_or table (from + 1) 0 ∷ get_or table (from + 2) 0 ∷ [] ≡ in_case c (abbreviated name)
  first_three =
      firsts table from room_for_three
      ∙ sym (take-take 3 (end - from) (drop from table) (omega (arith, cut_length w, length_cased c name, h)))
      ∙ ap (take 3) w.part
      ∙ take_cased c name

-- and of three letters alone
pub three_long : (c : Case) (name : List ℕ) → 3 ≤ length name → length (in_case c (abbreviated name)) ≡ 3
three_long c name h = length_cased c (take 3 name) ∙ length-take-le 3 name h

by_letters : (c : Case) (name : List ℕ) {t : List ℕ} → 3 ≤ length name → t ≡ in_case c (abbreviated name) → get_or t 0 0 ∷ get_or t 1 0 ∷ get_or t 2 0 ∷ [] ≡ in_case c (abbreviated name)
by_letters c name {t} h e =
    let long = ap length e ∙ three_long c name h in
    firsts t 0 (omega (arith, long)) ∙ take_all 3 t (omega (arith, long)) ∙ e

pub day_letters : (u : Bool) {day : ℕ} {t : List ℕ} → day ≤ 6 → t ≡ in_case (case_by u) (abbreviated (day_name day)) → get_or t 0 0 ∷ get_or t 1 0 ∷ get_or t 2 0 ∷ [] ≡ in_case (case_by u) (abbreviated (day_name day))
day_letters u {day} h e = by_letters (case_by u) (day_name day) (days_long day (omega arith) h) e

pub month_letters : (u : Bool) {month : ℕ} {t : List ℕ} → 1 ≤ month → month ≤ 12 → t ≡ in_case (case_by u) (abbreviated (month_name month)) → get_or t 0 0 ∷ get_or t 1 0 ∷ get_or t 2 0 ∷ [] ≡ in_case (case_by u) (abbreviated (month_name month))
month_letters u {month} l h e = by_letters (case_by u) (month_name month) (months_long month l h) e
