-- "Demand 3 reads as before over the smaller set of names; show that its answers are the same" (02, request 5). They are, over the names
-- whose bytes pass any test that the letter A passes: a name of as many letters A stands in for each, since a size goes by lengths alone.
use mathlib.Core.Path.{◌≡◌, refl, sym, subst, ◌∙◌}
use mathlib.Core.Bool.{Bool, true, false}
use mathlib.Core.List.{List, []}
use mathlib.Core.Logic.{◌⊎◌, inl, inr, ◌↔◌}
use Prim.Native.Nat.{ℕ, zero, suc}
use native.Mathlib.Omega.{arith}
use lib.Dec.{T}
use lib.ListN.{length, replicate, length-replicate}
use Rattle.rules.specs.declared.Record.{Record}
use Rattle.rules.specs.Ascii.{byte}
use Rattle.rules.specs.Record.{month, day, hour, minute, second, nanoseconds, weekday, day_of_year, zone_name, each_byte, zone_byte_ok, zone_ok, ok_field, InRange}
use Rattle.rules.specs.Refusal.{Report}
use Rattle.rules.specs.Event.{done, refused}
use Rattle.rules.specs.Size.{Stamps, Outcomes, text_for, Excused, SizeBy, NoneServesBy, SizingBy, too_long, faulty, no_buffer, needs, Sizing, AnyStamp, GoodStamp}
use Rattle.rules.specs.ZoneNames.{below128, formatted_by, GoodStampBy, SizingOver}
use Rattle.rules.proofs.FormatLaws.{never}
use Rattle.rules.proofs.RecordLaws.{true_of}
use Rattle.rules.proofs.ZoneTests.{by_the_rules}
use Rattle.longest.proofs.OtherNames.{Met, both_done, both_refused, missed, stamps_meet}

clash : {A : Type 0} {text : List ℕ} {number : ℕ} → done text ≡ refused number → A
clash e = let z : ◌≡◌ {A = ℕ} 0 1 = cc in absurd (omega arith)

-- ## A name of letters A

abbrev letters : List ℕ → List ℕ
letters zone = replicate (length zone) (byte "A")

letters_pass : (ok : ℕ → Bool) → ok (byte "A") ≡ true → (n : ℕ) → each_byte ok (replicate n (byte "A")) ≡ true
letters_pass ok a zero = refl
letters_pass ok a (suc n) = rw a (letters_pass ok a n)

-- ## One test's sizes are another's

module _ (f g : ℕ → Bool) (f-letter : f (byte "A") ≡ true) (g-letter : g (byte "A") ≡ true) (format : List ℕ) (longest : ℕ) where
  abbrev Good : Stamps
  Good = GoodStampBy f longest

  abbrev Good' : Stamps
  Good' = GoodStampBy g longest

  -- the stand-in has the same length
  stand_in : (r : Record) (zone : List ℕ) → Good r zone → Good' r (letters zone)
  stand_in r zone h =
      record {
        typed = h.typed;
        in_range = h.in_range;
        bytes = letters_pass g g-letter (length zone);
        short = rw (length-replicate (length zone) (byte "A")) h.short;
      }

  -- and g's outcome for it is f's for the name itself
  met : (r : Record) (zone : List ℕ) → Good r zone → (room : ℕ) →
      Met (each_byte g (letters zone) ≡ false) (formatted_by g format (letters zone) r room) (text_for format (letters zone) r) (formatted_by f format zone r room) (text_for format zone r)
  met r zone h room = stamps_meet f g r (letters zone) zone (length-replicate (length zone) (byte "A")) h.bytes format room

  not_missed : {A : Type 0} (zone : List ℕ) → each_byte g (letters zone) ≡ false → A
  not_missed zone e = never (sym (letters_pass g g-letter (length zone)) ∙ e)

  met_done : (r : Record) (zone : List ℕ) → Good r zone → (room : ℕ) {text : List ℕ} → formatted_by f format zone r room ≡ done text →
      formatted_by g format (letters zone) r room ≡ done (text_for format (letters zone) r)
  met_done r zone h room e =
      elim (met r zone h room) [ both_done p q ↦ p | both_refused number p q ↦ clash (sym e ∙ q) | missed m p ↦ not_missed zone m ]

  met_refused : (r : Record) (zone : List ℕ) → Good r zone → (room : ℕ) {number : ℕ} → formatted_by f format zone r room ≡ refused number →
      formatted_by g format (letters zone) r room ≡ refused number
  met_refused r zone h room e =
      elim (met r zone h room) [
        | both_done p q ↦ clash (sym q ∙ e)
        | both_refused number p q ↦ p ∙ sym q ∙ e
        | missed m p ↦ not_missed zone m
      ]

  back_done : (r : Record) (zone : List ℕ) → Good r zone → (room : ℕ) {text : List ℕ} → formatted_by g format (letters zone) r room ≡ done text →
      formatted_by f format zone r room ≡ done (text_for format zone r)
  back_done r zone h room e =
      elim (met r zone h room) [ both_done p q ↦ q | both_refused number p q ↦ clash (sym e ∙ p) | missed m p ↦ not_missed zone m ]

  -- what f gives a name of letters A serves every name of that length under g
  served : (r : Record) (zone : List ℕ) (n : ℕ) →
      (formatted_by f format (letters zone) r n ≡ done (text_for format (letters zone) r)) ⊎ ((number : ℕ) × (Excused number × (formatted_by f format (letters zone) r n ≡ refused number))) →
      (formatted_by g format zone r n ≡ done (text_for format zone r)) ⊎ ((number : ℕ) × (Excused number × (formatted_by g format zone r n ≡ refused number)))
  served r zone n s =
      elim (stamps_meet f g r zone (letters zone) (sym (length-replicate (length zone) (byte "A"))) (letters_pass f f-letter (length zone)) format n) [
        | both_done p q ↦ inl p
        | both_refused number p q ↦ elim s [ inl e ↦ clash (sym e ∙ q) | inr e ↦ inr (e.0, (e.1.0, p ∙ sym q ∙ e.1.1)) ]
        | missed m p ↦ inr (1, (refl, p))
      ]

  size_too : {n : ℕ} → SizeBy (formatted_by f) (AnyStamp longest) Good format n → SizeBy (formatted_by g) (AnyStamp longest) Good' format n
  size_too {n} size =
      record {
        serves = λ r zone h. served r zone n (size.serves r (letters zone) (record { typed = h.typed; short = rw (length-replicate (length zone) (byte "A")) h.short }));
        one = size.one;
        one_zone = letters size.one_zone;
        one_in = stand_in _ _ size.one_in;
        one_fits = met_done _ _ size.one_in n size.one_fits;
        one_needs = λ room h. met_refused _ _ size.one_in room (size.one_needs room h);
      }

  none_too : NoneServesBy (formatted_by f) Good format → NoneServesBy (formatted_by g) Good' format
  none_too none =
      record {
        one = none.one;
        one_zone = letters none.one_zone;
        one_in = stand_in _ _ none.one_in;
        fits_none = λ room h text e. none.fits_none room h _ (back_done _ _ none.one_in room e);
      }

  sizing_too : {a : Report} → SizingOver f format longest a → SizingOver g format longest a
  sizing_too (too_long l) = too_long l
  sizing_too (faulty n k e) = faulty n k e
  sizing_too (no_buffer k e none) = no_buffer k e (none_too none)
  sizing_too (needs n k e size) = needs n k e (size_too size)

-- ## The test of the rules

some_too : {outcomes : Outcomes} {Every Some Some' : Stamps} {format : List ℕ} {longest : ℕ} → ((r : Record) (zone : List ℕ) → Some r zone → Some' r zone) → {a : Report} →
    SizingBy outcomes Every Some format longest a → SizingBy outcomes Every Some' format longest a
some_too k (too_long l) = too_long l
some_too k (faulty n h e) = faulty n h e
some_too k (no_buffer h e none) = no_buffer h e (record { one = none.one; one_zone = none.one_zone; one_in = k _ _ none.one_in; fits_none = none.fits_none })
some_too k (needs n h e size) =
    needs n h e
    (record {
      serves = size.serves;
      one = size.one;
      one_zone = size.one_zone;
      one_in = k _ _ size.one_in;
      one_fits = size.one_fits;
      one_needs = size.one_needs;
    })

-- no field but the name goes by the name
renamed : (r : Record) (zone zone' : List ℕ) → InRange r zone → T (zone_ok zone') → InRange r zone'
unfolding ok_field
renamed r zone zone' h k month = h month
renamed r zone zone' h k day = h day
renamed r zone zone' h k hour = h hour
renamed r zone zone' h k minute = h minute
renamed r zone zone' h k second = h second
renamed r zone zone' h k nanoseconds = h nanoseconds
renamed r zone zone' h k weekday = h weekday
renamed r zone zone' h k day_of_year = h day_of_year
renamed r zone zone' h k zone_name = k

module _ (longest : ℕ) (r : Record) (zone : List ℕ) where
  good_to : GoodStampBy zone_byte_ok longest r zone → GoodStamp longest r zone
  unfolding zone_ok
  good_to h = record { typed = h.typed; in_range = renamed r [] zone h.in_range (rw h.bytes tt); short = h.short }

  good_from : GoodStamp longest r zone → GoodStampBy zone_byte_ok longest r zone
  unfolding zone_ok ok_field
  good_from h = record { typed = h.typed; in_range = renamed r zone [] h.in_range tt; bytes = true_of _ (h.in_range zone_name); short = h.short }

module _ (format : List ℕ) (longest : ℕ) (a : Report) where
  to_rules : SizingOver zone_byte_ok format longest a → Sizing (AnyStamp longest) (GoodStamp longest) format longest a
  to_rules s = subst (λ (o : Outcomes). SizingBy o (AnyStamp longest) (GoodStamp longest) format longest a) by_the_rules (some_too (good_to longest) s)

  from_rules : Sizing (AnyStamp longest) (GoodStamp longest) format longest a → SizingOver zone_byte_ok format longest a
  from_rules s = some_too (good_from longest) (subst (λ (o : Outcomes). SizingBy o (AnyStamp longest) (GoodStamp longest) format longest a) (sym by_the_rules) s)

  -- demand 3 allows a report over 01's names exactly where it allows it over printable ones
  pub same_sizes : SizingOver below128 format longest a ↔ Sizing (AnyStamp longest) (GoodStamp longest) format longest a
  same_sizes =
      (λ s. to_rules (sizing_too below128 zone_byte_ok refl refl format longest s), λ s. sizing_too zone_byte_ok below128 refl refl format longest (from_rules s))
