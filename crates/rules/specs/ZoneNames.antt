-- The rules with another test of a zone name's bytes, as 01's "zone bytes below 128" was until 02's request 5: what demand 3 is compared by.
-- No entry goes by them.
use Rattle.std.specs.Prelude.{◌≡◌, Bool, true, false, cond, List, [], ◌∷◌, map, ℕ, ◌≤◌, ltb, length}
use Rattle.rules.specs.declared.Record.{Record}
use Rattle.rules.specs.declared.Spec.{Spec}
use Rattle.rules.specs.declared.Spec.TheVariants.{Number as number, Name as name, Fraction as fraction, Offset as offset, TimeZoneName, Fixed as fixed, Combination as combination}
use Rattle.rules.specs.declared.Piece.{Piece}
use Rattle.rules.specs.Record.{each_byte, InRange}
use Rattle.rules.specs.Refusal.{Report}
use Rattle.rules.specs.Event.{Event, write, judged, run}
use Rattle.rules.specs.Writing.{zone_writes, verdict, events_of}
use Rattle.rules.specs.Format.{items, events, limit_of, lengths_first}
use Rattle.rules.specs.Size.{Outcomes, SizingBy, Typed, AnyStamp}

-- 01: "zone bytes below 128"
abbrev pub below128 : ℕ → Bool
below128 b = ltb b 128

abbrev pub is_zone : Spec → Bool
is_zone (number n) = false
is_zone (name n) = false
is_zone (fraction f) = false
is_zone (offset o) = false
is_zone TimeZoneName = true
is_zone (fixed f) = false
is_zone (combination c) = false

module _ (byte_ok : ℕ → Bool) where
  -- `Z` checks that every byte passes the test, and then writes; every other directive has its events by the rules
  unfoldable pub events_by : Record → List ℕ → Piece → List Event
  events_by r zone p = cond (is_zone p.spec) (judged (verdict (each_byte byte_ok zone)) ∷ map write (zone_writes p zone)) (events_of r zone p)

  unfoldable pub formatted_by : Outcomes
  formatted_by format zone r room = run (limit_of (length format)) room (lengths_first format zone room (events (events_by r zone) (items format)))

  -- "one record with all fields in range", and a name whose bytes pass. (The empty name always does.)
  pub record GoodStampBy (longest : ℕ) (r : Record) (zone : List ℕ) : Type 0 where
    pub typed : Typed r
    pub in_range : InRange r []
    pub bytes : each_byte byte_ok zone ≡ true
    pub short : length zone ≤ longest

  -- demand 3 over the names whose bytes pass
  abbrev pub SizingOver : List ℕ → ℕ → Report → Type 0
  SizingOver format longest = SizingBy formatted_by (AnyStamp longest) (GoodStampBy longest) format longest
