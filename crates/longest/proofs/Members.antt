-- Sets of records for a size: what a buffer gives to a member whose fields are all in range.
use mathlib.Core.Path.{◌≡◌, sym, ◌∙◌}
use mathlib.Core.List.{List, [], ◌∷◌}
use Prim.Native.Nat.{ℕ, ◌≤◌, ◌<◌}
use native.Mathlib.Omega.{arith}
use lib.ListN.{length}
use Rattle.rules.specs.declared.Record.{Record}
use Rattle.rules.specs.Record.{InRange, longest_buffer}
use Rattle.rules.specs.Event.{length_of, done, refused, run, Holds}
use Rattle.rules.specs.Writing.{events_of}
use Rattle.rules.specs.Format.{items, read, ending, events, fault, limit_of, formatted}
use Rattle.rules.specs.Size.{Stamps, text_for, Kept}
use Rattle.rules.proofs.FormatLaws.{runs}
use Rattle.longest.specs.Witness.{Stamp, length_at}
use Rattle.longest.proofs.Fitting.{ThreeOrFour, run_fits, run_short, run_unchecked}
use Rattle.longest.proofs.Checks.{in_range_holds}

-- the sets of a size: Every is to be served, and a member of Some to need it all
pub record Sets (longest : ℕ) (Every Some : Stamps) : Type 0 where
  pub among : (r : Record) (zone : List ℕ) → Some r zone → Every r zone
  pub short : (r : Record) (zone : List ℕ) → Every r zone → length zone ≤ longest
  pub in_range : (r : Record) (zone : List ℕ) → Some r zone → InRange r zone

-- no text of at most 65,536 bytes passes the size limit
pub within_limit_lem : (s : Stamp) (format : List ℕ) → length_at s format ≤ longest_buffer → length_at s format ≤ limit_of (length format)
within_limit_lem s [] h = unfold read ending events length_of in omega arith
within_limit_lem s (b ∷ format) h = omega arith

module _ {longest : ℕ} {Every Some : Stamps} (sets : Sets longest Every Some) (format : List ℕ) (kept : Kept format longest) where
  -- a record of Every runs as its events
  pub every_runs : (r : Record) (zone : List ℕ) → Every r zone → (room : ℕ) → room ≤ longest_buffer →
      formatted format zone r room ≡ run (limit_of (length format)) room (events (events_of r zone) (items format))
  every_runs r zone h room b = runs format zone r room kept.format_short (omega (arith, sets.short r zone h, kept.zone_short)) b

  module _ (no-fault : fault (items format) ≡ 0) where
    pub member_holds : (s : Stamp) → Some s.time s.zone → Holds (events (events_of s.time s.zone) (items format))
    member_holds s h = in_range_holds s.time s.zone (sets.in_range s.time s.zone h) (items format) no-fault

    -- no check of a member fails
    pub member_unchecked : (s : Stamp) → Some s.time s.zone → (room number : ℕ) → room ≤ longest_buffer → formatted format s.zone s.time room ≡ refused number → ThreeOrFour number
    member_unchecked s h room number b e =
        run_unchecked (limit_of (length format)) room _ number (member_holds s h) (sym (every_runs s.time s.zone (sets.among _ _ h) room b) ∙ e)

    pub member_fits : (s : Stamp) → Some s.time s.zone → (room : ℕ) → room ≤ longest_buffer → length_at s format ≤ room → formatted format s.zone s.time room ≡ done (text_for format s.zone s.time)
    member_fits s h room b l =
        every_runs s.time s.zone (sets.among _ _ h) room b
        ∙ run_fits (limit_of (length format)) room _ (member_holds s h) l (within_limit_lem s format (omega arith))

    pub member_short : (s : Stamp) → Some s.time s.zone → (room : ℕ) → length_at s format ≤ longest_buffer → room < length_at s format → formatted format s.zone s.time room ≡ refused 4
    member_short s h room b l =
        every_runs s.time s.zone (sets.among _ _ h) room (omega arith)
        ∙ run_short (limit_of (length format)) room _ (member_holds s h) l (within_limit_lem s format b)
