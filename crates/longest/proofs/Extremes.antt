-- The greatest length, once for any set of records: two members that between them are above all others give its exact size.
use mathlib.Core.Path.{◌≡◌, sym, ◌∙◌}
use mathlib.Core.List.{List}
use mathlib.Core.Logic.{◌⊎◌, inl, inr}
use Prim.Native.Nat.{ℕ, ◌≤◌, ◌<◌}
use native.Mathlib.Omega.{arith}
use native.Mathlib.Decide.{dec_lt}
use lib.ListN.{length}
use Rattle.rules.specs.declared.Record.{Record}
use Rattle.rules.specs.declared.Piece.{Piece}
use Rattle.rules.specs.Record.{longest_buffer}
use Rattle.rules.specs.Writing.{events_of}
use Rattle.rules.specs.Format.{items, fault, limit_of}
use Rattle.rules.specs.Size.{Stamps, Excused, SizeIs, NoneServes, Kept}
use Rattle.rules.proofs.EventLaws.{run_done}
use Rattle.longest.specs.Witness.{Stamp, length_at, greater}
use Rattle.longest.proofs.Beside.{Beside, events_beside, run_beside}
use Rattle.longest.proofs.Measure.{extent_of}
use Rattle.longest.proofs.Growth.{Below, text_grows}
use Rattle.longest.proofs.Members.{Sets, every_runs, within_limit_lem, member_holds, member_fits, member_short}

pub record Extremes (Some : Stamps) (a b : Stamp) : Type 0 where
  pub a_in : Some a.time a.zone
  pub b_in : Some b.time b.zone
  pub below : (r : Record) (zone : List ℕ) → Some r zone → Below (extent_of r zone) (extent_of a.time a.zone) ⊎ Below (extent_of r zone) (extent_of b.time b.zone)

-- a member of Some whose events a record has, up to a check that fails with an excuse
pub record Twin (Some : Stamps) (r : Record) (zone : List ℕ) : Type 0 where
  pub twin : Stamp
  pub twin_in : Some twin.time twin.zone
  pub beside : (p : Piece) → Beside Excused (events_of r zone p) (events_of twin.time twin.zone p)

module _ {longest : ℕ} {Every Some : Stamps} (sets : Sets longest Every Some) (format : List ℕ) (kept : Kept format longest) (no-fault : fault (items format) ≡ 0) {a b : Stamp} (x : Extremes Some a b) where
  pub greatest : (s : Stamp) → Some s.time s.zone → length_at s format ≤ greater a b format
  unfolding greater
  greatest s h =
      let grows : (c : Stamp) → Some c.time c.zone → Below (extent_of s.time s.zone) (extent_of c.time c.zone) → length_at s format ≤ length_at c format =
      λ c k l. text_grows s.time c.time s.zone c.zone (sets.in_range _ _ h) (sets.in_range _ _ k) l (items format) in
      elim (x.below s.time s.zone h) [ inl l ↦ omega (arith, grows a x.a_in l) | inr l ↦ omega (arith, grows b x.b_in l) ]

  -- one of the two has the greatest length
  pub reached : (s : Stamp) × Some s.time s.zone × (length_at s format ≡ greater a b format)
  unfolding greater
  reached = elim (dec_lt (length_at a format) (length_at b format)) [ yes h ↦ (b, x.b_in, omega arith) | no h ↦ (a, x.a_in, omega arith) ]

  pub size_is_greater : ((r : Record) (zone : List ℕ) → Every r zone → Twin Some r zone) → greater a b format ≤ longest_buffer → SizeIs Every Some format (greater a b format)
  size_is_greater twins l =
      let m : (s : Stamp) × Some s.time s.zone × (length_at s format ≡ greater a b format) = reached in
      record {
        serves = λ r zone h.
            let t : Twin Some r zone = twins r zone h in
            let g : length_at t.twin format ≤ greater a b format = greatest t.twin t.twin_in in
            rw (every_runs sets format kept r zone h (greater a b format) l)
            (run_beside (limit_of (length format)) (greater a b format) (events_beside _ _ t.beside (items format)) (member_holds sets format kept no-fault t.twin t.twin_in) g
            (within_limit_lem t.twin format (omega arith)));
        one = m.0.time;
        one_zone = m.0.zone;
        one_in = m.1;
        one_fits = member_fits sets format kept no-fault m.0 m.1 (greater a b format) l (omega arith);
        one_needs = λ room h. member_short sets format kept no-fault m.0 m.1 room (omega arith) (omega arith);
      }

  pub none_serves_greater : longest_buffer < greater a b format → NoneServes Some format
  none_serves_greater l =
      let m : (s : Stamp) × Some s.time s.zone × (length_at s format ≡ greater a b format) = reached in
      record {
        one = m.0.time;
        one_zone = m.0.zone;
        one_in = m.1;
        fits_none = λ room h text e.
            let d = run_done (limit_of (length format)) room _ text (sym (every_runs sets format kept _ _ (sets.among _ _ m.1) room h) ∙ e) in
            absurd (omega arith);
      }
