-- What a directive's check comes to, and that every check of a format with no fault passes for a record in range.
use mathlib.Core.Path.{◌≡◌, refl}
use mathlib.Core.Bool.{Bool, true, false}
use mathlib.Core.List.{List, [], ◌∷◌, map}
use mathlib.Core.Logic.{◌⊎◌, inl, inr}
use Prim.Native.Nat.{ℕ, suc}
use native.Mathlib.Omega.{arith}
use Rattle.rules.specs.declared.Record.{Record}
use Rattle.rules.specs.declared.Spec.{Spec}
use Rattle.rules.specs.declared.Piece.{Piece}
use Rattle.rules.specs.Record.{all_ok, InRange}
use Rattle.rules.specs.Event.{put, write, judged, Holds}
use Rattle.rules.specs.Writing.{fields_of, lead_of, body_of, verdict, verdict_of, spec_events, events_of}
use Rattle.rules.specs.Format.{Item, literal, echo, directive, cut, item_events, events, fault}
use Rattle.rules.specs.Size.{Excused}
use Rattle.rules.proofs.EventLaws.{holds_join, holds_writes}
use Rattle.rules.proofs.RecordLaws.{Passed, passed, all_ok_lem}

module _ (r : Record) (zone : List ℕ) where
  -- it passes, and so does each field that it reads; or it fails with an excuse
  pub check_cases : (s : Spec) → ((verdict_of s r zone ≡ 0) × Passed (fields_of s) r zone) ⊎ ((n : ℕ) × (verdict_of s r zone ≡ suc n) × Excused (suc n))
  unfolding verdict_of verdict
  check_cases s = go (all_ok (fields_of s) r zone) (passed (fields_of s) r zone)
    where
      go : (in_range : Bool) → (in_range ≡ true → Passed (fields_of s) r zone) → ((verdict in_range ≡ 0) × Passed (fields_of s) r zone) ⊎ ((n : ℕ) × (verdict in_range ≡ suc n) × Excused (suc n))
      go true h = inl (refl, h refl)
      go false h = inr (0, refl, refl)

  module _ (h : InRange r zone) where
    pub check_passes : (s : Spec) → verdict_of s r zone ≡ 0
    unfolding verdict_of verdict
    check_passes s = rw (all_ok_lem r zone h (fields_of s))

    piece_holds : (p : Piece) → Holds (events_of r zone p)
    unfolding events_of spec_events
    piece_holds p =
        let k : Holds (judged (verdict_of p.spec r zone) ∷ map write (body_of p.spec p r zone)) =
        unfold Holds in (rw (check_passes p.spec), holds_writes (body_of p.spec p r zone)) in
        holds_join (map write (lead_of p.spec p r.year)) _ (holds_writes (lead_of p.spec p r.year)) k

    pub in_range_holds : (is : List Item) → fault is ≡ 0 → Holds (events (events_of r zone) is)
    unfolding events item_events fault
    in_range_holds [] e = unfold Holds in tt
    in_range_holds (literal b ∷ is) e = holds_join (write (put (b ∷ [])) ∷ []) _ (holds_writes (put (b ∷ []) ∷ [])) (in_range_holds is e)
    in_range_holds (echo text ∷ is) e = holds_join (write (put text) ∷ []) _ (holds_writes (put text ∷ [])) (in_range_holds is e)
    in_range_holds (directive p ∷ is) e = holds_join (events_of r zone p) _ (piece_holds p) (in_range_holds is e)
    in_range_holds (cut ∷ is) e = absurd (omega arith)
