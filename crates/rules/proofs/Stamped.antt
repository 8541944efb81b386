-- A directive of a stamp that is done: its fields passed their check, and its text stands between that of the items before and that of those after.
use mathlib.Core.Path.{◌≡◌, ap, ◌∙◌}
use mathlib.Core.Bool.{true}
use mathlib.Core.List.{List, ◌∷◌, ◌++◌, map}
use Prim.Native.Nat.{ℕ}
use lib.ListN.{length}
use Rattle.rules.specs.declared.Record.{Record}
use Rattle.rules.specs.declared.Spec.{Spec}
use Rattle.rules.specs.declared.Piece.{Piece}
use Rattle.rules.specs.Record.{all_ok}
use Rattle.rules.specs.Event.{Event, write, judged, text_of, done, Holds}
use Rattle.rules.specs.Writing.{fields_of, lead_of, body_of, verdict_of, spec_events, events_of}
use Rattle.rules.specs.Format.{Item, directive, items, item_events, events, limit_of, format_events, formatted}
use Rattle.rules.proofs.EventLaws.{text_join, holds_split, run_done}
use Rattle.rules.proofs.FormatLaws.{passes}
use Rattle.rules.proofs.Resume.{events_join}

module _ (format zone text : List ℕ) (r : Record) (room : ℕ) (stamp : formatted format zone r room ≡ done text)
    (before after : List Item) (p : Piece) (found : items format ≡ before ++ (directive p ∷ after)) (s : Spec) (prints : p.spec ≡ s) where
  abbrev es : List Item → List Event
  es = events (events_of r zone)

  all_events_lem : es (items format) ≡ es before ++ (spec_events s p r zone ++ es after)
  unfolding events item_events events_of
  all_events_lem =
      ap es found ∙ events_join (events_of r zone) before (directive p ∷ after) ∙ ap (λ (s : Spec). es before ++ (spec_events s p r zone ++ es after)) prints

  run_is : Holds (es (items format)) × (text ≡ text_of (es (items format)))
  unfolding formatted format_events Holds text_of
  run_is = let d = run_done (limit_of (length format)) room (format_events format zone r room) text stamp in (d.0.1.1.1, d.2)

  pub passed_check : all_ok (fields_of s) r zone ≡ true
  unfolding spec_events Holds verdict_of
  passed_check =
      let h : Holds (spec_events s p r zone ++ es after) = (holds_split (es before) _ (rw all_events_lem at run_is.0)).1 in
      let k : Holds (judged (verdict_of s r zone) ∷ map write (body_of s p r zone)) = (holds_split (map write (lead_of s p r.year)) _ (holds_split (spec_events s p r zone) (es after) h).0).1 in
      passes (all_ok (fields_of s) r zone) k.0

  pub printed : text ≡ text_of (es before) ++ (text_of (spec_events s p r zone) ++ text_of (es after))
  printed =
      run_is.1 ∙ ap text_of all_events_lem ∙ text_join (es before) (spec_events s p r zone ++ es after)
      ∙ ap (λ (t : List ℕ). text_of (es before) ++ t) (text_join (spec_events s p r zone) (es after))
