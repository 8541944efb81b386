-- What is parsed of the bytes behind a place, by positions that count from there or from the format's start.
use mathlib.Core.Path.{◌≡◌, refl, ap, ◌∙◌}
use mathlib.Core.Bool.{Bool, true, false, cond}
use mathlib.Core.List.{List, [], ◌∷◌}
use Prim.Native.Nat.{ℕ, ◌+◌, ◌-◌}
use native.Mathlib.Omega.{arith}
use lib.ListN.{length, drop, length-drop}
use Rattle.rules.specs.declared.Reading.{Reading}
use Rattle.rules.specs.declared.Reading.TheVariants.{InFlags}
use Rattle.rules.specs.declared.Turn.{Turn}
use Rattle.rules.specs.declared.Turn.TheVariants.{More, Found, Echoed, Unread}
use Rattle.rules.specs.declared.Parsed.{Parsed}
use Rattle.rules.specs.declared.Parsed.TheVariants.{Directive, Echo, Cut}
use Rattle.rules.specs.Reading.{outset, turn, open?}
use Rattle.rules.specs.Format.{parsed_by, parse_from}
use Rattle.rules.proofs.Walk.{Ends, parse_ends}

abbrev moved_by : ℕ → Parsed → Parsed
moved_by i (Directive p next) = Directive p (i + next)
moved_by i (Echo next) = Echo (i + next)
moved_by i Cut = Cut

parse_moved : (bytes : List ℕ) (r : Reading) (i at : ℕ) → moved_by i (parse_from r at bytes) ≡ parse_from r (i + at) bytes
unfolding parse_from
parse_moved [] r i at = go (open? r)
  where
    go : (t : Bool) → moved_by i (cond t Cut (Echo at)) ≡ cond t Cut (Echo (i + at))
    go true = refl
    go false = refl
parse_moved (b ∷ bytes) r i at = go (turn r b) (λ next. parse_moved bytes next i (at + 1))
  where
    one : i + (at + 1) ≡ i + at + 1
    one = omega arith

    go : (t : Turn) → ((next : Reading) → moved_by i (parse_from next (at + 1) bytes) ≡ parse_from next (i + (at + 1)) bytes) →
        moved_by i (parsed_by t at (λ next. parse_from next (at + 1) bytes)) ≡ parsed_by t (i + at) (λ next. parse_from next (i + at + 1) bytes)
    go (More next) rest = rest next ∙ ap (λ (k : ℕ). parse_from next k bytes) one
    go (Found p) rest = ap (Directive p) one
    go Echoed rest = ap Echo one
    go Unread rest = refl

module _ (format : List ℕ) (i : ℕ) (x : Parsed) (e : x ≡ parse_from (InFlags outset) 0 (drop i format)) where
  pub parsed_there : moved_by i x ≡ parse_from (InFlags outset) i (drop i format)
  parsed_there =
      let none : i + 0 ≡ i = omega arith in
      rw e (rw none at (parse_moved (drop i format) (InFlags outset) i 0))

  pub ends_there : Ends 0 (length format - i) x
  ends_there = rw (e, ← length-drop i format) (parse_ends (drop i format) (InFlags outset) 0)
