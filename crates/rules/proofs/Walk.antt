-- A directive read at a position, and the items from there: what a walk over a whole format goes by.
use mathlib.Core.Path.{◌≡◌, refl, sym, ap, ◌∙◌}
use mathlib.Core.Bool.{Bool, true, false, cond}
use mathlib.Core.List.{List, [], ◌∷◌, ◌++◌, append_assoc, append-nil}
use Prim.Native.Nat.{ℕ, suc, ◌+◌, ◌-◌, ◌≤◌, ◌<◌}
use native.Mathlib.Omega.{arith}
use lib.ListN.{length, take, drop}
use lib.Seq.{drop-drop}
use Rattle.rules.specs.declared.Reading.{Reading}
use Rattle.rules.specs.declared.Turn.{Turn}
use Rattle.rules.specs.declared.Turn.TheVariants.{More, Found, Echoed, Unread}
use Rattle.rules.specs.declared.Parsed.{Parsed}
use Rattle.rules.specs.declared.Parsed.TheVariants.{Directive, Echo, Cut}
use Rattle.rules.specs.Reading.{turn, open?}
use Rattle.rules.specs.Format.{Item, echo, directive, cut, between, inside, step, on_turn, ending, read, parsed_by, parse_from}

-- where the reading of a directive ends that goes on at `at` with `left` bytes: a directive takes at least one, and none takes more
abbrev pub Ends : ℕ → ℕ → Parsed → Type 0
Ends at left (Directive p next) = (at < next) × (next ≤ at + left)
Ends at left (Echo next) = (at ≤ next) × (next ≤ at + left)
Ends at left Cut = Unit {0}

ends_more : (at left : ℕ) (x : Parsed) → Ends (at + 1) left x → Ends at (suc left) x
ends_more at left (Directive p next) h = (omega arith, omega arith)
ends_more at left (Echo next) h = (omega arith, omega arith)
ends_more at left Cut h = tt

pub parse_ends : (bytes : List ℕ) (r : Reading) (at : ℕ) → Ends at (length bytes) (parse_from r at bytes)
unfolding parse_from
parse_ends [] r at = go (open? r)
  where
    go : (b : Bool) → Ends at 0 (cond b Cut (Echo at))
    go true = tt
    go false = (omega arith, omega arith)
parse_ends (b ∷ bytes) r at = go (turn r b) (λ next. parse_ends bytes next (at + 1))
  where
    go : (t : Turn) → ((next : Reading) → Ends (at + 1) (length bytes) (parse_from next (at + 1) bytes)) → Ends at (suc (length bytes)) (parsed_by t at (λ next. parse_from next (at + 1) bytes))
    go (More next) rest = ends_more at (length bytes) (parse_from next (at + 1) bytes) (rest next)
    go (Found p) rest = (omega arith, omega arith)
    go Echoed rest = (omega arith, omega arith)
    go Unread rest = (omega arith, omega arith)

next_drop : (format : List ℕ) (at b : ℕ) (bytes : List ℕ) → drop at format ≡ b ∷ bytes → drop (at + 1) format ≡ bytes
next_drop format at b bytes e = sym (drop-drop 1 at format) ∙ ap (drop 1) e

module _ (format : List ℕ) where
  -- the items `is` of the bytes from `at` on, inside a directive whose text so far is `text`, by what is parsed there
  abbrev pub ItemsAre : ℕ → List ℕ → List ℕ → List Item → Parsed → Type 0
  ItemsAre at text bytes is (Directive p next) = is ≡ directive p ∷ read between (drop next format)
  ItemsAre at text bytes is (Echo next) = is ≡ echo (text ++ take (next - at) bytes) ∷ read between (drop next format)
  ItemsAre at text bytes is Cut = is ≡ cut ∷ []

  items_more : (at b : ℕ) (text bytes : List ℕ) (is : List Item) (x : Parsed) → Ends (at + 1) (length bytes) x → ItemsAre (at + 1) (text ++ (b ∷ [])) bytes is x → ItemsAre at text (b ∷ bytes) is x
  items_more at b text bytes is (Directive p next) e h = h
  items_more at b text bytes is (Echo next) e h =
      let k : next - at ≡ suc (next - (at + 1)) = omega arith in
      h ∙ rw (k, append_assoc)
  items_more at b text bytes is Cut e h = h

  pub parsed_items : (bytes : List ℕ) (r : Reading) (at : ℕ) (text : List ℕ) → drop at format ≡ bytes → ItemsAre at text bytes (read (inside r text) bytes) (parse_from r at bytes)
  unfolding parse_from read ending step
  parsed_items [] r at text e = go (open? r)
    where
      go : (b : Bool) → ItemsAre at text [] (cond b cut (echo text) ∷ []) (cond b Cut (Echo at))
      go true = refl
      go false =
          let k : at - at ≡ 0 = omega arith in
          rw (k, append-nil, e)
  parsed_items (b ∷ bytes) r at text e = go (turn r b) (λ next. parsed_items bytes next (at + 1) (text ++ (b ∷ [])) (next_drop format at b bytes e))
    where
      go : (t : Turn) → ((next : Reading) → ItemsAre (at + 1) (text ++ (b ∷ [])) bytes (read (inside next (text ++ (b ∷ []))) bytes) (parse_from next (at + 1) bytes)) →
          ItemsAre at text (b ∷ bytes) ((on_turn text b t).settles ++ read (on_turn text b t).to bytes) (parsed_by t at (λ next. parse_from next (at + 1) bytes))
      go (More next) rest =
          items_more at b text bytes (read (inside next (text ++ (b ∷ []))) bytes) (parse_from next (at + 1) bytes) (parse_ends bytes next (at + 1)) (rest next)
      go (Found p) rest = rw (next_drop format at b bytes e)
      go Echoed rest =
          let k : at + 1 - at ≡ 1 = omega arith in
          rw (k, next_drop format at b bytes e)
      go Unread rest =
          let k : at - at ≡ 0 = omega arith in
          rw (k, append-nil, e)
