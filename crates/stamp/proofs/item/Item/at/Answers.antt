-- `Item::at`: a plain byte, or what reading finds behind a percent sign, which lies within the format.
use Rattle.std.proofs.Common.{◌≡◌, ◌+◌, ◌≤◌, ◌<◌, ℕ, List, length, drop, get_or, Bool, false, refl, sym, arith}
use borrow.Author.Tests.{eq-eqb, ne_eqb}
use Rattle.rules.specs.declared.Reading.TheVariants.{InFlags}
use Rattle.rules.specs.declared.Parsed.{Parsed}
use Rattle.rules.specs.declared.Parsed.TheVariants.{Directive, Echo, Cut}
use Rattle.rules.specs.Reading.{outset}
use Rattle.rules.specs.Format.{parse_from}
use Rattle.reading.proofs.Positions.{Stands as Parses, items_at}
use Rattle.stamp.specs.Items.{item_by, item_at}
use Rattle.stamp.proofs.item.Item.at.Goals as goal
use Rattle.stamp.proofs.item.Item.at.Goals.{Joined-format-at-eq37, then-format-at-eq37+in-Directive, then-format-at-eq37+in-Echo, then-format-at-eq37+in-Cut, else-format-at-eq37}

-- where the item that begins at a position ends, and whether it is an echo
record Ends (format : List ℕ) (at : ℕ) (item : ℕ × Bool) : Type 0 where
  right : item ≡ item_at format at
  onward : at < item.0
  within : item.0 ≤ length format

module _ (format : List ℕ) (at : ℕ) (h : at < length format) where
  plain : (get_or format at 0 ≡ 37 → ⊥) → Ends format at (at + 1, false)
  unfolding item_at
  plain e = record { right = simp (ne_eqb _ _ e); onward = omega arith; within = omega arith }

  marked : get_or format at 0 ≡ 37 → (x : Parsed) → x ≡ parse_from (InFlags outset) (at + 1) (drop (at + 1) format) → Ends format at (item_by (length format) x)
  unfolding item_at
  marked e x k = go x (simp (eq-eqb _ _ e, sym k)) ((items_at format at).percent h e x (sym k))
    where
      go : (x : Parsed) → item_by (length format) x ≡ item_at format at → Parses format at x → Ends format at (item_by (length format) x)
      go (Directive p next) right part = record { right = right; onward = part.onward; within = part.within }
      go (Echo next) right part = record { right = right; onward = part.onward; within = part.within }
      go Cut right last = record { right = right; onward = h; within = omega arith }

ends : (c : Joined-format-at-eq37) → Ends c.args.format.now c.args.at c.if-format-at-eq37.end
ends c =
    elim c.if-format-at-eq37.branch [
      | then-format-at-eq37+in-Directive w ↦ rw w.end-is (marked _ _ c.requires w.if-format-at-eq37.true _ w.in-Directive.ensures)
      | then-format-at-eq37+in-Echo w ↦ rw w.end-is (marked _ _ c.requires w.if-format-at-eq37.true _ w.in-Echo.ensures)
      | then-format-at-eq37+in-Cut w ↦ rw w.end-is (marked _ _ c.requires w.if-format-at-eq37.true _ w.in-Cut.ensures)
      | else-format-at-eq37 w ↦ rw w.end-is (plain _ _ c.requires w.if-format-at-eq37.false)
    ]

pub invariant_of-result : goal.invariant_of-result
invariant_of-result c = let ends = ends c in record { within = (ends.onward, ends.within) }

pub returns : goal.returns
returns c = record { right = (ends (goal.at.returns c).Joined-format-at-eq37).right; start = refl; text = refl }
