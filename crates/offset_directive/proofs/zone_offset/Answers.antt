-- The parts are those of the offset; the quick way or the general way writes them.
use mathlib.Core.Path.{◌≡◌, ap, ◌∙◌}
use lib.IntN.{ℤ}
use mir.Syntax.{w32}
use mir.ValLaws.{to_z-of_z}
use Rattle.rules.specs.Offset.{form_of}
use Rattle.offset.specs.Parts.{parts_for}
use Rattle.offset_directive.specs.Form.{as_form}
use Rattle.offset_directive.proofs.WriteLaws.{in_form}
use Rattle.offset_directive.proofs.ShortLaws.{Short, short_is, below_hundred, short_run}
use Rattle.offset_directive.proofs.PartsLaws.{small_parts, place_is, form_is, of_offset}
use Rattle.offset_directive.proofs.zone_offset.Goals as goal
use Rattle.offset_directive.proofs.zone_offset.Goals.{After-form_of-form, After-offset_parts-parts, Then-is_short}

parts : (c : After-offset_parts-parts) → c.offset_parts-parts.result ≡ parts_for c.args.utc_offset c.args.is_utc c.args.left
parts c = c.offset_parts-parts.ensures ∙ ap (λ (z : ℤ). parts_for z c.args.is_utc c.args.left) (to_z-of_z w32 _ c.ranges.utc_offset)

told_form : (c : After-form_of-form) → as_form c.form_of-form.result ≡ form_of c.args.offset c.args.utc_offset
told_form c = form_is _ _ _ (c.offset_parts-parts.ensures ∙ ap (λ (z : ℤ). parts_for z c.args.is_utc c.args.left) (to_z-of_z w32 _ c.ranges.utc_offset)) _ c.form_of-form.ensures

short : (c : Then-is_short) → Short c.args.pad.width c.length.result c.args.pad.spaces c.offset_parts-parts.result.minus c.offset_parts-parts.result.hours
short c = short_is _ _ _ _ _ c.is_short.ensures c.if-is_short.true

pub write_short-requires : goal.write_short-requires
write_short-requires c = let small = small_parts _ _ _ (parts (goal.at.write_short-requires c).After-offset_parts-parts) in
    (c.requires, below_hundred (short (goal.at.write_short-requires c).Then-is_short), small.minutes, small.seconds)

pub returns-then-is_short : goal.returns-then-is_short
returns-then-is_short c =
    let e = parts (goal.at.returns-then-is_short c).After-offset_parts-parts in
    of_offset _ _ _ e _ _ _
    (in_form _ _ _ _ (told_form (goal.at.returns-then-is_short c).After-form_of-form)
    (short_run (as_form c.form_of-form.result) c.args.pad.width c.args.pad.spaces c.offset_parts-parts.result c.length.ensures.places (short (goal.at.returns-then-is_short c).Then-is_short) (place_is _ _ _ e) c.if-room-limit.true
    (c.write_short.ensures _)))

pub write_long-requires : goal.write_long-requires
write_long-requires c = (c.requires, small_parts _ _ _ (parts (goal.at.write_long-requires c).After-offset_parts-parts))

pub returns : goal.returns
returns c = of_offset _ _ _ (parts (goal.at.returns c).After-offset_parts-parts) _ _ _ (in_form _ _ _ _ (told_form (goal.at.returns c).After-form_of-form) c.write_long.ensures)
