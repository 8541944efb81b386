-- Too long; or the stamp's answer, by its place.
use mathlib.Core.Path.{sym}
use mathlib.Core.List.{List}
use Prim.Native.Nat.{ℕ, ◌≤◌}
use native.Mathlib.Omega.{arith}
use lib.ListN.{length, replicate}
use lib.Seq.{length-take-le}
use Rattle.rules.specs.Refusal.{ByEvent}
use Rattle.rules.proofs.FormatLaws.{runs, format_too_long, zone_too_long, buffer_too_long, numbered_items}
use Rattle.rules.proofs.Promised.{declined}
use Rattle.text.proofs.PlaceLaws.{refused_yes, refused_no}
use Rattle.strftime.proofs.EntryOutcomes.{refusal_known, refused_there, done_there}
use Rattle.strftime.proofs.format.Goals as goal

abbrev scratch : List ℕ
scratch = replicate 192 0

pub returns-then-format-gt-LONGEST_FORMAT : goal.returns-then-format-gt-LONGEST_FORMAT
returns-then-format-gt-LONGEST_FORMAT c =
    let b = c.args.buffer.now in
    let w = declined b (format_too_long c.args.format.now c.args.zone.now c.args.record (length b) c.if-format-gt-LONGEST_FORMAT.true) in
    record { answer = w.0; buffer = w.1 }

pub returns-then-zone-gt-LONGEST_ZONE : goal.returns-then-zone-gt-LONGEST_ZONE
returns-then-zone-gt-LONGEST_ZONE c =
    let b = c.args.buffer.now in
    let w = declined b (zone_too_long c.args.format.now c.args.zone.now c.args.record (length b) c.if-format-gt-LONGEST_FORMAT.false c.if-zone-gt-LONGEST_ZONE.true) in
    record { answer = w.0; buffer = w.1 }

pub returns-then-room-gt-LONGEST_BUFFER : goal.returns-then-room-gt-LONGEST_BUFFER
returns-then-room-gt-LONGEST_BUFFER c =
    let b = c.args.buffer.now in
    let w = declined b (buffer_too_long c.args.format.now c.args.zone.now c.args.record (length b) c.if-format-gt-LONGEST_FORMAT.false c.if-zone-gt-LONGEST_ZONE.false c.if-room-gt-LONGEST_BUFFER.true) in
    record { answer = w.0; buffer = w.1 }

pub slice_bounds-stamp-end : goal.slice_bounds-stamp-end
slice_bounds-stamp-end c = sym (length-take-le _ scratch (omega (arith, c.part_of-part.ensures)))

pub stamp-end-requires : goal.stamp-end-requires
stamp-end-requires c =
    let part = c.part_of-part.result in
    let small : part ≤ 192 = omega (arith, c.part_of-part.ensures) in
    record {
      format_fits = c.if-format-gt-LONGEST_FORMAT.false;
      scratch_fits = omega (arith, c.part_of-part.ensures, length-take-le part scratch small);
      buffer_fits = c.if-room-gt-LONGEST_BUFFER.false;
    }

pub refusal_at-requires : goal.refusal_at-requires
refusal_at-requires c = refusal_known c.stamp-end.ensures (numbered_items ByEvent (λ number g h. g) _ _ _) (refused_yes _ c.is_refused.ensures c.if-is_refused.true)

pub returns-then-is_refused : goal.returns-then-is_refused
returns-then-is_refused c =
    let w = refused_there c.stamp-end.ensures (runs _ _ _ _ c.if-format-gt-LONGEST_FORMAT.false c.if-zone-gt-LONGEST_ZONE.false c.if-room-gt-LONGEST_BUFFER.false) c.refusal_at.result (refused_yes _ c.is_refused.ensures c.if-is_refused.true) c.refusal_at.ensures in
    record { answer = w.0; buffer = w.1 }

pub returns : goal.returns
returns c =
    let w = done_there c.stamp-end.ensures (runs _ _ _ _ c.if-format-gt-LONGEST_FORMAT.false c.if-zone-gt-LONGEST_ZONE.false c.if-room-gt-LONGEST_BUFFER.false) (refused_no _ c.is_refused.ensures c.if-is_refused.false) in
    record { answer = w.0; buffer = w.1 }
