-- Too long; not well stored; or the stamp's answer, by its place.
use mathlib.Core.Path.{◌≡◌}
use mathlib.Core.List.{List}
use Prim.Native.Nat.{ℕ, ◌+◌, ◌≤◌}
use native.Mathlib.Omega.{arith}
use lib.ListN.{length, replicate}
use lib.Seq.{length-take-le}
use Rattle.rules.proofs.StoredAnswers.{length_too_long, stored_zone_too_long, stored_buffer_too_long}
use Rattle.text.proofs.PlaceLaws.{refused_yes, refused_no}
use Rattle.rules.proofs.Promised.{declined}
use Rattle.strftime.proofs.EntryOutcomes.{refused_there, done_there}
use Rattle.stored.proofs.Outcomes.{sound, unsound, unfit, runs_all, refusal_there}
use Rattle.stored.proofs.format_stored.Goals as goal

abbrev scratch : List ℕ
scratch = replicate 192 0

pub returns-then-format_length-gt-LONGEST_FORMAT : goal.returns-then-format_length-gt-LONGEST_FORMAT
returns-then-format_length-gt-LONGEST_FORMAT c =
    let w = declined c.args.buffer.now (length_too_long c.args.stored.now c.args.format_length c.args.zone.now c.args.record (length c.args.buffer.now) c.if-format_length-gt-LONGEST_FORMAT.true) in
    record { answer = w.0; buffer = w.1 }

pub returns-then-zone-gt-LONGEST_ZONE : goal.returns-then-zone-gt-LONGEST_ZONE
returns-then-zone-gt-LONGEST_ZONE c =
    let w = declined c.args.buffer.now (stored_zone_too_long c.args.stored.now c.args.format_length c.args.zone.now c.args.record (length c.args.buffer.now) c.if-format_length-gt-LONGEST_FORMAT.false c.if-zone-gt-LONGEST_ZONE.true) in
    record { answer = w.0; buffer = w.1 }

pub returns-then-room-gt-LONGEST_BUFFER : goal.returns-then-room-gt-LONGEST_BUFFER
returns-then-room-gt-LONGEST_BUFFER c =
    let w = declined c.args.buffer.now (stored_buffer_too_long c.args.stored.now c.args.format_length c.args.zone.now c.args.record (length c.args.buffer.now) c.if-format_length-gt-LONGEST_FORMAT.false c.if-zone-gt-LONGEST_ZONE.false c.if-room-gt-LONGEST_BUFFER.true) in
    record { answer = w.0; buffer = w.1 }

pub returns-in_default : goal.returns-in_default
returns-in_default c =
    let w = unfit c.args.stored.now c.args.format_length c.args.zone.now c.args.record (length c.args.buffer.now) c.if-format_length-gt-LONGEST_FORMAT.false c.if-zone-gt-LONGEST_ZONE.false c.if-room-gt-LONGEST_BUFFER.false c.args.buffer.now c.in_default.ensures in
    record { answer = w.0; buffer = w.1 }

pub returns-then-not-entries_taken : goal.returns-then-not-entries_taken
returns-then-not-entries_taken c =
    let place : c.entry_at.result ≡ 4 + c.in-Some.counts.literals = omega (arith, c.entry_at.ensures) in
    let first = rw place at c.entries_taken.ensures in
    let w = unfit c.args.stored.now c.args.format_length c.args.zone.now c.args.record (length c.args.buffer.now) c.if-format_length-gt-LONGEST_FORMAT.false c.if-zone-gt-LONGEST_ZONE.false c.if-room-gt-LONGEST_BUFFER.false c.args.buffer.now (unsound c.in-Some.ensures first c.if-not-entries_taken.true) in
    record { answer = w.0; buffer = w.1 }

pub stamp-end-requires : goal.stamp-end-requires
stamp-end-requires c =
    let part = c.part_of-part.result in
    let place : c.entry_at.result ≡ 4 + c.in-Some.counts.literals = omega (arith, c.entry_at.ensures) in
    let small : part ≤ 192 = omega (arith, c.part_of-part.ensures) in
    (record { within = omega (arith, c.part_of-part.ensures, length-take-le part scratch small); small = c.if-room-gt-LONGEST_BUFFER.false }, sound c.in-Some.ensures (rw place at c.entries_taken.ensures) c.if-not-entries_taken.false)

pub returns-then-is_refused : goal.returns-then-is_refused
returns-then-is_refused c =
    let h = refused_yes _ c.is_refused.ensures c.if-is_refused.true in
    let w = refused_there c.stamp-end.ensures (runs_all _ _ _ _ _ c.if-format_length-gt-LONGEST_FORMAT.false c.if-zone-gt-LONGEST_ZONE.false c.if-room-gt-LONGEST_BUFFER.false) c.refusal_of.result h (refusal_there _ _ _ c.stamp-end.ensures h c.number_at.ensures c.refusal_of.ensures) in
    record { answer = w.0; buffer = w.1 }

pub returns : goal.returns
returns c =
    let w = done_there c.stamp-end.ensures (runs_all _ _ _ _ _ c.if-format_length-gt-LONGEST_FORMAT.false c.if-zone-gt-LONGEST_ZONE.false c.if-room-gt-LONGEST_BUFFER.false) (refused_no _ c.is_refused.ensures c.if-is_refused.false) in
    record { answer = w.0; buffer = w.1 }
