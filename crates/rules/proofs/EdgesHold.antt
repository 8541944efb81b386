-- P1 to P12 of 01's "Stamps at the edges", by computing the rules.
use mathlib.Core.Path.{◌≡◌, refl}
use mathlib.Core.List.{List, [], map, flatten}
use Rattle.rules.specs.Edges.{Edge, edges}
use Rattle.rules.specs.Event.{Outcome, bytes_of, text_of, room_for, write_at, one, tally, run}
use Rattle.rules.specs.Decimal.{digits_within, digits, places, decimal_text, filled}
use Rattle.rules.specs.Name.{month_names, month_name, upper, in_case}
use Rattle.rules.specs.Calendar.{is_leap, leap_day, days_in}
use Rattle.rules.specs.Week.{week_number, week_holding, iso_week}
use Rattle.rules.specs.Offset.{extra, form_of, length_of_form, parts_of, sign_and_pad, offset_writes}
use Rattle.rules.specs.Record.{zone_ok, ok_field, all_ok}
use Rattle.rules.specs.Reading.{on_flag, possible_specs, look_up, on_letter, on_colons, turn, open?}
use Rattle.rules.specs.Writing.{value_of, default_width, fill_of, number_writes, name_writes, zone_writes, combination_length, combination_text, number_fields, combination_fields, fields_of, lead_of, body_of, verdict, verdict_of, spec_events, events_of}
use Rattle.rules.specs.Format.{step, ending, read, item_events, events, format_events, formatted}

abbrev pub outcomes : List Edge → List Outcome
outcomes = map (λ (e : Edge). formatted e.format [] e.time 64)

pub edges_hold : outcomes edges ≡ map (λ (e : Edge). e.outcome) edges
unfolding edges formatted format_events run tally one write_at room_for text_of bytes_of events item_events read ending step turn open?
    on_flag on_letter on_colons look_up possible_specs events_of spec_events verdict_of verdict lead_of body_of fields_of number_fields combination_fields all_ok ok_field zone_ok
    value_of default_width fill_of number_writes filled decimal_text digits digits_within combination_length combination_text flatten month_name month_names
    in_case upper week_number iso_week week_holding days_in leap_day is_leap offset_writes sign_and_pad parts_of length_of_form form_of extra places zone_writes name_writes
edges_hold = refl
