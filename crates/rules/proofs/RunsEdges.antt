-- Runs at the edges, by computing the rules: each row a total, calls and a room, and what is then said and stands in a buffer of dots.
use mathlib.Core.Path.{◌≡◌, refl}
use mathlib.Core.Bool.{false}
use mathlib.Core.List.{List, [], ◌∷◌, map, flatten}
use Prim.Native.Nat.{ℕ}
use lib.IntN.{pos}
use lib.ListN.{replicate}
use Rattle.rules.specs.declared.Record.{Record}
use Rattle.rules.specs.Ascii.{byte, ascii}
use Rattle.rules.specs.Refusal.{number_of, refusal_at}
use Rattle.rules.specs.Event.{bytes_of, text_of, reach_of, number_in, room_for, write_at, one, tally}
use Rattle.rules.specs.Decimal.{digits_within, digits, places, decimal_text, filled}
use Rattle.rules.specs.Offset.{extra, form_of, length_of_form, parts_of, sign_and_pad, offset_writes}
use Rattle.rules.specs.Record.{record_of, zone_ok, ok_field, all_ok}
use Rattle.rules.specs.Reading.{on_flag, possible_specs, look_up, on_letter, on_colons, member, modified, turn, open?}
use Rattle.rules.specs.Writing.{value_of, default_width, fill_of, number_writes, name_writes, zone_writes, combination_length, combination_text, number_fields, combination_fields, fields_of, lead_of, body_of, verdict, verdict_of, spec_events, events_of}
use Rattle.rules.specs.Format.{step, ending, read, settled, after, item_events, events}
use Rattle.rules.specs.Runs.{Call, bring, close, Said, more, ended, started, checks, found, rest, added, called, written, store_after, said_in, Held, begun, held_after, held_all}

pub record Row : Type 0 where
  pub total : ℕ
  pub calls : List Call
  pub room : ℕ
  pub says : Said
  pub buffer : List ℕ

-- year 2000, a thirteenth month, its first day
abbrev time : Record
time = record_of (pos 2000) 13 1 0 0 0 0 0 1 (pos 0) false (pos 0)

-- what is held after the calls, with a store of 128 bytes
abbrev after_calls : ℕ → List Call → ℕ → Held
after_calls total calls room = held_all [] time (begun total [] (replicate 128 0) (replicate room (byte "."))) calls

abbrev ran : Row → Row
ran r =
    record {
      total = r.total;
      calls = r.calls;
      room = r.room;
      says = said_in (after_calls r.total r.calls r.room).numbers;
      buffer = (after_calls r.total r.calls r.room).buffer;
    }

abbrev row : ℕ → List Call → ℕ → Said → List ℕ → Row
row total calls room says buffer = record { total = total; calls = calls; room = room; says = says; buffer = buffer }

abbrev done : ℕ → Said
done n = ended (record { number = 0; bytes = n })

abbrev refused : ℕ → Said
refused number = ended (record { number = number; bytes = 0 })

abbrev zeros : ℕ → List ℕ
zeros n = replicate n (byte "0")

unfoldable pub rows : List Row
rows =
    -- nothing at all; a run of no bytes is always in order
    row 0 (close ∷ []) 0 (done 0) []
    ∷ row 1 (bring (ascii "a") ∷ bring [] ∷ []) 4 more (ascii "a...")
    -- output starts early: a directive with its last byte, an echo with the byte that closes it
    ∷ row 9 (bring (ascii "%") ∷ bring (ascii "Y") ∷ []) 6 more (ascii "2000..")
    ∷ row 9 (bring (ascii "%") ∷ bring (ascii "Q") ∷ []) 4 more (ascii "%Q..")
    ∷ row 9 (bring (ascii "%E") ∷ bring (ascii "a") ∷ []) 4 more (ascii "%Ea.")
    -- an echo that could go on waits for the end
    ∷ row 2 (bring (ascii "%") ∷ bring (ascii ":") ∷ []) 4 more (ascii "....")
    ∷ row 2 (bring (ascii "%") ∷ bring (ascii ":") ∷ close ∷ []) 4 (done 2) (ascii "%:..")
    ∷ row 3 (bring (ascii "%") ∷ bring (ascii ":") ∷ bring (ascii "z") ∷ close ∷ []) 7 (done 6) (ascii "+00:00.")
    -- a directive that waits with more than 32 bytes, and with more than 64: its width is the last of them
    ∷ row 34 (bring (byte "%" ∷ zeros 31) ∷ bring (ascii "5") ∷ bring (ascii "d") ∷ close ∷ []) 6 (done 5) (ascii "00001.")
    ∷ row 66 (bring (byte "%" ∷ zeros 31) ∷ bring (zeros 32) ∷ bring (ascii "5") ∷ bring (ascii "d") ∷ close ∷ []) 6 (done 5) (ascii "00001.")
    -- too many bytes: nothing of the run is read; too few: 10 before 2; then 2
    ∷ row 2 (bring (ascii "ab") ∷ bring (ascii "c") ∷ []) 4 (refused 10) (ascii "ab..")
    ∷ row 2 (bring (ascii "abc") ∷ []) 4 (refused 10) (ascii "....")
    ∷ row 3 (bring (ascii "a%") ∷ close ∷ []) 4 (refused 10) (ascii "a...")
    ∷ row 2 (bring (ascii "a%") ∷ close ∷ []) 4 (refused 2) (ascii "a...")
    -- a run of 33 bytes is 5, before 10; a total above 4,096 is 5; a store that can't hold the format is 4
    ∷ row 2 (bring (zeros 33) ∷ []) 4 (refused 5) (ascii "....")
    ∷ row 4097 (bring (ascii "a") ∷ []) 4 (refused 5) (ascii "....")
    ∷ row 129 (bring (ascii "a") ∷ []) 4 (refused 4) (ascii "....")
    -- no room: the buffer is full
    ∷ row 5 (bring (ascii "ab") ∷ bring (ascii "cde") ∷ []) 3 (refused 4) (ascii "abc")
    -- a directive's own earlier bytes stay: the blanks before the check of `D`
    ∷ row 5 (bring (ascii "a%1") ∷ bring (ascii "0D") ∷ []) 4 (refused 1) (ascii "a  .")
    -- later calls repeat the answer, after a refusal and after the end
    ∷ row 2 (bring (ascii "%m") ∷ bring (ascii "x") ∷ close ∷ []) 4 (refused 1) (ascii "....")
    ∷ row 2 (bring (ascii "abc") ∷ bring (ascii "ab") ∷ close ∷ []) 4 (refused 10) (ascii "....")
    ∷ row 1 (bring (ascii "a") ∷ close ∷ bring (zeros 33) ∷ []) 4 (done 1) (ascii "a...")
    ∷ row 1 (bring (ascii "a") ∷ close ∷ close ∷ []) 4 (done 1) (ascii "a...")
    ∷ []

pub runs_edges_hold : map ran rows ≡ rows
unfolding rows started checks found rest added called written store_after held_after held_all reach_of number_in number_of refusal_at
    tally one write_at room_for text_of bytes_of events item_events read ending settled after step turn open?
    on_flag on_letter on_colons look_up possible_specs member modified events_of spec_events verdict_of verdict lead_of body_of fields_of number_fields combination_fields all_ok ok_field zone_ok
    value_of default_width fill_of number_writes filled decimal_text digits digits_within combination_length combination_text flatten
    offset_writes sign_and_pad parts_of length_of_form form_of extra places zone_writes name_writes
runs_edges_hold = refl

-- the size limit is the total's, whatever has arrived: a pad of 9,999,998 bytes is 3 in a format of 9 bytes, and in one of 20 it has no room
abbrev wide : ℕ → Said
wide total = said_in (after_calls total (bring (ascii "%9999999n") ∷ []) 4).numbers

pub limit_of_total : (wide 9 ≡ refused 3) × (wide 20 ≡ refused 4)
unfolding started checks found rest added called held_after held_all reach_of number_in number_of refusal_at
    tally one write_at room_for events item_events settled after step turn on_flag on_letter look_up possible_specs
    events_of spec_events verdict_of verdict lead_of body_of fields_of all_ok name_writes
limit_of_total = (refl, refl)
