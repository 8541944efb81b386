-- The outcome of compiling, for each way through the entry; and the format with the longest stored form of all.
use mathlib.Core.Path.{◌≡◌, refl, ap, ◌∙◌}
use mathlib.Core.List.{List, [], ◌∷◌, append-nil}
use Prim.Native.Nat.{ℕ, zero, suc, ◌+◌, ◌≤◌, ◌<◌}
use native.Mathlib.Omega.{arith}
use borrow.Author.Tests.{le-leb, lt-leb, ne_eqb}
use lib.ListN.{length}
use Rattle.rules.specs.Record.{longest_format, longest_buffer}
use Rattle.rules.specs.Event.{put, write, bytes_of, text_of, room_for, write_at, one, tally, done, refused, run}
use Rattle.rules.specs.Format.{items, fault, ending, read}
use Rattle.rules.specs.Stored.{parts, stored, compile_events, compiled}
use Rattle.rules.proofs.EventLaws.{pass_first, stop_first}
use Rattle.rules.proofs.StoredGiven.{years, years_read, longest_stored}

module _ (format : List ℕ) (room : ℕ) where
  pub compile_too_long : longest_format < length format → compiled format room ≡ refused 5
  unfolding compiled compile_events run
  compile_too_long f = rw (lt-leb (length format) longest_format f, stop_first)

  module _ (f : length format ≤ longest_format) where
    pub compile_buffer_too_long : longest_buffer < room → compiled format room ≡ refused 5
    unfolding compiled compile_events run
    compile_buffer_too_long b = rw (le-leb (length format) longest_format f, lt-leb room longest_buffer b, pass_first, stop_first)

    module _ (b : room ≤ longest_buffer) where
      -- whatever the room: 2 is answered "before 4"
      pub compile_fault : (fault (items format) ≡ 0 → ⊥) → compiled format room ≡ refused (fault (items format))
      unfolding compiled compile_events run
      compile_fault h =
          rw (le-leb (length format) longest_format f, le-leb room longest_buffer b, ne_eqb (fault (items format)) 0 h, pass_first, pass_first, stop_first)

      module _ (h : fault (items format) ≡ 0) where
        stores : compiled format room ≡ run 0 room (write (put (stored (parts (items format)))) ∷ [])
        unfolding compiled compile_events run text_of
        stores = rw (le-leb (length format) longest_format f, le-leb room longest_buffer b, h, pass_first, pass_first, pass_first)

        -- "too short a buffer for the stored form is 4, nothing written"
        pub compile_short : room < length (stored (parts (items format))) → compiled format room ≡ refused 4
        unfolding run tally one write_at room_for
        compile_short k = let q = lt-leb (0 + length (stored (parts (items format)))) room (omega arith) in rw (stores, q)

        pub compile_done : length (stored (parts (items format))) ≤ room → compiled format room ≡ done (stored (parts (items format)))
        unfolding run tally one write_at room_for text_of bytes_of
        compile_done k = let q = le-leb (0 + length (stored (parts (items format)))) room (omega arith) in stores ∙ rw (q, append-nil)

-- ## The longest

years_sound : (n : ℕ) → fault (items (years n)) ≡ 0
unfolding fault
years_sound zero = unfold years read ending in refl
years_sound (suc n) = ap fault (years_read n) ∙ years_sound n

-- `%Y` 2,048 times, a format of 4,096 bytes, is compiled to 22,534 bytes; no format to more (`stored_most`)
pub longest_compiled : (s : List ℕ) × ((compiled (years 2048) 22534 ≡ done s) × (length s ≡ 22534))
longest_compiled =
    (stored (parts (items (years 2048))), (compile_done (years 2048) 22534 (omega (arith, longest_stored.0)) (omega arith) (years_sound 2048) (omega (arith, longest_stored.1)), longest_stored.1))
