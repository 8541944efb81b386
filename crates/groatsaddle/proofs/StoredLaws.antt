-- What crosses to a C caller of a compiled format: the length of a stored form, and of its text.
use mathlib.Core.Path.{◌≡◌, ap}
use mathlib.Core.List.{List}
use Prim.Native.Nat.{ℕ, ◌≤◌}
use native.Mathlib.Omega.{arith}
use borrow.Author.Tests.{leb-true}
use lib.ListN.{length}
use Rattle.rules.specs.declared.Record.{Record}
use Rattle.rules.specs.Record.{longest_buffer}
use Rattle.rules.specs.Event.{done, reported, Holds}
use Rattle.rules.specs.Format.{limit_of}
use Rattle.rules.specs.Stored.{compile_events, compiled, stored_events, formatted_stored}
use Rattle.rules.proofs.EventLaws.{length_text, run_done}
use Rattle.groatsaddle.proofs.Laws.{outcome_small}

form_small : (format : List ℕ) (room : ℕ) (s : List ℕ) → compiled format room ≡ done s → length s ≤ longest_buffer
unfolding compiled compile_events Holds
form_small format room s e =
    let d = run_done 0 room (compile_events format room) s e in
    omega (arith, leb-true room longest_buffer d.0.1.0, d.1, length_text (compile_events format room), ap length d.2)

pub compiled_small : (format : List ℕ) (room : ℕ) → (reported (compiled format room)).bytes ≤ longest_buffer
compiled_small format room = outcome_small (compiled format room) (form_small format room)

text_small : (s : List ℕ) (n : ℕ) (zone : List ℕ) (r : Record) (room : ℕ) (text : List ℕ) → formatted_stored s n zone r room ≡ done text → length text ≤ longest_buffer
unfolding formatted_stored stored_events Holds
text_small s n zone r room text e =
    let d = run_done (limit_of n) room (stored_events s n zone r room) text e in
    omega (arith, leb-true room longest_buffer d.0.1.1.0, d.1, length_text (stored_events s n zone r room), ap length d.2)

pub stored_small : (s : List ℕ) (n : ℕ) (zone : List ℕ) (r : Record) (room : ℕ) → (reported (formatted_stored s n zone r room)).bytes ≤ longest_buffer
stored_small s n zone r room = outcome_small (formatted_stored s n zone r room) (text_small s n zone r room)
