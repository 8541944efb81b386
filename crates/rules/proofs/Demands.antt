-- The tender's first two demands, of the outcome that the formatting entry promises.
use mathlib.Core.Path.{◌≡◌, refl, sym, ap, ◌∙◌}
use mathlib.Core.List.{List, [], ◌++◌}
use mathlib.Core.Logic.{◌⊎◌, inl, inr}
use Prim.Native.Nat.{ℕ, ◌+◌, ◌-◌, ◌≤◌}
use native.Mathlib.Omega.{arith}
use lib.Dec.{lit≤}
use lib.ListN.{length, drop, get_or, length-append, length-drop}
use lib.Seq.{get_or-append-add, get_or-drop}
use Rattle.rules.specs.declared.Record.{Record}
use Rattle.rules.specs.Record.{longest_zone, longest_buffer}
use Rattle.rules.specs.Refusal.{ByEvent}
use Rattle.rules.specs.Event.{Event, text_of, Count, at, no, tally, done, refused, outcome_of, run, reported, buffer_after}
use Rattle.rules.specs.Format.{items, read, ending, events, limit_of, format_events, formatted}
use Rattle.rules.proofs.FormatLaws.{runs, Numbered, numbered_items, CountOk, tally_ok}
use Rattle.rules.proofs.EventLaws.{length_text, run_done}

-- ## A text or a refusal of the table

-- 5, or one that an event gives
abbrev pub InTable : ℕ → Type 0
InTable number = ByEvent number ⊎ (number ≡ 5)

by_event : (number : ℕ) → ByEvent number → InTable number
by_event number g = inl g

numbered_format : (format zone : List ℕ) (r : Record) (room : ℕ) → Numbered InTable (format_events format zone r room)
unfolding format_events Numbered
numbered_format format zone r room =
    (λ e. inr refl, (λ e. inr refl, (λ e. inr refl, numbered_items InTable (λ number g h. by_event number g) r zone (items format))))

-- "Any format, record, zone name and buffer gets a length or one refusal from the table"
pub text_or_refusal : (format zone : List ℕ) (r : Record) (room : ℕ) →
    (formatted format zone r room ≡ done (text_of (format_events format zone r room)))
    ⊎ ((number : ℕ) × (InTable number × (formatted format zone r room ≡ refused number)))
unfolding formatted run
text_or_refusal format zone r room =
    go (tally limit room es (at 0)) (tally_ok InTable by_event limit room es (at 0) (numbered_format format zone r room) tt)
  where
    limit : ℕ
    limit = limit_of (length format)

    es : List Event
    es = format_events format zone r room

    go : (c : Count) → CountOk InTable c → (outcome_of c (text_of es) ≡ done (text_of es)) ⊎ ((number : ℕ) × (InTable number × (outcome_of c (text_of es) ≡ refused number)))
    go (at n) h = inl refl
    go (no number n) h = inr (number, (h, refl))

-- ## The buffer

-- "A refusal reports length 0 and changes no buffer byte"
pub refusal_changes_nothing : (number : ℕ) (buffer : List ℕ) → ((reported (refused number)).bytes ≡ 0) × (buffer_after (refused number) buffer ≡ buffer)
unfolding reported buffer_after
refusal_changes_nothing number buffer = (refl, refl)

-- a text fits the buffer
pub done_fits : (format zone : List ℕ) (r : Record) (room : ℕ) (text : List ℕ) → formatted format zone r room ≡ done text → length text ≤ room
unfolding formatted
done_fits format zone r room text e =
    let es = format_events format zone r room in
    let d = run_done (limit_of (length format)) room es text e in
    omega (arith, d.1, length_text es, ap length d.2)

-- "success changes only the bytes counted": the buffer keeps its length, and each byte from the count on
pub buffer_keeps_length : (text buffer : List ℕ) → length text ≤ length buffer → length (buffer_after (done text) buffer) ≡ length buffer
unfolding buffer_after
buffer_keeps_length text buffer h = simp (length-append, length-drop) (omega arith)

pub beyond_kept : (text buffer : List ℕ) (i : ℕ) → length text ≤ i → get_or (buffer_after (done text) buffer) i 0 ≡ get_or buffer i 0
unfolding buffer_after
beyond_kept text buffer i h =
    let e : i ≡ length text + (i - length text) = omega arith in
    ap (λ (k : ℕ). get_or (text ++ drop (length text) buffer) k 0) e
    ∙ get_or-append-add text (drop (length text) buffer) (i - length text) 0
    ∙ get_or-drop (length text) buffer (i - length text) 0
    ∙ ap (λ (k : ℕ). get_or buffer k 0) (sym e)

-- "An empty format gives done, length 0, whatever the record holds."
pub empty_format : (zone : List ℕ) (r : Record) (room : ℕ) → length zone ≤ longest_zone → room ≤ longest_buffer → formatted [] zone r room ≡ done []
unfolding run read ending events tally text_of
empty_format zone r room h g = runs [] zone r room (lit≤ tt) h g
