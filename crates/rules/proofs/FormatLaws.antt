-- The outcome of a whole format: 5 in front, then the events of its items; and the numbers that a refusal can have.
use mathlib.Core.Path.{◌≡◌, refl}
use mathlib.Core.Bool.{Bool, true, false}
use mathlib.Core.List.{List, [], ◌∷◌, ◌++◌, map}
use mathlib.Core.Logic.{◌≢◌}
use Prim.Native.Nat.{ℕ, ◌≤◌, ◌<◌}
use borrow.Author.Tests.{le-leb, lt-leb}
use lib.Dec.{eqb}
use native.Mathlib.Omega.{arith}
use lib.ListN.{length}
use Rattle.rules.specs.declared.Record.{Record}
use Rattle.rules.specs.declared.Piece.{Piece}
use Rattle.rules.specs.Record.{longest_format, longest_zone, longest_buffer, all_ok}
use Rattle.rules.specs.Refusal.{ByEvent, invalid_time, invalid_format_string, formatted_string_too_large, write_zero}
use Rattle.rules.specs.Event.{Write, Event, write, check, text_of, Count, at, no, write_at, one, tally, refused, run}
use Rattle.rules.specs.Writing.{fields_of, lead_of, body_of, verdict, verdict_of, spec_events, events_of}
use Rattle.rules.specs.Format.{Item, literal, echo, directive, cut, items, item_events, events, limit_of, format_events, formatted}
use Rattle.rules.proofs.EventLaws.{write_cases, pass_first, stop_first}

-- ## The longest inputs

module _ (format zone : List ℕ) (r : Record) (room : ℕ) where
  pub runs : length format ≤ longest_format → length zone ≤ longest_zone → room ≤ longest_buffer →
      formatted format zone r room ≡ run (limit_of (length format)) room (events (events_of r zone) (items format))
  unfolding formatted format_events run text_of
  runs f z b =
      rw (le-leb (length format) longest_format f, le-leb (length zone) longest_zone z, le-leb room longest_buffer b, pass_first, pass_first, pass_first)

  pub format_too_long : longest_format < length format → formatted format zone r room ≡ refused 5
  unfolding formatted format_events run
  format_too_long f = rw (lt-leb (length format) longest_format f, stop_first)

  pub zone_too_long : length format ≤ longest_format → longest_zone < length zone → formatted format zone r room ≡ refused 5
  unfolding formatted format_events run
  zone_too_long f z = rw (le-leb (length format) longest_format f, lt-leb (length zone) longest_zone z, pass_first, stop_first)

  pub buffer_too_long : length format ≤ longest_format → length zone ≤ longest_zone → longest_buffer < room → formatted format zone r room ≡ refused 5
  unfolding formatted format_events run
  buffer_too_long f z b =
      rw (le-leb (length format) longest_format f, le-leb (length zone) longest_zone z, lt-leb room longest_buffer b, pass_first, pass_first, stop_first)

-- ## A check that passes, or fails with a number of the table

pub passes : (in_range : Bool) → eqb (verdict in_range) 0 ≡ true → in_range ≡ true
unfolding verdict
passes true e = refl
passes false e = e

module _ (Given : ℕ → Type 0) where
  unfoldable pub Numbered : List Event → Type 0
  Numbered [] = Unit {0}
  Numbered (write w ∷ es) = Numbered es
  Numbered (check ok number ∷ es) = (ok ≡ false → Given number) × Numbered es

  abbrev pub CountOk : Count → Type 0
  CountOk (at n) = Unit {0}
  CountOk (no number n) = Given number

pub never : {A : Type 0} → true ≡ false → A
never e = let z : ◌≡◌ {A = ℕ} 0 1 = cc in absurd (omega arith)

-- no check is 4
module _ (Given : ℕ → Type 0) (every : (number : ℕ) → ByEvent number → number ≢ 4 → Given number) where
  pub numbered_join : (xs ys : List Event) → Numbered Given xs → Numbered Given ys → Numbered Given (xs ++ ys)
  unfolding Numbered
  numbered_join [] ys h k = k
  numbered_join (write w ∷ xs) ys h k = numbered_join xs ys h k
  numbered_join (check ok number ∷ xs) ys h k = (h.0, numbered_join xs ys h.1 k)

  numbered_writes : (ws : List Write) → Numbered Given (map write ws)
  unfolding Numbered
  numbered_writes [] = tt
  numbered_writes (w ∷ ws) = numbered_writes ws

  verdict_given : (in_range : Bool) → eqb (verdict in_range) 0 ≡ false → Given (verdict in_range)
  unfolding verdict
  verdict_given true e = never e
  verdict_given false e = every 1 invalid_time (λ e. omega arith)

  pub numbered_piece : (r : Record) (zone : List ℕ) (p : Piece) → Numbered Given (events_of r zone p)
  unfolding events_of spec_events verdict_of Numbered
  numbered_piece r zone p =
      numbered_join (map write (lead_of p.spec p r.year)) _ (numbered_writes (lead_of p.spec p r.year))
      (verdict_given (all_ok (fields_of p.spec) r zone), numbered_writes (body_of p.spec p r zone))

  numbered_item : (r : Record) (zone : List ℕ) (i : Item) → Numbered Given (item_events (events_of r zone) i)
  unfolding item_events Numbered
  numbered_item r zone (literal b) = tt
  numbered_item r zone (echo text) = tt
  numbered_item r zone (directive p) = numbered_piece r zone p
  numbered_item r zone cut = (λ e. every 2 invalid_format_string (λ e. omega arith), tt)

  pub numbered_items : (r : Record) (zone : List ℕ) (is : List Item) → Numbered Given (events (events_of r zone) is)
  unfolding events Numbered
  numbered_items r zone [] = tt
  numbered_items r zone (i ∷ is) =
      numbered_join (item_events (events_of r zone) i) (events (events_of r zone) is) (numbered_item r zone i) (numbered_items r zone is)

-- so a refusal has one
module _ (Given : ℕ → Type 0) (every : (number : ℕ) → ByEvent number → Given number) where
  pub tally_ok : (limit room : ℕ) (es : List Event) (c : Count) → Numbered Given es → CountOk Given c → CountOk Given (tally limit room es c)
  unfolding tally one Numbered
  tally_ok limit room [] c h k = k
  tally_ok limit room (write w ∷ es) (at n) h k =
      tally_ok limit room es (write_at limit room w n) h
      (write_cases limit room (CountOk Given) w n (λ fit. tt) (λ short. every 4 write_zero) (λ far. every 3 formatted_string_too_large))
  tally_ok limit room (write w ∷ es) (no number n) h k = tally_ok limit room es (no number n) h k
  tally_ok limit room (check true number ∷ es) (at n) h k = tally_ok limit room es (at n) h.1 k
  tally_ok limit room (check false number ∷ es) (at n) h k = tally_ok limit room es (no number n) h.1 (h.0 refl)
  tally_ok limit room (check ok number ∷ es) (no number' n) h k = tally_ok limit room es (no number' n) h.1 k
