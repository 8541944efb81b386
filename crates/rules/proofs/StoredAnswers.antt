-- The stored form, run, is the direct engine: `stored_answer`.
use mathlib.Core.Path.{◌≡◌, refl, sym, ap, ◌∙◌}
use mathlib.Core.Bool.{Bool, true, false}
use mathlib.Core.List.{List, [], ◌∷◌, ◌++◌, append_assoc}
use mathlib.Core.Logic.{◌≢◌}
use Prim.Native.Nat.{ℕ, ◌≤◌, ◌<◌}
use native.Mathlib.Omega.{arith}
use lib.Dec.{leb}
use lib.ListN.{length}
use borrow.Author.Tests.{le-leb, lt-leb}
use Rattle.rules.specs.declared.Record.{Record}
use Rattle.rules.specs.declared.Piece.{Piece}
use Rattle.rules.specs.declared.Spec.{Spec}
use Rattle.rules.specs.declared.Spec.TheVariants.{Number as number, Name as name, Fraction as fraction, Offset as offset, TimeZoneName, Fixed as fixed, Combination as combination}
use Rattle.rules.specs.Record.{longest_format, longest_zone, longest_buffer}
use Rattle.rules.specs.Refusal.{ByEvent, invalid_time, invalid_format_string, formatted_string_too_large, write_zero}
use Rattle.rules.specs.Event.{put, Event, write, check, bytes_of, text_of, Count, at, no, one, tally, outcome_of, refused, run}
use Rattle.rules.specs.Writing.{name_writes, zone_writes, lead_of, body_of, spec_events, events_of}
use Rattle.rules.specs.Format.{Item, literal, echo, directive, cut, fault, items, item_events, events, limit_of, format_events, formatted}
use Rattle.rules.specs.Stored.{Part, text, piece, unskipped, join_text, parts, part_events, stored, loaded, well_stored, stored_events, formatted_stored}
use Rattle.rules.proofs.EventLaws.{tally_join, tally_no, pass_first, stop_first, text_join, join_counts}
use Rattle.rules.proofs.FormatLaws.{Numbered, CountOk, numbered_join, numbered_piece, tally_ok}
use Rattle.rules.proofs.StoredLoading.{loaded_stored, well_stored_lem}
use Rattle.rules.proofs.StoredGiven.{storable}

-- a skipped `E` or `O` writes nothing and checks nothing
pub blind : (r : Record) (zone : List ℕ) (p : Piece) → events_of r zone (unskipped p) ≡ events_of r zone p
unfolding events_of spec_events lead_of body_of name_writes zone_writes
blind r zone p = by p.spec
  where
    zones : (z : List ℕ) → zone_writes (unskipped p) z ≡ zone_writes p z
    zones [] = refl
    zones (b ∷ z) = refl

    by : (s : Spec) → spec_events s (unskipped p) r zone ≡ spec_events s p r zone
    by (number n) = refl
    by (name n) = refl
    by (fraction f) = refl
    by (offset o) = refl
    by TimeZoneName = rw (zones zone)
    by (fixed f) = refl
    by (combination c) = refl

module _ (D : Piece → List Event) (blind : (p : Piece) → D (unskipped p) ≡ D p) where
  join_tally : (limit room : ℕ) (bytes : List ℕ) (ps : List Part) (c : Count) → tally limit room (part_events D (join_text bytes ps)) c ≡ tally limit room (write (put bytes) ∷ part_events D ps) c
  unfolding part_events
  join_tally limit room bytes [] c = refl
  join_tally limit room bytes (text more ∷ ps) c = sym (join_counts limit room bytes more (part_events D ps) c)
  join_tally limit room bytes (piece p ∷ ps) c = refl

  join_text_lem : (bytes : List ℕ) (ps : List Part) → text_of (part_events D (join_text bytes ps)) ≡ bytes ++ text_of (part_events D ps)
  unfolding part_events text_of bytes_of
  join_text_lem bytes [] = refl
  join_text_lem bytes (text more ∷ ps) = append_assoc bytes more (text_of (part_events D ps))
  join_text_lem bytes (piece p ∷ ps) = refl

  pub parts_tally : (limit room : ℕ) (is : List Item) (c : Count) → fault is ≡ 0 → tally limit room (part_events D (parts is)) c ≡ tally limit room (events D is) c
  unfolding parts part_events events item_events fault tally
  parts_tally limit room [] c h = refl
  parts_tally limit room (literal b ∷ is) c h = join_tally limit room (b ∷ []) (parts is) c ∙ parts_tally limit room is (one limit room (write (put (b ∷ []))) c) h
  parts_tally limit room (echo bytes ∷ is) c h = join_tally limit room bytes (parts is) c ∙ parts_tally limit room is (one limit room (write (put bytes)) c) h
  parts_tally limit room (directive p ∷ is) c h =
      rw (blind p) (tally_join limit room (D p) (part_events D (parts is)) c ∙ parts_tally limit room is (tally limit room (D p) c) h ∙ sym (tally_join limit room (D p) (events D is) c))
  parts_tally limit room (cut ∷ is) c h = absurd (omega arith)

  pub parts_text_lem : (is : List Item) → text_of (part_events D (parts is)) ≡ text_of (events D is)
  unfolding parts part_events events item_events text_of bytes_of
  parts_text_lem [] = refl
  parts_text_lem (literal b ∷ is) = join_text_lem (b ∷ []) (parts is) ∙ ap (λ (t : List ℕ). b ∷ t) (parts_text_lem is)
  parts_text_lem (echo bytes ∷ is) = join_text_lem bytes (parts is) ∙ ap (λ (t : List ℕ). bytes ++ t) (parts_text_lem is)
  parts_text_lem (directive p ∷ is) = rw (blind p) (text_join (D p) (part_events D (parts is)) ∙ ap (λ (t : List ℕ). text_of (D p) ++ t) (parts_text_lem is) ∙ sym (text_join (D p) (events D is)))
  parts_text_lem (cut ∷ is) = parts_text_lem is

-- every check has a number that an event gives
pub numbered_parts : (Given : ℕ → Type 0) → ((number : ℕ) → ByEvent number → number ≢ 4 → Given number) → (r : Record) (zone : List ℕ) (ps : List Part) → Numbered Given (part_events (events_of r zone) ps)
unfolding part_events Numbered
numbered_parts Given every r zone [] = tt
numbered_parts Given every r zone (text bytes ∷ ps) = numbered_parts Given every r zone ps
numbered_parts Given every r zone (piece p ∷ ps) =
    numbered_join Given every (events_of r zone p) (part_events (events_of r zone) ps) (numbered_piece Given every r zone p) (numbered_parts Given every r zone ps)

pub never_11 : (limit room : ℕ) (r : Record) (zone : List ℕ) (ps : List Part) → run limit room (part_events (events_of r zone) ps) ≡ refused 11 → ⊥
unfolding run
never_11 limit room r zone ps = go (tally limit room es (at 0)) (tally_ok ByEvent (λ number b. b) limit room es (at 0) (numbered_parts ByEvent (λ number b other. b) r zone ps) tt)
  where
    es : List Event
    es = part_events (events_of r zone) ps

    none : {number : ℕ} → ByEvent number → number ≡ 11 → ⊥
    none invalid_time e = omega arith
    none invalid_format_string e = omega arith
    none formatted_string_too_large e = omega arith
    none write_zero e = omega arith

    go : (c : Count) → CountOk ByEvent c → outcome_of c (text_of es) ≡ refused 11 → ⊥
    go (at n) k e = let z : ◌≡◌ {A = ℕ} 0 1 = cc in omega arith
    go (no refusal n) k e = none k (cc)

-- ## The outcome of stored bytes, for each way through the entry

module _ (s : List ℕ) (n : ℕ) (zone : List ℕ) (r : Record) (room : ℕ) where
  pub length_too_long : longest_format < n → formatted_stored s n zone r room ≡ refused 5
  unfolding formatted_stored stored_events run
  length_too_long f = rw (lt-leb n longest_format f, stop_first)

  pub stored_zone_too_long : n ≤ longest_format → longest_zone < length zone → formatted_stored s n zone r room ≡ refused 5
  unfolding formatted_stored stored_events run
  stored_zone_too_long f z = rw (le-leb n longest_format f, lt-leb (length zone) longest_zone z, pass_first, stop_first)

  pub stored_buffer_too_long : n ≤ longest_format → length zone ≤ longest_zone → longest_buffer < room → formatted_stored s n zone r room ≡ refused 5
  unfolding formatted_stored stored_events run
  stored_buffer_too_long f z b = rw (le-leb n longest_format f, le-leb (length zone) longest_zone z, lt-leb room longest_buffer b, pass_first, pass_first, stop_first)

  module _ (f : n ≤ longest_format) (z : length zone ≤ longest_zone) (b : room ≤ longest_buffer) where
    pub bad_stored : well_stored s ≡ false → formatted_stored s n zone r room ≡ refused 11
    unfolding formatted_stored stored_events run
    bad_stored w = rw (le-leb n longest_format f, le-leb (length zone) longest_zone z, le-leb room longest_buffer b, w, pass_first, pass_first, pass_first, stop_first)

    pub stored_runs : well_stored s ≡ true → formatted_stored s n zone r room ≡ run (limit_of n) room (part_events (events_of r zone) (loaded s))
    unfolding formatted_stored stored_events run text_of
    stored_runs w = rw (le-leb n longest_format f, le-leb (length zone) longest_zone z, le-leb room longest_buffer b, w, pass_first, pass_first, pass_first, pass_first)

-- ## The stored run is the direct one

-- the events of two outcomes: checks in front that are alike
same_front : (limit room : ℕ) (zone : List ℕ) (es fs : List Event) → ((c : Count) → tally limit room es c ≡ tally limit room fs c) → text_of es ≡ text_of fs →
    run limit room (check true 5 ∷ check (leb (length zone) longest_zone) 5 ∷ check (leb room longest_buffer) 5 ∷ check true 11 ∷ es)
    ≡ run limit room (check true 5 ∷ check (leb (length zone) longest_zone) 5 ∷ check (leb room longest_buffer) 5 ∷ fs)
unfolding run text_of tally one
same_front limit room zone es fs f t = go (leb (length zone) longest_zone) (leb room longest_buffer)
  where
    go : (a b : Bool) →
        outcome_of (tally limit room (check true 5 ∷ check a 5 ∷ check b 5 ∷ check true 11 ∷ es) (at 0)) (text_of es)
        ≡ outcome_of (tally limit room (check true 5 ∷ check a 5 ∷ check b 5 ∷ fs) (at 0)) (text_of fs)
    go true true = rw (t, f (at 0))
    go true false = rw (tally_no limit room es 5 0, tally_no limit room fs 5 0)
    go false b = rw (tally_no limit room es 5 0, tally_no limit room fs 5 0)

-- for every format of at most 4,096 bytes that has no fault, every zone name, record and buffer: the stored form, run with the format's length,
-- is the format
pub stored_answer : (zone : List ℕ) (r : Record) (room : ℕ) (format : List ℕ) → length format ≤ longest_format → fault (items format) ≡ 0 →
    formatted_stored (stored (parts (items format))) (length format) zone r room ≡ formatted format zone r room
unfolding formatted_stored formatted stored_events format_events
stored_answer zone r room format h w =
    let ps = parts (items format) in
    let s = storable format h in
    let D = events_of r zone in
    rw (loaded_stored ps s, well_stored_lem ps s, le-leb (length format) longest_format h)
    (same_front (limit_of (length format)) room zone (part_events D ps) (events D (items format)) (λ c. parts_tally D (blind r zone) (limit_of (length format)) room (items format) c w) (parts_text_lem D (blind r zone) (items format)))
