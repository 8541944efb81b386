-- What compiling answers: a refusal, or the stored form, of which all three sections were written behind their counts.
use Rattle.std.specs.Prelude.{Ok, Err}
use mathlib.Core.Path.{◌≡◌, sym, ap, ◌∙◌}
use mathlib.Core.List.{List, ◌∷◌, ◌++◌, append_assoc}
use Prim.Native.Nat.{ℕ, ◌+◌, ◌/◌, ◌≤◌, ◌<◌}
use native.Mathlib.Omega.{arith}
use lib.ListN.{length}
use Rattle.rules.specs.declared.Refusal.{Refusal}
use Rattle.rules.specs.declared.Refusal.TheVariants.{WriteZero}
use Rattle.rules.specs.Record.{longest_format, longest_buffer}
use Rattle.rules.specs.Refusal.{number_of, numbered}
use Rattle.rules.specs.Event.{put, Event, write, bytes_of, text_of, length_of, tally, done, refused, run, reported, Holds}
use Rattle.rules.specs.Format.{items, fault}
use Rattle.rules.specs.Stored.{Part, two_bytes, parts, literals_in, pieces_in, stored, compiled}
use Rattle.rules.proofs.EventLaws.{length_text, text_join, holds_join, tally_fits}
use Rattle.rules.proofs.OneAnswer.{number_some}
use Rattle.rules.proofs.Promised.{Promised, left_alone}
use Rattle.rules.proofs.StoredCompiled.{compile_fault, compile_short, compile_done}
use Rattle.rules.proofs.StoredLoading.{stored_length}
use Rattle.text.specs.Ran.{Ran}
use Rattle.text.proofs.PlaceLaws.{count_at_lem, same_place}
use Rattle.text.proofs.RanLaws.{◌then◌}
use Rattle.text.proofs.EntryLaws.{from_start, ran_done, written}
use Rattle.compiled.specs.Sections.{Which, Literals, Directives, Steps, section_events}
use Rattle.compiled.proofs.SectionLaws.{section_bytes, section_said, section_small, section_holds, literals_length, directives_length, orders_length}

-- ## A run from the start that fits

pub place_of : {limit room : ℕ} {es : List Event} {l l' : List ℕ} {n : ℕ} → Ran limit room es l 0 l' n → Holds es → length_of es ≤ room → length_of es ≤ limit → room ≤ 65536 → n ≡ length_of es
place_of {limit} {room} {es} w h r m b =
    let z : 0 + length_of es ≡ length_of es = omega arith in
    same_place (w.count ∙ ap (tally limit room es) (count_at_lem 0 (omega arith)) ∙ tally_fits limit room es 0 h (omega arith) (omega arith) ∙ rw z (sym (count_at_lem (length_of es) (omega arith))))

pub section_placed : (format : List ℕ) (section : Which) {l l' : List ℕ} {n : ℕ} → length format ≤ longest_format → ((limit : ℕ) → Ran limit longest_buffer (section_events section 0 (parts (items format))) l 0 l' n) → n ≡ length_of (section_events section 0 (parts (items format)))
section_placed format section h w =
    let ps = parts (items format) in
    let small = section_small format h section in
    place_of (w longest_buffer) (section_holds section 0 ps) (omega arith) (omega arith) (omega arith)

pub total_small : (format : List ℕ) → length format ≤ longest_format → {l d n : ℕ} → l ≡ length_of (section_events Literals 0 (parts (items format))) → d ≡ length_of (section_events Directives 0 (parts (items format))) → n ≡ length_of (section_events Steps 0 (parts (items format))) → 6 + l + d + n ≤ 67608
total_small format h el ed en = omega (arith, section_small format h Literals, section_small format h Directives, section_small format h Steps)

-- ## The whole

-- a count and its section
abbrev pub counted : ℕ → Which → List Part → List Event
counted n section ps = write (put (two_bytes n)) ∷ section_events section 0 ps

abbrev whole_events : List Part → ℕ → ℕ → ℕ → List Event
whole_events ps a b c = counted a Literals ps ++ (counted b Directives ps ++ counted c Steps ps)

counted_said : (n : ℕ) (section : Which) (ps : List Part) → text_of (counted n section ps) ≡ two_bytes n ++ section_bytes section ps
unfolding text_of bytes_of
counted_said n section ps = ap (λ (x : List ℕ). two_bytes n ++ x) (section_said section ps)

counted_holds : (n : ℕ) (section : Which) (ps : List Part) → Holds (counted n section ps)
unfolding Holds
counted_holds n section ps = section_holds section 0 ps

whole_said : (ps : List Part) {a b c : ℕ} → a ≡ length (literals_in ps) → b ≡ length (pieces_in ps) → c ≡ length ps → text_of (whole_events ps a b c) ≡ stored ps
unfolding stored section_bytes
whole_said ps {a} {b} {c} p q r =
    text_join (counted a Literals ps) (counted b Directives ps ++ counted c Steps ps)
    ∙ rw (text_join (counted b Directives ps) (counted c Steps ps), counted_said a Literals ps, counted_said b Directives ps, counted_said c Steps ps, p, q, r)
    (append_assoc (two_bytes (length (literals_in ps))) (literals_in ps) _)

-- ## The outcome

module _ (format : List ℕ) (room : ℕ) (f : length format ≤ longest_format) (b : room ≤ longest_buffer) {number : ℕ} (is : number ≡ fault (items format)) where
  abbrev ps : List Part
  ps = parts (items format)

  pub fault_refused : (before : List ℕ) (r : Refusal) → number_of r ≡ number → Promised (compiled format room) before (Err r) before
  fault_refused before r named =
      left_alone before r (compile_fault format room f b (λ zero. number_some r (named ∙ is ∙ zero)) ∙ ap refused (sym (named ∙ is)))

  module _ (h : number ≡ 0) {l d n : ℕ} (el : l ≡ length_of (section_events Literals 0 ps)) (ed : d ≡ length_of (section_events Directives 0 ps)) (en : n ≡ length_of (section_events Steps 0 ps)) where
    long : length (stored ps) ≡ 6 + l + d + n
    long = omega (arith, stored_length ps, literals_length ps, directives_length ps, orders_length ps)

    pub no_room : (before : List ℕ) → room < 6 + l + d + n → Promised (compiled format room) before (Err WriteZero) before
    unfolding number_of
    no_room before k = left_alone before WriteZero (compile_short format room f b (sym is ∙ h) (omega (arith, long)))

    -- the buffer b₀ has room for all
    pub stored_there : {b₀ b₁ b₂ b₃ : List ℕ} {n₁ n₂ n₃ : ℕ} → length b₀ ≡ room → 6 + l + d + n ≤ room → ((limit : ℕ) → Ran limit room (counted l Literals ps) b₀ 0 b₁ n₁) → ((limit : ℕ) → Ran limit room (counted (d / 8) Directives ps) b₁ n₁ b₂ n₂) → ((limit : ℕ) → Ran limit room (counted (n / 3) Steps ps) b₂ n₂ b₃ n₃) → Promised (compiled format room) b₀ (Ok n₃) b₃
    unfolding numbered reported
    stored_there {b₀} {b₃ = b₃} {n₃ = n₃} g k u v w =
        let es = whole_events ps l (d / 8) (n / 3) in
        let ran : Ran 65536 room es b₀ 0 b₃ n₃ = u 65536 then (v 65536 then w 65536) in
        let said : text_of es ≡ stored ps = whole_said ps (omega (arith, literals_length ps)) (omega (arith, directives_length ps)) (omega (arith, orders_length ps)) in
        let size : length_of es ≡ 6 + l + d + n = omega (arith, length_text es, ap length said, long) in
        let holds = holds_join (counted l Literals ps) _ (counted_holds l Literals ps) (holds_join (counted (d / 8) Directives ps) _ (counted_holds (d / 8) Directives ps) (counted_holds (n / 3) Steps ps)) in
        let ends : n₃ ≡ length_of es = place_of ran holds (omega arith) (omega arith) b in
        let outcome : compiled format room ≡ run 65536 room es =
        compile_done format room f b (sym is ∙ h) (omega (arith, long)) ∙ sym (ran_done 65536 room es n₃ (from_start ran) (omega arith) ∙ ap done said) in
        let fits : n₃ ≡ length (stored ps) = omega (arith, long) in
        (rw (compile_done format room f b (sym is ∙ h) (omega (arith, long)), fits), rw outcome (written ran (omega arith) (omega arith)))
