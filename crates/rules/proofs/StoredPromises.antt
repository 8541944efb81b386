-- The two entries together: what was compiled is taken, and runs as its format does; 11 exactly where 02 puts it; and any two answers that a promise
-- allows are equal.
use Rattle.std.specs.Prelude.{Result}
use mathlib.Core.Path.{◌≡◌, refl, sym, ap, ◌∙◌}
use mathlib.Core.Bool.{Bool, true, false}
use mathlib.Core.List.{List, [], ◌∷◌, append-nil}
use mathlib.Core.Logic.{◌↔◌}
use Prim.Native.Nat.{ℕ, ◌≤◌}
use native.Mathlib.Decide.{dec_lt}
use native.Mathlib.Omega.{arith}
use borrow.Author.Tests.{leb-true, eqb-true}
use lib.Dec.{leb}
use lib.ListN.{length}
use Rattle.rules.specs.declared.Refusal.{Refusal}
use Rattle.rules.specs.declared.Record.{Record}
use Rattle.rules.specs.Record.{longest_format, longest_zone, longest_buffer}
use Rattle.rules.specs.Refusal.{numbered}
use Rattle.rules.specs.Event.{put, write, check, judged, bytes_of, text_of, done, refused, run, Holds, reported, buffer_after}
use Rattle.rules.specs.Writing.{events_of}
use Rattle.rules.specs.Format.{items, fault, limit_of, formatted}
use Rattle.rules.specs.Stored.{parts, part_events, stored, well_stored, loaded, compile_events, compiled, formatted_stored}
use Rattle.rules.proofs.EventLaws.{run_done}
use Rattle.rules.proofs.OneAnswer.{one_answer}
use Rattle.rules.proofs.StoredLoading.{loaded_stored, well_stored_lem}
use Rattle.rules.proofs.StoredGiven.{storable, stored_most}
use Rattle.rules.proofs.StoredAnswers.{never_11, length_too_long, stored_zone_too_long, stored_buffer_too_long, bad_stored, stored_runs, stored_answer}

-- a stored form that was compiled
pub record Form (format s : List ℕ) : Type 0 where
  pub short : length format ≤ longest_format
  pub sound : fault (items format) ≡ 0
  pub bytes : s ≡ stored (parts (items format))

pub compiled_form : (format : List ℕ) (room : ℕ) (s : List ℕ) → compiled format room ≡ done s → Form format s
unfolding compiled compile_events Holds text_of bytes_of
compiled_form format room s e =
    let S = stored (parts (items format)) in
    let d = run_done 0 room (check (leb (length format) longest_format) 5 ∷ check (leb room longest_buffer) 5 ∷ judged (fault (items format)) ∷ write (put S) ∷ []) s e in
    record { short = leb-true (length format) longest_format d.0.0; sound = eqb-true (fault (items format)) 0 d.0.1.1.0; bytes = d.2 ∙ append-nil S }

module _ {format s : List ℕ} (f : Form format s) where
  pub form_taken : well_stored s ≡ true
  form_taken = ap well_stored f.bytes ∙ well_stored_lem (parts (items format)) (storable format f.short)

  pub form_loads : loaded s ≡ parts (items format)
  form_loads = ap loaded f.bytes ∙ loaded_stored (parts (items format)) (storable format f.short)

  pub form_most : length s ≤ 22534
  form_most = omega (arith, ap length f.bytes, stored_most format f.short)

  -- for every zone name, record and buffer
  pub form_answer : (zone : List ℕ) (r : Record) (room : ℕ) → formatted_stored s (length format) zone r room ≡ formatted format zone r room
  form_answer zone r room =
      ap (λ (x : List ℕ). formatted_stored x (length format) zone r room) f.bytes ∙ stored_answer zone r room format f.short f.sound

-- ## BadStored

-- "given exactly if counts and bytes disagree, a step names no section or passes it, or a directive is one no parse gives"; 5 comes before it
pub eleven_exactly : (s : List ℕ) (n : ℕ) (zone : List ℕ) (r : Record) (room : ℕ) →
    (formatted_stored s n zone r room ≡ refused 11) ↔ ((n ≤ longest_format) × (length zone ≤ longest_zone) × (room ≤ longest_buffer) × (well_stored s ≡ false))
eleven_exactly s n zone r room = (λ e. forth e, λ h. bad_stored s n zone r room h.0 h.1 h.2 h.3)
  where
    five : formatted_stored s n zone r room ≡ refused 5 → formatted_stored s n zone r room ≡ refused 11 → ⊥
    five p q = let z : ◌≡◌ {A = ℕ} 5 11 = cc in omega arith

    forth : formatted_stored s n zone r room ≡ refused 11 → (n ≤ longest_format) × (length zone ≤ longest_zone) × (room ≤ longest_buffer) × (well_stored s ≡ false)
    forth e =
        elim (dec_lt longest_format n) [
          | yes f ↦ absurd (five (length_too_long s n zone r room f) e)
          | no f ↦ elim (dec_lt longest_zone (length zone)) [
            | yes z ↦ absurd (five (stored_zone_too_long s n zone r room (omega arith) z) e)
            | no z ↦ elim (dec_lt longest_buffer room) [
              | yes b ↦ absurd (five (stored_buffer_too_long s n zone r room (omega arith) (omega arith) b) e)
              | no b ↦ (omega arith, omega arith, omega arith, go (well_stored s) refl (stored_runs s n zone r room (omega arith) (omega arith) (omega arith)))
            ]
          ]
        ]
      where
        go : (t : Bool) → well_stored s ≡ t → (well_stored s ≡ true → formatted_stored s n zone r room ≡ run (limit_of n) room (part_events (events_of r zone) (loaded s))) → well_stored s ≡ false
        go true q f = absurd (never_11 (limit_of n) room r zone (loaded s) (sym (f q) ∙ e))
        go false q f = q

-- ## One answer

-- two answers, each with the buffer that it leaves, that the promise of an entry allows
pub stored_once : (s : List ℕ) (n : ℕ) (zone : List ℕ) (r : Record) (buffer : List ℕ) (a b : Result ℕ Refusal) (after-a after-b : List ℕ) →
    numbered a ≡ reported (formatted_stored s n zone r (length buffer)) → after-a ≡ buffer_after (formatted_stored s n zone r (length buffer)) buffer →
    numbered b ≡ reported (formatted_stored s n zone r (length buffer)) → after-b ≡ buffer_after (formatted_stored s n zone r (length buffer)) buffer →
    (a ≡ b) × (after-a ≡ after-b)
stored_once s n zone r buffer a b after-a after-b p q p' q' = (one_answer a b (p ∙ sym p'), q ∙ sym q')

pub compiled_once : (format buffer : List ℕ) (a b : Result ℕ Refusal) (after-a after-b : List ℕ) →
    numbered a ≡ reported (compiled format (length buffer)) → after-a ≡ buffer_after (compiled format (length buffer)) buffer →
    numbered b ≡ reported (compiled format (length buffer)) → after-b ≡ buffer_after (compiled format (length buffer)) buffer →
    (a ≡ b) × (after-a ≡ after-b)
compiled_once format buffer a b after-a after-b p q p' q' = (one_answer a b (p ∙ sym p'), q ∙ sym q')
