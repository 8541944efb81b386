-- What a size is, over any sets of records, allows one report and no other. So it is 5, the format's fault, 6 or a number of bytes exactly where its condition holds.
use mathlib.Core.Path.{◌≡◌, refl, sym, ap}
use mathlib.Core.Bool.{true}
use mathlib.Core.List.{List}
use mathlib.Core.Logic.{◌⊎◌, inl, inr, ◌↔◌}
use Prim.Native.Nat.{ℕ, suc, ◌≤◌, ◌<◌}
use native.Mathlib.Nat.{le_antisymm}
use native.Mathlib.Omega.{arith}
use native.Mathlib.Decide.{dec_lt}
use lib.ListN.{length}
use borrow.Author.Tests.{leb-true}
use Rattle.rules.specs.declared.Record.{Record}
use Rattle.rules.specs.Record.{longest_format, longest_zone, longest_buffer}
use Rattle.rules.specs.Refusal.{Report, ByEvent, invalid_time, invalid_format_string, formatted_string_too_large, write_zero}
use Rattle.rules.specs.Event.{done, Holds}
use Rattle.rules.specs.Format.{items, fault, valid, limit_of, format_events, formatted}
use Rattle.rules.specs.Size.{Stamps, Excused, SizeIs, NoneServes, Kept, Sizing, too_long, faulty, no_buffer, needs}
use Rattle.rules.proofs.EventLaws.{run_done}
use Rattle.longest.specs.Witness.{refuses, needing}
use Rattle.longest.proofs.Fitting.{ThreeOrFour}
use Rattle.rules.proofs.Faults.{fault_by_event, valid_of, faultless}
use Rattle.longest.proofs.Members.{Sets, member_unchecked}

-- neither the size limit nor the room is an excuse
no_excuse : (number : ℕ) → Excused number → ThreeOrFour number → ⊥
no_excuse number x (inl e) = omega arith
no_excuse number x (inr e) = omega arith

-- a number that an event gives is none of sizing's own
apart : {number : ℕ} → ByEvent number → (number ≡ 0 → ⊥) × (number ≡ 5 → ⊥) × (number ≡ 6 → ⊥)
apart invalid_time = (λ e. omega arith, λ e. omega arith, λ e. omega arith)
apart invalid_format_string = (λ e. omega arith, λ e. omega arith, λ e. omega arith)
apart formatted_string_too_large = (λ e. omega arith, λ e. omega arith, λ e. omega arith)
apart write_zero = (λ e. omega arith, λ e. omega arith, λ e. omega arith)

-- a set whose needy members are among those that another size serves has no greater size
pub size_le : {Every Some Every' Some' : Stamps} {format : List ℕ} {m n : ℕ} → ((r : Record) (zone : List ℕ) → Some' r zone → Every r zone) → SizeIs Every Some format m → SizeIs Every' Some' format n → n ≤ m
size_le {m} {n} among p q =
    elim (dec_lt m n) [
      | yes h ↦
          let k = q.one_needs m h in
          elim (p.serves q.one q.one_zone (among _ _ q.one_in))
          [ inl e ↦ let z : ◌≡◌ {A = ℕ} 0 1 = cc in absurd (omega arith) | inr e ↦ absurd (no_excuse e.0 e.1.0 (inr (cc))) ]
      | no h ↦ omega arith
    ]

-- a buffer in which a text is done is not too long
room_kept : (format zone : List ℕ) (r : Record) (room : ℕ) (text : List ℕ) → formatted format zone r room ≡ done text → room ≤ longest_buffer
unfolding formatted format_events Holds
room_kept format zone r room text e =
    let d = run_done (limit_of (length format)) room _ text e in
    leb-true room longest_buffer d.0.1.1.0

module _ {longest : ℕ} {Every Some : Stamps} (sets : Sets longest Every Some) (format : List ℕ) where
  long_kept : (longest_format < length format) ⊎ (longest_zone < longest) → Kept format longest → ⊥
  long_kept (inl h) k = omega arith
  long_kept (inr h) k = omega arith

  none_some : {n : ℕ} → Kept format longest → fault (items format) ≡ 0 → NoneServes Some format → SizeIs Every Some format n → ⊥
  none_some {n} k w none size =
      let b : n ≤ longest_buffer = room_kept format size.one_zone size.one n _ size.one_fits in
      elim (size.serves none.one none.one_zone (sets.among _ _ none.one_in)) [
        | inl e ↦ none.fits_none n b _ e
        | inr e ↦ no_excuse e.0 e.1.0 (member_unchecked sets format k w (record { time = none.one; zone = none.one_zone }) none.one_in n e.0 b e.1.1)
      ]

  -- any two reports that are allowed are equal
  pub once : {a b : Report} → Sizing Every Some format longest a → Sizing Every Some format longest b → a ≡ b
  once (too_long l) (too_long l') = refl
  once (too_long l) (faulty m k c) = absurd (long_kept l k)
  once (too_long l) (no_buffer k w x) = absurd (long_kept l k)
  once (too_long l) (needs n k w x) = absurd (long_kept l k)
  once (faulty m k c) (too_long l) = absurd (long_kept l k)
  once (faulty m k c) (faulty m' k' c') = ap refuses (cc)
  once (faulty m k c) (no_buffer k' w x) = absurd (omega arith)
  once (faulty m k c) (needs n k' w x) = absurd (omega arith)
  once (no_buffer k w x) (too_long l) = absurd (long_kept l k)
  once (no_buffer k w x) (faulty m k' c) = absurd (omega arith)
  once (no_buffer k w x) (no_buffer k' w' x') = refl
  once (no_buffer k w x) (needs n k' w' y) = absurd (none_some k w x y)
  once (needs n k w y) (too_long l) = absurd (long_kept l k)
  once (needs n k w y) (faulty m k' c) = absurd (omega arith)
  once (needs n k w y) (no_buffer k' w' x) = absurd (none_some k w x y)
  once (needs n k w y) (needs m k' w' y') = ap needing (le_antisymm (size_le sets.among y' y) (size_le sets.among y y'))

  by_event : {m : ℕ} → fault (items format) ≡ suc m → ByEvent (suc m)
  by_event e = rw e at (fault_by_event (items format) (λ z. omega arith))

  -- ## Where each number is given

  pub five_if : {a : Report} → Sizing Every Some format longest a → (a.number ≡ 5) ↔ ((longest_format < length format) ⊎ (longest_zone < longest))
  five_if (too_long l) = (λ e. l, λ h. refl)
  five_if (faulty m k c) = (λ e. absurd ((apart (by_event c)).1 e), λ h. absurd (long_kept h k))
  five_if (no_buffer k w x) = (λ e. absurd (omega arith), λ h. absurd (long_kept h k))
  five_if (needs n k w y) = (λ e. absurd (omega arith), λ h. absurd (long_kept h k))

  -- any number that an event gives: that of the fault, and no other
  pub fault_if : {a : Report} → Sizing Every Some format longest a → {number : ℕ} → ByEvent number → (a.number ≡ number) ↔ (Kept format longest × (fault (items format) ≡ number))
  fault_if (too_long l) b = (λ e. absurd ((apart b).1 (sym e)), λ h. absurd (long_kept l h.0))
  fault_if (faulty m k c) b = (λ e. (k, cc), λ h. cc h.1)
  fault_if (no_buffer k w x) b = (λ e. absurd ((apart b).2 (sym e)), λ h. absurd ((apart b).0 (cc h.1)))
  fault_if (needs n k w y) b = (λ e. absurd ((apart b).0 (sym e)), λ h. absurd ((apart b).0 (cc h.1)))

  pub six_if : {a : Report} → Sizing Every Some format longest a → (a.number ≡ 6) ↔ (Kept format longest × (valid format ≡ true) × NoneServes Some format)
  six_if (too_long l) = (λ e. absurd (omega arith), λ h. absurd (long_kept l h.0))
  six_if (faulty m k c) = (λ e. absurd ((apart (by_event c)).2 e), λ h. absurd (omega (arith, faultless format h.1)))
  six_if (no_buffer k w x) = (λ e. (k, valid_of format k.format_short w, x), λ h. refl)
  six_if (needs n k w y) = (λ e. absurd (omega arith), λ h. absurd (none_some k w h.2 y))

  pub size_if : {a : Report} → Sizing Every Some format longest a → (a.number ≡ 0) ↔ (Kept format longest × (valid format ≡ true) × (NoneServes Some format → ⊥))
  size_if (too_long l) = (λ e. absurd (omega arith), λ h. absurd (long_kept l h.0))
  size_if (faulty m k c) = (λ e. absurd (omega arith), λ h. absurd (omega (arith, faultless format h.1)))
  size_if (no_buffer k w x) = (λ e. absurd (omega arith), λ h. absurd (h.2 x))
  size_if (needs n k w y) = (λ e. (k, valid_of format k.format_short w, λ x. none_some k w x y), λ h. refl)
