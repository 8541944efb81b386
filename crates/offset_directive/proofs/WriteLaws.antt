-- The runs of the writers: the sign with its pad and the hours, and what follows them, are the writes of the parts.
use mathlib.Core.Path.{◌≡◌, refl, sym, ap, ◌∙◌}
use mathlib.Core.List.{List, [], ◌∷◌, ◌++◌, append_assoc, append-nil, map}
use Prim.Native.Nat.{ℕ, ◌+◌, ◌-◌}
use Rattle.rules.specs.Decimal.{digits, Fill, zeros, spaces}
use Rattle.rules.specs.Event.{put, Event, write, bytes_of, text_of, at, tally}
use Rattle.rules.specs.Offset.{Form, hh, length_of_form, sign_and_pad}
use Rattle.rules.proofs.EventLaws.{join_counts, text_join, tally_join}
use Rattle.offset.specs.declared.OffsetParts.{OffsetParts}
use Rattle.text.specs.Ran.{Ran}
use Rattle.text.proofs.RanLaws.{◌then◌, same_events, alike}
use Rattle.offset_directive.specs.Parts.{parts_text, parts_writes}

-- ## Two writes at the end are one

ends_say : (a b : List ℕ) → text_of (write (put a) ∷ write (put b) ∷ []) ≡ text_of (write (put (a ++ b)) ∷ [])
unfolding text_of bytes_of
ends_say a b = sym (append_assoc a b [])

joined_after : {limit room : ℕ} (es : List Event) (a b : List ℕ) {l l' : List ℕ} {n n' : ℕ} → Ran limit room ((es ++ (write (put a) ∷ [])) ++ (write (put b) ∷ [])) l n l' n' → Ran limit room (es ++ (write (put (a ++ b)) ∷ [])) l n l' n'
joined_after {limit} {room} es a b {n = n} w =
    alike
    (λ h. tally_join limit room es (write (put a) ∷ write (put b) ∷ []) (at n) ∙ join_counts limit room a b [] (tally limit room es (at n)) ∙ sym (tally_join limit room es (write (put (a ++ b)) ∷ []) (at n)))
    (text_join es (write (put a) ∷ write (put b) ∷ []) ∙ ap (λ (t : List ℕ). text_of es ++ t) (ends_say a b) ∙ sym (text_join es (write (put (a ++ b)) ∷ [])))
    (same_events (append_assoc es (write (put a) ∷ []) (write (put b) ∷ [])) w)

-- ## The hours, and what follows them

-- the sign with its pad, as events
abbrev pub lead : Form → Fill → ℕ → OffsetParts → List Event
lead form fill width p = map write (sign_and_pad fill p.minus (width - length_of_form form + p.extra))

parts_events : (form : Form) (fill : Fill) (width : ℕ) (p : OffsetParts) → lead form fill width p ++ (write (put (digits p.hours ++ parts_text form p.minute p.second)) ∷ []) ≡ map write (parts_writes form fill width p)
unfolding parts_writes sign_and_pad
parts_events form zeros width p = refl
parts_events form spaces width p = refl

module _ {limit room : ℕ} (form : Form) (fill : Fill) (width : ℕ) (p : OffsetParts) {l l' : List ℕ} {n n' : ℕ} where
  pub hour_then : Ran limit room (lead form fill width p ++ (write (put (digits p.hours)) ∷ [])) l n l' n' → {l'' : List ℕ} {n'' : ℕ} → Ran limit room (write (put (parts_text form p.minute p.second)) ∷ []) l' n' l'' n''
      → Ran limit room (map write (parts_writes form fill width p)) l n l'' n''
  hour_then v w = same_events (parts_events form fill width p) (joined_after (lead form fill width p) (digits p.hours) (parts_text form p.minute p.second) (v then w))

  pub in_form : {other : Form} → form ≡ other → Ran limit room (map write (parts_writes form fill width p)) l n l' n' → Ran limit room (map write (parts_writes other fill width p)) l n l' n'
  in_form e w = same_events (ap (λ (f : Form). map write (parts_writes f fill width p)) e) w

-- hours alone
pub hour_alone : {limit room : ℕ} (fill : Fill) (width : ℕ) (p : OffsetParts) {l l' : List ℕ} {n n' : ℕ} → Ran limit room (lead hh fill width p ++ (write (put (digits p.hours)) ∷ [])) l n l' n' → Ran limit room (map write (parts_writes hh fill width p)) l n l' n'
unfolding parts_text
hour_alone fill width p w =
    same_events (ap (λ (t : List ℕ). lead hh fill width p ++ (write (put t) ∷ [])) (sym (append-nil (digits p.hours))) ∙ parts_events hh fill width p) w
