-- What some bytes settle are the items of those before what is pending, as a format of its own: nothing of "a directive not yet wholly read".
use Rattle.std.specs.Prelude.{Some}
use mathlib.Core.Path.{◌≡◌, refl, sym, ap, ◌∙◌}
use mathlib.Core.Bool.{Bool, true, false, not, cond}
use mathlib.Core.List.{List, [], ◌∷◌, ◌++◌, append-nil}
use Prim.Native.Nat.{ℕ, suc, ◌+◌, ◌-◌, ◌≤◌, ◌<◌}
use native.Mathlib.Omega.{arith}
use native.Mathlib.Decide.{dec_le}
use borrow.Author.Tests.{eqb-true}
use lib.Dec.{eqb}
use lib.ListN.{length, take, length-append}
use Rattle.rules.specs.declared.Reading.{Reading}
use Rattle.rules.specs.declared.Reading.TheVariants.{InFlags, InWidth, AtModifier, InColons}
use Rattle.rules.specs.declared.Turn.{Turn}
use Rattle.rules.specs.declared.Turn.TheVariants.{More, Found, Echoed, Unread}
use Rattle.rules.specs.Ascii.{byte}
use Rattle.rules.specs.Reading.{on_flag, too_wide, look_up, possible_specs, on_letter, turn, open?}
use Rattle.rules.specs.Format.{Item, State, between, inside, fresh, on_turn, step, ending, read, settled, after, items}
use Rattle.rules.specs.Runs.{pending_of}
use Rattle.rules.proofs.PendingLaws.{pending_fits}

-- a percent sign that a directive leaves unread ends an echo, and never a directive that needs more
closed : (r : Reading) → turn r (byte "%") ≡ Unread → open? r ≡ false
unfolding turn open? on_flag on_letter look_up possible_specs
closed (InFlags o) e = let z : ◌≡◌ {A = ℕ} 0 1 = cc in absurd (omega arith)
closed (InWidth o width) e = go (too_wide width) e
  where
    go : (t : Bool) → cond t Unread (on_letter o (Some width) (byte "%")) ≡ Unread → not t ≡ false
    go true q = refl
    go false q = let z : ◌≡◌ {A = ℕ} 0 1 = cc in absurd (omega arith)
closed (AtModifier o w m) e = refl
closed (InColons o w colons) e = refl

-- how many bytes are pending
abbrev pends : State → ℕ
pends state = length (pending_of state)

-- where more is pending than these bytes, they settled nothing and are all pending
grown : (bytes : List ℕ) (r : Reading) (t : List ℕ) → length bytes < pends (after (inside r t) bytes) →
    (settled (inside r t) bytes ≡ []) × (pends (after (inside r t) bytes) ≡ length t + length bytes)
unfolding settled after step
grown [] r t h = (refl, omega arith)
grown (b ∷ bytes) r t h = go (turn r b) (λ n u. grown bytes n u) h
  where
    go : (x : Turn) →
        ((n : Reading) (u : List ℕ) → length bytes < pends (after (inside n u) bytes) → (settled (inside n u) bytes ≡ []) × (pends (after (inside n u) bytes) ≡ length u + length bytes)) →
        suc (length bytes) < pends (after (on_turn t b x).to bytes) →
        ((on_turn t b x).settles ++ settled (on_turn t b x).to bytes ≡ []) × (pends (after (on_turn t b x).to bytes) ≡ length t + suc (length bytes))
    go (More n) ih g =
        let k = ih n (t ++ (b ∷ [])) (omega arith) in
        (k.0, omega (arith, k.1, length-append t (b ∷ [])))
    go (Found p) ih g = absurd (omega (arith, pending_fits bytes))
    go Echoed ih g = absurd (omega (arith, pending_fits bytes))
    go Unread ih g = absurd (omega (arith, pending_fits (b ∷ bytes)))

-- so where one byte more is, the first of it was pending before them
opened : (state : State) (bytes : List ℕ) → pends (after state bytes) ≡ suc (length bytes) → (settled state bytes ≡ []) × (pends state ≡ 1)
opened between bytes e = absurd (omega (arith, pending_fits bytes))
opened (inside r t) bytes e = let k = grown bytes r t (omega arith) in (k.0, omega (arith, k.1))

-- a directive's text has its percent sign
abbrev Starts : State → Type 0
Starts between = Unit {0}
Starts (inside r t) = 1 ≤ length t

starts_fresh : (b : ℕ) → Starts (fresh b).to
starts_fresh b = go (eqb b (byte "%")) refl
  where
    go : (t : Bool) → eqb b (byte "%") ≡ t → Starts (fresh b).to
    go true e = rw e (omega arith)
    go false e = rw e tt

starts_turn : (t : List ℕ) (b : ℕ) (x : Turn) → Starts (on_turn t b x).to
starts_turn t b (More n) = omega (arith, length-append t (b ∷ []))
starts_turn t b (Found p) = tt
starts_turn t b Echoed = tt
starts_turn t b Unread = starts_fresh b

starts_step : (state : State) (b : ℕ) → Starts (step state b).to
unfolding step
starts_step between b = starts_fresh b
starts_step (inside r t) b = starts_turn t b (turn r b)

-- a byte of which alone is pending then settles what the end before it would
fresh_sign : (b : ℕ) → pends (fresh b).to ≡ 1 → (b ≡ byte "%") × ((fresh b).settles ≡ [])
fresh_sign b = go (eqb b (byte "%")) refl
  where
    go : (t : Bool) → eqb b (byte "%") ≡ t → pends (fresh b).to ≡ 1 → (b ≡ byte "%") × ((fresh b).settles ≡ [])
    go true e h = (eqb-true b (byte "%") e, rw e refl)
    go false e h = let z : ◌≡◌ {A = ℕ} 0 1 = rw e at h in absurd (omega arith)

sign_turn : (r : Reading) (t : List ℕ) (b : ℕ) → 1 ≤ length t → (x : Turn) → turn r b ≡ x → pends (on_turn t b x).to ≡ 1 → ending (inside r t) ≡ (on_turn t b x).settles
unfolding ending
sign_turn r t b h (More n) e q = absurd (omega (arith, length-append t (b ∷ [])))
sign_turn r t b h (Found p) e q = absurd (omega arith)
sign_turn r t b h Echoed e q = absurd (omega arith)
sign_turn r t b h Unread e q =
    let k = fresh_sign b q in
    rw (closed r (ap (turn r) (sym k.0) ∙ e), k.1)

sign_ends : (state : State) (b : ℕ) → Starts state → pends (step state b).to ≡ 1 → ending state ≡ (step state b).settles
unfolding step ending
sign_ends between b h q = sym (fresh_sign b q).1
sign_ends (inside r t) b h q = sign_turn r t b h (turn r b) refl q

front_from : (bytes : List ℕ) (state : State) → Starts state → pends (after state bytes) ≤ length bytes → read state (take (length bytes - pends (after state bytes)) bytes) ≡ settled state bytes
unfolding read settled after ending
front_from [] between h f = refl
front_from [] (inside r t) h f = absurd (omega arith)
front_from (b ∷ bytes) state h f =
    elim (dec_le (pends (after (step state b).to bytes)) (length bytes)) [
      | yes g ↦
          let k : suc (length bytes) - pends (after (step state b).to bytes) ≡ suc (length bytes - pends (after (step state b).to bytes)) = omega arith in
          rw k (ap (λ (is : List Item). (step state b).settles ++ is) (front_from bytes (step state b).to (starts_step state b) g))
      | no g ↦
          let e : pends (after (step state b).to bytes) ≡ suc (length bytes) = omega arith in
          let o = opened (step state b).to bytes e in
          let k : suc (length bytes) - pends (after (step state b).to bytes) ≡ 0 = omega arith in
          rw (k, o.0, append-nil) (sign_ends state b h o.1)
    ]

pub settled_front : (bytes : List ℕ) → items (take (length bytes - length (pending_of (after between bytes))) bytes) ≡ settled between bytes
settled_front bytes = front_from bytes between tt (pending_fits bytes)
