-- What is pending: its text alone leads back to the state, and it is the end of what was read.
use mathlib.Core.Path.{◌≡◌, refl, sym, ap, ◌∙◌}
use mathlib.Core.Bool.{Bool, true, false}
use mathlib.Core.List.{List, [], ◌∷◌, ◌++◌, append_assoc, append-nil}
use Prim.Native.Nat.{ℕ, ◌≤◌}
use native.Mathlib.Omega.{arith}
use lib.Dec.{eqb}
use lib.ListN.{length, length-append}
use Rattle.rules.specs.declared.Reading.{Reading}
use Rattle.rules.specs.declared.Turn.{Turn}
use Rattle.rules.specs.declared.Turn.TheVariants.{More, Found, Echoed, Unread}
use Rattle.rules.specs.Ascii.{byte}
use Rattle.rules.specs.Reading.{turn}
use Rattle.rules.specs.Format.{Item, State, between, inside, fresh, on_turn, step, settled, after, items}
use Rattle.rules.specs.Runs.{pending_of}
use Rattle.rules.proofs.Resume.{settled_join, after_join, read_split}

-- ## The pending text is the state

-- the state is what reading its pending text from the start gives, and that settles nothing
pub record Own (state : State) : Type 0 where
  pub back : after between (pending_of state) ≡ state
  pub quiet : settled between (pending_of state) ≡ []

own_between : Own between
unfolding after settled
own_between = record { back = refl; quiet = refl }

after_one : (state : State) (b : ℕ) → after state (b ∷ []) ≡ (step state b).to
unfolding after
after_one state b = refl

settled_one : (state : State) (b : ℕ) → settled state (b ∷ []) ≡ (step state b).settles
unfolding settled
settled_one state b = append-nil (step state b).settles

own_fresh : (b : ℕ) → Own (fresh b).to
unfolding step
own_fresh b = by (eqb b (byte "%")) refl
  where
    by : (t : Bool) → eqb b (byte "%") ≡ t → Own (fresh b).to
    by true e = rw e (record { back = after_one between b ∙ rw e refl; quiet = settled_one between b ∙ rw e refl })
    by false e = rw e own_between

own_turn : (r : Reading) (text : List ℕ) (b : ℕ) → Own (inside r text) → (t : Turn) → turn r b ≡ t → Own (on_turn text b t).to
unfolding step
own_turn r text b w (More n) e =
    record {
      back = after_join between text (b ∷ []) ∙ rw w.back (after_one (inside r text) b ∙ ap (λ (t : Turn). (on_turn text b t).to) e);
      quiet = settled_join between text (b ∷ []) ∙ rw (w.quiet, w.back) (settled_one (inside r text) b ∙ ap (λ (t : Turn). (on_turn text b t).settles) e);
    }
own_turn r text b w (Found p) e = own_between
own_turn r text b w Echoed e = own_between
own_turn r text b w Unread e = own_fresh b

own_step : (state : State) (b : ℕ) → Own state → Own (step state b).to
unfolding step
own_step between b w = own_fresh b
own_step (inside r text) b w = own_turn r text b w (turn r b) refl

own_from : (state : State) (bytes : List ℕ) → Own state → Own (after state bytes)
unfolding after
own_from state [] w = w
own_from state (b ∷ bytes) w = own_from (step state b).to bytes (own_step state b w)

pub own_after : (bytes : List ℕ) → Own (after between bytes)
own_after bytes = own_from between bytes own_between

-- more bytes, from the pending text alone
module _ (a b : List ℕ) where
  pub goes_settled : settled between (a ++ b) ≡ settled between a ++ settled between (pending_of (after between a) ++ b)
  goes_settled =
      settled_join between a b
      ∙ ap (λ (is : List Item). settled between a ++ is) (sym (settled_join between (pending_of (after between a)) b ∙ rw ((own_after a).quiet, (own_after a).back) refl))

  pub goes_after : after between (a ++ b) ≡ after between (pending_of (after between a) ++ b)
  goes_after = after_join between a b ∙ sym (after_join between (pending_of (after between a)) b ∙ rw (own_after a).back refl)

-- the end reads the pending text as a format of its own
pub goes_items : (a : List ℕ) → items a ≡ settled between a ++ items (pending_of (after between a))
goes_items a =
    read_split between a
    ∙ ap (λ (is : List Item). settled between a ++ is) (sym (read_split between (pending_of (after between a)) ∙ rw ((own_after a).quiet, (own_after a).back) refl))

-- ## It is the end of what was read

-- a list ends with another
abbrev pub Ends : List ℕ → List ℕ → Type 0
Ends all last = (front : List ℕ) × (all ≡ front ++ last)

fresh_ends : (text : List ℕ) (b : ℕ) → Ends (text ++ (b ∷ [])) (pending_of (fresh b).to)
fresh_ends text b = by (eqb b (byte "%")) refl
  where
    by : (t : Bool) → eqb b (byte "%") ≡ t → Ends (text ++ (b ∷ [])) (pending_of (fresh b).to)
    by true e = rw e (text, refl)
    by false e = rw e (text ++ (b ∷ []), sym (append-nil (text ++ (b ∷ []))))

turn_ends : (text : List ℕ) (b : ℕ) (t : Turn) → Ends (text ++ (b ∷ [])) (pending_of (on_turn text b t).to)
turn_ends text b (More n) = ([], refl)
turn_ends text b (Found p) = (text ++ (b ∷ []), sym (append-nil (text ++ (b ∷ []))))
turn_ends text b Echoed = (text ++ (b ∷ []), sym (append-nil (text ++ (b ∷ []))))
turn_ends text b Unread = fresh_ends text b

step_ends : (state : State) (b : ℕ) → Ends (pending_of state ++ (b ∷ [])) (pending_of (step state b).to)
unfolding step
step_ends between b = fresh_ends [] b
step_ends (inside r text) b = turn_ends text b (turn r b)

after_ends : (state : State) (bytes : List ℕ) → Ends (pending_of state ++ bytes) (pending_of (after state bytes))
unfolding after
after_ends state [] = ([], append-nil (pending_of state))
after_ends state (b ∷ bytes) =
    let now = step_ends state b in
    let then = after_ends (step state b).to bytes in (
      now.0 ++ then.0,
      sym (append_assoc (pending_of state) (b ∷ []) bytes) ∙ ap (λ (l : List ℕ). l ++ bytes) now.1
          ∙ append_assoc now.0 (pending_of (step state b).to) bytes ∙ ap (λ (l : List ℕ). now.0 ++ l) then.1
          ∙ sym (append_assoc now.0 then.0 (pending_of (after (step state b).to bytes))),
    )

pub pending_ends : (bytes : List ℕ) → Ends bytes (pending_of (after between bytes))
pending_ends bytes = after_ends between bytes

pub pending_fits : (bytes : List ℕ) → length (pending_of (after between bytes)) ≤ length bytes
pending_fits bytes =
    let e = pending_ends bytes in
    omega (arith, ap length e.1, length-append e.0 (pending_of (after between bytes)))
