-- Reading can be interrupted anywhere: the items of `a ++ b` are what `a` settles, and what `b` gives from the state after `a`.
use mathlib.Core.Path.{◌≡◌, refl}
use mathlib.Core.List.{List, [], ◌∷◌, ◌++◌, append_assoc}
use Prim.Native.Nat.{ℕ}
use Rattle.rules.specs.declared.Piece.{Piece}
use Rattle.rules.specs.Event.{Event}
use Rattle.rules.specs.Format.{Item, State, step, ending, read, settled, after, events}

pub resume : (state : State) (a b : List ℕ) → read state (a ++ b) ≡ settled state a ++ read (after state a) b
unfolding read settled after
resume state [] b = refl
resume state (x ∷ a) b = rw (resume (step state x).to a b, append_assoc)

pub settled_join : (state : State) (a b : List ℕ) → settled state (a ++ b) ≡ settled state a ++ settled (after state a) b
unfolding settled after
settled_join state [] b = refl
settled_join state (x ∷ a) b = rw (settled_join (step state x).to a b, append_assoc)

pub after_join : (state : State) (a b : List ℕ) → after state (a ++ b) ≡ after (after state a) b
unfolding after
after_join state [] b = refl
after_join state (x ∷ a) b = after_join (step state x).to a b

-- all of the format: what is settled within it, and what its end settles
pub read_split : (state : State) (a : List ℕ) → read state a ≡ settled state a ++ ending (after state a)
unfolding read settled after
read_split state [] = refl
read_split state (x ∷ a) = rw (read_split (step state x).to a, append_assoc)

module _ (events_for : Piece → List Event) where
  pub events_join : (xs ys : List Item) → events events_for (xs ++ ys) ≡ events events_for xs ++ events events_for ys
  unfolding events
  events_join [] ys = refl
  events_join (x ∷ xs) ys = rw (events_join xs ys, append_assoc)
