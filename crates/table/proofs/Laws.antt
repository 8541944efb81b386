-- The table of directives by its rows: what a look-up finds, and what a search of its letters answers.
use Rattle.std.specs.Prelude.{Option, Some, None}
use mathlib.Core.Path.{◌≡◌, refl, sym, ◌∙◌}
use mathlib.Core.Bool.{Bool, true, false, cond, false≢true}
use mathlib.Core.List.{List, [], ◌∷◌}
use Prim.Native.Nat.{ℕ}
use lib.Dec.{eqb}
use Rattle.rules.specs.declared.Spec.{Spec}
use Rattle.rules.specs.Reading.{Row, letters, member, look_up, possible_specs, spec_of}
use Rattle.rules.specs.Stored.{is_known}

searched : (b : ℕ) (rows : List Row) → member b (letters rows) ≡ is_known (look_up b rows)
unfolding member look_up
searched b [] = refl
searched b (r ∷ rows) = go (eqb b r.letter) (searched b rows)
  where
    go : (t : Bool) → member b (letters rows) ≡ is_known (look_up b rows) → cond t true (member b (letters rows)) ≡ is_known (cond t (Some r.spec) (look_up b rows))
    go true rest = refl
    go false rest = rest

-- a letter is possible exactly if the table has an entry for it
pub possible_entry : (b : ℕ) → member b (letters possible_specs) ≡ is_known (spec_of b)
possible_entry b = searched b possible_specs

pub impossible : (b : ℕ) → member b (letters possible_specs) ≡ false → spec_of b ≡ None
impossible b h = go (spec_of b) (sym (possible_entry b) ∙ h)
  where
    go : (e : Option Spec) → is_known e ≡ false → e ≡ None
    go (Some s) h = absurd (false≢true (sym h))
    go None h = refl
