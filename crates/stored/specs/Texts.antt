-- A text in a scratch, with bytes behind it that don't matter.
use Rattle.std.specs.Prelude.{◌≡◌, Bool, true, List, ◌++◌, ℕ, ◌+◌, ◌≤◌, length, take}

-- what stood before place n in the list l stands there still; and if the text t ended within the list, it stands behind that
pub record Copied (t l : List ℕ) (n : ℕ) (l' : List ℕ) (ended : Bool) : Type 0 where
  pub kept : length l' ≡ length l
  pub before : take n l' ≡ take n l
  pub inside : ended ≡ true → n + length t ≤ length l
  pub text : ended ≡ true → take (n + length t) l' ≡ take n l ++ t
