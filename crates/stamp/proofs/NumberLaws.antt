-- A number read digit by digit: what is behind a value at a position.
use mathlib.Core.Path.{◌≡◌, refl, sym, ◌∙◌}
use mathlib.Core.Bool.{Bool, true, false, cond, ◌&&◌}
use mathlib.Core.List.{List, [], ◌∷◌}
use Prim.Native.Nat.{ℕ, ◌+◌, ◌-◌, ◌*◌, ◌≤◌, ◌<◌}
use native.Mathlib.Numerals.{add-one}
use native.Mathlib.Omega.{arith}
use lib.Dec.{leb}
use lib.ListN.{length, drop, get_or, drop_of_length-le}
use lib.Seq.{drop-cons}
use borrow.Author.Tests.{le-leb, lt-leb}
use Rattle.std.specs.Prelude.{Some, None}
use Rattle.rules.specs.Reading.{is_digit}
use Rattle.stamp.specs.Numbers.{all_digits, number_from, number_behind, number_of}

grows : (bytes : List ℕ) (value : ℕ) → value ≤ number_from value bytes
unfolding number_from
grows [] value = omega arith
grows (b ∷ bytes) value = omega (arith, grows bytes (value * 10 + (b - 48)))

-- a value that is too large, whatever is behind it
pub over : (most value : ℕ) (bytes : List ℕ) → most < value → None ≡ number_behind most value bytes
over most value bytes h = go (all_digits bytes) (lt-leb (number_from value bytes) most (omega (arith, grows bytes value)))
  where
    go : (t : Bool) → leb (number_from value bytes) most ≡ false → None ≡ cond (t && leb (number_from value bytes) most) (Some (number_from value bytes)) None
    go true e = rw e
    go false e = refl

byte_first : (bytes : List ℕ) (at : ℕ) → at < length bytes → drop at bytes ≡ get_or bytes at 0 ∷ drop (at + 1) bytes
byte_first bytes at h = rw (add-one, drop-cons bytes at 0)

pub opened : (most : ℕ) (bytes : List ℕ) → 0 < length bytes → number_behind most 0 bytes ≡ number_of most bytes
unfolding number_of
opened most [] h = absurd (omega arith)
opened most (b ∷ bytes) h = refl

pub nothing : (most : ℕ) (bytes : List ℕ) → length bytes ≡ 0 → None ≡ number_of most bytes
unfolding number_of
nothing most [] h = refl
nothing most (b ∷ bytes) h = absurd (omega arith)

module _ (most value : ℕ) (bytes : List ℕ) (at : ℕ) where
  pub whole : length bytes ≤ at → value ≤ most → Some value ≡ number_behind most value (drop at bytes)
  unfolding all_digits number_from
  whole h k = rw (drop_of_length-le bytes h, le-leb _ _ k)

  module _ (h : at < length bytes) where
    next : drop at bytes ≡ get_or bytes at 0 ∷ drop (at + 1) bytes
    next = byte_first bytes at h

    pub other : is_digit (get_or bytes at 0) ≡ false → None ≡ number_behind most value (drop at bytes)
    unfolding all_digits
    other e = rw (next, e)

    module _ (e : is_digit (get_or bytes at 0) ≡ true) (v : ℕ) (is : v ≡ value * 10 + (get_or bytes at 0 - 48)) where
      pub digit : number_behind most v (drop (at + 1) bytes) ≡ number_behind most value (drop at bytes)
      unfolding all_digits number_from
      digit = sym (rw (next, e, is))

    pub past : is_digit (get_or bytes at 0) ≡ true → most < value * 10 + (get_or bytes at 0 - 48) → None ≡ number_behind most value (drop at bytes)
    past e m = over _ _ _ m ∙ digit e _ refl
