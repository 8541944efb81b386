-- The 8 bytes of a directive as one number, the low byte first.
use Rattle.std.specs.Prelude.{◌≡◌, List, ℕ, ◌/◌, ◌%◌, get_or, drop}
use Rattle.rules.specs.Stored.{four_of}

pub record Eight (s : List ℕ) (n : ℕ) : Type 0 where
  pub code : get_or s 0 0 ≡ n % 256
  pub padding : get_or s 1 0 ≡ n / 256 % 256
  pub flags : get_or s 2 0 ≡ n / 65536 % 256
  pub there : get_or s 3 0 ≡ n / 16777216 % 256
  pub width : four_of (drop 4 s) ≡ n / 4294967296
