-- The f64 that is ±n, for an n that is a u32, has its sign, its number of hours and its order with 10.0.
use mathlib.Core.Path.{◌≡◌, refl, sym, ap, ◌∙◌, subst}
use mathlib.Core.Bool.{Bool, true, false, not, cond, ◌||◌}
use Prim.Native.Nat.{ℕ, zero, suc, ◌+◌, ◌*◌, ◌/◌, ◌%◌, ◌^◌, ◌≤◌, ◌<◌}
use native.Mathlib.Nat.{one-mul, le_of_lt, lt_of_lt_of_le, mul-lt-mul_of_pos_right, mul-le-mul_right}
use native.Mathlib.Omega.{arith}
use lib.IntN.{pos}
use lib.Dec.{T, ltb, leb, eqb, le→leb, lit<, lit≤}
use borrow.Author.Tests.{lt-ltb, le-ltb, ltb-true, ltb-false}
use lib.Ieee.{Float, nan, inf, fin, Format, binary64, prec, low, up, down, top, hid, ones, round, of_int, of_bits, of_fields, odd, to_bits, is_nan, neg, mul, lt, unlike, to_unsigned, in_unsigned, in_float, fits}
use lib.Ieee.Fits.{round-fits, neg-fits, cond-fits, of_int-fits, down_pos}
use lib.Ieee.Exact.{HasValue}
use lib.Ieee.Scale.{round_same}
use lib.Ieee.Back.{round_whole, whole_unique, unsigned_back}
use lib.Ieee.Bits.{of_bits-to_bits}
use Rattle.offset.specs.Hour.{hour_of, is_sign_negative, ten, below_ten, absolute, whole_hours, is_hour}

-- a u32 is counted exactly
exact : (n : ℕ) → n < 2 ^ 32 → n ≤ 2 ^ 53
exact n h = le_of_lt (lt_of_lt_of_le h (lit≤ tt))

hour_value : (s : Bool) (n : ℕ) → n < 2 ^ 32 → HasValue (hour_of s n) s n 1
unfolding hour_of
hour_value s n h = round_whole binary64 s n (exact n h)

-- ## The sign

sign_of : (x : Float) (s : Bool) (n : ℕ) → HasValue x s n 1 → is_sign_negative x ≡ s
unfolding is_sign_negative
sign_of nan s n v = elim v [ ]
sign_of (inf _) s n v = elim v [ ]
sign_of (fin t m e) s n v = v.0

pub hour_sign : (s : Bool) (n : ℕ) → n < 2 ^ 32 → is_sign_negative (hour_of s n) ≡ s
hour_sign s n h = sign_of (hour_of s n) s n (hour_value s n h)

not_nan : (x : Float) (s : Bool) (n : ℕ) → HasValue x s n 1 → T (not (is_nan x))
unfolding is_nan
not_nan nan s n v = elim v [ ]
not_nan (inf _) s n v = elim v [ ]
not_nan (fin t m e) s n v = tt

pub hour_number : (s : Bool) (n : ℕ) → n < 2 ^ 32 → T (not (is_nan (hour_of s n)))
hour_number s n h = not_nan (hour_of s n) s n (hour_value s n h)

-- the highest bit of what `odd` makes
odd_sign : (d : ℕ) (s : Bool) (q k l : ℕ) → is_sign_negative (odd d s q k l) ≡ s
unfolding is_sign_negative odd
odd_sign d s zero k l = refl
odd_sign d s (suc q) k l = refl

fields_sign : (f : Format) (s : Bool) (x t : ℕ) → T (not (is_nan (of_fields f s x t))) → is_sign_negative (of_fields f s x t) ≡ s
unfolding is_sign_negative is_nan of_fields
fields_sign f s zero t h = odd_sign (prec f) s t 0 (low f)
fields_sign f s (suc x) t h = go (eqb (suc x) (ones f)) (eqb t 0) h
  where
    o : Float
    o = odd (prec f) s (hid f + t) x (low f)

    go : (a b : Bool) → T (not (is_nan (cond a (cond b (inf s) nan) o))) → is_sign_negative (cond a (cond b (inf s) nan) o) ≡ s
    go true true h = refl
    go true false h = absurd h
    go false b h = odd_sign (prec f) s (hid f + t) x (low f)

bits_sign : (f : Format) (b : ℕ) → T (not (is_nan (of_bits f b))) → is_sign_negative (of_bits f b) ≡ leb (top f) b
unfolding of_bits
bits_sign f b h = fields_sign f (leb (top f) b) (b % top f / hid f) (b % hid f) h

-- the sign is the highest bit
pub sign_bit : (x : Float) → T (fits binary64 x) → T (not (is_nan x)) → leb (2 ^ 63) (to_bits binary64 x) ≡ is_sign_negative x
sign_bit x f h =
    let e = of_bits-to_bits binary64 x f in
    sym (bits_sign binary64 (to_bits binary64 x) (subst (λ (y : Float). T (not (is_nan y))) (sym e) h)) ∙ ap is_sign_negative e

-- ## Below ten

scaled : (n d a : ℕ) → 0 < d → a ≡ n * d → ltb a (10 * d) ≡ ltb n 10
scaled n d a p e = go (ltb n 10) refl
  where
    go : (b : Bool) → ltb n 10 ≡ b → ltb a (10 * d) ≡ b
    go true t = lt-ltb a (10 * d) (subst (λ (x : ℕ). x < 10 * d) (sym e) (mul-lt-mul_of_pos_right (ltb-true n 10 t) p))
    go false t = le-ltb a (10 * d) (subst (λ (x : ℕ). 10 * d ≤ x) (sym e) (mul-le-mul_right d (ltb-false n 10 t)))

below_ten_lem : (x : Float) (s : Bool) (n : ℕ) → HasValue x s n 1 → below_ten x ≡ (s || ltb n 10)
unfolding below_ten ten lt of_bits
below_ten_lem nan s n v = elim v [ ]
below_ten_lem (inf _) s n v = elim v [ ]
below_ten_lem (fin true m e) s n v = lt-ltb 0 (m * up e * 1 + 10 * down e) (omega (arith, down_pos e)) ∙ ap (λ (t : Bool). t || ltb n 10) v.0
below_ten_lem (fin false m e) s n v = scaled n (down e) (m * up e * 1) (down_pos e) v.1 ∙ ap (λ (t : Bool). t || ltb n 10) v.0

-- a signed hour is below 10.0 where its sign is minus or there are fewer than ten
pub hour_below : (s : Bool) (n : ℕ) → n < 2 ^ 32 → below_ten (hour_of s n) ≡ (s || ltb n 10)
hour_below s n h = below_ten_lem (hour_of s n) s n (hour_value s n h)

-- ## The number of hours

absolute_value : (x : Float) (s : Bool) (n : ℕ) → HasValue x s n 1 → HasValue (absolute x) false n 1
unfolding absolute is_sign_negative neg
absolute_value nan s n v = elim v [ ]
absolute_value (inf _) s n v = elim v [ ]
absolute_value (fin true m e) s n v = (refl, v.1)
absolute_value (fin false m e) s n v = (refl, v.1)

absolute_fits : (x : Float) → T (fits binary64 x) → T (fits binary64 (absolute x))
unfolding absolute
absolute_fits x h = cond-fits binary64 (is_sign_negative x) (neg x) x (neg-fits binary64 x h) h

hour_absolute : (s : Bool) (n : ℕ) → n < 2 ^ 32 → absolute (hour_of s n) ≡ of_int binary64 (pos n)
unfolding hour_of of_int
hour_absolute s n h =
    whole_unique binary64 (absolute (hour_of s n)) (of_int binary64 (pos n)) false n
    (absolute_fits (hour_of s n) (round-fits binary64 s n 1)) (of_int-fits binary64 (pos n))
    (absolute_value (hour_of s n) s n (hour_value s n h)) (round_whole binary64 false n (exact n h))

hour_back : (n : ℕ) → n < 2 ^ 32 → T (in_unsigned binary64 32 (of_int binary64 (pos n))) × (to_unsigned 32 (of_int binary64 (pos n)) ≡ n)
unfolding in_float
hour_back n h = unsigned_back binary64 32 n (le→leb n (2 ^ 53) (exact n h)) h

pub hour_is : (s : Bool) (n : ℕ) → n < 2 ^ 32 → T (is_hour (hour_of s n))
unfolding is_hour
hour_is s n h = subst (λ (x : Float). T (in_unsigned binary64 32 x)) (sym (hour_absolute s n h)) (hour_back n h).0

pub hour_hours : (s : Bool) (n : ℕ) → n < 2 ^ 32 → whole_hours (hour_of s n) ≡ n
unfolding whole_hours
hour_hours s n h = ap (to_unsigned 32) (hour_absolute s n h) ∙ (hour_back n h).1

pub hour_not_nan : (x : Float) → T (is_hour x) → T (not (is_nan x))
unfolding is_hour absolute is_sign_negative in_unsigned is_nan
hour_not_nan nan h = absurd h
hour_not_nan (inf s) h = tt
hour_not_nan (fin s m e) h = tt

-- ## ±1.0 times n is n with that sign

plain : (s : Bool) → unlike s false ≡ s
plain true = refl
plain false = refl

times : (s : Bool) (n : ℕ) (x : Float) → HasValue x false n 1 → mul binary64 (fin s 1 (pos 0)) x ≡ round binary64 s n 1
unfolding mul
times s n nan v = elim v [ ]
times s n (inf _) v = elim v [ ]
times s n (fin t m e) v =
    ap (λ (b : Bool). round binary64 (unlike s b) (1 * (m * up e)) (1 * down e)) v.0
    ∙ ap (λ (b : Bool). round binary64 b (1 * (m * up e)) (1 * down e)) (plain s)
    ∙ round_same binary64 s (1 * (m * up e)) (1 * down e) n 1 (simp one-mul (down_pos e)) (lit< tt) (simp one-mul v.1)

signed : (s : Bool) (n : ℕ) → n < 2 ^ 32 → mul binary64 (fin s 1 (pos 0)) (of_int binary64 (pos n)) ≡ hour_of s n
unfolding hour_of of_int
signed s n h = times s n (round binary64 false n 1) (round_whole binary64 false n (exact n h))

-- the same with the sign of a branch: g is ±1.0 by s
pub signed_at : (s b : Bool) (g : Float) (n : ℕ) → s ≡ b → g ≡ fin b 1 (pos 0) → n < 2 ^ 32 → mul binary64 g (of_int binary64 (pos n)) ≡ hour_of s n
signed_at s b g n p q h = ap (λ (x : Float). mul binary64 x (of_int binary64 (pos n))) q ∙ signed b n h ∙ ap (λ (t : Bool). hour_of t n) (sym p)

-- ## The cast of the absolute value, in the arm where the sign is b

absolute_by : (x : Float) (b : Bool) {sign : Bool} → sign ≡ is_sign_negative x → sign ≡ b → absolute x ≡ cond b (neg x) x
unfolding absolute
absolute_by x b p h = ap (λ (t : Bool). cond t (neg x) x) (sym p ∙ h)

pub cast_fits : (x : Float) (b : Bool) {sign : Bool} → sign ≡ is_sign_negative x → sign ≡ b → T (is_hour x) → T (in_unsigned binary64 32 (cond b (neg x) x))
unfolding is_hour
cast_fits x b p h is = subst (λ (y : Float). T (in_unsigned binary64 32 y)) (absolute_by x b p h) is

pub cast_is : (x : Float) (b : Bool) {sign : Bool} → sign ≡ is_sign_negative x → sign ≡ b → to_unsigned 32 (cond b (neg x) x) ≡ whole_hours x
unfolding whole_hours
cast_is x b p h = ap (to_unsigned 32) (sym (absolute_by x b p h))
