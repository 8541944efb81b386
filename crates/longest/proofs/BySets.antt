-- The greater of two lengths is the size, for any sets of records with two extremes: 5, the format's fault and 6 in 01's order, else that length.
use mathlib.Core.Path.{◌≡◌, refl}
use mathlib.Core.Bool.{Bool, true, false, cond, not, ◌||◌}
use mathlib.Core.List.{List}
use mathlib.Core.Logic.{◌⊎◌, inl, inr}
use Prim.Native.Nat.{ℕ, zero, suc, ◌≤◌, ◌<◌}
use native.Mathlib.Omega.{arith}
use lib.Dec.{T, ltb, ltb→lt, nltb→le}
use lib.ListN.{length}
use Rattle.rules.specs.declared.Record.{Record}
use Rattle.rules.specs.Record.{longest_format, longest_zone, longest_buffer}
use Rattle.rules.specs.Format.{items, fault}
use Rattle.rules.specs.Size.{Stamps, SizeIs, NoneServes, Kept, Sizing, too_long, faulty, no_buffer, needs}
use Rattle.rules.proofs.EventLaws.{split_on}
use Rattle.longest.specs.Witness.{Stamp, greater, refuses, needing, is_too_long, has_no_buffer, unless, report_of, size_by}
use Rattle.longest.proofs.Members.{Sets}
use Rattle.longest.proofs.Extremes.{Extremes, Twin, size_is_greater, none_serves_greater}

either : (a b : Bool) → T (a || b) → T a ⊎ T b
either true b t = inl tt
either false b t = inr t

neither : (a b : Bool) → T (not (a || b)) → T (not a) × T (not b)
neither true b t = absurd t
neither false b t = (tt, t)

module _ (format : List ℕ) (longest : ℕ) where
  long : T (is_too_long format longest) → (longest_format < length format) ⊎ (longest_zone < longest)
  long t = elim (either (ltb longest_format (length format)) (ltb longest_zone longest) t) [ inl l ↦ inl (ltb→lt _ _ l) | inr l ↦ inr (ltb→lt _ _ l) ]

  kept : T (not (is_too_long format longest)) → Kept format longest
  kept t =
      let n = neither (ltb longest_format (length format)) (ltb longest_zone longest) t in
      record { format_short = nltb→le _ _ n.0; zone_short = nltb→le _ _ n.1 }

  -- a report keeps 01's order, if n is a size or above every buffer
  reported_in_order : {Every Some : Stamps} (n : ℕ) →
      (Kept format longest → fault (items format) ≡ 0 → longest_buffer < n → NoneServes Some format) →
      (Kept format longest → fault (items format) ≡ 0 → n ≤ longest_buffer → SizeIs Every Some format n) →
      Sizing Every Some format longest (report_of n format longest)
  unfolding report_of
  reported_in_order {Every} {Some} n none size =
      split_on (Sizing Every Some format longest) (is_too_long format longest) (λ t. too_long (long t)) (λ t. go (kept t) (fault (items format)) refl)
    where
      go : Kept format longest → (number : ℕ) → fault (items format) ≡ number → Sizing Every Some format longest (unless number (cond (has_no_buffer n) (refuses 6) (needing n)))
      go k zero e =
          split_on (Sizing Every Some format longest) (has_no_buffer n)
          (λ t. no_buffer k e (none k e (omega (arith, ltb→lt)))) (λ t. needs n k e (size k e (omega (arith, nltb→le))))
      go k (suc m) e = faulty m k e

pub sizing_by : {longest : ℕ} {Every Some : Stamps} (a b : ℕ → Stamp) → Sets longest Every Some → Extremes Some (a longest) (b longest) → ((r : Record) (zone : List ℕ) → Every r zone → Twin Some r zone) →
    (format : List ℕ) → Sizing Every Some format longest (size_by a b format longest)
unfolding size_by
sizing_by {longest} a b sets x twins format =
    reported_in_order format longest (greater (a longest) (b longest) format)
    (λ k e l. none_serves_greater sets format k e x l) (λ k e l. size_is_greater sets format k e x twins l)
