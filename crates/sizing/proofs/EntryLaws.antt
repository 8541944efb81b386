-- What the entry counts at a witness, and what it answers for each way through it.
use Rattle.std.specs.Prelude.{Result, Ok, Err}
use mathlib.Core.Path.{◌≡◌, refl, sym, subst, ◌∙◌}
use mathlib.Core.Bool.{true, cond}
use mathlib.Core.List.{List}
use Prim.Native.Nat.{ℕ, zero, suc, ◌≤◌, ◌<◌, min, max}
use native.Mathlib.Omega.{arith}
use native.Mathlib.Decide.{dec_lt}
use borrow.Author.Tests.{lt-ltb, le-ltb}
use lib.Dec.{ltb, lit≤, nltb→le}
use lib.ListN.{length, take, replicate}
use Rattle.rules.specs.declared.Record.{Record}
use Rattle.rules.specs.declared.Refusal.{Refusal}
use Rattle.rules.specs.declared.Refusal.TheVariants.{InputTooLong, NoBuffer}
use Rattle.rules.specs.Ascii.{byte}
use Rattle.rules.specs.Record.{longest_format, longest_zone, longest_buffer, within}
use Rattle.rules.specs.Refusal.{number_of, Report, numbered}
use Rattle.rules.specs.Event.{Event, Holds}
use Rattle.rules.specs.Writing.{events_of}
use Rattle.rules.specs.Format.{items, events, fault, limit_of}
use Rattle.rules.specs.Size.{Kept, AnyStamp, GoodStamp, Sizing}
use Rattle.rules.proofs.EventLaws.{split_on}
use Rattle.rules.proofs.OneAnswer.{number_some}
use Rattle.text.specs.Ran.{Ran}
use Rattle.std.proofs.lemmas.List.{take-replicate}
use Rattle.text.proofs.RanLaws.{counted, same_events}
use Rattle.text.proofs.EntryLaws.{from_start, ran_refused}
use Rattle.longest.specs.Witness.{september, december, witness, longest_in, length_at, greater, is_too_long, has_no_buffer, unless, refuses, needing, report_of, size_by, size_of}
use Rattle.longest.proofs.Fitting.{run_fits}
use Rattle.longest.proofs.Checks.{in_range_holds}
use Rattle.longest.proofs.Members.{within_limit_lem}
use Rattle.longest.proofs.Witnesses.{witness_in_range}
use Rattle.longest.proofs.ThirdDemand.{size_is}

-- r and the zone name are what the witness is made of, and n is the place that its run comes to
module _ (month longest : ℕ) (format : List ℕ) {r : Record} (r-is : r ≡ (longest_in month 0).time) (kept : Kept format longest) {l l' : List ℕ} {n : ℕ}
    (ran : Ran (limit_of (length format)) longest_buffer (events (events_of r (take longest (replicate longest_zone (byte "A")))) (items format)) l 0 l' n) where
  abbrev at_witness : List Event
  at_witness = events (events_of (longest_in month longest).time (longest_in month longest).zone) (items format)

  witnessed : Ran (limit_of (length format)) longest_buffer at_witness l 0 l' n
  unfolding witness
  witnessed = same_events (rw (r-is, take-replicate longest longest_zone (byte "A") kept.zone_short)) ran

  measured : n ≤ longest_buffer → n ≡ min (suc longest_buffer) (length_at (longest_in month longest) format)
  measured h = omega (arith, counted witnessed h)

  -- its checks hold, so that only its length can refuse it
  unmeasured : fault (items format) ≡ 0 → within 1 12 month ≡ true → longest_buffer < n → suc longest_buffer ≡ min (suc longest_buffer) (length_at (longest_in month longest) format)
  unmeasured f m h =
      elim (dec_lt longest_buffer (length_at (longest_in month longest) format)) [ yes k ↦ omega arith | no k ↦ absurd (fitting (omega arith)) ]
    where
      holds : Holds at_witness
      holds = in_range_holds (longest_in month longest).time (longest_in month longest).zone (witness_in_range _ _ _ month longest (rw m tt)) (items format) f

      fitting : length_at (longest_in month longest) format ≤ longest_buffer → ⊥
      fitting k =
          let fits = run_fits (limit_of (length format)) longest_buffer at_witness holds k (within_limit_lem (longest_in month longest) format k) in
          let short = ran_refused (limit_of (length format)) longest_buffer at_witness n (from_start witnessed) h in
          let z : ◌≡◌ {A = ℕ} 0 1 = cc in absurd (omega arith)

  pub needed : fault (items format) ≡ 0 → within 1 12 month ≡ true → min n (suc longest_buffer) ≡ min (suc longest_buffer) (length_at (longest_in month longest) format)
  needed f m =
      elim (dec_lt longest_buffer n) [
        | yes h ↦ omega (arith, unmeasured f m h)
        | no h ↦ let l : n ≤ longest_buffer = omega arith in omega (arith, measured l)
      ]

-- ## The answer

pub kept : {format : List ℕ} {longest : ℕ} → length format ≤ longest_format → longest ≤ longest_zone → Kept format longest
kept f z = record { format_short = f; zone_short = z }

-- it is the size, and so what the third demand asks
abbrev pub Sized : List ℕ → ℕ → Result ℕ Refusal → Type 0
Sized format longest answer = (numbered answer ≡ size_of format longest) × Sizing (AnyStamp longest) (GoodStamp longest) format longest (numbered answer)

unless_fault : (number : ℕ) (rest : Report) → (number ≡ 0 → ⊥) → unless number rest ≡ refuses number
unless_fault zero rest h = absurd (h refl)
unless_fault (suc n) rest h = refl

module _ (format : List ℕ) (longest : ℕ) where
  abbrev longest_text : ℕ
  longest_text = greater (longest_in september longest) (longest_in december longest) format

  sized : (answer : Result ℕ Refusal) → numbered answer ≡ size_of format longest → Sized format longest answer
  sized answer e = (e, subst (Sizing (AnyStamp longest) (GoodStamp longest) format longest) (sym e) (size_is format longest))

  pub format_long : longest_format < length format → Sized format longest (Err InputTooLong)
  unfolding numbered number_of size_of size_by report_of
  format_long h = sized (Err InputTooLong) (rw (lt-ltb longest_format (length format) h))

  module _ (f : length format ≤ longest_format) where
    pub zone_long : longest_zone < longest → Sized format longest (Err InputTooLong)
    unfolding numbered number_of size_of size_by report_of
    zone_long h = sized (Err InputTooLong) (rw (le-ltb longest_format (length format) f, lt-ltb longest_zone longest h))

    -- number is the format's fault
    module _ (z : longest ≤ longest_zone) {number : ℕ} (is : number ≡ fault (items format)) where
      kept_report : size_of format longest ≡ unless number (cond (ltb longest_buffer longest_text) (refuses 6) (needing longest_text))
      unfolding size_of size_by report_of
      kept_report = rw (le-ltb longest_format (length format) f, le-ltb longest_zone longest z, is)

      pub fault_refused : (r : Refusal) → number_of r ≡ number → Sized format longest (Err r)
      unfolding numbered
      fault_refused r named =
          sized (Err r) (rw named (sym (kept_report ∙ unless_fault number _ (λ zero. number_some r (named ∙ zero)))))

      module _ (h : number ≡ 0) {a b : ℕ} (a-is : a ≡ min (suc longest_buffer) (length_at (longest_in september longest) format)) (b-is : b ≡ min (suc longest_buffer) (length_at (longest_in december longest) format)) (n : ℕ) (greatest : n ≡ max a b) where
        pub none_holds : longest_buffer < n → Sized format longest (Err NoBuffer)
        unfolding numbered number_of greater
        none_holds l = sized (Err NoBuffer) (sym (kept_report ∙ rw (h, lt-ltb longest_buffer longest_text (omega arith))))

        pub holds_all : n ≤ longest_buffer → Sized format longest (Ok n)
        unfolding numbered greater
        holds_all l =
            let same : n ≡ longest_text = omega arith in
            sized (Ok n) (sym (kept_report ∙ rw (h, le-ltb longest_buffer longest_text (omega arith), same)))

-- no size is above 65,536
pub size_small : (format : List ℕ) (longest : ℕ) → (size_of format longest).bytes ≤ longest_buffer
unfolding size_of size_by report_of
size_small format longest =
    split_on Small (is_too_long format longest) (λ t. lit≤ tt) (λ t. go (fault (items format)))
  where
    Small : Report → Type 0
    Small r = r.bytes ≤ longest_buffer

    go : (number : ℕ) → Small (unless number (cond (has_no_buffer (longest_text format longest)) (refuses 6) (needing (longest_text format longest))))
    go zero = split_on Small (has_no_buffer (longest_text format longest)) (λ t. lit≤ tt) (λ t. nltb→le _ _ t)
    go (suc n) = lit≤ tt
