-- What crosses to a C caller: a yes or no, the length, the answer.
use mathlib.Core.Path.{◌≡◌, refl, ◌∙◌}
use mathlib.Core.Bool.{Bool, true, false, cond}
use mathlib.Core.List.{List}
use Prim.Native.Nat.{ℕ, ◌≤◌}
use native.Mathlib.Decide.{dec_le}
use native.Mathlib.Omega.{arith}
use lib.ListN.{length}
use mir.Val.{bool_byte}
use Rattle.rules.specs.declared.Record.{Record}
use Rattle.rules.specs.Record.{longest_format, longest_zone, longest_buffer}
use Rattle.rules.specs.Refusal.{Report}
use Rattle.rules.specs.Event.{Outcome, done, refused, reported, buffer_after}
use Rattle.rules.specs.Format.{formatted}
use Rattle.rules.proofs.FormatLaws.{format_too_long, zone_too_long, buffer_too_long}
use Rattle.rules.proofs.Demands.{done_fits}
use Rattle.groatsaddle.specs.declared.GsAnswer.{GsAnswer}
use Rattle.groatsaddle.specs.Entries.{report_from}

-- a yes or no, as the byte that it is cast to
pub byte_is : (b : Bool) → bool_byte b ≡ cond b 1 0
byte_is true = refl
byte_is false = refl

-- ## The length

refused_or : {X : Type 0} (format zone : List ℕ) (r : Record) (room : ℕ) (text : List ℕ) → formatted format zone r room ≡ done text → formatted format zone r room ≡ refused 5 → X
refused_or format zone r room text e f =
    let z : ◌≡◌ {A = ℕ} 0 1 = cc in
    absurd (omega arith)

done_small : (format zone : List ℕ) (r : Record) (room : ℕ) (text : List ℕ) → formatted format zone r room ≡ done text → length text ≤ longest_buffer
done_small format zone r room text e =
    elim (dec_le room longest_buffer) [
      | yes b ↦ omega (arith, done_fits format zone r room text e)
      | no b ↦ elim (dec_le (length format) longest_format) [
        | no f ↦ refused_or format zone r room text e (format_too_long format zone r room (omega arith))
        | yes f ↦ elim (dec_le (length zone) longest_zone) [
          | no z ↦ refused_or format zone r room text e (zone_too_long format zone r room f (omega arith))
          | yes z ↦ refused_or format zone r room text e (buffer_too_long format zone r room f z (omega arith))
        ]
      ]
    ]

-- the length that an outcome reports
pub outcome_small : (o : Outcome) → ((text : List ℕ) → o ≡ done text → length text ≤ longest_buffer) → (reported o).bytes ≤ longest_buffer
unfolding reported
outcome_small (done text) small = small text refl
outcome_small (refused number) small = omega arith

pub report_small : (format zone : List ℕ) (r : Record) (room : ℕ) → (reported (formatted format zone r room)).bytes ≤ longest_buffer
report_small format zone r room = outcome_small (formatted format zone r room) (done_small format zone r room)

-- ## The answer

-- a C caller's answer and buffer are what an outcome of its record asks
module _ (outcome : Record → Outcome) (before : List ℕ) {t u : Record} (s : t ≡ u) {after : List ℕ} where
  pub answered : {report : Report} (g : GsAnswer) → report_from g ≡ report → report ≡ reported (outcome t) → after ≡ buffer_after (outcome t) before →
      (report_from g ≡ reported (outcome u)) × (after ≡ buffer_after (outcome u) before)
  answered g e h k = rw (← s) (e ∙ h, k)
