-- Any two answers that the promise of a C entry allows are equal.
use mathlib.Core.Path.{◌≡◌, refl, sym, ap, ◌∙◌}
use mathlib.Core.List.{List}
use Prim.Native.Nat.{ℕ}
use lib.ListN.{length}
use Rattle.rules.specs.declared.Record.{Record}
use Rattle.rules.specs.Refusal.{Report}
use Rattle.rules.specs.Event.{Outcome, reported, buffer_after}
use Rattle.rules.specs.Format.{formatted}
use Rattle.rules.specs.Stored.{compiled, formatted_stored}
use Rattle.rules.specs.Size.{AnyStamp, GoodStamp, Sizing}
use Rattle.longest.proofs.ThirdDemand.{sizing_once}
use Rattle.groatsaddle.specs.declared.GsAnswer.{GsAnswer}
use Rattle.groatsaddle.specs.Entries.{report_from}

answer_by : Report → GsAnswer
answer_by r = record { refusal = r.number; length = r.bytes }

back : (a : GsAnswer) → answer_by (report_from a) ≡ a
unfolding answer_by report_from
back a = refl

one_answer : (a b : GsAnswer) → report_from a ≡ report_from b → a ≡ b
one_answer a b e = sym (back a) ∙ ap answer_by e ∙ back b

-- with the bytes that were lent
module _ (o : Outcome) (lent : List ℕ) (a b : GsAnswer) (after-a after-b : List ℕ) where
  once_by : report_from a ≡ reported o → after-a ≡ buffer_after o lent → report_from b ≡ reported o → after-b ≡ buffer_after o lent → (a ≡ b) × (after-a ≡ after-b)
  once_by p q p' q' = (one_answer a b (p ∙ sym p'), q ∙ sym q')

pub gs_format_once : (format zone : List ℕ) (r : Record) (buffer : List ℕ) (a b : GsAnswer) (after-a after-b : List ℕ) →
    report_from a ≡ reported (formatted format zone r (length buffer)) → after-a ≡ buffer_after (formatted format zone r (length buffer)) buffer →
    report_from b ≡ reported (formatted format zone r (length buffer)) → after-b ≡ buffer_after (formatted format zone r (length buffer)) buffer →
    (a ≡ b) × (after-a ≡ after-b)
gs_format_once format zone r buffer = once_by (formatted format zone r (length buffer)) buffer

pub gs_compile_once : (format stored : List ℕ) (a b : GsAnswer) (after-a after-b : List ℕ) →
    report_from a ≡ reported (compiled format (length stored)) → after-a ≡ buffer_after (compiled format (length stored)) stored →
    report_from b ≡ reported (compiled format (length stored)) → after-b ≡ buffer_after (compiled format (length stored)) stored →
    (a ≡ b) × (after-a ≡ after-b)
gs_compile_once format stored = once_by (compiled format (length stored)) stored

pub gs_stored_once : (s : List ℕ) (n : ℕ) (zone : List ℕ) (r : Record) (buffer : List ℕ) (a b : GsAnswer) (after-a after-b : List ℕ) →
    report_from a ≡ reported (formatted_stored s n zone r (length buffer)) → after-a ≡ buffer_after (formatted_stored s n zone r (length buffer)) buffer →
    report_from b ≡ reported (formatted_stored s n zone r (length buffer)) → after-b ≡ buffer_after (formatted_stored s n zone r (length buffer)) buffer →
    (a ≡ b) × (after-a ≡ after-b)
gs_stored_once s n zone r buffer = once_by (formatted_stored s n zone r (length buffer)) buffer

pub gs_size_once : (format : List ℕ) (longest : ℕ) (a b : GsAnswer) → Sizing (AnyStamp longest) (GoodStamp longest) format longest (report_from a) → Sizing (AnyStamp longest) (GoodStamp longest) format longest (report_from b) → a ≡ b
gs_size_once format longest a b s t = one_answer a b (sizing_once format longest (report_from a) (report_from b) s t)
