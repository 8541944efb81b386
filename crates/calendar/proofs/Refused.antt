-- What `.ok_or(x)?` answers where there is no value.
use Rattle.std.specs.Prelude.{◌≡◌, Option, None, Result, Ok, Err, IsErrAnd, ok_or}
use mathlib.Core.Path.{ap, ◌∙◌}
use Rattle.rules.specs.declared.Refusal.{Refusal}

pub refused_by : {T A : Type 0} {o : Option T} {x e : Refusal} (r : Result A Refusal) → o ≡ None → Err e ≡ ok_or o x → IsErrAnd r (λ f. f ≡ e) → r ≡ Err x
refused_by (Ok a) n k h = absurd h
refused_by {x = x} {e = e} (Err f) n k h =
    let same : e ≡ x = cc in
    ap Err (h ∙ same)
