-- What the entry answers, and the buffer afterwards, where `strftime`'s laws don't say it: 11, and a stored form that is run.
use Rattle.std.specs.Prelude.{Err}
use mathlib.Core.Path.{◌≡◌, refl, sym, ap, subst, ◌∙◌}
use mathlib.Core.Bool.{Bool, true, false, ◌&&◌}
use mathlib.Core.List.{List}
use Prim.Native.Nat.{ℕ, ◌+◌, ◌/◌, ◌≤◌, ◌<◌}
use borrow.Author.Tests.{le-leb}
use lib.ListN.{length, drop}
use Rattle.rules.specs.declared.Record.{Record}
use Rattle.rules.specs.declared.Refusal.{Refusal}
use Rattle.rules.specs.declared.Refusal.TheVariants.{BadStored}
use Rattle.rules.specs.Record.{longest_format, longest_zone, longest_buffer}
use Rattle.rules.specs.Refusal.{number_of, refusal_at, numbered}
use Rattle.rules.specs.Event.{text_of, at, number_in, run, reported, buffer_after}
use Rattle.rules.specs.Format.{limit_of}
use Rattle.rules.specs.Stored.{entries_taken, steps_taken, sections, well_stored, loaded, stored_events, formatted_stored}
use Rattle.rules.proofs.EventLaws.{pass_first}
use Rattle.rules.proofs.FormatLaws.{Numbered, CountOk, tally_ok}
use Rattle.rules.proofs.OneAnswer.{OfTable, number_known, event_number}
use Rattle.rules.proofs.StoredAnswers.{numbered_parts, bad_stored}
use Rattle.text.specs.Ran.{refused_unit, count_at}
use Rattle.text.proofs.PlaceLaws.{count_no}
use Rattle.sections.specs.Counted.{Agreed}
use Rattle.sections.proofs.CountLaws.{then_well, directives_here}
use Rattle.walk.specs.Stamp.{Stamped}
use Rattle.rules.proofs.Promised.{Promised}
use Rattle.stored.specs.Steps.{Sound, all_events}

-- ## The directives

module _ {s : List ℕ} {l d : ℕ} (w : Agreed s l d) {k : Bool} (e : k ≡ entries_taken d (drop (4 + l) s)) where
  entries_are : k ≡ entries_taken (sections s).directives (sections s).from_directives
  entries_are = e ∙ ap (λ (n : ℕ). entries_taken n (drop (4 + l) s)) w.directives ∙ ap (entries_taken (sections s).directives) (sym (directives_here w))

  pub sound : k ≡ true → Sound s l d
  sound t = record { counts = w; entries = sym entries_are ∙ t }

  pub unsound : k ≡ false → well_stored s ≡ false
  unsound t =
      then_well w ∙ ap (λ (b : Bool). b && steps_taken (sections s).steps (sections s).from_steps (sections s).directives (sections s).literals) (sym entries_are ∙ t)

-- ## The outcome

module _ (s : List ℕ) (n : ℕ) (zone : List ℕ) (r : Record) (room : ℕ) (f : n ≤ longest_format) (z : length zone ≤ longest_zone) (b : room ≤ longest_buffer) where
  pub unfit : (before : List ℕ) → well_stored s ≡ false → Promised (formatted_stored s n zone r room) before (Err BadStored) before
  unfolding numbered number_of reported buffer_after
  unfit before e = rw (bad_stored s n zone r room f z b e) (refl, refl)

  pub runs_all : formatted_stored s n zone r room ≡ run (limit_of n) room (all_events r zone s)
  unfolding formatted_stored stored_events run text_of
  runs_all = rw (le-leb n longest_format f, le-leb (length zone) longest_zone z, le-leb room longest_buffer b, pass_first, pass_first, pass_first)

-- every check has a number of the table
numbered_all : (r : Record) (zone s : List ℕ) → Numbered OfTable (all_events r zone s)
unfolding Numbered number_of
numbered_all r zone s = (λ e. (BadStored, refl), numbered_parts OfTable (λ number g other. event_number g) r zone (loaded s))

pub refusal_there : {limit : ℕ} (r : Record) (zone s : List ℕ) {l b l' b' : List ℕ} {n number : ℕ} {q : Refusal} → Stamped limit (all_events r zone s) l b l' b' n → longest_buffer < n → number ≡ number_in (count_at n) → q ≡ refusal_at number → number_of q ≡ n / refused_unit
unfolding number_in
refusal_there {limit} r zone s {b = b} {n = n} w h e q =
    let known : OfTable (n / refused_unit) = subst (CountOk OfTable) (sym w.count ∙ count_no n h) (tally_ok OfTable (λ number g. event_number g) limit (length b) (all_events r zone s) (at 0) (numbered_all r zone s) tt) in
    let is : number_in (count_at n) ≡ n / refused_unit = ap number_in (count_no n h) in
    ap number_of q ∙ ap (λ (k : ℕ). number_of (refusal_at k)) (e ∙ is) ∙ (number_known known).1
