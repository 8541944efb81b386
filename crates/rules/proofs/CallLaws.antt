-- One call, whatever the state holds: an answer that is repeated, a refusal of the call's own, or a call that is read; and what it leaves as it was.
use mathlib.Core.Path.{◌≡◌, refl, sym, ap, ◌∙◌}
use mathlib.Core.Bool.{Bool, true, false, cond}
use mathlib.Core.List.{List, [], ◌∷◌, ◌++◌}
use Prim.Native.Nat.{ℕ, ◌+◌, ◌-◌, ◌≤◌, ◌<◌}
use native.Mathlib.Omega.{arith}
use borrow.Author.Tests.{le-leb, lt-leb, leb-true, ne_eqb, eqb-true, eqb-false}
use lib.Dec.{leb, eqb}
use lib.ListN.{length, take, drop}
use lib.Seq.{drop-drop}
use Rattle.rules.specs.declared.Refusal.TheVariants.{WriteZero, InputTooLong, LengthMismatch}
use Rattle.rules.specs.Refusal.{number_of}
use Rattle.rules.specs.Record.{longest_format, longest_zone, longest_buffer}
use Rattle.rules.specs.Event.{text_of, Count, at, no, reach_of, tally, Holds}
use Rattle.rules.specs.Format.{inputs, limit_of}
use Rattle.rules.specs.Runs.{Call, bring, close, longest_run, Lent, Arrived, limit_for, got, started, checks, added, entered, called, called_all, written, written_all, store_by, store_after}
use Rattle.rules.proofs.EventLaws.{length_text, tally_no, stop_first}
use Rattle.rules.proofs.FormatLaws.{Numbered}
use Rattle.rules.proofs.OneAnswer.{OfTable}
use Rattle.rules.proofs.ReachLaws.{reach_most, reach_least, reach_room}
use Rattle.rules.proofs.CheckLaws.{OnlyChecks, first_of, first_holds, first_number, first_fails, pass_all}
use Rattle.rules.proofs.EarlyLaws.{laid_same, laid_before, laid_behind, laid_length}

-- ## A call's own checks

pub five : OfTable 5
unfolding number_of
five = (InputTooLong, refl)

pub ten : OfTable 10
unfolding number_of
ten = (LengthMismatch, refl)

pub four : OfTable 4
unfolding number_of
four = (WriteZero, refl)

pub only_checks : (lent : Lent) (s : Arrived) (c : Call) → OnlyChecks (checks lent s c)
unfolding OnlyChecks checks
only_checks lent s (bring bytes) = tt
only_checks lent s close = tt

pub checks_numbered : (lent : Lent) (s : Arrived) (c : Call) → Numbered OfTable (checks lent s c)
unfolding Numbered checks
checks_numbered lent s (bring bytes) = (λ e. five, (λ e. five, (λ e. five, (λ e. five, (λ e. ten, (λ e. four, (λ e. four, tt)))))))
checks_numbered lent s close = (λ e. five, (λ e. five, (λ e. five, (λ e. ten, (λ e. four, tt)))))

-- where they hold, the text so far lies in the buffer
place_holds : (lent : Lent) (s : Arrived) (c : Call) → Holds (checks lent s c) → reach_of s.count ≤ lent.room
unfolding Holds checks
place_holds lent s (bring bytes) h = leb-true _ _ h.1.1.1.1.1.1.0
place_holds lent s close h = leb-true _ _ h.1.1.1.1.0

-- ## What a call does

module _ (lent : Lent) (s : Arrived) (c : Call) where
  abbrev tallied : Count → Count
  tallied x = tally (limit_for s) lent.room (checks lent s c) x

  -- after the end
  pub end_repeats : s.over ≡ true → called lent s c ≡ s
  unfolding called
  end_repeats e = rw e

  pub end_stores : s.over ≡ true → (store : List ℕ) → store_after lent s c store ≡ store
  unfolding store_after
  end_stores e store = rw e

  -- before it, by the count after the checks
  module _ (o : s.over ≡ false) (x : Count) (p : tallied s.count ≡ x) where
    is_entered : called lent s c ≡ entered lent s c x
    unfolding called
    is_entered = rw (p, o)

    is_stored : (store : List ℕ) → store_after lent s c store ≡ store_by s c store x
    unfolding store_after
    is_stored store = rw (p, o)

  -- after a refusal
  module _ (number m : ℕ) (q : s.count ≡ no number m) where
    still_no : tallied s.count ≡ no number m
    still_no = ap tallied q ∙ tally_no (limit_for s) lent.room (checks lent s c) number m

    pub refusal_repeats : called lent s c ≡ s
    refusal_repeats = by s.over refl
      where
        by : (b : Bool) → s.over ≡ b → called lent s c ≡ s
        by true o = end_repeats o
        by false o =
            is_entered o (no number m) still_no
            ∙ ap (λ (x : Count). record { total = s.total; passed = s.passed; pending = s.pending; over = s.over; count = x }) (sym q)

    pub refusal_stores : (store : List ℕ) → store_after lent s c store ≡ store
    refusal_stores store = by s.over refl
      where
        by : (b : Bool) → s.over ≡ b → store_after lent s c store ≡ store
        by true o = end_stores o store
        by false o = is_stored o (no number m) still_no store

  -- then no byte is written
  pub repeats_write : (b : List ℕ) → called lent s c ≡ s → written lent s c b ≡ b
  unfolding written
  repeats_write b e = rw e (laid_same (reach_of s.count) (text_of (added lent s c)) b)

  -- nothing is read, and nothing is written
  pub record Turned (number n : ℕ) : Type 0 where
    pub state : called lent s c ≡ record { total = s.total; passed = s.passed; pending = s.pending; over = s.over; count = no number n }
    pub bytes : (b : List ℕ) → written lent s c b ≡ b
    pub store : (store : List ℕ) → store_after lent s c store ≡ store

  pub record Read (n : ℕ) : Type 0 where
    pub holds : Holds (checks lent s c)
    pub state : called lent s c ≡ entered lent s c (at n)
    pub store : (store : List ℕ) → store_after lent s c store ≡ store_by s c store (at n)

  module _ (o : s.over ≡ false) (n : ℕ) (q : s.count ≡ at n) where
    -- the first of its checks that fails
    pub turned : (number : ℕ) → first_of (checks lent s c) ≡ number → (number ≡ 0 → ⊥) → Turned number n
    unfolding written reach_of
    turned number e h =
        let p : tallied s.count ≡ no number n =
        ap tallied q ∙ first_fails (limit_for s) lent.room (checks lent s c) n (only_checks lent s c) (λ z. h (sym e ∙ z)) ∙ ap (λ (k : ℕ). no k n) e in
        let i = is_entered o (no number n) p in
        record {
          state = i;
          bytes = λ b. let e : reach_of s.count ≡ n = ap reach_of q in rw (i, e) (laid_same n (text_of (added lent s c)) b);
          store = is_stored o (no number n) p;
        }

    -- or none
    pub was_read : Holds (checks lent s c) → Read n
    was_read h =
        let p : tallied s.count ≡ at n = ap tallied q ∙ pass_all (limit_for s) lent.room (checks lent s c) n (only_checks lent s c) h in
        record { holds = h; state = is_entered o (at n) p; store = is_stored o (at n) p }

  -- the three ways of a call
  pub data Went : Type 0 where
    repeated : called lent s c ≡ s → ((store : List ℕ) → store_after lent s c store ≡ store) → Went
    refused : (number n : ℕ) → OfTable number → s.count ≡ at n → Turned number n → Went
    through : (n : ℕ) → s.count ≡ at n → Read n → Went

  pub went : Went
  went = by s.over refl s.count refl
    where
      by : (b : Bool) → s.over ≡ b → (x : Count) → s.count ≡ x → Went
      by true o x q = repeated (end_repeats o) (end_stores o)
      by false o (no number m) q = repeated (refusal_repeats number m q) (refusal_stores number m q)
      by false o (at n) q = first (eqb (first_of (checks lent s c)) 0) refl
        where
          first : (b : Bool) → eqb (first_of (checks lent s c)) 0 ≡ b → Went
          first true e = through n q (was_read o n q (first_holds (checks lent s c) (only_checks lent s c) (checks_numbered lent s c) (eqb-true _ 0 e)))
          first false e =
              let h = eqb-false (first_of (checks lent s c)) 0 e in
              refused (first_of (checks lent s c)) n (first_number (checks lent s c) (only_checks lent s c) (checks_numbered lent s c) h) q (turned o n q (first_of (checks lent s c)) refl h)

-- ## 5, then 10, then all else

all_five : (x y z : Bool) → cond {A = ℕ} x (cond y (cond z 5 5) 5) 5 ≡ 5
all_five false y z = refl
all_five true false z = refl
all_five true true false = refl
all_five true true true = refl

-- "as is a total above 4,096", whatever else is wrong
pub long_total : (total zone_length room store : ℕ) → longest_format < total → (started total zone_length room store).count ≡ no 5 0
unfolding started
long_total total zone_length room store h = rw (lt-leb total longest_format h) (stop_first (limit_of total) room _ 5 0)

module _ (lent : Lent) (s : Arrived) (o : s.over ≡ false) (n : ℕ) (q : s.count ≡ at n) where
  -- "a longer run is 5, before 10", whatever else is wrong
  pub longer_run : (bytes : List ℕ) → longest_run < length bytes → Turned lent s (bring bytes) 5 n
  unfolding checks first_of
  longer_run bytes h =
      turned lent s (bring bytes) o n q 5
      (rw (lt-leb (length bytes) longest_run h) (all_five (leb s.total longest_format) (leb (length lent.zone) longest_zone) (leb lent.room longest_buffer)))
      (λ e. omega arith)

  module _ (i : Holds (inputs s.total (length lent.zone) lent.room)) where
    -- "given at the run that passes it, of which nothing is read"
    pub passing_run : (bytes : List ℕ) → length bytes ≤ longest_run → s.total < got s + length bytes → Turned lent s (bring bytes) 10 n
    unfolding checks first_of Holds
    passing_run bytes h g =
        turned lent s (bring bytes) o n q 10
        (rw (i.0, i.1.0, i.1.1.0, le-leb (length bytes) longest_run h, lt-leb (got s + length bytes) s.total g)) (λ e. omega arith)

    -- "or at the end, before 2"
    pub short_end : (got s ≡ s.total → ⊥) → Turned lent s close 10 n
    unfolding checks first_of Holds
    short_end h = turned lent s close o n q 10 (rw (i.0, i.1.0, i.1.1.0, ne_eqb (got s) s.total h)) (λ e. omega arith)

-- ## What stays of the buffer

-- the text so far, and all behind the text as it comes
pub record Adds (lent : Lent) (s : Arrived) (c : Call) (b : List ℕ) : Type 0 where
  pub onward : reach_of s.count ≤ reach_of (called lent s c).count
  pub before : take (reach_of s.count) (written lent s c b) ≡ take (reach_of s.count) b
  pub behind : drop (reach_of (called lent s c).count) (written lent s c b) ≡ drop (reach_of (called lent s c).count) b
  pub long : length (written lent s c b) ≡ length b

module _ (lent : Lent) (s : Arrived) (c : Call) (b : List ℕ) where
  still : reach_of (called lent s c).count ≡ reach_of s.count → written lent s c b ≡ b → Adds lent s c b
  still e k = record { onward = omega arith; before = rw k; behind = rw k; long = rw k }

  pub adds : length b ≡ lent.room → Adds lent s c b
  unfolding reach_of written
  adds size = by (went lent s c)
    where
      by : Went lent s c → Adds lent s c b
      by (repeated e k) = still (ap (λ (x : Arrived). reach_of x.count) e) (repeats_write lent s c b e)
      by (refused number n t q w) = still (ap (λ (x : Arrived). reach_of x.count) w.state ∙ sym (ap reach_of q)) (w.bytes b)
      by (through n q w) =
          let l = limit_for s in
          let es = added lent s c in
          let from : reach_of s.count ≡ n = ap reach_of q in
          let to : reach_of (called lent s c).count ≡ reach_of (tally l lent.room es (at n)) = ap (λ (x : Arrived). reach_of x.count) w.state in
          let low : n ≤ lent.room = omega (arith, place_holds lent s c w.holds) in
          let h : reach_of s.count ≤ reach_of (called lent s c).count = omega (arith, reach_least l lent.room es n low) in
          let g : reach_of (called lent s c).count ≤ length b = omega (arith, reach_room l lent.room es n low) in
          let k : reach_of (called lent s c).count ≤ reach_of s.count + length (text_of es) = omega (arith, reach_most l lent.room es n, length_text es) in
          record { onward = h; before = laid_before _ _ (text_of es) b h g k; behind = laid_behind _ _ (text_of es) b h g k; long = laid_length _ _ (text_of es) b h g k }

-- ## Calls one after the other

-- an answer that is repeated once is repeated for ever
pub repeats_all : (lent : Lent) (s : Arrived) (cs : List Call) (b : List ℕ) → ((c : Call) → called lent s c ≡ s) → (called_all lent s cs ≡ s) × (written_all lent s cs b ≡ b)
unfolding called_all written_all
repeats_all lent s [] b h = (refl, refl)
repeats_all lent s (c ∷ cs) b h = rw (h c, repeats_write lent s c b (h c)) (repeats_all lent s cs b h)

pub calls_join : (lent : Lent) (s : Arrived) (xs ys : List Call) (b : List ℕ) →
    (called_all lent s (xs ++ ys) ≡ called_all lent (called_all lent s xs) ys) × (written_all lent s (xs ++ ys) b ≡ written_all lent (called_all lent s xs) ys (written_all lent s xs b))
unfolding called_all written_all
calls_join lent s [] ys b = (refl, refl)
calls_join lent s (x ∷ xs) ys b = calls_join lent (called lent s x) xs ys (written lent s x b)

drop_more : (k m : ℕ) (x y : List ℕ) → k ≤ m → drop k x ≡ drop k y → drop m x ≡ drop m y
drop_more k m x y h e =
    let f : m ≡ k + (m - k) = omega arith in
    rw f (sym (drop-drop (m - k) k x) ∙ ap (drop (m - k)) e ∙ drop-drop (m - k) k y)

pub record AddsAll (lent : Lent) (s : Arrived) (cs : List Call) (b : List ℕ) : Type 0 where
  pub onward : reach_of s.count ≤ reach_of (called_all lent s cs).count
  pub behind : drop (reach_of (called_all lent s cs).count) (written_all lent s cs b) ≡ drop (reach_of (called_all lent s cs).count) b
  pub long : length (written_all lent s cs b) ≡ length b

-- the bytes behind the text stay, whatever is called
pub adds_all : (lent : Lent) (s : Arrived) (cs : List Call) (b : List ℕ) → length b ≡ lent.room → AddsAll lent s cs b
unfolding called_all written_all
adds_all lent s [] b size = record { onward = omega arith; behind = refl; long = refl }
adds_all lent s (c ∷ cs) b size =
    let a = adds lent s c b size in
    let w = adds_all lent (called lent s c) cs (written lent s c b) (a.long ∙ size) in
    record {
      onward = omega (arith, a.onward, w.onward);
      behind = w.behind ∙ drop_more _ _ (written lent s c b) b w.onward a.behind;
      long = w.long ∙ a.long;
    }
