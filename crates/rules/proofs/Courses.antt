-- Request 4, of what a caller holds: the numbers that `start`, `run` and `end` give, over one zone name, record, store and buffer.
use mathlib.Core.Path.{◌≡◌, refl, sym, ap, ◌∙◌}
use mathlib.Core.Bool.{Bool, true, false, cond}
use mathlib.Core.List.{List, [], ◌∷◌, ◌++◌}
use mathlib.Core.Logic.{◌≢◌}
use Prim.Native.Nat.{ℕ, ◌+◌, ◌≤◌, ◌<◌}
use native.Mathlib.Omega.{arith}
use lib.Dec.{eqb}
use lib.ListN.{length, take, drop}
use Rattle.rules.specs.declared.Record.{Record}
use Rattle.rules.specs.declared.Runs.{Runs}
use Rattle.rules.specs.declared.Progress.{Progress}
use Rattle.rules.specs.declared.Progress.TheVariants.{More, Done, Refused}
use Rattle.rules.specs.Refusal.{refusal_at, Report}
use Rattle.rules.specs.Event.{text_of, Count, at, no, reach_of, done, refused, reported, buffer_after}
use Rattle.rules.specs.Writing.{events_of}
use Rattle.rules.specs.Format.{between, settled, events, limit_of, format_events, formatted}
use Rattle.rules.specs.Runs.{Call, bring, close, longest_run, Lent, Arrived, started, called, called_all, Said, more, ended, progressed, said_by, said, written_all, store_after, runs_of, whole, short, Held, said_in, arrived_of, lent_of, begun, held_after, held_all}
use Rattle.rules.proofs.OneAnswer.{refusal_at_lem}
use Rattle.rules.proofs.EarlyLaws.{Fails}
use Rattle.rules.proofs.CallLaws as calls
use Rattle.rules.proofs.HeldLaws.{reach_by, next, next_all, begun_state}
use Rattle.rules.proofs.RunsHold.{text_so_far, after_runs, passed_total, missed_total, cut_answer, cut_buffer, refused_alike, after_four, after_other}

-- ## Any two answers are equal

-- back from what is said
progress_by : Said → Progress
progress_by more = More
progress_by (ended r) = cond (eqb r.number 0) (Done r.bytes) (Refused (refusal_at r.number))

back : (a : Progress) → progress_by (progressed a) ≡ a
unfolding progress_by progressed
back More = refl
back (Done n) = refl
back (Refused e) = let r = refusal_at_lem e in rw r.0 (ap Refused r.1)

pub one_progress : (a b : Progress) → progressed a ≡ progressed b → a ≡ b
one_progress a b e = sym (back a) ∙ ap progress_by e ∙ back b

-- two results of the first call, each with its answer, that its promise allows
pub start_once : (total : ℕ) (zone store buffer : List ℕ) (r t : Runs) (a b : Progress) →
    r ≡ (begun total zone store buffer).numbers → progressed a ≡ said_in r → t ≡ (begun total zone store buffer).numbers → progressed b ≡ said_in t → (r ≡ t) × (a ≡ b)
start_once total zone store buffer r t a b p q p' q' = (p ∙ sym p', one_progress a b (q ∙ ap said_in (p ∙ sym p') ∙ sym q'))

-- two results of a run or an end, each with its answer, store and buffer
pub call_once : (zone : List ℕ) (time : Record) (h : Held) (c : Call) (r t : Held) (a b : Progress) →
    r ≡ held_after zone time h c → progressed a ≡ said_in r.numbers → t ≡ held_after zone time h c → progressed b ≡ said_in t.numbers → (r ≡ t) × (a ≡ b)
call_once zone time h c r t a b p q p' q' =
    (p ∙ sym p', one_progress a b (q ∙ ap (λ (x : Held). said_in x.numbers) (p ∙ sym p') ∙ sym q'))

-- the answer is r, and store and buffer are left as they were
pub record Ends (r : Report) (h h' : Held) : Type 0 where
  pub answer : said_in h'.numbers ≡ ended r
  pub store : h'.store ≡ h.store
  pub buffer : h'.buffer ≡ h.buffer

-- ## Later calls repeat the answer

-- whatever the numbers hold: they needn't come from calls
module _ (zone : List ℕ) (time : Record) (h : Held) (r : Report) (ends : said_in h.numbers ≡ ended r) (c : Call) where
  abbrev was : Arrived
  was = arrived_of h.numbers h.store

  abbrev lent : Lent
  lent = lent_of zone time h

  not_more : (o : Bool) (n : ℕ) → said_by o (at n) ≡ ended r → o ≡ true
  not_more true n e = refl
  not_more false n e = let z : ◌≡◌ {A = ℕ} 0 1 = cc in absurd (omega arith)

  stays : (x : Count) → was.count ≡ x → (called lent was c ≡ was) × (store_after lent was c h.store ≡ h.store)
  stays (no number m) q = (calls.refusal_repeats lent was c number m q, calls.refusal_stores lent was c number m q h.store)
  stays (at n) q =
      let o = not_more was.over n (sym (ap (said_by was.over) q) ∙ ends) in
      (calls.end_repeats lent was c o, calls.end_stores lent was c o h.store)

  pub held_repeats : Ends r h (held_after zone time h c)
  unfolding held_after said
  held_repeats =
      let k = stays was.count refl in
      record {
        answer = ap said ((next zone time h c).state ∙ k.0) ∙ ends;
        store = k.1;
        buffer = calls.repeats_write lent was c h.buffer k.0;
      }

-- ## A format cut into runs

module _ (zone : List ℕ) (time : Record) (total : ℕ) (store buffer : List ℕ) where
  abbrev pub first : Held
  first = begun total zone store buffer

  abbrev all : Lent
  all = lent_of zone time first

  state_is : (cs : List Call) → arrived_of (held_all zone time first cs).numbers (held_all zone time first cs).store ≡ called_all all (started total (length zone) (length buffer) (length store)) cs
  state_is cs = (next_all zone time first cs).state ∙ ap (λ (s : Arrived). called_all all s cs) (begun_state zone time total store buffer)

  answer_is : (cs : List Call) → said_in (held_all zone time first cs).numbers ≡ said (called_all all (started total (length zone) (length buffer) (length store)) cs)
  unfolding said
  answer_is cs = ap said (state_is cs)

  buffer_is : (cs : List Call) → (held_all zone time first cs).buffer ≡ written_all all (started total (length zone) (length buffer) (length store)) cs buffer
  buffer_is cs = (next_all zone time first cs).buffer ∙ ap (λ (s : Arrived). written_all all s cs buffer) (begun_state zone time total store buffer)

  -- bytes behind the text stay, whatever is called
  pub course_behind : (cs : List Call) → drop (held_all zone time first cs).numbers.written (held_all zone time first cs).buffer ≡ drop (held_all zone time first cs).numbers.written buffer
  course_behind cs =
      let n = (held_all zone time first cs).numbers in
      let s = started total (length zone) (length buffer) (length store) in
      let e : n.written ≡ reach_of (called_all all s cs).count = sym (reach_by n.number n.written) ∙ ap (λ (x : Arrived). reach_of x.count) (state_is cs) in
      rw (e, buffer_is cs) (calls.adds_all all s cs buffer refl).behind

  counted_at : (o : Bool) (x : Count) → said_by o x ≡ more → (n : ℕ) × (x ≡ at n)
  counted_at o (at n) z = (n, refl)
  counted_at o (no number m) z = let z' : ◌≡◌ {A = ℕ} 0 1 = cc in absurd (omega arith)

  -- after runs of which none is refused: the text of what they settle, "nothing of a directive not yet wholly read"
  pub course_so_far : (rs : List (List ℕ)) → short rs ≡ true → length (whole rs) ≤ total → said_in (held_all zone time first (runs_of rs)).numbers ≡ more →
      (held_all zone time first (runs_of rs)).buffer
      ≡ text_of (events (events_of time zone) (settled between (whole rs))) ++ drop (length (text_of (events (events_of time zone) (settled between (whole rs))))) buffer
  unfolding said
  course_so_far rs h f q =
      let s = called_all all (started total (length zone) (length buffer) (length store)) (runs_of rs) in
      let n = counted_at s.over s.count (sym (answer_is (runs_of rs)) ∙ q) in
      buffer_is (runs_of rs) ∙ text_so_far all total rs buffer n.0 h f n.1

  -- ## A wrong total

  module _ (rs : List (List ℕ)) (h : short rs ≡ true) (f : length (whole rs) ≤ total) (q : said_in (held_all zone time first (runs_of rs)).numbers ≡ more) where
    abbrev pub so_far : Held
    so_far = held_all zone time first (runs_of rs)

    refuses : (c : Call) (n : ℕ) → calls.Turned all (after_runs all total rs) c 10 n → Ends (record { number = 10; bytes = 0 }) so_far (held_after zone time so_far c)
    unfolding held_after said
    refuses c n w =
        let k = (next_all zone time first (runs_of rs)).lent in
        record {
          answer = ap said (next zone time so_far c).state ∙ rw (k, state_is (runs_of rs)) (ap said w.state);
          store = rw (k, state_is (runs_of rs)) (w.store so_far.store);
          buffer = rw (k, state_is (runs_of rs)) (w.bytes so_far.buffer);
        }

    counted_so_far : (n : ℕ) × ((after_runs all total rs).count ≡ at n)
    unfolding said
    counted_so_far =
        let s = after_runs all total rs in
        counted_at s.over s.count (sym (answer_is (runs_of rs)) ∙ q)

    -- "LengthMismatch (10), given at the run that passes it, of which nothing is read"
    pub course_passed : (bytes : List ℕ) → length bytes ≤ longest_run → total < length (whole rs) + length bytes →
        Ends (record { number = 10; bytes = 0 }) so_far (held_after zone time so_far (bring bytes))
    course_passed bytes g k =
        let n = counted_so_far in
        refuses (bring bytes) n.0 (passed_total all total rs h f n.0 n.1 bytes g k)

    -- "or at the end, before 2"
    pub course_missed : length (whole rs) < total → Ends (record { number = 10; bytes = 0 }) so_far (held_after zone time so_far close)
    course_missed k =
        let n = counted_so_far in
        refuses close n.0 (missed_total all total rs h f n.0 n.1 k)

  -- ## The right total

  module _ (rs : List (List ℕ)) (h : short rs ≡ true) (e : length (whole rs) ≡ total) (enough : total ≤ length store) where
    -- "However the format is cut, the answer .. equal the whole-format entry": the end's, and every later one
    pub course_answer : (later : List Call) → said_in (held_all zone time first (runs_of rs ++ (close ∷ later))).numbers ≡ ended (reported (formatted (whole rs) zone time (length buffer)))
    course_answer later = answer_is (runs_of rs ++ (close ∷ later)) ∙ cut_answer all total rs h e enough later

    -- ".. and text": where it is done, so is the buffer
    pub course_buffer : (later : List Call) (text : List ℕ) → formatted (whole rs) zone time (length buffer) ≡ done text →
        (held_all zone time first (runs_of rs ++ (close ∷ later))).buffer ≡ buffer_after (formatted (whole rs) zone time (length buffer)) buffer
    course_buffer later text q = buffer_is (runs_of rs ++ (close ∷ later)) ∙ cut_buffer all total rs h e enough later buffer text q

    -- a refusal at whatever call: xs were made, ys were still to come
    module _ (xs ys : List Call) (part : xs ++ ys ≡ runs_of rs ++ (close ∷ [])) (number : ℕ) (above : number ≢ 0)
        (refusal : said_in (held_all zone time first xs).numbers ≡ ended (record { number = number; bytes = 0 })) where
      refused_there : said (called_all all (started total (length zone) (length buffer) (length store)) xs) ≡ ended (record { number = number; bytes = 0 })
      refused_there = sym (answer_is xs) ∙ refusal

      -- it is the whole-format entry's
      pub course_refused : formatted (whole rs) zone time (length buffer) ≡ refused number
      course_refused = refused_alike all total rs h e enough xs ys part number above refused_there buffer

      -- "after 4 the buffer holds the longest part of the text, from its start, that fits"
      pub course_four : number ≡ 4 → (held_all zone time first xs).buffer ≡ take (length buffer) (text_of (format_events (whole rs) zone time (length buffer)))
      course_four q = buffer_is xs ∙ after_four all total rs h e enough xs ys part number above refused_there buffer q refl

      -- "after any other refusal, the text before the failing event"
      pub course_other : number ≢ 4 → (m : ℕ) × ((f : Fails (limit_of total) (length buffer) (format_events (whole rs) zone time (length buffer)) 0 number m)
          × ((held_all zone time first xs).buffer ≡ text_of f.before ++ drop (length (text_of f.before)) buffer))
      course_other q =
          let w = after_other all total rs h e enough xs ys part number above refused_there buffer q in
          (w.0, (w.1.0, buffer_is xs ∙ w.1.1))
