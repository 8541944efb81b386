-- Request 4: however a format is cut, answer and text are the whole format's; what the buffer holds after a refusal, and before the end.
use mathlib.Core.Path.{◌≡◌, refl, sym, ap, ◌∙◌}
use mathlib.Core.Bool.{Bool, true, false}
use mathlib.Core.List.{List, [], ◌∷◌, ◌++◌}
use mathlib.Core.Logic.{◌≢◌}
use Prim.Native.Nat.{ℕ, ◌+◌, ◌≤◌, ◌<◌}
use native.Mathlib.Omega.{arith}
use borrow.Author.Tests.{le-leb, leb-true}
use lib.Dec.{leb}
use lib.ListN.{length, take, drop, length-append}
use Rattle.rules.specs.Record.{longest_format}
use Rattle.rules.specs.Event.{Event, check, text_of, Count, at, no, tally, Outcome, done, refused, outcome_of, run, reported, buffer_after, Holds}
use Rattle.rules.specs.Writing.{events_of}
use Rattle.rules.specs.Format.{between, settled, items, events, inputs, limit_of, format_events, formatted}
use Rattle.rules.specs.Runs.{Call, bring, close, longest_run, Lent, Arrived, got, started, checks, rest, entered, called, called_all, Said, more, ended, said_by, said, written_all, runs_of, whole, short}
use Rattle.rules.proofs.EventLaws.{length_text, tally_join, tally_no, pass_first, tally_done}
use Rattle.rules.proofs.FormatLaws.{Numbered, numbered_items}
use Rattle.rules.proofs.EarlyLaws.{Fails, fails, NotFour, shown, shown_all, shown_full, shown_before}
use Rattle.rules.proofs.PendingLaws.{pending_fits}
use Rattle.rules.proofs.CallLaws as calls
use Rattle.rules.proofs.RunsLaws.{begins, so_far, Going, Came, came_start, came_runs, Ended, at_the_end}

-- ## What is pending

-- after any calls, of whatever runs and whether refused or not, no more is read than the total: so what is pending has at most that many bytes
module _ (lent : Lent) where
  record Within (s t : Arrived) : Type 0 where
    sum : t.total ≡ s.total
    had : got t ≤ s.total

  read_within : (s : Arrived) (c : Call) (n : ℕ) → Holds (checks lent s c) → got s ≤ s.total → got (entered lent s c (at n)) ≤ s.total
  unfolding Holds checks rest
  read_within s (bring bytes) n k h =
      omega (arith, leb-true (got s + length bytes) s.total k.1.1.1.1.0, pending_fits (s.pending ++ bytes), length-append s.pending bytes)
  read_within s close n k h = omega arith

  call_within : (s : Arrived) (c : Call) → got s ≤ s.total → Within s (called lent s c)
  call_within s c h = by (calls.went lent s c)
    where
      by : calls.Went lent s c → Within s (called lent s c)
      by (calls.repeated e k) = rw e (record { sum = refl; had = h })
      by (calls.refused number n t q w) = rw w.state (record { sum = refl; had = h })
      by (calls.through n q w) = rw w.state (record { sum = refl; had = read_within s c n w.holds h })

  calls_within : (s : Arrived) (cs : List Call) → got s ≤ s.total → got (called_all lent s cs) ≤ s.total
  unfolding called_all
  calls_within s [] h = h
  calls_within s (c ∷ cs) h =
      let w = call_within s c h in
      let k = calls_within (called lent s c) cs (omega (arith, w.sum, w.had)) in
      omega (arith, k, w.sum)

  pub pending_total : (total : ℕ) (cs : List Call) → length (called_all lent (begins lent total) cs).pending ≤ total
  unfolding started
  pending_total total cs = omega (arith, calls_within (begins lent total) cs (omega arith))

-- ## Before the end

module _ (lent : Lent) (total : ℕ) where
  -- "the text before the failing event, nothing of a directive not yet wholly read": after runs of which none is refused
  pub text_so_far : (rs : List (List ℕ)) (b : List ℕ) (n : ℕ) → short rs ≡ true → length (whole rs) ≤ total → (called_all lent (begins lent total) (runs_of rs)).count ≡ at n →
      written_all lent (begins lent total) (runs_of rs) b
      ≡ text_of (events (events_of lent.time lent.zone) (settled between (whole rs))) ++ drop (length (text_of (events (events_of lent.time lent.zone) (settled between (whole rs))))) b
  unfolding text_of
  text_so_far rs b n h f q =
      let w = came_runs lent total rs [] (begins lent total) b b h (omega arith) (came_start lent total b) in
      w.stands.bytes ∙ shown_all (limit_of total) lent.room (so_far lent total (settled between (whole rs))) b n (sym w.stands.counted ∙ q)

  -- ## A wrong total

  abbrev pub after_runs : List (List ℕ) → Arrived
  after_runs rs = called_all lent (begins lent total) (runs_of rs)

  module _ (rs : List (List ℕ)) (h : short rs ≡ true) (f : length (whole rs) ≤ total) (n : ℕ) (q : (after_runs rs).count ≡ at n) where
    came : Came lent total (whole rs) (after_runs rs) [] (written_all lent (begins lent total) (runs_of rs) [])
    came = came_runs lent total rs [] (begins lent total) [] [] h (omega arith) (came_start lent total [])

    goes : Going lent total (whole rs) (after_runs rs)
    goes = came.goes n q

    inputs_held : Holds (inputs (after_runs rs).total (length lent.zone) lent.room)
    unfolding Holds
    inputs_held =
        let k = (tally_done (limit_of total) lent.room (so_far lent total (settled between (whole rs))) 0 n (sym came.stands.counted ∙ q)).0 in
        (ap (λ (m : ℕ). leb m longest_format) goes.sum ∙ k.0, (k.1.0, (k.1.1.0, tt)))

    -- "LengthMismatch (10), given at the run that passes it, of which nothing is read"
    pub passed_total : (bytes : List ℕ) → length bytes ≤ longest_run → total < length (whole rs) + length bytes → calls.Turned lent (after_runs rs) (bring bytes) 10 n
    passed_total bytes g k = calls.passing_run lent (after_runs rs) goes.still n q inputs_held bytes g (omega (arith, goes.had, goes.sum))

    -- "or at the end, before 2"
    pub missed_total : length (whole rs) < total → calls.Turned lent (after_runs rs) close 10 n
    missed_total k = calls.short_end lent (after_runs rs) goes.still n q inputs_held (λ e. omega (arith, goes.had, goes.sum, e))

  -- ## The events of the start and of all items are the whole format's

  module _ (rs : List (List ℕ)) (h : short rs ≡ true) (e : length (whole rs) ≡ total) (enough : total ≤ lent.store) where
    abbrev outcome : Outcome
    outcome = formatted (whole rs) lent.zone lent.time lent.room

    abbrev pub all_events : List Event
    all_events = format_events (whole rs) lent.zone lent.time lent.room

    abbrev all_counted : Count
    all_counted = tally (limit_of total) lent.room all_events (at 0)

    pass_any : (es : List Event) (c : Count) → tally (limit_of total) lent.room (check true 4 ∷ es) c ≡ tally (limit_of total) lent.room es c
    pass_any es (at n) = pass_first (limit_of total) lent.room es 4 n
    pass_any es (no number n) =
        tally_no (limit_of total) lent.room (check true 4 ∷ es) number n ∙ sym (tally_no (limit_of total) lent.room es number n)

    same_count : tally (limit_of total) lent.room (so_far lent total (items (whole rs))) (at 0) ≡ all_counted
    unfolding format_events
    same_count =
        let l = limit_of total in
        let k = lent.room in
        let z = length lent.zone in
        let es = events (events_of lent.time lent.zone) (items (whole rs)) in
        tally_join l k (inputs total z k) (check (leb total lent.store) 4 ∷ es) (at 0)
        ∙ ap (λ (x : Bool). tally l k (check x 4 ∷ es) (tally l k (inputs total z k) (at 0))) (le-leb total lent.store enough)
        ∙ pass_any es (tally l k (inputs total z k) (at 0))
        ∙ sym (tally_join l k (inputs total z k) es (at 0))
        ∙ ap (λ (n : ℕ). tally l k (inputs n z k ++ es) (at 0)) (sym e)

    same_shown : (b : List ℕ) → shown (limit_of total) lent.room (so_far lent total (items (whole rs))) b ≡ shown (limit_of total) lent.room all_events b
    unfolding shown format_events text_of
    same_shown b = rw same_count

    outcome_is : (x : Count) → all_counted ≡ x → outcome ≡ outcome_of x (text_of all_events)
    unfolding formatted run
    outcome_is x q = rw (e, q)

    -- ## At the end

    said_is : (s : Arrived) (b₀ b : List ℕ) → Ended lent total (whole rs) s b₀ b → said s ≡ ended (reported outcome)
    unfolding said reported
    said_is s b₀ b w = go s.count refl
      where
        counted : s.count ≡ all_counted
        counted = w.stands.counted ∙ same_count

        go : (x : Count) → s.count ≡ x → said_by s.over s.count ≡ ended (reported outcome)
        go (at n) q =
            let t : all_counted ≡ at n = sym counted ∙ q in
            let size : n ≡ length (text_of all_events) = omega (arith, (tally_done (limit_of total) lent.room all_events 0 n t).1, length_text all_events) in
            ap (λ (y : Count). said_by s.over y) q ∙ ap (λ (o : Bool). said_by o (at n)) (w.ends n q) ∙ ap (λ (k : ℕ). ended (record { number = 0; bytes = k })) size
            ∙ sym (ap (λ (o : Outcome). ended (reported o)) (outcome_is (at n) t))
        go (no number m) q =
            ap (λ (y : Count). said_by s.over y) q ∙ sym (ap (λ (o : Outcome). ended (reported o)) (outcome_is (no number m) (sym counted ∙ q)))

    -- "However the format is cut, the answer .. equal the whole-format entry"; "later calls, also after the end, repeat the answer"
    pub cut_answer : (later : List Call) → said (called_all lent (begins lent total) (runs_of rs ++ (close ∷ later))) ≡ ended (reported outcome)
    cut_answer later = said_is _ [] _ (at_the_end lent total rs h e later [])

    counted_done : (text : List ℕ) → outcome ≡ done text → (x : Count) → all_counted ≡ x → (n : ℕ) × ((x ≡ at n) × (text ≡ text_of all_events))
    counted_done text q (at n) t = (n, (refl, let z : done (text_of all_events) ≡ done text = sym (outcome_is (at n) t) ∙ q in cc))
    counted_done text q (no number m) t =
        let z : refused number ≡ done text = sym (outcome_is (no number m) t) ∙ q in
        let z' : ◌≡◌ {A = ℕ} 0 1 = cc in
        absurd (omega arith)

    -- ".. and text": where it is done the buffer is the whole-format entry's
    pub cut_buffer : (later : List Call) (b text : List ℕ) → outcome ≡ done text → written_all lent (begins lent total) (runs_of rs ++ (close ∷ later)) b ≡ buffer_after outcome b
    unfolding buffer_after
    cut_buffer later b text q =
        let w = at_the_end lent total rs h e later b in
        let d = counted_done text q all_counted refl in
        w.stands.bytes ∙ same_shown b ∙ shown_all (limit_of total) lent.room all_events b d.0 d.1.0 ∙ sym (ap (λ (o : Outcome). buffer_after o b) (q ∙ ap done d.1.1))

    -- ## A refusal, at whatever call

    abbrev number_said : Said → ℕ
    number_said more = 0
    number_said (ended r) = r.number

    module _ (xs ys : List Call) (part : xs ++ ys ≡ runs_of rs ++ (close ∷ [])) (number : ℕ) (above : number ≢ 0)
        (no_more : said (called_all lent (begins lent total) xs) ≡ ended (record { number = number; bytes = 0 })) (b : List ℕ) where
      -- only a count that says no reports a refusal
      counted_no : (o : Bool) (x : Count) → said_by o x ≡ ended (record { number = number; bytes = 0 }) → (m : ℕ) × (x ≡ no number m)
      counted_no true (at n) z = absurd (above (sym (ap number_said z)))
      counted_no false (at n) z = absurd (above (sym (ap number_said z)))
      counted_no o (no k m) z = (m, ap (λ (i : ℕ). no i m) (ap number_said z))

      -- the calls that would come still change nothing
      ended_early : Ended lent total (whole rs) (called_all lent (begins lent total) xs) b (written_all lent (begins lent total) xs b)
      unfolding said
      ended_early =
          let s = called_all lent (begins lent total) xs in
          let q = counted_no s.over s.count no_more in
          let j = calls.calls_join lent (begins lent total) xs ys b in
          let a = calls.repeats_all lent s ys (written_all lent (begins lent total) xs b) (λ c. calls.refusal_repeats lent s c number q.0 q.1) in
          rw (← a.0, ← a.1, ← j.0, ← j.1, part) (at_the_end lent total rs h e [] b)

      refused_at : (m : ℕ) × (all_counted ≡ no number m)
      unfolding said
      refused_at =
          let s = called_all lent (begins lent total) xs in
          let q = counted_no s.over s.count no_more in
          (q.0, sym (ended_early.stands.counted ∙ same_count) ∙ q.1)

      -- it is the whole-format entry's
      pub refused_alike : outcome ≡ refused number
      refused_alike = let r = refused_at in outcome_is (no number r.0) r.1

      -- "after 4 the buffer holds the longest part of the text, from its start, that fits"
      pub after_four : number ≡ 4 → length b ≡ lent.room → written_all lent (begins lent total) xs b ≡ take lent.room (text_of all_events)
      unfolding format_events Numbered
      after_four f k =
          let r = refused_at in
          ended_early.stands.bytes ∙ same_shown b
          ∙ shown_full (limit_of total) lent.room all_events b r.0
          ((λ z. λ w. omega arith), ((λ z. λ w. omega arith), ((λ z. λ w. omega arith), numbered_items NotFour (λ i g w. w) lent.time lent.zone (items (whole rs))))) k
          (r.1 ∙ ap (λ (i : ℕ). no i r.0) f)

      -- "after any other refusal, the text before the failing event"
      pub after_other : number ≢ 4 → (m : ℕ) × ((f : Fails (limit_of total) lent.room all_events 0 number m) × (written_all lent (begins lent total) xs b ≡ text_of f.before ++ drop (length (text_of f.before)) b))
      after_other z =
          let r = refused_at in
          let f = fails (limit_of total) lent.room all_events 0 number r.0 r.1 in
          (r.0, (f, ended_early.stands.bytes ∙ same_shown b ∙ shown_before (limit_of total) lent.room all_events b number r.0 z f r.1))
