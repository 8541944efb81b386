-- What an entry needs of a run from the start: its outcome, two runs that agree, the text in front of a list, and the text that came before a refusal.
use mathlib.Core.Path.{◌≡◌, sym, ap, ◌∙◌}
use mathlib.Core.List.{List, [], ◌++◌, append-nil}
use Prim.Native.Nat.{ℕ, ◌-◌, ◌/◌, ◌≤◌, ◌<◌}
use native.Mathlib.Omega.{arith}
use lib.ListN.{length, take, drop, drop_of_length-le}
use lib.Seq.{take_all, take-append_seam}
use Rattle.rules.specs.Event.{Event, text_of, at, no, tally, done, refused, run, buffer_after, reach_of}
use Rattle.rules.proofs.EventLaws.{length_text, tally_done}
use Rattle.text.specs.Ran.{count_at, Ran}
use Rattle.text.specs.Overlay.{overlay}
use Rattle.text.proofs.OverlayLaws.{overlay_front, overlay_taken}
use Rattle.text.proofs.PlaceLaws.{count_at_lem, count_no, same_place, reach_at, reach_no}
use Rattle.text.proofs.RanLaws.{laid, came}

-- ## By the place that was counted from the start

module _ (limit room : ℕ) (es : List Event) (r : ℕ) (c : count_at r ≡ tally limit room es (at 0)) where
  done_at : r ≤ 65536 → tally limit room es (at 0) ≡ at r
  done_at h = sym c ∙ count_at_lem r h

  -- the outcome
  pub ran_done : r ≤ 65536 → run limit room es ≡ done (text_of es)
  unfolding run
  ran_done h = rw (done_at h)

  pub ran_refused : 65536 < r → run limit room es ≡ refused (r / 131072)
  unfolding run
  ran_refused h = rw (sym c ∙ count_no r h)

  pub ran_length : r ≤ 65536 → r ≡ length (text_of es)
  ran_length h = omega (arith, (tally_done limit room es 0 r (done_at h)).1, length_text es)

  -- the buffer, left alone
  pub untouched : (b : List ℕ) → 65536 < r → b ≡ buffer_after (run limit room es) b
  unfolding buffer_after
  untouched b h = rw (ran_refused h)

module _ {limit room : ℕ} {es : List Event} where
  -- two runs of the same events come to the same place, whatever slices they are lent
  pub same_end : {a a' b b' : List ℕ} {n r s : ℕ} → Ran limit room es a n a' r → Ran limit room es b n b' s → r ≡ s
  same_end v w = same_place (v.count ∙ sym w.count)

  pub from_start : {l l' : List ℕ} {r : ℕ} → Ran limit room es l 0 l' r → count_at r ≡ tally limit room es (at 0)
  from_start w = w.count ∙ ap (tally limit room es) (count_at_lem 0 (omega arith))

  -- ## By the run

  module _ {l l' : List ℕ} {r : ℕ} (w : Ran limit room es l 0 l' r) where
    -- the text stands in front
    whole : r ≤ 65536 → r ≤ length l → (r ≡ length (text_of es)) × (l' ≡ text_of es ++ drop (length (text_of es)) l)
    whole g h = let e = ran_length limit room es r (from_start w) g in (e, laid w g ∙ overlay_front (text_of es) l (omega arith))

    pub stands : r ≤ 65536 → r ≤ length l → take r l' ≡ text_of es
    stands g h = rw ((whole g h).1, (whole g h).0) (take-append_seam (text_of es) (drop (length (text_of es)) l))

    -- the buffer, written by the run itself
    pub written : r ≤ 65536 → r ≤ length l → l' ≡ buffer_after (run limit room es) l
    unfolding buffer_after
    written g h = rw (ran_done limit room es r (from_start w) g) (whole g h).1

    -- ## Refused too: the text that came, and what stood behind it

    pub shown : reach_of (count_at r) ≤ length l → l' ≡ take (reach_of (count_at r)) (text_of es) ++ drop (reach_of (count_at r)) l
    shown h =
        let far : reach_of (count_at r) ≤ length (text_of es) = omega (arith, came w, length_text es) in
        let e : reach_of (count_at r) - 0 ≡ reach_of (count_at r) = omega arith in
        rw e at w.text ∙ overlay_taken (reach_of (count_at r)) (text_of es) l far h

    -- on 4, in a list as long as the room: the longest part of the text, from its start, that fits
    pub filled_up : count_at r ≡ no 4 room → length l ≡ room → (room ≤ length (text_of es)) × (l' ≡ take room (text_of es))
    filled_up e h =
        let q : reach_of (count_at r) ≡ room = reach_no r e in
        let none : drop room l ≡ [] = drop_of_length-le l {i = room} (omega arith) in
        (omega (arith, came w, length_text es), rw (q, none, append-nil) at (shown (omega arith)))

  -- ## A text that stands in front of one list, copied to the front of another: as good as a run there

  pub fronted : (n : ℕ) (l b : List ℕ) {b' : List ℕ} → tally limit room es (at 0) ≡ at n → n ≤ 65536 → take n l ≡ text_of es → n ≤ length b → b' ≡ take n l ++ drop n b → Ran limit room es b 0 b' n
  fronted n l b c h t k q =
      let e : n ≡ length (text_of es) = omega (arith, (tally_done limit room es 0 n c).1, length_text es) in
      let laid_there : overlay 0 (text_of es) b ≡ text_of es ++ drop n b = rw e (overlay_front (text_of es) b (omega arith)) in
      record {
        count = count_at_lem n h ∙ sym (ap (tally limit room es) (count_at_lem 0 (omega arith)) ∙ c);
        text =
            q
            ∙ ap (λ (x : List ℕ). x ++ drop n b) t
            ∙ sym laid_there
            ∙ ap (λ (x : List ℕ). overlay 0 x b) (sym (take_all (reach_of (count_at n) - 0) (text_of es) (omega (arith, reach_at n h))));
      }
