-- The laws of runs: the place and the bytes that a run leads to, one run after the other, the same run told by other events, writes and refusals.
use mathlib.Core.Path.{◌≡◌, refl, sym, ap, ◌∙◌, subst}
use mathlib.Core.Bool.{Bool, true, false}
use mathlib.Core.List.{List, [], ◌∷◌, ◌++◌, append_assoc, append-nil}
use Prim.Native.Nat.{ℕ, ◌+◌, ◌-◌, ◌≤◌, ◌<◌}
use native.Mathlib.Omega.{arith}
use native.Mathlib.Decide.{dec_lt}
use lib.ListN.{length, take, drop, replicate, length-take}
use lib.Seq.{take_all, take-nil, take-append-le, take-append-add}
use Rattle.rules.specs.Event.{put, pad, Event, write, check, bytes_of, text_of, length_of, at, write_at, one, tally, reach_of}
use Rattle.rules.proofs.EventLaws.{length_text, text_join, tally_join, join_counts, tally_no, tally_done, tally_room, stop_first}
use Rattle.rules.proofs.ReachLaws.{reach_most, reach_least, reach_within, no_room}
use Rattle.text.specs.Overlay.{overlay}
use Rattle.text.specs.Ran.{count_at, Ran}
use Rattle.text.specs.Room.{Room}
use Rattle.text.proofs.OverlayLaws.{overlay_nil, length_overlay, overlay_append, overlay_clipped, overlay_front_of, overlay_before, overlay_behind}
use Rattle.text.proofs.PlaceLaws.{count_at_lem, count_no, by_place, same_place, reach_at, reach_no, reach_past}
use Rattle.text.proofs.CountLaws.{put_counted, pad_counts, pad_after_counts, check_counts, refused_counts}

join_texts : (a b : List ℕ) (es : List Event) → text_of (write (put a) ∷ write (put b) ∷ es) ≡ text_of (write (put (a ++ b)) ∷ es)
unfolding text_of bytes_of
join_texts a b es = sym (append_assoc a b (text_of es))

text_one : (t : List ℕ) → text_of (write (put t) ∷ []) ≡ t
unfolding text_of bytes_of
text_one t = append-nil t

-- ## Where a run leads

module _ {limit room : ℕ} {es : List Event} {l l' : List ℕ} {n n' : ℕ} (w : Ran limit room es l n l' n') where
  counted_from_lem : n ≤ 65536 → count_at n' ≡ tally limit room es (at n)
  counted_from_lem h = w.count ∙ ap (tally limit room es) (count_at_lem n h)

  -- a refused place stays
  pub stays : 65536 < n → n' ≡ n
  stays h = same_place (w.count ∙ ap (tally limit room es) (count_no n h) ∙ tally_no limit room es _ _ ∙ sym (count_no n h))

  -- and no byte comes from it
  pub still : 65536 < n → l' ≡ l
  still h =
      let none : reach_of (count_at n') - n ≡ 0 = rw (stays h) (reach_past n h) in
      rw (none, overlay_nil) at w.text

  -- the text comes no further than the longest buffer
  pub reach_small : n ≤ 65536 → room ≤ 65536 → reach_of (count_at n') ≤ 65536
  reach_small h g = omega (arith, ap reach_of (counted_from_lem h), reach_within limit room es n 65536 h g)

  pub grows : n ≤ n'
  grows =
      elim (dec_lt 65536 n) [
        | yes h ↦ omega (arith, stays h)
        | no h ↦ elim (dec_lt 65536 n') [ yes k ↦ omega arith | no k ↦ omega (arith, (tally_done limit room es n n' (sym (counted_from_lem (omega arith)) ∙ count_at_lem n' (omega arith))).1) ]
      ]

  -- of a run that isn't refused
  pub tallied : n' ≤ 65536 → tally limit room es (at n) ≡ at n'
  tallied h = sym (counted_from_lem (omega (arith, grows))) ∙ count_at_lem n' h

  -- its place: past the text, and within the room
  pub counted : n' ≤ 65536 → n' ≡ n + length_of es
  counted h = (tally_done limit room es n n' (tallied h)).1

  pub inside : n ≤ room → n' ≤ 65536 → n' ≤ room
  inside g h = tally_room limit room es n n' g (tallied h)

  -- and all of its text is laid
  pub laid : n' ≤ 65536 → l' ≡ overlay n (text_of es) l
  laid h =
      w.text
      ∙ ap (λ (t : List ℕ). overlay n t l)
      (take_all (reach_of (count_at n') - n) (text_of es) (omega (arith, reach_at n' h, counted h, length_text es)))

  -- of any run: how far the text came at most, and where no byte is laid
  pub came : reach_of (count_at n') - n ≤ length_of es
  came =
      elim (dec_lt 65536 n) [
        | yes h ↦ omega (arith, stays h, reach_past n h, ap (λ (k : ℕ). reach_of (count_at k)) (stays h))
        | no h ↦ omega (arith, ap reach_of (counted_from_lem (omega arith)), reach_most limit room es n)
      ]

  pub kept : length l' ≡ length l
  kept = ap length w.text ∙ length_overlay n _ l

  pub before : take n l' ≡ take n l
  before = ap (λ (t : List ℕ). take n t) w.text ∙ overlay_before n n _ l (omega arith)

  pub behind : (m : ℕ) → n ≤ m → reach_of (count_at n') ≤ m → drop m l' ≡ drop m l
  behind m g h = ap (λ (t : List ℕ). drop m t) w.text ∙ overlay_behind m n _ l (simp length-take (omega arith))

module _ {limit room : ℕ} where
  -- ## One after the other

  pub room_kept : {es : List Event} {l l' : List ℕ} {n n' : ℕ} → Ran limit room es l n l' n' → Room l room → Room l' room
  room_kept w r = record { within = omega (arith, kept w, r.within); small = r.small }

  pub nothing : {l : List ℕ} {n : ℕ} → Ran limit room [] l n l n
  unfolding tally text_of
  nothing {l} {n} = record { count = refl; text = sym (rw take-nil (overlay_nil n l)) }

  infixl 20 ◌then◌
  pub ◌then◌ : {a b : List Event} {l l' l'' : List ℕ} {n n' n'' : ℕ} → Ran limit room a l n l' n' → Ran limit room b l' n' l'' n'' → Ran limit room (a ++ b) l n l'' n''
  ◌then◌ {a} {b} {l} {l'} {l''} {n} {n'} {n''} v w =
      record {
        count = w.count ∙ ap (tally limit room b) v.count ∙ sym (tally_join limit room a b (count_at n));
        text = elim (dec_lt 65536 n') [ yes h ↦ over h | no h ↦ onward (omega arith) ];
      }
    where
      reach : ℕ
      reach = reach_of (count_at n'')

      -- the first was refused: nothing more comes
      over : 65536 < n' → l'' ≡ overlay n (take (reach - n) (text_of (a ++ b))) l
      over h =
          let e : n'' ≡ n' = stays w h in
          let same : reach_of (count_at n') ≡ reach = rw e refl in
          let first : take (reach - n) (text_of (a ++ b)) ≡ take (reach - n) (text_of a) = rw text_join (take-append-le (reach - n) (text_of a) (text_of b) (omega (arith, came v, length_text a))) in
          still w h ∙ rw (same, ← first) at v.text

      -- the first came to its end, within the room or with no byte
      far : n' ≤ 65536 → n' ≡ n + length (text_of a) → reach - n ≡ length (text_of a) + (reach - n')
      far h e =
          elim (dec_lt room n) [
            | yes g ↦ omega (arith, no_room limit room a n n' g (tallied v h))
            | no g ↦ omega (arith, ap reach_of (counted_from_lem w h), reach_least limit room b n' (inside v (omega arith) h))
          ]

      onward : n' ≤ 65536 → l'' ≡ overlay n (take (reach - n) (text_of (a ++ b))) l
      onward h =
          let e : n' ≡ n + length (text_of a) = omega (arith, counted v h, length_text a) in
          let t = take (reach - n') (text_of b) in
          let all : overlay n (take (reach - n) (text_of (a ++ b))) l ≡ overlay (n + length (text_of a)) t (overlay n (text_of a) l) = rw (text_join, far h e, take-append-add, overlay_append) in
          w.text ∙ cc (laid v h)

  -- ## The same run, told by other events

  pub same_events : {es fs : List Event} {l l' : List ℕ} {n n' : ℕ} → es ≡ fs → Ran limit room es l n l' n' → Ran limit room fs l n l' n'
  same_events {l = l} {l' = l'} {n = n} {n' = n'} e w = subst (λ (x : List Event). Ran limit room x l n l' n') e w

  pub said : {t u : List ℕ} {es : List Event} {l l' : List ℕ} {n n' : ℕ} → t ≡ u → Ran limit room (write (put t) ∷ es) l n l' n' → Ran limit room (write (put u) ∷ es) l n l' n'
  said {es = es} e w = same_events (ap (λ (x : List ℕ). write (put x) ∷ es) e) w

  pub told : {ok was : Bool} {k : ℕ} {es : List Event} {l l' : List ℕ} {n n' : ℕ} → ok ≡ was → Ran limit room (check ok k ∷ es) l n l' n' → Ran limit room (check was k ∷ es) l n l' n'
  told {k = k} {es = es} e w = same_events (ap (λ (x : Bool). check x k ∷ es) e) w

  -- events that write the same text, and count alike from the place where they start
  pub alike : {es fs : List Event} {l l' : List ℕ} {n n' : ℕ} → (n ≤ 65536 → tally limit room es (at n) ≡ tally limit room fs (at n)) → text_of es ≡ text_of fs → Ran limit room es l n l' n' → Ran limit room fs l n l' n'
  alike {es} {fs} {l} {l'} {n} {n'} f t w =
      record {
        count =
            w.count
            ∙ by_place (λ c. tally limit room es c ≡ tally limit room fs c) n f
            (λ h. tally_no limit room es _ _ ∙ sym (tally_no limit room fs _ _));
        text = w.text ∙ ap (λ (x : List ℕ). overlay n (take (reach_of (count_at n') - n) x) l) t;
      }

  pub joined : {a b : List ℕ} {es : List Event} {l l' : List ℕ} {n n' : ℕ} → Ran limit room (write (put a) ∷ write (put b) ∷ es) l n l' n' → Ran limit room (write (put (a ++ b)) ∷ es) l n l' n'
  joined {a} {b} {es} {n = n} w = alike (λ h. join_counts limit room a b es (at n)) (join_texts a b es) w

  pub parted : {a b : List ℕ} {es : List Event} {l l' : List ℕ} {n n' : ℕ} → Ran limit room (write (put (a ++ b)) ∷ es) l n l' n' → Ran limit room (write (put a) ∷ write (put b) ∷ es) l n l' n'
  parted {a} {b} {es} {n = n} w = alike (λ h. sym (join_counts limit room a b es (at n))) (sym (join_texts a b es)) w

  -- ## Pads

  pub as_pad : {c count : ℕ} {es : List Event} {l l' : List ℕ} {n n' : ℕ} → (n ≤ 65536 → 0 < count → n + count ≤ limit) → Ran limit room (write (put (replicate count c)) ∷ es) l n l' n' → Ran limit room (write (pad c count) ∷ es) l n l' n'
  unfolding text_of bytes_of
  as_pad {c} {count} {es} {n = n} f w = alike (λ h. pad_counts limit room c count es n (f h)) refl w

  pub pad_none : {c : ℕ} {t : List ℕ} {es : List Event} {l l' : List ℕ} {n n' : ℕ} → Ran limit room (write (put t) ∷ es) l n l' n' → Ran limit room (write (pad c 0) ∷ write (put t) ∷ es) l n l' n'
  pad_none w = as_pad (λ k some. absurd (omega arith)) (parted {a = []} w)

  -- a pad of no bytes is that of any byte
  pub any_byte : {c d : ℕ} {es : List Event} {l l' : List ℕ} {n n' : ℕ} → Ran limit room (write (pad c 0) ∷ es) l n l' n' → Ran limit room (write (pad d 0) ∷ es) l n l' n'
  unfolding tally one write_at text_of bytes_of
  any_byte w = alike (λ h. refl) refl w

  pub pad_after : {a : List ℕ} {c count : ℕ} {es : List Event} {l l' : List ℕ} {n n' : ℕ} → (0 < count → room + count ≤ limit) → Ran limit room (write (put a) ∷ write (put (replicate count c)) ∷ es) l n l' n' → Ran limit room (write (put a) ∷ write (pad c count) ∷ es) l n l' n'
  unfolding text_of bytes_of
  pad_after {a} {c} {count} {es} {n = n} h w = alike (λ k. pad_after_counts limit room a c count es n h) refl w

  pub pad_none_after : {c : ℕ} {t : List ℕ} {es : List Event} {l l' : List ℕ} {n n' : ℕ} → Ran limit room (write (put t) ∷ es) l n l' n' → Ran limit room (write (put t) ∷ write (pad c 0) ∷ es) l n l' n'
  pad_none_after {t = t} w = pad_after (λ some. absurd (omega arith)) (parted {b = []} (said (sym (append-nil t)) w))

  -- ## Checks and refusals

  -- a check that holds, in front and behind other events
  pub checks_hold_after : (es fs : List Event) (k : ℕ) {l l' : List ℕ} {n n' : ℕ} → Ran limit room (es ++ fs) l n l' n' → Ran limit room (es ++ (check true k ∷ fs)) l n l' n'
  unfolding text_of
  checks_hold_after es fs k {n = n} w = alike (λ h. check_counts limit room es fs k (at n)) (text_join es fs ∙ sym (text_join es (check true k ∷ fs))) w

  pub checks_hold : {k : ℕ} {es : List Event} {l l' : List ℕ} {n n' : ℕ} → Ran limit room es l n l' n' → Ran limit room (check true k ∷ es) l n l' n'
  checks_hold w = checks_hold_after [] _ _ w

  -- ## A write, of which the bytes that have a place in the list are laid

  -- there is room for all of them
  pub fitting : {t l l' : List ℕ} {n r : ℕ} → l' ≡ overlay n t l → r ≡ n + length t → r ≤ room → room ≤ 65536 → Ran limit room (write (put t) ∷ []) l n l' r
  fitting {t} {l} {l'} {n} {r} b e h g =
      record {
        count = put_counted limit room t n r e h g;
        text = b ∙ ap (λ (x : List ℕ). overlay n x l) (sym (rw (text_one t) (take_all (reach_of (count_at r) - n) t (omega (arith, reach_at r (omega arith))))));
      }

  pub placed : {t l l' : List ℕ} {n r : ℕ} → l' ≡ overlay n t l → r ≡ n + length t → r ≤ length l → Room l room → Ran limit room (write (put t) ∷ []) l n l' r
  placed b e h g = fitting b e (omega (arith, g.within)) g.small

  -- and so its bytes were laid
  fitted : {t l l' : List ℕ} {n r : ℕ} → Ran limit room (write (put t) ∷ []) l n l' r → n + length t ≤ length l → Room l room → l' ≡ overlay n t l
  fitted {t} {l} {l'} {n} {r} w h g =
      let k = g.within in
      let e : r ≡ n + length t = same_place (w.count ∙ sym (put_counted limit room t n (n + length t) refl (omega arith) g.small)) in
      laid w (omega (arith, g.small)) ∙ ap (λ (x : List ℕ). overlay n x l) (text_one t)

  -- a text whose front, as far as the list goes, was written
  pub front_written : (k : ℕ) (t : List ℕ) {u l l' : List ℕ} {n r : ℕ} → Ran limit room (write (put u) ∷ []) l n l' r → u ≡ take k t → k ≤ length t → n + k ≡ length l → Room l room → l' ≡ overlay n t l
  front_written k t {u} {l} {l'} {n} {r} w e h g q =
      fitted w (rw e (simp length-take (omega arith))) q ∙ overlay_front_of n k t u l (omega arith) e

  -- the text comes to the end of the list, or begins behind it
  pub clipped : {t l l' : List ℕ} {n r : ℕ} → count_at r ≡ tally limit room (write (put t) ∷ []) (count_at n) → length l ≤ n + (reach_of (count_at r) - n) → l' ≡ overlay n t l → Ran limit room (write (put t) ∷ []) l n l' r
  clipped {t} {l} {l'} {n} {r} c h b =
      record { count = c; text = b ∙ sym (rw (text_one t) (overlay_clipped n (reach_of (count_at r) - n) t l h)) }

  -- ## Refusals

  -- events of which no byte comes
  pub halted : {es : List Event} {l : List ℕ} {n r : ℕ} → count_at r ≡ tally limit room es (count_at n) → reach_of (count_at r) ≤ n → Ran limit room es l n l r
  halted {es} {l} {n} {r} c h =
      let z : reach_of (count_at r) - n ≡ 0 = omega arith in
      record { count = c; text = sym (rw (z, overlay_nil)) }

  pub refused_stays : {es : List Event} {l : List ℕ} {n : ℕ} → 65536 < n → Ran limit room es l n l n
  refused_stays {es} {n = n} h = halted (refused_counts limit room es n h) (omega (arith, reach_past n h))

  pub refused_clipped : {t l l' : List ℕ} {n : ℕ} → 65536 < n → length l ≤ 65536 → l' ≡ overlay n t l → Ran limit room (write (put t) ∷ []) l n l' n
  refused_clipped {t} {n = n} h g b = clipped (refused_counts limit room (write (put t) ∷ []) n h) (omega arith) b

  -- what follows a failing check doesn't matter
  pub stopped : {k : ℕ} {es : List Event} {l : List ℕ} {n r : ℕ} → Ran limit room (check false k ∷ []) l n l r → Ran limit room (check false k ∷ es) l n l r
  stopped {k} {es} {l} {n} {r} w = halted found.1 found.0
    where
      found : (reach_of (count_at r) ≤ n) × (count_at r ≡ tally limit room (check false k ∷ es) (count_at n))
      found =
          by_place (λ c. count_at r ≡ tally limit room (check false k ∷ []) c → (reach_of (count_at r) ≤ n) × (count_at r ≡ tally limit room (check false k ∷ es) c)) n
          (λ g e. let q = e ∙ stop_first limit room [] k n in (omega (arith, reach_no r q), q ∙ sym (stop_first limit room es k n)))
          (λ g e. let q = e ∙ tally_no limit room (check false k ∷ []) _ _ in (omega (arith, reach_no r q), q ∙ sym (tally_no limit room (check false k ∷ es) _ _)))
          w.count
