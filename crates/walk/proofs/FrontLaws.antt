-- A text by way of a scratch, whatever its events are: the front that stands in the scratch grows; at the end it is copied to the buffer, or the rest
-- is counted and then written behind it.
use mathlib.Core.Path.{◌≡◌, refl, sym, ap, ◌∙◌}
use mathlib.Core.List.{List, [], ◌∷◌, ◌++◌}
use Prim.Native.Nat.{ℕ, ◌≤◌, ◌<◌}
use native.Mathlib.Omega.{arith}
use lib.ListN.{length, take, drop, take-append-drop}
use Rattle.rules.specs.Event.{Event, text_of, at, tally}
use Rattle.rules.proofs.EventLaws.{tally_join}
use Rattle.text.specs.Ran.{count_at, Ran}
use Rattle.text.specs.Room.{Room}
use Rattle.text.proofs.PlaceLaws.{count_at_lem}
use Rattle.text.proofs.RanLaws.{◌then◌, tallied, inside, kept}
use Rattle.text.proofs.EntryLaws.{same_end, from_start, untouched, stands, written, fronted}
use Rattle.walk.specs.Stamp.{Front, Stamped}

-- ## The answer

module _ {limit : ℕ} {es : List Event} {l b l' : List ℕ} {n : ℕ} where
  -- the buffer was written
  pub stamped : {b' : List ℕ} → Ran limit (length b) es b 0 b' n → n ≤ 65536 → length l' ≡ length l → Stamped limit es l b l' b' n
  stamped w h k =
      record {
        count = from_start w;
        buffer = written w h (inside w (omega arith) h);
        scratch = k;
      }

  -- the buffer was never lent
  pub stamped_not : count_at n ≡ tally limit (length b) es (at 0) → 65536 < n → length l' ≡ length l → Stamped limit es l b l' b n
  stamped_not e h k = record { count = e; buffer = untouched limit (length b) es n e b h; scratch = k }

-- from another scratch of the same length, and the same buffer
pub stamped_from : {limit : ℕ} {es : List Event} {l₀ l b₀ b l' b' : List ℕ} {n : ℕ} → length l ≡ length l₀ → b ≡ b₀ → Stamped limit es l b l' b' n → Stamped limit es l₀ b₀ l' b' n
stamped_from {limit} {es} {l₀ = l₀} {b = b} {l' = l'} {b' = b'} {n = n} k e v =
    let answer : Stamped limit es l₀ b l' b' n = record { count = v.count; buffer = v.buffer; scratch = v.scratch ∙ k } in
    rw e at answer

-- ## What stands in the scratch

module _ {limit room : ℕ} where
  pub front_none : {l : List ℕ} → Front limit room [] l 0
  unfolding tally text_of
  front_none = record { count = refl; inside = omega arith; text = refl }

  pub same_front : {es fs : List Event} {l : List ℕ} {n : ℕ} → es ≡ fs → Front limit room es l n → Front limit room fs l n
  same_front e w = rw e at w

  module _ {es : List Event} {n : ℕ} {l : List ℕ} (w : Front limit room es l n) where
    pub front_in : (b : List ℕ) {b' : List ℕ} → n ≤ 65536 → n ≤ length b → b' ≡ take n l ++ drop n b → Ran limit room es b 0 b' n
    front_in b h k q = fronted n l b w.count h w.text k q

    pub front_on : {fs : List Event} {l' : List ℕ} {n' : ℕ} → Ran limit room fs l n l' n' → n' ≤ length l → length l ≤ 65536 → Front limit room (es ++ fs) l' n'
    front_on v h g =
        let both = front_in l (omega (arith, w.inside)) w.inside (sym (take-append-drop n l)) then v in
        record {
          count = tallied both (omega arith);
          inside = omega (arith, kept v);
          text = stands both (omega arith) h;
        }

    -- what didn't end within the scratch left alone what stands before it
    pub front_still : {l' : List ℕ} → take n l' ≡ take n l → length l' ≡ length l → Front limit room es l' n
    front_still e k = record { count = w.count; inside = omega (arith, w.inside); text = e ∙ w.text }

    -- the rest is counted in any slice
    pub front_counts : {fs : List Event} {x x' : List ℕ} {n' : ℕ} → n ≤ 65536 → Ran limit room fs x n x' n' → count_at n' ≡ tally limit room (es ++ fs) (at 0)
    front_counts {fs} h v =
        v.count
        ∙ ap (tally limit room fs) (count_at_lem n h ∙ sym w.count)
        ∙ sym (tally_join limit room es fs (at 0))

    -- and written to a buffer, behind the front
    pub front_goes_on : {fs : List Event} (b : List ℕ) {b₁ b' : List ℕ} {n' : ℕ} → n ≤ 65536 → n ≤ length b → b₁ ≡ take n l ++ drop n b → Ran limit room fs b₁ n b' n' → Ran limit room (es ++ fs) b 0 b' n'
    front_goes_on b h k q v = front_in b h k q then v

-- ## The rest

-- no byte of the scratch was lent
none_lent : {limit room : ℕ} {es : List Event} {x : List ℕ} {n m : ℕ} (l : List ℕ) → Ran limit room es [] n x m → x ++ l ≡ l
none_lent {x = []} l v = refl
none_lent {x = y ∷ x} l v = absurd (omega (arith, kept v))

module _ {limit : ℕ} {es fs : List Event} {n m : ℕ} {l b x : List ℕ} (g : Room l (length b)) (w : Front limit (length b) es l n) (v : Ran limit (length b) fs [] n x m) where
  pub front_refused : 65536 < m → Stamped limit (es ++ fs) l b (x ++ l) b m
  front_refused h = stamped_not (front_counts w (omega (arith, w.inside, g.within, g.small)) v) h (ap length (none_lent l v))

  -- the second run comes to the place that was counted
  pub front_written : {b₁ b' : List ℕ} {m' : ℕ} → m ≤ 65536 → b₁ ≡ take n (x ++ l) ++ drop n b → Ran limit (length b) fs b₁ n b' m' → Stamped limit (es ++ fs) l b (x ++ l) b' m'
  front_written h q u =
      let back = none_lent l v in
      stamped (front_goes_on w b (omega (arith, w.inside, g.within, g.small)) (omega (arith, w.inside, g.within)) (q ∙ ap (λ (t : List ℕ). take n t ++ drop n b) back) u) (omega (arith, same_end u v)) (ap length back)
