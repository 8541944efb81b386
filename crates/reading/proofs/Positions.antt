-- The items of a format are what reading finds at its positions: nothing past the end, a run of literals, or what stands at a percent sign.
use mathlib.Core.Path.{◌≡◌, refl, sym, ap, ◌∙◌}
use mathlib.Core.Bool.{Bool, true, false, cond}
use mathlib.Core.List.{List, [], ◌∷◌, ◌++◌, map}
use Prim.Native.Nat.{ℕ, suc, ◌+◌, ◌-◌, ◌≤◌, ◌<◌}
use native.Mathlib.Omega.{arith}
use lib.Dec.{eqb}
use lib.ListN.{length, take, drop, get_or, length-drop, drop_of_length-le}
use lib.Seq.{drop-drop}
use borrow.Author.Tests.{eq-eqb, ne_eqb}
use Rattle.rules.specs.declared.Reading.TheVariants.{InFlags}
use Rattle.rules.specs.declared.Parsed.{Parsed}
use Rattle.rules.specs.declared.Parsed.TheVariants.{Directive, Echo, Cut}
use Rattle.rules.specs.Reading.{outset}
use Rattle.rules.specs.Format.{Item, literal, echo, directive, cut, between, inside, fresh, step, ending, read, parse_from}
use Rattle.rules.proofs.Walk.{Ends, parse_ends, ItemsAre, parsed_items}
use Rattle.reading.specs.Literals.{literal_count, literal_end}
use Rattle.reading.proofs.Laws.{drop_next}

literals_first : (bytes : List ℕ) → read between bytes ≡ map literal (take (literal_count bytes) bytes) ++ read between (drop (literal_count bytes) bytes)
unfolding read step literal_count
literals_first [] = refl
literals_first (b ∷ bytes) = go (eqb b 37) refl (literals_first bytes)
  where
    go : (t : Bool) → eqb b 37 ≡ t → read between bytes ≡ map literal (take (literal_count bytes) bytes) ++ read between (drop (literal_count bytes) bytes) →
        (fresh b).settles ++ read (fresh b).to bytes
        ≡ map literal (take (cond t 0 (suc (literal_count bytes))) (b ∷ bytes)) ++ read between (drop (cond t 0 (suc (literal_count bytes))) (b ∷ bytes))
    go true e rest = refl
    go false e rest = rw e (ap (λ (is : List Item). literal b ∷ is) rest)

literals_fit : (bytes : List ℕ) → literal_count bytes ≤ length bytes
unfolding literal_count
literals_fit [] = omega arith
literals_fit (b ∷ bytes) = go (eqb b 37) (literals_fit bytes)
  where
    go : (t : Bool) → literal_count bytes ≤ length bytes → cond t 0 (suc (literal_count bytes)) ≤ suc (length bytes)
    go true h = omega arith
    go false h = omega arith

-- the items from position i on are `found`, then those from `next` on
pub record Part (format : List ℕ) (i : ℕ) (found : List Item) (next : ℕ) : Type 0 where
  pub items : read between (drop i format) ≡ found ++ read between (drop next format)
  pub onward : i < next
  pub within : next ≤ length format

-- the items from position i on are `found` and no more
pub record Last (format : List ℕ) (i : ℕ) (found : List Item) : Type 0 where
  pub items : read between (drop i format) ≡ found

module _ (format : List ℕ) (i : ℕ) where
  module _ (h : i < length format) where
    pub literal_none : get_or format i 0 ≡ 37 → i ≡ literal_end format i
    unfolding literal_count
    literal_none e = rw (drop_next format i h, eq-eqb _ _ e) (omega arith)

    literal_one : (get_or format i 0 ≡ 37 → ⊥) → literal_count (drop i format) ≡ suc (literal_count (drop (i + 1) format))
    unfolding literal_count
    literal_one e = rw (drop_next format i h, ne_eqb _ _ e)

    pub literal_more : (get_or format i 0 ≡ 37 → ⊥) → literal_end format (i + 1) ≡ literal_end format i
    literal_more e = omega (arith, literal_one e)

  pub literal_past : length format ≤ i → i ≡ literal_end format i
  unfolding literal_count
  literal_past h = rw (drop_of_length-le format h) (omega arith)

  run_at : i < length format → (get_or format i 0 ≡ 37 → ⊥) → (e : ℕ) → e ≡ literal_end format i → Part format i (map literal (take (e - i) (drop i format))) e
  run_at h n e k =
      let count : e - i ≡ literal_count (drop i format) = omega arith in
      let fit = literals_fit (drop i format) in
      let left = length-drop i format in
      record {
        items = rw (count, k, ← drop-drop (literal_count (drop i format)) i format) (literals_first (drop i format));
        onward = omega (arith, literal_one h n);
        within = omega arith;
      }

  -- by what is parsed after the percent sign at i
  abbrev pub Stands : Parsed → Type 0
  Stands (Directive p next) = Part format i (directive p ∷ []) next
  Stands (Echo next) = Part format i (echo (take (next - i) (drop i format)) ∷ []) next
  Stands Cut = Last format i (cut ∷ [])

  percent_at : i < length format → get_or format i 0 ≡ 37 → (x : Parsed) → parse_from (InFlags outset) (i + 1) (drop (i + 1) format) ≡ x → Stands x
  unfolding read step
  percent_at h e x k = go x (rw k at (parse_ends bytes (InFlags outset) (i + 1))) (rw k at (parsed_items format bytes (InFlags outset) (i + 1) (37 ∷ []) refl))
    where
      bytes : List ℕ
      bytes = drop (i + 1) format

      all : drop i format ≡ 37 ∷ bytes
      all = drop_next format i h ∙ ap (λ (b : ℕ). b ∷ bytes) e

      opened : read between (drop i format) ≡ read (inside (InFlags outset) (37 ∷ [])) bytes
      opened = rw all

      go : (x : Parsed) → Ends (i + 1) (length bytes) x → ItemsAre format (i + 1) (37 ∷ []) bytes (read (inside (InFlags outset) (37 ∷ [])) bytes) x → Stands x
      go (Directive p next) ends is = record { items = opened ∙ is; onward = omega arith; within = omega (arith, length-drop (i + 1) format) }
      go (Echo next) ends is =
          let k : next - i ≡ suc (next - (i + 1)) = omega arith in
          let text : take (next - i) (drop i format) ≡ 37 ∷ take (next - (i + 1)) bytes = rw (k, all) in
          record {
            items = opened ∙ is ∙ ap (λ (t : List ℕ). echo t ∷ read between (drop next format)) (sym text);
            onward = omega arith;
            within = omega (arith, length-drop (i + 1) format);
          }
      go Cut ends is = record { items = opened ∙ is }

-- what a walk finds at position i of a format
pub record ItemsAt (format : List ℕ) (i : ℕ) : Type 0 where
  pub past : length format ≤ i → Last format i []
  pub run : i < length format → (get_or format i 0 ≡ 37 → ⊥) → (e : ℕ) → e ≡ literal_end format i → Part format i (map literal (take (e - i) (drop i format))) e
  pub percent : i < length format → get_or format i 0 ≡ 37 → (x : Parsed) → parse_from (InFlags outset) (i + 1) (drop (i + 1) format) ≡ x → Stands format i x

pub items_at : (format : List ℕ) (i : ℕ) → ItemsAt format i
unfolding read ending
items_at format i = record { past = λ h. record { items = rw (drop_of_length-le format h) }; run = run_at format i; percent = percent_at format i }
