-- Two tests of a zone byte, and two names of one length of which the second passes: the outcomes are of one sort, or the first is refused with 1,
-- its name being missed.
use mathlib.Core.Path.{◌≡◌, refl, sym, ap, ◌∙◌}
use mathlib.Core.Bool.{Bool, true, false, cond}
use mathlib.Core.List.{List, [], ◌∷◌, ◌++◌, map}
use mathlib.Core.Logic.{◌⊎◌, inl, inr}
use Prim.Native.Nat.{ℕ}
use native.Mathlib.Omega.{arith}
use lib.ListN.{length}
use Rattle.rules.specs.declared.Record.{Record}
use Rattle.rules.specs.declared.Piece.{Piece}
use Rattle.rules.specs.Record.{each_byte}
use Rattle.rules.specs.Event.{put, Event, write, judged, text_of, Count, at, no, write_at, one, tally, Outcome, done, refused, outcome_of, run}
use Rattle.rules.specs.Name.{zone_case}
use Rattle.rules.specs.Writing.{pad_to, name_writes, zone_writes, verdict, events_of}
use Rattle.rules.specs.Format.{Item, literal, echo, directive, cut, items, item_events, events, limit_of, lengths_first}
use Rattle.rules.specs.Size.{text_for}
use Rattle.rules.specs.ZoneNames.{is_zone, events_by, formatted_by}
use Rattle.rules.proofs.EventLaws.{tally_join, tally_no}
use Rattle.rules.proofs.FormatLaws.{never}
use Rattle.rules.proofs.UnreadFields.{same_piece}
use Rattle.rules.proofs.WidthLaws.{length_cased}
use Rattle.rules.proofs.ZoneTests.{items_text}
use Rattle.rules.proofs.ZoneUnread.{others_agree}

-- ## Events that count as others do, or end with 1 where the name is missed

abbrev Follows : Type 0 → List Event → List Event → Type 0
Follows Missed es es' = (limit room : ℕ) (c : Count) → (tally limit room es c ≡ tally limit room es' c) ⊎ (Missed × ((n : ℕ) × (tally limit room es c ≡ no 1 n)))

follows_same : {Missed : Type 0} {es es' : List Event} → es ≡ es' → Follows Missed es es'
follows_same e limit room c = inl (ap (λ (es : List Event). tally limit room es c) e)

follows_join : {Missed : Type 0} (xs xs' ys ys' : List Event) → Follows Missed xs xs' → Follows Missed ys ys' → Follows Missed (xs ++ ys) (xs' ++ ys')
follows_join xs xs' ys ys' f g limit room c =
    rw (tally_join limit room xs ys c, tally_join limit room xs' ys' c)
    (elim (f limit room c) [
      | inl e ↦ rw e (g limit room (tally limit room xs' c))
      | inr m ↦ inr (m.0, (m.1.0, ap (tally limit room ys) m.1.1 ∙ tally_no limit room ys 1 m.1.0))
    ])

-- ## A name, and one of the same length

put_count : (limit room : ℕ) (text text' : List ℕ) → length text ≡ length text' → (c : Count) → one limit room (write (put text)) c ≡ one limit room (write (put text')) c
unfolding one write_at
put_count limit room text text' e (at n) = rw e
put_count limit room text text' e (no number n) = refl

name_count : (limit room : ℕ) (p : Piece) (text text' : List ℕ) → length text ≡ length text' → (c : Count) →
    tally limit room (map write (name_writes p text)) c ≡ tally limit room (map write (name_writes p text')) c
unfolding name_writes tally
name_count limit room p text text' e c = go p.flags.left
  where
    go : (left : Bool) → tally limit room (map write (cond left [] (pad_to p (length text) ∷ []) ++ (put text ∷ []))) c
        ≡ tally limit room (map write (cond left [] (pad_to p (length text') ∷ []) ++ (put text' ∷ []))) c
    go true = put_count limit room text text' e c
    go false = rw e (put_count limit room text text' e _)

zone_count : (limit room : ℕ) (p : Piece) (zone zone' : List ℕ) → length zone ≡ length zone' → (c : Count) →
    tally limit room (map write (zone_writes p zone)) c ≡ tally limit room (map write (zone_writes p zone')) c
unfolding zone_writes
zone_count limit room p [] [] e c = refl
zone_count limit room p [] (b ∷ zone') e c = absurd (omega arith)
zone_count limit room p (b ∷ zone) [] e c = absurd (omega arith)
zone_count limit room p (b ∷ zone) (b' ∷ zone') e c =
    name_count limit room p _ _ (length_cased (zone_case p.flags) (b ∷ zone) ∙ e ∙ sym (length_cased (zone_case p.flags) (b' ∷ zone'))) c

-- the events of `Z` by what the check comes to
abbrev zone_events : Bool → Piece → List ℕ → List Event
zone_events ok p zone = judged (verdict ok) ∷ map write (zone_writes p zone)

zone_follows : (ok : Bool) (p : Piece) (zone zone' : List ℕ) → length zone ≡ length zone' → Follows (ok ≡ false) (zone_events ok p zone) (zone_events true p zone')
unfolding verdict tally one
zone_follows true p zone zone' e limit room (at n) = inl (zone_count limit room p zone zone' e (at n))
zone_follows true p zone zone' e limit room (no number n) = inl (zone_count limit room p zone zone' e (no number n))
zone_follows false p zone zone' e limit room (at n) = inr (refl, (n, tally_no limit room (map write (zone_writes p zone)) 1 n))
zone_follows false p zone zone' e limit room (no number n) = inl (zone_count limit room p zone zone' e (no number n))

-- ## A test g beside a test f, for a name of g and one of f that has its length and passes

module _ (f g : ℕ → Bool) (r : Record) (zone zone' : List ℕ) (same : length zone ≡ length zone') (passes : each_byte f zone' ≡ true) where
  abbrev Missed : Type 0
  Missed = each_byte g zone ≡ false

  piece_follows : (p : Piece) → Follows Missed (events_by g r zone p) (events_by f r zone' p)
  unfolding events_by
  piece_follows p = go (is_zone p.spec) refl
    where
      go : (z : Bool) → is_zone p.spec ≡ z →
          Follows Missed (cond z (zone_events (each_byte g zone) p zone) (events_of r zone p)) (cond z (zone_events (each_byte f zone') p zone') (events_of r zone' p))
      go true e = rw passes (zone_follows (each_byte g zone) p zone zone' same)
      go false e = follows_same (same_piece r r zone zone' p (others_agree r zone zone' p.spec (λ q. never (sym (ap is_zone q) ∙ e))))

  item_follows : (i : Item) → Follows Missed (item_events (events_by g r zone) i) (item_events (events_by f r zone') i)
  unfolding item_events
  item_follows (literal b) = follows_same refl
  item_follows (echo text) = follows_same refl
  item_follows (directive p) = piece_follows p
  item_follows cut = follows_same refl

  items_follow : (is : List Item) → Follows Missed (events (events_by g r zone) is) (events (events_by f r zone') is)
  unfolding events
  items_follow [] = follows_same refl
  items_follow (i ∷ is) = follows_join _ _ _ _ (item_follows i) (items_follow is)

  all_follow : (format : List ℕ) (room : ℕ) →
      Follows Missed (lengths_first format zone room (events (events_by g r zone) (items format))) (lengths_first format zone' room (events (events_by f r zone') (items format)))
  all_follow format room = follows_join (lengths_first format zone room []) (lengths_first format zone' room []) _ _ (follows_same (rw same)) (items_follow (items format))

-- ## Outcomes

-- both are done, or both are refused by one number, or the first is refused with 1, its name being missed
pub data Met (Missed : Type 0) (a : Outcome) (text : List ℕ) (a' : Outcome) (text' : List ℕ) : Type 0 where
  both_done : a ≡ done text → a' ≡ done text' → Met Missed a text a' text'
  both_refused : (number : ℕ) → a ≡ refused number → a' ≡ refused number → Met Missed a text a' text'
  missed : Missed → a ≡ refused 1 → Met Missed a text a' text'

runs_meet : {Missed : Type 0} (limit room : ℕ) (es es' : List Event) → Follows Missed es es' → Met Missed (run limit room es) (text_of es) (run limit room es') (text_of es')
unfolding run
runs_meet {Missed} limit room es es' f =
    elim (f limit room (at 0)) [
      | inl e ↦ rw e (go (tally limit room es' (at 0)))
      | inr m ↦ missed m.0 (rw m.1.1)
    ]
  where
    go : (c : Count) → Met Missed (outcome_of c (text_of es)) (text_of es) (outcome_of c (text_of es')) (text_of es')
    go (at n) = both_done refl refl
    go (no number n) = both_refused number refl refl

pub stamps_meet : (f g : ℕ → Bool) (r : Record) (zone zone' : List ℕ) → length zone ≡ length zone' → each_byte f zone' ≡ true → (format : List ℕ) (room : ℕ) →
    Met (each_byte g zone ≡ false) (formatted_by g format zone r room) (text_for format zone r) (formatted_by f format zone' r room) (text_for format zone' r)
unfolding formatted_by
stamps_meet f g r zone zone' same passes format room =
    rw (sym (items_text r zone g (items format)), sym (items_text r zone' f (items format)))
    (unfold text_of in runs_meet (limit_of (length format)) room _ _ (all_follow f g r zone zone' same passes format room))
