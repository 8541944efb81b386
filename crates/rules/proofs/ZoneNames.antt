-- Zone names (02, request 5): `Z` takes those whose bytes are all 32 to 126, and so writes no other byte.
use mathlib.Core.Path.{◌≡◌, refl, sym}
use mathlib.Core.Bool.{Bool, true, false, cond, ◌&&◌}
use mathlib.Core.List.{List, [], ◌∷◌, ◌++◌, map}
use mathlib.Core.Logic.{◌↔◌}
use Prim.Native.Nat.{ℕ, zero, suc, ◌-◌, ◌≤◌}
use native.Mathlib.Omega.{arith}
use borrow.Author.Tests.{le-leb}
use lib.Dec.{lit≤}
use lib.ListN.{length, replicate}
use Rattle.rules.specs.declared.Record.{Record}
use Rattle.rules.specs.declared.Padding.{Padding}
use Rattle.rules.specs.declared.Padding.TheVariants.{Left, Spaces, Zeros}
use Rattle.rules.specs.declared.Spec.TheVariants.{TimeZoneName}
use Rattle.rules.specs.declared.Piece.{Piece}
use Rattle.rules.specs.Ascii.{byte}
use Rattle.rules.specs.Record.{within, zone_ok, ok_field, all_ok}
use Rattle.rules.specs.Event.{put, pad, Event, write, bytes_of, text_of, done}
use Rattle.rules.specs.Name.{upper, lower, Case, as_it_is, raised, lowered, in_case, zone_case}
use Rattle.rules.specs.Writing.{width_or, pad_byte, pad_to, name_writes, zone_writes, fields_of, lead_of, body_of, verdict, verdict_of, spec_events, events_of}
use Rattle.rules.specs.Format.{Item, directive, items, events, formatted}
use Rattle.rules.proofs.FormatLaws.{never}
use Rattle.rules.proofs.RecordLaws.{by_test, both, ends}
use Rattle.rules.proofs.Stamped.{passed_check, printed}

-- ## The check

-- 32 to 126, in numbers
abbrev pub Printable : List ℕ → Type 0
Printable [] = Unit {0}
Printable (b ∷ bytes) = ((32 ≤ b) × (b ≤ 126)) × Printable bytes

ok_printable : (zone : List ℕ) → zone_ok zone ≡ true → Printable zone
unfolding zone_ok
ok_printable [] h = tt
ok_printable (b ∷ zone) h = let k = both _ _ h in (ends 32 126 b k.0, ok_printable zone k.1)

printable_ok : (zone : List ℕ) → Printable zone → zone_ok zone ≡ true
unfolding zone_ok
printable_ok [] h = refl
printable_ok (b ∷ zone) h = rw (le-leb 32 b h.0.0, le-leb b 126 h.0.1) (printable_ok zone h.1)

zero_is_one : {A : Type 0} → ◌≡◌ {A = ℕ} 0 1 → A
zero_is_one e = absurd (omega arith)

-- "A zone byte must now be 32 to 126, else InvalidTime from `Z`."
pub zone_exactly : (r : Record) (zone : List ℕ) → ((verdict_of TimeZoneName r zone ≡ 0) ↔ Printable zone) × ((verdict_of TimeZoneName r zone ≡ 1) ↔ (Printable zone → ⊥))
unfolding verdict_of verdict fields_of all_ok ok_field
zone_exactly r zone = go (zone_ok zone) (ok_printable zone) (printable_ok zone)
  where
    go : (ok : Bool) → (ok ≡ true → Printable zone) → (Printable zone → ok ≡ true) →
        ((verdict (ok && true) ≡ 0) ↔ Printable zone) × ((verdict (ok && true) ≡ 1) ↔ (Printable zone → ⊥))
    go true f g = ((λ e. f refl, λ h. refl), (λ e. zero_is_one e, λ h. absurd (h (f refl))))
    go false f g = ((λ e. zero_is_one (sym e), λ h. never (sym (g h))), (λ e h. never (sym (g h)), λ h. refl))

-- ## What `Z` writes

printable_join : (xs ys : List ℕ) → Printable xs → Printable ys → Printable (xs ++ ys)
printable_join [] ys h k = k
printable_join (b ∷ xs) ys h k = (h.0, printable_join xs ys h.1 k)

printable_repeated : (n b : ℕ) → 32 ≤ b → b ≤ 126 → Printable (replicate n b)
printable_repeated zero b l m = tt
printable_repeated (suc n) b l m = ((l, m), printable_repeated n b l m)

printable_map : (change : ℕ → ℕ) → ((b : ℕ) → 32 ≤ b → b ≤ 126 → (32 ≤ change b) × (change b ≤ 126)) → (text : List ℕ) → Printable text → Printable (map change text)
printable_map change keeps [] h = tt
printable_map change keeps (b ∷ text) h = (keeps b h.0.0 h.0.1, printable_map change keeps text h.1)

upper_keeps : (b : ℕ) → 32 ≤ b → b ≤ 126 → (32 ≤ upper b) × (upper b ≤ 126)
unfolding upper
upper_keeps b l m =
    by_test (λ n. (32 ≤ n) × (n ≤ 126)) (within (byte "a") (byte "z") b)
    (λ e. let k = ends (byte "a") (byte "z") b e in (omega arith, omega arith)) (λ e. (l, m))

lower_keeps : (b : ℕ) → 32 ≤ b → b ≤ 126 → (32 ≤ lower b) × (lower b ≤ 126)
unfolding lower
lower_keeps b l m =
    by_test (λ n. (32 ≤ n) × (n ≤ 126)) (within (byte "A") (byte "Z") b)
    (λ e. let k = ends (byte "A") (byte "Z") b e in (omega arith, omega arith)) (λ e. (l, m))

printable_case : (c : Case) (text : List ℕ) → Printable text → Printable (in_case c text)
unfolding in_case
printable_case as_it_is text h = h
printable_case raised text h = printable_map upper upper_keeps text h
printable_case lowered text h = printable_map lower lower_keeps text h

printable_fill : (p : Padding) (n : ℕ) → Printable (bytes_of (pad (pad_byte p) n))
unfolding bytes_of
printable_fill Left n = printable_repeated n (byte " ") (lit≤ tt) (lit≤ tt)
printable_fill Spaces n = printable_repeated n (byte " ") (lit≤ tt) (lit≤ tt)
printable_fill Zeros n = printable_repeated n (byte "0") (lit≤ tt) (lit≤ tt)

name_printable : (p : Piece) (text : List ℕ) → Printable text → Printable (text_of (map write (name_writes p text)))
unfolding name_writes text_of bytes_of
name_printable p text h = go p.flags.left
  where
    go : (left : Bool) → Printable (text_of (map write (cond left [] (pad_to p (length text) ∷ []) ++ (put text ∷ []))))
    go true = printable_join text [] h tt
    go false = printable_join (bytes_of (pad_to p (length text))) (text ++ []) (printable_fill p.padding (width_or p.width 0 - length text)) (printable_join text [] h tt)

-- the text of `Z` under a directive's flags, padding and width
abbrev pub zone_text : Piece → List ℕ → List ℕ
zone_text p zone = text_of (map write (zone_writes p zone))

zone_printable : (p : Piece) (zone : List ℕ) → Printable zone → Printable (zone_text p zone)
unfolding zone_writes
zone_printable p [] h = unfold text_of in tt
zone_printable p (b ∷ zone) h = name_printable p _ (printable_case (zone_case p.flags) (b ∷ zone) h)

-- in a stamp each `Z`, under any flags and width, has a name of such bytes and writes no other
module _ (format zone text : List ℕ) (r : Record) (room : ℕ) (stamp : formatted format zone r room ≡ done text)
    (before after : List Item) (p : Piece) (found : items format ≡ before ++ (directive p ∷ after)) (prints : p.spec ≡ TimeZoneName) where
  abbrev es : List Item → List Event
  es = events (events_of r zone)

  passed_name : Printable zone
  unfolding fields_of all_ok ok_field
  passed_name = ok_printable zone (both _ _ (passed_check format zone text r room stamp before after p found TimeZoneName prints)).0

  pub zone_prints : Printable zone × Printable (zone_text p zone) × (text ≡ text_of (es before) ++ (zone_text p zone ++ text_of (es after)))
  zone_prints =
      (passed_name, zone_printable p zone passed_name, unfold spec_events lead_of body_of text_of in printed format zone text r room stamp before after p found TimeZoneName prints)
