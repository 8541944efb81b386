-- The runs of names, zone names and single bytes, from the runs of their check, their pad and their text.
use Rattle.std.specs.Prelude.{Err}
use mathlib.Core.Path.{◌≡◌, refl, sym, ap, ◌∙◌}
use mathlib.Core.Bool.{Bool, true, cond}
use mathlib.Core.List.{List, [], ◌∷◌, map, map-append}
use Prim.Native.Nat.{ℕ}
use native.Mathlib.Nat.{zero-sub}
use native.Mathlib.Omega.{arith}
use lib.ListN.{length}
use Rattle.rules.specs.declared.Fixed.{Fixed}
use Rattle.rules.specs.declared.Name.{Name}
use Rattle.rules.specs.declared.Piece.{Piece}
use Rattle.rules.specs.declared.Record.{Record}
use Rattle.rules.specs.declared.Spec.{Spec}
use Rattle.rules.specs.declared.Spec.TheVariants.{Name as name, TimeZoneName, Fixed as fixed}
use Rattle.rules.specs.declared.Refusal.{Refusal}
use Rattle.rules.specs.Refusal.{number_of, number_in_check}
use Rattle.rules.specs.Event.{put, pad, Event, write, judged}
use Rattle.rules.specs.Name.{in_case, name_of, case_of, zone_case}
use Rattle.rules.specs.Reading.{no_flags}
use Rattle.rules.specs.Record.{zone_name, zone_ok, ok_field, all_ok}
use Rattle.rules.specs.Writing.{pad_to, name_writes, fixed_byte, zone_writes, name_fields, fields_of, lead_of, body_of, verdict, verdict_of, spec_events}
use Rattle.rules.proofs.WidthLaws.{length_cased}
use Rattle.text.specs.Ran.{Ran}
use Rattle.text.proofs.RanLaws.{nothing, ◌then◌, same_events, said, pad_none, checks_hold}
use Rattle.text.proofs.JudgedLaws.{Check, judged_first, passes, stops}
use Rattle.fields.proofs.Laws.{alone}
use Rattle.printing.specs.Plain.{plain_piece}
use Rattle.name_directive.specs.Named.{padding, capitals, name_number, letters_of}
use Rattle.name_directive.proofs.LetterLaws.{letters_cased}

letters_are : (n : Name) (p : Piece) (r : Record) {capital : Bool} {k : ℕ} → k ≡ name_number n r → capital ≡ capitals n p.flags → letters_of n capital k ≡ in_case (case_of n p.flags) (name_of n r)
letters_are n p r e q = rw (e, q) (letters_cased n p.flags r)

module _ {limit room : ℕ} where
  -- ## The pad

  pub unpadded : (p : Piece) (k : ℕ) {l : List ℕ} {n : ℕ} → p.flags.left ≡ true → Ran limit room (map write (padding p k)) l n l n
  unpadded p k e = same_events (ap (λ (left : Bool). map write (cond left [] (pad_to p k ∷ []))) (sym e)) nothing

  -- ## The pad and the text

  pub written : (p : Piece) (t : List ℕ) {k : ℕ} {l l' l'' : List ℕ} {n m r : ℕ} → k ≡ length t → Ran limit room (map write (padding p k)) l n l' m → Ran limit room (write (put t) ∷ []) l' m l'' r → Ran limit room (map write (name_writes p t)) l n l'' r
  unfolding name_writes
  written p t e v w =
      same_events (sym (map-append write (padding p (length t)) (put t ∷ [])))
      (same_events (ap (λ (k : ℕ). map write (padding p k)) e) v then w)

  pub plain_written : (s : Spec) (t : List ℕ) {l l' : List ℕ} {n r : ℕ} → Ran limit room (write (put t) ∷ []) l n l' r → Ran limit room (map write (name_writes (plain_piece s) t)) l n l' r
  unfolding name_writes
  plain_written s t w =
      same_events (ap (λ (k : ℕ). write (pad 32 k) ∷ write (put t) ∷ []) (sym (zero-sub (length t)))) (pad_none w)

  -- ## Names

  module _ (n : Name) (p : Piece) (r : Record) (zone : List ℕ) {ok : Bool} (e : ok ≡ all_ok (name_fields n) r zone) where
    name_held : {l l' : List ℕ} {a b : ℕ} → ok ≡ true → Ran limit room (map write (name_writes p (in_case (case_of n p.flags) (name_of n r)))) l a l' b → Ran limit room (spec_events (name n) p r zone) l a l' b
    unfolding spec_events lead_of fields_of body_of
    name_held t w = passes (name n) r zone e t w

    pub name_failed : {c : Check} {x : Refusal} {l : List ℕ} {a b : ℕ} → number_in_check c ≡ verdict ok → c ≡ Err x → Ran limit room (judged (number_of x) ∷ []) l a l b → Ran limit room (spec_events (name n) p r zone) l a l b
    unfolding spec_events lead_of fields_of body_of
    name_failed f g w = stops (name n) r zone e f g w

  cased : (n : Name) (p : Piece) (r : Record) {capital : Bool} {k : ℕ} {l l' : List ℕ} {a b : ℕ} → k ≡ name_number n r → capital ≡ capitals n p.flags → Ran limit room (write (put (letters_of n capital k)) ∷ []) l a l' b → Ran limit room (write (put (in_case (case_of n p.flags) (name_of n r))) ∷ []) l a l' b
  cased n p r e q w = said (letters_are n p r e q) w

  pub named : (n : Name) (p : Piece) (r : Record) (zone : List ℕ) {ok capital : Bool} {k len : ℕ} {l l' l'' : List ℕ} {a m b : ℕ} → ok ≡ all_ok (name_fields n) r zone → ok ≡ true → k ≡ name_number n r → capital ≡ capitals n p.flags → len ≡ length (letters_of n capital k) → Ran limit room (map write (padding p len)) l a l' m → Ran limit room (write (put (letters_of n capital k)) ∷ []) l' m l'' b → Ran limit room (spec_events (name n) p r zone) l a l'' b
  named n p r zone e t k q h v w =
      name_held n p r zone e t
      (written p (in_case (case_of n p.flags) (name_of n r)) (h ∙ ap length (letters_are n p r k q)) v (cased n p r k q w))

  pub plain_named : (n : Name) (r : Record) (zone : List ℕ) {ok capital : Bool} {k : ℕ} {l l' : List ℕ} {a b : ℕ} → ok ≡ all_ok (name_fields n) r zone → ok ≡ true → k ≡ name_number n r → capital ≡ capitals n no_flags → Ran limit room (write (put (letters_of n capital k)) ∷ []) l a l' b → Ran limit room (spec_events (name n) (plain_piece (name n)) r zone) l a l' b
  plain_named n r zone e t k q w =
      name_held n (plain_piece (name n)) r zone e t
      (plain_written (name n) (in_case (case_of n no_flags) (name_of n r)) (cased n (plain_piece (name n)) r k q w))

  -- ## Zone names

  zone_judged : (r : Record) (zone : List ℕ) {ok : Bool} {v : ℕ} {es : List Event} {l l' : List ℕ} {a b : ℕ} → ok ≡ zone_ok zone → v ≡ verdict ok → Ran limit room (judged v ∷ es) l a l' b → Ran limit room (judged (verdict_of TimeZoneName r zone) ∷ es) l a l' b
  unfolding ok_field fields_of
  zone_judged r zone e j w = judged_first TimeZoneName r zone (alone r zone zone_name e) j w

  pub zone_empty : (p : Piece) (r : Record) (zone : List ℕ) {ok : Bool} {v : ℕ} {l l' : List ℕ} {a b : ℕ} → ok ≡ zone_ok zone → v ≡ verdict ok → length zone ≡ 0 → Ran limit room (judged v ∷ []) l a l' b → Ran limit room (spec_events TimeZoneName p r zone) l a l' b
  unfolding spec_events lead_of fields_of body_of zone_writes
  zone_empty p r [] e j h w = zone_judged r [] e j w
  zone_empty p r (z ∷ zone) e j h w = absurd (omega arith)

  zone_held : (p : Piece) (r : Record) (zone : List ℕ) {ok : Bool} {v : ℕ} {l l' l'' : List ℕ} {a m b : ℕ} → ok ≡ zone_ok zone → v ≡ verdict ok → (length zone ≡ 0 → ⊥) → Ran limit room (judged v ∷ []) l a l' m → Ran limit room (map write (name_writes p (in_case (zone_case p.flags) zone))) l' m l'' b → Ran limit room (spec_events TimeZoneName p r zone) l a l'' b
  unfolding spec_events lead_of fields_of body_of zone_writes
  zone_held p r [] e j h v w = absurd (h refl)
  zone_held p r (z ∷ zone) e j h v w = zone_judged r (z ∷ zone) e j v then w

  pub zone_named : (p : Piece) (r : Record) (zone : List ℕ) {ok : Bool} {v : ℕ} {l l' l'' l''' : List ℕ} {a m k b : ℕ} → ok ≡ zone_ok zone → v ≡ verdict ok → (length zone ≡ 0 → ⊥) → Ran limit room (judged v ∷ []) l a l' m → Ran limit room (map write (padding p (length zone))) l' m l'' k → Ran limit room (write (put (in_case (zone_case p.flags) zone)) ∷ []) l'' k l''' b → Ran limit room (spec_events TimeZoneName p r zone) l a l''' b
  zone_named p r zone e j h v w x =
      zone_held p r zone e j h v
      (written p (in_case (zone_case p.flags) zone) (sym (length_cased (zone_case p.flags) zone)) w x)

  pub plain_zone_named : (r : Record) (zone : List ℕ) {ok : Bool} {v : ℕ} {l l' l'' : List ℕ} {a m b : ℕ} → ok ≡ zone_ok zone → v ≡ verdict ok → (length zone ≡ 0 → ⊥) → Ran limit room (judged v ∷ []) l a l' m → Ran limit room (write (put zone) ∷ []) l' m l'' b → Ran limit room (spec_events TimeZoneName (plain_piece TimeZoneName) r zone) l a l'' b
  unfolding in_case
  plain_zone_named r zone e j h v w = zone_held (plain_piece TimeZoneName) r zone e j h v (plain_written TimeZoneName zone w)

  -- ## Single bytes

  fixed_checked : (f : Fixed) (p : Piece) (r : Record) (zone : List ℕ) {l l' : List ℕ} {a b : ℕ} → Ran limit room (map write (name_writes p (fixed_byte f ∷ []))) l a l' b → Ran limit room (spec_events (fixed f) p r zone) l a l' b
  unfolding spec_events verdict_of verdict lead_of fields_of body_of all_ok
  fixed_checked f p r zone w = checks_hold w

  byte_is : (f : Fixed) {byte : ℕ} {l l' : List ℕ} {a b : ℕ} → byte ≡ fixed_byte f → Ran limit room (write (put (byte ∷ [])) ∷ []) l a l' b → Ran limit room (write (put (fixed_byte f ∷ [])) ∷ []) l a l' b
  byte_is f e w = said (ap (λ (x : ℕ). x ∷ []) e) w

  pub fixed_written : (f : Fixed) (p : Piece) (r : Record) (zone : List ℕ) {byte : ℕ} {l l' l'' : List ℕ} {a m b : ℕ} → byte ≡ fixed_byte f → Ran limit room (map write (padding p 1)) l a l' m → Ran limit room (write (put (byte ∷ [])) ∷ []) l' m l'' b → Ran limit room (spec_events (fixed f) p r zone) l a l'' b
  fixed_written f p r zone e v w = fixed_checked f p r zone (written p (fixed_byte f ∷ []) refl v (byte_is f e w))

  pub plain_fixed_written : (f : Fixed) (r : Record) (zone : List ℕ) {byte : ℕ} {l l' : List ℕ} {a b : ℕ} → byte ≡ fixed_byte f → Ran limit room (write (put (byte ∷ [])) ∷ []) l a l' b → Ran limit room (spec_events (fixed f) (plain_piece (fixed f)) r zone) l a l' b
  plain_fixed_written f r zone e w = fixed_checked f (plain_piece (fixed f)) r zone (plain_written (fixed f) (fixed_byte f ∷ []) (byte_is f e w))
