-- The sections: what is left of each as the format is walked, and its text.
use mathlib.Core.Path.{◌≡◌, refl, sym, ap, ◌∙◌}
use mathlib.Core.List.{List, [], ◌∷◌, ◌++◌, append_assoc, append-nil}
use Prim.Native.Nat.{ℕ, suc, ◌+◌, ◌*◌, ◌/◌, ◌%◌, ◌≤◌}
use native.Mathlib.Numerals.{add-one}
use native.Mathlib.Omega.{arith}
use lib.ListN.{length, get_or, take}
use Rattle.std.specs.Int.{w64, to_le_bytes}
use Rattle.rules.specs.declared.Piece.{Piece}
use Rattle.rules.specs.Record.{longest_format}
use Rattle.rules.specs.Event.{Event, bytes_of, text_of, length_of, Holds}
use Rattle.rules.specs.Format.{items}
use Rattle.rules.specs.Stored.{Part, text, piece, unskipped, two_bytes, code_of, padding_code, flags_code, present, width_value, entry_bytes, parts, literals_in, pieces_in, entries_bytes, steps_bytes}
use Rattle.rules.proofs.EventLaws.{length_text, holds_join}
use Rattle.rules.proofs.StoredEntries.{entries_length}
use Rattle.rules.proofs.StoredLoading.{steps_length, stored_length}
use Rattle.rules.proofs.StoredGiven.{stored_most}
use Rattle.text.specs.Ran.{Ran}
use Rattle.text.proofs.RanLaws.{◌then◌, nothing, same_events}
use Rattle.compiled.specs.Parts.{parts_at, bytes_to, TextNext, PieceNext}
use Rattle.compiled.specs.Sections.{Which, Literals, Directives, Steps, text_events, piece_events, section_events}

-- ## Their text

literals_said : (i : ℕ) (ps : List Part) → text_of (section_events Literals i ps) ≡ literals_in ps
unfolding section_events text_events piece_events text_of bytes_of literals_in
literals_said i [] = refl
literals_said i (text t ∷ ps) = ap (λ (x : List ℕ). t ++ x) (literals_said i ps)
literals_said i (piece p ∷ ps) = literals_said (suc i) ps

entries_said : (i : ℕ) (ps : List Part) → text_of (section_events Directives i ps) ≡ entries_bytes (pieces_in ps)
unfolding section_events text_events piece_events text_of bytes_of pieces_in entries_bytes
entries_said i [] = refl
entries_said i (text t ∷ ps) = entries_said i ps
entries_said i (piece p ∷ ps) = ap (λ (x : List ℕ). entry_bytes p ++ x) (entries_said (suc i) ps)

steps_said : (i : ℕ) (ps : List Part) → text_of (section_events Steps i ps) ≡ steps_bytes i ps
unfolding section_events text_events piece_events text_of bytes_of steps_bytes
steps_said i [] = refl
steps_said i (text t ∷ ps) = ap (λ (x : List ℕ). 0 ∷ (two_bytes (length t) ++ x)) (steps_said i ps)
steps_said i (piece p ∷ ps) = ap (λ (x : List ℕ). 1 ∷ (two_bytes i ++ x)) (steps_said (suc i) ps)

-- the bytes of a section
unfoldable pub section_bytes : Which → List Part → List ℕ
section_bytes Literals ps = literals_in ps
section_bytes Directives ps = entries_bytes (pieces_in ps)
section_bytes Steps ps = steps_bytes 0 ps

pub section_said : (section : Which) (ps : List Part) → text_of (section_events section 0 ps) ≡ section_bytes section ps
unfolding section_bytes
section_said Literals ps = literals_said 0 ps
section_said Directives ps = entries_said 0 ps
section_said Steps ps = steps_said 0 ps

module _ (ps : List Part) where
  pub literals_length : length_of (section_events Literals 0 ps) ≡ length (literals_in ps)
  literals_length = omega (arith, length_text (section_events Literals 0 ps), ap length (literals_said 0 ps))

  pub directives_length : length_of (section_events Directives 0 ps) ≡ length (pieces_in ps) * 8
  directives_length = omega (arith, length_text (section_events Directives 0 ps), ap length (entries_said 0 ps), entries_length (pieces_in ps))

  pub orders_length : length_of (section_events Steps 0 ps) ≡ length ps * 3
  orders_length = omega (arith, length_text (section_events Steps 0 ps), ap length (steps_said 0 ps), steps_length 0 ps)

pub section_small : (format : List ℕ) → length format ≤ longest_format → (section : Which) → length_of (section_events section 0 (parts (items format))) ≤ 22534
section_small format h section = go section
  where
    ps : List Part
    ps = parts (items format)

    go : (section : Which) → length_of (section_events section 0 ps) ≤ 22534
    go Literals = omega (arith, stored_most format h, stored_length ps, literals_length ps)
    go Directives = omega (arith, stored_most format h, stored_length ps, directives_length ps)
    go Steps = omega (arith, stored_most format h, stored_length ps, orders_length ps)

-- none of their events is a check
pub section_holds : (section : Which) (i : ℕ) (ps : List Part) → Holds (section_events section i ps)
unfolding section_events Holds
section_holds section i [] = tt
section_holds section i (text t ∷ ps) = holds_join (text_events section t) (section_events section i ps) (go section) (section_holds section i ps)
  where
    go : (section : Which) → Holds (text_events section t)
    go Literals = unfold text_events in tt
    go Directives = unfold text_events in tt
    go Steps = unfold text_events in tt
section_holds section i (piece p ∷ ps) = holds_join (piece_events section i p) (section_events section (suc i) ps) (go section) (section_holds section (suc i) ps)
  where
    go : (section : Which) → Holds (piece_events section i p)
    go Literals = unfold piece_events in tt
    go Directives = unfold piece_events in tt
    go Steps = unfold piece_events in tt

-- ## The bytes of a count, a step and a directive

pub low_two : (n : ℕ) {bytes : List ℕ} → bytes ≡ to_le_bytes w64 n → take 2 bytes ≡ two_bytes n
low_two n e = rw e refl

pub step_bytes : (n : ℕ) {bytes : List ℕ} (section : ℕ) → bytes ≡ to_le_bytes w64 n → section ∷ get_or bytes 0 0 ∷ get_or bytes 1 0 ∷ [] ≡ section ∷ two_bytes n
step_bytes n section e = rw e refl

pub entry_bytes_lem : (p : Piece) {v c d f t : ℕ} {w : List ℕ} → v ≡ width_value p.width → w ≡ to_le_bytes w64 v → c ≡ code_of p.spec → d ≡ padding_code p.padding → f ≡ flags_code p.flags → t ≡ present p.width →
    c ∷ d ∷ f ∷ t ∷ get_or w 0 0 ∷ get_or w 1 0 ∷ get_or w 2 0 ∷ get_or w 3 0 ∷ [] ≡ entry_bytes p
unfolding entry_bytes
entry_bytes_lem p {v} ev ew ec ed ef et =
    let third : v / 65536 % 256 ≡ v / 256 / 256 % 256 = omega arith in
    let fourth : v / 16777216 % 256 ≡ v / 256 / 256 / 256 % 256 = omega arith in
    rw (ew, ← ev, ec, ed, ef, et, third, fourth) refl

-- ## The walk

-- a skipped letter adds nothing
unskipped_alike : (section : Which) (i : ℕ) (p : Piece) → piece_events section i (unskipped p) ≡ piece_events section i p
unfolding piece_events entry_bytes
unskipped_alike Literals i p = refl
unskipped_alike Directives i p = refl
unskipped_alike Steps i p = refl

-- the parts before position i have been written, and the next directive has this index
pub record Walked (room : ℕ) (section : Which) (format out₀ : List ℕ) (n₀ index i : ℕ) (out : List ℕ) (n : ℕ) : Type 0 where
  pub found : List Event
  pub rest : section_events section 0 (parts_at format 0) ≡ found ++ section_events section index (parts_at format i)
  pub ran : (limit : ℕ) → Ran limit room found out₀ n₀ out n

module _ {room : ℕ} {section : Which} {format out₀ : List ℕ} {n₀ : ℕ} where
  pub walk_start : Walked room section format out₀ n₀ 0 0 out₀ n₀
  walk_start = record { found = []; rest = refl; ran = λ limit. nothing }

  module _ {index i : ℕ} {out : List ℕ} {n : ℕ} (w : Walked room section format out₀ n₀ index i out n) where
    walk_on : (more : List Event) (index' i' : ℕ) {out' : List ℕ} {n' : ℕ} → section_events section index (parts_at format i) ≡ more ++ section_events section index' (parts_at format i') → ((limit : ℕ) → Ran limit room more out n out' n') → Walked room section format out₀ n₀ index' i' out' n'
    walk_on more index' i' e v =
        record {
          found = w.found ++ more;
          rest = w.rest ∙ ap (λ (x : List Event). w.found ++ x) e ∙ sym (append_assoc w.found more (section_events section index' (parts_at format i')));
          ran = λ limit. w.ran limit then v limit;
        }

    pub walk_text : {e : ℕ} {out' : List ℕ} {n' : ℕ} → TextNext format i e → ((limit : ℕ) → Ran limit room (text_events section (bytes_to format i e)) out n out' n') → Walked room section format out₀ n₀ index e out' n'
    unfolding section_events
    walk_text {e} t v = walk_on (text_events section (bytes_to format i e)) index e (ap (section_events section index) t.parted) v

    pub walk_piece : {p : Piece} {e : ℕ} {out' : List ℕ} {n' : ℕ} → PieceNext format i p e → ((limit : ℕ) → Ran limit room (piece_events section index p) out n out' n') → Walked room section format out₀ n₀ (index + 1) e out' n'
    unfolding section_events
    walk_piece {p} {e} t v =
        walk_on (piece_events section index p) (index + 1) e
        (ap (section_events section index) t.parted ∙ rw (unskipped_alike section index p, add-one index)) v

    pub walk_end : parts_at format i ≡ [] → (limit : ℕ) → Ran limit room (section_events section 0 (parts_at format 0)) out₀ n₀ out n
    unfolding section_events
    walk_end e limit =
        same_events (sym (w.rest ∙ ap (λ (ps : List Part). w.found ++ section_events section index ps) e ∙ append-nil w.found)) (w.ran limit)
