-- What is stored is well stored, and is loaded again.
use mathlib.Core.Path.{◌≡◌, refl, sym, ap}
use mathlib.Core.Bool.{true}
use mathlib.Core.List.{List, [], ◌∷◌, ◌++◌, append_assoc}
use Prim.Native.Nat.{ℕ, suc, ◌+◌, ◌-◌, ◌*◌, ◌<◌}
use native.Mathlib.Omega.{arith}
use lib.Dec.{ltb, leb}
use lib.ListN.{length, length-append, get_or}
use lib.Seq.{drop_at, drop-append_seam, take-append_seam}
use borrow.Author.Tests.{eq-eqb, le-leb, lt-ltb}
use Rattle.rules.specs.declared.Piece.{Piece}
use Rattle.rules.specs.Stored.{Part, text, piece, two_bytes, no_piece, steps_taken, steps_of, sections, well_stored, loaded, literals_in, pieces_in, entries_bytes, steps_bytes, stored}
use Rattle.rules.proofs.RecordLaws.{together}
use Rattle.rules.proofs.StoredEntries.{two_back, AllGiven, entries_back, entries_taken_lem, entries_length}

pub steps_length : (i : ℕ) (ps : List Part) → length (steps_bytes i ps) ≡ length ps * 3
unfolding steps_bytes
steps_length i [] = omega arith
steps_length i (text bytes ∷ ps) = omega (arith, steps_length i ps)
steps_length i (piece p ∷ ps) = omega (arith, steps_length (suc i) ps)

steps_back : (ps : List Part) (i : ℕ) (front : List Piece) → length front ≡ i → i + length (pieces_in ps) < 65536 → length (literals_in ps) < 65536 →
    steps_of (length ps) (steps_bytes i ps) (front ++ pieces_in ps) (literals_in ps) ≡ ps
unfolding steps_of steps_bytes pieces_in literals_in
steps_back [] i front e d l = refl
steps_back (text bytes ∷ ps) i front e d l =
    let h : length bytes < 65536 = omega (arith, length-append bytes (literals_in ps)) in
    rw (two_back (length bytes) (steps_bytes i ps) h, take-append_seam bytes (literals_in ps), drop-append_seam bytes (literals_in ps))
    (ap (λ (r : List Part). text bytes ∷ r) (steps_back ps i front e d (omega (arith, length-append bytes (literals_in ps)))))
steps_back (piece p ∷ ps) i front e d l =
    let h : i < 65536 = omega arith in
    let g : get_or (front ++ (p ∷ pieces_in ps)) i no_piece ≡ p = rw (← e) (here front) in
    let k : front ++ (p ∷ pieces_in ps) ≡ (front ++ (p ∷ [])) ++ pieces_in ps = sym (append_assoc front (p ∷ []) (pieces_in ps)) in
    rw (two_back i (steps_bytes (suc i) ps) h, g, k)
    (ap (λ (r : List Part). piece p ∷ r) (steps_back ps (suc i) (front ++ (p ∷ [])) (omega (arith, length-append front (p ∷ []))) (omega arith) l))
  where
    here : (xs : List Piece) → get_or (xs ++ (p ∷ pieces_in ps)) (length xs) no_piece ≡ p
    here [] = refl
    here (x ∷ xs) = here xs

steps_taken_lem : (ps : List Part) (i d : ℕ) → d ≡ i + length (pieces_in ps) → d < 65536 → length (literals_in ps) < 65536 →
    steps_taken (length ps) (steps_bytes i ps) d (length (literals_in ps)) ≡ true
unfolding steps_taken steps_bytes pieces_in literals_in
steps_taken_lem [] i d e m l = refl
steps_taken_lem (text bytes ∷ ps) i d e m l =
    let h : length bytes < 65536 = omega (arith, length-append bytes (literals_in ps)) in
    let le : leb (length bytes) (length (bytes ++ literals_in ps)) ≡ true = le-leb (length bytes) (length (bytes ++ literals_in ps)) (omega (arith, length-append bytes (literals_in ps))) in
    let k : length (bytes ++ literals_in ps) - length bytes ≡ length (literals_in ps) = omega (arith, length-append bytes (literals_in ps)) in
    rw (two_back (length bytes) (steps_bytes i ps) h, le, k) (steps_taken_lem ps i d e m (omega (arith, length-append bytes (literals_in ps))))
steps_taken_lem (piece p ∷ ps) i d e m l =
    let h : i < 65536 = omega arith in
    let lt : ltb i d ≡ true = lt-ltb i d (omega arith) in
    rw (two_back i (steps_bytes (suc i) ps) h, lt) (steps_taken_lem ps (suc i) d (omega arith) m l)

sections_of : (ls : List ℕ) (d : ℕ) (ds : List ℕ) (n : ℕ) (ss : List ℕ) → length ls < 65536 → d < 65536 → n < 65536 → length ds ≡ d * 8 →
    sections (two_bytes (length ls) ++ (ls ++ (two_bytes d ++ (ds ++ (two_bytes n ++ ss)))))
    ≡ record { literals = length ls; directives = d; steps = n; literal_bytes = ls; from_directives = ds ++ (two_bytes n ++ ss); from_steps = ss }
unfolding sections
sections_of ls d ds n ss h₁ h₂ h₃ e =
    rw (
      two_back (length ls) (ls ++ (two_bytes d ++ (ds ++ (two_bytes n ++ ss)))) h₁,
      take-append_seam ls (two_bytes d ++ (ds ++ (two_bytes n ++ ss))),
      drop-append_seam ls (two_bytes d ++ (ds ++ (two_bytes n ++ ss))),
      two_back d (ds ++ (two_bytes n ++ ss)) h₂,
      drop_at ds (two_bytes n ++ ss) (d * 8) e,
      two_back n ss h₃,
    )

-- within the counts of two bytes, and with directives that a parse gives
pub record Storable (ps : List Part) : Type 0 where
  pub literals : length (literals_in ps) < 65536
  pub directives : length (pieces_in ps) < 65536
  pub steps : length ps < 65536
  pub given : AllGiven (pieces_in ps)

pub stored_length : (ps : List Part) → length (stored ps) ≡ 6 + length (literals_in ps) + length (pieces_in ps) * 8 + length ps * 3
unfolding stored
stored_length ps =
    omega (
      arith,
      length-append (literals_in ps) (two_bytes (length (pieces_in ps)) ++ (entries_bytes (pieces_in ps) ++ (two_bytes (length ps) ++ steps_bytes 0 ps))),
      length-append (entries_bytes (pieces_in ps)) (two_bytes (length ps) ++ steps_bytes 0 ps),
      entries_length (pieces_in ps),
      steps_length 0 ps,
    )

module _ (ps : List Part) (f : Storable ps) where
  made : sections (stored ps) ≡ record { literals = length (literals_in ps); directives = length (pieces_in ps); steps = length ps; literal_bytes = literals_in ps; from_directives = entries_bytes (pieces_in ps) ++ (two_bytes (length ps) ++ steps_bytes 0 ps); from_steps = steps_bytes 0 ps }
  unfolding stored
  made = sections_of (literals_in ps) (length (pieces_in ps)) (entries_bytes (pieces_in ps)) (length ps) (steps_bytes 0 ps) f.literals f.directives f.steps (entries_length (pieces_in ps))

  pub loaded_stored : loaded (stored ps) ≡ ps
  unfolding loaded
  loaded_stored =
      rw (made, entries_back (pieces_in ps) (two_bytes (length ps) ++ steps_bytes 0 ps) f.given) (steps_back ps 0 [] refl (let h = f.directives in omega arith) f.literals)

  pub well_stored_lem : well_stored (stored ps) ≡ true
  unfolding well_stored
  well_stored_lem =
      rw made
      (together (eq-eqb _ _ (stored_length ps)) (together (entries_taken_lem (pieces_in ps) (two_bytes (length ps) ++ steps_bytes 0 ps) f.given) (steps_taken_lem ps 0 (length (pieces_in ps)) (omega arith) f.directives f.literals)))
