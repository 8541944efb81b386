-- Bytes of the stored form by their positions, and a directive of 8 bytes by what the code tests and reads.
use Rattle.std.specs.Prelude.{Option}
use mathlib.Core.Path.{◌≡◌, sym, ap, ◌∙◌}
use mathlib.Core.Bool.{Bool, true, false, ◌&&◌}
use mathlib.Core.List.{List}
use Prim.Native.Nat.{ℕ, ◌+◌, ◌≤◌, ◌<◌}
use native.Mathlib.Omega.{arith}
use lib.Dec.{leb}
use lib.ListN.{get_or, drop}
use lib.Seq.{get_or-drop, drop-drop}
use borrow.Author.Tests.{lt-leb, le-leb}
use Rattle.rules.specs.declared.Flags.{Flags}
use Rattle.rules.specs.declared.Padding.{Padding}
use Rattle.rules.specs.declared.Spec.{Spec}
use Rattle.rules.specs.declared.Piece.{Piece}
use Rattle.rules.specs.Stored.{four_of, coded_spec, spec_from, padding_from, flags_from, width_from, entry_of, is_known, width_taken, entry_taken}
use Rattle.codes.specs.Eight.{Eight}

-- ## Bytes by their positions

module _ (s : List ℕ) (at : ℕ) where
  pub byte_at : (k : ℕ) → get_or s (at + k) 0 ≡ get_or (drop at s) k 0
  byte_at k = sym (get_or-drop at s k 0)

  pub byte_here : get_or s at 0 ≡ get_or (drop at s) 0 0
  byte_here = ap (λ (i : ℕ). get_or s i 0) (omega arith) ∙ byte_at 0

  fourth : four_of (drop (at + 4) s) ≡ four_of (drop 4 (drop at s))
  fourth = ap four_of (sym (drop-drop 4 at s))

  -- ## Whether 8 bytes are taken

  abbrev tests : ℕ → ℕ → ℕ → ℕ → ℕ → Bool
  tests code pad flags there w = is_known (coded_spec code) && (leb pad 2 && (leb flags 7 && width_taken there w))

  entry_tests : tests (get_or s at 0) (get_or s (at + 1) 0) (get_or s (at + 2) 0) (get_or s (at + 3) 0) (four_of (drop (at + 4) s)) ≡ entry_taken (drop at s)
  unfolding entry_taken
  entry_tests = go byte_here (byte_at 1) (byte_at 2) (byte_at 3) fourth
    where
      go : {a a' b b' c c' d d' e e' : ℕ} → a ≡ a' → b ≡ b' → c ≡ c' → d ≡ d' → e ≡ e' → tests a b c d e ≡ tests a' b' c' d' e'
      go p q r t u = rw (p, q, r, t, u)

  module _ {k : Bool} (known : k ≡ is_known (coded_spec (get_or s at 0))) where
    pub bad_code : k ≡ false → false ≡ entry_taken (drop at s)
    bad_code n = let e = sym known ∙ n in sym (ap (λ (t : Bool). t && (leb (get_or s (at + 1) 0) 2 && (leb (get_or s (at + 2) 0) 7 && width_taken (get_or s (at + 3) 0) (four_of (drop (at + 4) s))))) e) ∙ entry_tests

    module _ (yes : k ≡ true) where
      there : is_known (coded_spec (get_or s at 0)) ≡ true
      there = sym known ∙ yes

      -- a code and 7 zeros
      pub only_code : {n : ℕ} → Eight (drop at s) n → n < 256 → true ≡ entry_taken (drop at s)
      unfolding entry_taken
      only_code {n} e h =
          let k = ap (λ (b : ℕ). is_known (coded_spec b)) (sym byte_here) ∙ there in
          let p : get_or (drop at s) 1 0 ≡ 0 = omega (arith, e.padding) in
          let f : get_or (drop at s) 2 0 ≡ 0 = omega (arith, e.flags) in
          let t : get_or (drop at s) 3 0 ≡ 0 = omega (arith, e.there) in
          let w : four_of (drop 4 (drop at s)) ≡ 0 = omega (arith, e.width) in
          rw (k, p, f, t, w)

      pub bad_padding : 2 < get_or s (at + 1) 0 → false ≡ entry_taken (drop at s)
      bad_padding h = let e = there in let f = lt-leb (get_or s (at + 1) 0) 2 h in rw (← entry_tests, e, f)

      module _ (pad : get_or s (at + 1) 0 ≤ 2) where
        pub bad_flags : 7 < get_or s (at + 2) 0 → false ≡ entry_taken (drop at s)
        bad_flags h = let e = there in let f = le-leb (get_or s (at + 1) 0) 2 pad in let g = lt-leb (get_or s (at + 2) 0) 7 h in rw (← entry_tests, e, f, g)

        pub by_width : get_or s (at + 2) 0 ≤ 7 → {v : ℕ} {r : Bool} → v ≡ four_of (drop (at + 4) s) → r ≡ width_taken (get_or s (at + 3) 0) v → r ≡ entry_taken (drop at s)
        by_width h {v} {r} q w =
            let e = there in
            let f = le-leb (get_or s (at + 1) 0) 2 pad in
            let g = le-leb (get_or s (at + 2) 0) 7 h in
            rw (← entry_tests, e, f, g) (w ∙ ap (width_taken (get_or s (at + 3) 0)) q)

  -- ## The directive that they are

  pub piece_of : {w : Option ℕ} {p : Padding} {f : Flags} {c : Spec} {v : ℕ} → v ≡ four_of (drop (at + 4) s) → w ≡ width_from (get_or s (at + 3) 0) v → p ≡ padding_from (get_or s (at + 1) 0) → f ≡ flags_from (get_or s (at + 2) 0) → c ≡ spec_from (coded_spec (get_or s at 0)) →
      record { width = w; padding = p; flags = f; spec = c; skipped = false } ≡ entry_of (drop at s)
  unfolding entry_of
  piece_of {w} {p} {f} {c} {v} q a b d e =
      go (a ∙ go' (byte_at 3) (q ∙ fourth)) (b ∙ ap padding_from (byte_at 1)) (d ∙ ap flags_from (byte_at 2)) (e ∙ ap (λ (k : ℕ). spec_from (coded_spec k)) byte_here)
    where
      go' : {x x' y y' : ℕ} → x ≡ x' → y ≡ y' → width_from x y ≡ width_from x' y'
      go' m n = rw (m, n)

      go : {w' : Option ℕ} {p' : Padding} {f' : Flags} {c' : Spec} → w ≡ w' → p ≡ p' → f ≡ f' → c ≡ c' →
          ◌≡◌ {A = Piece} (record { width = w; padding = p; flags = f; spec = c; skipped = false }) (record { width = w'; padding = p'; flags = f'; spec = c'; skipped = false })
      go m n o k = rw (m, n, o, k)
