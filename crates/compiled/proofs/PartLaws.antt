-- A format part by part: bytes that stand for themselves are joined, up to a directive, a cut or the end.
use mathlib.Core.Path.{◌≡◌, refl, sym, ap, subst, ◌∙◌}
use mathlib.Core.List.{List, [], ◌∷◌, ◌++◌, append_assoc, map}
use Prim.Native.Nat.{ℕ, ◌+◌, ◌-◌, ◌≤◌, ◌<◌}
use native.Mathlib.Omega.{arith}
use lib.ListN.{length, take, drop, get_or, length-take, length-drop}
use lib.Seq.{take-add, drop-drop}
use Rattle.rules.specs.declared.Piece.{Piece}
use Rattle.rules.specs.Format.{Item, literal, echo, directive, cut, between, read}
use Rattle.rules.specs.Stored.{Part as Stored, text, piece, join_text, parts}
use Rattle.reading.proofs.Positions.{Part, Last, items_at}
use Rattle.compiled.specs.Parts.{parts_at, bytes_to, add_text, Apart, TextTo, TextEnds, TextNext, PieceNext}

-- ## Texts joined

join_join : (a b : List ℕ) (ps : List Stored) → join_text a (join_text b ps) ≡ join_text (a ++ b) ps
join_join a b [] = refl
join_join a b (text c ∷ ps) = ap (λ (x : List ℕ). text x ∷ ps) (sym (append_assoc a b c))
join_join a b (piece p ∷ ps) = refl

literals_join : (b : ℕ) (t : List ℕ) (is : List Item) → parts (map literal (b ∷ t) ++ is) ≡ join_text (b ∷ t) (parts is)
unfolding parts
literals_join b [] is = refl
literals_join b (c ∷ t) is = ap (join_text (b ∷ [])) (literals_join c t is) ∙ join_join (b ∷ []) (c ∷ t) (parts is)

add_join : (a b : List ℕ) (ps : List Stored) → 0 < length b → add_text a (join_text b ps) ≡ add_text (a ++ b) ps
add_join [] [] ps h = absurd (omega arith)
add_join [] (x ∷ b) ps h = refl
add_join (x ∷ a) b ps h = join_join (x ∷ a) b ps

add_some : (t : List ℕ) (ps : List Stored) → 0 < length t → Apart ps → add_text t ps ≡ text t ∷ ps
add_some [] ps h a = absurd (omega arith)
add_some (b ∷ t) [] h a = refl
add_some (b ∷ t) (text c ∷ ps) h a = absurd a
add_some (b ∷ t) (piece p ∷ ps) h a = refl

joined_apart : (t : List ℕ) (ps : List Stored) → Apart (join_text t ps) → ⊥
joined_apart t [] a = a
joined_apart t (text c ∷ ps) a = a
joined_apart t (piece p ∷ ps) a = a

module _ (format : List ℕ) where
  pub bytes_length : (i e : ℕ) → e ≤ length format → length (bytes_to format i e) ≡ e - i
  bytes_length i e h = simp (length-take, length-drop) (omega arith)

  bytes_join : (i e e' : ℕ) → i ≤ e → e ≤ e' → bytes_to format i e ++ bytes_to format e e' ≡ bytes_to format i e'
  bytes_join i e e' h k =
      let a : i + (e - i) ≡ e = omega arith in
      let b : e - i + (e' - e) ≡ e' - i = omega arith in
      let d : drop (e - i) (drop i format) ≡ drop e format = drop-drop (e - i) i format ∙ ap (λ (n : ℕ). drop n format) a in
      sym (ap (λ (n : ℕ). take n (drop i format)) (sym b) ∙ take-add (e - i) (e' - e) (drop i format) ∙ ap (λ (l : List ℕ). take (e - i) (drop i format) ++ take (e' - e) l) d)

  module _ (i : ℕ) where
    on_text : {e e' : ℕ} → TextTo format i e → parts_at format e ≡ join_text (bytes_to format e e') (parts_at format e') → e < e' → e' ≤ length format → TextTo format i e'
    on_text {e} {e'} t q h k =
        record {
          parted =
              t.parted ∙ ap (add_text (bytes_to format i e)) q
              ∙ add_join (bytes_to format i e) (bytes_to format e e') (parts_at format e') (omega (arith, bytes_length e e' k))
              ∙ ap (λ (b : List ℕ). add_text b (parts_at format e')) (bytes_join i e e' t.onward (omega arith));
          onward = omega (arith, t.onward);
          within = λ g. k;
        }

    pub on_echo : {e e' : ℕ} → TextTo format i e → Part format e (echo (bytes_to format e e') ∷ []) e' → TextTo format i e'
    unfolding parts
    on_echo t p = on_text t (ap parts p.items) p.onward p.within

    pub on_literals : {e e' : ℕ} → TextTo format i e → Part format e (map literal (bytes_to format e e')) e' → TextTo format i e'
    on_literals {e} {e'} t p = on_text t (ap parts p.items ∙ go (bytes_to format e e') (omega (arith, bytes_length e e' p.within, p.onward))) p.onward p.within
      where
        go : (t : List ℕ) → 0 < length t → parts (map literal t ++ read between (drop e' format)) ≡ join_text t (parts_at format e')
        go [] h = absurd (omega arith)
        go (b ∷ t) h = literals_join b t (read between (drop e' format))

  -- ## Where they end

  none_apart : (e : ℕ) → parts_at format e ≡ [] → Apart (parts_at format e)
  none_apart e q = rw q tt

  module _ {e : ℕ} where
    pub past_none : length format ≤ e → parts_at format e ≡ []
    unfolding parts
    past_none h = ap parts ((items_at format e).past h).items

    pub cut_none : Last format e (cut ∷ []) → parts_at format e ≡ []
    unfolding parts
    cut_none p = ap parts p.items

    pub piece_here : {p : Piece} {next : ℕ} → Part format e (directive p ∷ []) next → PieceNext format e p next
    unfolding parts
    piece_here p = record { parted = ap parts p.items; onward = p.onward; within = p.within }

    module _ {i : ℕ} (t : TextTo format i e) where
      pub ends_piece : {p : Piece} {next : ℕ} → get_or format e 0 ≡ 37 → Part format e (directive p ∷ []) next → TextEnds format i e
      ends_piece h p = record { reached = t; apart = rw (piece_here p).parted tt; percent = λ g. h }

      pub ends_cut : get_or format e 0 ≡ 37 → Last format e (cut ∷ []) → TextEnds format i e
      ends_cut h p = record { reached = t; apart = none_apart e (cut_none p); percent = λ g. h }

      pub ends_past : length format ≤ e → TextEnds format i e
      ends_past h = record { reached = t; apart = none_apart e (past_none h); percent = λ g. absurd (omega arith) }

  -- ## The next part

  module _ {i e : ℕ} (t : TextEnds format i e) where
    pub text_next : i < e → i ≤ length format → TextNext format i e
    text_next h k =
        let g = t.reached.within k in
        record { parted = t.reached.parted ∙ add_some (bytes_to format i e) (parts_at format e) (omega (arith, bytes_length i e g)) t.apart; onward = h; within = g }

    module _ (h : e ≤ i) where
      same : e ≡ i
      same = omega (arith, t.reached.onward)

      pub percent_here : i < length format → get_or format i 0 ≡ 37
      percent_here k = rw same at (t.percent (omega (arith, same)))

      pub no_echo : {next : ℕ} → Part format i (echo (bytes_to format i next) ∷ []) next → parts_at format i ≡ []
      unfolding parts
      no_echo {next} p =
          let a : Apart (parts_at format i) = subst (λ (k : ℕ). Apart (parts_at format k)) same t.apart in
          absurd (joined_apart (bytes_to format i next) (parts_at format next) (rw (ap parts p.items) at a))
