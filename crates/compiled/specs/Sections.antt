-- What the parts of a format add to each section of the stored form.
use Rattle.std.specs.Prelude.{List, [], ◌∷◌, ◌++◌, ℕ, suc, length}
use Rattle.rules.specs.declared.Piece.{Piece}
use Rattle.rules.specs.Event.{put, Event, write}
use Rattle.rules.specs.Stored.{Part, text, piece, two_bytes, entry_bytes}

pub data Which : Type 0 where
  Literals : Which
  Directives : Which
  Steps : Which

-- bytes that stand for themselves
unfoldable pub text_events : Which → List ℕ → List Event
text_events Literals t = write (put t) ∷ []
text_events Directives t = []
text_events Steps t = write (put (0 ∷ two_bytes (length t))) ∷ []

-- the directive with index i
unfoldable pub piece_events : Which → ℕ → Piece → List Event
piece_events Literals i p = []
piece_events Directives i p = write (put (entry_bytes p)) ∷ []
piece_events Steps i p = write (put (1 ∷ two_bytes i)) ∷ []

-- the next directive has index i
unfoldable pub section_events : Which → ℕ → List Part → List Event
section_events section i [] = []
section_events section i (text t ∷ ps) = text_events section t ++ section_events section i ps
section_events section i (piece p ∷ ps) = piece_events section i p ++ section_events section (suc i) ps
