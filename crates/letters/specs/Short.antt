-- A number with the left flag alone, read straight off.
use Rattle.std.specs.Prelude.{◌≡◌, false, List, [], ◌∷◌, ℕ, pos, Some, None}
use Rattle.rules.specs.declared.Flag.TheVariants.{LeftPadding}
use Rattle.rules.specs.declared.Options.{Options}
use Rattle.rules.specs.declared.Padding.TheVariants.{Left}
use Rattle.rules.specs.declared.Piece.{Piece}
use Rattle.rules.specs.declared.Record.{Record}
use Rattle.rules.specs.declared.Spec.{Spec}
use Rattle.rules.specs.Decimal.{decimal_text}
use Rattle.rules.specs.Event.{put, write}
use Rattle.rules.specs.Reading.{outset, padded, flagged, spec_of, piece_of}
use Rattle.rules.specs.Writing.{spec_events}
use Rattle.text.specs.Ran.{Ran}

-- what is read after `-`, and the directive that a letter then ends
abbrev pub left_flag : Options
left_flag = flagged (padded outset Left) LeftPadding

abbrev pub left_piece : Spec → Piece
left_piece s = piece_of left_flag None false s

-- the directive of the letter b with the left flag runs as the plain decimal of v does
pub record Short (r : Record) (b v : ℕ) : Type 0 where
  pub spec : Spec
  pub entry : spec_of b ≡ Some spec
  pub runs : (zone : List ℕ) {limit room : ℕ} {l l' : List ℕ} {n n' : ℕ} → Ran limit room (write (put (decimal_text (pos v))) ∷ []) l n l' n' → Ran limit room (spec_events spec (left_piece spec) r zone) l n l' n'
