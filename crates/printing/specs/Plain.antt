-- A directive with no flag, no width and the default padding.
use Rattle.std.specs.Prelude.{false, None}
use Rattle.rules.specs.declared.Padding.TheVariants.{Left}
use Rattle.rules.specs.declared.Spec.{Spec}
use Rattle.rules.specs.declared.Piece.{Piece}
use Rattle.rules.specs.Reading.{no_flags}

abbrev pub plain_piece : Spec → Piece
plain_piece s = record { width = None; padding = Left; flags = no_flags; spec = s; skipped = false }
