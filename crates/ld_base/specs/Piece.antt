-- Pieces of a line's payload.
use Rattle.std.specs.Prelude.{ℕ, List, Option, Some, None}
use Rattle.ld_base.specs.declared.piece.Piece.{Piece}
use Rattle.ld_base.specs.declared.piece.Piece.TheVariants.{Bytes, Gap}

-- the bytes of a piece, and none for a gap
abbrev pub bytes_of : Piece → Option (List ℕ)
bytes_of (Bytes bytes) = Some bytes.items
bytes_of Gap = None
