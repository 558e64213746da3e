-- The bytes that a piece names.
use Rattle.std.specs.Prelude.{ℕ, ◌≤◌, List, length, slice_range}
use Rattle.wire_spec.specs.declared.record.Record.{Record}
use Rattle.machine_spec.specs.Machine.{bytes_of}
use Rattle.helpers.specs.declared.pieces.Piece.{Piece}
use Rattle.helpers.specs.declared.pieces.Piece.TheVariants as piece

-- the bytes of a piece: a range of the record's key or value, or bytes of the stack
abbrev pub piece_bytes : Record → Piece → List ℕ
piece_bytes given (piece.Key start end) = slice_range (bytes_of given.key) start end
piece_bytes given (piece.Value start end) = slice_range (bytes_of given.value) start end
piece_bytes given (piece.Stack bytes) = bytes.now

-- two places in some bytes, in order
pub record AreIn (bytes : List ℕ) (start end : ℕ) : Type 0 where
  pub order : start ≤ end
  pub within : end ≤ length bytes

-- a piece lies in the record's key or value; bytes of the stack are there as they are
abbrev pub IsPiece : Record → Piece → Type 0
IsPiece given (piece.Key start end) = AreIn (bytes_of given.key) start end
IsPiece given (piece.Value start end) = AreIn (bytes_of given.value) start end
IsPiece given (piece.Stack bytes) = Unit {0}
