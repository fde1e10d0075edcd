-- The texts of pieces (profile).
use Rattle.std.specs.Prelude.{ℕ, List, [], ◌∷◌, decimal}
use Rattle.std.specs.Int.{w32, to_be_bytes}
use Rattle.hex.specs.Hex.{encode_lower}
use Rattle.nvme_output.specs.declared.pieces.Piece.{Piece}
use Rattle.nvme_output.specs.declared.pieces.Piece.TheVariants.{Words, Number, Byte, Dword}

-- a byte as two lower case hexadecimal digits, and a double word as eight
abbrev pub hex_byte : ℕ → List ℕ
hex_byte n = encode_lower (n ∷ [])

abbrev pub hex_dword : ℕ → List ℕ
hex_dword n = encode_lower (to_be_bytes w32 n)

-- the text of a piece
abbrev pub piece_text : Piece → List ℕ
piece_text (Words words) = words.now
piece_text (Number n) = decimal n
piece_text (Byte n) = hex_byte n
piece_text (Dword n) = hex_dword n
