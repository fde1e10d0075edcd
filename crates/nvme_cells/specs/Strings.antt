-- Strings of JSON (RFC 8259, 7). (profile)
use Rattle.std.specs.Prelude.{ℕ, List, [], ◌∷◌, ◌++◌, ◌==◌, codes, if◌then◌else◌, nat_lt}
use Rattle.std.specs.List.{flat_map}
use Rattle.nvme_output.specs.Pieces.{hex_byte}

-- quotes, backslashes and control characters are escaped
abbrev pub json_byte : ℕ → List ℕ
json_byte byte =
    if byte == 34 then codes "\\\"" else (if byte == 92 then codes "\\\\" else (if nat_lt byte 32 then codes "\\u00" ++ hex_byte byte else byte ∷ []))

abbrev pub json_string : List ℕ → List ℕ
json_string text = codes "\"" ++ (flat_map json_byte text ++ codes "\"")
