-- The text of a piece of a line.
use Rattle.std.specs.Prelude.{ℕ, ◌==◌, ◌&&◌, nat_le, Bool, if◌then◌else◌, List, [], ◌∷◌, ◌++◌, length, slice_index, codes, decimal}
use Rattle.std.specs.List.{flat_map, list_all}
use Rattle.hex.specs.Hex.{encode_lower}
use Rattle.cod_print.specs.declared.piece.Piece.{Piece}
use Rattle.cod_print.specs.declared.piece.Piece.TheVariants.{Text, Number, Hex, Data}

-- no bytes, or two digits for each
abbrev pub hex_word : List ℕ → List ℕ
hex_word [] = codes "-"
hex_word (b ∷ bs) = encode_lower (b ∷ bs)

-- at least two bytes, and all equal
abbrev pub is_repeated : List ℕ → Bool
is_repeated bytes = nat_le 2 (length bytes) && list_all (λ b. b == slice_index bytes 0) bytes

-- the same, but one byte and a count where at least two are equal
abbrev pub data_word : List ℕ → List ℕ
data_word bytes = if is_repeated bytes then encode_lower (slice_index bytes 0 ∷ []) ++ (codes "*" ++ decimal (length bytes)) else hex_word bytes

abbrev pub piece_text : Piece → List ℕ
piece_text (Text bytes) = bytes.now
piece_text (Number n) = decimal n
piece_text (Hex bytes) = hex_word bytes.now
piece_text (Data bytes) = data_word bytes.now

-- words with a space before each
abbrev pub spaced : List (List ℕ) → List ℕ
spaced words = flat_map (λ w. 32 ∷ w) words
