-- The words of a line, and what each kind of word is.
use Rattle.std.specs.Prelude.{◌≡◌, ℕ, ◌==◌, ◌&&◌, ◌||◌, not, nat_le, nat_lt, Bool, if◌then◌else◌, List, [], ◌∷◌, length, take, drop, replicate, slice_index}
use Rattle.std.specs.Prelude.{slice_index_or, ◌-◌, codes, Option, Some, None, Result, Ok, Err}
use Rattle.std.specs.List.{filter, list_all, slice_split}
use Rattle.std.specs.Str.{bytes_eq}
use Rattle.std.specs.Str.Parse.{digits_value}
use Rattle.hex.specs.Hex.{decode_of}
use Rattle.hex.specs.declared.error.FromHexError.{FromHexError}
use Rattle.cod_words.specs.declared.data.DataError.{DataError}
use Rattle.cod_words.specs.declared.data.DataError.TheVariants as errors

abbrev pub is_not_empty : List ℕ → Bool
is_not_empty w = nat_lt 0 (length w)

-- what stands between the spaces, but for the empty pieces
abbrev pub words_of : List ℕ → List (List ℕ)
words_of line = filter is_not_empty (slice_split (λ b. b == 32) line)

abbrev pub is_last_empty : List (List ℕ) → Bool
is_last_empty pieces = not (length pieces == 0) && (length (slice_index_or pieces (length pieces - 1) []) == 0)

-- an empty last piece is no line
abbrev pub but_empty_last : List (List ℕ) → List (List ℕ)
but_empty_last pieces = if is_last_empty pieces then take (length pieces - 1) pieces else pieces

-- the lines of a text, each without its byte 0A
abbrev pub lines_of : List ℕ → List (List ℕ)
lines_of text = but_empty_last (slice_split (λ b. b == 10) text)

abbrev pub is_digit : ℕ → Bool
is_digit c = nat_le 48 c && nat_le c 57

abbrev pub is_letter : ℕ → Bool
is_letter c = nat_le 97 c && nat_le c 122

-- 1 to 10 digits, and a value of at most 4294967295
abbrev pub is_number : List ℕ → Bool
is_number w = nat_le 1 (length w) && nat_le (length w) 10 && list_all is_digit w && nat_le (digits_value 10 w) 4294967295

abbrev pub number_of : List ℕ → Option ℕ
number_of w = if is_number w then Some (digits_value 10 w) else None

abbrev pub is_name_byte : ℕ → Bool
is_name_byte c = is_letter c || is_digit c || c == 95

-- 1 to 16 bytes, the first of them a letter
abbrev pub is_name : List ℕ → Bool
is_name w = nat_le 1 (length w) && nat_le (length w) 16 && is_letter (slice_index w 0)
    && list_all is_name_byte w

-- an even number of hexadecimal digits, at least two
abbrev pub plain_data : Result (List ℕ) FromHexError → Result (List ℕ) DataError
plain_data (Ok []) = Err errors.Data
plain_data (Ok (b ∷ bs)) = Ok (b ∷ bs)
plain_data (Err e) = Err errors.Data

-- one byte, so many times
abbrev pub repeated_data : Result (List ℕ) FromHexError → Option ℕ → Result (List ℕ) DataError
repeated_data (Ok (b ∷ [])) (Some count) = if nat_lt 16777216 count then Err errors.Field else Ok (replicate count b)
repeated_data _ _ = Err errors.Data

abbrev pub data_of : List ℕ → Result (List ℕ) DataError
data_of w =
    if bytes_eq w (codes "-") then Ok []
    else if nat_le 3 (length w) && slice_index w 2 == 42 then repeated_data (decode_of (take 2 w)) (number_of (drop 3 w))
    else plain_data (decode_of w)

-- What a reader answers, where a reader on lists gives read. Memory may run out.
abbrev pub GivesData : Result (List ℕ) DataError → Result (List ℕ) DataError → Type 0
GivesData (Ok bytes) read = read ≡ Ok bytes
GivesData (Err errors.OutOfMemory) read = Unit {0}
GivesData (Err e) read = read ≡ Err e
