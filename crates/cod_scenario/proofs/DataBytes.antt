-- The bytes that a word of data gives are bytes.
use Rattle.std.proofs.Common.{◌≡◌, ℕ, zero, suc, ◌<◌, ◌≤◌, Bool, true, false, List, [], ◌∷◌, length, drop, take, replicate, refl, arith, cond, Result, Ok, Err, Option, Some}
use Rattle.std.specs.Prelude.{IfOk}
use Rattle.hex.specs.Hex.{IsBytes, decode_of, decode_pairs}
use Rattle.hex.specs.declared.error.FromHexError.{FromHexError}
use Rattle.hex.specs.declared.error.FromHexError.TheVariants.{OddLength}
use Rattle.hex.proofs.HexLemmas.{decode_pairs-ok}
use Rattle.cod_words.specs.Words.{number_of, data_of, repeated_data, plain_data}
use Rattle.cod_words.specs.declared.data.DataError.{DataError}
use Rattle.cod_words.specs.declared.data.DataError.TheVariants as data_errors
use Rattle.cod_scenario.specs.Judge.{data_word, data_or}

-- what digits can give
abbrev pub IsDecoded : List ℕ → List ℕ → Type 0
IsDecoded w bytes = IsBytes bytes × (length bytes ≤ length w)

decoded_pairs : (w : List ℕ) (r : Result (List ℕ) FromHexError) → decode_pairs 0 w ≡ r → IfOk r (IsDecoded w)
decoded_pairs w (Ok bytes) e = let d = decode_pairs-ok 0 w bytes e in let l = d.1 in (d.2, omega (arith, l))
decoded_pairs w (Err e) s = tt

decoded_by : (odd : Bool) (w : List ℕ) → IfOk (cond odd (Err OddLength) (decode_pairs 0 w)) (IsDecoded w)
decoded_by true w = tt
decoded_by false w = decoded_pairs w _ refl

pub decoded : (w : List ℕ) → IfOk (decode_of w) (IsDecoded w)
decoded w = decoded_by _ w

pub bytes_many : (n b : ℕ) → b < 256 → IsBytes (replicate n b)
bytes_many zero b h i = omega arith
bytes_many (suc n) b h zero = h
bytes_many (suc n) b h (suc i) = bytes_many n b h i

plain_in : (w : List ℕ) (r : Result (List ℕ) FromHexError) → IfOk r (IsDecoded w) → IfOk (plain_data r) IsBytes
plain_in w (Ok []) h = tt
plain_in w (Ok (b ∷ bs)) h = h.0
plain_in w (Err e) h = tt

counted_in : (many : Bool) (n b : ℕ) → b < 256 → IfOk (cond many (Err data_errors.Field) (Ok (replicate n b))) IsBytes
counted_in true n b small = tt
counted_in false n b small = bytes_many n b small

repeated_in : (w : List ℕ) (r : Result (List ℕ) FromHexError) (o : Option ℕ) → IfOk r (IsDecoded w) → IfOk (repeated_data r o) IsBytes
repeated_in w (Ok (b ∷ [])) (Some n) h = counted_in _ n b (h.0 0)
repeated_in w _ _ h = tt

either_in : (dash star : Bool) (w : List ℕ)
    → IfOk (cond dash (Ok []) (cond star (repeated_data (decode_of (take 2 w)) (number_of (drop 3 w))) (plain_data (decode_of w)))) IsBytes
either_in true star w = λ i. omega arith
either_in false true w = repeated_in (take 2 w) (decode_of (take 2 w)) (number_of (drop 3 w)) (decoded (take 2 w))
either_in false false w = plain_in w (decode_of w) (decoded w)

named_reason : (r : Result (List ℕ) DataError) → IfOk r IsBytes → IfOk (data_or r) IsBytes
named_reason (Ok bytes) h = h
named_reason (Err data_errors.Field) h = tt
named_reason (Err e) h = tt

pub data_in : (w : List ℕ) → IfOk (data_word w) IsBytes
unfolding data_word
data_in w = named_reason (data_of w) (either_in _ _ w)
