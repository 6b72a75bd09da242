-- A name by its parts.
use Rattle.std.proofs.Common.{◌≡◌, ℕ, ◌≤◌, true, List, length, get_or, arith}
use Rattle.std.specs.List.{list_all}
use Rattle.cod_words.specs.Words.{is_name, is_name_byte, is_letter}

pub rest_of_name : (w : List ℕ) → 1 ≤ length w → length w ≤ 16 → is_letter (get_or w 0 0) ≡ true → list_all is_name_byte w ≡ is_name w
rest_of_name w low high letter = grind (arith, low, high, letter)
