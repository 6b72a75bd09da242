-- The bytes of a name.
use Rattle.std.proofs.Common.{◌≡◌, ℕ, ◌<◌, Bool, true, false, List, length, get_or, arith, inl, inr}
use Rattle.std.specs.Prelude.{◌&&◌}
use Rattle.std.specs.List.{list_all}
use Rattle.std.specs.Str.{IsAscii}
use Rattle.std.proofs.lemmas.Bool.{cases_lt}
use Rattle.std.proofs.lemmas.Bool.Decides.{nat_tests}
use Rattle.std.proofs.lemmas.List.Sums.{AllPass-from_list_all}
use Rattle.std.proofs.lemmas.List.{get_or_past}
use Rattle.cod_words.specs.Words.{is_name, is_name_byte}

and_right : (a b : Bool) → (a && b) ≡ true → b ≡ true
and_right true b e = e
and_right false b e = grind (arith, e)

all_bytes : (w : List ℕ) → is_name w ≡ true → list_all is_name_byte w ≡ true
all_bytes w e = and_right _ _ e

byte_small : (c : ℕ) → is_name_byte c ≡ true → c < 128
byte_small c e = grind (arith, nat_tests, e)

pub name_is_ascii : (w : List ℕ) → is_name w ≡ true → IsAscii w
name_is_ascii w e i = elim (cases_lt i (length w)) [
  | inl lt ↦ byte_small (get_or w i 0) (AllPass-from_list_all is_name_byte w (all_bytes w e) i 0 lt)
  | inr le ↦ let z = get_or_past w i 0 le in omega (arith, z)
]
