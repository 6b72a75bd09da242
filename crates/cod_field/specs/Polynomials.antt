-- The product of two bytes as one of polynomials. A number is the polynomial over the field of two
-- elements whose coefficients are its bits: a sum is `bit_xor`, and 2 is the polynomial x.
use Rattle.std.specs.Prelude.{◌≡◌, ℕ, ◌*◌, ◌/◌, ◌%◌, ◌<◌, nat_eq, bit_xor, if◌then◌else◌}
use Rattle.std.proofs.Common.{zero, suc}
use Rattle.cod_field.specs.Field.{product}

-- the product of the polynomials a and b, where b has no bits from `count` on
unfoldable pub polynomial_product : (count a b : ℕ) → ℕ
polynomial_product zero a b = 0
polynomial_product (suc count) a b =
    bit_xor (if nat_eq (b % 2) 1 then a else 0) (polynomial_product count (2 * a) (b / 2))

-- the multiple by q of x^8 + x^4 + x^3 + x^2 + 1
unfoldable pub multiple_of_modulus : ℕ → ℕ
multiple_of_modulus q = polynomial_product 9 q 285

-- `product` is the remainder of the product of the polynomials by the modulus
abbrev pub ProductIsRemainder : Type 0
ProductIsRemainder =
    (a b : ℕ) → a < 256 → b < 256
    → (product a b < 256)
    × ((quotient : ℕ) × (polynomial_product 8 a b ≡ bit_xor (multiple_of_modulus quotient) (product a b)))
