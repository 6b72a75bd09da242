-- The code: the values of polynomials of degree below k at the points 0 to n - 1.
use Rattle.std.specs.Prelude.{◌≡◌, ℕ, ◌<◌, List, [], ◌∷◌, length, slice_index, bit_xor}
use Rattle.cod_field.specs.Field.{product}

-- each is a byte
abbrev pub AreBytes : List ℕ → Type 0
AreBytes xs = (i : ℕ) → slice_index xs i < 256

-- the value at x of the polynomial with these coefficients, that of degree 0 first
unfoldable pub value_at : List ℕ → ℕ → ℕ
value_at [] x = 0
value_at (a ∷ p) x = bit_xor a (product x (value_at p x))

-- v has the values at 0, 1, .. n - 1 of a polynomial with k coefficients
pub record IsCodeword (n k : ℕ) (v : List ℕ) : Type 0 where
  pub size : length v ≡ n
  pub polynomial : (p : List ℕ) × (length p ≡ k) × AreBytes p × ((i : ℕ) → i < n → slice_index v i ≡ value_at p i)
