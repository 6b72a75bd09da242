-- What a data column stands for.
use Rattle.std.proofs.Common.{◌≡◌, ℕ, ◌<◌, List, Some, bit_xor, get_or, sym, ap, ◌∙◌}
use Rattle.std.specs.Int.Bits.{xor_assoc, xor_self, xor_zero_r}
use Rattle.cod_region.specs.Device.{Device}
use Rattle.cod_data.specs.Values.{HasValue}

twice : (a b : ℕ) → bit_xor (bit_xor a b) b ≡ a
twice a b = xor_assoc a b b ∙ ap (bit_xor a) (xor_self b) ∙ xor_zero_r a

pub one_value : (d : Device) (kept value other : ℕ → ℕ) → HasValue d kept value → HasValue d kept other → (x : ℕ) → x < d.size → value x ≡ other x
one_value d kept value other h k x inside =
    let told : Some h.held ≡ Some k.held = sym h.told ∙ k.told in
    let same : h.held ≡ k.held = cc in
    sym (twice (value x) (kept x)) ∙ ap (λ (b : ℕ). bit_xor b (kept x)) (sym (h.each x inside) ∙ ap (λ (l : List ℕ). get_or l x 0) same ∙ k.each x inside) ∙ twice (other x) (kept x)
