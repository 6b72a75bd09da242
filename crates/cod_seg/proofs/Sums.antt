-- What claims add to the columns, as sums of coefficients times bytes.
use Rattle.std.proofs.Common.{◌≡◌, ℕ, zero, suc, ◌+◌, ◌*◌, ◌<◌, bit_xor, sym, ap, ◌∙◌, arith, List, get_or, Option}
use Rattle.cod_field.specs.Field.{product}
use Rattle.cod_code.specs.Codewords.{AreBytes}
use Rattle.cod_code.specs.Columns.{gamma, sum_below}
use Rattle.cod_code.specs.Segments.{column_byte}
use Rattle.cod_code.proofs.Changing.{blocks_change_column}
use Rattle.cod_code.proofs.Sums.{sum_below_more, sum_below_none}
use Rattle.cod_claims.specs.declared.claim.Claim.{Claim}
use Rattle.cod_seg.specs.Steps.{added_to, own_byte}

pub added_sum : (n k i caller : ℕ) (claims : List (Option Claim)) (x : ℕ) → added_to n k i caller claims x ≡ sum_below (gamma k i) (own_byte caller claims x) n
added_sum zero k i caller claims x = sym (sum_below_none (gamma k i) (own_byte caller claims x))
added_sum (suc n) k i caller claims x =
    let at : n + 1 ≡ suc n = omega arith in
    ap (λ (z : ℕ). bit_xor z (product (gamma k i n) (own_byte caller claims x n))) (added_sum n k i caller claims x)
    ∙ sym (sum_below_more (gamma k i) (own_byte caller claims x) n) ∙ ap (sum_below (gamma k i) (own_byte caller claims x)) at

-- Where each block changes at a place by what the caller's claim adds there, each column does by the sum of these times
-- its coefficients.
pub column_adds : (k block i caller : ℕ) (claims : List (Option Claim)) (before after : List ℕ) (x : ℕ) → AreBytes before → AreBytes after
    → ((j : ℕ) → j < k → get_or after (j * block + x) 0 ≡ bit_xor (get_or before (j * block + x) 0) (own_byte caller claims x j))
    → column_byte k block i after x ≡ bit_xor (column_byte k block i before x) (added_to k k i caller claims x)
column_adds k block i caller claims before after x old new each =
    blocks_change_column k block i x before after (own_byte caller claims x) old new each
    ∙ ap (bit_xor (column_byte k block i before x)) (sym (added_sum k k i caller claims x))
