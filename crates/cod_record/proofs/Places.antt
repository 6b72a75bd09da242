-- The byte at a place where ranges are written over zeros.
use Rattle.std.proofs.Common.{◌≡◌, ◌≢◌, ℕ, ◌+◌, ◌-◌, ◌<◌, ◌≤◌, List, [], ◌∷◌, length, slice_index, refl, sym, ap, ◌∙◌, arith}
use Rattle.std.proofs.lemmas.Bool.Decides.{nat_tests}
use Rattle.cod_types.specs.Overwritten.{byte_at}
use Rattle.cod_record.specs.Record.{Range, end_of, range_byte, AreSparse, IsSparseRange}

pub inside : (x byte off : ℕ) (bytes : List ℕ) → off ≤ x → x < off + length bytes → byte_at x byte off bytes ≡ slice_index bytes (x - off)
inside x byte off bytes low high = grind (arith, nat_tests)

pub before : (x byte off : ℕ) (bytes : List ℕ) → x < off → byte_at x byte off bytes ≡ byte
before x byte off bytes low = grind (arith, nat_tests)

pub behind : (x byte off : ℕ) (bytes : List ℕ) → off + length bytes ≤ x → byte_at x byte off bytes ≡ byte
behind x byte off bytes high = grind (arith, nat_tests)

-- below the first range all is 0
pub range_byte-below : (gs : List Range) (from x : ℕ) → AreSparse from gs → x < from → range_byte gs x ≡ 0
range_byte-below [] from x are low = refl
range_byte-below (g ∷ gs) from x are low =
    before x (range_byte gs x) g.off g.bytes (omega (arith, are.0)) ∙ range_byte-below gs (end_of g + 8) x are.2 (omega (arith, are.0))

-- the first place of a range isn't 0
pub range_byte-first : (g : Range) (gs : List Range) → IsSparseRange g → range_byte (g ∷ gs) g.off ≢ 0
range_byte-first g gs is none =
    let same : range_byte (g ∷ gs) g.off ≡ slice_index g.bytes (g.off - g.off) = inside g.off (range_byte gs g.off) g.off g.bytes (omega arith) (omega (arith, is.some)) in
    let here : g.off - g.off ≡ 0 = omega arith in
    is.first (sym (ap (slice_index g.bytes) here) ∙ sym same ∙ none)

-- less room before the ranges
pub less : (gs : List Range) (from less : ℕ) → less ≤ from → AreSparse from gs → AreSparse less gs
less [] from l low are = tt
less (g ∷ gs) from l low are = (omega (arith, are.0), are.1, are.2)
