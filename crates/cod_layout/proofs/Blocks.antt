-- Ranges that are read from blocks, part after part.
use Rattle.std.proofs.Common.{◌≡◌, ℕ, zero, suc, ◌+◌, ◌-◌, ◌*◌, ◌<◌, ◌≤◌, max, min, length, take, drop, get_or, List, [], ◌∷◌, ◌++◌, refl, sym, ap, ◌∙◌, arith, inl, inr, add-zero}
use Rattle.std.proofs.lemmas.Bool.{cases_lt}
use Rattle.std.proofs.lemmas.Nat.{mul-le}
use Rattle.std.proofs.lemmas.List.{take-take, drop-take, drop-drop}
use Rattle.std.proofs.Math.Seq.{take-add}
use Rattle.std.proofs.lemmas.Grind.{common_steps}
use Rattle.std.proofs.lemmas.List.FromFn.{get_or-map-range_with_len}
use Rattle.std.specs.List.{flat_map, All}
use Rattle.cod_types.specs.Overwritten.{overwritten, replaced}
use Rattle.cod_types.specs.Plain.{bytes_at}
use Rattle.cod_types.proofs.Replaced.{replaced_inside, replaced_outside, replaced_twice, replaced_is_range, replaced-nil, length-replaced}
use Rattle.cod_layout.specs.declared.parts.Part.{Part}
use Rattle.cod_layout.specs.Parts.{begin_in, length_in, part_in, parts_among, parts_of, place_of, IsInside}
use Rattle.cod_layout.specs.Blocks.{block_of, blocks_of, bytes_in, fill_parts, ReadsByParts, FillsByParts}
use Rattle.cod_layout.proofs.Splitting.{next_base, among_some, among_none, parts_are_behind, flat_map-parts_of}

-- a range of a range
pub bytes_at-bytes_at : (b : List ℕ) (at size off len : ℕ) → off + len ≤ size → bytes_at (bytes_at b at size) off len ≡ bytes_at b (at + off) len
bytes_at-bytes_at b at size off len fits =
    let rest : off + (size - off) ≡ size = omega arith in
    ap (λ (n : ℕ). take len (drop off (take n (drop at b)))) (sym rest)
    ∙ ap (take len) (drop-take off (size - off) (drop at b))
    ∙ take-take len (size - off) (drop off (drop at b)) (omega arith)
    ∙ ap (take len) (drop-drop off at b)

-- a range in two
pub bytes_at-add : (b : List ℕ) (at n m : ℕ) → bytes_at b at (n + m) ≡ bytes_at b at n ++ bytes_at b (at + n) m
bytes_at-add b at n m = take-add n m (drop at b) ∙ ap (λ (l : List ℕ). take n (drop at b) ++ take m l) (drop-drop n at b)

flat_map-same : {X A : Type 0} (P : X → Type 0) (f g : X → List A) → ((x : X) → P x → f x ≡ g x) → (xs : List X) → All P xs → flat_map f xs ≡ flat_map g xs
flat_map-same P f g same [] each = refl
flat_map-same P f g same (x ∷ xs) each =
    let first : f x ≡ g x = same x (each 0 x (omega arith)) in
    let rest : flat_map f xs ≡ flat_map g xs = flat_map-same P f g same xs (λ i d lt. each (suc i) d (omega arith)) in
    cc (first, rest)

pub reads_by_parts : ReadsByParts
reads_by_parts k block off len b size fits =
    let blocks = blocks_of k block b in
    let parts = parts_of k block off len in
    let one : (part : Part) → IsInside k block part → bytes_in blocks part ≡ bytes_at b (place_of block part) part.len =
    λ part inside. ap (λ (l : List ℕ). bytes_at l part.off part.len) (get_or-map-range_with_len (λ (i : ℕ). block_of block i b) 0 k part.block part.block [] inside.among (omega arith))
    ∙ bytes_at-bytes_at b (part.block * block) block part.off part.len inside.within in
    flat_map-same (IsInside k block) (bytes_in blocks) (λ (part : Part). bytes_at b (place_of block part) part.len) one parts
    (λ i d lt. (parts_are_behind k block off len 0 k (omega arith) i d lt).0)
    ∙ flat_map-parts_of (bytes_at b) (λ a. refl) (bytes_at-add b) k block off len fits

length-block_of : (k block j : ℕ) (b : List ℕ) → length b ≡ k * block → j < k → length (block_of block j b) ≡ block
length-block_of k block j b size below =
    let whole : (j + 1) * block ≤ k * block = mul-le (j + 1) block k block (omega arith) (omega arith) in
    let base = next_base block j in
    grind (arith, common_steps)

-- what a buffer takes from a block that its range meets is its part
pub replaced_is_brought : (block off j : ℕ) (into held : List ℕ) → length held ≡ block → 0 < length_in block off (length into) j
    → replaced off into (j * block) held
    ≡ overwritten (place_of block (part_in block off (length into) j) - off) (bytes_at held (begin_in block off j) (length_in block off (length into) j)) into
replaced_is_brought block off j into held size some =
    let from = max off (j * block) in
    let to = min (off + length into) (j * block + block) in
    let low : from ≡ max (j * block) off = omega arith in
    let high : to ≡ min (j * block + length held) (off + length into) = omega (arith, size) in
    let e : from ≡ j * block + (from - j * block) = omega arith in
    replaced_inside off into (j * block) held from to low high (omega (arith, some))
    ∙ ap (λ (n : ℕ). overwritten (n - off) (take (to - from) (drop (from - j * block) held)) into) e

-- and from another block it takes nothing
pub replaced_brings_none : (block off j : ℕ) (into held : List ℕ) → length held ≡ block → length_in block off (length into) j ≤ 0
    → replaced off into (j * block) held ≡ into
replaced_brings_none block off j into held size none = replaced_outside off into (j * block) held (omega (arith, size, none))

-- filling by the parts of the blocks from the j-th on a buffer that has what the blocks before it hold
fill_parts-from : (k block off : ℕ) (b into : List ℕ) → length b ≡ k * block → (j n : ℕ) → j + n ≤ k
    → fill_parts block off (blocks_of k block b) (parts_among block off (length into) j n) (replaced off into 0 (take (j * block) b))
    ≡ replaced off into 0 (take ((j + n) * block) b)
fill_parts-from k block off b into size j zero most = ap (λ (i : ℕ). replaced off into 0 (take (i * block) b)) (sym (add-zero j))
fill_parts-from k block off b into size j (suc n) most =
    let blocks = blocks_of k block b in
    let held = block_of block j b in
    let before = take (j * block) b in
    let now = replaced off into 0 before in
    let part = part_in block off (length into) j in
    let rest = parts_among block off (length into) (j + 1) n in
    let base = next_base block j in
    let whole : (j + 1) * block ≤ k * block = mul-le (j + 1) block k block (omega arith) (omega arith) in
    let count : length before ≡ j * block = grind (arith, common_steps) in
    let full : length held ≡ block = length-block_of k block j b size (omega arith) in
    let kept : length now ≡ length into = length-replaced off into 0 before in
    let same : get_or blocks j [] ≡ held = get_or-map-range_with_len (λ (i : ℕ). block_of block i b) 0 k j j [] (omega arith) (omega arith) in
    let more : replaced off now (j * block) held ≡ replaced off into 0 (take ((j + 1) * block) b) =
    (let e : j * block ≡ 0 + length before = omega (arith, count) in ap (λ (x : ℕ). replaced off now x held) e)
    ∙ replaced_twice off into 0 before held
    ∙ ap (replaced off into 0) (sym (take-add (j * block) block b) ∙ ap (λ (x : ℕ). take x b) (sym base)) in
    let last : j + 1 + n ≡ j + suc n = omega arith in
    let step : fill_parts block off blocks rest (replaced off now (j * block) held) ≡ replaced off into 0 (take ((j + suc n) * block) b) =
    ap (fill_parts block off blocks rest) more
    ∙ fill_parts-from k block off b into size (j + 1) n (omega arith)
    ∙ ap (λ (i : ℕ). replaced off into 0 (take (i * block) b)) last in
    elim (cases_lt 0 (length_in block off (length into) j)) [
      | inl some ↦
          let brought : overwritten (place_of block part - off) (bytes_at held part.off part.len) now ≡ replaced off now (j * block) held =
          sym (rw kept at (replaced_is_brought block off j now held full (omega (arith, kept, some)))) in
          ap (λ (l : List Part). fill_parts block off blocks l now) (among_some block off (length into) j n some)
          ∙ ap (λ (l : List ℕ). fill_parts block off blocks rest (overwritten (place_of block part - off) (bytes_at l part.off part.len) now)) same
          ∙ ap (fill_parts block off blocks rest) brought
          ∙ step
      | inr none ↦
          ap (λ (l : List Part). fill_parts block off blocks l now) (among_none block off (length into) j n none)
          ∙ ap (fill_parts block off blocks rest) (sym (replaced_brings_none block off j now held full (omega (arith, kept, none))))
          ∙ step
    ]

pub fills_by_parts : FillsByParts
fills_by_parts k block off b into size fits =
    let blocks = blocks_of k block b in
    let parts = parts_of k block off (length into) in
    let none : take (0 * block) b ≡ [] = (let e : 0 * block ≡ 0 = omega arith in ap (λ (n : ℕ). take n b) e) in
    let all : take ((0 + k) * block) b ≡ b = grind (arith, common_steps) in
    ap (fill_parts block off blocks parts) (sym (ap (replaced off into 0) none ∙ replaced-nil off into 0))
    ∙ fill_parts-from k block off b into size 0 k (omega arith)
    ∙ ap (replaced off into 0) all
    ∙ replaced_is_range into off b (omega (arith, size, fits))
