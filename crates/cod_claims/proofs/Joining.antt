-- Bytes put end to end.
use Rattle.std.proofs.Common.{◌≡◌, ℕ, suc, refl, ◌∷◌, ◌+◌, ◌<◌, ◌≤◌, length, map, List, [], ◌++◌, take, drop, get_or, sym, ap, ◌∙◌, arith, length-append}
use Rattle.std.proofs.lemmas.List.{take_more, take_all, take_at, flat_map_more}
use Rattle.std.proofs.lemmas.List.Folds.{length-flat_map-take}
use Rattle.std.proofs.lemmas.List.FromFn.{length-range_with_len}
use Rattle.std.specs.List.{flat_map, range_with_len}
use Rattle.cod_layout.specs.declared.parts.Part.{Part}
use Rattle.cod_layout.specs.Parts.{place_of}
use Rattle.cod_layout.proofs.Splitting.{parts_split}
use Rattle.cod_claims.specs.Slips.{AreWhole, JoinsRange}
use Rattle.std.proofs.lemmas.Grind.{common_steps}
use Rattle.cod_types.specs.Overwritten.{overwritten}
use Rattle.cod_kernel.proofs.SumLaws.{added_at, length-added}
use Rattle.cod_claims.specs.Changes.{Change, MakesDelta, joined, new_in}

-- one piece more fits in
pub joined_fits : (cs : List Change) (i : ℕ) (d : Change) (piece : List ℕ) (at size : ℕ) → i < length cs → d ≡ get_or cs i d → piece ≡ d.bytes → at ≡ length (joined (take i cs))
    → size ≡ length (joined cs)
    → at + length piece ≤ size
joined_fits cs i d piece at size below is by from all =
    let most = length-flat_map-take (λ (c : Change). c.bytes) cs i d below in
    omega (arith, from, all, most, ap length by, ap (λ (c : Change). length c.bytes) is)

joined_next : (cs : List Change) (i : ℕ) (d : Change) (piece : List ℕ) → i < length cs → d ≡ get_or cs i d → piece ≡ d.bytes → joined (take (i + 1) cs) ≡ joined (take i cs) ++ piece
joined_next cs i d piece below is by =
    ap joined (take_more cs i d below) ∙ sym (flat_map_more (λ (c : Change). c.bytes) [] (take i cs) (get_or cs i d))
    ∙ ap (λ (l : List ℕ). joined (take i cs) ++ l) (ap (λ (c : Change). c.bytes) (sym is) ∙ sym by)

-- and with it
pub joined_more : (cs : List Change) (i : ℕ) (d : Change) (piece : List ℕ) (at : ℕ) (into new : List ℕ) → i < length cs → d ≡ get_or cs i d → piece ≡ d.bytes → length into ≡ length (joined cs)
    → at ≡ length (joined (take i cs)) → take at into ≡ joined (take i cs) → new ≡ overwritten at piece into
    → (at + length piece ≡ length (joined (take (i + 1) cs))) × (take (at + length piece) new ≡ joined (take (i + 1) cs))
joined_more cs i d piece at into new below is by whole from front wrote =
    let fits = joined_fits cs i d piece at (length into) below is by from whole in
    let next = joined_next cs i d piece below is by in
    let size : length (take at into ++ piece) ≡ at + length piece = grind (arith, common_steps) in (
      rw next (omega (arith, from, length-append (joined (take i cs)) piece)),
      rw wrote (take_at (take at into ++ piece) (drop (at + length piece) into) (at + length piece) size
          ∙ ap (λ (l : List ℕ). l ++ piece) front ∙ sym next),
    )

-- all of them
pub joined_all : (cs : List Change) (i at : ℕ) (into : List ℕ) → length cs ≤ i → length into ≡ length (joined cs) → at ≡ length (joined (take i cs)) → take at into ≡ joined (take i cs)
    → into ≡ joined cs
joined_all cs i at into past size from front =
    let whole : take i cs ≡ cs = take_all i cs past in
    let all : at ≡ length (joined cs) = from ∙ ap (λ (l : List Change). length (joined l)) whole in
    sym (take_all at into (omega (arith, size, all))) ∙ front ∙ ap joined whole

-- place by place
pub makes_delta : MakesDelta
makes_delta c whole inside =
    let size : length (new_in c) ≡ c.part.len = grind (arith, common_steps) in
    let same : length c.bytes ≡ length (new_in c) = whole ∙ sym size in
    record { size = length-added c.bytes (new_in c) same; places = λ i. added_at c.bytes (new_in c) i same }

-- the places of a part
covered : (block : ℕ) → Part → List ℕ
covered block part = range_with_len (place_of block part) part.len

lengths_same : (block : ℕ) (cs : List Change) → AreWhole cs → length (joined cs) ≡ length (flat_map (covered block) (map (λ (c : Change). c.part) cs))
unfolding covered
lengths_same block [] whole = refl
lengths_same block (c ∷ cs) whole =
    let here : length c.bytes ≡ c.part.len = whole 0 c (omega arith) in
    let rest = lengths_same block cs (λ i d lt. whole (suc i) d (omega arith)) in
    let size = length-range_with_len (place_of block c.part) c.part.len in
    omega (arith, here, rest, size, length-append c.bytes (joined cs), length-append (range_with_len (place_of block c.part) c.part.len) (flat_map (covered block) (map (λ (x : Change). x.part) cs)))

pub joins_range : JoinsRange
unfolding covered
joins_range k block off len cs fits parts whole =
    let split = parts_split k block off len fits in
    lengths_same block cs whole ∙ ap (λ (ps : List Part). length (flat_map (covered block) ps)) parts ∙ ap length split.covers ∙ length-range_with_len off len
