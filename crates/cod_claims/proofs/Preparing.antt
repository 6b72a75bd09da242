-- What a call's changes are before it begins.
use Rattle.std.proofs.Common.{◌≡◌, ℕ, zero, suc, ◌+◌, ◌-◌, ◌*◌, ◌<◌, ◌≤◌, Bool, true, false, nat_lt, length, map, List, [], All, Option, Some, None, IsSome, is_some, if◌then◌else◌}
use Rattle.std.proofs.Common.{get_or, refl, arith, inl, inr}
use Rattle.std.proofs.lemmas.List.{length-replicate}
use Rattle.std.specs.Option.{unwrap_or}
use Rattle.std.proofs.lemmas.Bool.{cases_lt}
use Rattle.std.proofs.lemmas.Bool.Decides.{nat_tests}
use Rattle.std.proofs.lemmas.List.Elements.{All-map, All-cons}
use Rattle.cod_types.specs.Limits.{Shape, IsWithin, segment_length}
use Rattle.cod_types.specs.Plain.{refusal}
use Rattle.cod_types.proofs.Refusals.{writes_update, swaps_update}
use Rattle.cod_types.specs.declared.call.Call.{Call}
use Rattle.cod_types.specs.declared.call.Call.TheVariants.{Read, Write, Swap, Put, Merge, Tick, Rebuild, Upgrade, Drain}
use Rattle.cod_types.specs.declared.call.Reply.{Reply}
use Rattle.cod_layout.specs.declared.parts.Part.{Part}
use Rattle.cod_layout.specs.Parts.{length_in, part_in, parts_among, parts_of, place_of}
use Rattle.cod_layout.proofs.Splitting.{among_some, among_none, parts_split}
use Rattle.cod_claims.specs.Changes.{Change, LiesInside, blank, made, new_bytes}
use Rattle.cod_claims.specs.Slips.{AreChanges, AreWhole, IsPaper, changes_for, prepared}

-- a paper that has its call and its changes
pub paper_changes : (o : Option Call) (p : Option (List Change)) → IsPaper o p → IsSome o → IsSome p → (k : Call) × ((o ≡ Some k) × AreChanges k (unwrap_or p []))
paper_changes None p is some there = absurd cc
paper_changes (Some k) None is some there = absurd cc
paper_changes (Some k) (Some cs) is some there = (k, (refl, is))

-- where the changes are made
pub made_are : (k : Call) (cs : List Change) → AreChanges k cs → AreChanges k (map made cs)
made_are k cs are = record {
  same = All-map (λ (x : Change). x.call ≡ k) made cs are.same;
  blocks = All-map (λ (x : Change). x.part.block < 16) made cs are.blocks;
  inside = All-map LiesInside made cs are.inside;
}

pub paper_made : (o : Option Call) (p : Option (List Change)) (cs ds : List Change) → IsPaper o p → p ≡ Some cs → ds ≡ map made cs → IsPaper o (Some ds)
paper_made None p cs ds is there by = tt
paper_made (Some k) p cs ds is there by = rw by (made_are k cs (rw there at is))

-- a call's parts

pub parts_fit : (block off len j n : ℕ) → All (λ (part : Part). place_of block part - off + part.len ≤ len) (parts_among block off len j n)
parts_fit block off len j zero = λ i d lt. absurd (omega arith)
parts_fit block off len j (suc n) =
    let rest = parts_fit block off len (j + 1) n in
    elim (cases_lt 0 (length_in block off len j)) [
      | inl some ↦ rw (among_some block off len j n some)
          (All-cons (λ (part : Part). place_of block part - off + part.len ≤ len) (part_in block off len j) _ (omega arith) rest)
      | inr none ↦ rw (among_none block off len j n none) rest
    ]

pub blank_are : (k : Call) (blocks block off : ℕ) → blocks ≤ 16 → off + length (new_bytes k) ≤ blocks * block
    → AreChanges k (map (blank k block off) (parts_of blocks block off (length (new_bytes k))))
blank_are k blocks block off most fits =
    let parts = parts_of blocks block off (length (new_bytes k)) in
    let split = parts_split blocks block off (length (new_bytes k)) fits in
    record {
      same = All-map (λ (x : Change). x.call ≡ k) (blank k block off) parts (λ i d lt. refl);
      blocks = All-map (λ (x : Change). x.part.block < 16) (blank k block off) parts (λ i d lt. let at = (split.inside i d lt).among in omega arith);
      inside = All-map LiesInside (blank k block off) parts (parts_fit block off (length (new_bytes k)) 0 blocks);
    }

-- a call that isn't refused

write_fits : (g : Shape) (off : ℕ) (bytes : List ℕ) → refusal g (Write off bytes) ≡ None → off + length bytes ≤ g.k * g.block
write_fits g off bytes is = (writes_update g off bytes is).inside

swap_fits : (g : Shape) (off : ℕ) (old new : List ℕ) → refusal g (Swap off old new) ≡ None → off + length new ≤ g.k * g.block
swap_fits g off old new is = (swaps_update g off old new is).update.inside

not_some : (o : Option Reply) → is_some o ≡ false → o ≡ None
not_some None is = refl
not_some (Some r) is = cc

paper_unless : (k : Call) (b : Bool) (p : Option (List Change)) → (b ≡ false → IsPaper (Some k) p) → IsPaper (Some k) (if b then None else p)
paper_unless k true p else_is = tt
paper_unless k false p else_is = else_is refl

-- what a prepared call has
pub prepared_is : (g : Shape) (k : Call) → g.k ≤ 16 → IsPaper (Some k) (if is_some (refusal g k) then None else changes_for g k)
prepared_is g (Read off len) most = paper_unless (Read off len) (is_some (refusal g (Read off len))) None (λ is. tt)
prepared_is g (Write off bytes) most =
    paper_unless (Write off bytes) (is_some (refusal g (Write off bytes))) (changes_for g (Write off bytes))
    (λ is. blank_are (Write off bytes) g.k g.block off most (write_fits g off bytes (not_some (refusal g (Write off bytes)) is)))
prepared_is g (Swap off old new) most =
    paper_unless (Swap off old new) (is_some (refusal g (Swap off old new))) (changes_for g (Swap off old new))
    (λ is. blank_are (Swap off old new) g.k g.block off most (swap_fits g off old new (not_some (refusal g (Swap off old new)) is)))
prepared_is g (Put bytes) most = paper_unless (Put bytes) (is_some (refusal g (Put bytes))) None (λ is. tt)
prepared_is g Merge most = tt
prepared_is g Tick most = tt
prepared_is g Rebuild most = tt
prepared_is g Upgrade most = tt
prepared_is g (Drain node) most = tt

-- the same from what the code has
pub prepared_paper : (g : Shape) (k : Call) (p : Option (List Change)) → IsWithin g → p ≡ (if is_some (refusal g k) then None else changes_for g k) → IsPaper (Some k) p
prepared_paper g k p within by =
    let most : g.k ≤ 16 = omega (arith, within.data_among_columns, within.most_columns) in
    rw by (prepared_is g k most)

-- before it begins, each of a call's changes has its bytes
pub blank_whole : (k : Call) (block off : ℕ) (parts : List Part) → AreWhole (map (blank k block off) parts)
blank_whole k block off parts = All-map (λ (x : Change). length x.bytes ≡ x.part.len) (blank k block off) parts (λ i d lt. length-replicate (get_or parts i d).len 0)

-- a write that isn't refused has a change for each part
pub write_prepared : (g : Shape) (off : ℕ) (bytes : List ℕ) → off + length bytes ≤ g.k * g.block → length bytes ≤ g.update
    → (prepared g (Write off bytes)).changes ≡ changes_for g (Write off bytes)
write_prepared g off bytes range update =
    let near : nat_lt (segment_length g) (off + length bytes) ≡ false = grind (arith, nat_tests) in
    let short : nat_lt g.update (length bytes) ≡ false = grind (arith, nat_tests) in
    rw (near, short) refl
