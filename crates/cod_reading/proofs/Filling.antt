-- Old bytes that are brought into the changes of an update.
use Rattle.std.proofs.Common.{◌≡◌, ℕ, suc, ◌+◌, ◌*◌, ◌<◌, ◌≤◌, List, [], ◌∷◌, ◌++◌, length, get_or, take, true, false, Option, Some, refl, sym, ap, ◌∙◌, subst, arith, inl, inr}
use Rattle.std.specs.Prelude.{slice_set}
use Rattle.std.specs.List.{flat_map}
use Rattle.std.proofs.lemmas.Bool.{cases_eq}
use Rattle.std.proofs.lemmas.List.{get_or-map, get_or-set_other, get_or-set_same, length-map}
use Rattle.std.proofs.lemmas.List.Elements.{All-set}
use Rattle.std.proofs.Math.Seq.{map-set_same}
use Rattle.cod_types.specs.Plain.{bytes_at}
use Rattle.cod_types.specs.declared.call.Call.TheVariants.{Merge}
use Rattle.cod_layout.specs.declared.parts.Part.{Part}
use Rattle.cod_layout.specs.Blocks.{block_of}
use Rattle.cod_layout.specs.Parts.{IsInside, place_of}
use Rattle.cod_layout.proofs.Blocks.{bytes_at-add, bytes_at-bytes_at}
use Rattle.cod_layout.proofs.Splitting.{flat_map-parts_of}
use Rattle.cod_chronicle.specs.Said.{bytes_of, is_over}
use Rattle.cod_chronicle.proofs.Walking.{set_again}
use Rattle.cod_claims.specs.Changes.{blank, Change, joined, LiesInside, new_bytes}
use Rattle.cod_claims.specs.Slips.{change_at, changes_of, Paper, with_bytes}
use Rattle.cod_seg.specs.Calls.{block_reads}
use Rattle.cod_seg.specs.Seg.{Seg}
use Rattle.cod_seg.specs.Sound.{begin_of}
use Rattle.cod_segment.specs.Events.{call_in}
use Rattle.cod_reading.specs.Filling.{HasOld, IsFilling, parts_in}
use Rattle.cod_reading.specs.Reads.{Brings, MayRead, MayReadAll, part_reads, Reads}
use Rattle.cod_reading.proofs.Chaining.{brings_before}
use Rattle.cod_reading.proofs.Parting.{may_next, reads_next}

abbrev none : Change
none = blank Merge 0 0 (record { block = 0; off = 0; len = 0 })

-- bytes that were taken out are put back
pub put_back : (i : ℕ) (bytes : List ℕ) (p : Paper) → i < length (changes_of p) → with_bytes i bytes (with_bytes i [] p) ≡ with_bytes i bytes p
put_back i bytes p there =
    let cs = changes_of p in
    let c = change_at cs i in
    let at : change_at (slice_set cs i (record c { bytes = [] })) i ≡ record c { bytes = [] } = get_or-set_same cs i (record c { bytes = [] }) none there in
    ap (λ (x : Change). record p { changes = Some (slice_set (slice_set cs i (record c { bytes = [] })) i (record x { bytes = bytes })) }) at
    ∙ ap (λ (l : List Change). record p { changes = Some l }) (set_again cs i (record c { bytes = [] }) (record c { bytes = bytes }))

-- the other bytes of a change
pub is_in : (s : Seg) (i : ℕ) (p : Paper) (j : ℕ) (c : Change) → IsFilling s i p → j < length (changes_of p) → change_at (changes_of p) j ≡ c → (c.call ≡ call_in p) × LiesInside c × (c.at + begin_of (call_in p) ≡ place_of s.site.shape.block c.part) × (length c.bytes ≡ c.part.len)
is_in s i p j c is within at = (
  subst (λ (x : Change). x.call ≡ call_in p) at (is.asked j none within),
  subst LiesInside at (is.inside j none within),
  subst (λ (x : Change). x.at + begin_of (call_in p) ≡ place_of s.site.shape.block x.part) at (is.from j none within),
  subst (λ (x : Change). length x.bytes ≡ x.part.len) at (is.sized j none within),
)

old_next : (s : Seg) (i : ℕ) (cs : List Change) (c : Change) → i < length cs → HasOld s c → ((j : ℕ) → j < i → HasOld s (change_at cs j)) → (j : ℕ) → j < i + 1 → HasOld s (change_at (slice_set cs i c) j)
old_next s i cs c there has before j low = elim (cases_eq j i) [
  | inl here ↦ subst (HasOld s) (sym (ap (λ (x : ℕ). change_at (slice_set cs i c) x) here ∙ get_or-set_same cs i c none there)) has
  | inr other ↦ subst (HasOld s) (sym (get_or-set_other cs i j c none other)) (before j (omega (arith, low, other)))
]

pub filling_next : (s : Seg) (i : ℕ) (p : Paper) (bytes : List ℕ) → IsFilling s i p → i < length (changes_of p) → length bytes ≡ (change_at (changes_of p) i).part.len
    → (s.site.told ≡ true → HasOld s (record (change_at (changes_of p) i) { bytes = bytes })) → IsFilling s (i + 1) (with_bytes i bytes p)
filling_next s i p bytes is there long has =
    let cs = changes_of p in
    let c = change_at cs i in
    let at = is_in s i p i c is there refl in
    let d : Change = record c { bytes = bytes } in
    record {
      has = is.has;
      links = is.links;
      unanswered = is.unanswered;
      early = is.early;
      some = refl;
      parts = map-set_same (λ (x : Change). x.part) cs i d none refl ∙ is.parts;
      asked = All-set (λ (x : Change). x.call ≡ call_in p) cs i d at.0 is.asked;
      inside = All-set LiesInside cs i d at.1 is.inside;
      from = All-set (λ (x : Change). x.at + begin_of (call_in p) ≡ place_of s.site.shape.block x.part) cs i d at.2 is.from;
      sized = All-set (λ (x : Change). length x.bytes ≡ x.part.len) cs i d long is.sized;
      old = λ told j low. old_next s i cs d there (has told) (is.old told) j low;
    }

pub parts_stay : (i : ℕ) (bytes : List ℕ) (p : Paper) → parts_in (changes_of (with_bytes i bytes p)) ≡ parts_in (changes_of p)
parts_stay i bytes p = map-set_same (λ (x : Change). x.part) (changes_of p) i (record (change_at (changes_of p) i) { bytes = bytes }) none refl

-- the part of a change
pub part_at : (cs : List Change) (i : ℕ) (d : Part) → i < length cs → get_or (parts_in cs) i d ≡ (change_at cs i).part
part_at cs i d there = get_or-map (λ (x : Change). x.part) cs i none d there

pub parts_long : (cs : List Change) → length (parts_in cs) ≡ length cs
parts_long cs = length-map cs (λ (x : Change). x.part)

-- a change's bytes are brought as those of its block
pub has_old : (count : ℕ → ℕ) (t mid : ℕ) (s v : Seg) (parts : List Part) (m i : ℕ) (d : Part) (c : Change) → Reads count t mid s v → MayReadAll s parts m → i < length parts → get_or parts i d ≡ c.part
    → length c.bytes ≡ c.part.len → Brings v c.part.block c.part.off c.bytes → s.site.told ≡ true → HasOld s c
has_old count t mid s v parts m i d c is may within at long brings told =
    let g = s.site.shape in
    let b = bytes_of s.site s.log in
    let inside : IsInside g.k g.block c.part = subst (IsInside g.k g.block) at (may.inside i d within) in
    brings_before count t mid s v c.part.block c.part.off c.bytes is brings told
    ∙ ap (bytes_at (block_of g.block c.part.block b) c.part.off) long
    ∙ bytes_at-bytes_at b (c.part.block * g.block) g.block c.part.off c.part.len inside.within

-- ---- all of them

joined_old : (s : Seg) (cs : List Change) → ((j : ℕ) → j < length cs → HasOld s (change_at cs j))
    → joined cs ≡ flat_map (λ (part : Part). bytes_at (bytes_of s.site s.log) (place_of s.site.shape.block part) part.len) (parts_in cs)
joined_old s [] each = refl
joined_old s (c ∷ cs) each =
    let rest = joined_old s cs (λ j lt. each (suc j) (omega (arith, lt))) in
    let first : c.bytes ≡ bytes_at (bytes_of s.site s.log) (place_of s.site.shape.block c.part) c.part.len = each 0 (omega arith) in
    ap (λ (l : List ℕ). l ++ joined cs) first
    ∙ ap (λ (l : List ℕ). bytes_at (bytes_of s.site s.log) (place_of s.site.shape.block c.part) c.part.len ++ l) rest

-- the bytes of all changes are those of the update's range
pub range_found : (s : Seg) (p : Paper) → IsFilling s (length (changes_of p)) p → begin_of (call_in p) + length (new_bytes (call_in p)) ≤ s.site.shape.k * s.site.shape.block
    → s.site.told ≡ true → joined (changes_of p) ≡ bytes_at (bytes_of s.site s.log) (begin_of (call_in p)) (length (new_bytes (call_in p)))
range_found s p is fits told =
    let g = s.site.shape in
    let b = bytes_of s.site s.log in
    joined_old s (changes_of p) (is.old told)
    ∙ ap (flat_map (λ (part : Part). bytes_at b (place_of g.block part) part.len)) is.parts
    ∙ flat_map-parts_of (bytes_at b) (λ a. refl) (bytes_at-add b) g.k g.block (begin_of (call_in p)) (length (new_bytes (call_in p))) fits

-- ---- one more

pub part_is : (parts : List Part) (cs : List Change) (i : ℕ) (d : Part) → parts_in cs ≡ parts → i < length cs → get_or parts i d ≡ (change_at cs i).part
part_is parts cs i d are there = ap (λ (l : List Part). get_or l i d) (sym are) ∙ part_at cs i d there

pub may_fill : (count : ℕ → ℕ) (t mid : ℕ) (s v : Seg) (parts : List Part) (m i : ℕ) (cs : List Change) → MayReadAll s parts m → Reads count t mid s v → is_over v.site v.log ≡ false
    → parts_in cs ≡ parts → i < length cs → MayRead v (change_at cs i).part.block (change_at cs i).part.off (change_at cs i).part.len
may_fill count t mid s v parts m i cs may is few are there =
    let d : Part = record { block = 0; off = 0; len = 0 } in
    let within : i < length parts = let a = ap length are in let b = parts_long cs in omega (arith, there, a, b) in
    subst (λ (x : Part). MayRead v x.block x.off x.len) (part_is parts cs i d are there) (may_next count t mid s v parts m i d may is few within)

pub same_next : (p q n : Paper) (i : ℕ) (bytes : List ℕ) → q ≡ record p { changes = q.changes } → n ≡ with_bytes i bytes q → n ≡ record p { changes = n.changes }
same_next p q n i bytes same is =
    is ∙ ap (λ (x : Paper). record x { changes = (with_bytes i bytes q).changes }) same ∙ ap (λ (o : Option (List Change)). record p { changes = o }) (sym (ap (λ (x : Paper). x.changes) is))

pub parts_next : (parts : List Part) (q n : Paper) (i : ℕ) (bytes : List ℕ) → parts_in (changes_of q) ≡ parts → n ≡ with_bytes i bytes q → parts_in (changes_of n) ≡ parts
parts_next parts q n i bytes are is = ap (λ (x : Paper). parts_in (changes_of x)) is ∙ parts_stay i bytes q ∙ are

pub filled_next : (count : ℕ → ℕ) (t mid : ℕ) (s v : Seg) (parts : List Part) (m i : ℕ) (q n : Paper) (bytes : List ℕ) → MayReadAll s parts m → Reads count t mid s v
    → parts_in (changes_of q) ≡ parts → i < length (changes_of q) → IsFilling s i q → length bytes ≡ (change_at (changes_of q) i).part.len → n ≡ with_bytes i bytes q
    → Brings v (change_at (changes_of q) i).part.block (change_at (changes_of q) i).part.off bytes → IsFilling s (i + 1) n
filled_next count t mid s v parts m i q n bytes may is are there filling long wrote brings =
    let d : Part = record { block = 0; off = 0; len = 0 } in
    let cs = changes_of q in
    let within : i < length parts = let a = ap length are in let b = parts_long cs in omega (arith, there, a, b) in
    let at = part_is parts cs i d are there in
    subst (IsFilling s (i + 1)) (sym wrote)
    (filling_next s i q bytes filling there long (has_old count t mid s v parts m i d (record (change_at cs i) { bytes = bytes }) is may within at long brings))

pub counts_next : (t mid after : ℕ) (s v u : Seg) (parts : List Part) (m i : ℕ) (cs : List Change) → MayReadAll s parts m → parts_in cs ≡ parts → i < length cs
    → Reads (part_reads s.site.shape.k s.cols (take i parts)) t mid s v → Reads (block_reads v.site.shape.k v.cols (change_at cs i).part.block) mid after v u
    → Reads (part_reads s.site.shape.k s.cols (take (i + 1) parts)) t after s u
counts_next t mid after s v u parts m i cs may are there one two =
    let d : Part = record { block = 0; off = 0; len = 0 } in
    let within : i < length parts = let a = ap length are in let b = parts_long cs in omega (arith, there, a, b) in
    reads_next t mid after s v u parts m i d may within one
    (subst (λ (x : Part). Reads (block_reads v.site.shape.k v.cols x.block) mid after v u) (sym (part_is parts cs i d are there)) two)
