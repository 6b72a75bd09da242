-- A target of a rebuild is corrected by claims, block by block.
use Rattle.std.proofs.Common.{◌≡◌, ℕ, ◌+◌, ◌-◌, ◌<◌, ◌≤◌, List, length, get_or, take, drop, Bool, true, false, cond, Option, Some, Result, Ok, Err, OnOk, refl, sym, ap, ◌∙◌, subst, inl, inr, bit_xor, arith}
use Rattle.std.specs.Prelude.{is_some, nat_lt}
use Rattle.std.specs.Option.{option_map}
use Rattle.std.specs.Int.Bits.{xor_zero_r}
use Rattle.std.proofs.lemmas.Bool.{cases_eq, cases_lt, eq-eqb, ne_eqb, le-ltb, lt-ltb, le-leb, lt-leb}
use Rattle.std.proofs.lemmas.List.{get_or-drop, get_or-take, length-drop, length-take}
use Rattle.cod_types.specs.Faults.{bump, grown, HasCause}
use Rattle.cod_types.specs.Overwritten.{byte_at, overwritten}
use Rattle.cod_types.specs.declared.errors.Failed.{Failed}
use Rattle.cod_types.proofs.Replaced.{byte_after, byte_before, byte_in, get_or-overwritten}
use Rattle.cod_region.specs.Device.{Device}
use Rattle.cod_field.specs.Field.{product}
use Rattle.cod_field.proofs.Laws.{product_zero}
use Rattle.cod_code.specs.Columns.{gamma}
use Rattle.cod_code.proofs.Encoding.{gamma_lt}
use Rattle.cod_kernel.specs.Sums.{added_scaled}
use Rattle.cod_kernel.proofs.SumLaws.{added_scaled_at, length-added_scaled}
use Rattle.cod_claims.specs.declared.claim.Claim.{Claim}
use Rattle.cod_claims.specs.Changes.{new_in}
use Rattle.cod_claims.specs.Claimed.{brought_by, delta_of}
use Rattle.cod_seg.specs.Seg.{Target}
use Rattle.cod_seg.specs.Steps.{KeepsTarget}
use Rattle.cod_seg.proofs.Marking.{is_some_map}
use Rattle.cod_repair.specs.Columns.{IsFull}
use Rattle.cod_repair.specs.Targets.{AddsTo, overlap, Overwrites, was_added}
use Rattle.cod_segment.specs.Events.{Counts}
use Rattle.cod_update.specs.Correcting.{both_on, change_by, Changes, IsCorrectedBy, IsWhole, meets}
use Rattle.cod_update.specs.Placing.{IsPlaced}

-- ---- bytes, of which some meet the first ones

-- of bytes at a place only those matter to the first ones that meet them
byte_taken : (x filled off b : ℕ) (d : List ℕ) → x < filled → byte_at x b off (take (overlap filled off (length d)) d) ≡ byte_at x b off d
byte_taken x filled off b d inside =
    let size = length-take (overlap filled off (length d)) d in
    elim (cases_lt x off) [
      | inl before ↦ byte_before x b off (take (overlap filled off (length d)) d) before ∙ sym (byte_before x b off d before)
      | inr from ↦ elim (cases_lt x (off + length d)) [
        | inl within ↦ byte_in x b off (take (overlap filled off (length d)) d) from (omega (arith, size, inside, within, from))
            ∙ get_or-take (overlap filled off (length d)) d (x - off) 0 (omega (arith, inside, within, from)) ∙ sym (byte_in x b off d from within)
        | inr after ↦ byte_after x b off (take (overlap filled off (length d)) d) (omega (arith, size, after)) ∙ sym (byte_after x b off d after)
      ]
    ]

length_taken : (filled off : ℕ) (d : List ℕ) → length (take (overlap filled off (length d)) d) ≡ overlap filled off (length d)
length_taken filled off d = let size = length-take (overlap filled off (length d)) d in omega (arith, size)

-- no bytes replace none
byte_none : (x b off : ℕ) (d : List ℕ) → length d ≡ 0 → byte_at x b off d ≡ b
byte_none x b off d none = elim (cases_lt x off) [
  | inl before ↦ byte_before x b off d before
  | inr from ↦ byte_after x b off d (omega (arith, from, none))
]

-- the bytes of a range, with a multiple of others added
sum_at : (x off coef : ℕ) (held d : List ℕ) → coef < 256 → off + length d ≤ length held
    → byte_at x (get_or held x 0) off (added_scaled coef (take (length d) (drop off held)) d) ≡ bit_xor (get_or held x 0) (product coef (byte_at x 0 off d))
sum_at x off coef held d small inside =
    let behind = length-drop off held in
    let front = length-take (length d) (drop off held) in
    let same : length (take (length d) (drop off held)) ≡ length d = omega (arith, behind, front, inside) in
    let long : length (added_scaled coef (take (length d) (drop off held)) d) ≡ length d = length-added_scaled coef (take (length d) (drop off held)) d same ∙ same in
    let none : byte_at x 0 off d ≡ 0 → get_or held x 0 ≡ bit_xor (get_or held x 0) (product coef (byte_at x 0 off d)) = λ zero.
    sym (ap (bit_xor (get_or held x 0)) (ap (product coef) zero ∙ product_zero coef small) ∙ xor_zero_r (get_or held x 0)) in
    elim (cases_lt x off) [
      | inl before ↦ byte_before x (get_or held x 0) off (added_scaled coef (take (length d) (drop off held)) d) before ∙ none (byte_before x 0 off d before)
      | inr from ↦ elim (cases_lt x (off + length d)) [
        | inl within ↦
            let at : off + (x - off) ≡ x = omega (arith, from) in
            byte_in x (get_or held x 0) off (added_scaled coef (take (length d) (drop off held)) d) from (omega (arith, long, within))
            ∙ added_scaled_at coef (take (length d) (drop off held)) d (x - off) same
            ∙ ap (λ (z : ℕ). bit_xor z (product coef (get_or d (x - off) 0)))
            (get_or-take (length d) (drop off held) (x - off) 0 (omega (arith, from, within)) ∙ get_or-drop off held (x - off) 0 ∙ ap (λ (n : ℕ). get_or held n 0) at)
            ∙ ap (λ (z : ℕ). bit_xor (get_or held x 0) (product coef z)) (sym (byte_in x 0 off d from within))
        | inr after ↦ byte_after x (get_or held x 0) off (added_scaled coef (take (length d) (drop off held)) d) (omega (arith, long, after)) ∙ none (byte_after x 0 off d after)
      ]
    ]

-- ---- what is left beside the bytes

same_target : (t : Target) → IsFull t.device → KeepsTarget t t
same_target t full = record { tells = refl; full = full; size = refl; faults = refl; never_fails = refl; same = refl }

-- whether a part meets the first bytes
meets_first : (filled off len : ℕ) → 0 < overlap filled off len → nat_lt off filled ≡ true
meets_first filled off len more = lt-ltb off filled (omega (arith, more))

meets_none : (filled off len : ℕ) → 1 ≤ len → overlap filled off len ≡ 0 → nat_lt off filled ≡ false
meets_none filled off len some none = le-ltb off filled (omega (arith, some, none))

counts_for : (k col n : ℕ) (old new : Device) → k ≤ col → new.reads ≡ grown n old.reads → new.writes ≡ grown n old.writes → Counts (both_on k col n) old new
counts_for k col n old new high reads writes = rw (le-ltb col k high) (reads, writes)

writes_for : (k col n : ℕ) (old new : Device) → col < k → new.reads ≡ old.reads → new.writes ≡ grown n old.writes → Counts (both_on k col n) old new
writes_for k col n old new low reads writes = rw (lt-ltb col k low) (reads, writes)

meets_parity : (k col filled j : ℕ) (c : Claim) (b : Bool) → k ≤ col → nat_lt c.delta.part.off filled ≡ b → ◌≡◌ {A = ℕ} (cond (meets k col filled j c) 1 0) (cond b 1 0)
meets_parity k col filled j c b high is = rw (le-leb k col high, is) refl

meets_data : (k col filled : ℕ) (c : Claim) (b : Bool) → col < k → nat_lt c.delta.part.off filled ≡ b → ◌≡◌ {A = ℕ} (cond (meets k col filled col c) 1 0) (cond b 1 0)
meets_data k col filled c b low is = rw (lt-leb k col low, eq-eqb col col refl, is) refl

meets_other : (k col filled j : ℕ) (c : Claim) → col < k → (j ≡ col → ⊥) → ◌≡◌ {A = ℕ} (cond (meets k col filled j c) 1 0) 0
meets_other k col filled j c low other = rw (lt-leb k col low, ne_eqb j col other) refl

change_parity : (k col j byte : ℕ) → k ≤ col → change_by k col j byte ≡ product (gamma k col j) byte
change_parity k col j byte high = rw (le-ltb col k high) refl

change_data : (k col byte : ℕ) → col < k → change_by k col col byte ≡ byte
change_data k col byte low = rw (lt-ltb col k low, eq-eqb col col refl) refl

change_other : (k col j byte : ℕ) → col < k → (j ≡ col → ⊥) → change_by k col j byte ≡ 0
change_other k col j byte low other = rw (lt-ltb col k low, ne_eqb j col other) refl

-- ---- a parity column

some_same : (a b : List ℕ) → ◌≡◌ {A = Option (List ℕ)} (Some a) (Some b) → a ≡ b
some_same a b e = cc

-- the part that meets the first bytes has none
parity_none : (k col j block : ℕ) (c : Claim) (t : Target) → k ≤ col → IsPlaced block c → IsWhole block t → overlap t.filled c.delta.part.off (length c.delta.bytes) ≡ 0
    → IsCorrectedBy k col j c t t
parity_none k col j block c t high placed whole none =
    let some = placed.some in
    record {
      bytes = λ before after old new x inside.
          let zero : byte_at x 0 c.delta.part.off c.delta.bytes ≡ 0 = byte_before x 0 c.delta.part.off c.delta.bytes (omega (arith, some, none, inside)) in
          ap (λ (l : List ℕ). get_or l x 0) (some_same after before (sym new ∙ old))
          ∙ sym (ap (bit_xor (get_or before x 0)) (change_parity k col j (byte_at x 0 c.delta.part.off c.delta.bytes) high ∙ ap (product (gamma k col j)) zero
          ∙ product_zero (gamma k col j) (gamma_lt k col j)) ∙ xor_zero_r (get_or before x 0));
      keeps = same_target t whole.full;
      counts = subst (λ (n : ℕ). Counts (both_on k col n) t.device t.device)
          (sym (meets_parity k col t.filled j c false high (meets_none t.filled c.delta.part.off (length c.delta.bytes) some none))) (counts_for k col 0 t.device t.device high refl refl);
    }

-- the region after the part was added
abbrev added_part : (k col j : ℕ) → Claim → Target → Target
added_part k col j c t =
    record t { device = was_added c.delta.part.off (gamma k col j) (take (overlap t.filled c.delta.part.off (length c.delta.bytes)) c.delta.bytes) t.device }

parity_some : (k col j block : ℕ) (c : Claim) (t u : Target) → k ≤ col → IsPlaced block c → IsWhole block t → 0 < overlap t.filled c.delta.part.off (length c.delta.bytes)
    → u ≡ added_part k col j c t → IsFull u.device → IsCorrectedBy k col j c t u
parity_some k col j block c t u high placed whole more is full =
    let off = c.delta.part.off in
    let d = c.delta.bytes in
    let part = take (overlap t.filled off (length d)) d in
    let coef = gamma k col j in
    let content : u.device.content ≡ option_map (λ held. overwritten off (added_scaled coef (take (length part) (drop off held)) part) held) t.device.content =
    ap (λ (v : Target). v.device.content) is in
    record {
      bytes = λ before after old new x inside.
          let same = some_same after (overwritten off (added_scaled coef (take (length part) (drop off before)) part) before)
          (sym new ∙ content ∙ ap (option_map (λ held. overwritten off (added_scaled coef (take (length part) (drop off held)) part) held)) old) in
          let size = length_taken t.filled off d in
          let long : length before ≡ t.device.size = whole.full before old in
          let within = whole.within in
          let least = whole.size in
          let room : off + length part ≤ length before = omega (arith, size, long, within, least, more) in
          let behind = length-drop off before in
          let front = length-take (length part) (drop off before) in
          let equal : length (take (length part) (drop off before)) ≡ length part = omega (arith, behind, front, room) in
          let summed = length-added_scaled coef (take (length part) (drop off before)) part equal in
          ap (λ (l : List ℕ). get_or l x 0) same
          ∙ get_or-overwritten off (added_scaled coef (take (length part) (drop off before)) part) before x (omega (arith, room, equal, summed))
          ∙ sum_at x off coef before part (gamma_lt k col j) room
          ∙ ap (λ (z : ℕ). bit_xor (get_or before x 0) (product coef z)) (byte_taken x t.filled off 0 d inside)
          ∙ ap (bit_xor (get_or before x 0)) (sym (change_parity k col j (byte_at x 0 off d) high));
      keeps = record {
        tells = ap is_some content ∙ is_some_map t.device.content (λ held. overwritten off (added_scaled coef (take (length part) (drop off held)) part) held);
        full = full;
        size = ap (λ (v : Target). v.device.size) is;
        faults = ap (λ (v : Target). v.device.faults) is;
        never_fails = ap (λ (v : Target). v.device.never_fails) is;
        same = is ∙ ap (λ (e : Device). record t { device = e }) (sym (ap (λ (v : Target). v.device) is));
      };
      counts = subst (λ (n : ℕ). Counts (both_on k col n) t.device u.device)
          (sym (meets_parity k col t.filled j c true high (meets_first t.filled off (length d) more)))
          (counts_for k col 1 t.device u.device high (ap (λ (v : Target). v.device.reads) is) (ap (λ (v : Target). v.device.writes) is));
    }

pub parity_done : (k col j block : ℕ) (c : Claim) (r : Result Unit Failed) (old new : Target) → k ≤ col → IsPlaced block c → IsWhole block old
    → AddsTo c.delta.part.off (gamma k col j) (take (overlap old.filled c.delta.part.off (length c.delta.bytes)) c.delta.bytes) r old new → IsFull new.device
    → OnOk r (IsCorrectedBy k col j c old new)
parity_done k col j block c (Err e) old new high placed whole adds full = tt
parity_done k col j block c (Ok v) old new high placed whole adds full =
    let size = length_taken old.filled c.delta.part.off c.delta.bytes in
    elim (cases_eq (overlap old.filled c.delta.part.off (length c.delta.bytes)) 0) [
      | inl none ↦ subst (λ (u : Target). IsCorrectedBy k col j c old u) (sym (adds.none (size ∙ none)).1) (parity_none k col j block c old high placed whole none)
      | inr more ↦ parity_some k col j block c old new high placed whole (omega (arith, more)) (adds.some (omega (arith, size, more))) full
    ]

-- ---- a data column

-- of a claim of another block nothing comes to it
pub data_other : (k col j block : ℕ) (c : Claim) (t : Target) → col < k → (col ≡ j → ⊥) → IsWhole block t → IsCorrectedBy k col j c t t
data_other k col j block c t low other whole = record {
  bytes = λ before after old new x inside.
      ap (λ (l : List ℕ). get_or l x 0) (some_same after before (sym new ∙ old))
      ∙ sym (ap (bit_xor (get_or before x 0)) (change_other k col j (byte_at x 0 c.delta.part.off c.delta.bytes) low (λ e. other (sym e))) ∙ xor_zero_r (get_or before x 0));
  keeps = same_target t whole.full;
  counts = subst (λ (n : ℕ). Counts (both_on k col n) t.device t.device) (sym (meets_other k col t.filled j c low (λ e. other (sym e)))) (writes_for k col 0 t.device t.device low refl refl);
}

data_none : (k col block : ℕ) (c : Claim) (t : Target) → col < k → IsPlaced block c → IsWhole block t → Changes c t → overlap t.filled c.delta.part.off (length (new_in c.delta)) ≡ 0
    → IsCorrectedBy k col col c t t
data_none k col block c t low placed whole changes none =
    let some = placed.some in
    let long = placed.long in
    record {
      bytes = λ before after old new x inside.
          ap (λ (l : List ℕ). get_or l x 0) (some_same after before (sym new ∙ old))
          ∙ sym (byte_before x (get_or before x 0) c.delta.part.off (new_in c.delta) (omega (arith, some, long, none, inside)))
          ∙ changes before old x inside ∙ ap (bit_xor (get_or before x 0)) (sym (change_data k col (byte_at x 0 c.delta.part.off c.delta.bytes) low));
      keeps = same_target t whole.full;
      counts = subst (λ (n : ℕ). Counts (both_on k col n) t.device t.device)
          (sym (meets_data k col t.filled c false low (meets_none t.filled c.delta.part.off (length (new_in c.delta)) (omega (arith, some, long)) none)))
          (writes_for k col 0 t.device t.device low refl refl);
    }

data_some : (k col block : ℕ) (c : Claim) (t u : Target) → col < k → IsPlaced block c → IsWhole block t → Changes c t → 0 < overlap t.filled c.delta.part.off (length (new_in c.delta))
    → u ≡ record t { device = record t.device { content = u.device.content; writes = bump t.device.writes; faults = u.device.faults } }
    → u.device.content ≡ option_map (overwritten c.delta.part.off (take (overlap t.filled c.delta.part.off (length (new_in c.delta))) (new_in c.delta))) t.device.content
    → u.device.faults ≡ t.device.faults → IsFull u.device → IsCorrectedBy k col col c t u
data_some k col block c t u low placed whole changes more is content faults full =
    let off = c.delta.part.off in
    let new_bytes = new_in c.delta in
    let part = take (overlap t.filled off (length new_bytes)) new_bytes in
    record {
      bytes = λ before after old new x inside.
          let size = length_taken t.filled off new_bytes in
          let long : length before ≡ t.device.size = whole.full before old in
          let within = whole.within in
          let least = whole.size in
          ap (λ (l : List ℕ). get_or l x 0) (some_same after (overwritten off part before) (sym new ∙ content ∙ ap (option_map (overwritten off part)) old))
          ∙ get_or-overwritten off part before x (omega (arith, size, long, within, least, more))
          ∙ byte_taken x t.filled off (get_or before x 0) new_bytes inside
          ∙ changes before old x inside ∙ ap (bit_xor (get_or before x 0)) (sym (change_data k col (byte_at x 0 off c.delta.bytes) low));
      keeps = record {
        tells = ap is_some content ∙ is_some_map t.device.content (overwritten off part);
        full = full;
        size = ap (λ (v : Target). v.device.size) is;
        faults = faults;
        never_fails = ap (λ (v : Target). v.device.never_fails) is;
        same = is ∙ ap (λ (e : Device). record t { device = e }) (sym (ap (λ (v : Target). v.device) is));
      };
      counts = subst (λ (n : ℕ). Counts (both_on k col n) t.device u.device)
          (sym (meets_data k col t.filled c true low (meets_first t.filled off (length new_bytes) more)))
          (writes_for k col 1 t.device u.device low (ap (λ (v : Target). v.device.reads) is) (ap (λ (v : Target). v.device.writes) is));
    }

pub data_done : (k col block : ℕ) (c : Claim) (r : Result Unit Failed) (old new : Target) → col < k → IsPlaced block c → IsWhole block old → Changes c old
    → Overwrites c.delta.part.off (take (overlap old.filled c.delta.part.off (length (new_in c.delta))) (new_in c.delta)) r old new → HasCause old.device.faults new.device.faults r
    → IsFull new.device → OnOk r (IsCorrectedBy k col col c old new)
data_done k col block c (Err e) old new low placed whole changes writes cause full = tt
data_done k col block c (Ok v) old new low placed whole changes writes cause full =
    let size = length_taken old.filled c.delta.part.off (new_in c.delta) in
    elim (cases_eq (overlap old.filled c.delta.part.off (length (new_in c.delta))) 0) [
      | inl none ↦ subst (λ (u : Target). IsCorrectedBy k col col c old u) (sym (writes.none (size ∙ none)).1) (data_none k col block c old low placed whole changes none)
      | inr more ↦
          let some : 0 < length (take (overlap old.filled c.delta.part.off (length (new_in c.delta))) (new_in c.delta)) = omega (arith, size, more) in
          data_some k col block c old new low placed whole changes (omega (arith, more)) (writes.same some) (writes.content some) cause.kept full
    ]

-- what a claim has in the block
pub delta_is : (o : Option Claim) (c : Claim) (off : ℕ) (d : List ℕ) → o ≡ Some c → delta_of o ≡ Some (off, d) → (off ≡ c.delta.part.off) × (d ≡ c.delta.bytes)
delta_is o c off d there is =
    let same : ◌≡◌ {A = Option (ℕ × List ℕ)} (Some (c.delta.part.off, c.delta.bytes)) (Some (off, d)) = sym (ap delta_of there) ∙ is in
    let pair : ◌≡◌ {A = ℕ × List ℕ} (c.delta.part.off, c.delta.bytes) (off, d) = cc in
    (sym (ap (λ (x : ℕ × List ℕ). x.0) pair), sym (ap (λ (x : ℕ × List ℕ). x.1) pair))

pub brings_is : (o : Option Claim) (c : Claim) (d : List ℕ) → o ≡ Some c → brought_by o ≡ Some d → d ≡ new_in c.delta
brings_is o c d there is =
    let same : ◌≡◌ {A = Option (List ℕ)} (Some (new_in c.delta)) (Some d) = sym (ap brought_by there) ∙ is in
    some_same d (new_in c.delta) (sym same)
