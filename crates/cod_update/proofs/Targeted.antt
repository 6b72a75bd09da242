-- The target of a rebuild in a sound segment, and what claims may bring to it.
use Rattle.std.proofs.Common.{◌≡◌, ℕ, ◌+◌, ◌-◌, ◌*◌, ◌<◌, ◌≤◌, List, [], ◌++◌, length, map, get_or, Bool, true, false, cond, Option, Some, sym, ap, ◌∙◌, subst, inl, inr, bit_xor, arith}
use Rattle.std.specs.Prelude.{is_some, nat_lt}
use Rattle.std.specs.Int.Bits.{xor_zero_r}
use Rattle.std.proofs.lemmas.Bool.{cases_lt}
use Rattle.cod_types.specs.Columns.{column_size}
use Rattle.cod_types.specs.Limits.{Shape}
use Rattle.cod_types.specs.Overwritten.{byte_at}
use Rattle.cod_types.specs.Plain.{bytes_at}
use Rattle.cod_types.proofs.Replaced.{byte_after, byte_before, byte_in}
use Rattle.cod_layout.specs.Parts.{place_of}
use Rattle.cod_layout.specs.declared.parts.Part.{Part}
use Rattle.cod_code.proofs.Changing.{xor_back}
use Rattle.cod_code.proofs.Segments.{data_byte}
use Rattle.cod_chronicle.specs.Said.{bytes_of, is_over}
use Rattle.cod_claims.specs.declared.claim.Claim.{Claim}
use Rattle.cod_claims.specs.Changes.{IsDelta, new_in}
use Rattle.cod_claims.specs.Claimed.{claim_at}
use Rattle.cod_seg.specs.Seg.{Col, Rebuilding, Seg, Target}
use Rattle.cod_seg.specs.Sound.{FillsRebuild, FillsTarget, HasTarget, IsClaim, IsFilled, IsRebuilding, IsTarget, MayRebuild, Sound}
use Rattle.cod_seg.proofs.Updates.{range_at}
use Rattle.cod_segment.specs.Events.{Balances, goal_rooms, rebuild_rooms}
use Rattle.cod_segment.proofs.Balancing.{beside}
use Rattle.cod_update.specs.Correcting.{CanCorrect, Changes}
use Rattle.cod_update.proofs.OnData.{placed}

pub its_rebuild : (s : Seg) (r : Rebuilding) → Sound s → s.rebuild ≡ Some r → IsRebuilding s.site s.frail s.pools s.log r
its_rebuild s r sound was = subst (MayRebuild s.site s.frail s.pools s.log) was sound.rebuilt

pub its_target : (s : Seg) (r : Rebuilding) (t : Target) → Sound s → s.rebuild ≡ Some r → r.target ≡ Some t → IsTarget s.site s.frail s.pools s.log r.col t
its_target s r t sound was goal = subst (HasTarget s.site s.frail s.pools s.log r.col) goal (its_rebuild s r sound was).goal

its_bytes : (s : Seg) (r : Rebuilding) (t : Target) → Sound s → is_over s.site s.log ≡ false → s.site.told ≡ true → s.rebuild ≡ Some r → r.target ≡ Some t
    → IsFilled s.site.shape (bytes_of s.site s.log) r.col t
its_bytes s r t sound few told was goal =
    subst (FillsTarget s.site.shape (bytes_of s.site s.log) r.col) goal (subst (FillsRebuild s.site.shape (bytes_of s.site s.log)) was (sound.holds told few).target)

-- the bytes of a part after the update's were written there
part_written : (b new delta : List ℕ) (base off len x held : ℕ) → IsDelta (bytes_at b (base + off) len) new delta → length delta ≡ len → length new ≡ len → held ≡ get_or b (base + x) 0
    → byte_at x held off new ≡ bit_xor held (byte_at x 0 off delta)
part_written b new delta base off len x held is size long old = elim (cases_lt x off) [
  | inl before ↦ byte_before x held off new before ∙ sym (ap (bit_xor held) (byte_before x 0 off delta before) ∙ xor_zero_r held)
  | inr low ↦ elim (cases_lt x (off + len)) [
    | inl within ↦
        let first : base + off + (x - off) ≡ base + x = omega (arith, low) in
        let places : get_or delta (x - off) 0 ≡ bit_xor held (get_or new (x - off) 0) =
        is.places (x - off) ∙ ap (λ (z : ℕ). bit_xor z (get_or new (x - off) 0)) (range_at b (base + off) len (x - off) (omega (arith, low, within)) ∙ ap (λ (n : ℕ). get_or b n 0) first ∙ sym old) in
        byte_in x held off new low (omega (arith, long, within)) ∙ sym (xor_back held (get_or new (x - off) 0)) ∙ ap (bit_xor held) (sym places ∙ sym (byte_in x 0 off delta low (omega (arith, size, within))))
    | inr high ↦ byte_after x held off new (omega (arith, long, high)) ∙ sym (ap (bit_xor held) (byte_after x 0 off delta (omega (arith, size, high))) ∙ xor_zero_r held)
  ]
]

-- the new bytes of a claim are those of its data column with its delta
brings_change : (s : Seg) (r : Rebuilding) (t : Target) (c : Claim) → Sound s → is_over s.site s.log ≡ false → s.rebuild ≡ Some r → r.target ≡ Some t → r.col < s.site.shape.k
    → claim_at s.claims r.col ≡ Some c → Changes c t
brings_change s r t c sound few was goal low there held content x inside =
    let g = s.site.shape in
    let b = bytes_of s.site s.log in
    let target = its_target s r t sound was goal in
    let told : s.site.told ≡ true = sym target.tells ∙ ap is_some content in
    let is : IsClaim s.site s.log s.claims r.col c = sound.claimed.each r.col c there in
    let within = target.within in
    let few_columns : g.k ≤ 256 = let n = sound.shape.most_columns in let m = sound.shape.data_among_columns in omega (arith, n, m) in
    let old : get_or held x 0 ≡ get_or b (r.col * g.block + x) 0 =
    its_bytes s r t sound few told was goal held content x inside ∙ data_byte g.k g.block r.col x b few_columns sound.history.plain low in
    let at_block : c.delta.part.block ≡ r.col = ap (λ (p : Part). p.block) is.part in
    let place : place_of g.block c.delta.part ≡ r.col * g.block + c.delta.part.off = ap (λ (n : ℕ). n * g.block + c.delta.part.off) at_block in
    let delta : IsDelta (bytes_at b (r.col * g.block + c.delta.part.off) c.delta.part.len) (new_in c.delta) c.delta.bytes =
    subst (λ (n : ℕ). IsDelta (bytes_at b n c.delta.part.len) (new_in c.delta) c.delta.bytes) place (is.delta told) in
    let long = (placed s r.col c sound there).long in
    part_written b (new_in c.delta) c.delta.bytes (r.col * g.block) c.delta.part.off c.delta.part.len x (get_or held x 0) delta is.size (long ∙ is.size) old

size_most : (g : Shape) (col : ℕ) → g.block ≤ column_size g col
size_most g col = by (nat_lt col g.k) where
  by : (b : Bool) → g.block ≤ cond b g.block (g.block + g.reserve)
  by true = omega arith
  by false = omega arith

pub can_correct : (s : Seg) (r : Rebuilding) (t : Target) (g : Shape) → Sound s → is_over s.site s.log ≡ false → g ≡ s.site.shape → s.rebuild ≡ Some r → r.target ≡ Some t
    → CanCorrect g r.col s.claims t
can_correct s r t g sound few same was goal =
    let target = its_target s r t sound was goal in
    let size = target.size in
    let most = size_most s.site.shape r.col in
    let n = sound.shape.most_columns in
    let m = sound.shape.data_among_columns in
    rw same (record {
      few = omega (arith, n, m);
      column = (its_rebuild s r sound was).column;
      whole = record { full = target.full; within = target.within; size = omega (arith, size, most) };
      placed = λ j c there. placed s j c sound there;
      changes = λ c low there. brings_change s r t c sound few was goal low there;
    })

-- what is free, beside the rooms of the columns
pub balance_with : (before after : Option (List ℕ)) (cols : List Col) (o : Option Rebuilding) (r q : Rebuilding) → o ≡ Some r → Balances before after (goal_rooms r.target) (goal_rooms q.target)
    → Balances before after (rebuild_rooms o ++ map (λ (c : Col). c.room) cols) (goal_rooms q.target ++ map (λ (c : Col). c.room) cols)
balance_with before after cols o r q was balance = rw was (beside before after [] (goal_rooms r.target) (goal_rooms q.target) (map (λ (c : Col). c.room) cols) balance)
