-- A base and a log in one buffer.
use Rattle.std.proofs.Common.{◌≡◌, ℕ, ◌+◌, ◌<◌, ◌≤◌, List, [], ◌∷◌, ◌++◌, length, take, drop, get_or, refl, sym, ap, ap₂, ◌∙◌, bit_xor, arith, inl, inr}
use Rattle.std.proofs.Math.Seq.{take-append-add}
use Rattle.std.proofs.lemmas.Bool.{cases_lt}
use Rattle.std.proofs.lemmas.List.{take_at, drop_at, get_or_past}
use Rattle.std.specs.Int.Bits.{xor_zero_r}
use Rattle.std.specs.List.{flat_map, filter, AllByRecursion}
use Rattle.cod_types.specs.Limits.{Shape}
use Rattle.cod_record.proofs.Inside.{range_byte-behind}
use Rattle.cod_parity.specs.Log.{Logged, IsIn, IsValue, text, is_past, change, share}
use Rattle.cod_parity.proofs.Records.{share_past, share_in}

share_behind : (g : Shape) (cuts : List ℕ) (l : Logged) (x : ℕ) → IsIn g l → g.block ≤ x → share cuts l x ≡ 0
share_behind g cuts l x is behind = elim (cases_lt (get_or cuts l.whole.block 0) l.whole.number) [
  | inl past ↦ share_past cuts l x past
  | inr within ↦ share_in cuts l x within ∙ range_byte-behind l.whole.ranges g.block x is.inside behind
]

-- no record adds anything behind the block
pub change_behind : (g : Shape) (cuts : List ℕ) (ls : List Logged) (x : ℕ) → AllByRecursion (IsIn g) ls → g.block ≤ x → change cuts ls x ≡ 0
change_behind g cuts [] x each behind = refl
change_behind g cuts (l ∷ ls) x each behind = ap₂ bit_xor (share_behind g cuts l x each.0 behind) (change_behind g cuts ls x each.1 behind) ∙ xor_zero_r 0

-- what the base becomes
value_is : (g : Shape) (cuts base next : List ℕ) (records : List Logged) → AllByRecursion (IsIn g) records → g.block ≡ length base → length next ≡ length base
    → ((x : ℕ) → x < length base → get_or next x 0 ≡ bit_xor (get_or base x 0) (change cuts records x)) → IsValue cuts base records next
value_is g cuts base next records each block size sum = record {
  size = size;
  each = λ x. elim (cases_lt x (length base)) [
    | inl small ↦ sum x small
    | inr past ↦ get_or_past next x 0 (omega arith) ∙ sym (ap₂ bit_xor (get_or_past base x 0 past) (change_behind g cuts records x each (omega arith)) ∙ xor_zero_r 0)
  ];
}

pub buffered : (g : Shape) (cuts buffer base log base2 log2 : List ℕ) (b k : ℕ)
    → base ≡ take b buffer → log ≡ drop b buffer → length base ≡ b → length base2 ≡ length base
    → ((records : List Logged) → AllByRecursion (IsIn g) records → log ≡ flat_map text records → take k log2 ≡ flat_map text (filter (is_past cuts) records))
    → ((records : List Logged) → AllByRecursion (IsIn g) records → log ≡ flat_map text records
    → (x : ℕ) → x < length base → get_or base2 x 0 ≡ bit_xor (get_or base x 0) (change cuts records x))
    → (old : List ℕ) (records : List Logged) → g.block ≡ b → length old ≡ b → AllByRecursion (IsIn g) records → buffer ≡ old ++ flat_map text records
    → (next : List ℕ) × (take (b + k) (base2 ++ log2) ≡ next ++ flat_map text (filter (is_past cuts) records)) × IsValue cuts old records next
buffered g cuts buffer base log base2 log2 b k front back long same kept sum old records block len each is =
    let base_is : base ≡ old = front ∙ ap (λ (l : List ℕ). take b l) is ∙ take_at old (flat_map text records) b len in
    let log_is : log ≡ flat_map text records = back ∙ ap (λ (l : List ℕ). drop b l) is ∙ drop_at old (flat_map text records) b len in
    let size : length base2 ≡ b = same ∙ long in
    let cut : take (b + k) (base2 ++ log2) ≡ base2 ++ take k log2 =
    ap (λ (m : ℕ). take (m + k) (base2 ++ log2)) (sym size) ∙ take-append-add base2 log2 k in
    let sums = sum records each log_is in (
      base2,
      cut ∙ ap (λ (l : List ℕ). base2 ++ l) (kept records each log_is),
      value_is g cuts old base2 records each (block ∙ sym len) (size ∙ sym len)
          (λ x small. sums x (omega (arith, small, len, long)) ∙ ap (λ (l : List ℕ). bit_xor (get_or l x 0) (change cuts records x)) base_is),
    )
