-- What an update changes, place by place.
use Rattle.std.proofs.Common.{◌≡◌, ℕ, ◌+◌, ◌-◌, ◌<◌, ◌≤◌, max, min, List, length, get_or, drop, Bool, true, false, cond, refl, sym, ap, ap₂, ◌∙◌, inl, inr, bit_xor, arith, Some, None}
use Rattle.std.specs.Prelude.{bytes_eq}
use Rattle.std.specs.Int.Bits.{xor_zero_r}
use Rattle.std.proofs.lemmas.Bool.{cases_lt}
use Rattle.std.proofs.lemmas.List.{ext_get_or, get_or-take, get_or-drop, length-take}
use Rattle.cod_types.specs.Limits.{Shape}
use Rattle.cod_types.specs.Overwritten.{byte_at, overwritten}
use Rattle.cod_types.specs.Plain.{bytes_at, plain_next, plain_reply, refusal}
use Rattle.cod_types.specs.declared.call.Call.{Call as Asked}
use Rattle.cod_types.specs.declared.call.Call.TheVariants.{Read, Write, Swap, Put, Merge, Tick, Rebuild, Upgrade, Drain}
use Rattle.cod_types.specs.declared.call.Reply.TheVariants.{Done, Differs}
use Rattle.cod_types.specs.Accepted.{IsUpdate}
use Rattle.cod_types.proofs.Refusals.{swaps_update, writes_update}
use Rattle.cod_types.proofs.Replaced.{byte_in, byte_before, byte_after, get_or-overwritten}
use Rattle.cod_code.specs.Codewords.{AreBytes}
use Rattle.cod_claims.specs.Changes.{IsDelta, new_bytes}
use Rattle.cod_seg.specs.Sound.{begin_of, is_update}
use Rattle.cod_code.proofs.Changing.{xor_back}
use Rattle.std.proofs.lemmas.Grind.{common_steps}

-- an update that isn't refused lies within the segment, and is no longer than an update may be
pub accepted : (g : Shape) (call : Asked) → is_update call ≡ true → refusal g call ≡ None → IsUpdate g (begin_of call) (new_bytes call)
accepted g (Read off len) u r = cc
accepted g (Write off bytes) u r = writes_update g off bytes r
accepted g (Swap off old new) u r = (swaps_update g off old new r).update
accepted g (Put bytes) u r = cc
accepted g Merge u r = cc
accepted g Tick u r = cc
accepted g Rebuild u r = cc
accepted g Upgrade u r = cc
accepted g (Drain node) u r = cc

-- an update that is answered Done replaces its range
pub update_next : (b : List ℕ) (call : Asked) → is_update call ≡ true → plain_reply b call ≡ Some Done → plain_next b call ≡ overwritten (begin_of call) (new_bytes call) b
update_next b (Read off len) u r = cc
update_next b (Write off bytes) u r = refl
update_next b (Swap off old new) u r = by (bytes_eq (bytes_at b off (length old)) old) r where
  by : (t : Bool) → cond t (Some Done) (Some (Differs (bytes_at b off (length old)))) ≡ Some Done → cond t (overwritten off new b) b ≡ overwritten off new b
  by true r = refl
  by false r = cc
update_next b (Put bytes) u r = cc
update_next b Merge u r = cc
update_next b Tick u r = cc
update_next b Rebuild u r = cc
update_next b Upgrade u r = cc
update_next b (Drain node) u r = cc

-- a byte of a range
pub range_at : (b : List ℕ) (off len i : ℕ) → i < len → get_or (bytes_at b off len) i 0 ≡ get_or b (off + i) 0
range_at b off len i lt = get_or-take len (drop off b) i 0 lt ∙ get_or-drop off b i 0

-- Where the update has a part in a block that begins at base, its bytes are the old ones with the delta added.
pub part_changes : (b new delta : List ℕ) (begin base block x off len at : ℕ) → x < block → off ≡ max begin base - base
    → len ≡ min (begin + length new) (base + block) - max begin base → 1 ≤ len → at + begin ≡ base + off
    → IsDelta (bytes_at b (base + off) len) (bytes_at new at len) delta → length delta ≡ len
    → byte_at (base + x) (get_or b (base + x) 0) begin new ≡ bit_xor (get_or b (base + x) 0) (byte_at x 0 off delta)
part_changes b new delta begin base block x off len at inside o l some from is size =
    let old = get_or b (base + x) 0 in
    elim (cases_lt x off) [
      | inl before ↦ byte_before (base + x) old begin new (omega (arith, o, before))
          ∙ sym (ap (bit_xor old) (byte_before x 0 off delta before) ∙ xor_zero_r old)
      | inr low ↦ elim (cases_lt x (off + len)) [
        | inl within ↦
            let i = x - off in
            let first : base + off + i ≡ base + x = omega arith in
            let second : at + i ≡ base + x - begin = omega (arith, o, l) in
            let places : get_or delta i 0 ≡ bit_xor old (get_or new (base + x - begin) 0) =
            is.places i ∙ ap₂ bit_xor (range_at b (base + off) len i (omega arith) ∙ ap (λ (n : ℕ). get_or b n 0) first) (range_at new at len i (omega arith)
            ∙ ap (λ (n : ℕ). get_or new n 0) second) in
            byte_in (base + x) old begin new (omega (arith, o, low)) (omega (arith, o, l))
            ∙ sym (xor_back old (get_or new (base + x - begin) 0))
            ∙ ap (bit_xor old) (sym places ∙ sym (byte_in x 0 off delta low (omega (arith, size))))
        | inr high ↦ byte_after (base + x) old begin new (omega (arith, o, l))
            ∙ sym (ap (bit_xor old) (byte_after x 0 off delta (omega (arith, size))) ∙ xor_zero_r old)
      ]
    ]

-- and where it has none, they stay
pub no_part_stays : (begin long base block x old : ℕ) (new : List ℕ) → x < block → length new ≡ long → min (begin + long) (base + block) - max begin base ≤ 0 → byte_at (base + x) old begin new ≡ old
no_part_stays begin long base block x old new inside size none = elim (cases_lt (base + x) begin) [
  | inl before ↦ byte_before (base + x) old begin new before
  | inr from ↦ byte_after (base + x) old begin new (omega (arith, size))
]

-- replaced bytes are bytes
pub bytes_replaced : (begin : ℕ) (new b : List ℕ) → begin + length new ≤ length b → AreBytes new → AreBytes b → AreBytes (overwritten begin new b)
bytes_replaced begin new b fits hn hb i = rw (get_or-overwritten begin new b i fits) (elim (cases_lt i begin) [
  | inl before ↦ rw (byte_before i (get_or b i 0) begin new before) (hb i)
  | inr from ↦ elim (cases_lt i (begin + length new)) [
    | inl within ↦ rw (byte_in i (get_or b i 0) begin new from within) (hn (i - begin))
    | inr after ↦ rw (byte_after i (get_or b i 0) begin new after) (hb i)
  ]
])

-- ranges with the same bytes
pub range_same : (b after : List ℕ) (off len : ℕ) → length after ≡ length b → ((p : ℕ) → off ≤ p → p < off + len → get_or after p 0 ≡ get_or b p 0) → bytes_at after off len ≡ bytes_at b off len
range_same b after off len size same =
    let la : length (bytes_at after off len) ≡ length (bytes_at b off len) = rw (length-take len (drop off after), length-take len (drop off b)) (grind (arith, common_steps)) in
    ext_get_or 0 (bytes_at after off len) (bytes_at b off len) la
    (λ i lt. let t = length-take len (drop off after) in
    range_at after off len i (omega (arith, t)) ∙ same (off + i) (omega arith) (omega (arith, t)) ∙ sym (range_at b off len i (omega (arith, t))))
