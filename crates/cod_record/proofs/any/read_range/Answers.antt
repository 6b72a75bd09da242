use Rattle.std.proofs.Common.{◌≡◌, ◌∙◌, ◌≤◌, ◌<◌, ◌+◌, ◌-◌, ◌^◌, ℕ, Bool, true, false, List, length, drop, take, ap, sym, subst, arith, length-drop}
use Rattle.std.proofs.lemmas.List.{length-take-le, take_rest}
use Rattle.byteorder.specs.Endian.{big_number}
use Rattle.cod_record.specs.Record.{range, IsSparseRange}
use Rattle.cod_record.proofs.Reading_back.{heads, range_read}
use Rattle.cod_record.proofs.any.read_range.Goals as goal
use Rattle.cod_record.proofs.any.read_range.Goals.{then-off-least-via-then-off-least, then-off-least-via-else-off-least+then-bytes-len, then-off-len-via-then-off-len}
use Rattle.cod_record.proofs.any.read_range.Goals.{then-off-len-via-else-off-len+then-not-is_range}

pub returns-then-from-lt8-clause-none : goal.returns-then-from-lt8-clause-none
returns-then-from-lt8-clause-none c = λ g is. omega (arith, (heads c.args.from.now c.args.least g is).room, c.if-from-lt8.true)

pub returns-then-off-least-clause-none : goal.returns-then-off-least-clause-none
returns-then-off-least-clause-none c = λ g is.
    let h = heads c.args.from.now c.args.least g is in
    let off : c.read_u32-off.result ≡ g.off = c.read_u32-off.ensures ∙ h.off in
    let len : c.read_u32-len.result ≡ length g.bytes = c.read_u32-len.ensures ∙ ap (big_number 4) (take_rest c.args.from.now 4) ∙ h.len in
    elim c.then-off-least.branch [
      | then-off-least-via-then-off-least w ↦ omega (arith, off, is.low, w.if-off-least.true)
      | then-off-least-via-else-off-least+then-bytes-len w ↦ omega (arith, len, h.room, w.if-bytes-len.true, length-drop 8 c.args.from.now)
    ]

contradiction : (b : Bool) → b ≡ true → b ≡ false → ⊥
contradiction b holds fails = cc

pub returns-then-off-len-clause-none : goal.returns-then-off-len-clause-none
returns-then-off-len-clause-none c = λ g is.
    let from = c.args.from.now in
    let h = heads from c.args.least g is in
    let off : c.read_u32-off.result ≡ g.off = c.read_u32-off.ensures ∙ h.off in
    let len : c.read_u32-len.result ≡ length g.bytes = c.read_u32-len.ensures ∙ ap (big_number 4) (take_rest from 4) ∙ h.len in
    let part : List ℕ = take c.read_u32-len.result (take (length from - 8) (drop 8 from)) in
    let same : part ≡ g.bytes = ap (take c.read_u32-len.result) (take_rest from 8) ∙ ap (λ n. take n (drop 8 from)) len ∙ h.bytes in
    let one : range c.read_u32-off.result part ≡ g = (λ i. range (off i) (same i)) in
    elim c.then-off-len.branch [
      | then-off-len-via-then-off-len w ↦ omega (arith, off, len, is.is.fits, w.if-off-len.true)
      | then-off-len-via-else-off-len+then-not-is_range w ↦
          contradiction w.is_range.result
          ((w.is_range.ensures c.read_u32-off.result (omega (arith, off, ap length same, is.is.fits))).1 (subst IsSparseRange (sym one) is.is))
          w.if-not-is_range.true
    ]

pub returns-clause-found : goal.returns-clause-found
returns-clause-found c =
    let from = c.args.from.now in
    let len : c.read_u32-len.result ≡ big_number 4 (drop 4 from) = c.read_u32-len.ensures ∙ ap (big_number 4) (take_rest from 4) in
    let room : 8 + c.read_u32-len.result ≤ length from = omega (arith, c.if-bytes-len.false, c.if-from-lt8.false, length-drop 8 from) in
    let part : List ℕ = take c.read_u32-len.result (take (length from - 8) (drop 8 from)) in
    let same : part ≡ take c.read_u32-len.result (drop 8 from) = ap (take c.read_u32-len.result) (take_rest from 8) in
    let part_len : length part ≡ c.read_u32-len.result = ap length same ∙ length-take-le c.read_u32-len.result (drop 8 from) (omega (arith, room, length-drop 8 from)) in
    let fits : c.read_u32-off.result + length part < 2 ^ 32 = omega (arith, part_len, c.if-off-len.false, c.read_u32-off.type_inv) in
    let P : List ℕ → Type 0 = λ l. IsSparseRange (range c.read_u32-off.result l) in
    range_read from c.read_u32-off.result c.read_u32-len.result c.args.least (λ i. omega (arith, c.type_inv.from i)) c.read_u32-off.ensures len
    room (omega (arith, c.if-off-least.false)) (subst P same ((c.is_range.ensures c.read_u32-off.result fits).0 c.if-not-is_range.false))
