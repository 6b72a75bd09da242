use Rattle.std.proofs.Common.{◌≡◌, ◌∙◌, ◌+◌, ◌-◌, ℕ, List, ◌++◌, length, take, drop, ap, sym, arith}
use Rattle.std.proofs.lemmas.List.{append-nil, take-append-drop, length-take-le}
use Rattle.std.proofs.Common.{length-drop}
use borrow.Rule.Slice.PartMut.{put_mid}
use Rattle.cod_record.specs.Record.{Range, range, range_text, ranges_text}
use Rattle.cod_record.specs.Sparse.{ranges_of}
use Rattle.cod_record.proofs.Lengths.{all_left, counted, first_left, len_left, length-range, more_left, most, next_left, none_left, room_left, start_left}
use Rattle.cod_record.proofs.Splitting.{ranges_of-sparse}
use Rattle.cod_record.proofs.Sparse_texts.{text_more, wrote}
use Rattle.cod_record.proofs.Texts.{length-range_text}
use Rattle.cod_record.proofs.sparse.write_ranges.Goals as goal

pub parts-init : goal.parts-init
parts-init c =
    let bytes = c.args.bytes.now in
    let at = c.zeros_end-at in
    let same = first_left bytes c.args.off at.result at.ensures.zeros in
    record {
      left = start_left bytes c.args.off at.result at.ensures.high at.ensures.some at.ensures.zeros;
      room = omega arith;
      size = λ _. length c.args.into.now;
      count = omega (arith, ap length same);
      text = ap ranges_text same;
      rest = λ _. c.args.into.now;
    }

pub write_range-requires-clause-room : goal.write_range-requires-clause-room
write_range-requires-clause-room c =
    let bytes = c.args.bytes.now in
    let end = c.range_end-end in
    let invariant = c.parts.invariant in
    let room = room_left bytes c.args.off c.parts.at c.parts.len end.result invariant.left end.ensures.low end.ensures.high (end.ensures.first c.args.off) in
    let part = length-range bytes c.parts.at end.result (omega (arith, end.ensures.low)) end.ensures.high in
    let rest : length (take (length c.parts.into - c.parts.len) (drop c.parts.len c.parts.into)) ≡ length c.parts.into - c.parts.len =
    length-take-le (length c.parts.into - c.parts.len) (drop c.parts.len c.parts.into) (omega (arith, length-drop c.parts.len c.parts.into)) in
    omega (arith, room, part, rest, invariant.size, c.requires.room)

pub overflow_add-len-in-parts : goal.overflow_add-len-in-parts
overflow_add-len-in-parts c =
    let end = c.range_end-end in
    let room = room_left c.args.bytes.now c.args.off c.parts.at c.parts.len end.result c.parts.invariant.left end.ensures.low end.ensures.high (end.ensures.first c.args.off) in
    omega (arith, room, c.requires.short)

pub overflow_add-count : goal.overflow_add-count
overflow_add-count c =
    let bytes = c.args.bytes.now in
    let all = ranges_of c.args.off bytes in
    let few = counted all c.args.off (ranges_of-sparse c.args.off bytes c.requires.fits) in
    omega (arith, few, most c.args.off bytes, c.requires.short, c.parts.invariant.count, ap length (c.range_end-end.ensures.first c.args.off))

pub parts-preserved : goal.parts-preserved
parts-preserved c =
    let bytes = c.args.bytes.now in
    let off = c.args.off in
    let end = c.range_end-end in
    let next = c.zeros_end-at-in-parts in
    let invariant = c.parts.invariant in
    let bs : List ℕ = take (end.result - c.parts.at) (drop c.parts.at bytes) in
    let g : Range = range (off + c.parts.at) bs in
    let gs : List Range = ranges_of (off + next.result) (drop next.result bytes) in
    let is = next_left bytes off c.parts.at end.result next.result next.ensures.low (end.ensures.first off) next.ensures.zeros in
    let room = room_left bytes off c.parts.at c.parts.len end.result invariant.left end.ensures.low end.ensures.high (end.ensures.first off) in
    let part = length-range bytes c.parts.at end.result (omega (arith, end.ensures.low)) end.ensures.high in
    let n : length (range_text g) ≡ 8 + (end.result - c.parts.at) = length-range_text g ∙ ap (λ k. 8 + k) part in
    let len : c.parts.len + length (range_text g) ≡ c.parts.len + (8 + (end.result - c.parts.at)) = ap (λ k. c.parts.len + k) n in
    let new = c.write_range.ensures ∙ ap (λ k. range_text g ++ drop k (take (length c.parts.into - c.parts.len) (drop c.parts.len c.parts.into))) (sym (length-range_text g)) in
    let done = wrote c.parts.into c.args.into.now (range_text g) c.write_range.new.into c.parts.len (omega (arith, room, n, invariant.size, c.requires.room)) invariant.size invariant.rest new in
    let after : List ℕ = put_mid c.parts.len (length c.parts.into - c.parts.len) c.parts.into c.write_range.new.into in
    record {
      left = more_left bytes off c.parts.at c.parts.len end.result next.result invariant.left end.ensures.low end.ensures.high next.ensures.low next.ensures.high
          next.ensures.some (end.ensures.first off) next.ensures.zeros;
      room = omega (arith, done.size, room, invariant.size, c.requires.room);
      size = done.size ∙ invariant.size;
      count = omega (arith, invariant.count, ap length is);
      text = ap (λ k. take k after ++ ranges_text gs) (sym len) ∙ ap (λ (l : List ℕ). l ++ ranges_text gs) done.front
          ∙ text_more (take c.parts.len c.parts.into) g gs (ranges_of (off + c.parts.at) (drop c.parts.at bytes)) (ranges_text (ranges_of off bytes)) is invariant.text;
      rest = ap (λ k. drop k after) (sym len) ∙ done.rest ∙ ap (λ k. drop k c.args.into.now) len;
    }

pub overflow_cast-result : goal.overflow_cast-result
overflow_cast-result c = omega (arith, len_left c.args.bytes.now c.args.off c.parts.at c.parts.len c.parts.invariant.left, c.requires.short)

pub returns-clause-text : goal.returns-clause-text
returns-clause-text c =
    let none = none_left c.args.bytes.now c.args.off c.parts.at c.parts-test.false in
    let all : take c.parts.len c.parts.into ≡ ranges_text (ranges_of c.args.off c.args.bytes.now) =
    sym (append-nil (take c.parts.len c.parts.into)) ∙ ap (λ (l : List Range). take c.parts.len c.parts.into ++ ranges_text l) (sym none) ∙ c.parts.invariant.text in
    sym (take-append-drop c.parts.len c.parts.into) ∙ ap (λ (l : List ℕ). l ++ drop c.parts.len c.parts.into) all
    ∙ ap (λ (l : List ℕ). ranges_text (ranges_of c.args.off c.args.bytes.now) ++ l) c.parts.invariant.rest

pub returns-clause-len : goal.returns-clause-len
returns-clause-len c = all_left c.args.bytes.now c.args.off c.parts.at c.parts.len c.parts.invariant.left c.parts-test.false

pub returns-clause-count : goal.returns-clause-count
returns-clause-count c = omega (arith, c.parts.invariant.count, ap length (none_left c.args.bytes.now c.args.off c.parts.at c.parts-test.false))
