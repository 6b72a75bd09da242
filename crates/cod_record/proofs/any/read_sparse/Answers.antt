use Rattle.std.proofs.Common.{◌≡◌, ◌∙◌, ◌≤◌, ◌+◌, ◌-◌, ℕ, suc, List, [], length, drop, take, ap, sym, subst, arith, length-drop}
use Rattle.std.proofs.lemmas.List.{length-take-le, take_rest}
use Rattle.byteorder.specs.Endian.{big_number}
use Rattle.cod_record.specs.Record.{range, Range}
use Rattle.cod_record.specs.Reading.{BeginsRange}
use Rattle.cod_record.specs.Sparse.{ranges_length}
use Rattle.cod_record.proofs.Reading_back.{Begins, GoesOn, goes_on, IsPart, is_part, none_long, nothing, numbers, record_read, split}
use Rattle.cod_record.proofs.any.read_sparse.Goals as goal

pub returns-then-from-lt-FRONT-clause-none : goal.returns-then-from-lt-FRONT-clause-none
returns-then-from-lt-FRONT-clause-none c = λ r n is. omega (arith, (numbers c.args.from.now r n is).room, c.if-from-lt-FRONT.true)

pub spans-preserved : goal.spans-preserved
spans-preserved c =
    let from = c.args.from.now in
    let at = c.spans.at in
    let off = c.in-Ok.range.off in
    let len = c.in-Ok.range.len in
    let rest : take (length from - at) (drop at from) ≡ drop at from = take_rest from at in
    let room : 8 + len ≤ length (drop at from) = omega (arith, c.in-Ok.ensures.size, ap length rest) in
    let P : List ℕ → Type 0 = λ l. BeginsRange l c.spans.least (range off (take len (drop 8 l))) in
    let g : Range = range off (take len (drop 8 (drop at from))) in
    let first : BeginsRange (drop at from) c.spans.least g = subst P rest c.in-Ok.ensures.found in
    let n : length g.bytes ≡ len = length-take-le len (drop 8 (drop at from)) (omega (arith, room, length-drop 8 (drop at from))) in
    let k : ℕ = c.spans.left - 1 in
    let left : c.spans.left ≡ suc k = omega (arith, c.spans-test.true) in
    let G : ℕ → Type 0 = λ m. GoesOn from c.read_u16-count.result at c.spans.least m in
    let I : ℕ → Type 0 = λ m. IsPart from c.read_u16-count.result at c.spans.least m in
    let Gn : ℕ → Type 0 = λ m. GoesOn from c.read_u16-count.result (at + (8 + m)) ((off + m) + 8) k in
    let In : ℕ → Type 0 = λ m. IsPart from c.read_u16-count.result (at + (8 + m)) ((off + m) + 8) k in
    record {
      low = omega (arith, c.spans.invariant.low);
      high = omega (arith, room, length-drop at from, c.spans.invariant.high);
      goes_on = subst Gn n (goes_on from c.read_u16-count.result at c.spans.least k g (subst G left c.spans.invariant.goes_on) first);
      is_part = subst In n (is_part from c.read_u16-count.result at c.spans.least k g (subst I left c.spans.invariant.is_part) first);
    }

-- all ranges of a record that begins the text, from where the reader stands on
pub returns-in-Err-clause-none : goal.returns-in-Err-clause-none
returns-in-Err-clause-none c = λ r n is.
    let from = c.args.from.now in
    let told = numbers from r n is in
    let count : length r.ranges ≡ c.read_u16-count.result = sym (c.read_u16-count.ensures ∙ ap (big_number 2) (take_rest from 11) ∙ told.count) in
    let B : ℕ → Type 0 = λ m. Begins (drop 13 from) 0 m r.ranges in
    let part = c.spans.invariant.is_part r.ranges (subst B count told.begins) in
    let left : c.spans.left ≡ suc (c.spans.left - 1) = omega (arith, c.spans-test.true) in
    let L : ℕ → Type 0 = λ m. Begins (drop c.spans.at from) c.spans.least m part.gs in
    let cut = split (drop c.spans.at from) c.spans.least (c.spans.left - 1) part.gs (subst L left part.is) in
    let P : List ℕ → Type 0 = λ l. BeginsRange l c.spans.least cut.first in
    c.in-Err.ensures.none cut.first (subst P (sym (take_rest from c.spans.at)) cut.begins)

pub returns-then-at-clause-none : goal.returns-then-at-clause-none
returns-then-at-clause-none c = λ r n is.
    let from = c.args.from.now in
    let told = numbers from r n is in
    let count : length r.ranges ≡ c.read_u16-count.result = sym (c.read_u16-count.ensures ∙ ap (big_number 2) (take_rest from 11) ∙ told.count) in
    let B : ℕ → Type 0 = λ m. Begins (drop 13 from) 0 m r.ranges in
    let part = c.spans.invariant.is_part r.ranges (subst B count told.begins) in
    let none : ranges_length part.gs ≡ 0 = none_long part.gs (omega (arith, part.is.count, c.spans-test.false)) in
    omega (arith, told.size, part.size, none, c.if-at.true)

pub returns-clause-found : goal.returns-clause-found
returns-clause-found c =
    let from = c.args.from.now in
    let left : 0 ≡ c.spans.left = omega (arith, c.spans-test.false) in
    let L : ℕ → Type 0 = λ m. Begins (drop c.spans.at from) c.spans.least m [] in
    let whole = c.spans.invariant.goes_on [] (subst L left (nothing (drop c.spans.at from) c.spans.least)) in
    let size : 13 + ranges_length whole.all ≡ c.spans.at = omega (arith, whole.size) in
    let counted : c.read_u16-count.result ≡ length whole.all = sym whole.is.count in
    let block : c.read_u16.result ≡ big_number 2 (drop 1 from) = c.read_u16.ensures ∙ ap (big_number 2) (take_rest from 1) in
    let number : c.read_u64.result ≡ big_number 8 (drop 3 from) = c.read_u64.ensures ∙ ap (big_number 8) (take_rest from 3) in
    let count : c.read_u16-count.result ≡ big_number 2 (drop 11 from) = c.read_u16-count.ensures ∙ ap (big_number 2) (take_rest from 11) in
    record {
      version = 2;
      whole = record { block = c.read_u16.result; number = c.read_u64.result; ranges = whole.all };
      told = (λ i. record { block = c.read_u16.result; number = c.read_u64.result; version = 2; ranges = counted i });
      within = c.spans.invariant.high;
      is = record_read from c.read_u16.result c.read_u64.result c.read_u16-count.result c.spans.at whole.all (λ i. omega (arith, c.type_inv.from i))
          (omega (arith, c.if-from-lt-FRONT.false)) c.requires.kind block number count (omega (arith, c.read_u16.type_inv)) (omega (arith, c.read_u64.type_inv)) (omega (
            arith,
            c.read_u16-count.type_inv,
          ))
          whole.is size c.spans.invariant.high (omega (arith, c.if-at.false));
    }
