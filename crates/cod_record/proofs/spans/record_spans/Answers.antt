use Rattle.std.proofs.Common.{◌≡◌, ◌∙◌, ℕ, List, length, take, ap, sym, subst, arith, length-drop}
use Rattle.std.proofs.lemmas.List.{take_rest}
use Rattle.byteorder.specs.Endian.{big_number}
use Rattle.cod_record.specs.Record.{Record, IsRecord}
use Rattle.cod_record.specs.Spans.{AreInside, HaveBytes, spans_of, spans_read}
use Rattle.cod_record.specs.declared.parts.Span.{Span}
use Rattle.cod_record.proofs.Spanning.{is_first, is_second, long, ManySpanned, many_spanned, one_spanned}
use Rattle.cod_record.proofs.spans.record_spans.Goals as goal

-- the record of the second version that begins the text
many : (version n : ℕ) (r : Record) (text : List ℕ) → IsRecord version r (take n text) → version ≡ 2 → ManySpanned text r
many version n r text is two = let P : ℕ → Type 0 = λ v. IsRecord v r (take n text) in many_spanned r text n (subst P two is)

pub bounds-from-0 : goal.bounds-from-0
bounds-from-0 c = omega (arith, long c.requires.version c.requires.size c.requires.whole c.args.from.now c.requires.is)

pub slice_bounds-read_u16-count : goal.slice_bounds-read_u16-count
slice_bounds-read_u16-count c = long c.requires.version c.requires.size c.requires.whole c.args.from.now c.requires.is

pub slice_bounds-read_u16-start : goal.slice_bounds-read_u16-start
slice_bounds-read_u16-start c = long c.requires.version c.requires.size c.requires.whole c.args.from.now c.requires.is

pub read_u16-left-requires : goal.read_u16-left-requires
read_u16-left-requires c =
    let from = c.args.from.now in
    let two = is_second c.requires.version c.requires.size c.requires.whole from c.requires.is c.if-from-ne2.false in
    let all = many c.requires.version c.requires.size c.requires.whole from c.requires.is two in
    omega (arith, all.long, ap length (take_rest from 11), length-drop 11 from)

pub invariant_of-result-2 : goal.invariant_of-result-2
invariant_of-result-2 c =
    let from = c.args.from.now in
    let two = is_second c.requires.version c.requires.size c.requires.whole from c.requires.is c.if-from-ne2.false in
    let all = many c.requires.version c.requires.size c.requires.whole from c.requires.is two in
    let left : c.read_u16-left.result ≡ length c.requires.whole.ranges = c.read_u16-left.ensures ∙ ap (big_number 2) (take_rest from 11) ∙ all.count in
    let P : ℕ → Type 0 = λ k. AreInside k 13 from in
    subst P (sym left) all.are

pub returns-clause-spans : goal.returns-clause-spans
returns-clause-spans c = λ version r n is.
    let from = c.args.from.now in
    let two = is_second version n r from is c.if-from-ne2.false in
    let all = many version n r from is two in
    let left : c.read_u16-left.result ≡ length r.ranges = c.read_u16-left.ensures ∙ ap (big_number 2) (take_rest from 11) ∙ all.count in
    ap (λ k. spans_read k 13 from) left ∙ all.spans ∙ ap (λ v. spans_of v r) (sym two)

pub returns-clause-bytes : goal.returns-clause-bytes
returns-clause-bytes c = λ version r n is.
    let from = c.args.from.now in
    let two = is_second version n r from is c.if-from-ne2.false in
    let all = many version n r from is two in
    let left : c.read_u16-left.result ≡ length r.ranges = c.read_u16-left.ensures ∙ ap (big_number 2) (take_rest from 11) ∙ all.count in
    let P : List Span → Type 0 = λ l. HaveBytes from l r.ranges in
    subst P (sym (ap (λ k. spans_read k 13 from) left ∙ all.spans)) all.bytes

pub invariant_of-result : goal.invariant_of-result
invariant_of-result c =
    let from = c.args.from.now in
    let one = is_first c.requires.version c.requires.size c.requires.whole from c.requires.is c.if-from-ne2.true in
    let P : ℕ → Type 0 = λ v. IsRecord v c.requires.whole (take c.requires.size from) in
    (one_spanned c.requires.whole from c.requires.size (subst P one c.requires.is)).are

pub returns-then-from-ne2-clause-spans : goal.returns-then-from-ne2-clause-spans
returns-then-from-ne2-clause-spans c = λ version r n is.
    let from = c.args.from.now in
    let one = is_first version n r from is c.if-from-ne2.true in
    let P : ℕ → Type 0 = λ v. IsRecord v r (take n from) in
    (one_spanned r from n (subst P one is)).spans ∙ ap (λ v. spans_of v r) (sym one)

pub returns-then-from-ne2-clause-bytes : goal.returns-then-from-ne2-clause-bytes
returns-then-from-ne2-clause-bytes c = λ version r n is.
    let from = c.args.from.now in
    let one = is_first version n r from is c.if-from-ne2.true in
    let P : ℕ → Type 0 = λ v. IsRecord v r (take n from) in
    let all = one_spanned r from n (subst P one is) in
    let Q : List Span → Type 0 = λ l. HaveBytes from l r.ranges in
    subst Q (sym all.spans) all.bytes
