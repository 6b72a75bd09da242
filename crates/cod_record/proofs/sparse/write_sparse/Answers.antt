use Rattle.std.proofs.Common.{◌≡◌, ◌∙◌, ◌≤◌, ◌+◌, ◌-◌, ℕ, List, [], ◌∷◌, ◌++◌, length, take, drop, set, ap, sym, refl, arith, length-append}
use Rattle.std.proofs.lemmas.List.{append_assoc, drop_at, take-append-drop, length-take-le}
use Rattle.byteorder.specs.Endian.{big_bytes}
use borrow.Rule.Slice.PartMut.{put_mid}
use Rattle.cod_record.specs.Record.{Range, ranges_text}
use Rattle.cod_record.specs.Sparse.{ranges_of}
use Rattle.cod_record.proofs.Bytes.{set_first, written}
use Rattle.cod_record.proofs.Lengths.{most}
use Rattle.cod_record.proofs.Sparse_texts.{fronted, sparse_is_record}
use Rattle.cod_record.proofs.sparse.write_sparse.Goals as goal

pub overflow_add-result : goal.overflow_add-result
overflow_add-result c = omega (arith, c.write_ranges-ranges.ensures.len, most c.args.off c.args.bytes.now, c.requires.short)

pub returns-clause-text : goal.returns-clause-text
returns-clause-text c =
    let s = c.args.into.now in
    let ranges = c.write_ranges-ranges in
    let len = ranges.result.len in
    let gs : List Range = ranges_of c.args.off c.args.bytes.now in
    let text : List ℕ = ranges_text gs in
    let front : List ℕ = take 13 s in
    let front_len : length front ≡ 13 = length-take-le 13 s (omega (arith, c.requires.room)) in
    let s1 : List ℕ = put_mid 13 (length s - 13) s ranges.new.into in
    let one : s1 ≡ (front ++ text) ++ drop (13 + len) s = written s s ranges.new.into front text 13 len (sym (take-append-drop 13 s)) front_len ranges.ensures.text in
    let behind : drop 13 s1 ≡ text ++ drop (13 + len) s = ap (drop 13) (one ∙ append_assoc front text (drop (13 + len) s)) ∙ drop_at front (text ++ drop (13 + len) s) 13 front_len in
    let long : 1 ≤ length s1 = omega (arith, ap length one, length-append (front ++ text) (drop (13 + len) s), length-append front text, front_len) in
    let kind : List ℕ = 2 ∷ [] in
    let first : set s1 0 2 ≡ kind ++ drop 1 s1 = set_first s1 2 long in
    let f1 : List ℕ = kind ++ big_bytes 2 c.args.block in
    let f2 : List ℕ = f1 ++ big_bytes 8 c.args.number in
    let f3 : List ℕ = f2 ++ big_bytes 2 ranges.result.count in
    let block = written s1 _ _ kind (big_bytes 2 c.args.block) 1 2 first refl c.write_u16.ensures in
    let number = written s1 _ _ f1 (big_bytes 8 c.args.number) 3 8 block refl c.write_u64.ensures in
    let count = written s1 _ _ f2 (big_bytes 2 ranges.result.count) 11 2 number refl c.write_u16-2.ensures in
    count ∙ ap (λ (l : List ℕ). f3 ++ l) behind ∙ fronted c.args.block c.args.number ranges.result.count gs (drop (13 + len) s) ranges.ensures.count

pub returns-clause-record : goal.returns-clause-record
returns-clause-record c =
    sparse_is_record c.args.block c.args.number c.args.off c.args.bytes.now (omega (arith, c.ranges.block.fits)) (omega (arith, c.ranges.number.fits)) c.requires.fits c.requires.short
