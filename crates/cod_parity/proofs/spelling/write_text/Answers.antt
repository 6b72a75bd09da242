use Rattle.std.proofs.Common.{◌≡◌, ◌≤◌, ◌+◌, ◌++◌, ◌∙◌, ℕ, List, length, take, drop, sym, ap, arith}
use Rattle.std.proofs.lemmas.List.{take_at}
use Rattle.std.proofs.lemmas.Slice.{take-put_mid}
use Rattle.cod_record.specs.Head.{head_text}
use Rattle.cod_record.proofs.Heads.{length-head_text}
use Rattle.cod_record.proofs.Lengths.{most}
use Rattle.cod_parity.specs.Log.{logged, text}
use Rattle.cod_parity.proofs.Spelled.{first_length_is, length-logged, record_first, record_second, second_length_is, text_first, text_second}
use Rattle.cod_parity.proofs.spelling.write_text.Goals as goal

pub returns-then-version-eq2-clause-len : goal.returns-then-version-eq2-clause-len
returns-then-version-eq2-clause-len c =
    c.write_sparse.ensures.len
    ∙ sym (length-logged c.args.version c.args.head c.args.bytes.now c.requires.first c.requires.last ∙ second_length_is c.args.version c.args.head c.args.bytes.now c.if-version-eq2.true)

pub returns-then-version-eq2-clause-front : goal.returns-then-version-eq2-clause-front
returns-then-version-eq2-clause-front c =
    let same = text_second c.args.version c.args.head c.args.bytes.now c.if-version-eq2.true in
    let long : length (text (logged c.args.version c.args.head c.args.bytes.now)) ≡ c.write_sparse.result = sym (returns-then-version-eq2-clause-len c) in
    ap (take c.write_sparse.result) (c.write_sparse.ensures.text ∙ ap (λ (l : List ℕ). l ++ drop c.write_sparse.result c.args.into.now) (sym same))
    ∙ take_at (text (logged c.args.version c.args.head c.args.bytes.now)) _ c.write_sparse.result long

pub returns-then-version-eq2-clause-within : goal.returns-then-version-eq2-clause-within
returns-then-version-eq2-clause-within c =
    let more = c.requires.more c.if-version-eq2.true in
    let most = most c.args.head.off c.args.bytes.now in
    omega (arith, c.write_sparse.ensures.len, more, most, c.requires.len)

pub returns-then-version-eq2-clause-record : goal.returns-then-version-eq2-clause-record
returns-then-version-eq2-clause-record c = record_second c.args.version c.args.head c.args.bytes.now c.if-version-eq2.true c.write_sparse.ensures.record

pub returns-clause-len : goal.returns-clause-len
returns-clause-len c =
    let e = length-logged c.args.version c.args.head c.args.bytes.now c.requires.first c.requires.last in
    let f = first_length_is c.args.version c.args.head c.args.bytes.now c.if-version-eq2.false in
    omega (arith, e, f)

pub returns-clause-front : goal.returns-clause-front
returns-clause-front c =
    let h = head_text c.args.head in
    let one : c.args.version ≡ 1 = omega arith in
    let n : 19 + c.args.head.len ≡ 19 + length c.copy_from_slice.new.self = omega (arith, c.requires.len, ap length c.copy_from_slice.ensures.after) in
    let long : 19 ≤ length c.write_head.new.into = omega (arith, c.write_head.auto.into) in
    take-put_mid 19 _ c.write_head.new.into c.copy_from_slice.new.self (19 + c.args.head.len) n long
    ∙ ap (λ (l : List ℕ). take 19 l ++ c.copy_from_slice.new.self) c.write_head.ensures.text
    ∙ ap (λ (l : List ℕ). l ++ c.copy_from_slice.new.self) (take_at h (drop 19 c.args.into.now) 19 (length-head_text c.args.head))
    ∙ ap (λ (l : List ℕ). h ++ l) c.copy_from_slice.ensures.after
    ∙ sym (text_first c.args.version c.args.head c.args.bytes.now one c.write_head.ensures.range (omega arith) (sym c.requires.len))

pub returns-clause-record : goal.returns-clause-record
returns-clause-record c =
    let one : c.args.version ≡ 1 = omega arith in
    record_first c.args.version c.args.head c.args.bytes.now one c.write_head.ensures.range (omega arith) (sym c.requires.len)
