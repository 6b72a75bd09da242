use Rattle.std.proofs.Common.{◌≡◌, ◌∙◌, drop, ap, sym, arith}
use Rattle.std.proofs.lemmas.List.{take_rest}
use Rattle.byteorder.specs.Endian.{big_number}
use Rattle.cod_record.specs.Head.{head_text}
use Rattle.cod_record.proofs.Heads.{read_head_text, same_fields}
use Rattle.cod_record.proofs.first.read_head.Goals as goal

pub returns-clause-text : goal.returns-clause-text
returns-clause-text c =
    let s = c.args.from.now in
    let block : c.read_u16.result ≡ big_number 2 (drop 1 s) = c.read_u16.ensures ∙ ap (big_number 2) (take_rest s 1) in
    let number : c.read_u64.result ≡ big_number 8 (drop 3 s) = c.read_u64.ensures ∙ ap (big_number 8) (take_rest s 3) in
    let off : c.read_u32.result ≡ big_number 4 (drop 11 s) = c.read_u32.ensures ∙ ap (big_number 4) (take_rest s 11) in
    let len : c.read_u32-2.result ≡ big_number 4 (drop 15 s) = c.read_u32-2.ensures ∙ ap (big_number 4) (take_rest s 15) in
    read_head_text s (λ i. omega (arith, c.type_inv.from i)) c.requires.long c.requires.kind
    ∙ ap head_text (sym (same_fields block number off len))
