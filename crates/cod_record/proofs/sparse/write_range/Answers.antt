use Rattle.std.proofs.Common.{◌≡◌, ◌∙◌, ◌+◌, ◌-◌, ℕ, List, ◌++◌, length, drop, ap, refl, arith}
use Rattle.byteorder.specs.Endian.{big_bytes}
use Rattle.std.proofs.lemmas.List.{append_assoc}
use Rattle.cod_record.specs.Record.{range_text}
use Rattle.cod_record.proofs.Bytes.{written, copied}
use Rattle.cod_record.proofs.sparse.write_range.Goals as goal

pub returns : goal.returns
unfolding range_text
returns c =
    let s = c.args.into.now in
    let bytes = c.args.bytes.now in
    let f1 = big_bytes 4 c.args.off in
    let f2 = big_bytes 4 (length bytes) in
    let len = written s _ _ f1 f2 4 4 c.write_u32.ensures refl c.write_u32-2.ensures in
    copied s _ _ (f1 ++ f2) bytes 8 (8 + length bytes) len refl c.copy_from_slice.ensures.after
    ∙ ap (λ (l : List ℕ). l ++ drop (8 + ((8 + length bytes) - 8)) s) (append_assoc f1 f2 bytes)
    ∙ ap (λ (n : ℕ). (f1 ++ (f2 ++ bytes)) ++ drop n s) (let end : 8 + ((8 + length bytes) - 8) ≡ 8 + length bytes = omega arith in end)
