use Rattle.std.proofs.Common.{◌≡◌, ℕ, List, [], ◌∷◌, ◌++◌, drop, set, refl, arith}
use Rattle.byteorder.specs.Endian.{big_bytes}
use Rattle.cod_record.specs.Head.{head_text}
use Rattle.cod_record.proofs.Bytes.{written, set_first}
use Rattle.cod_record.proofs.first.write_head.Goals as goal

pub returns-clause-text : goal.returns-clause-text
unfolding head_text
returns-clause-text c =
    let s = c.args.into.now in
    let h = c.args.head in
    let kind : List ℕ = 1 ∷ [] in
    let first : set s 0 1 ≡ kind ++ drop 1 s = set_first s 1 (omega (arith, c.requires.room)) in
    let f1 = kind ++ big_bytes 2 h.block in
    let f2 = f1 ++ big_bytes 8 h.number in
    let f3 = f2 ++ big_bytes 4 h.off in
    let block = written s _ _ kind (big_bytes 2 h.block) 1 2 first refl c.write_u16.ensures in
    let number = written s _ _ f1 (big_bytes 8 h.number) 3 8 block refl c.write_u64.ensures in
    let off = written s _ _ f2 (big_bytes 4 h.off) 11 4 number refl c.write_u32.ensures in
    written s _ _ f3 (big_bytes 4 h.len) 15 4 off refl c.write_u32-2.ensures
