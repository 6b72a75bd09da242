use Rattle.std.proofs.Common.{◌≡◌, ◌∙◌, ◌<◌, List, length, false, sym, ap, arith}
use Rattle.std.specs.Prelude.{is_err}
use Rattle.cod_types.specs.Overwritten.{byte_of}
use Rattle.cod_claims.specs.Claimed.{claim_at, kept_of}
use Rattle.cod_data.specs.Values.{placed}
use Rattle.cod_seg.specs.Seg.{Col}
use Rattle.cod_repair.specs.Pieces.{kept_byte}
use Rattle.cod_repair.proofs.Naming.{ok_of, old_col}
use Rattle.cod_repair.proofs.Valuing.{kept_same, value_same}
use Rattle.cod_repair.proofs.columns.Columns.read_by.Goals as goal

pub returns-clause-value : goal.returns-clause-value
returns-clause-value g c = λ v h x lt.
    let items = c.self.inside.slots.items in
    let within : c.args.col < length items = (let n = ap (λ (cs : List Col). length cs) c.self.view_is in let r = c.requires.col in omega (arith, n, r)) in
    let before = old_col items c.args.self.now c.args.col c.index_mut-column.result.now within c.index_mut-column.ensures.value c.self.view_is in
    let is : is_err c.read_at_cut.result ≡ false = sym c.is_err.ensures.value ∙ c.if-is_err.false in
    let kept = kept_same c.kept.result (kept_of (claim_at c.args.claims.now c.args.col)) c.kept.ensures.kept in
    let told = value_same c.index_mut-column.result.now c.args.cuts.now (kept_byte c.args.claims.now c.args.col) (byte_of (placed c.kept.result)) v (rw before h) kept in
    ok_of c.read_at_cut.result is (c.read_at_cut.ensures.value v told) x lt
