use Rattle.std.proofs.Common.{◌≡◌, ◌∙◌, ◌<◌, length, true, sym, arith}
use Rattle.cod_code.specs.Segments.{column_byte}
use Rattle.cod_seg.specs.Seg.{col_at}
use Rattle.cod_reading.proofs.Fetching.{on_ok, read_is}
use Rattle.cod_reading.proofs.Valuing.{column_bytes, sources_of}
use Rattle.cod_reading.proofs.parts.bring.Goals as goal

pub returns-then-live-clause-reads : goal.returns-then-live-clause-reads
returns-then-live-clause-reads g c =
    let k = c.args.bench.now.k in
    let n = c.args.bench.now.n in
    let below : c.args.block < n = omega (arith, c.requires.among, c.requires.data) in
    let up : (col_at c.args.columns.now c.args.block).is_up ≡ true = sym c.live.ensures ∙ c.if-live.true in
    read_is c.read.result k n c.args.block c.args.columns.now c.read.new.self up below c.read.ensures.same c.read.ensures.told

pub returns-then-live-clause-bytes : goal.returns-then-live-clause-bytes
returns-then-live-clause-bytes g c = λ b bytes all.
    let s = c.args.bench.now in
    let below : c.args.block < s.n = omega (arith, c.requires.among, c.requires.data) in
    let up : (col_at c.args.columns.now c.args.block).is_up ≡ true = sym c.live.ensures ∙ c.if-live.true in
    on_ok c.read.result (c.read.ensures.value (column_byte s.k s.block c.args.block b) (all c.args.block below up))
    (λ each. column_bytes s c.args.block c.args.off (length c.args.into.now) b c.read.new.into c.read.auto.into c.requires.inside each)

pub returns-else-live-clause-bytes : goal.returns-else-live-clause-bytes
returns-else-live-clause-bytes g c = λ b bytes all.
    c.piece.ensures.bytes b bytes (sources_of c.args.bench.now b c.args.cuts.now c.args.claims.now c.args.columns.now c.requires.count all)
