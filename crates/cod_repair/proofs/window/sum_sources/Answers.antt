use Rattle.std.proofs.Common.{◌≡◌, ◌∙◌, ◌+◌, ◌<◌, ℕ, length, ap, arith}
use Rattle.cod_code.specs.Columns.{has_column}
use Rattle.cod_seg.specs.Seg.{col_at}
use Rattle.cod_repair.specs.Pieces.{kept_byte, sum_of}
use Rattle.cod_repair.proofs.Fetching.{fetched_inside, fetched_plain, fetched_value, readable_inside}
use Rattle.cod_repair.proofs.window.sum_sources.Goals as goal

pub sum_lent-requires-clause-range : goal.sum_lent-requires-clause-range
sum_lent-requires-clause-range g c = λ i lt is.
    let old = c.args.columns.now in
    let within : i < length old = omega (arith, lt, c.fetch_sources.auto.columns) in
    let inside = readable_inside c.args.off (length c.args.into.now) (length c.args.scratch.now) (col_at old i) (c.requires.range i within is) in
    fetched_inside (has_column c.args.sources) old c.fetch_sources.new.columns i c.in_ok-fetch_sources.ensures.reads within is c.args.off (length c.args.into.now) inside

pub returns-clause-sum : goal.returns-clause-sum
returns-clause-sum g c = λ v have x lt.
    let chosen = has_column c.args.sources in
    let old = c.args.columns.now in
    let new = c.fetch_sources.new.columns in
    let reads = c.in_ok-fetch_sources.ensures.reads in
    let size : length new ≡ length old = c.fetch_sources.auto.columns in
    c.sum_lent.ensures.sum c.args.cuts.now (kept_byte c.args.claims.now) v
    (λ i low is. let within : i < length old = omega (arith, low, size) in
    fetched_value chosen old new i reads within is c.args.cuts.now (kept_byte c.args.claims.now i) (v i) (have i within is))
    (λ i low is. let within : i < length old = omega (arith, low, size) in
    fetched_plain chosen old new i reads within is (kept_byte c.args.claims.now i) (c.are_plain.ensures.plain c.if-not-are_plain.false i within is)) x lt
    ∙ ap (sum_of c.args.row.now (λ (j : ℕ). v j (c.args.off + x))) size
