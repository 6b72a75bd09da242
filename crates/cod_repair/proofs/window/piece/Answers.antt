use Rattle.std.proofs.Common.{◌≡◌, ◌∙◌, ◌<◌, ℕ, List, length, sym, ap, ap₂, arith}
use Rattle.cod_code.specs.Columns.{has_column}
use Rattle.cod_code.specs.Segments.{column_byte}
use Rattle.cod_types.specs.Limits.{Shape}
use Rattle.cod_seg.specs.Seg.{Col, col_at}
use Rattle.cod_repair.specs.Columns.{is_source}
use Rattle.cod_repair.proofs.Choosing.{source_up}
use Rattle.cod_repair.proofs.Summing.{piece_bytes}
use Rattle.cod_repair.proofs.Valuing.{given_columns, piece_cause, piece_reads, readable}
use Rattle.cod_repair.proofs.window.piece.Goals as goal

pub sum_sources-requires-clause-range : goal.sum_sources-requires-clause-range
sum_sources-requires-clause-range g c = λ i lt is.
    let shape = c.args.bench.now in
    let seen : c.deref.result.now ≡ c.args.columns.now = c.deref.ensures.value ∙ c.columns.view_is in
    let cols : c.deref_mut.result.now ≡ c.args.columns.now = c.deref_mut.ensures.value ∙ c.columns.view_is in
    let kept : c.k.result ≡ shape.k = c.k.ensures.value ∙ ap (λ (s : Shape). s.k) c.bench.view_is in
    let source : has_column c.lowest_live-sources.result i ≡ is_source shape.k c.args.columns.now i =
    c.lowest_live-sources.ensures.columns i ∙ ap₂ (λ (k : ℕ) (cs : List Col). is_source k cs i) kept seen in
    let size = ap (λ (cs : List Col). length cs) cols in
    let among : i < shape.n = omega (arith, lt, size, c.requires.count) in
    let block = ap (λ (s : Shape). s.block) c.bench.view_is in
    let reserve = ap (λ (s : Shape). s.reserve) c.bench.view_is in
    let made = c.requires.made i among (source_up shape.k c.args.columns.now i (sym source ∙ is)) in
    rw cols (readable shape i (col_at c.args.columns.now i) c.args.off (length c.args.into.now) (length c.deref_mut-3.result.now) among made
    (omega (arith, c.requires.inside)) (omega (arith, c.deref_mut-3.ensures.len, c.bench.invariant.scratch_size, block, reserve)))

pub returns-clause-bytes : goal.returns-clause-bytes
returns-clause-bytes g c = λ segment bytes are.
    let shape = c.args.bench.now in
    let seen : c.deref.result.now ≡ c.args.columns.now = c.deref.ensures.value ∙ c.columns.view_is in
    let cols : c.deref_mut.result.now ≡ c.args.columns.now = c.deref_mut.ensures.value ∙ c.columns.view_is in
    let kept : c.k.result ≡ shape.k = c.k.ensures.value ∙ ap (λ (s : Shape). s.k) c.bench.view_is in
    let total = ap (λ (s : Shape). s.n) c.bench.view_is in
    let within = c.bench.invariant.within in
    let source : (i : ℕ) → has_column c.lowest_live-sources.result i ≡ is_source shape.k c.args.columns.now i =
    λ i. c.lowest_live-sources.ensures.columns i ∙ ap₂ (λ (k : ℕ) (cs : List Col). is_source k cs i) kept seen in
    let size : length c.deref_mut.result.now ≡ shape.n = ap (λ (cs : List Col). length cs) cols ∙ c.requires.count in
    let count = ap (λ (cs : List Col). length cs) seen ∙ c.requires.count in
    let small = rw count at c.lowest_live-sources.ensures.below in
    let least : c.bench.inside.shape.k ≡ shape.k = ap (λ (s : Shape). s.k) c.bench.view_is in
    piece_bytes c.sum_sources.result shape.n shape.k shape.block c.lowest_live-sources.result c.args.wanted c.args.off (length c.args.into.now) (length c.deref_mut.result.now) segment
    c.sum_sources.new.into c.row-row.result (omega (arith, within.data_among_columns, least, total)) (omega (arith, within.most_columns, total)) bytes
    (c.lowest_live-sources.ensures.count ∙ kept) small c.requires.wanted c.requires.inside c.sum_sources.auto.into c.row-row.ensures.same size
    (c.sum_sources.ensures.sum (λ i. column_byte shape.k shape.block i segment) (λ i lt is. rw cols (are i (sym (source i) ∙ is))))

pub returns-clause-reads : goal.returns-clause-reads
returns-clause-reads g c =
    let shape = c.args.bench.now in
    let seen : c.deref.result.now ≡ c.args.columns.now = c.deref.ensures.value ∙ c.columns.view_is in
    let cols : c.deref_mut.result.now ≡ c.args.columns.now = c.deref_mut.ensures.value ∙ c.columns.view_is in
    let kept : c.k.result ≡ shape.k = c.k.ensures.value ∙ ap (λ (s : Shape). s.k) c.bench.view_is in
    let source : (i : ℕ) → has_column c.lowest_live-sources.result i ≡ is_source shape.k c.args.columns.now i =
    λ i. c.lowest_live-sources.ensures.columns i ∙ ap₂ (λ (k : ℕ) (cs : List Col). is_source k cs i) kept seen in
    let size : length c.sum_sources.new.columns ≡ c.columns.inside.slots.len = c.sum_sources.auto.columns ∙ c.deref_mut.ensures.len in
    let back = given_columns c.columns.inside.slots.len c.sum_sources.new.columns c.columns.inside.slots.items size in
    let reads = rw cols at c.sum_sources.ensures.reads in
    rw back (piece_reads c.sum_sources.result (has_column c.lowest_live-sources.result) (is_source shape.k c.args.columns.now) c.args.columns.now c.sum_sources.new.columns
    (length c.args.columns.now) shape.n source c.requires.count reads)

pub returns-clause-cause : goal.returns-clause-cause
returns-clause-cause g c =
    let shape = c.args.bench.now in
    let seen : c.deref.result.now ≡ c.args.columns.now = c.deref.ensures.value ∙ c.columns.view_is in
    let cols : c.deref_mut.result.now ≡ c.args.columns.now = c.deref_mut.ensures.value ∙ c.columns.view_is in
    let kept : c.k.result ≡ shape.k = c.k.ensures.value ∙ ap (λ (s : Shape). s.k) c.bench.view_is in
    let source : (i : ℕ) → has_column c.lowest_live-sources.result i ≡ is_source shape.k c.args.columns.now i =
    λ i. c.lowest_live-sources.ensures.columns i ∙ ap₂ (λ (k : ℕ) (cs : List Col). is_source k cs i) kept seen in
    let cause = rw cols at c.sum_sources.ensures.cause in
    piece_cause c.sum_sources.result (has_column c.lowest_live-sources.result) (is_source shape.k c.args.columns.now) c.args.columns.now (length c.args.columns.now) shape.n source c.requires.count cause

pub returns-clause-sure : goal.returns-clause-sure
returns-clause-sure g c = λ never.
    let shape = c.args.bench.now in
    let seen : c.deref.result.now ≡ c.args.columns.now = c.deref.ensures.value ∙ c.columns.view_is in
    let cols : c.deref_mut.result.now ≡ c.args.columns.now = c.deref_mut.ensures.value ∙ c.columns.view_is in
    let kept : c.k.result ≡ shape.k = c.k.ensures.value ∙ ap (λ (s : Shape). s.k) c.bench.view_is in
    let source : (i : ℕ) → has_column c.lowest_live-sources.result i ≡ is_source shape.k c.args.columns.now i =
    λ i. c.lowest_live-sources.ensures.columns i ∙ ap₂ (λ (k : ℕ) (cs : List Col). is_source k cs i) kept seen in
    c.sum_sources.ensures.sure (λ i lt is. rw cols (never i (sym (source i) ∙ is)))
