use Rattle.std.proofs.Common.{◌∙◌, ◌+◌, ◌<◌, ℕ, length, take, refl, ap, arith}
use Rattle.cod_claims.specs.Slips.{changes_of}
use Rattle.cod_reading.specs.Filling.{parts_in}
use Rattle.cod_reading.specs.Reads.{part_bytes, part_reads}
use Rattle.cod_reading.proofs.Chaining.{reads_none, reads_then}
use Rattle.cod_reading.proofs.Filling.{counts_next, filled_next, may_fill, parts_long, parts_next, same_next}
use Rattle.cod_reading.proofs.Parting.{lost_reads}
use Rattle.cod_reading.proofs.beginning.read_deltas.Goals as goal

pub loop-i-init : goal.loop-i-init
loop-i-init g c = record {
  reads = reads_none c.args.clock.now c.args.segment.now c.requires.may.sound;
  few = c.requires.may.few;
  filling = c.requires.filling;
  same = refl;
  parts = refl;
  bench = refl;
}

pub read_delta-requires-clause-may : goal.read_delta-requires-clause-may
read_delta-requires-clause-may g c =
    let s = c.args.segment.now in
    let parts = parts_in (changes_of c.args.slip.now) in
    let cs = changes_of c.loop-i.slip in
    let inv = c.loop-i.invariant in
    let there : c.loop-i.i < length cs =
    let a = ap length inv.parts in let b = parts_long cs in let d = parts_long (changes_of c.args.slip.now) in omega (arith, a, b, d, c.loop-i-test.true, c.deltas-i-end.ensures) in
    may_fill (part_reads s.site.shape.k s.cols (take c.loop-i.i parts)) c.args.clock.now c.loop-i.clock s c.loop-i.segment parts (part_bytes parts) c.loop-i.i cs c.requires.may inv.reads inv.few inv.parts there

pub returns-then-not-read_delta-clause-lost : goal.returns-then-not-read_delta-clause-lost
returns-then-not-read_delta-clause-lost g c = λ is.
    let s = c.args.segment.now in
    let v = c.loop-i.segment in
    let u = c.read_delta.new.segment in
    let done = part_reads s.site.shape.k s.cols (take c.loop-i.i (parts_in (changes_of c.args.slip.now))) in
    let lost = c.if-not-read_delta.ensures.lost refl in
    let all = reads_then done (λ (i : ℕ). 0) (λ (i : ℕ). done i + 0) c.args.clock.now c.loop-i.clock c.read_delta.new.clock s v u c.loop-i.invariant.reads lost.0 (λ same i lt. refl) in
    (lost_reads (λ (i : ℕ). done i + 0) (λ (i : ℕ). 0) c.args.clock.now c.read_delta.new.clock s u c.requires.may.sound c.requires.may.few lost.1 all, lost.1)

pub returns-then-not-read_delta-clause-slip : goal.returns-then-not-read_delta-clause-slip
returns-then-not-read_delta-clause-slip g c =
    let b = c.if-not-read_delta.ensures.slip in (
      same_next c.args.slip.now c.loop-i.slip c.read_delta.new.slip c.loop-i.i b.0 c.loop-i.invariant.same b.2,
      parts_next (parts_in (changes_of c.args.slip.now)) c.loop-i.slip c.read_delta.new.slip c.loop-i.i b.0 c.loop-i.invariant.parts b.2,
    )

pub loop-i-preserved : goal.loop-i-preserved
loop-i-preserved g c =
    let s = c.args.segment.now in
    let v = c.loop-i.segment in
    let u = c.read_delta.new.segment in
    let p = c.args.slip.now in
    let q = c.loop-i.slip in
    let n = c.read_delta.new.slip in
    let i = c.loop-i.i in
    let parts = parts_in (changes_of p) in
    let inv = c.loop-i.invariant in
    let b = c.if-not-read_delta.ensures.slip in
    let r = c.if-not-read_delta.ensures.brought refl in
    let there : i < length (changes_of q) =
    let a = ap length inv.parts in let l = parts_long (changes_of q) in let d = parts_long (changes_of p) in omega (arith, a, l, d, c.loop-i-test.true, c.deltas-i-end.ensures) in
    record {
      reads = counts_next c.args.clock.now c.loop-i.clock c.read_delta.new.clock s v u parts (part_bytes parts) i (changes_of q) c.requires.may inv.parts there inv.reads r.0;
      few = r.1;
      filling = filled_next (part_reads s.site.shape.k s.cols (take i parts)) c.args.clock.now c.loop-i.clock s v parts (part_bytes parts) i q n b.0 c.requires.may inv.reads inv.parts there inv.filling b.1 b.2
          (b.3 refl);
      same = same_next p q n i b.0 inv.same b.2;
      parts = parts_next parts q n i b.0 inv.parts b.2;
      bench = c.if-not-read_delta.ensures.bench ∙ inv.bench;
    }
