use Rattle.std.proofs.Common.{◌∙◌, ◌+◌, ◌<◌, ℕ, length, take, refl, arith}
use Rattle.cod_layout.specs.declared.parts.Part.{Part}
use Rattle.cod_reading.specs.Reads.{part_reads}
use Rattle.cod_reading.proofs.Chaining.{reads_none, reads_then}
use Rattle.cod_reading.proofs.Parting.{brings_next, bytes_one_more, lost_reads, part_fits, reads_next}
use Rattle.cod_reading.proofs.parts.read_parts.Goals as goal

pub loop-part-init : goal.loop-part-init
loop-part-init g c = record {
  reads = reads_none c.args.clock.now c.args.segment.now c.requires.may.sound;
  few = c.requires.may.few;
  place = refl;
  front = λ told. refl;
  bench = refl;
}

pub read_to-requires-clause-fits : goal.read_to-requires-clause-fits
read_to-requires-clause-fits g c =
    let d : Part = record { block = 0; off = 0; len = 0 } in
    let within : c.loop-part.part-index < length c.args.parts.now = c.loop-part-test.true in
    let room = part_fits c.args.parts.now c.loop-part.part-index d within in
    omega (arith, room, c.loop-part.invariant.place, c.requires.may.fits, c.loop-part.auto.into)

pub returns-then-not-read_to-clause-lost : goal.returns-then-not-read_to-clause-lost
returns-then-not-read_to-clause-lost g c = λ is.
    let s = c.args.segment.now in
    let v = c.loop-part.segment in
    let u = c.read_to.new.segment in
    let done = part_reads s.site.shape.k s.cols (take c.loop-part.part-index c.args.parts.now) in
    let lost = c.if-not-read_to.ensures.lost refl in
    let all = reads_then done (λ (i : ℕ). 0) (λ (i : ℕ). done i + 0) c.args.clock.now c.loop-part.clock c.read_to.new.clock s v u c.loop-part.invariant.reads lost.0 (λ same i lt. refl) in
    (lost_reads (λ (i : ℕ). done i + 0) (λ (i : ℕ). 0) c.args.clock.now c.read_to.new.clock s u c.requires.may.sound c.requires.may.few lost.1 all, lost.1)

pub loop-part-preserved : goal.loop-part-preserved
loop-part-preserved g c =
    let s = c.args.segment.now in
    let v = c.loop-part.segment in
    let u = c.read_to.new.segment in
    let parts = c.args.parts.now in
    let x = c.loop-part.part-index in
    let m = length c.args.into.now in
    let d : Part = record { block = 0; off = 0; len = 0 } in
    let within : x < length parts = c.loop-part-test.true in
    let inv = c.loop-part.invariant in
    let b = c.if-not-read_to.ensures.brought refl in
    let more = bytes_one_more parts x d within in
    record {
      reads = reads_next c.args.clock.now c.loop-part.clock c.read_to.new.clock s v u parts m x d c.requires.may within inv.reads b.0;
      few = b.1;
      place = omega (arith, inv.place, more);
      front = brings_next (part_reads s.site.shape.k s.cols (take x parts)) c.args.clock.now c.loop-part.clock s v parts m x c.loop-part.at d b.2.0 c.loop-part.into c.read_to.new.into
          c.requires.may c.loop-part.auto.into within inv.reads inv.place inv.front b.2.1 b.2.2 b.2.3;
      bench = c.if-not-read_to.ensures.bench ∙ inv.bench;
    }
