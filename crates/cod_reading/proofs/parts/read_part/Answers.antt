use Rattle.std.proofs.Common.{◌≡◌, ◌∙◌, ℕ, List, refl, sym, ap, false}
use Rattle.cod_chronicle.specs.declared.entry.Entry.{Entry}
use Rattle.cod_chronicle.specs.Said.{is_over, Site}
use Rattle.cod_reading.proofs.Chaining.{brings_before, reads_none, reads_part, reads_then, site_after}
use Rattle.cod_reading.proofs.parts.read_part.Goals as goal

pub tries-init : goal.tries-init
tries-init g c = record { reads = reads_none c.args.clock.now c.args.segment.now c.requires.may.sound; bench = refl; long = refl }

pub tries-preserved : goal.tries-preserved
tries-preserved g c =
    let inv = c.tries.invariant in
    record {
      reads = reads_then (λ (i : ℕ). 0) (λ (i : ℕ). 0) (λ (i : ℕ). 0) c.args.clock.now c.tries.clock c.try_part.new.clock c.args.segment.now c.tries.segment c.try_part.new.segment
          inv.reads (c.if-try_part.ensures.failed refl).0 (λ same i lt. refl);
      bench = c.if-try_part.ensures.bench ∙ inv.bench;
      long = c.try_part.auto.into ∙ inv.long;
    }

pub returns-then-try_part-clause-brought : goal.returns-then-try_part-clause-brought
returns-then-try_part-clause-brought g c = λ is.
    let inv = c.tries.invariant in
    let b = c.if-try_part.ensures.brought refl in
    let s = c.args.segment.now in
    let v = c.tries.segment in
    let u = c.try_part.new.segment in
    let site = site_after _ c.tries.clock c.try_part.new.clock v u b.0 in
    let few : is_over v.site v.log ≡ false = sym c.is_lost.ensures ∙ c.tries-test.true in (
      reads_part c.args.block c.args.clock.now c.tries.clock c.try_part.new.clock s v u c.requires.may.sound c.requires.may.among inv.reads b.0,
      ap (λ (x : Site). is_over x u.log) site ∙ ap (λ (l : List Entry). is_over v.site l) b.1 ∙ few,
      brings_before (λ (i : ℕ). 0) c.args.clock.now c.tries.clock s v c.args.block c.args.off c.try_part.new.into inv.reads b.2,
    )
