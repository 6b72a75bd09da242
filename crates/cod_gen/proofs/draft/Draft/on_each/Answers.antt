use Rattle.std.proofs.Common.{ap, ◌∙◌, arith}
use Rattle.cod_types.specs.declared.call.Call.{Call}
use Rattle.cod_gen.specs.Drafting.{Draft, call_of, with_line, with_lines}
use Rattle.cod_gen.specs.Generated.{on_segment}
use Rattle.cod_gen.proofs.Rounds_drawn.{each_next, each_is}
use Rattle.cod_gen.proofs.draft.Draft.on_each.Goals as goal

pub loop-seg-preserved : goal.loop-seg-preserved
loop-seg-preserved c =
    let d = c.loop-seg.self in
    let n = c.loop-seg.seg in
    let k = call_of c.args.care in
    let one = c.in_ok-push.ensures in
    let line = ap (λ (e : Draft). e.line) one in
    let before = c.loop-seg.invariant.line in
    record {
      added = one ∙ ap (λ (call : Call). with_line d (on_segment n call)) c.call.ensures ∙ ap (λ (e : Draft). with_line e (on_segment n k)) c.loop-seg.invariant.added
          ∙ each_next k c.args.self.now n;
      line = omega (arith, line, before);
    }

pub returns : goal.returns
returns c =
    let test = c.loop-seg-test.false in
    let end = c.loop-seg.auto.seg-end in
    c.loop-seg.invariant.added ∙ ap (with_lines c.args.self.now) (each_is (call_of c.args.care) c.loop-seg.seg (omega (arith, test, end)))
