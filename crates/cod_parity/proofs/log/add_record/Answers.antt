use Rattle.std.proofs.Common.{◌≡◌, ◌∙◌, ◌+◌, ◌-◌, refl, arith, rules}
use Rattle.cod_parity.proofs.Ranging.{begins_within, within_first, spanned_start, spanned_next, spanned_done}
use Rattle.cod_parity.proofs.Records.{front}
use Rattle.cod_parity.proofs.log.add_record.Goals as goal

pub spans-init : goal.spans-init
spans-init c =
    let same : c.into_iter-span-iterator.result ≡ c.record_spans-span-items.result = search rules in
    record {
      long = refl;
      within = rw same (begins_within c.args.from.now c.record_spans-span-items.result c.requires.begins c.record_spans-span-items.ensures.bytes);
      meaning = λ version r n is. rw same (spanned_start c.args.from.now c.record_spans-span-items.result c.args.off version r c.args.window.now
          (c.record_spans-span-items.ensures.spans version r n is) (c.record_spans-span-items.ensures.bytes version r n is));
    }

pub slice_bounds-add_window-end : goal.slice_bounds-add_window-end
slice_bounds-add_window-end c = (within_first c.args.from.now c.spans.span-iterator c.next.new.self c.in-Some.span c.in-Some.ensures.steps c.spans.invariant.within).0

pub spans-preserved : goal.spans-preserved
spans-preserved c =
    let wide : (c.in-Some.span.at + c.in-Some.span.len) - c.in-Some.span.at ≡ c.in-Some.span.len = omega arith in
    record {
      long = c.add_window.auto.window ∙ c.spans.invariant.long;
      within = (within_first c.args.from.now c.spans.span-iterator c.next.new.self c.in-Some.span c.in-Some.ensures.steps c.spans.invariant.within).1;
      meaning = λ version r n is. spanned_next c.args.from.now c.spans.span-iterator c.next.new.self c.in-Some.span c.args.off r.ranges c.args.window.now c.spans.window c.add_window.new.window
          c.in-Some.ensures.steps c.spans.invariant.long (let added = c.add_window.ensures in rw wide at added) (c.spans.invariant.meaning version r n is);
    }

pub returns : goal.returns
returns c = λ l rest is front_is x small.
    let here = front c.args.from.now rest l is front_is in
    spanned_done c.args.from.now c.spans.span-iterator c.args.off l.version l.whole _ c.args.window.now c.spans.window here c.in-None.ensures.steps.0
    (c.spans.invariant.meaning l.version l.whole _ here) x small
