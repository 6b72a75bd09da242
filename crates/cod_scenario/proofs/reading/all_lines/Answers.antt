use Rattle.std.proofs.Common.{◌≡◌, ◌+◌, length, [], ap, ◌∙◌, arith, Ok, Err}
use Rattle.cod_words.specs.Words.{lines_of}
use Rattle.cod_scenario.specs.Judge.{line_says, lines_say}
use Rattle.cod_scenario.proofs.AllLines.{goes_on, fails, is_done}
use Rattle.cod_scenario.proofs.LineCount.{few_lines}
use Rattle.cod_scenario.proofs.reading.all_lines.Goals as goal

pub lines-init : goal.lines-init
lines-init c = record {
  counted = omega arith;
  few = let f = few_lines c.args.text.now in omega (arith, f, c.requires);
  reader_counts = ap (λ h. h.lines) c.new-reader.ensures;
  left = ap (λ h. lines_say h.said 1 (lines_of c.args.text.now)) c.new-reader.ensures;
}

pub lines-preserved : goal.lines-preserved
lines-preserved c =
    let said : line_says c.lines.reader.said (c.lines.line + 1) _ ≡ Ok c.line.new.self.said = rw c.lines.invariant.reader_counts at c.in-Ok.ensures.0 in
    let n = ap length c.in-Some.ensures.lines in record {
      counted = let k = c.lines.invariant.counted in omega (arith, k, n);
      few = c.lines.invariant.few;
      reader_counts = c.in-Ok.ensures.1 ∙ ap (λ n. n + 1) c.lines.invariant.reader_counts;
      left = goes_on _ _ _ _ _ _ _ c.in-Some.ensures.lines said c.lines.invariant.left;
    }

pub returns-in-Err-Refused : goal.returns-in-Err-Refused
returns-in-Err-Refused c =
    let h = c.in-Err-Refused.ensures.0 in
    let said : line_says c.lines.reader.said (c.lines.line + 1) _ ≡ Err c.in-Err-Refused.why = rw (c.in-Err-Refused.field-0-is, c.lines.invariant.reader_counts) at h in
    rw (c.in-Err-Refused.why-is) (fails _ _ _ _ _ _ _ c.in-Some.ensures.lines said c.lines.invariant.left)

pub returns : goal.returns
returns c =
    let none : lines_of c.lines.rest.now ≡ [] = c.in_default.ensures.lines in
    let n : length (lines_of c.lines.rest.now) ≡ 0 = ap length none in
    let k = c.lines.invariant.counted in
    (is_done _ _ _ _ none c.lines.invariant.left, c.lines.invariant.reader_counts ∙ omega (arith, k, n))
