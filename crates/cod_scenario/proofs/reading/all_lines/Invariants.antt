use Rattle.std.proofs.Common.{◌≡◌, ◌+◌, ◌≤◌, length, []}
use Rattle.cod_words.specs.Words.{lines_of}
use Rattle.cod_scenario.specs.Judge.{lines_say}
use Rattle.cod_scenario.proofs.reading.all_lines.Given as goal

abbrev pub invariant-lines : goal.invariant-lines
invariant-lines l = record {
  counted : l.line + length (lines_of l.rest) ≡ length (lines_of l.text);
  few : length (lines_of l.text) ≤ 16777217;
  reader_counts : l.reader.lines ≡ l.line;
  left : lines_say l.reader.said (l.line + 1) (lines_of l.rest) ≡ lines_say [] 1 (lines_of l.text);
}

abbrev pub decreases-lines : goal.decreases-lines
decreases-lines l = length l.rest
