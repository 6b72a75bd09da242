use Rattle.std.proofs.Common.{◌≡◌, ◌+◌, map}
use Rattle.std.specs.List.{range_with_len}
use Rattle.cod_gen.specs.Drafting.{call_of, with_lines}
use Rattle.cod_gen.specs.Generated.{on_segment}
use Rattle.cod_gen.proofs.draft.Draft.on_each.Given as goal

abbrev pub invariant-loop-seg : goal.invariant-loop-seg
invariant-loop-seg l = record {
  added : l.self ≡ with_lines l.fn.self (map (λ s. on_segment s (call_of l.care)) (range_with_len 0 l.seg));
  line : l.self.line ≡ l.fn.self.line + l.seg;
}
