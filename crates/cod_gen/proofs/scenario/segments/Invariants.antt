use Rattle.std.proofs.Common.{◌≡◌, map, []}
use Rattle.std.specs.List.{range_with_len}
use Rattle.cod_gen.specs.Generated.{name_of}
use Rattle.cod_gen.proofs.scenario.segments.Given as goal

abbrev pub invariant-loop-seg : goal.invariant-loop-seg
invariant-loop-seg l = record {
  added : l.body ≡ record { segments = map (name_of 115) (range_with_len 0 l.seg); clients = []; schedule = []; workers = 0; rounds = 0 };
}
