use Rattle.std.proofs.Common.{ap, ◌∙◌}
use Rattle.cod_chronicle.specs.Said.{calls_by}
use Rattle.cod_chronicle.proofs.Stepping.{leaves_others_calls}
use Rattle.cod_chronicle.proofs.events.follower_keeps_others.Goals as goal

pub returns : goal.returns
returns g c caller other old new f apart = ap (calls_by other) f.grown ∙ leaves_others_calls caller other (g.T.Stands.entries old) f.added apart f.calls
