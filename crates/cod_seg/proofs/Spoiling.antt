-- What a put keeps that finds too many columns down.
use Rattle.std.proofs.Common.{ℕ, List, ◌∙◌, Some, None, Option}
use Rattle.std.proofs.lemmas.Bool.{both_ways}
use Rattle.atomic_table.specs.Seated.{TableId}
use Rattle.cod_chronicle.specs.declared.entry.Entry.{Entry}
use Rattle.cod_chronicle.specs.Said.{Site, is_over}
use Rattle.cod_claims.specs.declared.claim.Claim.{Claim}
use Rattle.cod_seg.specs.Seg.{col_at, Rebuilding, Seg, Target}
use Rattle.cod_seg.specs.Sound.{HasTarget, IsSingle, MayRebuild, Sound}
use Rattle.cod_seg.specs.Steps.{MaySpoil, Spoils, SpoilsRebuild}
use Rattle.cod_seg.proofs.Telling.{target_written}
use Rattle.cod_seg.proofs.Keeping.{column_worked}

spoiled_target : (site : Site) (frail : List ℕ) (pools : Option TableId) (log : List Entry) (col : ℕ) (o new : Option Target) → MaySpoil o new → HasTarget site frail pools log col o
    → HasTarget site frail pools log col new
spoiled_target site frail pools log col None new is t = rw is tt
spoiled_target site frail pools log col (Some t) new is goal = rw is.1 (target_written site frail pools log col t is.0 is.2 goal)

spoiled_rebuild : (site : Site) (frail : List ℕ) (pools : Option TableId) (log : List Entry) (o new : Option Rebuilding) → SpoilsRebuild o new → MayRebuild site frail pools log o
    → MayRebuild site frail pools log new
spoiled_rebuild site frail pools log None new is m = rw is tt
spoiled_rebuild site frail pools log (Some r) new is m =
    rw is.1 (record { column = m.column; down = m.down; honest = m.honest; goal = spoiled_target site frail pools log r.col r.target is.0 is.2 m.goal })

spoiled_single : (claims : List (Option Claim)) (o new : Option Rebuilding) → SpoilsRebuild o new → IsSingle claims o → IsSingle claims new
spoiled_single claims None new is single = rw is tt
spoiled_single claims (Some r) new is single = rw is.1 single

pub spoils_keep : (s t : Seg) → Sound s → Spoils s t → Sound t
spoils_keep s t sound step =
    rw step.becomes (record {
      shape = sound.shape;
      dated = sound.dated;
      history = sound.history;
      columns = record {
        size = step.size ∙ sound.columns.size;
        most = sound.columns.most;
        each = λ i lt. column_worked s.site s.frail s.pools s.log i (col_at s.cols i) (col_at t.cols i) (step.keeps i lt) (step.live i lt) (step.faults i lt) (sound.columns.each i lt);
        apart = sound.columns.apart;
        known = sound.columns.known;
      };
      cut = sound.cut;
      claimed = sound.claimed;
      rebuilt = spoiled_rebuild s.site s.frail s.pools s.log s.rebuild t.rebuild step.target sound.rebuilt;
      single = spoiled_single s.claims s.rebuild t.rebuild step.target sound.single;
      holds = λ told enough. absurd (both_ways (is_over s.site s.log) enough step.over);
    })
