-- What a run's parts come to together.
use Rattle.std.proofs.Common.{◌≡◌, ℕ, ◌+◌, ◌<◌, List, All, Option, length, sym, subst}
use Rattle.cod_region.specs.Device.{AllRegions}
use Rattle.cod_board.specs.declared.kill.Kill.{Kill}
use Rattle.cod_chronicle.specs.Said.{clock_of, last_stamp}
use Rattle.cod_place.specs.Rooms.{Store}
use Rattle.cod_script.specs.Script.{Script}
use Rattle.cod_seg.specs.Seg.{Seg}
use Rattle.cod_shell.specs.Numbers.{AllFit}
use Rattle.cod_closing.specs.Closing.{IsClosedOf, IsWhole}
use Rattle.cod_pass.specs.States.{Common, IsRestOf, PassState, RestState}
use Rattle.cod_run.specs.Ends.{End, IsEnd}
use Rattle.cod_script.specs.Sound.{IsScenario}
use Rattle.cod_opening.specs.Opening.{IsOpened}
use Rattle.cod_run.specs.Jobs.{AreJobs}
use Rattle.cod_run.specs.Shifts.{IsStart, IsWorked}
use Rattle.cod_run.specs.declared.job.Job.{Job}
use Rattle.cod_run.proofs.Finishing.{is_end}

pub worked_as : (x : Script) (k : Common) (rest : RestState) (passes got : List PassState) → got ≡ passes → IsWorked x k rest passes → IsWorked x k rest got
worked_as x k rest passes got same w = subst (λ (l : List PassState). IsWorked x k rest l) (sym same) w

-- what a run is set up with is its start
pub start_of : (x : Script) (k : Common) (rest : RestState) (passes first : List PassState) (jobs all : List (List Job)) (callers : ℕ) → callers ≡ length x.clients + x.workers
    → IsScenario x → IsOpened x callers k rest passes → AreJobs x (length x.clients + x.workers) all → first ≡ passes → jobs ≡ all → IsStart x k rest first jobs
start_of x k rest passes first jobs all callers count scenario opened due passes_are jobs_are =
    subst (λ (l : List PassState). IsStart x k rest l jobs) (sym passes_are) (
    subst (λ (l : List (List Job)). IsStart x k rest passes l) (sym jobs_are) (record {
      scenario = scenario;
      opened = subst (λ (n : ℕ). IsOpened x n k rest passes) count opened;
      due = due;
    })
    )

-- where all callers' work is done, the cluster can be closed
pub are_whole : (x : Script) (k : Common) (rest : RestState) (passes : List PassState) → IsWorked x k rest passes → IsWhole x k rest passes
are_whole x k rest passes w = record {
  common = w.common;
  first = subst (λ (n : ℕ). IsRestOf x k n rest) (sym w.count) w.first;
  each = λ i p at. (w.each i p at).0;
}

-- and what it leaves is the end of a run
pub are_ended : (x : Script) (k : Common) (rest : RestState) (passes : List PassState) (segs : List Seg) (kills : List (Option Kill)) (pools : Store) → IsWorked x k rest passes
    → IsClosedOf x k passes segs kills pools → All (λ (s : Seg). clock_of s.log < last_stamp) segs → AllFit (λ (s : Seg). s.log) segs
    → IsEnd k.regions x (record { segs = segs; kills = kills })
are_ended x k rest passes segs kills pools w closed small fit =
    is_end x k passes segs kills pools w.scenario w.count (λ i p at. (w.each i p at).1) closed small fit

-- the same, of a view of its segments
pub ended_of : (x : Script) (k : Common) (rest : RestState) (passes : List PassState) (segs seen : List Seg) (kills : List (Option Kill)) (pools : Store) → seen ≡ segs
    → IsWorked x k rest passes → IsClosedOf x k passes segs kills pools → All (λ (s : Seg). clock_of s.log < last_stamp) seen → AllFit (λ (s : Seg). s.log) seen
    → IsEnd k.regions x (record { segs = segs; kills = kills })
ended_of x k rest passes segs seen kills pools same w closed small fit =
    are_ended x k rest passes segs kills pools w closed (subst (λ (l : List Seg). All (λ (s : Seg). clock_of s.log < last_stamp) l) same small)
    (subst (λ (l : List Seg). AllFit (λ (s : Seg). s.log) l) same fit)

-- an end over a shelf is one over the same shelf
pub end_over : {S : Type 0} (regions : S → AllRegions) (x : Script) (e : End) (a b : S) → a ≡ b → IsEnd (regions a) x e → IsEnd (regions b) x e
end_over regions x e a b same is = subst (λ s. IsEnd (regions s) x e) same is
