use Rattle.cod_run.proofs.Working.{all_done_at, next_done, next_ready, nothing_done}
use Rattle.cod_run.proofs.threads.work.Goals as goal

pub jobs-init : goal.jobs-init
jobs-init g c = λ x w. nothing_done x _ _ _ w

pub work_one-requires : goal.work_one-requires
work_one-requires g c = (c.requires.0, next_ready c.requires.0 _ _ _ _ _ _ _ c.in-Some.ensures.some c.requires.1 (c.jobs.invariant c.requires.0 c.requires.1))

pub jobs-preserved : goal.jobs-preserved
jobs-preserved g c = λ x w. next_done x _ _ _ _ _ _ _ _ c.in-Some.ensures.some w (c.jobs.invariant x w) (λ v. c.work_one.ensures x v)

pub returns : goal.returns
returns g c = λ x w. all_done_at x _ _ _ _ _ c.in_default.ensures.none.0 w (c.jobs.invariant x w)
