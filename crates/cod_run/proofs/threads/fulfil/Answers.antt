use Rattle.cod_run.proofs.Shifting.{all_can, all_worked}
use Rattle.cod_run.proofs.threads.fulfil.Goals as goal

pub work_all-requires-clause-can : goal.work_all-requires-clause-can
work_all-requires-clause-can g c κs within = all_can (λ s. s.pass) (λ s. s.jobs) c.requires.start.0 _ _ c.args.shifts.now c.requires.start.2

pub returns-clause-worked : goal.returns-clause-worked
returns-clause-worked g c = λ x rest is. all_worked (λ s. s.pass) (λ s. s.jobs) x _ _ c.args.shifts.now c.work_all.new.shifts is c.work_all.auto.shifts c.work_all.ensures
