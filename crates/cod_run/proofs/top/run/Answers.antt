-- What was done before the flush, said of the state behind it.
use Rattle.std.proofs.Common.{sym, ◌∙◌, inl, inr, arith}
use Rattle.cod_shell.proofs.Taken.{front_later, line_later, whole_is_front}
use Rattle.cod_shell.proofs.TextRead.{refusal_as, scenario_as}
use Rattle.cod_run.proofs.Texts.{serves_as}
use Rattle.cod_run.proofs.top.run.Goals as goal

pub returns-clause-refused : goal.returns-clause-refused
returns-clause-refused g c three =
    let status = sym (c.finish.ensures.kept (λ five. omega (arith, three, five))) ∙ three in
    refusal_as _ _ _ _ (λ text line. line_later _ _ _ _ _ _ text c.finish.ensures.same c.finish.ensures.later line) (c.perform-status.ensures.refused status)

pub returns-clause-front : goal.returns-clause-front
returns-clause-front g c other is five = elim (c.finish.ensures.failed five) [
  | inl status ↦
      scenario_as _ _ _ _ (λ x. serves_as _ other x _ _ (λ text front. front_later _ _ _ text c.finish.ensures.same front)) (c.perform-status.ensures.front other is status)
  | inr done ↦
      scenario_as _ _ _ _ (λ x. serves_as _ other x _ _ (λ text all. front_later _ _ _ text c.finish.ensures.same (whole_is_front _ _ text all)))
      (c.perform-status.ensures.done other is done.0)
]
