use Rattle.std.proofs.lemmas.Result.{err_from_is_err_and}
use Rattle.cod_print.proofs.Fronts.{took_first, took_behind, puts_behind}
use Rattle.cod_script.proofs.scenario.Scenario.write.Goals as goal

pub returns-in_err-header-clause-text : goal.returns-in_err-header-clause-text
returns-in_err-header-clause-text g c =
    let p = err_from_is_err_and c.from_residual.result c.from_residual.ensures.1 in
    rw (p.1) (took_first _ _ _ _ c.in_err-header.ensures.text)

pub returns-in_err-segments-clause-text : goal.returns-in_err-segments-clause-text
returns-in_err-segments-clause-text g c =
    let p = err_from_is_err_and c.from_residual-in_err-segments.result c.from_residual-in_err-segments.ensures.1 in
    let t = rw (c.segments.ensures, c.body-body.ensures.segments) at c.in_err-segments.ensures.text in
    rw (p.1) (took_behind _ _ _ _ _ c.in_ok-header.ensures.text (took_first _ _ _ _ t))

pub returns-in_err-clients-clause-text : goal.returns-in_err-clients-clause-text
returns-in_err-clients-clause-text g c =
    let p = err_from_is_err_and c.from_residual-in_err-clients.result c.from_residual-in_err-clients.ensures.1 in
    let s = rw (c.segments.ensures, c.body-body.ensures.segments) at c.in_ok-segments.ensures.text in
    let t = rw (c.segments-3.ensures, c.clients.ensures, c.body-body.ensures.segments, c.body-body.ensures.clients) at c.in_err-clients.ensures.text in
    rw (p.1) (took_behind _ _ _ _ _ c.in_ok-header.ensures.text (took_behind _ _ _ _ _ s (took_first _ _ _ _ t)))

pub returns-in_err-care-clause-text : goal.returns-in_err-care-clause-text
returns-in_err-care-clause-text g c =
    let p = err_from_is_err_and c.from_residual-in_err-care.result c.from_residual-in_err-care.ensures.1 in
    let s = rw (c.segments.ensures, c.body-body.ensures.segments) at c.in_ok-segments.ensures.text in
    let u = rw (c.segments-3.ensures, c.clients.ensures, c.body-body.ensures.segments, c.body-body.ensures.clients) at c.in_ok-clients.ensures.text in
    let t = rw (c.care-workers.ensures.0, c.care-workers.ensures.1, c.body-body.ensures.care.0, c.body-body.ensures.care.1) at c.in_err-care.ensures.text in
    rw (p.1) (took_behind _ _ _ _ _ c.in_ok-header.ensures.text (took_behind _ _ _ _ _ s (took_behind _ _ _ _ _ u (took_first _ _ _ _ t))))

pub returns-in_err-schedule-clause-text : goal.returns-in_err-schedule-clause-text
returns-in_err-schedule-clause-text g c =
    let p = err_from_is_err_and c.from_residual-in_err-schedule.result c.from_residual-in_err-schedule.ensures.1 in
    let s = rw (c.segments.ensures, c.body-body.ensures.segments) at c.in_ok-segments.ensures.text in
    let u = rw (c.segments-3.ensures, c.clients.ensures, c.body-body.ensures.segments, c.body-body.ensures.clients) at c.in_ok-clients.ensures.text in
    let v = rw (c.care-workers.ensures.0, c.care-workers.ensures.1, c.body-body.ensures.care.0, c.body-body.ensures.care.1) at c.in_ok-care.ensures.text in
    let t = rw (c.clients-3.ensures, c.schedule.ensures, c.body-body.ensures.clients, c.body-body.ensures.schedule) at c.in_err-schedule.ensures.text in
    rw (p.1) (took_behind _ _ _ _ _ c.in_ok-header.ensures.text (took_behind _ _ _ _ _ s (took_behind _ _ _ _ _ u (took_behind _ _ _ _ _ v (took_first _ _ _ _ t)))))

pub returns-clause-text : goal.returns-clause-text
returns-clause-text g c =
    let s = rw (c.segments.ensures, c.body-body.ensures.segments) at c.in_ok-segments.ensures.text in
    let u = rw (c.segments-3.ensures, c.clients.ensures, c.body-body.ensures.segments, c.body-body.ensures.clients) at c.in_ok-clients.ensures.text in
    let v = rw (c.care-workers.ensures.0, c.care-workers.ensures.1, c.body-body.ensures.care.0, c.body-body.ensures.care.1) at c.in_ok-care.ensures.text in
    let w = rw (c.clients-3.ensures, c.schedule.ensures, c.body-body.ensures.clients, c.body-body.ensures.schedule) at c.in_ok-schedule.ensures.text in
    puts_behind c.text.result _ _ _ _ _ c.in_ok-header.ensures.text (puts_behind c.text.result _ _ _ _ _ s (puts_behind c.text.result _ _ _ _ _ u (puts_behind c.text.result _ _ _ _ _ v
    (puts_behind c.text.result _ _ _ _ _ w c.text.ensures.text))))
