use Rattle.std.proofs.Common.{take, drop, arith, ◌+◌}
use Rattle.std.proofs.lemmas.Result.{err_from_is_err_and}
use Rattle.std.specs.List.{flat_map}
use Rattle.cod_script.specs.Text.{client_text}
use Rattle.cod_print.proofs.Fronts.{took_front, flat_map_split}
use Rattle.cod_script.proofs.writing.clients.Goals as goal

pub returns-in_err-client-clause-text : goal.returns-in_err-client-clause-text
returns-in_err-client-clause-text g c =
    let p = err_from_is_err_and c.from_residual.result c.from_residual.ensures.1 in
    let h = c.in_err-client.ensures.text in
    let xs = c.args.clients.now in
    let i = c.loop-c.c-index in
    rw (p.1) (took_front _ _ _ (flat_map (client_text c.args.segments.now) xs) (flat_map (client_text c.args.segments.now) (take i xs)) _ (flat_map (client_text c.args.segments.now) (drop
    (i + 1) xs)) c.loop-c.invariant.taken h (rw (← c.c-item.is) at (flat_map_split (client_text c.args.segments.now) xs i c.c-item.result (omega arith))))
