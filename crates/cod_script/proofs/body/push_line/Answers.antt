use Rattle.std.proofs.Common.{◌≡◌, ◌+◌, ◌-◌, length, arith, sym, ◌∙◌, ap, set}
use Rattle.std.proofs.lemmas.Grind.{common_steps}
use Rattle.cod_script.proofs.Lines_added.{onto_last_is}
use Rattle.cod_script.proofs.body.push_line.Goals as goal

pub returns : goal.returns
returns c =
    let some : length c.args.clients.now - 1 + 1 ≡ length c.args.clients.now = grind (arith, common_steps) in
    let e = onto_last_is c.args.clients.now c.args.line (length c.args.clients.now - 1) c.index-clients-last.result some in
    ap (set c.args.clients.now (length c.args.clients.now - 1)) c.in_ok-push.ensures ∙ sym e
