use Rattle.std.proofs.Common.{sym, ◌∙◌, ap, set}
use Rattle.cod_script.proofs.Lines_added.{emptied_is}
use Rattle.cod_script.proofs.body.take_lines.Goals as goal

pub returns-clause-rest : goal.returns-clause-rest
returns-clause-rest c =
    ap (set c.args.clients.now c.args.client) c.take_lines.ensures.rest ∙ sym (emptied_is c.args.clients.now c.args.client c.index-clients-client.result c.requires)
