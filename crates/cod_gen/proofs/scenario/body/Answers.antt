use Rattle.std.proofs.Common.{ap, ◌∙◌, arith}
use Rattle.cod_gen.specs.Drafting.{Draft}
use Rattle.cod_gen.proofs.Clients.{line_bound, clients_begin, clients_go_on, clients_end}
use Rattle.cod_gen.proofs.Naming.{client_name}
use Rattle.cod_gen.proofs.scenario.body.Goals as goal

pub loop-client-init : goal.loop-client-init
loop-client-init c = record { so_far = c.new-draft.ensures ∙ clients_begin c.in_ok-segments.field-0 c.args.number c.in_ok-segments.ensures }

pub name-requires : goal.name-requires
name-requires c = let lt = c.loop-client-test.true in client_name c.loop-client.client (omega (arith, lt))

pub push_client-requires : goal.push_client-requires
push_client-requires c =
    let lt = c.loop-client-test.true in
    let l = ap (λ (d : Draft). d.line) c.loop-client.invariant.so_far in
    let b = line_bound c.args.number c.loop-client.client in
    omega (arith, lt, l, b)

pub rounds-requires : goal.rounds-requires
rounds-requires c =
    let lt = c.loop-client-test.true in
    let l = ap (λ (d : Draft). d.line) c.loop-client.invariant.so_far in
    let b = line_bound c.args.number c.loop-client.client in
    let p = ap (λ (d : Draft). d.line) c.in_ok-push_client.ensures in
    omega (arith, lt, l, b, p)

pub loop-client-preserved : goal.loop-client-preserved
loop-client-preserved c = record {
  so_far =
      clients_go_on c.args.number c.loop-client.client c.loop-client.draft c.push_client.new.self c.rounds.new.self c.in_ok-name.field-0 c.loop-client.invariant.so_far
      c.in_ok-name.ensures c.in_ok-push_client.ensures c.in_ok-rounds.ensures;
}

pub returns : goal.returns
returns c =
    let test = c.loop-client-test.false in
    let end = c.loop-client.auto.client-end in
    c.into_body.ensures ∙ clients_end c.args.number c.loop-client.client c.loop-client.draft (omega (arith, test, end)) c.loop-client.invariant.so_far
