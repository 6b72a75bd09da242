use Rattle.std.proofs.Common.{◌≡◌, ℕ, length, ap, ◌∙◌, arith}
use Rattle.cod_script.specs.Script.{asks}
use Rattle.cod_script.specs.Owed.{owed}
use Rattle.cod_tool.proofs.Sums.{sums_more, sums_within}
use Rattle.cod_tool.proofs.checking.all_calls.Goals as goal

pub overflow_add-count : goal.overflow_add-count
overflow_add-count c =
    let x = c.args.names.now in
    let f : ℕ → ℕ = λ who. length (owed x who) in
    let here : c.calls-count.result ≡ f c.loop-client.client = c.calls-count.ensures ∙ ap (λ l. length (asks l)) c.lines.ensures in
    omega (arith, here, sums_within f (length x.clients) c.loop-client.client (omega arith), c.loop-client.invariant, c.requires)

pub loop-client-preserved : goal.loop-client-preserved
loop-client-preserved c =
    let x = c.args.names.now in
    let f : ℕ → ℕ = λ who. length (owed x who) in
    let here : c.calls-count.result ≡ f c.loop-client.client = c.calls-count.ensures ∙ ap (λ l. length (asks l)) c.lines.ensures in
    omega (arith, here, sums_more f c.loop-client.client, c.loop-client.invariant)
