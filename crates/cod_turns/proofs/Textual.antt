-- The runs of a text.
use Rattle.std.proofs.Common.{◌<◌, ◌≤◌, ◌^◌, length, arith}
use Rattle.std.proofs.lemmas.List.Elements.{All-weaker}
use Rattle.cod_chronicle.specs.Order.{stamp_at, placed}
use Rattle.cod_scenario.proofs.TextSound.{text_is_scenario, text_has_few}
use Rattle.cod_turns.specs.Texts.{TextRunsAreHistories, TextRunsAreSmall}
use Rattle.cod_turns.proofs.Counting.{sound_is_small}
use Rattle.cod_turns.proofs.Rounding.{run_leaves_history, run_sound}
use Rattle.cod_turns.proofs.Running.{mul_le}

pub text_runs_are_histories : TextRunsAreHistories
text_runs_are_histories text x v e r = run_leaves_history x v (text_is_scenario text x.script e) r

pub text_runs_are_small : TextRunsAreSmall
text_runs_are_small text x v e r =
    let X = text_is_scenario text x.script e in
    let few = text_has_few text x.script e in
    let s = sound_is_small x v ((run_sound x v X r).0) in
    let n = s.entries in
    let m = mul_le (length x.script.segments) x.script.shape.n 1024 16 X.most_segments X.shape.most_columns in
    All-weaker (λ p. stamp_at p ≤ length (placed v.chronicles)) (λ p. stamp_at p < 2 ^ 26) (λ p l. omega (arith, l, n, few, m)) (placed v.chronicles) s.stamps
