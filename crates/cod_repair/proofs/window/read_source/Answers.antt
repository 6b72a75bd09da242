use Rattle.std.proofs.Common.{◌≡◌, ◌∙◌, ◌+◌, ◌-◌, ℕ, length, arith}
use Rattle.std.proofs.lemmas.List.{length-take, length-drop}
use Rattle.cod_types.specs.Overwritten.{byte_of}
use Rattle.cod_claims.specs.Claimed.{claim_at, kept_of}
use Rattle.cod_data.specs.Values.{placed}
use Rattle.cod_repair.specs.Pieces.{kept_byte}
use Rattle.cod_repair.proofs.Valuing.{kept_same, value_same}
use Rattle.cod_repair.proofs.Windows.{window_read}
use Rattle.cod_repair.proofs.window.read_source.Goals as goal

pub returns-in-Ok-clause-value : goal.returns-in-Ok-clause-value
returns-in-Ok-clause-value g c = λ v h x lt.
    let part = c.read_at_cut.new.into in
    let len : c.args.at + c.args.len - c.args.at ≡ c.args.len = omega arith in
    let size : length part ≡ c.args.len = omega (arith, c.read_at_cut.auto.into, c.requires.room, length-take {A = ℕ}, length-drop {A = ℕ}) in
    let kept = kept_same c.kept.result (kept_of (claim_at c.args.claims.now c.args.col)) c.kept.ensures.kept in
    let told = value_same c.args.column.now c.args.cuts.now (kept_byte c.args.claims.now c.args.col) (byte_of (placed c.kept.result)) v h kept in
    rw len (window_read c.args.windows.now part c.args.at c.args.len c.requires.room size x lt)
    ∙ c.in-Ok.ensures.value v told x (omega (arith, lt, c.requires.room, length-take {A = ℕ}, length-drop {A = ℕ}))
