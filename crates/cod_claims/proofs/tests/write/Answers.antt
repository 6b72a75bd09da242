use Rattle.std.proofs.Common.{◌≡◌, ℕ, ◌+◌, ◌*◌, ◌≤◌, false, arith, IsSome, List, length, refl}
use Rattle.cod_types.specs.Limits.{Shape}
use Rattle.cod_types.specs.declared.call.Call.TheVariants.{Write}
use Rattle.cod_layout.specs.Parts.{parts_of}
use Rattle.cod_claims.specs.Slips.{AreWhole, Paper, changes_of, prepared}
use Rattle.cod_claims.proofs.Preparing.{write_prepared, blank_whole}
use Rattle.cod_claims.proofs.tests.write.Goals as goal

record IsReady (s : Paper) : Type 0 where
  call : IsSome s.call
  changes : IsSome s.changes
  early : s.are_made ≡ false
  whole : AreWhole (changes_of s)

prepared_ready : (g : Shape) (off : ℕ) (bytes : List ℕ) → off + length bytes ≤ g.k * g.block → length bytes ≤ g.update → IsReady (prepared g (Write off bytes))
prepared_ready g off bytes range update =
    let is = write_prepared g off bytes range update in
    record { call = refl; changes = rw is refl; early = refl; whole = rw is (blank_whole (Write off bytes) g.block off (parts_of g.k g.block off (length bytes))) }

pub returns : goal.returns
returns c =
    let range : c.args.off + length c.args.bytes.now ≤ c.args.g.now.k * c.args.g.now.block = omega (arith, c.if-bytes-end.false, c.bytes.ensures.value) in
    let update : length c.args.bytes.now ≤ c.args.g.now.update = omega (arith, c.if-update-bytes.false, c.update.ensures) in
    let ready : IsReady c.in_ok-prepare.field-0 = rw (c.in_ok-prepare.ensures, c.in_ok-copy.ensures) (prepared_ready c.args.g.now c.args.off c.args.bytes.now range update) in
    record { call = ready.call; changes = ready.changes; early = ready.early; whole = ready.whole }
