use Rattle.std.proofs.Common.{◌∙◌, List, ℕ, length, ap, subst}
use Rattle.cod_layout.specs.declared.parts.Part.{Part}
use Rattle.cod_claims.specs.Slips.{Paper, with_bytes}
use Rattle.cod_repair.proofs.Valuing.{given_whole}
use Rattle.cod_reading.specs.Reads.{Brings}
use Rattle.cod_reading.proofs.Filling.{put_back}
use Rattle.cod_reading.proofs.beginning.read_delta.Goals as goal

pub returns-clause-slip : goal.returns-clause-slip
returns-clause-slip g c =
    let into = c.read_part-is_read.new.into in
    let i = c.args.i in
    let whole = given_whole c.take_bytes-bytes.result.len into c.take_bytes-bytes.result.items (c.read_part-is_read.auto.into ∙ c.deref_mut.ensures.len) in (
      into,
      c.read_part-is_read.auto.into ∙ ap length (c.deref_mut.ensures.value ∙ c.take_bytes-bytes.ensures.bytes) ∙ c.requires.sized,
      c.put_bytes.ensures ∙ ap (λ (l : List ℕ). with_bytes i l c.take_bytes-bytes.new.self) whole
          ∙ ap (λ (q : Paper). with_bytes i into q) c.take_bytes-bytes.ensures.rest ∙ put_back i into c.args.slip.now c.requires.there,
      λ is. subst (λ (x : Part). Brings c.args.segment.now x.block x.off into) c.part-part.ensures (c.read_part-is_read.ensures.brought is).2,
    )
