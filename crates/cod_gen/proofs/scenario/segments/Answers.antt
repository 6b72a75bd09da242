use Rattle.std.proofs.Common.{List, ℕ, [], ◌∷◌, ◌++◌, sym, ap, ◌∙◌, arith}
use Rattle.cod_script.specs.Script.{Body}
use Rattle.cod_gen.specs.Generated.{name_of}
use Rattle.cod_gen.proofs.Clients.{segments_next, segments_end}
use Rattle.cod_gen.proofs.Naming.{segment_name}
use Rattle.cod_gen.proofs.scenario.segments.Goals as goal

abbrev named : List (List ℕ) → Body
named segments = record { segments = segments; clients = []; schedule = []; workers = 0; rounds = 0 }

pub name-requires : goal.name-requires
name-requires c = let lt = c.loop-seg-test.true in segment_name c.loop-seg.seg (omega (arith, lt))

pub loop-seg-preserved : goal.loop-seg-preserved
loop-seg-preserved c =
    let n = c.loop-seg.seg in
    let one = c.in_ok-push_segment.ensures in
    let name = c.in_ok-name.ensures in
    record {
      added =
          one ∙ ap (λ (k : List ℕ). let b : Body = record c.loop-seg.body { segments = c.loop-seg.body.segments ++ k ∷ [] } in b) name
          ∙ ap (λ (k : Body). let b : Body = record k { segments = k.segments ++ name_of 115 n ∷ [] } in b) c.loop-seg.invariant.added ∙ ap named (sym (segments_next n));
    }

pub returns : goal.returns
returns c =
    let test = c.loop-seg-test.false in
    let end = c.loop-seg.auto.seg-end in
    c.loop-seg.invariant.added ∙ ap named (segments_end c.loop-seg.seg (omega (arith, test, end)))
