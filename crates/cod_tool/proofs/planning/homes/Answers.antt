use Rattle.std.proofs.Common.{◌≡◌, ℕ, ◌+◌, ◌-◌, List, ◌∷◌, decimal, ap, ◌∙◌, arith, subst}
use Rattle.std.specs.List.{flat_map, range_with_len}
use Rattle.std.specs.Io.KnownBytes.{append_known}
use Rattle.std.proofs.lemmas.Result.{err_from_is_err_and}
use Rattle.cod_types.specs.Columns.{home_of}
use Rattle.cod_types.specs.Limits.{Shape}
use Rattle.cod_print.specs.Puts.{TakesFront}
use Rattle.cod_print.proofs.Fronts.{took_front, took_more}
use Rattle.cod_shell.proofs.Texts.{texts_split, texts_more}
use Rattle.cod_tool.proofs.planning.homes.Goals as goal

pub returns-in_err-numbered-clause-text : goal.returns-in_err-numbered-clause-text
returns-in_err-numbered-clause-text g c =
    let p = err_from_is_err_and c.from_residual.result c.from_residual.ensures.1 in
    let x = c.args.names.now in
    let i = c.loop-col.col in
    let n = x.shape.n in
    let f : ℕ → List ℕ = λ j. 32 ∷ decimal (home_of c.args.seg j x.nodes) in
    let node : c.home-node.result.0 ≡ home_of c.args.seg i x.nodes = c.home-node.ensures.value ∙ ap (home_of c.args.seg i) c.nodes.ensures in
    let text = subst (λ (k : ℕ). TakesFront (g.W.Sink.taken c.loop-col.sink) (g.W.Sink.taken c.numbered.new.sink) (32 ∷ decimal k)) node c.in_err-numbered.ensures.text in
    rw p.1 (took_front _ _ _ (flat_map f (range_with_len 0 n)) (flat_map f (range_with_len 0 i)) _ (flat_map f (range_with_len (i + 1) (n - (i + 1)))) c.loop-col.invariant.taken text
    (texts_split f n i (omega (arith, c.n-col-end.ensures, ap (λ (s : Shape). s.n) c.geometry.ensures))))

pub loop-col-preserved : goal.loop-col-preserved
loop-col-preserved g c =
    let x = c.args.names.now in
    let i = c.loop-col.col in
    let f : ℕ → List ℕ = λ j. 32 ∷ decimal (home_of c.args.seg j x.nodes) in
    let node : c.home-node.result.0 ≡ home_of c.args.seg i x.nodes = c.home-node.ensures.value ∙ ap (home_of c.args.seg i) c.nodes.ensures in
    record {
      taken = rw (texts_more f i) (took_more _ _ _ _ _ c.loop-col.invariant.taken (c.in_ok-numbered.ensures.text
          ∙ ap (λ (k : ℕ). append_known (g.W.Sink.taken c.loop-col.sink) (32 ∷ decimal k)) node));
      same = c.in_ok-numbered.ensures.cause.kept ∙ c.loop-col.invariant.same;
    }
