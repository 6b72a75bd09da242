use Rattle.std.proofs.Common.{ℕ, ◌+◌, ◌-◌, List, [], ◌∷◌, ◌∙◌, ap, arith, subst}
use Rattle.std.specs.List.{flat_map, range_with_len}
use Rattle.std.specs.Io.KnownBytes.{append_known}
use Rattle.std.proofs.lemmas.Result.{err_from_is_err_and}
use Rattle.cod_print.specs.Pieces.{hex_word}
use Rattle.cod_print.specs.Puts.{TakesFront}
use Rattle.cod_print.proofs.Fronts.{took_front, took_more}
use Rattle.cod_tool.specs.Coefficients.{coefficient_word}
use Rattle.cod_tool.proofs.Rows.{coefficient}
use Rattle.cod_shell.proofs.Texts.{texts_split, texts_more}
use Rattle.cod_tool.proofs.coding.coefficients.Goals as goal

pub returns-in_err-coefficient-clause-text : goal.returns-in_err-coefficient-clause-text
returns-in_err-coefficient-clause-text g c =
    let p = err_from_is_err_and c.from_residual.result c.from_residual.ensures.1 in
    let k = c.args.code.now.k in
    let i = c.loop-j.j in
    let f : ℕ → List ℕ = λ j. 32 ∷ coefficient_word k c.args.column j in
    let byte = coefficient k c.args.column i c.row-row.result c.row-row.ensures.places (omega arith) (omega (arith, c.args.code.now.most, c.args.code.now.within_columns)) in
    let text = subst (λ (b : ℕ). TakesFront (g.W.Sink.taken c.loop-j.sink) (g.W.Sink.taken c.coefficient.new.sink) (32 ∷ hex_word (b ∷ []))) byte c.in_err-coefficient.ensures.text in
    rw p.1 (took_front _ _ _ (flat_map f (range_with_len 0 k)) (flat_map f (range_with_len 0 i)) _ (flat_map f (range_with_len (i + 1) (k - (i + 1)))) c.loop-j.invariant.taken text
    (texts_split f k i (omega arith)))

pub loop-j-preserved : goal.loop-j-preserved
loop-j-preserved g c =
    let k = c.args.code.now.k in
    let i = c.loop-j.j in
    let f : ℕ → List ℕ = λ j. 32 ∷ coefficient_word k c.args.column j in
    let byte = coefficient k c.args.column i c.row-row.result c.row-row.ensures.places (omega arith) (omega (arith, c.args.code.now.most, c.args.code.now.within_columns)) in
    record {
      taken = rw (texts_more f i) (took_more _ _ _ _ _ c.loop-j.invariant.taken (c.in_ok-coefficient.ensures.text
          ∙ ap (λ (b : ℕ). append_known (g.W.Sink.taken c.loop-j.sink) (32 ∷ hex_word (b ∷ []))) byte));
      same = c.in_ok-coefficient.ensures.cause.kept ∙ c.loop-j.invariant.same;
    }
