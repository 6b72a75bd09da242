use Rattle.std.proofs.Common.{◌<◌, ap, ◌∙◌, arith, refl, cond, ◌≡◌, ℕ, nat_lt}
use Rattle.std.proofs.lemmas.Bool.{lt-ltb}
use Rattle.std.proofs.lemmas.List.FromFn.{get_or-map-range_with_len}
use Rattle.cod_code.specs.Columns.{gamma, row_at}
use Rattle.cod_code.specs.declared.Code.{Code}
use Rattle.cod_types.specs.Limits.{Shape}
use Rattle.cod_repair.proofs.bench.Bench.coefficient.Goals as goal

pub returns : goal.returns
unfolding row_at
returns c =
    let shape = c.args.self.now in
    let data_is : c.code.result.k ≡ shape.k = ap (λ (r : Code). r.k) c.code.ensures ∙ c.self.invariant.least ∙ ap (λ (s : Shape). s.k) c.self.view_is in
    let within = c.self.invariant.within in
    let p : c.row.result ≡ row_at shape.k c.args.col = c.row.ensures.places ∙ ap (λ (k : ℕ). row_at k c.args.col) data_is in
    let lt : c.args.block < shape.k = c.requires.block in
    rw p (get_or-map-range_with_len (λ (j : ℕ). cond (nat_lt j shape.k) (gamma shape.k c.args.col j) 0) 0 16 c.args.block c.args.block 0
    (let a = ap (λ (s : Shape). s.k) c.self.view_is in let b = within.data_among_columns in let d = within.most_columns in omega (arith, a, b, d, lt)) (omega arith) ∙ rw (lt-ltb c.args.block shape.k lt) refl)
