use Rattle.std.proofs.Common.{◌≡◌, ℕ, ap, ◌∙◌, arith, List, length, get_or, ◌<◌, nat_lt, if◌then◌else◌}
use Rattle.std.proofs.lemmas.List.FromFn.{fill_by_all}
use Rattle.cod_code.specs.Columns.{row_at, gamma, combination}
use Rattle.cod_code.proofs.CodewordLaws.{row_sums}
use Rattle.cod_code.proofs.Code.row.Goals as goal

row_is : (k i : ℕ) (row : List ℕ) → length row ≡ 16 → ((m : ℕ) → m < 16 → get_or row m 0 ≡ (if nat_lt m k then gamma k i m else 0)) → row ≡ row_at k i
unfolding row_at
row_is k i row size at = fill_by_all (λ m. if nat_lt m k then gamma k i m else 0) row 16 0 size (λ m h. at m (omega arith))

pub returns : goal.returns
returns c =
    let all : c.loop-j.j ≡ c.args.self.now.k = omega arith in
    let e : c.loop-j.row ≡ row_at c.args.self.now.k c.args.i =
    row_is c.args.self.now.k c.args.i c.loop-j.row c.loop-j.invariant.size
    (λ m h. c.loop-j.invariant.filled m h ∙ ap (λ j. if nat_lt m j then gamma c.args.self.now.k c.args.i m else 0) all) in
    record {
      places = e;
      sums = λ v w.
          ap (λ r. combination r v) e
          ∙ row_sums c.args.self.now.n c.args.self.now.k c.args.i v c.args.self.now.within_columns c.args.self.now.most w c.requires;
    }
