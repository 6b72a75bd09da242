use Rattle.std.proofs.Common.{◌≡◌, ℕ, ap, ◌∙◌, arith, List, length, get_or, ◌<◌, true, nat_lt, ◌&&◌, if◌then◌else◌}
use Rattle.std.proofs.lemmas.Bool.Decides.{nat_tests}
use Rattle.std.proofs.lemmas.List.FromFn.{fill_by_all}
use Rattle.cod_code.specs.Columns.{decode_row_at, weight, columns_of, has_column, combination}
use Rattle.cod_code.proofs.Decoding.{row_decodes, row_elsewhere}
use Rattle.cod_code.proofs.Code.decode_row.Goals as goal

below_all : (m : ℕ) → m < 16 → nat_lt m 16 ≡ true
below_all m h = grind (arith, nat_tests)

row_is : (sources wanted : ℕ) (row : List ℕ) → length row ≡ 16
    → ((m : ℕ) → m < 16 → get_or row m 0 ≡ (if nat_lt m 16 && has_column sources m then weight (columns_of sources) m wanted else 0)) → row ≡ decode_row_at sources wanted
unfolding decode_row_at
row_is sources wanted row size at =
    fill_by_all (λ m. if has_column sources m then weight (columns_of sources) m wanted else 0) row 16 0 size
    (λ m h. let lt : m < 16 = omega arith in at m lt ∙ ap (λ t. if t && has_column sources m then weight (columns_of sources) m wanted else 0) (below_all m lt))

pub returns : goal.returns
returns c =
    let all : c.loop-j.j ≡ 16 = omega arith in
    let e : c.loop-j.row ≡ decode_row_at c.args.sources c.args.wanted =
    row_is c.args.sources c.args.wanted c.loop-j.row c.loop-j.invariant.size
    (λ m h. c.loop-j.invariant.filled m h ∙ ap (λ j. if nat_lt m j && has_column c.args.sources m then weight (columns_of c.args.sources) m c.args.wanted else 0) all) in
    record {
      places = e;
      elsewhere = λ m lt none. ap (λ (r : List ℕ). get_or r m 0) e ∙ row_elsewhere c.args.sources c.args.wanted m lt none;
      decodes = λ v w.
          ap (λ r. combination r v) e
          ∙ row_decodes c.args.self.now.n c.args.self.now.k c.args.sources c.args.wanted v c.args.self.now.most w c.requires.count c.requires.below c.requires.wanted;
    }
