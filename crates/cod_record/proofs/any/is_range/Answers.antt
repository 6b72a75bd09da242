use Rattle.std.proofs.Common.{◌≡◌, ◌∙◌, ◌+◌, ℕ, List, ◌∷◌, length, drop, take, nat_eq, true, ap, arith}
use Rattle.std.proofs.lemmas.Bool.Decides.{nat_tests}
use Rattle.std.proofs.lemmas.List.{take_all}
use Rattle.cod_record.specs.Record.{range, Range}
use Rattle.cod_record.specs.Sparse.{ranges_of}
use Rattle.cod_record.proofs.Reading_back.{at_front, is_one, same_end}
use Rattle.cod_record.proofs.any.is_range.Goals as goal

equal : (a b : ℕ) → nat_eq a b ≡ true → a ≡ b
equal a b test = grind (arith, nat_tests)

tested : (a b : ℕ) → a ≡ b → nat_eq a b ≡ true
tested a b same = grind (arith, nat_tests)

pub returns : goal.returns
returns c = λ off fits.
    let bytes = c.args.bytes.now in
    let e = c.range_end.result in
    let gs : List Range = ranges_of (off + e) (drop e bytes) in
    let first : ranges_of off bytes ≡ range off (take e bytes) ∷ gs = at_front off e bytes gs (c.range_end.ensures.first off) in (
      λ test.
          let all : take e bytes ≡ bytes = ap (λ n. take n bytes) (equal e (length bytes) test) ∙ take_all (length bytes) bytes (omega arith) in
          is_one off bytes gs fits (first ∙ ap (λ (l : List ℕ). range off l ∷ gs) all),
      λ is. tested e (length bytes) (same_end off e bytes gs c.range_end.ensures.high is first),
    )
