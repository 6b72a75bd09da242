use Rattle.std.proofs.Common.{◌≡◌, ◌∙◌, ℕ, true, false, sym, arith, inl, inr}
use Rattle.std.proofs.lemmas.Bool.{cases_lt}
use Rattle.std.proofs.lemmas.List.{get_or_read}
use Rattle.cod_code.specs.Columns.{has_column}
use Rattle.cod_seg.specs.Seg.{no_col}
use Rattle.cod_repair.specs.Pieces.{kept_byte}
use Rattle.cod_repair.proofs.Fetching.{none_kept, plain_at}
use Rattle.cod_repair.proofs.lending.are_plain.Goals as goal
use Rattle.cod_repair.proofs.lending.are_plain.Goals.{else-has-via-then-has+else-not-is_plain, else-has-via-else-has}

pub loop-i-preserved : goal.loop-i-preserved
loop-i-preserved g c = λ m lt is.
    let cols = c.args.columns.now in
    let i = c.loop-i.i in
    elim (cases_lt m i) [
      | inl low ↦ c.loop-i.invariant m low is
      | inr high ↦
          let here : i ≡ m = omega (arith, lt, high) in
          elim c.else-has.branch [
            | else-has-via-then-has+else-not-is_plain w ↦
                let e = get_or_read cols i w.index-columns-i.result c.loop-i-test.true w.index-columns-i.is no_col in
                plain_at cols c.args.claims.now i m _ here e (w.is_plain.ensures (kept_byte c.args.claims.now i)
                (λ none. none_kept w.kept.result _ w.is_none.result w.kept.ensures.none w.is_none.ensures none) w.if-not-is_plain.false)
            | else-has-via-else-has w ↦
                let off : has_column c.args.sources i ≡ false = sym c.has.ensures ∙ w.if-has.false in
                absurd (never c.args.sources i m here off is)
          ]
    ]
  where
    never : (sources i m : ℕ) → i ≡ m → has_column sources i ≡ false → has_column sources m ≡ true → ⊥
    never sources i m here off is = let both : false ≡ true = sym off ∙ rw here is in cc
