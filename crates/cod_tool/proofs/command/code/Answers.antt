use Rattle.std.proofs.Common.{inl, inr, sym, ◌∙◌, arith}
use Rattle.cod_tool.proofs.Words.{no_columns, no_data, is_code, is_no_code}
use Rattle.cod_tool.proofs.command.code.Goals.{else-k-ge1-via-then-k-ge1+then-k-n+else-n-le16, else-k-ge1-via-then-k-ge1+else-k-n, else-k-ge1-via-else-k-ge1}
use Rattle.cod_tool.proofs.command.code.Goals as goal

pub returns-in_err-n : goal.returns-in_err-n
returns-in_err-n c = c.from_residual.ensures ∙ no_columns _ _ (sym c.word_number.ensures ∙ c.in_err-n.was)

pub returns-in_err-k : goal.returns-in_err-k
returns-in_err-k c = c.from_residual-in_err-k.ensures ∙ no_data _ _ (sym c.word_number-2.ensures ∙ c.in_err-k.was)

pub returns-then-n-le16 : goal.returns-then-n-le16
returns-then-n-le16 c =
    is_code _ _ c.in_ok-n.n c.in_ok-k.k (sym c.word_number.ensures ∙ c.in_ok-n.was) (sym c.word_number-2.ensures
    ∙ c.in_ok-k.was) (omega (arith, c.if-k-ge1.true)) (omega (arith, c.if-k-n.true)) (omega (arith, c.if-n-le16.true))

pub returns-else-k-ge1 : goal.returns-else-k-ge1
returns-else-k-ge1 c =
    let first = sym c.word_number.ensures ∙ c.in_ok-n.was in
    let second = sym c.word_number-2.ensures ∙ c.in_ok-k.was in
    elim c.else-k-ge1.branch [
      | else-k-ge1-via-then-k-ge1+then-k-n+else-n-le16 w ↦ is_no_code _ _ c.in_ok-n.n c.in_ok-k.k first second (inr (inr (omega (arith, w.if-n-le16.false))))
      | else-k-ge1-via-then-k-ge1+else-k-n w ↦ is_no_code _ _ c.in_ok-n.n c.in_ok-k.k first second (inr (inl (omega (arith, w.if-k-n.false))))
      | else-k-ge1-via-else-k-ge1 w ↦ is_no_code _ _ c.in_ok-n.n c.in_ok-k.k first second (inl (omega (arith, w.if-k-ge1.false)))
    ]
