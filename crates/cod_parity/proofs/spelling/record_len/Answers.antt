use Rattle.std.proofs.Common.{◌≡◌, ◌≢◌, ◌∙◌, sym, inl, inr, arith}
use Rattle.cod_parity.proofs.Spelled.{nothing_length, scaled_length}
use Rattle.cod_parity.proofs.spelling.record_len.Goals as goal

pub returns-then-coef-eq0 : goal.returns-then-coef-eq0
returns-then-coef-eq0 c = λ h. sym (nothing_length c.args.version c.args.coef h c.args.delta.now c.if-version-eq2.true c.if-coef-eq0.true)

pub returns : goal.returns
returns c = λ h.
    let some : c.args.version ≡ 2 → c.args.coef ≢ 0 = λ second. elim c.else-version-eq2.either [ inl both ↦ both.1 | inr other ↦ absurd (other second) ] in
    c.text_len.ensures h ∙ sym (scaled_length c.args.version c.args.coef h c.args.delta.now some (omega (arith, c.ranges.coef)) (λ i. omega (arith, c.type_inv.delta i)))
