use Rattle.std.proofs.Common.{◌≡◌, ◌∙◌, ◌+◌, ◌-◌, ℕ, suc, ◌∷◌, length, drop, ap, sym, subst, arith}
use Rattle.std.proofs.lemmas.List.{take_rest}
use Rattle.byteorder.specs.Endian.{big_number}
use Rattle.cod_record.specs.Spans.{AreInside, span, spans_read}
use Rattle.cod_record.proofs.spans.SpansIterator.next.Goals as goal

pub invariant_of-self : goal.invariant_of-self
invariant_of-self c =
    let text = c.self.inside.from.now in
    let at = c.self.inside.at in
    let k : ℕ = c.self.inside.left - 1 in
    let left : c.self.inside.left ≡ suc k = omega (arith, c.if-self-eq0.false) in
    let len : c.read_u32-len.result ≡ big_number 4 (drop (at + 4) text) = c.read_u32-len.ensures ∙ ap (big_number 4) (take_rest text (at + 4)) in
    let I : ℕ → Type 0 = λ m. AreInside m at text in
    let P : ℕ → Type 0 = λ m. AreInside k ((at + 8) + m) text in
    subst P (sym len) (subst I left c.self.invariant).2

pub returns-clause-steps : goal.returns-clause-steps
returns-clause-steps c =
    let text = c.self.inside.from.now in
    let at = c.self.inside.at in
    let k : ℕ = c.self.inside.left - 1 in
    let left : c.self.inside.left ≡ suc k = omega (arith, c.if-self-eq0.false) in
    let off : big_number 4 (drop at text) ≡ c.read_u32-off.result = sym (c.read_u32-off.ensures ∙ ap (big_number 4) (take_rest text at)) in
    let len : big_number 4 (drop (at + 4) text) ≡ c.read_u32-len.result = sym (c.read_u32-len.ensures ∙ ap (big_number 4) (take_rest text (at + 4))) in
    sym c.self.view_is ∙ ap (λ m. spans_read m at text) left ∙ (λ i. span (off i) (len i) (at + 8) ∷ spans_read k ((at + 8) + len i) text)

pub returns-clause-goes : goal.returns-clause-goes
returns-clause-goes c =
    let more = ap length (returns-clause-steps c) in
    record { on = λ _. (tt, tt, omega (arith, more)); keeps = tt; rests = λ _. tt }
