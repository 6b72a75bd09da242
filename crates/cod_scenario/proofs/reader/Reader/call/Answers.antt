use Rattle.std.proofs.Common.{◌≡◌, ◌+◌, true, ap, sym, subst, ◌∙◌, arith}
use Rattle.cod_scenario.specs.declared.said.Header.{Header}
use Rattle.cod_scenario.specs.Judge.{has_call}
use Rattle.cod_scenario.specs.Lines.{header_of, body_of}
use Rattle.cod_scenario.specs.Reading.{AreBefore}
use Rattle.cod_scenario.proofs.Calling.{call_accepts}
use Rattle.cod_scenario.proofs.reader.Reader.call.Goals as goal

pub carried-requires : goal.carried-requires
carried-requires c =
    let v = ap (λ h. h.said) c.self.view_is in
    let smaller : AreBefore (c.self.inside.lines + 1) (body_of c.args.self.now.said).clients = rw v at c.self.invariant.numbers in
    let h : c.self.inside.header ≡ header_of c.args.self.now.said = c.self.invariant.header_is ∙ ap header_of v in
    let has : has_call (header_of c.args.self.now.said).version c.args.call ≡ true =
    subst (λ (x : Header). has_call x.version c.args.call ≡ true) h (sym c.has_call.ensures ∙ c.if-not-has_call.false) in
    call_accepts c.args.self.now.said (c.self.inside.lines + 1) c.args.seg c.args.call (omega arith) smaller c.requires.among c.requires.there c.look_at.ensures has
