use Rattle.std.proofs.Common.{◌+◌, ap, arith}
use Rattle.cod_scenario.specs.Lines.{body_of}
use Rattle.cod_scenario.specs.Reading.{AreBefore}
use Rattle.cod_scenario.proofs.Accepting.{words_accept}
use Rattle.cod_scenario.proofs.reader.Reader.line.Goals as goal

pub carried-requires : goal.carried-requires
carried-requires c =
    let v = ap (λ h. h.said) c.self.view_is in
    let n = ap (λ h. h.lines) c.self.view_is in
    let smaller : AreBefore (c.args.self.now.lines + 1) (body_of c.args.self.now.said).clients = rw (v, n) at c.self.invariant.numbers in
    (words_accept c.args.self.now.said (c.args.self.now.lines + 1) _ _ c.in_ok-said.said (omega arith) smaller c.in_ok-said.ensures).accepts

pub keep-requires-clause-accepts : goal.keep-requires-clause-accepts
keep-requires-clause-accepts c =
    let v = ap (λ h. h.said) c.self.view_is in
    let n = ap (λ h. h.lines) c.self.view_is in
    let smaller : AreBefore (c.args.self.now.lines + 1) (body_of c.args.self.now.said).clients = rw (v, n) at c.self.invariant.numbers in
    (words_accept c.args.self.now.said (c.args.self.now.lines + 1) _ _ c.in_ok-said.said (omega arith) smaller c.in_ok-said.ensures).accepts

pub keep-requires-clause-number : goal.keep-requires-clause-number
keep-requires-clause-number c =
    let v = ap (λ h. h.said) c.self.view_is in
    let n = ap (λ h. h.lines) c.self.view_is in
    let smaller : AreBefore (c.args.self.now.lines + 1) (body_of c.args.self.now.said).clients = rw (v, n) at c.self.invariant.numbers in
    (words_accept c.args.self.now.said (c.args.self.now.lines + 1) _ _ c.in_ok-said.said (omega arith) smaller c.in_ok-said.ensures).numbered
