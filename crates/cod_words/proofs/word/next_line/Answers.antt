use Rattle.std.proofs.Common.{◌∙◌, ◌+◌, ◌≤◌, length, arith, nat_eq, sym, ap, ◌∷◌}
use Rattle.std.specs.Prelude.{take, slice_index}
use Rattle.std.proofs.lemmas.Bool.{false_from_ne_true}
use Rattle.std.proofs.lemmas.List.{take_rest}
use Rattle.cod_words.specs.Words.{lines_of}
use Rattle.cod_words.proofs.FirstLines.{no_end, first_end}
use Rattle.cod_words.proofs.word.next_line.Goals as goal

-- src/word.rt:64:1
pub returns-in-Some-clause-lines : goal.returns-in-Some-clause-lines
returns-in-Some-clause-lines c =
    let found = c.in-Some.ensures in
    first_end c.args.text.now c.in-Some.end found.0.high found.1 (λ i low. false_from_ne_true (nat_eq (slice_index c.args.text.now i) 10) (found.0.before i (omega arith) low))
    ∙ ap (λ l. take c.in-Some.end c.args.text.now ∷ lines_of l) (sym (take_rest c.args.text.now (c.in-Some.end + 1)))

-- src/word.rt:64:1
pub returns-in-None-clause-lines : goal.returns-in-None-clause-lines
returns-in-None-clause-lines c =
    let none = c.in-None.ensures in
    let some : 1 ≤ length c.args.text.now = (let e = c.if-is_empty.ensures in grind (arith, e)) in
    no_end c.args.text.now some (λ i low. false_from_ne_true (nat_eq (slice_index c.args.text.now i) 10) (none i (omega arith) low))
