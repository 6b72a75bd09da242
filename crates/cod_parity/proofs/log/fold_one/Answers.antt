use Rattle.std.proofs.Common.{◌≡◌, ◌+◌, ◌∙◌, true, false, take, get_or, refl, arith}
use Rattle.std.proofs.lemmas.List.{take_rest}
use Rattle.cod_parity.proofs.Records.{found_begins, kept_none, kept_one, sum_in, sum_past, text_at}
use Rattle.cod_parity.proofs.log.fold_one.Goals as goal

pub add_record-requires-clause-begins : goal.add_record-requires-clause-begins
add_record-requires-clause-begins c = rw (take_rest c.args.log.now c.args.at) (found_begins c.args.found c.args.len _ c.requires.found)

pub returns-then-is_included-clause-kept : goal.returns-then-is_included-clause-kept
returns-then-is_included-clause-kept c = λ l rest same long here.
    kept_none c.args.cuts.now _ l c.args.found same (c.if-is_included.ensures.0 refl)

pub returns-then-is_included-clause-sum : goal.returns-then-is_included-clause-sum
returns-then-is_included-clause-sum c = λ l rest same is here x small.
    let place : 0 + x ≡ x = omega arith in
    sum_in c.args.cuts.now l c.args.found x (0 + x) (get_or c.args.base.now x 0) (get_or c.add_record.new.window x 0) same (c.if-is_included.ensures.0 refl) place
    (c.add_record.ensures l rest is (take_rest c.args.log.now c.args.at ∙ here) x small)

pub returns-clause-kept : goal.returns-clause-kept
returns-clause-kept c = λ l rest same long here.
    c.move_down.ensures.front
    ∙ kept_one c.args.cuts.now (take c.args.to c.args.log.now) l c.args.found _ same (λ w. let e : false ≡ true = c.if-is_included.ensures.1 w in let wrong : ⊥ = cc in wrong)
    (text_at c.args.log.now rest l c.args.at c.args.len long here).0

pub returns-clause-sum : goal.returns-clause-sum
returns-clause-sum c = λ l rest same is here x small.
    sum_past c.args.cuts.now l c.args.found x (get_or c.args.base.now x 0) same (λ w. let e : false ≡ true = c.if-is_included.ensures.1 w in let wrong : ⊥ = cc in wrong)
