use Rattle.std.proofs.Common.{◌≤◌, ◌∙◌, length, take, drop, get_or, refl, sym, ap, arith}
use Rattle.std.proofs.lemmas.List.{append-nil, take_rest, length-drop}
use Rattle.std.specs.Int.Bits.{xor_zero_r}
use Rattle.cod_record.specs.Reading.{found_of}
use Rattle.cod_parity.specs.Log.{no_lowest, text}
use Rattle.cod_parity.proofs.Scan.{scan_next, scan_done, low_next, kept_next, sum_next}
use Rattle.cod_parity.proofs.log.fold.Goals as goal

pub records-init : goal.records-init
unfolding no_lowest
records-init c = record {
  behind = omega arith;
  long = refl;
  wide = refl;
  within = omega arith;
  due = λ due. due;
  lowest = λ g records few each is. record { left = records; each = each; ahead = is; holds = refl };
  kept = λ g records few each is. record { left = records; each = each; ahead = is; holds = refl };
  sum = λ g records few each is. record { left = records; each = each; ahead = is; holds = λ x small. refl };
}

pub fold_one-to-requires-clause-found : goal.fold_one-to-requires-clause-found
fold_one-to-requires-clause-found c = rw (← take_rest c.records.log c.records.at) c.in-Some.ensures.found

pub records-preserved : goal.records-preserved
records-preserved c =
    let log = c.records.log in
    let at = c.records.at in
    let same = take_rest log at in
    let inside : c.in-Some.len ≤ length (drop at log) = omega (arith, c.in-Some.ensures.some.1, ap length same) in
    record {
      behind = c.fold_one-to.ensures.behind;
      long = c.fold_one-to.auto.log ∙ c.records.invariant.long;
      wide = c.fold_one-to.auto.base ∙ c.records.invariant.wide;
      within = omega (arith, length-drop at log, c.fold_one-to.auto.log);
      due = λ due. c.records.invariant.due (c.note_one.ensures.due due);
      lowest = λ g records few each is.
          scan_next g few log at _ c.fold_one-to.new.log _ c.in-Some.found c.in-Some.len c.in-Some.ensures.some.0 inside
          (λ l rest fits fewer here. sym c.in-Some.is ∙ c.next_record.ensures.only l rest fits fewer (same ∙ here)) c.fold_one-to.ensures.rest
          (λ l ls next holds. low_next c.args.cuts.now c.records.lowest c.note_one.new.lowest _ l ls (c.note_one.ensures.noted l next.found_is) holds)
          (c.records.invariant.lowest g records few each is);
      kept = λ g records few each is.
          scan_next g few log at _ c.fold_one-to.new.log _ c.in-Some.found c.in-Some.len c.in-Some.ensures.some.0 inside
          (λ l rest fits fewer here. sym c.in-Some.is ∙ c.next_record.ensures.only l rest fits fewer (same ∙ here)) c.fold_one-to.ensures.rest
          (λ l ls next holds. kept_next c.args.cuts.now (take c.records.to log) (take c.fold_one-to.result c.fold_one-to.new.log) _ l ls
          (c.fold_one-to.ensures.kept l _ next.found_is next.long next.ahead) holds)
          (c.records.invariant.kept g records few each is);
      sum = λ g records few each is.
          scan_next g few log at _ c.fold_one-to.new.log _ c.in-Some.found c.in-Some.len c.in-Some.ensures.some.0 inside
          (λ l rest fits fewer here. sym c.in-Some.is ∙ c.next_record.ensures.only l rest fits fewer (same ∙ here)) c.fold_one-to.ensures.rest
          (λ l ls next holds x small. sum_next c.args.cuts.now l ls x (get_or c.records.base x 0) (get_or c.fold_one-to.new.base x 0) _
          (c.fold_one-to.ensures.sum l _ next.found_is next.is_in.is next.ahead x (omega (arith, c.records.invariant.wide, small))) (holds x small))
          (c.records.invariant.sum g records few each is);
    }

pub returns-clause-lowest : goal.returns-clause-lowest
returns-clause-lowest c = λ g records few each is.
    scan_done g few c.records.log c.records.at _
    (λ l rest fits fewer here. c.in_default.not-Some (found_of l.version l.whole, length (text l)) (c.next_record.ensures.only l rest fits fewer (take_rest c.records.log c.records.at ∙ here)))
    (c.records.invariant.lowest g records few each is)

pub returns-clause-kept : goal.returns-clause-kept
returns-clause-kept c = λ g records few each is.
    sym (append-nil (take c.records.to c.records.log))
    ∙ scan_done g few c.records.log c.records.at _
    (λ l rest fits fewer here. c.in_default.not-Some (found_of l.version l.whole, length (text l)) (c.next_record.ensures.only l rest fits fewer (take_rest c.records.log c.records.at ∙ here)))
    (c.records.invariant.kept g records few each is)

pub returns-clause-sum : goal.returns-clause-sum
returns-clause-sum c = λ g records few each is x small.
    sym (xor_zero_r (get_or c.records.base x 0))
    ∙ scan_done g few c.records.log c.records.at _
    (λ l rest fits fewer here. c.in_default.not-Some (found_of l.version l.whole, length (text l)) (c.next_record.ensures.only l rest fits fewer (take_rest c.records.log c.records.at ∙ here)))
    (c.records.invariant.sum g records few each is) x small
