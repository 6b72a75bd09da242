use Rattle.std.proofs.Common.{◌≤◌, ◌+◌, ◌∙◌, length, drop, get_or, refl, sym, ap, arith}
use Rattle.std.proofs.lemmas.List.{take_rest, length-drop}
use Rattle.std.specs.Int.Bits.{xor_zero_r}
use Rattle.cod_record.specs.Reading.{found_of}
use Rattle.cod_parity.specs.Log.{text}
use Rattle.cod_parity.proofs.Records.{found_begins}
use Rattle.cod_parity.proofs.Scan.{scan_next, scan_done, sum_next}
use Rattle.cod_parity.proofs.log.add_log.Goals as goal

pub add_one-requires-clause-begins : goal.add_one-requires-clause-begins
add_one-requires-clause-begins c = found_begins c.in-Some.found c.in-Some.len _ c.in-Some.ensures.found

pub records-preserved : goal.records-preserved
records-preserved c =
    let log = c.args.log.now in
    let at = c.records.at in
    let same = take_rest log at in
    let inside : c.in-Some.len ≤ length (drop at log) = omega (arith, c.in-Some.ensures.some.1, ap length same) in
    record {
      wide = c.add_one.auto.window ∙ c.records.invariant.wide;
      within = omega (arith, length-drop at log);
      sum = λ g records few each is.
          scan_next g few log at _ log _ c.in-Some.found c.in-Some.len c.in-Some.ensures.some.0 inside
          (λ l rest fits fewer here. sym c.in-Some.is ∙ c.next_record.ensures.only l rest fits fewer (same ∙ here)) refl
          (λ l ls next holds x small. sum_next c.args.cuts.now l ls (c.args.off + x) (get_or c.records.window x 0) (get_or c.add_one.new.window x 0) _
          (c.add_one.ensures l _ next.found_is next.is_in.is (same ∙ next.ahead) x (omega (arith, c.records.invariant.wide, small))) (holds x small))
          (c.records.invariant.sum g records few each is);
    }

pub returns : goal.returns
returns c = λ g records few each is x small.
    let log = c.args.log.now in
    let at = c.records.at in
    sym (xor_zero_r (get_or c.records.window x 0))
    ∙ scan_done g few log at _
    (λ l rest fits fewer here. c.in_default.not-Some (found_of l.version l.whole, length (text l)) (c.next_record.ensures.only l rest fits fewer (take_rest log at ∙ here)))
    (c.records.invariant.sum g records few each is) x small
