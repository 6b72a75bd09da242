use Rattle.std.proofs.Common.{◌≡◌, ◌∙◌, Bool, length, take, arith}
use Rattle.std.proofs.lemmas.List.{length-take}
use Rattle.cod_repair.proofs.Choosing.{front_mark, lowest_source, marked_up}
use Rattle.cod_repair.proofs.sources.lowest_live.Goals as goal

pub lowest-requires-clause-enough : goal.lowest-requires-clause-enough
lowest-requires-clause-enough g c =
    let cols = c.args.columns.now in
    let marks = c.live_marks-marks.result in
    let n : length (take (length cols) marks) ≡ length cols = (let l = length-take {A = Bool} (length cols) marks in omega (arith, l, c.live_marks-marks.ensures.wide, c.requires.most)) in
    let e = marked_up (take (length cols) marks) cols (length cols) (λ j lt. front_mark marks cols c.live_marks-marks.ensures.each j) in
    rw n (omega (arith, e, c.requires.live))

pub returns-clause-columns : goal.returns-clause-columns
returns-clause-columns g c = λ j.
    let cols = c.args.columns.now in
    let marks = c.live_marks-marks.result in
    c.lowest.ensures.columns j ∙ lowest_source c.args.k (take (length cols) marks) cols (front_mark marks cols c.live_marks-marks.ensures.each) j
