use Rattle.std.proofs.Common.{◌%◌, ap, ◌∙◌, Ok, Err, Result}
use Rattle.std.proofs.lemmas.Bool.{eq-eqb, ne_eqb}
use Rattle.std.specs.Prelude.{OnOk}
use Rattle.cod_gen.specs.Drafting.{Draft, with_line, with_lines, with_state}
use Rattle.cod_gen.specs.Drawn.{after}
use Rattle.cod_gen.specs.Generated.{care_lines, read_line}
use Rattle.cod_gen.proofs.Rounds_drawn.{round_reads, round_writes}
use Rattle.cod_gen.proofs.draft.Draft.round.Goals.{then-round-eq9+in_ok-read, else-round-eq9}
use Rattle.cod_gen.proofs.draft.Draft.round.Goals as goal

on_ok : {A E P Q : Type 0} (r : Result A E) → (P → Q) → OnOk r P → OnOk r Q
on_ok (Ok x) f h = f h
on_ok (Err e) f h = tt

pub returns : goal.returns
returns c =
    let d = c.args.self.now in
    let client = c.args.client in
    let round = c.args.round in
    let wrote = c.in_ok-write.ensures in
    on_ok c.care.result (λ p. p ∙ (elim c.if-round-eq9.branch [
      | then-round-eq9+in_ok-read w ↦
          ap (λ (k : Draft). with_lines k (care_lines client round))
          (w.self-is ∙ w.in_ok-read.ensures ∙ ap (λ (k : Draft). with_state (with_line k (read_line k.state)) (after 2 k.state)) wrote)
          ∙ round_reads client round d (eq-eqb (round % 10) 9 w.if-round-eq9.true)
      | else-round-eq9 w ↦ ap (λ (k : Draft). with_lines k (care_lines client round)) (w.self-is ∙ wrote) ∙ round_writes client round d (ne_eqb (round % 10) 9 w.if-round-eq9.false)
    ])) c.care.ensures
