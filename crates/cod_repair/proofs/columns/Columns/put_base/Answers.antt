use Rattle.std.proofs.Common.{◌≡◌, ◌∙◌, ◌<◌, List, length, set, true, false, sym, ap, arith}
use Rattle.std.specs.Prelude.{is_err}
use Rattle.cod_seg.specs.Seg.{Col}
use Rattle.cod_repair.proofs.Naming.{new_col, ok_of, old_col, told_err, told_ok}
use Rattle.cod_repair.proofs.columns.Columns.put_base.Goals as goal

pub returns-then-is_err-clause-told : goal.returns-then-is_err-clause-told
returns-then-is_err-clause-told g c =
    let items = c.self.inside.slots.items in
    let within : c.args.col < length items = (let n = ap (λ (cs : List Col). length cs) c.self.view_is in let r = c.requires.col in omega (arith, n, r)) in
    let before = old_col items c.args.self.now c.args.col c.index_mut-column.result.now within c.index_mut-column.ensures.value c.self.view_is in
    let after = new_col items c.args.col c.put_base.new.self within in
    let is : is_err c.put_base.result ≡ true = sym c.is_err.ensures.value ∙ c.if-is_err.true in
    told_err c.put_base.result c.args.col c.args.self.now (set items c.args.col c.put_base.new.self) c.index_mut-column.result.now c.put_base.new.self c.failed.result before after is c.put_base.ensures.cause c.failed.ensures

pub returns-clause-holds : goal.returns-clause-holds
returns-clause-holds g c =
    let items = c.self.inside.slots.items in
    let within : c.args.col < length items = (let n = ap (λ (cs : List Col). length cs) c.self.view_is in let r = c.requires.col in omega (arith, n, r)) in
    let before = old_col items c.args.self.now c.args.col c.index_mut-column.result.now within c.index_mut-column.ensures.value c.self.view_is in
    let after = new_col items c.args.col c.put_base.new.self within in
    let is : is_err c.put_base.result ≡ false = sym c.is_err.ensures.value ∙ c.if-is_err.false in
    rw (after, ← before) (λ u v w x. ok_of c.put_base.result is (c.put_base.ensures.holds u v w x))

pub returns-clause-told : goal.returns-clause-told
returns-clause-told g c =
    let items = c.self.inside.slots.items in
    let within : c.args.col < length items = (let n = ap (λ (cs : List Col). length cs) c.self.view_is in let r = c.requires.col in omega (arith, n, r)) in
    let before = old_col items c.args.self.now c.args.col c.index_mut-column.result.now within c.index_mut-column.ensures.value c.self.view_is in
    let after = new_col items c.args.col c.put_base.new.self within in
    let is : is_err c.put_base.result ≡ false = sym c.is_err.ensures.value ∙ c.if-is_err.false in
    told_ok c.put_base.result tt c.args.col c.args.self.now (set items c.args.col c.put_base.new.self) c.index_mut-column.result.now c.put_base.new.self before after is c.put_base.ensures.cause
