use Rattle.std.proofs.Common.{◌≡◌, ◌∙◌, ◌<◌, List, length, set, true, false, sym, ap, arith}
use Rattle.std.specs.Prelude.{is_err}
use Rattle.cod_seg.specs.Seg.{Col}
use Rattle.cod_repair.proofs.Naming.{err_only, new_col, ok_of, ok_only, old_col, told_err, told_ok}
use Rattle.cod_repair.proofs.columns.Columns.merge_by.Goals as goal

pub returns-then-is_err-clause-merges : goal.returns-then-is_err-clause-merges
returns-then-is_err-clause-merges g c =
    let items = c.self.inside.slots.items in
    let within : c.args.col < length items = (let n = ap (λ (cs : List Col). length cs) c.self.view_is in let r = c.requires.col in omega (arith, n, r)) in
    let before = old_col items c.args.self.now c.args.col c.index_mut-column.result.now within c.index_mut-column.ensures.value c.self.view_is in
    let after = new_col items c.args.col c.merge.new.self within in
    let is : is_err c.merge.result ≡ true = sym c.is_err.ensures.value ∙ c.if-is_err.true in
    rw (after, ← before) (err_only c.merge.result _ is c.merge.ensures.merges)

pub returns-then-is_err-clause-same : goal.returns-then-is_err-clause-same
returns-then-is_err-clause-same g c =
    let items = c.self.inside.slots.items in
    let within : c.args.col < length items = (let n = ap (λ (cs : List Col). length cs) c.self.view_is in let r = c.requires.col in omega (arith, n, r)) in
    let before = old_col items c.args.self.now c.args.col c.index_mut-column.result.now within c.index_mut-column.ensures.value c.self.view_is in
    let after = new_col items c.args.col c.merge.new.self within in
    rw (after, ← before) c.merge.ensures.same

pub returns-then-is_err-clause-full : goal.returns-then-is_err-clause-full
returns-then-is_err-clause-full g c =
    let items = c.self.inside.slots.items in
    let within : c.args.col < length items = (let n = ap (λ (cs : List Col). length cs) c.self.view_is in let r = c.requires.col in omega (arith, n, r)) in
    let before = old_col items c.args.self.now c.args.col c.index_mut-column.result.now within c.index_mut-column.ensures.value c.self.view_is in
    let after = new_col items c.args.col c.merge.new.self within in
    rw (after) c.merge.ensures.full

pub returns-then-is_err-clause-told : goal.returns-then-is_err-clause-told
returns-then-is_err-clause-told g c =
    let items = c.self.inside.slots.items in
    let within : c.args.col < length items = (let n = ap (λ (cs : List Col). length cs) c.self.view_is in let r = c.requires.col in omega (arith, n, r)) in
    let before = old_col items c.args.self.now c.args.col c.index_mut-column.result.now within c.index_mut-column.ensures.value c.self.view_is in
    let after = new_col items c.args.col c.merge.new.self within in
    let is : is_err c.merge.result ≡ true = sym c.is_err.ensures.value ∙ c.if-is_err.true in
    told_err c.merge.result c.args.col c.args.self.now (set items c.args.col c.merge.new.self) c.index_mut-column.result.now c.merge.new.self c.failed.result before after is c.merge.ensures.cause c.failed.ensures

pub returns-clause-merges : goal.returns-clause-merges
returns-clause-merges g c =
    let items = c.self.inside.slots.items in
    let within : c.args.col < length items = (let n = ap (λ (cs : List Col). length cs) c.self.view_is in let r = c.requires.col in omega (arith, n, r)) in
    let before = old_col items c.args.self.now c.args.col c.index_mut-column.result.now within c.index_mut-column.ensures.value c.self.view_is in
    let after = new_col items c.args.col c.merge.new.self within in
    let is : is_err c.merge.result ≡ false = sym c.is_err.ensures.value ∙ c.if-is_err.false in
    rw (after, ← before) (ok_only c.merge.result _ is c.merge.ensures.merges)

pub returns-clause-holds : goal.returns-clause-holds
returns-clause-holds g c =
    let items = c.self.inside.slots.items in
    let within : c.args.col < length items = (let n = ap (λ (cs : List Col). length cs) c.self.view_is in let r = c.requires.col in omega (arith, n, r)) in
    let before = old_col items c.args.self.now c.args.col c.index_mut-column.result.now within c.index_mut-column.ensures.value c.self.view_is in
    let after = new_col items c.args.col c.merge.new.self within in
    let is : is_err c.merge.result ≡ false = sym c.is_err.ensures.value ∙ c.if-is_err.false in
    rw (after, ← before) (λ u v w. ok_of c.merge.result is (c.merge.ensures.holds u v w))

pub returns-clause-used : goal.returns-clause-used
returns-clause-used g c =
    let items = c.self.inside.slots.items in
    let within : c.args.col < length items = (let n = ap (λ (cs : List Col). length cs) c.self.view_is in let r = c.requires.col in omega (arith, n, r)) in
    let before = old_col items c.args.self.now c.args.col c.index_mut-column.result.now within c.index_mut-column.ensures.value c.self.view_is in
    let after = new_col items c.args.col c.merge.new.self within in
    let is : is_err c.merge.result ≡ false = sym c.is_err.ensures.value ∙ c.if-is_err.false in
    rw (after, ← before) (λ u v w. ok_of c.merge.result is (c.merge.ensures.used u v w))

pub returns-clause-none_due : goal.returns-clause-none_due
returns-clause-none_due g c =
    let items = c.self.inside.slots.items in
    let within : c.args.col < length items = (let n = ap (λ (cs : List Col). length cs) c.self.view_is in let r = c.requires.col in omega (arith, n, r)) in
    let before = old_col items c.args.self.now c.args.col c.index_mut-column.result.now within c.index_mut-column.ensures.value c.self.view_is in
    let after = new_col items c.args.col c.merge.new.self within in
    let is : is_err c.merge.result ≡ false = sym c.is_err.ensures.value ∙ c.if-is_err.false in
    rw (after) (λ u. ok_of c.merge.result is (c.merge.ensures.none_due u))

pub returns-clause-same : goal.returns-clause-same
returns-clause-same g c =
    let items = c.self.inside.slots.items in
    let within : c.args.col < length items = (let n = ap (λ (cs : List Col). length cs) c.self.view_is in let r = c.requires.col in omega (arith, n, r)) in
    let before = old_col items c.args.self.now c.args.col c.index_mut-column.result.now within c.index_mut-column.ensures.value c.self.view_is in
    let after = new_col items c.args.col c.merge.new.self within in
    rw (after, ← before) c.merge.ensures.same

pub returns-clause-full : goal.returns-clause-full
returns-clause-full g c =
    let items = c.self.inside.slots.items in
    let within : c.args.col < length items = (let n = ap (λ (cs : List Col). length cs) c.self.view_is in let r = c.requires.col in omega (arith, n, r)) in
    let before = old_col items c.args.self.now c.args.col c.index_mut-column.result.now within c.index_mut-column.ensures.value c.self.view_is in
    let after = new_col items c.args.col c.merge.new.self within in
    rw (after) c.merge.ensures.full

pub returns-clause-told : goal.returns-clause-told
returns-clause-told g c =
    let items = c.self.inside.slots.items in
    let within : c.args.col < length items = (let n = ap (λ (cs : List Col). length cs) c.self.view_is in let r = c.requires.col in omega (arith, n, r)) in
    let before = old_col items c.args.self.now c.args.col c.index_mut-column.result.now within c.index_mut-column.ensures.value c.self.view_is in
    let after = new_col items c.args.col c.merge.new.self within in
    let is : is_err c.merge.result ≡ false = sym c.is_err.ensures.value ∙ c.if-is_err.false in
    told_ok c.merge.result tt c.args.col c.args.self.now (set items c.args.col c.merge.new.self) c.index_mut-column.result.now c.merge.new.self before after is c.merge.ensures.cause
