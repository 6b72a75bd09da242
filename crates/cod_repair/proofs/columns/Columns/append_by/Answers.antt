use Rattle.std.proofs.Common.{◌≡◌, ◌∙◌, ◌<◌, List, length, set, true, false, sym, ap, arith}
use Rattle.std.specs.Prelude.{is_err}
use Rattle.cod_seg.specs.Seg.{Col}
use Rattle.cod_repair.proofs.Naming.{err_only, new_col, ok_of, ok_only, old_col, told_err, told_ok}
use Rattle.cod_repair.proofs.columns.Columns.append_by.Goals as goal

pub append-requires-clause-room : goal.append-requires-clause-room
append-requires-clause-room g c =
    let items = c.self.inside.slots.items in
    let within : c.args.col < length items = (let n = ap (λ (cs : List Col). length cs) c.self.view_is in let r = c.requires.col in omega (arith, n, r)) in
    let before = old_col items c.args.self.now c.args.col c.index_mut-column.result.now within c.index_mut-column.ensures.value c.self.view_is in
    rw before c.requires.room

pub returns-then-is_err-clause-adds : goal.returns-then-is_err-clause-adds
returns-then-is_err-clause-adds g c =
    let items = c.self.inside.slots.items in
    let within : c.args.col < length items = (let n = ap (λ (cs : List Col). length cs) c.self.view_is in let r = c.requires.col in omega (arith, n, r)) in
    let before = old_col items c.args.self.now c.args.col c.index_mut-column.result.now within c.index_mut-column.ensures.value c.self.view_is in
    let after = new_col items c.args.col c.append.new.self within in
    let is : is_err c.append.result ≡ true = sym c.is_err.ensures.value ∙ c.if-is_err.true in
    rw (after, ← before) (λ h. err_only c.append.result _ is (c.append.ensures.adds h))

pub returns-then-is_err-clause-merges : goal.returns-then-is_err-clause-merges
returns-then-is_err-clause-merges g c =
    let items = c.self.inside.slots.items in
    let within : c.args.col < length items = (let n = ap (λ (cs : List Col). length cs) c.self.view_is in let r = c.requires.col in omega (arith, n, r)) in
    let before = old_col items c.args.self.now c.args.col c.index_mut-column.result.now within c.index_mut-column.ensures.value c.self.view_is in
    let after = new_col items c.args.col c.append.new.self within in
    let is : is_err c.append.result ≡ true = sym c.is_err.ensures.value ∙ c.if-is_err.true in
    rw (after, ← before) (λ h. err_only c.append.result _ is (c.append.ensures.merges h))

pub returns-then-is_err-clause-same : goal.returns-then-is_err-clause-same
returns-then-is_err-clause-same g c =
    let items = c.self.inside.slots.items in
    let within : c.args.col < length items = (let n = ap (λ (cs : List Col). length cs) c.self.view_is in let r = c.requires.col in omega (arith, n, r)) in
    let before = old_col items c.args.self.now c.args.col c.index_mut-column.result.now within c.index_mut-column.ensures.value c.self.view_is in
    let after = new_col items c.args.col c.append.new.self within in
    rw (after, ← before) c.append.ensures.same

pub returns-then-is_err-clause-kept : goal.returns-then-is_err-clause-kept
returns-then-is_err-clause-kept g c =
    let items = c.self.inside.slots.items in
    let within : c.args.col < length items = (let n = ap (λ (cs : List Col). length cs) c.self.view_is in let r = c.requires.col in omega (arith, n, r)) in
    let before = old_col items c.args.self.now c.args.col c.index_mut-column.result.now within c.index_mut-column.ensures.value c.self.view_is in
    let after = new_col items c.args.col c.append.new.self within in
    rw (after) c.append.ensures.kept

pub returns-then-is_err-clause-full : goal.returns-then-is_err-clause-full
returns-then-is_err-clause-full g c =
    let items = c.self.inside.slots.items in
    let within : c.args.col < length items = (let n = ap (λ (cs : List Col). length cs) c.self.view_is in let r = c.requires.col in omega (arith, n, r)) in
    let before = old_col items c.args.self.now c.args.col c.index_mut-column.result.now within c.index_mut-column.ensures.value c.self.view_is in
    let after = new_col items c.args.col c.append.new.self within in
    rw (after) c.append.ensures.full

pub returns-then-is_err-clause-told : goal.returns-then-is_err-clause-told
returns-then-is_err-clause-told g c =
    let items = c.self.inside.slots.items in
    let within : c.args.col < length items = (let n = ap (λ (cs : List Col). length cs) c.self.view_is in let r = c.requires.col in omega (arith, n, r)) in
    let before = old_col items c.args.self.now c.args.col c.index_mut-column.result.now within c.index_mut-column.ensures.value c.self.view_is in
    let after = new_col items c.args.col c.append.new.self within in
    let is : is_err c.append.result ≡ true = sym c.is_err.ensures.value ∙ c.if-is_err.true in
    told_err c.append.result c.args.col c.args.self.now (set items c.args.col c.append.new.self) c.index_mut-column.result.now c.append.new.self c.failed.result before after is c.append.ensures.cause c.failed.ensures

pub returns-clause-adds : goal.returns-clause-adds
returns-clause-adds g c =
    let items = c.self.inside.slots.items in
    let within : c.args.col < length items = (let n = ap (λ (cs : List Col). length cs) c.self.view_is in let r = c.requires.col in omega (arith, n, r)) in
    let before = old_col items c.args.self.now c.args.col c.index_mut-column.result.now within c.index_mut-column.ensures.value c.self.view_is in
    let after = new_col items c.args.col c.append.new.self within in
    let is : is_err c.append.result ≡ false = sym c.is_err.ensures.value ∙ c.if-is_err.false in
    rw (after, ← before) (λ h. ok_only c.append.result _ is (c.append.ensures.adds h))

pub returns-clause-merges : goal.returns-clause-merges
returns-clause-merges g c =
    let items = c.self.inside.slots.items in
    let within : c.args.col < length items = (let n = ap (λ (cs : List Col). length cs) c.self.view_is in let r = c.requires.col in omega (arith, n, r)) in
    let before = old_col items c.args.self.now c.args.col c.index_mut-column.result.now within c.index_mut-column.ensures.value c.self.view_is in
    let after = new_col items c.args.col c.append.new.self within in
    let is : is_err c.append.result ≡ false = sym c.is_err.ensures.value ∙ c.if-is_err.false in
    rw (after, ← before) (λ h. ok_only c.append.result _ is (c.append.ensures.merges h))

pub returns-clause-holds : goal.returns-clause-holds
returns-clause-holds g c =
    let items = c.self.inside.slots.items in
    let within : c.args.col < length items = (let n = ap (λ (cs : List Col). length cs) c.self.view_is in let r = c.requires.col in omega (arith, n, r)) in
    let before = old_col items c.args.self.now c.args.col c.index_mut-column.result.now within c.index_mut-column.ensures.value c.self.view_is in
    let after = new_col items c.args.col c.append.new.self within in
    let is : is_err c.append.result ≡ false = sym c.is_err.ensures.value ∙ c.if-is_err.false in
    rw (after, ← before) (λ u v w x y. ok_of c.append.result is (c.append.ensures.holds u v w x y))

pub returns-clause-same : goal.returns-clause-same
returns-clause-same g c =
    let items = c.self.inside.slots.items in
    let within : c.args.col < length items = (let n = ap (λ (cs : List Col). length cs) c.self.view_is in let r = c.requires.col in omega (arith, n, r)) in
    let before = old_col items c.args.self.now c.args.col c.index_mut-column.result.now within c.index_mut-column.ensures.value c.self.view_is in
    let after = new_col items c.args.col c.append.new.self within in
    rw (after, ← before) c.append.ensures.same

pub returns-clause-kept : goal.returns-clause-kept
returns-clause-kept g c =
    let items = c.self.inside.slots.items in
    let within : c.args.col < length items = (let n = ap (λ (cs : List Col). length cs) c.self.view_is in let r = c.requires.col in omega (arith, n, r)) in
    let before = old_col items c.args.self.now c.args.col c.index_mut-column.result.now within c.index_mut-column.ensures.value c.self.view_is in
    let after = new_col items c.args.col c.append.new.self within in
    rw (after) c.append.ensures.kept

pub returns-clause-full : goal.returns-clause-full
returns-clause-full g c =
    let items = c.self.inside.slots.items in
    let within : c.args.col < length items = (let n = ap (λ (cs : List Col). length cs) c.self.view_is in let r = c.requires.col in omega (arith, n, r)) in
    let before = old_col items c.args.self.now c.args.col c.index_mut-column.result.now within c.index_mut-column.ensures.value c.self.view_is in
    let after = new_col items c.args.col c.append.new.self within in
    rw (after) c.append.ensures.full

pub returns-clause-told : goal.returns-clause-told
returns-clause-told g c =
    let items = c.self.inside.slots.items in
    let within : c.args.col < length items = (let n = ap (λ (cs : List Col). length cs) c.self.view_is in let r = c.requires.col in omega (arith, n, r)) in
    let before = old_col items c.args.self.now c.args.col c.index_mut-column.result.now within c.index_mut-column.ensures.value c.self.view_is in
    let after = new_col items c.args.col c.append.new.self within in
    let is : is_err c.append.result ≡ false = sym c.is_err.ensures.value ∙ c.if-is_err.false in
    told_ok c.append.result c.record_len.result c.args.col c.args.self.now (set items c.args.col c.append.new.self) c.index_mut-column.result.now c.append.new.self before after is c.append.ensures.cause
