use Rattle.std.proofs.Common.{◌<◌, List, length, ap, arith}
use Rattle.cod_seg.specs.Seg.{Col}
use Rattle.cod_repair.proofs.Naming.{new_col, old_col}
use Rattle.cod_repair.proofs.columns.Columns.tick_by.Goals as goal

pub tick-requires-clause-room : goal.tick-requires-clause-room
tick-requires-clause-room g c =
    let items = c.self.inside.slots.items in
    let within : c.args.col < length items = (let n = ap (λ (cs : List Col). length cs) c.self.view_is in let r = c.requires.col in omega (arith, n, r)) in
    let before = old_col items c.args.self.now c.args.col c.index_mut-column.result.now within c.index_mut-column.ensures.value c.self.view_is in
    rw before c.requires.room

pub returns-in_default-clause-shrinks : goal.returns-in_default-clause-shrinks
returns-in_default-clause-shrinks g c =
    let items = c.self.inside.slots.items in
    let within : c.args.col < length items = (let n = ap (λ (cs : List Col). length cs) c.self.view_is in let r = c.requires.col in omega (arith, n, r)) in
    let before = old_col items c.args.self.now c.args.col c.index_mut-column.result.now within c.index_mut-column.ensures.value c.self.view_is in
    let after = new_col items c.args.col c.tick.new.self within in
    rw (after, ← before) c.in_default.ensures.shrinks

pub returns-in_default-clause-kept : goal.returns-in_default-clause-kept
returns-in_default-clause-kept g c =
    let items = c.self.inside.slots.items in
    let within : c.args.col < length items = (let n = ap (λ (cs : List Col). length cs) c.self.view_is in let r = c.requires.col in omega (arith, n, r)) in
    let before = old_col items c.args.self.now c.args.col c.index_mut-column.result.now within c.index_mut-column.ensures.value c.self.view_is in
    let after = new_col items c.args.col c.tick.new.self within in
    rw (after) c.in_default.ensures.kept

pub returns-in_default-clause-same : goal.returns-in_default-clause-same
returns-in_default-clause-same g c =
    let items = c.self.inside.slots.items in
    let within : c.args.col < length items = (let n = ap (λ (cs : List Col). length cs) c.self.view_is in let r = c.requires.col in omega (arith, n, r)) in
    let before = old_col items c.args.self.now c.args.col c.index_mut-column.result.now within c.index_mut-column.ensures.value c.self.view_is in
    let after = new_col items c.args.col c.tick.new.self within in
    rw (after, ← before) c.in_default.ensures.same

pub returns-in_default-clause-full : goal.returns-in_default-clause-full
returns-in_default-clause-full g c =
    let items = c.self.inside.slots.items in
    let within : c.args.col < length items = (let n = ap (λ (cs : List Col). length cs) c.self.view_is in let r = c.requires.col in omega (arith, n, r)) in
    let before = old_col items c.args.self.now c.args.col c.index_mut-column.result.now within c.index_mut-column.ensures.value c.self.view_is in
    let after = new_col items c.args.col c.tick.new.self within in
    rw (after) c.in_default.ensures.full

pub returns-clause-shrinks : goal.returns-clause-shrinks
returns-clause-shrinks g c =
    let items = c.self.inside.slots.items in
    let within : c.args.col < length items = (let n = ap (λ (cs : List Col). length cs) c.self.view_is in let r = c.requires.col in omega (arith, n, r)) in
    let before = old_col items c.args.self.now c.args.col c.index_mut-column.result.now within c.index_mut-column.ensures.value c.self.view_is in
    let after = new_col items c.args.col c.tick.new.self within in
    rw (after, ← before) c.in-Ok.ensures.shrinks

pub returns-clause-holds : goal.returns-clause-holds
returns-clause-holds g c =
    let items = c.self.inside.slots.items in
    let within : c.args.col < length items = (let n = ap (λ (cs : List Col). length cs) c.self.view_is in let r = c.requires.col in omega (arith, n, r)) in
    let before = old_col items c.args.self.now c.args.col c.index_mut-column.result.now within c.index_mut-column.ensures.value c.self.view_is in
    let after = new_col items c.args.col c.tick.new.self within in
    rw (after, ← before) c.in-Ok.ensures.holds

pub returns-clause-kept : goal.returns-clause-kept
returns-clause-kept g c =
    let items = c.self.inside.slots.items in
    let within : c.args.col < length items = (let n = ap (λ (cs : List Col). length cs) c.self.view_is in let r = c.requires.col in omega (arith, n, r)) in
    let before = old_col items c.args.self.now c.args.col c.index_mut-column.result.now within c.index_mut-column.ensures.value c.self.view_is in
    let after = new_col items c.args.col c.tick.new.self within in
    rw (after) c.in-Ok.ensures.kept

pub returns-clause-same : goal.returns-clause-same
returns-clause-same g c =
    let items = c.self.inside.slots.items in
    let within : c.args.col < length items = (let n = ap (λ (cs : List Col). length cs) c.self.view_is in let r = c.requires.col in omega (arith, n, r)) in
    let before = old_col items c.args.self.now c.args.col c.index_mut-column.result.now within c.index_mut-column.ensures.value c.self.view_is in
    let after = new_col items c.args.col c.tick.new.self within in
    rw (after, ← before) c.in-Ok.ensures.same

pub returns-clause-full : goal.returns-clause-full
returns-clause-full g c =
    let items = c.self.inside.slots.items in
    let within : c.args.col < length items = (let n = ap (λ (cs : List Col). length cs) c.self.view_is in let r = c.requires.col in omega (arith, n, r)) in
    let before = old_col items c.args.self.now c.args.col c.index_mut-column.result.now within c.index_mut-column.ensures.value c.self.view_is in
    let after = new_col items c.args.col c.tick.new.self within in
    rw (after) c.in-Ok.ensures.full
