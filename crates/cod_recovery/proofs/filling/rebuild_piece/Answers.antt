use Rattle.std.proofs.Common.{◌≡◌, ℕ, ◌+◌, ◌-◌, ◌<◌, ◌≤◌, min, false, length, sym, ap, subst, ◌∙◌, IsSome, arith}
use Rattle.std.proofs.lemmas.List.{length-replicate}
use Rattle.cod_seg.specs.Seg.{Seg, Target}
use Rattle.cod_segment.specs.Events.{call_in, request_of}
use Rattle.cod_segment.proofs.Answering.{sound_after}
use Rattle.cod_recovery.specs.Filling.{target_in}
use Rattle.cod_recovery.proofs.Bringing.{piece_goal, piece_is}
use Rattle.cod_recovery.proofs.Pieces.{balance_then, came_then, fetches, is_setting_of, makes_piece, piece_costs, piece_inside, piece_long, rooms_same, setting_of, some_aim, still_open}
use Rattle.cod_recovery.proofs.filling.rebuild_piece.Goals as goal

pub aim-col-requires : goal.aim-col-requires
aim-col-requires g c =
    let at = piece_goal c.args.segment.now c.args.asker.caller.0 (call_in c.args._slip.now) c.requires.next in
    subst (λ (x : Seg). IsSome (target_in x.rebuild)) (sym c.segment.view_is) (some_aim c.args.segment.now.rebuild at.0 at.1 at.2 at.3)

pub overflow_sub-block : goal.overflow_sub-block
overflow_sub-block g c =
    let s = c.args.segment.now in
    let at = piece_goal s c.args.asker.caller.0 (call_in c.args._slip.now) c.requires.next in
    let is = piece_is s c.args.asker.caller.0 c.args.asker.number c.args._slip.now (call_in c.args._slip.now) at.0 at.1 c.requires.sound c.requires.asked c.requires.next at.2 at.3 in
    let aimed = c.aim-col.ensures at.0 at.1 (ap (λ (x : Seg). x.rebuild) c.segment.view_is ∙ at.2) at.3 in
    let block : c.block.result ≡ c.args.segment.now.site.shape.block = c.block.ensures ∙ ap (λ (x : Seg). x.site.shape.block) c.segment.view_is in
    let done = aimed.1 in
    let less = is.1 in
    omega (arith, block, done, less)

pub bring-requires-clause-few : goal.bring-requires-clause-few
bring-requires-clause-few g c =
    let s = c.args.segment.now in
    let at = piece_goal s c.args.asker.caller.0 (call_in c.args._slip.now) c.requires.next in
    let is = piece_is s c.args.asker.caller.0 c.args.asker.number c.args._slip.now (call_in c.args._slip.now) at.0 at.1 c.requires.sound c.requires.asked c.requires.next at.2 at.3 in
    is.0.few

pub bring-requires-clause-goal : goal.bring-requires-clause-goal
bring-requires-clause-goal g c =
    let at = piece_goal c.args.segment.now c.args.asker.caller.0 (call_in c.args._slip.now) c.requires.next in
    some_aim c.args.segment.now.rebuild at.0 at.1 at.2 at.3

pub bring-requires-clause-aim : goal.bring-requires-clause-aim
bring-requires-clause-aim g c = λ r t was aimed. c.aim-col.ensures r t (ap (λ (x : Seg). x.rebuild) c.segment.view_is ∙ was) aimed

pub bring-requires-clause-inside : goal.bring-requires-clause-inside
bring-requires-clause-inside g c =
    let s = c.args.segment.now in
    let block : c.block.result ≡ c.args.segment.now.site.shape.block = c.block.ensures ∙ ap (λ (x : Seg). x.site.shape.block) c.segment.view_is in
    let at = piece_goal s c.args.asker.caller.0 (call_in c.args._slip.now) c.requires.next in
    let is = piece_is s c.args.asker.caller.0 c.args.asker.number c.args._slip.now (call_in c.args._slip.now) at.0 at.1 c.requires.sound c.requires.asked c.requires.next at.2 at.3 in
    let aimed = c.aim-col.ensures at.0 at.1 (ap (λ (x : Seg). x.rebuild) c.segment.view_is ∙ at.2) at.3 in
    let done = aimed.1 in
    let less = is.1 in
    let few = c.min-len.ensures in
    piece_inside c.aim-col.result.1 c.args.segment.now.site.shape.block c.min-len.result _ (omega (arith, block, done, less, few))

-- how many bytes the piece has
pieces : (g : _) (c : goal.After-bytes-2-1 g) (t : Target) → c.aim-col.result.1 ≡ t.filled → t.filled < c.args.segment.now.site.shape.block
    → (length c.bring.new.into ≡ min 4096 (c.args.segment.now.site.shape.block - t.filled)) × (t.filled + length c.bring.new.into ≤ c.args.segment.now.site.shape.block)
pieces g c t done less =
    let block : c.block.result ≡ c.args.segment.now.site.shape.block = c.block.ensures ∙ ap (λ (x : Seg). x.site.shape.block) c.segment.view_is in
    let few = c.min-len.ensures in
    let long : length c.bring.new.into ≡ c.min-len.result = c.bring.auto.into ∙ piece_long c.min-len.result 4096 _ (length-replicate {A = ℕ} 4096 0) (omega (arith, few)) in
    (omega (arith, block, done, less, few, long), omega (arith, block, done, less, few, long))

pub returns-clause-sound : goal.returns-clause-sound
returns-clause-sound g c =
    let s = c.args.segment.now in
    let at = piece_goal s c.args.asker.caller.0 (call_in c.args._slip.now) c.requires.next in
    let is = piece_is s c.args.asker.caller.0 c.args.asker.number c.args._slip.now (call_in c.args._slip.now) at.0 at.1 c.requires.sound c.requires.asked c.requires.next at.2 at.3 in
    let aimed = c.aim-col.ensures at.0 at.1 (ap (λ (x : Seg). x.rebuild) c.segment.view_is ∙ at.2) at.3 in
    sound_after (setting_of s) (request_of c.args.asker.caller.0 c.args.asker.number (call_in c.args._slip.now)) c.args.clock.now c.bring.new.clock false s c.bring.new.segment
    c.requires.sound
    (makes_piece (setting_of s) s c.bring.new.segment c.args.asker.caller.0 c.args.asker.number c.args._slip.now (call_in c.args._slip.now) at.0 at.1 c.bring.new.into
    c.args.clock.now c.bring.new.clock (is_setting_of s) c.requires.sound is.0 (pieces g c at.1 aimed.1 is.1).1 (c.bring.ensures.fetched at.0 at.1 at.2 at.3))

pub returns-clause-makes : goal.returns-clause-makes
returns-clause-makes g c = λ w setting.
    let s = c.args.segment.now in
    let at = piece_goal s c.args.asker.caller.0 (call_in c.args._slip.now) c.requires.next in
    let is = piece_is s c.args.asker.caller.0 c.args.asker.number c.args._slip.now (call_in c.args._slip.now) at.0 at.1 c.requires.sound c.requires.asked c.requires.next at.2 at.3 in
    let aimed = c.aim-col.ensures at.0 at.1 (ap (λ (x : Seg). x.rebuild) c.segment.view_is ∙ at.2) at.3 in
    makes_piece w s c.bring.new.segment c.args.asker.caller.0 c.args.asker.number c.args._slip.now (call_in c.args._slip.now) at.0 at.1 c.bring.new.into
    c.args.clock.now c.bring.new.clock setting c.requires.sound is.0 (pieces g c at.1 aimed.1 is.1).1 (c.bring.ensures.fetched at.0 at.1 at.2 at.3)

pub returns-clause-exact : goal.returns-clause-exact
returns-clause-exact g c = λ w.
    let s = c.args.segment.now in
    let at = piece_goal s c.args.asker.caller.0 (call_in c.args._slip.now) c.requires.next in
    let is = piece_is s c.args.asker.caller.0 c.args.asker.number c.args._slip.now (call_in c.args._slip.now) at.0 at.1 c.requires.sound c.requires.asked c.requires.next at.2 at.3 in
    let aimed = c.aim-col.ensures at.0 at.1 (ap (λ (x : Seg). x.rebuild) c.segment.view_is ∙ at.2) at.3 in
    fetches s c.bring.new.segment c.args.asker.caller.0 c.args.asker.number c.args._slip.now (call_in c.args._slip.now) at.0 at.1 c.bring.new.into
    c.args.clock.now c.bring.new.clock c.requires.sound is.0 (pieces g c at.1 aimed.1 is.1).0 (c.bring.ensures.fetched at.0 at.1 at.2 at.3)

pub returns-clause-outcome : goal.returns-clause-outcome
returns-clause-outcome g c =
    let s = c.args.segment.now in
    let at = piece_goal s c.args.asker.caller.0 (call_in c.args._slip.now) c.requires.next in
    let is = piece_is s c.args.asker.caller.0 c.args.asker.number c.args._slip.now (call_in c.args._slip.now) at.0 at.1 c.requires.sound c.requires.asked c.requires.next at.2 at.3 in
    still_open s c.bring.new.segment c.args.asker.caller.0 c.args.asker.number c.args._slip.now (call_in c.args._slip.now) at.0 at.1 c.bring.new.into c.args.clock.now c.bring.new.clock
    c.requires.sound is.0 (c.bring.ensures.fetched at.0 at.1 at.2 at.3)

pub returns-clause-costs : goal.returns-clause-costs
returns-clause-costs g c = λ none.
    let s = c.args.segment.now in
    let at = piece_goal s c.args.asker.caller.0 (call_in c.args._slip.now) c.requires.next in
    let is = piece_is s c.args.asker.caller.0 c.args.asker.number c.args._slip.now (call_in c.args._slip.now) at.0 at.1 c.requires.sound c.requires.asked c.requires.next at.2 at.3 in
    piece_costs s c.bring.new.segment c.args.asker.caller.0 c.args.asker.number c.args._slip.now (call_in c.args._slip.now) at.0 at.1 c.bring.new.into c.args.clock.now c.bring.new.clock
    c.requires.sound is.0 (c.bring.ensures.fetched at.0 at.1 at.2 at.3) none

pub returns-clause-rooms : goal.returns-clause-rooms
returns-clause-rooms g c = λ rest came.
    let s = c.args.segment.now in
    let at = piece_goal s c.args.asker.caller.0 (call_in c.args._slip.now) c.requires.next in
    came_then (g.P.Pools.Came c.args.pools.now) (g.P.Pools.Came c.bring.new.pools) s c.bring.new.segment rest
    (rooms_same s c.bring.new.segment at.0 at.1 c.bring.new.into c.args.clock.now c.bring.new.clock c.requires.sound (c.bring.ensures.fetched at.0 at.1 at.2 at.3))
    c.bring.ensures.came came

pub returns-clause-balance : goal.returns-clause-balance
returns-clause-balance g c =
    let s = c.args.segment.now in
    let at = piece_goal s c.args.asker.caller.0 (call_in c.args._slip.now) c.requires.next in
    balance_then (g.P.Pools.free c.args.pools.now) (g.P.Pools.free c.bring.new.pools) s c.bring.new.segment
    (rooms_same s c.bring.new.segment at.0 at.1 c.bring.new.into c.args.clock.now c.bring.new.clock c.requires.sound (c.bring.ensures.fetched at.0 at.1 at.2 at.3))
    c.bring.ensures.balance
