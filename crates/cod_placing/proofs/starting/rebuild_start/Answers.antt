use Rattle.std.proofs.Common.{◌≡◌, ℕ, List, [], ◌∷◌, ◌++◌, length, map, Option, Some, false, true, refl, sym, ap, ◌∙◌, subst, arith}
use Rattle.std.specs.Prelude.{is_some, unwrap_or}
use Rattle.cod_types.specs.Columns.{column_size}
use Rattle.cod_types.specs.declared.call.Call.{Call as Asked}
use Rattle.cod_types.specs.declared.call.Call.TheVariants.{Merge, Rebuild}
use Rattle.cod_types.specs.declared.call.Reply.{Reply}
use Rattle.cod_place.specs.Room.{Room}
use Rattle.cod_claims.specs.Slips.{Paper}
use Rattle.cod_seg.specs.Seg.{Col, Rebuilding, Seg}
use Rattle.cod_segment.specs.Events.{Balances, call_in, HasBegun, request_of, rooms_of}
use Rattle.cod_segment.proofs.Answering.{calm_setting, sound_after}
use Rattle.cod_segment.proofs.Balancing.{beside}
use Rattle.cod_segment.proofs.Looking.{looked_none}
use Rattle.cod_placing.specs.Places.{IsFresh}
use Rattle.cod_placing.specs.Starts.{chosen, vain}
use Rattle.cod_placing.specs.declared.placing.Missing.TheVariants.{Spare}
use Rattle.cod_placing.proofs.Aiming.{aimed_is, chosen_sound, costs_nothing, ended_is, exact_aim, exact_end, fresh_in, killed_setting, killed_setting_is, makes_aim, makes_end, opens_aim, outcome_end, rooms_bare, spare_in, vain_looked}
use Rattle.cod_placing.proofs.Choices.{start}
use Rattle.cod_placing.proofs.starting.rebuild_start.Goals as goal

pub choose_column-requires-clause-some : goal.choose_column-requires-clause-some
choose_column-requires-clause-some g c =
    (start c.args.segment.now c.args.asker.caller.0 c.args.asker.number c.args.slip.now (call_in c.args.slip.now) c.requires.sound c.requires.next c.requires.asked).found

pub choose_column-requires-clause-links : goal.choose_column-requires-clause-links
choose_column-requires-clause-links g c =
    (start c.args.segment.now c.args.asker.caller.0 c.args.asker.number c.args.slip.now (call_in c.args.slip.now) c.requires.sound c.requires.next c.requires.asked).links

pub take_reasons-first-requires : goal.take_reasons-first-requires
take_reasons-first-requires g c =
    let is = start c.args.segment.now c.args.asker.caller.0 c.args.asker.number c.args.slip.now (call_in c.args.slip.now) c.requires.sound c.requires.next c.requires.asked in
    ap (λ (x : Paper). is_some x.reasons) c.choose_column.ensures.slip ∙ ap is_some (is.begun.lists is.asked).2

pub place_for_rebuild-requires-clause-sound : goal.place_for_rebuild-requires-clause-sound
place_for_rebuild-requires-clause-sound g c =
    let s = c.args.segment.now in
    let is = start s c.args.asker.caller.0 c.args.asker.number c.args.slip.now (call_in c.args.slip.now) c.requires.sound c.requires.next c.requires.asked in
    chosen_sound s c.choose_column.new.segment c.args.asker.caller.0 c.args.asker.number (chosen c.args.asker.caller.0 c.args.asker.number s.cols s.rebuild) c.requires.sound is.idle is.chosen
    c.choose_column.ensures.becomes

pub give_up-requires-clause-link : goal.give_up-requires-clause-link
give_up-requires-clause-link g c =
    let is = start c.args.segment.now c.args.asker.caller.0 c.args.asker.number c.args.slip.now (call_in c.args.slip.now) c.requires.sound c.requires.next c.requires.asked in
    let one : c.take_reasons-first.new.self.links ≡ 1 = ap (λ (x : Paper). x.links) c.take_reasons-first.ensures.rest ∙ (ap (λ (x : Paper). x.links) c.choose_column.ensures.slip ∙ is.begun.link) in
    omega (arith, one)

-- ---- aimed

pub returns-in-Ok-clause-makes : goal.returns-in-Ok-clause-makes
returns-in-Ok-clause-makes g c = λ w setting known.
    let s = c.args.segment.now in
    let who = c.args.asker.caller in
    let number : ℕ = c.args.asker.number in
    let is = start s who.0 number c.args.slip.now (call_in c.args.slip.now) c.requires.sound c.requires.next c.requires.asked in
    let r : Rebuilding = chosen who.0 number s.cols s.rebuild in
    let becomes = aimed_is s c.choose_column.new.segment c.aim.new.segment r c.in-Ok.target c.choose_column.ensures.becomes c.aim.ensures in
    let kills = g.B.Board.kills c.place_for_rebuild.new.board in
    let m = c.choose_column.new.segment in
    let was : m.rebuild ≡ Some r = ap (λ (x : Seg). x.rebuild) c.choose_column.ensures.becomes in
    let size = ap (λ (x : Seg). column_size x.site.shape r.col) c.choose_column.ensures.becomes in
    let place : IsFresh s (column_size s.site.shape r.col) r.broken kills c.in-Ok.target =
    fresh_in s m (Some r) (column_size s.site.shape r.col) r.broken kills c.in-Ok.target c.choose_column.ensures.becomes
    (subst (λ (n : ℕ). IsFresh m n r.broken kills c.in-Ok.target) size (c.in-Ok.ensures.found r was)) in
    makes_aim w s c.aim.new.segment who.0 number c.args.clock.now (call_in c.args.slip.now) r c.in-Ok.target r.broken kills is.idle is.chosen place becomes

pub returns-in-Ok-clause-sound : goal.returns-in-Ok-clause-sound
returns-in-Ok-clause-sound g c =
    let s = c.args.segment.now in
    let who = c.args.asker.caller in
    let number : ℕ = c.args.asker.number in
    let is = start s who.0 number c.args.slip.now (call_in c.args.slip.now) c.requires.sound c.requires.next c.requires.asked in
    let r : Rebuilding = chosen who.0 number s.cols s.rebuild in
    let becomes = aimed_is s c.choose_column.new.segment c.aim.new.segment r c.in-Ok.target c.choose_column.ensures.becomes c.aim.ensures in
    let kills = g.B.Board.kills c.place_for_rebuild.new.board in
    let m = c.choose_column.new.segment in
    let was : m.rebuild ≡ Some r = ap (λ (x : Seg). x.rebuild) c.choose_column.ensures.becomes in
    let size = ap (λ (x : Seg). column_size x.site.shape r.col) c.choose_column.ensures.becomes in
    let place : IsFresh s (column_size s.site.shape r.col) r.broken kills c.in-Ok.target =
    fresh_in s m (Some r) (column_size s.site.shape r.col) r.broken kills c.in-Ok.target c.choose_column.ensures.becomes
    (subst (λ (n : ℕ). IsFresh m n r.broken kills c.in-Ok.target) size (c.in-Ok.ensures.found r was)) in
    let w = calm_setting s in
    sound_after w (request_of who.0 number (call_in c.args.slip.now)) c.args.clock.now c.args.clock.now false s c.aim.new.segment c.requires.sound
    (makes_aim w s c.aim.new.segment who.0 number c.args.clock.now (call_in c.args.slip.now) r c.in-Ok.target r.broken kills is.idle is.chosen place becomes)

pub returns-in-Ok-clause-exact : goal.returns-in-Ok-clause-exact
returns-in-Ok-clause-exact g c = λ w knows.
    let s = c.args.segment.now in
    let who = c.args.asker.caller in
    let number : ℕ = c.args.asker.number in
    let is = start s who.0 number c.args.slip.now (call_in c.args.slip.now) c.requires.sound c.requires.next c.requires.asked in
    let r : Rebuilding = chosen who.0 number s.cols s.rebuild in
    let becomes = aimed_is s c.choose_column.new.segment c.aim.new.segment r c.in-Ok.target c.choose_column.ensures.becomes c.aim.ensures in
    let kills = g.B.Board.kills c.place_for_rebuild.new.board in
    let m = c.choose_column.new.segment in
    let was : m.rebuild ≡ Some r = ap (λ (x : Seg). x.rebuild) c.choose_column.ensures.becomes in
    let size = ap (λ (x : Seg). column_size x.site.shape r.col) c.choose_column.ensures.becomes in
    let place : IsFresh s (column_size s.site.shape r.col) r.broken kills c.in-Ok.target =
    fresh_in s m (Some r) (column_size s.site.shape r.col) r.broken kills c.in-Ok.target c.choose_column.ensures.becomes
    (subst (λ (n : ℕ). IsFresh m n r.broken kills c.in-Ok.target) size (c.in-Ok.ensures.found r was)) in
    exact_aim w.known s c.aim.new.segment who.0 number r c.in-Ok.target (g.B.Board.kills c.args.board.now) kills is.chosen place knows c.place_for_rebuild.ensures.board.1 becomes

pub returns-in-Ok-clause-outcome : goal.returns-in-Ok-clause-outcome
returns-in-Ok-clause-outcome g c =
    let s = c.args.segment.now in
    let who = c.args.asker.caller in
    let number : ℕ = c.args.asker.number in
    let is = start s who.0 number c.args.slip.now (call_in c.args.slip.now) c.requires.sound c.requires.next c.requires.asked in
    let r : Rebuilding = chosen who.0 number s.cols s.rebuild in
    let becomes = aimed_is s c.choose_column.new.segment c.aim.new.segment r c.in-Ok.target c.choose_column.ensures.becomes c.aim.ensures in
    let slip : c.put_reasons.new.self ≡ record c.choose_column.new.slip { reasons = Some (c.place_for_rebuild.new.reasons, c.take_reasons-first.result.1) } = rw (c.put_reasons.ensures, c.take_reasons-first.ensures.rest) refl in
    let begun : HasBegun c.choose_column.new.slip (call_in c.args.slip.now) = subst (λ (x : Paper). HasBegun x (call_in c.args.slip.now)) (sym c.choose_column.ensures.slip) is.begun in (
      opens_aim s c.aim.new.segment who.0 number r c.in-Ok.target is.chosen becomes ∙ ap (λ (x : Asked). Some (number, x)) (sym is.asked),
      subst (λ (x : Paper). HasBegun x (call_in c.args.slip.now)) (sym slip) (record {
        call_is = begun.call_is;
        link = begun.link;
        lists = λ e. (c.place_for_rebuild.new.reasons, c.take_reasons-first.result.1, refl);
        unanswered = begun.unanswered;
      }),
    )

pub returns-in-Ok-clause-looked : goal.returns-in-Ok-clause-looked
returns-in-Ok-clause-looked g c =
    let s = c.args.segment.now in
    let is = start s c.args.asker.caller.0 c.args.asker.number c.args.slip.now (call_in c.args.slip.now) c.requires.sound c.requires.next c.requires.asked in
    let reply : Paper → Option Reply = λ x. x.reply in
    let none = ap reply c.put_reasons.ensures ∙ (ap reply c.take_reasons-first.ensures.rest ∙ (ap reply c.choose_column.ensures.slip ∙ is.begun.unanswered)) in
    looked_none (g.P.Pools.Seen c.args.pools.now c.place_for_rebuild.new.pools) c.put_reasons.new.self.reply none

pub returns-in-Err-clause-looked : goal.returns-in-Err-clause-looked
returns-in-Err-clause-looked g c =
    vain_looked (g.P.Pools.Seen c.args.pools.now c.place_for_rebuild.new.pools) c.in-Err.missing c.place_for_rebuild.new.reasons c.give_up.new.slip.reply
    (ap (λ (x : Paper). x.reply) c.give_up.ensures.slip) c.in-Err.ensures.looked

pub returns-in-Ok-clause-costs : goal.returns-in-Ok-clause-costs
returns-in-Ok-clause-costs g c = λ none.
    let s = c.args.segment.now in
    let who = c.args.asker.caller in
    let number : ℕ = c.args.asker.number in
    let is = start s who.0 number c.args.slip.now (call_in c.args.slip.now) c.requires.sound c.requires.next c.requires.asked in
    let r : Rebuilding = chosen who.0 number s.cols s.rebuild in
    let becomes = aimed_is s c.choose_column.new.segment c.aim.new.segment r c.in-Ok.target c.choose_column.ensures.becomes c.aim.ensures in
    costs_nothing s c.aim.new.segment who.0 (call_in c.args.slip.now) (ap (λ (x : Seg). x.cols) becomes) is.bare

pub returns-in-Ok-clause-rooms : goal.returns-in-Ok-clause-rooms
returns-in-Ok-clause-rooms g c = λ rest came.
    let s = c.args.segment.now in
    let who = c.args.asker.caller in
    let number : ℕ = c.args.asker.number in
    let is = start s who.0 number c.args.slip.now (call_in c.args.slip.now) c.requires.sound c.requires.next c.requires.asked in
    let r : Rebuilding = chosen who.0 number s.cols s.rebuild in
    let becomes = aimed_is s c.choose_column.new.segment c.aim.new.segment r c.in-Ok.target c.choose_column.ensures.becomes c.aim.ensures in
    let Came = g.P.Pools.Came c.place_for_rebuild.new.pools in
    let more = c.in-Ok.ensures.rooms (rooms_of s ++ rest) came in
    subst (λ (x : Seg). Came (rooms_of x ++ rest)) (sym becomes) (subst (λ (xs : List Room). Came (c.in-Ok.target.room ∷ (xs ++ rest))) (rooms_bare s is.bare) more)

pub returns-in-Ok-clause-balance : goal.returns-in-Ok-clause-balance
returns-in-Ok-clause-balance g c =
    let s = c.args.segment.now in
    let who = c.args.asker.caller in
    let number : ℕ = c.args.asker.number in
    let is = start s who.0 number c.args.slip.now (call_in c.args.slip.now) c.requires.sound c.requires.next c.requires.asked in
    let r : Rebuilding = chosen who.0 number s.cols s.rebuild in
    let becomes = aimed_is s c.choose_column.new.segment c.aim.new.segment r c.in-Ok.target c.choose_column.ensures.becomes c.aim.ensures in
    let before = g.P.Pools.free c.args.pools.now in
    let after = g.P.Pools.free c.place_for_rebuild.new.pools in
    let rooms = map (λ (x : Col). x.room) s.cols in
    let b : Balances before after rooms (c.in-Ok.target.room ∷ rooms) = beside before after [] [] (c.in-Ok.target.room ∷ []) rooms c.in-Ok.ensures.balance in
    subst (λ (x : Seg). Balances before after (rooms_of s) (rooms_of x)) (sym becomes)
    (subst (λ (xs : List Room). Balances before after xs (c.in-Ok.target.room ∷ rooms)) (sym (rooms_bare s is.bare)) b)

-- ---- ended in vain

pub returns-in-Err-clause-makes : goal.returns-in-Err-clause-makes
returns-in-Err-clause-makes g c = λ w setting known.
    let s = c.args.segment.now in
    let who = c.args.asker.caller in
    let number : ℕ = c.args.asker.number in
    let is = start s who.0 number c.args.slip.now (call_in c.args.slip.now) c.requires.sound c.requires.next c.requires.asked in
    let r : Rebuilding = chosen who.0 number s.cols s.rebuild in
    let slip : call_in c.take_reasons-first.new.self ≡ Rebuild = ap call_in c.take_reasons-first.ensures.rest ∙ (ap call_in c.choose_column.ensures.slip ∙ (ap (λ (x : Option Asked). unwrap_or x Merge) is.begun.call_is ∙ is.asked)) in
    let reply = vain c.in-Err.missing c.place_for_rebuild.new.reasons in
    let end = ended_is s c.choose_column.new.segment c.give_up.new.segment r who number c.give_up.new.clock c.args.clock.now (call_in c.take_reasons-first.new.self) reply c.choose_column.ensures.becomes slip
    c.give_up.ensures.becomes c.give_up.ensures.clock c.give_up.ensures.follows in
    let kills = g.B.Board.kills c.place_for_rebuild.new.board in
    let m = c.choose_column.new.segment in
    let was : m.rebuild ≡ Some r = ap (λ (x : Seg). x.rebuild) c.choose_column.ensures.becomes in
    let none = λ (e : c.in-Err.missing ≡ Spare). spare_in s m (Some r) r.col kills c.place_for_rebuild.new.reasons c.choose_column.ensures.becomes (c.in-Err.ensures.missing r was e) in
    rw (c.give_up.ensures.outcome, is.asked) (makes_end w s c.give_up.new.segment who number c.give_up.new.clock c.args.clock.now r kills c.in-Err.missing c.place_for_rebuild.new.reasons c.requires.sound setting known
    is.idle is.few is.some c.requires.asked.newest is.chosen none end.next end.follows end.becomes)

pub returns-in-Err-clause-sound : goal.returns-in-Err-clause-sound
returns-in-Err-clause-sound g c =
    let s = c.args.segment.now in
    let who = c.args.asker.caller in
    let number : ℕ = c.args.asker.number in
    let is = start s who.0 number c.args.slip.now (call_in c.args.slip.now) c.requires.sound c.requires.next c.requires.asked in
    let r : Rebuilding = chosen who.0 number s.cols s.rebuild in
    let slip : call_in c.take_reasons-first.new.self ≡ Rebuild = ap call_in c.take_reasons-first.ensures.rest ∙ (ap call_in c.choose_column.ensures.slip ∙ (ap (λ (x : Option Asked). unwrap_or x Merge) is.begun.call_is ∙ is.asked)) in
    let reply = vain c.in-Err.missing c.place_for_rebuild.new.reasons in
    let end = ended_is s c.choose_column.new.segment c.give_up.new.segment r who number c.give_up.new.clock c.args.clock.now (call_in c.take_reasons-first.new.self) reply c.choose_column.ensures.becomes slip
    c.give_up.ensures.becomes c.give_up.ensures.clock c.give_up.ensures.follows in
    let kills = g.B.Board.kills c.place_for_rebuild.new.board in
    let m = c.choose_column.new.segment in
    let was : m.rebuild ≡ Some r = ap (λ (x : Seg). x.rebuild) c.choose_column.ensures.becomes in
    let none = λ (e : c.in-Err.missing ≡ Spare). spare_in s m (Some r) r.col kills c.place_for_rebuild.new.reasons c.choose_column.ensures.becomes (c.in-Err.ensures.missing r was e) in
    let w = killed_setting s kills in
    sound_after w (request_of who.0 number Rebuild) c.args.clock.now c.give_up.new.clock true s c.give_up.new.segment c.requires.sound
    (makes_end w s c.give_up.new.segment who number c.give_up.new.clock c.args.clock.now r kills c.in-Err.missing c.place_for_rebuild.new.reasons c.requires.sound (killed_setting_is s kills) (λ x. refl)
    is.idle is.few is.some c.requires.asked.newest is.chosen none end.next end.follows end.becomes)

pub returns-in-Err-clause-exact : goal.returns-in-Err-clause-exact
returns-in-Err-clause-exact g c = λ w knows.
    let s = c.args.segment.now in
    let who = c.args.asker.caller in
    let number : ℕ = c.args.asker.number in
    let is = start s who.0 number c.args.slip.now (call_in c.args.slip.now) c.requires.sound c.requires.next c.requires.asked in
    let r : Rebuilding = chosen who.0 number s.cols s.rebuild in
    let slip : call_in c.take_reasons-first.new.self ≡ Rebuild = ap call_in c.take_reasons-first.ensures.rest ∙ (ap call_in c.choose_column.ensures.slip ∙ (ap (λ (x : Option Asked). unwrap_or x Merge) is.begun.call_is ∙ is.asked)) in
    let reply = vain c.in-Err.missing c.place_for_rebuild.new.reasons in
    let end = ended_is s c.choose_column.new.segment c.give_up.new.segment r who number c.give_up.new.clock c.args.clock.now (call_in c.take_reasons-first.new.self) reply c.choose_column.ensures.becomes slip
    c.give_up.ensures.becomes c.give_up.ensures.clock c.give_up.ensures.follows in
    rw c.give_up.ensures.outcome (exact_end s c.give_up.new.segment who number c.give_up.new.clock Rebuild reply end.becomes)

pub returns-in-Err-clause-outcome : goal.returns-in-Err-clause-outcome
returns-in-Err-clause-outcome g c =
    let s = c.args.segment.now in
    let who = c.args.asker.caller in
    let number : ℕ = c.args.asker.number in
    let is = start s who.0 number c.args.slip.now (call_in c.args.slip.now) c.requires.sound c.requires.next c.requires.asked in
    let r : Rebuilding = chosen who.0 number s.cols s.rebuild in
    let slip : call_in c.take_reasons-first.new.self ≡ Rebuild = ap call_in c.take_reasons-first.ensures.rest ∙ (ap call_in c.choose_column.ensures.slip ∙ (ap (λ (x : Option Asked). unwrap_or x Merge) is.begun.call_is ∙ is.asked)) in
    let reply = vain c.in-Err.missing c.place_for_rebuild.new.reasons in
    let end = ended_is s c.choose_column.new.segment c.give_up.new.segment r who number c.give_up.new.clock c.args.clock.now (call_in c.take_reasons-first.new.self) reply c.choose_column.ensures.becomes slip
    c.give_up.ensures.becomes c.give_up.ensures.clock c.give_up.ensures.follows in
    let at = ap (λ (x : Seg). length x.log) c.choose_column.ensures.becomes in
    rw (c.give_up.ensures.outcome, is.asked) (outcome_end s c.give_up.new.segment who number c.give_up.new.clock (length c.choose_column.new.segment.log) Rebuild reply c.give_up.new.slip is.idle at end.becomes
    (ap (λ (x : Paper). x.reply) c.give_up.ensures.slip))

pub returns-in-Err-clause-costs : goal.returns-in-Err-clause-costs
returns-in-Err-clause-costs g c = λ none.
    let s = c.args.segment.now in
    let who = c.args.asker.caller in
    let number : ℕ = c.args.asker.number in
    let is = start s who.0 number c.args.slip.now (call_in c.args.slip.now) c.requires.sound c.requires.next c.requires.asked in
    let r : Rebuilding = chosen who.0 number s.cols s.rebuild in
    let slip : call_in c.take_reasons-first.new.self ≡ Rebuild = ap call_in c.take_reasons-first.ensures.rest ∙ (ap call_in c.choose_column.ensures.slip ∙ (ap (λ (x : Option Asked). unwrap_or x Merge) is.begun.call_is ∙ is.asked)) in
    let reply = vain c.in-Err.missing c.place_for_rebuild.new.reasons in
    let end = ended_is s c.choose_column.new.segment c.give_up.new.segment r who number c.give_up.new.clock c.args.clock.now (call_in c.take_reasons-first.new.self) reply c.choose_column.ensures.becomes slip
    c.give_up.ensures.becomes c.give_up.ensures.clock c.give_up.ensures.follows in
    costs_nothing s c.give_up.new.segment who.0 (call_in c.args.slip.now) (ap (λ (x : Seg). x.cols) end.becomes) is.bare

pub returns-in-Err-clause-rooms : goal.returns-in-Err-clause-rooms
returns-in-Err-clause-rooms g c = λ rest came.
    let s = c.args.segment.now in
    let who = c.args.asker.caller in
    let number : ℕ = c.args.asker.number in
    let is = start s who.0 number c.args.slip.now (call_in c.args.slip.now) c.requires.sound c.requires.next c.requires.asked in
    let r : Rebuilding = chosen who.0 number s.cols s.rebuild in
    let slip : call_in c.take_reasons-first.new.self ≡ Rebuild = ap call_in c.take_reasons-first.ensures.rest ∙ (ap call_in c.choose_column.ensures.slip ∙ (ap (λ (x : Option Asked). unwrap_or x Merge) is.begun.call_is ∙ is.asked)) in
    let reply = vain c.in-Err.missing c.place_for_rebuild.new.reasons in
    let end = ended_is s c.choose_column.new.segment c.give_up.new.segment r who number c.give_up.new.clock c.args.clock.now (call_in c.take_reasons-first.new.self) reply c.choose_column.ensures.becomes slip
    c.give_up.ensures.becomes c.give_up.ensures.clock c.give_up.ensures.follows in
    let Came = g.P.Pools.Came c.place_for_rebuild.new.pools in
    let same = c.in-Err.ensures.rooms (rooms_of s ++ rest) came in
    subst (λ (x : Seg). Came (rooms_of x ++ rest)) (sym end.becomes) (subst (λ (xs : List Room). Came (xs ++ rest)) (rooms_bare s is.bare) same)

pub returns-in-Err-clause-balance : goal.returns-in-Err-clause-balance
returns-in-Err-clause-balance g c =
    let s = c.args.segment.now in
    let who = c.args.asker.caller in
    let number : ℕ = c.args.asker.number in
    let is = start s who.0 number c.args.slip.now (call_in c.args.slip.now) c.requires.sound c.requires.next c.requires.asked in
    let r : Rebuilding = chosen who.0 number s.cols s.rebuild in
    let slip : call_in c.take_reasons-first.new.self ≡ Rebuild = ap call_in c.take_reasons-first.ensures.rest ∙ (ap call_in c.choose_column.ensures.slip ∙ (ap (λ (x : Option Asked). unwrap_or x Merge) is.begun.call_is ∙ is.asked)) in
    let reply = vain c.in-Err.missing c.place_for_rebuild.new.reasons in
    let end = ended_is s c.choose_column.new.segment c.give_up.new.segment r who number c.give_up.new.clock c.args.clock.now (call_in c.take_reasons-first.new.self) reply c.choose_column.ensures.becomes slip
    c.give_up.ensures.becomes c.give_up.ensures.clock c.give_up.ensures.follows in
    let before = g.P.Pools.free c.args.pools.now in
    let after = g.P.Pools.free c.place_for_rebuild.new.pools in
    let rooms = map (λ (x : Col). x.room) s.cols in
    let b : Balances before after rooms rooms = beside before after [] [] [] rooms c.in-Err.ensures.balance in
    subst (λ (x : Seg). Balances before after (rooms_of s) (rooms_of x)) (sym end.becomes) (subst (λ (xs : List Room). Balances before after xs rooms) (sym (rooms_bare s is.bare)) b)
