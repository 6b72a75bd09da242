use Rattle.std.proofs.Common.{◌≡◌, ℕ, refl, sym, ap, ◌∙◌, subst}
use Rattle.std.specs.Prelude.{is_some}
use Rattle.cod_types.specs.declared.call.NodeId.{NodeId}
use Rattle.cod_repair.specs.Columns.{is_taken as is_taken_by}
use Rattle.cod_place.specs.Spares.{IsSpare, candidates}
use Rattle.cod_seg.specs.Seg.{col_at, Seg, Target}
use Rattle.cod_segment.specs.Events.{rooms_of}
use Rattle.cod_placing.specs.Places.{IsFirst, IsFresh}
use Rattle.cod_placing.proofs.Finding.{first_is, fresh, given_balances, IsSearch, none_fits, owner_is, whys_looked}
use Rattle.cod_placing.proofs.placing.place_for.Goals as goal

pub returns-in-None-clause-missing : goal.returns-in-None-clause-missing
returns-in-None-clause-missing g c = λ same.
    let s = c.args.segment.now in
    let search : IsSearch s c.args.col c.node-after.result.0 c.taken-taken.result = record {
      among = c.requires.col;
      from = ap (λ (n : NodeId). n.0) c.node-after.ensures ∙ ap (λ (x : Seg). (col_at x.cols c.args.col).room.node.0) c.segment.view_is;
      taken_is = λ node. c.taken-taken.ensures node ∙ ap (λ (x : Seg). is_taken_by x.cols node) c.segment.view_is;
    } in
    let nodes = ap (λ (x : Seg). candidates c.node-after.result.0 c.taken-taken.result x.site.nodes) c.segment.view_is in
    none_fits s c.args.col c.node-after.result.0 c.taken-taken.result c.args.bytes c.args.broken.now (g.B.Board.kills c.spare.new.board) (g.P.Pools.Seen c.args.pools.now c.spare.new.pools)
    c.spare.new.reasons c.requires.sound search c.requires.bytes c.requires.broken (c.in-None.ensures.none.0 ∙ nodes) c.in-None.ensures.none.1

pub returns-in-None-clause-looked : goal.returns-in-None-clause-looked
returns-in-None-clause-looked g c = λ same.
    whys_looked c.args.bytes c.args.broken.now (g.B.Board.kills c.spare.new.board) (g.P.Pools.Seen c.args.pools.now c.spare.new.pools) c.spare.new.reasons c.in-None.ensures.none.1

pub returns-in-Err-clause-balance : goal.returns-in-Err-clause-balance
returns-in-Err-clause-balance g c =
    let room = c.in-Some.room in
    given_balances (g.P.Pools.free c.args.pools.now) (g.P.Pools.free c.spare.new.pools) (g.P.Pools.free c.give_back.new.pools) room.node.0 c.args.bytes room refl c.in-Some.ensures.found.0
    (λ f told. (c.in-Some.ensures.told f told).0) c.in-Some.ensures.free c.give_back.ensures.balance

pub returns-in-Ok-clause-found : goal.returns-in-Ok-clause-found
returns-in-Ok-clause-found g c =
    let s = c.args.segment.now in
    let room = c.in-Some.room in
    let search : IsSearch s c.args.col c.node-after.result.0 c.taken-taken.result = record {
      among = c.requires.col;
      from = ap (λ (n : NodeId). n.0) c.node-after.ensures ∙ ap (λ (x : Seg). (col_at x.cols c.args.col).room.node.0) c.segment.view_is;
      taken_is = λ node. c.taken-taken.ensures node ∙ ap (λ (x : Seg). is_taken_by x.cols node) c.segment.view_is;
    } in
    let kills = g.B.Board.kills c.spare.new.board in
    let spare : IsSpare c.args.broken.now kills (candidates c.node-after.result.0 c.taken-taken.result s.site.nodes) c.spare.new.reasons room.node.0 =
    subst (λ (x : Seg). IsSpare c.args.broken.now kills (candidates c.node-after.result.0 c.taken-taken.result x.site.nodes) c.spare.new.reasons room.node.0) c.segment.view_is c.in-Some.ensures.found.1 in
    let pools = c.spare.new.pools in
    let owned = owner_is (g.P.Pools.Came pools) (g.met.P.Pools.came_order pools) (g.met.P.Pools.came_front pools) (g.met.P.Pools.came_owner pools) s room c.requires.sound
    (c.in-Some.ensures.came (rooms_of s) c.requires.pools.2) in
    let t : Target = record { room = room; filled = 0; device = g.R.Region.device c.in-Ok.region } in
    let on : c.node.result ≡ room.node = c.node.ensures in
    let is = fresh s c.args.col c.node-after.result.0 c.taken-taken.result c.args.bytes c.args.broken.now kills c.spare.new.reasons (g.H.Shelf.regions c.args.shelf.now).never_fail t c.requires.sound search
    spare c.in-Some.ensures.found.0 refl owned
    (rw (← on) c.in-Ok.ensures.fresh) c.in-Ok.ensures.zeros (c.tells_as.ensures ∙ ap (λ (x : Seg). is_some (col_at x.cols 0).state.device.content) c.segment.view_is) c.requires.shelf in
    subst (λ (x : Target). IsFresh s c.args.bytes c.args.broken.now kills x) (sym c.new.ensures) is

pub returns-in-Ok-clause-first : goal.returns-in-Ok-clause-first
returns-in-Ok-clause-first g c =
    let s = c.args.segment.now in
    let room = c.in-Some.room in
    let search : IsSearch s c.args.col c.node-after.result.0 c.taken-taken.result = record {
      among = c.requires.col;
      from = ap (λ (n : NodeId). n.0) c.node-after.ensures ∙ ap (λ (x : Seg). (col_at x.cols c.args.col).room.node.0) c.segment.view_is;
      taken_is = λ node. c.taken-taken.ensures node ∙ ap (λ (x : Seg). is_taken_by x.cols node) c.segment.view_is;
    } in
    let kills = g.B.Board.kills c.spare.new.board in
    let spare : IsSpare c.args.broken.now kills (candidates c.node-after.result.0 c.taken-taken.result s.site.nodes) c.spare.new.reasons room.node.0 =
    subst (λ (x : Seg). IsSpare c.args.broken.now kills (candidates c.node-after.result.0 c.taken-taken.result x.site.nodes) c.spare.new.reasons room.node.0) c.segment.view_is c.in-Some.ensures.found.1 in
    let Mid : ℕ → ℕ → Type 0 = λ x n. (p : g.row.P.Denot) × g.P.Pools.same c.args.pools.now p × g.P.Pools.Seen c.args.pools.now p x n in
    let first = first_is s c.args.col c.node-after.result.0 c.taken-taken.result c.args.bytes room.node.0 c.args.broken.now kills Mid c.spare.new.reasons c.requires.sound search c.requires.bytes spare
    c.in-Some.ensures.found.2 in
    subst (λ (x : Target). IsFirst s c.args.col c.spare.new.reasons x.room.node.0) (sym c.new.ensures) first

pub returns-in-Err-clause-memory : goal.returns-in-Err-clause-memory
returns-in-Err-clause-memory g c = λ same.
    let s = c.args.segment.now in
    let room = c.in-Some.room in
    let search : IsSearch s c.args.col c.node-after.result.0 c.taken-taken.result = record {
      among = c.requires.col;
      from = ap (λ (n : NodeId). n.0) c.node-after.ensures ∙ ap (λ (x : Seg). (col_at x.cols c.args.col).room.node.0) c.segment.view_is;
      taken_is = λ node. c.taken-taken.ensures node ∙ ap (λ (x : Seg). is_taken_by x.cols node) c.segment.view_is;
    } in
    let kills = g.B.Board.kills c.spare.new.board in
    let spare : IsSpare c.args.broken.now kills (candidates c.node-after.result.0 c.taken-taken.result s.site.nodes) c.spare.new.reasons room.node.0 =
    subst (λ (x : Seg). IsSpare c.args.broken.now kills (candidates c.node-after.result.0 c.taken-taken.result x.site.nodes) c.spare.new.reasons room.node.0) c.segment.view_is c.in-Some.ensures.found.1 in
    let Mid : ℕ → ℕ → Type 0 = λ x n. (p : g.row.P.Denot) × g.P.Pools.same c.args.pools.now p × g.P.Pools.Seen c.args.pools.now p x n in
    let first = first_is s c.args.col c.node-after.result.0 c.taken-taken.result c.args.bytes room.node.0 c.args.broken.now kills Mid c.spare.new.reasons c.requires.sound search c.requires.bytes spare
    c.in-Some.ensures.found.2 in
    record { node = room.node.0; first = first; whole = spare.whole; up = spare.up }
