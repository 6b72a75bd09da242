use Rattle.std.proofs.Common.{◌≡◌, ℕ, ◌+◌, ◌<◌, length, get_or, refl, sym, ◌∙◌, subst, ap}
use Rattle.std.proofs.lemmas.List.{get_or_read}
use Rattle.cod_place.specs.Rooms.{CameFrom}
use Rattle.cod_seg.specs.Seg.{Seg}
use Rattle.cod_segment.specs.Events.{HasRoom, IsAsked, rooms_of, call_in}
use Rattle.cod_advance.specs.Worlds.{no_seg, seg_at}
use Rattle.cod_replay.specs.State.{State}
use Rattle.cod_replay.specs.Standing.{Stands}
use Rattle.cod_replay.specs.Tasks.{Play, slip_in, task_of}
use Rattle.cod_replay.proofs.Rooming.{came_one}
use Rattle.cod_replay.proofs.Turning.{asked, event_left, has_room, kept_on, nodes_are, play_is, seg_there, serve_stands, served_is, shape_is, small_number, still_left, sure}
use Rattle.cod_replay.proofs.replay.Replay.serve.Goals as goal

stands : (was now : State) → was ≡ now → Stands was → Stands now
stands was now view st = subst Stands view st

seg_is : (was now : State) (i : ℕ) (u : Seg) → was ≡ now → i < length now.segs → u ≡ get_or was.segs i u → u ≡ seg_at now.segs i
seg_is was now i u view there is = get_or_read was.segs i u (rw view there) is no_seg ∙ ap (λ (s : State). seg_at s.segs i) view

pub index_mut-stripe-requires : goal.index_mut-stripe-requires
index_mut-stripe-requires g c =
    let st = stands _ c.args.self.now c.self.view_is c.self.invariant.stands in
    rw c.self.inside.stripes.ok.0 (subst (λ (s : State). c.args.seg.0 < length s.segs) (sym c.self.view_is) (seg_there c.args.self.now c.args.client c.args.seg st c.requires.client c.requires.due))

pub advance-outcome-requires-clause-due : goal.advance-outcome-requires-clause-due
advance-outcome-requires-clause-due g c =
    rw (play_is _ c.args.self.now c.self.view_is c.args.client c.requires.client c.index_mut-player.result.now c.index_mut-player.ensures.value) c.requires.due

pub advance-outcome-requires-clause-asked : goal.advance-outcome-requires-clause-asked
advance-outcome-requires-clause-asked g c =
    let st = stands _ c.args.self.now c.self.view_is c.self.invariant.stands in
    let j = seg_there c.args.self.now c.args.client c.args.seg st c.requires.client c.requires.due in
    let p = play_is _ c.args.self.now c.self.view_is c.args.client c.requires.client c.index_mut-player.result.now c.index_mut-player.ensures.value in
    let u = seg_is _ c.args.self.now c.args.seg.0 c.index_mut-stripe.result.now c.self.view_is j c.index_mut-stripe.ensures.value in
    subst (λ (x : Seg). IsAsked x c.index_mut-player.result.now.caller c.index_mut-player.result.now.number (slip_in (task_of c.index_mut-player.result.now))
    (call_in (slip_in (task_of c.index_mut-player.result.now)))) (sym u)
    (subst (λ (x : Play). IsAsked (seg_at c.args.self.now.segs c.args.seg.0) x.caller x.number (slip_in (task_of x)) (call_in (slip_in (task_of x)))) (sym p)
    (asked c.args.self.now c.args.client c.args.seg st c.requires.client c.requires.due))

pub advance-outcome-requires-clause-board : goal.advance-outcome-requires-clause-board
advance-outcome-requires-clause-board g c =
    let st = stands _ c.args.self.now c.self.view_is c.self.invariant.stands in
    let j = seg_there c.args.self.now c.args.client c.args.seg st c.requires.client c.requires.due in
    let u = seg_is _ c.args.self.now c.args.seg.0 c.index_mut-stripe.result.now c.self.view_is j c.index_mut-stripe.ensures.value in
    ap (λ (s : State). length s.kills) c.self.view_is ∙ st.board ∙ nodes_are c.args.self.now c.args.seg.0 st j ∙ sym (ap (λ (x : Seg). x.site.nodes) u)

pub advance-outcome-requires-clause-pools : goal.advance-outcome-requires-clause-pools
advance-outcome-requires-clause-pools g c =
    let st = stands _ c.args.self.now c.self.view_is c.self.invariant.stands in
    let j = seg_there c.args.self.now c.args.client c.args.seg st c.requires.client c.requires.due in
    let u = seg_is _ c.args.self.now c.args.seg.0 c.index_mut-stripe.result.now c.self.view_is j c.index_mut-stripe.ensures.value in
    ap (λ (s : State). length s.pools.free) c.self.view_is ∙ st.pools ∙ nodes_are c.args.self.now c.args.seg.0 st j ∙ sym (ap (λ (x : Seg). x.site.nodes) u)

pub advance-outcome-requires-clause-came : goal.advance-outcome-requires-clause-came
advance-outcome-requires-clause-came g c =
    let st = stands _ c.args.self.now c.self.view_is c.self.invariant.stands in
    let j = seg_there c.args.self.now c.args.client c.args.seg st c.requires.client c.requires.due in
    let u = seg_is _ c.args.self.now c.args.seg.0 c.index_mut-stripe.result.now c.self.view_is j c.index_mut-stripe.ensures.value in
    subst (λ (s : State). CameFrom s.pools (rooms_of c.index_mut-stripe.result.now)) (sym c.self.view_is)
    (subst (λ (x : Seg). CameFrom c.args.self.now.pools (rooms_of x)) (sym u) (came_one c.args.self.now.pools c.args.self.now.segs c.args.seg.0 j st.came))

pub advance-outcome-requires-clause-shelf : goal.advance-outcome-requires-clause-shelf
advance-outcome-requires-clause-shelf g c =
    let st = stands _ c.args.self.now c.self.view_is c.self.invariant.stands in
    let j = seg_there c.args.self.now c.args.client c.args.seg st c.requires.client c.requires.due in
    let u = seg_is _ c.args.self.now c.args.seg.0 c.index_mut-stripe.result.now c.self.view_is j c.index_mut-stripe.ensures.value in
    let f = ap (λ (x : Seg). x.frail) u ∙ st.frail c.args.seg.0 j ∙ sym (ap (λ (s : State). s.frail) c.self.view_is) in
    let n = ap (λ (x : Seg). x.site.nodes) u ∙ sym (nodes_are c.args.self.now c.args.seg.0 st j) ∙ sym (ap (λ (s : State). s.script.nodes) c.self.view_is) in
    λ node there none. sure (g.H.Shelf.regions c.self.inside.shelf) c.self.inside.whole.value.nodes node (rw n at there) (rw f at none)

pub advance-outcome-requires-clause-bench : goal.advance-outcome-requires-clause-bench
advance-outcome-requires-clause-bench g c =
    let st = stands _ c.args.self.now c.self.view_is c.self.invariant.stands in
    let j = seg_there c.args.self.now c.args.client c.args.seg st c.requires.client c.requires.due in
    let u = seg_is _ c.args.self.now c.args.seg.0 c.index_mut-stripe.result.now c.self.view_is j c.index_mut-stripe.ensures.value in
    c.self.invariant.bench ∙ ap (λ (s : State). s.script.shape) c.self.view_is ∙ shape_is c.args.self.now c.args.seg.0 st j ∙ sym (ap (λ (x : Seg). x.site.shape) u)

pub advance-outcome-requires-clause-number : goal.advance-outcome-requires-clause-number
advance-outcome-requires-clause-number g c =
    let st = stands _ c.args.self.now c.self.view_is c.self.invariant.stands in
    let p = play_is _ c.args.self.now c.self.view_is c.args.client c.requires.client c.index_mut-player.result.now c.index_mut-player.ensures.value in
    subst (λ (x : Play). x.number + 1 < 4294967296) (sym p) (small_number c.args.self.now c.args.client c.args.seg st c.requires.client c.requires.due)

pub advance-outcome-requires-clause-room : goal.advance-outcome-requires-clause-room
advance-outcome-requires-clause-room g c =
    let st = stands _ c.args.self.now c.self.view_is c.self.invariant.stands in
    let j = seg_there c.args.self.now c.args.client c.args.seg st c.requires.client c.requires.due in
    let u = seg_is _ c.args.self.now c.args.seg.0 c.index_mut-stripe.result.now c.self.view_is j c.index_mut-stripe.ensures.value in
    subst (λ (x : Seg). HasRoom (x.site.shape.n + 2) x) (sym u) (has_room c.args.self.now c.args.client c.args.seg st c.requires.client c.requires.due)

pub settle-requires : goal.settle-requires
settle-requires g c =
    let st = stands _ c.args.self.now c.self.view_is c.self.invariant.stands in
    let p = play_is _ c.args.self.now c.self.view_is c.args.client c.requires.client c.index_mut-player.result.now c.index_mut-player.ensures.value in
    let left = event_left c.args.self.now c.args.client c.args.seg st c.requires.client c.requires.due in
    still_left c.args.seg c.advance-outcome.result c.index_mut-player.result.now c.advance-outcome.new.self _ _ c.advance-outcome.ensures.client
    (subst (λ (x : Play). x.next < length x.tasks) (sym p) left)

pub invariant_of-self : goal.invariant_of-self
invariant_of-self g c =
    let st = stands _ c.args.self.now c.self.view_is c.self.invariant.stands in
    let j = seg_there c.args.self.now c.args.client c.args.seg st c.requires.client c.requires.due in
    let u = seg_is _ c.args.self.now c.args.seg.0 c.index_mut-stripe.result.now c.self.view_is j c.index_mut-stripe.ensures.value in
    let served = served_is _ c.args.self.now c.self.view_is c.args.client c.requires.client c.index_mut-player.result.now c.index_mut-player.ensures.value c.args.seg
    c.advance-outcome.result c.index_mut-stripe.result.now c.advance-outcome.new.stripe c.advance-outcome.new.pools c.advance-outcome.new.board
    c.advance-outcome.new.self c.settle.new.self u c.advance-outcome.ensures.event c.advance-outcome.ensures.client c.settle.ensures c.advance-outcome.ensures.board in
    rw c.advance-outcome.ensures.bench
    (kept_on _ _ c.self.inside.scenario c.self.inside.bench c.self.invariant refl
    (serve_stands c.args.self.now _ c.args.client c.args.seg c.advance-outcome.result st c.requires.client c.requires.due served))

pub returns : goal.returns
returns g c =
    let st = stands _ c.args.self.now c.self.view_is c.self.invariant.stands in
    let j = seg_there c.args.self.now c.args.client c.args.seg st c.requires.client c.requires.due in
    let u = seg_is _ c.args.self.now c.args.seg.0 c.index_mut-stripe.result.now c.self.view_is j c.index_mut-stripe.ensures.value in
    served_is _ c.args.self.now c.self.view_is c.args.client c.requires.client c.index_mut-player.result.now c.index_mut-player.ensures.value c.args.seg
    c.advance-outcome.result c.index_mut-stripe.result.now c.advance-outcome.new.stripe c.advance-outcome.new.pools c.advance-outcome.new.board
    c.advance-outcome.new.self c.settle.new.self u c.advance-outcome.ensures.event c.advance-outcome.ensures.client c.settle.ensures c.advance-outcome.ensures.board
