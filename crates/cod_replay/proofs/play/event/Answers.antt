use Rattle.std.proofs.Common.{◌≡◌, ℕ, ◌++◌, List, Option, Some, length, sym, ◌∙◌, ap, rules}
use Rattle.cod_board.specs.declared.kill.Kill.{Kill}
use Rattle.cod_chronicle.specs.Event.{Setting}
use Rattle.cod_claims.specs.Slips.{Paper}
use Rattle.cod_place.specs.Room.{Room}
use Rattle.cod_place.specs.Rooms.{CameFrom, Store}
use Rattle.cod_seg.specs.Seg.{Seg}
use Rattle.cod_segment.specs.declared.asking.Outcome.{Outcome}
use Rattle.cod_segment.specs.Advancing.{IsAdvanced}
use Rattle.cod_segment.specs.Events.{Balances, call_in, IsSettingOf, kills_at, request_of, rooms_of}
use Rattle.cod_segment.specs.Exact.{Turns}
use Rattle.cod_replay.specs.Serving.{HasEvent}
use Rattle.cod_replay.proofs.play.event.Goals as goal

-- the clock and the pools are what the event left in them
event_is : (kills later : List (Option Kill)) (caller number t clock lent : ℕ) (o : Outcome) (p q : Paper) (s u : Seg) (before pools shared : Store) → clock ≡ lent → pools ≡ shared
    → later ≡ kills
    → ((w : Setting) → IsSettingOf w s → ((x : ℕ) → w.known x ≡ kills_at kills x) → ((x : ℕ) → w.seen x ≡ kills_at later x)
    → Turns w (request_of caller number (call_in p)) t lent o s u)
    → IsAdvanced o (request_of caller number (call_in p)) lent u p q
    → ((rest : List Room) → CameFrom before (rooms_of s ++ rest) → CameFrom shared (rooms_of u ++ rest))
    → Balances (Some before.free) (Some shared.free) (rooms_of s) (rooms_of u) → length shared.free ≡ length before.free
    → HasEvent kills caller number t clock o p q s u before pools
event_is kills later caller number t clock lent o p q s u before pools shared c is same turns advanced rooms balance nodes = record {
  turns = λ w of known seen. rw c (turns w of known (λ x. seen x ∙ sym (ap (λ (ks : List (Option Kill)). kills_at ks x) same)));
  advanced = rw c advanced;
  rooms = λ rest came. rw is (rooms rest came);
  balance = rw is balance;
  nodes = ap (λ (s : Store). length s.free) is ∙ nodes;
}

pub returns-clause-event : goal.returns-clause-event
returns-clause-event g c =
    event_is c.args.board.now c.advance.new.around.board.now c.args.client.now.caller.0 c.args.client.now.number c.args.clock.now _ c.advance.new.around.clock.now
    c.advance.result c.args.slip.now c.advance.new.slip c.args.stripe.now c.advance.new.stripe c.args.pools.now _ c.advance.new.around.pools.now
    (search rules) (search rules) c.advance.ensures.board.3
    c.advance.ensures.turns c.advance.ensures.outcome c.advance.ensures.rooms c.advance.ensures.balance c.advance.ensures.pools.0
