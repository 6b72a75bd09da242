-- What a whole call comes to, from its first hold to its answer.
use Rattle.std.specs.Prelude.{◌≡◌, ℕ, ◌<◌, true, List, [], ◌∷◌, ◌++◌, length, Some, None}
use mathlib.Core.List.{IsPrefix}
use Rattle.cod_types.specs.declared.call.Reply.{Reply}
use Rattle.cod_chronicle.specs.declared.entry.Entry.{Entry}
use Rattle.cod_chronicle.specs.Event.{Request, IsSeenReply}
use Rattle.cod_chronicle.specs.Legal.{IsLegal}
use Rattle.cod_chronicle.specs.Said.{Precedes, calls_by, is_down, node_of}
use Rattle.cod_chronicle.specs.Standing.{OpenCalls}
use Rattle.cod_board.specs.declared.kill.Kill.{Kill}
use Rattle.cod_board.specs.Seats.{kills_in}
use Rattle.cod_board.specs.Words.{known}
use Rattle.cod_turn.specs.declared.view.View.{View}
use Rattle.cod_accounts.specs.Accounts.{Accounts, Account, Comes}
use Rattle.cod_accounts.specs.Holding.{Ground, entry_of, kills_at}

-- A call was answered: the list has what the pass had seen there as a prefix, and ends with the entry at `position`. Of the caller's calls
-- it has one more. `first` are the kills that the pass's board seat had seen when the call began, `last` those that it has seen since: at
-- the call's entry each column is down whose node was known as killed.
pub record Called (g : Ground) (r : Request) (t after : ℕ) (first last : List (ℕ × Kill)) (old now : List Entry) (position stamp : ℕ) (reply : Reply) : Type 0 where
  pub before : List Entry
  pub begins : IsPrefix old before
  pub ends : now ≡ before ++ entry_of r stamp reply ∷ []
  pub place : position ≡ length before
  pub calls : calls_by r.caller now ≡ calls_by r.caller old ++ entry_of r stamp reply ∷ []
  pub legal : IsLegal g.site now
  pub clock : stamp ≡ after
  pub rises : Precedes t after
  pub out : (i : ℕ) (k : Kill) → i < g.site.shape.n → node_of g.site before i < g.site.nodes → known (node_of g.site before i) first ≡ Some k → is_down before i ≡ true
  pub given : IsSeenReply (kills_at (kills_in g.site.nodes last)) g.may reply

-- Values that stand for chronicles
module _ {T : Type 0} (log : T → List Entry) (opened : T → OpenCalls) where
  -- What a whole call did to the seat of its segment, which has this one caller. Each entry that was added in it has its account.
  pub record Made (g : Ground) (r : Request) (t after : ℕ) (first last : List (ℕ × Kill)) (v u : View T) (position stamp : ℕ) (reply : Reply) : Type 0 where
    pub old : T
    pub now : T
    pub was : v.own ≡ (r.caller, old) ∷ []
    pub is : u.own ≡ (r.caller, now) ∷ []
    pub name : u.name ≡ v.name
    pub none : opened now r.caller ≡ None
    pub called : Called g r t after first last (log old) (log now) position stamp reply
    pub accounts : Accounts (Account r.caller (kills_at (kills_in g.site.nodes last)) g.may t) (log now) v.places u.places
    pub comes : Comes (kills_at (kills_in g.site.nodes last)) t (log now) after
