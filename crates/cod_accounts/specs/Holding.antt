-- What one hold of a segment's turn comes to, for a caller's call.
use Rattle.std.specs.Prelude.{◌≡◌, ◌⊎◌, ℕ, ◌≤◌, Bool, is_some, List, [], ◌∷◌, ◌++◌, length, Option, Some, None, option_map}
use Rattle.cod_types.specs.declared.call.Call.{Call as Asked}
use Rattle.cod_types.specs.declared.call.Reply.{Reply}
use Rattle.cod_chronicle.specs.declared.entry.Entry.{Entry}
use Rattle.cod_chronicle.specs.declared.entry.Entry.TheVariants.{Call}
use Rattle.cod_chronicle.specs.Event.{NodeKill, Kills, Request, Setting, Event}
use Rattle.cod_chronicle.specs.Said.{Site, last_stamp}
use Rattle.cod_chronicle.specs.Standing.{OpenCalls}
use Rattle.cod_board.specs.declared.kill.Kill.{Kill as Killed}
use Rattle.cod_board.specs.Kills.{kill_of}

-- Where a segment is, and on which nodes a region of it may fail.
pub record Ground : Type 0 where
  pub site : Site
  pub may : ℕ → Bool

-- the kills on a board, as events see them
abbrev pub plain_kill : Killed → NodeKill
plain_kill k = record { line = k.line; clock = k.clock }

abbrev pub kills_at : List (Option Killed) → Kills
kills_at kills node = option_map plain_kill (kill_of kills node)

-- an event on this ground, whose board has these kills before it and those after it
abbrev pub setting : Ground → (before after : List (Option Killed)) → Setting
setting g before after = record { site = g.site; known = kills_at before; seen = kills_at after; may = g.may }

-- what a call was answered: where its entry stands, its stamp, and the reply
pub record Answer : Type 0 where
  pub position : ℕ
  pub stamp : ℕ
  pub reply : Reply

-- the entry of an answered call
abbrev pub entry_of : Request → (stamp : ℕ) → Reply → Entry
entry_of r stamp reply = Call record { 0 = r.caller } r.number stamp r.call reply

-- What a hold leaves: where it didn't answer, the caller has open what it had, or its call. Where it did, nothing is open, and the call's
-- entry is the last, with the caller's clock afterwards as its stamp.
abbrev pub Leaves : (r : Request) (after : ℕ) (old entries : List Entry) (was is : Option (ℕ × Asked)) → Option Answer → Type 0
Leaves r after old entries was is None = (is ≡ was) ⊎ (is ≡ Some (r.number, r.call))
Leaves r after old entries was is (Some a) =
    (is ≡ None) × (marks : List Entry) × (entries ≡ marks ++ entry_of r a.stamp a.reply ∷ []) × (a.position ≡ length (old ++ marks)) × (a.stamp ≡ after)

-- One hold: an event, by which the list grows, and what is left of the call.
pub record Hold (w : Setting) (r : Request) (t after : ℕ) (old now : List Entry) (was is : OpenCalls) (answer : Option Answer) : Type 0 where
  pub range : t ≤ last_stamp
  pub entries : List Entry
  pub grown : now ≡ old ++ entries
  pub event : Event w r old t entries after (is_some answer)
  pub leaves : Leaves r after old entries (was r.caller) (is r.caller) answer
