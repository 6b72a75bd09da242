-- Accounts with more calls, and those of joined seats.
use Rattle.std.proofs.Common.{ℕ, List, [], ◌∷◌, ◌++◌, inl, inr, append-nil}
use mathlib.Core.List.{IsPrefix}
use Rattle.cod_chronicle.specs.declared.entry.Entry.{Entry}
use Rattle.cod_chronicle.specs.Event.{Kills}
use Rattle.cod_seats.proofs.Found.{has_left, has_last}
use Rattle.cod_accounts.specs.Accounts.{Account, Accounts, Knows}
use Rattle.cod_accounts.specs.Working.{Knowing, Told}
use Rattle.cod_accounts.proofs.Accounting.{at_more, account_more}

-- the same knowledge, with these kills and further clocks
abbrev pub later : Knowing → Kills → List ℕ → Knowing
later k kills ts = record { caller = k.caller; kills = kills; may = k.may; clocks = k.clocks ++ ts }

pub told_more : (k : Knowing) (kills : Kills) (ts : List ℕ) (b : List Entry) (e : Entry) → Knows k.kills kills → Told k b e → Told (later k kills ts) b e
told_more k kills ts b e more g = (g.0, has_left g.0 k.clocks ts g.1, account_more k.caller k.kills kills k.may more g.0 b e g.2)

-- what has its account keeps it
pub accounts_stay : (k : Knowing) (kills : Kills) (ts : List ℕ) (h : List Entry) (is : List ℕ) → Knows k.kills kills → Accounts (Told k) h [] is → Accounts (Told (later k kills ts)) h [] is
accounts_stay k kills ts h is more all place some = elim (all place some) [
  | inl none ↦ inl none
  | inr a ↦ inr (at_more (Told k) (Told (later k kills ts)) h h place (λ b e g. told_more k kills ts b e more g) ([], append-nil h) a)
]

-- The entries that a pass added before a call and in it have their account.
pub accounts_go_on : (k : Knowing) (kills : Kills) (t : ℕ) (h now : List Entry) (was is : List ℕ) → Knows k.kills kills → IsPrefix h now → Accounts (Told k) h [] was
    → Accounts (Account k.caller kills k.may t) now was is → Accounts (Told (later k kills (t ∷ []))) now [] is
accounts_go_on k kills t h now was is more p before new place some = elim (new place some) [
  | inl old ↦ elim (before place old) [
    | inl none ↦ inl none
    | inr a ↦ inr (at_more (Told k) (Told (later k kills (t ∷ []))) h now place (λ b e g. told_more k kills (t ∷ []) b e more g) p a)
  ]
  | inr a ↦ inr (at_more (Account k.caller kills k.may t) (Told (later k kills (t ∷ []))) now now place (λ b e g. (t, has_last t k.clocks, g)) ([], append-nil now) a)
]
