-- Steps after steps, and what a round over the columns keeps.
use Rattle.std.specs.Prelude.{◌≡◌, ◌⊎◌, ℕ, ◌+◌, ◌<◌, ◌≤◌, length, List, true, ◌∷◌, ◌++◌}
use Rattle.cod_types.specs.Plain.{bytes_at}
use Rattle.cod_types.specs.declared.call.Call.TheVariants.{Read}
use Rattle.cod_types.specs.declared.call.Caller.{Caller}
use Rattle.cod_types.specs.declared.call.Reply.TheVariants.{Bytes}
use Rattle.cod_chronicle.specs.declared.entry.Entry.{Entry}
use Rattle.cod_chronicle.specs.declared.entry.Entry.TheVariants.{Call}
use Rattle.cod_chronicle.specs.Said.{bytes_of, numbers_by}
use Rattle.cod_seg.specs.Seg.{col_at, Seg}
use Rattle.cod_seg.specs.Sound.{Sound}
use Rattle.cod_seg.specs.Steps.{Goes, Marks, Works}

-- any steps, and then any others
abbrev pub GoesOn : Type 0
GoesOn = (s t u : Seg) → Goes s t → Goes t u → Goes s u

-- at most column i is touched: it is worked on, or goes down
abbrev pub Touches : (i : ℕ) (s t : Seg) → Type 0
Touches i s t = (t ≡ s) ⊎ (Works i s t ⊎ Marks i s t)

-- What a round leaves and keeps that has touched m columns, from this one on: it may have marked them down and worked on them,
-- and columns behind them are as they were.
pub record Runs (from m : ℕ) (s t : Seg) : Type 0 where
  pub goes : Goes s t
  pub sound : Sound t
  pub site : t.site ≡ s.site
  pub frail : t.frail ≡ s.frail
  pub pools : t.pools ≡ s.pools
  pub cuts : t.cuts ≡ s.cuts
  pub claims : t.claims ≡ s.claims
  pub version : t.version ≡ s.version
  pub rebuild : t.rebuild ≡ s.rebuild
  pub log : length t.log ≤ length s.log + m
  pub numbers : (who : ℕ) → numbers_by who t.log ≡ numbers_by who s.log
  pub rest : (j : ℕ) → from + m ≤ j → col_at t.cols j ≡ col_at s.cols j

abbrev pub RunsStart : Type 0
RunsStart = (from : ℕ) (s : Seg) → Sound s → Runs from 0 s s

-- one column more
abbrev pub RunsOn : Type 0
RunsOn = (from m i : ℕ) (s t u : Seg) → i ≡ from + m → i < s.site.shape.n → Runs from m s t → Touches i t u → Runs from (m + 1) s u

-- Of a sound segment each read that was answered with bytes has the bytes that a plain segment has there, after the calls
-- before it.
abbrev pub ReadsArePlain : Type 0
ReadsArePlain = (s : Seg) (before after : List Entry) (caller : Caller) (number stamp off len : ℕ) (bytes : List ℕ) → Sound s → s.site.told ≡ true
    → s.log ≡ before ++ Call caller number stamp (Read off len) (Bytes bytes) ∷ after → bytes ≡ bytes_at (bytes_of s.site before) off len
