-- What a chronicle says with one more entry, and what is kept where it says the same of the columns.
use Rattle.atomic_table.specs.Seated.{TableId}
use Rattle.std.proofs.Common.{◌≡◌, ◌≢◌, ℕ, List, [], ◌∷◌, ◌++◌, Bool, true, false, cond, sym, ap, ◌∙◌, inl, inr, arith, Some, None, Option}
use Rattle.std.specs.Prelude.{not}
use Rattle.std.proofs.lemmas.Bool.{ne_eqb, cases_Bool, both_ways}
use Rattle.cod_types.specs.declared.call.Call.{Call as Asked}
use Rattle.cod_types.specs.declared.call.Caller.{Caller}
use Rattle.cod_types.specs.declared.call.Reply.{Reply}
use Rattle.cod_chronicle.specs.declared.entry.Entry.{Entry}
use Rattle.cod_chronicle.specs.declared.entry.Entry.TheVariants.{Call}
use Rattle.cod_chronicle.specs.Said.{Site, is_down, is_over, node_of, number_by, numbers_by, fault_of}
use Rattle.cod_chronicle.proofs.Growth.{is_down-push, node_of-push, numbers_same, fault_of-push}
use Rattle.cod_chronicle.proofs.Legality.{over_mono}
use Rattle.cod_seg.specs.Seg.{Col, col_at, Rebuilding, Target}
use Rattle.cod_seg.specs.Sound.{AreColumns, HasTarget, IsColumn, IsTarget, MayRebuild}
use Rattle.cod_seg.specs.Steps.{KeepsTarget}

-- of the columns a later chronicle says the same
pub record SaysSame (site : Site) (log later : List Entry) : Type 0 where
  pub down : (i : ℕ) → is_down later i ≡ is_down log i
  pub node : (i : ℕ) → node_of site later i ≡ node_of site log i
  pub fault : (i : ℕ) → fault_of later i ≡ fault_of log i

-- a call says nothing new of the columns
pub call_says : (site : Site) (log : List Entry) (caller : Caller) (number stamp : ℕ) (call : Asked) (reply : Reply) → SaysSame site log (log ++ Call caller number stamp call reply ∷ [])
call_says site log caller number stamp call reply =
    let e : Entry = Call caller number stamp call reply in
    record { down = λ i. is_down-push log e i; node = λ i. node_of-push site log e i; fault = λ i. fault_of-push log e i }

-- a caller's numbers stay where another calls
pub other_numbers : (who : ℕ) (log : List Entry) (caller : Caller) (number stamp : ℕ) (call : Asked) (reply : Reply) → caller.0 ≢ who
    → numbers_by who (log ++ Call caller number stamp call reply ∷ []) ≡ numbers_by who log
other_numbers who log caller number stamp call reply other =
    let e : Entry = Call caller number stamp call reply in
    let none : number_by who e ≡ None = ap (λ (b : Bool). cond b (Some number) None) (ne_eqb caller.0 who other) in
    numbers_same who log e none

pub over_before : (site : Site) (log later : List Entry) → SaysSame site log later → is_over site later ≡ false → is_over site log ≡ false
over_before site log later says enough = elim (cases_Bool (is_over site log)) [
  | inl over ↦ absurd (both_ways (is_over site later) enough (over_mono site log later (λ i d. says.down i ∙ d) over))
  | inr not_over ↦ not_over
]

-- a column of which a later chronicle says the same
pub column_kept : (site : Site) (frail : List ℕ) (pools : Option TableId) (log later : List Entry) (i : ℕ) (c : Col) → is_down later i ≡ is_down log i → node_of site later i ≡ node_of site log i
    → fault_of later i ≡ fault_of log i
    → IsColumn site frail pools log i c → IsColumn site frail pools later i c
column_kept site frail pools log later i c down node fault is = record {
  there = is.there ∙ sym node;
  owned = is.owned;
  up = is.up ∙ ap not (sym down);
  shape = is.shape;
  tells = is.tells;
  full = is.full;
  clean = is.clean;
  marked = λ count e. is.marked count (sym fault ∙ e);
  sure = is.sure;
  fits = is.fits;
  roomy = is.roomy;
  block = is.block;
  plain = is.plain;
  reserve = is.reserve;
  exact = is.exact;
}

-- a target, where the columns' nodes are the same
pub target_kept : (site : Site) (frail : List ℕ) (pools : Option TableId) (log later : List Entry) (col : ℕ) (o : Option Target) → ((i : ℕ) → node_of site later i ≡ node_of site log i)
    → HasTarget site frail pools log col o → HasTarget site frail pools later col o
target_kept site frail pools log later col None nodes is = tt
target_kept site frail pools log later col (Some t) nodes is = record {
  alone = λ i lt e. is.alone i lt (sym (nodes i) ∙ e);
  known = is.known;
  owned = is.owned;
  tells = is.tells;
  full = is.full;
  clean = is.clean;
  sure = is.sure;
  fits = is.fits;
  roomy = is.roomy;
  size = is.size;
  within = is.within;
}

pub rebuild_kept : (site : Site) (frail : List ℕ) (pools : Option TableId) (log later : List Entry) (o : Option Rebuilding) → ((i : ℕ) → is_down log i ≡ true → is_down later i ≡ true)
    → ((i : ℕ) → node_of site later i ≡ node_of site log i)
    → MayRebuild site frail pools log o → MayRebuild site frail pools later o
rebuild_kept site frail pools log later None down nodes is = tt
rebuild_kept site frail pools log later (Some r) down nodes is = record {
  column = is.column;
  down = down r.col is.down;
  honest = is.honest;
  goal = target_kept site frail pools log later r.col r.target nodes is.goal;
}

pub columns_told : (site : Site) (frail : List ℕ) (pools : Option TableId) (log later : List Entry) (cols : List Col) → SaysSame site log later → AreColumns site frail pools log cols
    → AreColumns site frail pools later cols
columns_told site frail pools log later cols says are = record {
  size = are.size;
  most = are.most;
  each = λ i lt. column_kept site frail pools log later i (col_at cols i) (says.down i) (says.node i) (says.fault i) (are.each i lt);
  apart = λ i j a b e. are.apart i j a b (sym (says.node i) ∙ e ∙ says.node j);
  known = λ i lt. let m = says.node i in let k = are.known i lt in omega (arith, m, k);
}

pub rebuild_told : (site : Site) (frail : List ℕ) (pools : Option TableId) (log later : List Entry) (o : Option Rebuilding) → SaysSame site log later → MayRebuild site frail pools log o
    → MayRebuild site frail pools later o
rebuild_told site frail pools log later o says is = rebuild_kept site frail pools log later o (λ i d. says.down i ∙ d) says.node is

-- a target that was written, and has not failed
pub target_written : (site : Site) (frail : List ℕ) (pools : Option TableId) (log : List Entry) (col : ℕ) (old new : Target) → KeepsTarget old new → IsTarget site frail pools log col old
    → IsTarget site frail pools log col new
target_written site frail pools log col old new keeps is = rw keeps.same (record {
  alone = is.alone;
  known = is.known;
  owned = is.owned;
  tells = keeps.tells ∙ is.tells;
  full = keeps.full;
  clean = keeps.faults ∙ is.clean;
  sure = λ e. keeps.never_fails ∙ is.sure e;
  fits = let z = keeps.size in let f = is.fits in omega (arith, z, f);
  roomy = λ e. is.roomy e ∙ sym keeps.size;
  size = keeps.size ∙ is.size;
  within = is.within;
})
