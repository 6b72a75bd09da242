-- Where calls are lost.
use Rattle.std.specs.Prelude.{◌≡◌, ◌≢◌, ◌⊎◌, ◌↔◌, ℕ, ◌-◌, ◌<◌, ◌≤◌, Bool, false, None, List, [], ◌∷◌, ◌++◌, length, All}
use Rattle.std.specs.List.{AllByRecursion}
use Rattle.cod_types.specs.Plain.{refusal}
use Rattle.cod_types.specs.declared.call.Caller.{Caller}
use Rattle.cod_types.specs.declared.call.Call.{Call as Asked}
use Rattle.cod_types.specs.declared.call.Reply.{Reply}
use Rattle.cod_types.specs.declared.call.Reply.TheVariants.{Lost}
use Rattle.cod_chronicle.specs.declared.entry.Entry.{Entry}
use Rattle.cod_chronicle.specs.declared.entry.Entry.TheVariants.{Call, Down}
use Rattle.cod_chronicle.specs.declared.entry.Cause.TheVariants.{Fault}
use Rattle.cod_chronicle.specs.Said.{Site, downs}
use Rattle.cod_chronicle.specs.Legal.{IsLegal}
use Rattle.cod_chronicle.specs.Order.{placed}
use Rattle.cod_script.specs.Script.{Script, Ask}
use Rattle.cod_script.specs.Owed.{IsFailLine, IsHistory}
use Rattle.cod_script.specs.Sound.{IsScenario}

-- it is one of these
abbrev pub IsOneOf : List ℕ → ℕ → Type 0
IsOneOf [] x = ⊥
IsOneOf (y ∷ ys) x = (x ≡ y) ⊎ IsOneOf ys x

-- a column goes down on one of these nodes alone
abbrev pub DownsOn : List ℕ → Entry → Type 0
DownsOn nodes (Down stamp col node cause) = IsOneOf nodes node.0
DownsOn nodes _ = Unit {0}

abbrev pub IsNotLost : Entry → Type 0
IsNotLost (Call caller number stamp call reply) = reply ≢ Lost
IsNotLost _ = Unit {0}

-- no column goes down by a region that failed
abbrev pub IsNoFault : Entry → Type 0
IsNoFault (Down stamp col node (Fault count)) = ⊥
IsNoFault _ = Unit {0}

-- A call that its numbers don't refuse is lost exactly where more columns are down than there are parity columns.
abbrev pub IsLostExactly : Type 0
IsLostExactly = (site : Site) (before rest : List Entry) (caller : Caller) (number stamp : ℕ) (call : Asked) (reply : Reply)
    → IsLegal site (before ++ (Call caller number stamp call reply) ∷ rest) → refusal site.shape call ≡ None
    → (reply ≡ Lost) ↔ (site.shape.n - site.shape.k < length (downs site before))

-- Where columns go down on at most so many nodes as there are parity columns, no call is lost.
abbrev pub NeverLost : Type 0
NeverLost = (site : Site) (nodes : List ℕ) (h : List Entry) → site.shape.n ≤ site.nodes → length nodes ≤ site.shape.n - site.shape.k
    → IsLegal site h → AllByRecursion (DownsOn nodes) h → AllByRecursion IsNotLost h

-- Where the shelf may fail on no node, no region failed.
abbrev pub NoFaultsWhereNoneMay : Type 0
NoFaultsWhereNoneMay = (told : Bool) (x : Script) (may : ℕ → Bool) (owes : ℕ → List Ask) (hs : List (List Entry))
    → IsHistory told x may owes hs → ((node : ℕ) → may node ≡ false) → All (λ p. IsNoFault p.entry) (placed hs)

-- In a history of a scenario whose `fail` lines name at most so many nodes, and where no region failed, no call is lost.
abbrev pub FewFailsLoseNothing : Type 0
FewFailsLoseNothing = (told : Bool) (x : Script) (may : ℕ → Bool) (owes : ℕ → List Ask) (hs : List (List Entry)) (nodes : List ℕ)
    → IsScenario x → IsHistory told x may owes hs
    → length nodes ≤ x.shape.n - x.shape.k → ((line node : ℕ) → IsFailLine x line node → IsOneOf nodes node)
    → All (λ p. IsNoFault p.entry) (placed hs) → All (λ p. IsNotLost p.entry) (placed hs)
