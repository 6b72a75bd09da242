-- The numbers of chronicles are within their types.
use Rattle.std.specs.Prelude.{All, List}
use Rattle.cod_types.specs.declared.reasons.Reason.{Reason}
use Rattle.cod_chronicle.specs.declared.entry.Entry.{Entry}
use Rattle.cod_text.specs.Unique.{EntryFits, Fits, WhyFits}

-- the numbers of a reason, and of all entries, are within their types
abbrev pub ReasonFits : Reason → Type 0
ReasonFits r = Fits r.node.0 × WhyFits r.why

abbrev pub AllFit : {T : Type 0} → (entries : T → List Entry) → List T → Type 0
AllFit entries all = All (λ t. All EntryFits (entries t)) all
