-- A hold that adds no entry.
use Rattle.std.proofs.Common.{◌≡◌, ℕ, ◌<◌, List, [], ◌∷◌, Option, Some, None, refl, sym, ap, ◌∙◌, subst}
use Rattle.std.proofs.lemmas.List.{append-nil}
use Rattle.cod_chronicle.specs.declared.entry.Entry.{Entry}
use Rattle.cod_chronicle.specs.Standing.{OpenCalls}
use Rattle.cod_seats.specs.Totals.{times}
use Rattle.cod_seats.proofs.Totals.{times-here}
use Rattle.cod_turn.specs.declared.view.View.{View}
use Rattle.cod_turn.specs.Turning.{FollowsByOne, callers, all_at}
use Rattle.cod_turn.proofs.Totals.{firsts-all_at}
use Rattle.bench_turn.specs.declared.meter.Meter.{Meter}

abbrev pub list_of : Meter → List Entry
list_of m = m.chronicle

abbrev pub nothing : Meter → List ℕ
nothing m = []

abbrev pub nothing_open : Meter → OpenCalls
nothing_open m c = None

abbrev pub Happens : ℕ → List Entry → List ℕ → OpenCalls → List Entry → List ℕ → OpenCalls → Type 0
Happens by h g o h' g' o' = Unit {0}

pub follows : (cs : List ℕ) (one : (n : ℕ) × (cs ≡ n ∷ [])) (x y : Meter) → y.chronicle ≡ x.chronicle → FollowsByOne nothing list_of nothing nothing_open Happens cs x y
follows cs one x y same = record {
  by = one.0;
  mine = subst (λ (ns : List ℕ). 0 < times one.0 ns) (sym one.1) (times-here one.0 []);
  step = record { name_stays = refl; added = []; grown = same ∙ sym (append-nil x.chronicle); calls = tt; others = λ c off. refl; happens = tt };
}
