-- The calls that are listed with a node.
use Rattle.std.proofs.Common.{◌≡◌, ◌==◌, ℕ, List, [], ◌∷◌, true, false, not, ◌||◌, Some, None, nat_eq, cond, length, refl, arith}
use Rattle.std.proofs.lemmas.Bool.{ne_eqb}
use Rattle.std.specs.List.{cons_option, list_any}
use Rattle.cod_types.specs.declared.call.NodeId.{NodeId}
use Rattle.cod_region.specs.Memory.{calls_of}

-- some fault is of the node exactly where a call is listed with it
pub any_listed : (faults : List (NodeId × ℕ)) (node : NodeId) → list_any (λ fault. nat_eq fault.0.0 node.0) faults ≡ not (length (calls_of faults node) == 0)
any_listed [] node = refl
any_listed (f ∷ fs) node =
    let rest = any_listed fs node in
    elim (nat_eq f.0.0 node.0) as (λ b. (b || list_any (λ fault. nat_eq fault.0.0 node.0) fs) ≡ not (length (cons_option (cond b (Some f.1) None) (calls_of fs node)) == 0)) [
      | true ↦ rw (ne_eqb (length (f.1 ∷ calls_of fs node)) 0 (λ e. omega (arith, e))) refl
      | false ↦ rest
    ]
