-- The begin of a rebuild, and its end in vain.
use Rattle.std.specs.Prelude.{ℕ, ◌-◌, None, Option, replicate, Some, unwrap_or, List}
use Rattle.cod_types.specs.declared.call.Reply.{Reply}
use Rattle.cod_types.specs.declared.call.Reply.TheVariants.{NoMem, NoSpare}
use Rattle.cod_types.specs.declared.reasons.Reason.{Reason}
use Rattle.cod_claims.specs.Slips.{Paper}
use Rattle.cod_repair.specs.Columns.{first_down}
use Rattle.cod_seg.specs.Seg.{Col, Rebuilding}
use Rattle.cod_placing.specs.declared.placing.Missing.{Missing}
use Rattle.cod_placing.specs.declared.placing.Missing.TheVariants.{Memory, Spare}

-- The rebuild of a call: the one in progress, or else one of the lowest column that is down, for which no node is broken.
abbrev pub chosen : (caller number : ℕ) → List Col → Option Rebuilding → Rebuilding
chosen caller number cols None = record { caller = caller; number = number; col = unwrap_or (first_down cols) 0; broken = replicate 64 None; target = None }
chosen caller number cols (Some r) = r

-- one that begins takes the places of its two marks
abbrev pub slip_for : Option Rebuilding → Paper → Paper
slip_for None p = record p { links = p.links - 1 - 1 }
slip_for (Some r) p = p

-- the reply where no place is found
abbrev pub vain : Missing → List Reason → Reply
vain Spare reasons = NoSpare reasons
vain Memory reasons = NoMem
