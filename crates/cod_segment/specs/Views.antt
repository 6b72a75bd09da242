-- What is seen of a segment through its columns.
use Rattle.std.specs.Prelude.{Bool, List, is_some, Option}
use Rattle.atomic_table.specs.Seated.{TableId}
use Rattle.cod_seg.specs.Seg.{Col, col_at}

-- whether regions tell what they hold: the first column's does
abbrev pub told_by : List Col → Bool
told_by cols = is_some (col_at cols 0).state.device.content

-- of which pools the rooms have badges: the first column's
abbrev pub pools_by : List Col → Option TableId
pools_by cols = (col_at cols 0).room.of
