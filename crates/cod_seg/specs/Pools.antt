-- The rooms of a segment get badges of shared pools, or give them back.
use Rattle.std.specs.Prelude.{Option, map}
use Rattle.std.specs.Option.{option_map}
use Rattle.atomic_table.specs.Seated.{TableId}
use Rattle.cod_place.specs.Room.{Room}
use Rattle.cod_seg.specs.Seg.{Col, Rebuilding, Seg, Target}
use Rattle.cod_seg.specs.Sound.{Sound}

-- a room with a badge of these pools, or with none
abbrev pub owned_room : Option TableId → Room → Room
owned_room of r = record r { of = of }

abbrev pub owned_col : Option TableId → Col → Col
owned_col of c = record c { room = owned_room of c.room }

abbrev pub owned_target : Option TableId → Target → Target
owned_target of t = record t { room = owned_room of t.room }

abbrev pub owned_rebuild : Option TableId → Rebuilding → Rebuilding
owned_rebuild of r = record r { target = option_map (owned_target of) r.target }

-- the segment with such rooms
abbrev pub owned : Option TableId → Seg → Seg
owned of s = record s { pools = of; cols = map (owned_col of) s.cols; rebuild = option_map (owned_rebuild of) s.rebuild }

-- Where all its rooms change their badges, and nothing else changes, a segment stays sound.
abbrev pub OwnerKeeps : Type 0
OwnerKeeps = (s : Seg) (of : Option TableId) → Sound s → Sound (owned of s)
