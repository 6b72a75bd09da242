-- Where a segment is: what of it no event changes.
use Rattle.std.specs.Prelude.{◌≡◌}
use Rattle.cod_accounts.specs.Holding.{Ground}
use Rattle.cod_seg.specs.Seg.{Seg}
use Rattle.cod_seg.specs.Sound.{is_frail}
use Rattle.cod_stripe.specs.Standing.{name_of}

-- its site, and on which nodes a region of it may fail
abbrev pub ground_of : Seg → Ground
ground_of s = record { site = s.site; may = is_frail s.frail }

-- two segments at one place, whose rooms are of the same pools
pub record SamePlace (s t : Seg) : Type 0 where
  pub site : t.site ≡ s.site
  pub frail : t.frail ≡ s.frail
  pub pools : t.pools ≡ s.pools

-- the name of a segment tells its place
abbrev pub NamesTell : Type 0
NamesTell = (s t : Seg) → name_of t ≡ name_of s → SamePlace s t
