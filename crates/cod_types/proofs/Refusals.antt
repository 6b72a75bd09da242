-- A call that its own numbers don't refuse lies in the segment.
use Rattle.std.proofs.Common.{◌≡◌, ◌+◌, ◌≤◌, Bool, true, false, cond, Some, None, length, refl, arith}
use Rattle.std.specs.Prelude.{nat_lt, ◌==◌, ◌||◌, not}
use Rattle.std.proofs.lemmas.Bool.{ltb-false, eqb-true}
use Rattle.cod_types.specs.Limits.{segment_length}
use Rattle.cod_types.specs.Accepted.{IsUpdate, IsSwap, ReadsInside, WritesUpdate, SwapsUpdate, PutsWhole}
use Rattle.cod_types.specs.declared.call.Reply.TheVariants.{Range, Long}

pub reads_inside : ReadsInside
reads_inside g off len r = by (nat_lt (segment_length g) (off + len)) refl r where
  by : (o : Bool) → nat_lt (segment_length g) (off + len) ≡ o → cond o (Some Range) None ≡ None → off + len ≤ segment_length g
  by true e r = cc
  by false e r = ltb-false (segment_length g) (off + len) e

pub writes_update : WritesUpdate
writes_update g off bytes r = by (nat_lt (segment_length g) (off + length bytes)) (nat_lt g.update (length bytes)) refl refl r where
  by : (o u : Bool) → nat_lt (segment_length g) (off + length bytes) ≡ o → nat_lt g.update (length bytes) ≡ u → cond o (Some Range) (cond u (Some Long) None) ≡ None → IsUpdate g off bytes
  by true u e f r = cc
  by false true e f r = cc
  by false false e f r = record { inside = ltb-false (segment_length g) (off + length bytes) e; short = ltb-false g.update (length bytes) f }

pub swaps_update : SwapsUpdate
swaps_update g off old new r = by (nat_lt (segment_length g) (off + length old)) (nat_lt g.update (length new)) (length new == length old) refl refl refl r where
  by : (o u s : Bool) → nat_lt (segment_length g) (off + length old) ≡ o → nat_lt g.update (length new) ≡ u → (length new == length old) ≡ s
      → cond o (Some Range) (cond (u || not s) (Some Long) None) ≡ None → IsSwap g off old new
  by true u s e f h r = cc
  by false true s e f h r = cc
  by false false false e f h r = cc
  by false false true e f h r =
      let same : length new ≡ length old = eqb-true (length new) (length old) h in
      let within : off + length old ≤ segment_length g = ltb-false (segment_length g) (off + length old) e in
      record { update = record { inside = omega arith; short = ltb-false g.update (length new) f }; same = same }

pub puts_whole : PutsWhole
puts_whole g bytes r = by (length bytes == segment_length g) refl r where
  by : (s : Bool) → (length bytes == segment_length g) ≡ s → cond s None (Some Long) ≡ None → length bytes ≡ segment_length g
  by true h r = eqb-true (length bytes) (segment_length g) h
  by false h r = cc
