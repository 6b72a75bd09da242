-- The changes of an update, while the old bytes of its parts are brought into them.
use Rattle.std.specs.Prelude.{◌≡◌, ℕ, ◌+◌, ◌<◌, false, true, List, length, map, None, Some, All}
use Rattle.cod_types.specs.Plain.{bytes_at}
use Rattle.cod_layout.specs.declared.parts.Part.{Part}
use Rattle.cod_layout.specs.Parts.{parts_of, place_of}
use Rattle.cod_chronicle.specs.Said.{bytes_of}
use Rattle.cod_claims.specs.Changes.{Change, LiesInside, new_bytes}
use Rattle.cod_claims.specs.Slips.{AreWhole, change_at, changes_of, Paper}
use Rattle.cod_seg.specs.Seg.{Seg}
use Rattle.cod_seg.specs.Sound.{begin_of}
use Rattle.cod_segment.specs.Events.{call_in}

-- the parts of these changes
abbrev pub parts_in : List Change → List Part
parts_in cs = map (λ (c : Change). c.part) cs

-- these are the bytes of a change's part
abbrev pub HasOld : Seg → Change → Type 0
HasOld s c = c.bytes ≡ bytes_at (bytes_of s.site s.log) (place_of s.site.shape.block c.part) c.part.len

-- A slip has its update, and a change for each of its parts. Where regions tell what they hold, each of the first i has its part's bytes.
pub record IsFilling (s : Seg) (i : ℕ) (p : Paper) : Type 0 where
  pub has : p.call ≡ Some (call_in p)
  pub links : p.links ≡ 1
  pub unanswered : p.reply ≡ None
  pub early : p.are_made ≡ false
  pub some : p.changes ≡ Some (changes_of p)
  pub parts : parts_in (changes_of p) ≡ parts_of s.site.shape.k s.site.shape.block (begin_of (call_in p)) (length (new_bytes (call_in p)))
  pub asked : All (λ (c : Change). c.call ≡ call_in p) (changes_of p)
  pub inside : All LiesInside (changes_of p)
  pub from : All (λ (c : Change). c.at + begin_of (call_in p) ≡ place_of s.site.shape.block c.part) (changes_of p)
  pub sized : AreWhole (changes_of p)
  pub old : s.site.told ≡ true → (j : ℕ) → j < i → HasOld s (change_at (changes_of p) j)
