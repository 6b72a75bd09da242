-- What the steps of a rebuild's target keep.
use Rattle.std.proofs.Common.{◌≡◌, ℕ, ◌+◌, ◌-◌, ◌≤◌, List, length, get_or, Bool, true, false, cond, refl, sym, ap, ◌∙◌, subst, inl, inr, arith, Some, None, Option}
use Rattle.std.specs.Prelude.{nat_lt}
use Rattle.std.proofs.lemmas.Bool.{cases_lt}
use Rattle.cod_types.specs.Limits.{Shape}
use Rattle.cod_types.specs.Overwritten.{overwritten}
use Rattle.cod_types.proofs.Replaced.{byte_in, byte_before, get_or-overwritten, length-overwritten}
use Rattle.cod_code.specs.Segments.{column_byte}
use Rattle.cod_chronicle.specs.Said.{bytes_of}
use Rattle.cod_seg.specs.Seg.{Rebuilding, Seg, Target}
use Rattle.cod_seg.specs.Sound.{FillsRebuild, FillsTarget, HasTarget, IsFilled, IsRebuilding, IsSingle, IsTarget, MayRebuild, Sound}
use Rattle.cod_seg.specs.Steps.{Aims, Fills}
use Rattle.cod_seg.proofs.Marking.{is_some_map, written}

fills_nothing : (g : Shape) (b : List ℕ) (col : ℕ) (o : Option Target) → ((t : Target) → o ≡ Some t → t.filled ≡ 0) → FillsTarget g b col o
fills_nothing g b col None none = tt
fills_nothing g b col (Some t) none = λ held told x lt. let z = none t refl in absurd (omega (arith, z, lt))

rebuild_nothing : (g : Shape) (b : List ℕ) (o : Option Rebuilding) → ((r : Rebuilding) (t : Target) → o ≡ Some r → r.target ≡ Some t → t.filled ≡ 0) → FillsRebuild g b o
rebuild_nothing g b None none = tt
rebuild_nothing g b (Some r) none = fills_nothing g b r.col r.target (λ t e. none r t refl e)

pub aims_keep : (s t : Seg) → Sound s → Aims s t → Sound t
aims_keep s t sound step = rw step.becomes (record {
  shape = sound.shape;
  dated = sound.dated;
  history = sound.history;
  columns = sound.columns;
  cut = sound.cut;
  claimed = sound.claimed;
  rebuilt = step.goal;
  single = step.idle;
  holds = λ told enough.
      let old = sound.holds told enough in
      record { blocks = old.blocks; parities = old.parities; target = rebuild_nothing s.site.shape (bytes_of s.site s.log) t.rebuild step.nothing };
})

-- the target is at least as long as its column's block
target_long : (g : Shape) (col size : ℕ) → size ≡ cond (nat_lt col g.k) g.block (g.block + g.reserve) → g.block ≤ size
target_long g col size e = by (nat_lt col g.k) e where
  by : (t : Bool) → size ≡ cond t g.block (g.block + g.reserve) → g.block ≤ size
  by true e = omega (arith, e)
  by false e = omega (arith, e)

pub fills_keep : (s t : Seg) → Sound s → Fills s t → Sound t
fills_keep s t sound step =
    let g = s.site.shape in
    let b = bytes_of s.site s.log in
    let r = step.r in
    let old = step.t in
    let is : IsRebuilding s.site s.frail s.pools s.log r = subst (MayRebuild s.site s.frail s.pools s.log) step.was sound.rebuilt in
    let goal : IsTarget s.site s.frail s.pools s.log r.col old = subst (HasTarget s.site s.frail s.pools s.log r.col) step.goal is.goal in
    let long = target_long g r.col old.device.size goal.size in
    let fits = step.within in
    rw step.becomes (record {
      shape = sound.shape;
      dated = sound.dated;
      history = sound.history;
      columns = sound.columns;
      cut = sound.cut;
      claimed = sound.claimed;
      rebuilt = record {
        column = is.column;
        down = is.down;
        honest = is.honest;
        goal = record {
          alone = goal.alone;
          known = goal.known;
          owned = goal.owned;
          tells = is_some_map old.device.content (overwritten old.filled step.piece) ∙ goal.tells;
          full = λ held told.
              let w = written old.device.content old.filled step.piece held told in
              let f = goal.full w.0 w.1 in
              ap length (sym w.2) ∙ length-overwritten old.filled step.piece w.0 (omega (arith, f, long, fits)) ∙ f;
          clean = goal.clean;
          sure = goal.sure;
          fits = goal.fits;
          roomy = goal.roomy;
          size = goal.size;
          within = step.within;
        };
      };
      single = subst (IsSingle s.claims) step.was sound.single;
      holds = λ told enough.
          let before = sound.holds told enough in
          let first : FillsTarget g b r.col r.target = subst (FillsRebuild g b) step.was before.target in
          let filled : IsFilled g b r.col old = subst (FillsTarget g b r.col) step.goal first in
          record {
            blocks = before.blocks;
            parities = before.parities;
            target = λ held content x lt.
                let w = written old.device.content old.filled step.piece held content in
                let f = goal.full w.0 w.1 in
                ap (λ (l : List ℕ). get_or l x 0) (sym w.2) ∙ get_or-overwritten old.filled step.piece w.0 x (omega (arith, f, long, fits))
                ∙ elim (cases_lt x old.filled) [
                  | inl there ↦ byte_before x (get_or w.0 x 0) old.filled step.piece there ∙ filled w.0 w.1 x there
                  | inr new ↦
                      let at : old.filled + (x - old.filled) ≡ x = omega arith in
                      byte_in x (get_or w.0 x 0) old.filled step.piece new lt ∙ step.each told enough (x - old.filled) (omega (arith, lt, new)) ∙ ap (column_byte g.k g.block r.col b) at
                ];
          };
    })
