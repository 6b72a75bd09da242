-- Rooms that change their badges.
use Rattle.std.proofs.Common.{◌≡◌, ℕ, ◌<◌, List, length, map, true, Option, Some, None, refl, sym, ◌∙◌, subst, arith}
use Rattle.std.specs.Option.{option_map}
use Rattle.std.proofs.lemmas.List.{get_or-map, length-map}
use Rattle.atomic_table.specs.Seated.{TableId}
use Rattle.cod_types.specs.Limits.{Shape}
use Rattle.cod_types.specs.Overwritten.{byte_of}
use Rattle.cod_code.specs.Segments.{column_byte}
use Rattle.cod_chronicle.specs.declared.entry.Entry.{Entry}
use Rattle.cod_chronicle.specs.Said.{bytes_of, Site}
use Rattle.cod_claims.specs.declared.claim.Claim.{Claim}
use Rattle.cod_claims.specs.Claimed.{claim_at, kept_of}
use Rattle.cod_data.specs.Values.{HasValue}
use Rattle.cod_parity.specs.Held.{Holds}
use Rattle.cod_seg.specs.Pools.{owned_col, owned_rebuild, owned_target, OwnerKeeps}
use Rattle.cod_seg.specs.Seg.{Col, col_at, no_col, Rebuilding, Target}
use Rattle.cod_seg.specs.Sound.{FillsRebuild, FillsTarget, HasTarget, IsColumn, IsSingle, MayRebuild, pending_on}

col_owned : (of : Option TableId) (cols : List Col) (i : ℕ) → i < length cols → col_at (map (owned_col of) cols) i ≡ owned_col of (col_at cols i)
col_owned of cols i below = get_or-map (owned_col of) cols i no_col no_col below

column_owned : (site : Site) (frail : List ℕ) (pools of : Option TableId) (log : List Entry) (i : ℕ) (c : Col) → IsColumn site frail pools log i c → IsColumn site frail of log i (owned_col of c)
column_owned site frail pools of log i c is = record {
  there = is.there;
  owned = refl;
  up = is.up;
  shape = is.shape;
  tells = is.tells;
  full = is.full;
  clean = is.clean;
  marked = is.marked;
  sure = is.sure;
  fits = is.fits;
  roomy = is.roomy;
  block = is.block;
  plain = is.plain;
  reserve = is.reserve;
  exact = is.exact;
}

target_owned : (site : Site) (frail : List ℕ) (pools of : Option TableId) (log : List Entry) (col : ℕ) (o : Option Target) → HasTarget site frail pools log col o
    → HasTarget site frail of log col (option_map (owned_target of) o)
target_owned site frail pools of log col None is = tt
target_owned site frail pools of log col (Some t) is = record {
  alone = is.alone;
  known = is.known;
  owned = refl;
  tells = is.tells;
  full = is.full;
  clean = is.clean;
  sure = is.sure;
  fits = is.fits;
  roomy = is.roomy;
  size = is.size;
  within = is.within;
}

rebuild_owned : (site : Site) (frail : List ℕ) (pools of : Option TableId) (log : List Entry) (o : Option Rebuilding) → MayRebuild site frail pools log o
    → MayRebuild site frail of log (option_map (owned_rebuild of) o)
rebuild_owned site frail pools of log None is = tt
rebuild_owned site frail pools of log (Some r) is =
    record { column = is.column; down = is.down; honest = is.honest; goal = target_owned site frail pools of log r.col r.target is.goal }

single_owned : (of : Option TableId) (claims : List (Option Claim)) (o : Option Rebuilding) → IsSingle claims o → IsSingle claims (option_map (owned_rebuild of) o)
single_owned of claims None single = tt
single_owned of claims (Some r) single = single

target_fills : (g : Shape) (b : List ℕ) (col : ℕ) (of : Option TableId) (o : Option Target) → FillsTarget g b col o → FillsTarget g b col (option_map (owned_target of) o)
target_fills g b col of None fills = tt
target_fills g b col of (Some t) fills = fills

rebuild_fills : (g : Shape) (b : List ℕ) (of : Option TableId) (o : Option Rebuilding) → FillsRebuild g b o → FillsRebuild g b (option_map (owned_rebuild of) o)
rebuild_fills g b of None fills = tt
rebuild_fills g b of (Some r) fills = target_fills g b r.col of r.target fills

pub owner_keeps : OwnerKeeps
owner_keeps s of sound =
    let g = s.site.shape in
    let size = sound.columns.size in
    let at : (i : ℕ) → i < g.n → col_at (map (owned_col of) s.cols) i ≡ owned_col of (col_at s.cols i) = λ i lt. col_owned of s.cols i (omega (arith, size, lt)) in
    record {
      shape = sound.shape;
      dated = sound.dated;
      history = sound.history;
      columns = record {
        size = length-map s.cols (owned_col of) ∙ size;
        most = sound.columns.most;
        each = λ i lt. subst (IsColumn s.site s.frail of s.log i) (sym (at i lt)) (column_owned s.site s.frail s.pools of s.log i (col_at s.cols i) (sound.columns.each i lt));
        apart = sound.columns.apart;
        known = sound.columns.known;
      };
      cut = sound.cut;
      claimed = sound.claimed;
      rebuilt = rebuild_owned s.site s.frail s.pools of s.log s.rebuild sound.rebuilt;
      single = single_owned of s.claims s.rebuild sound.single;
      holds = λ told few.
          let old = sound.holds told few in
          record {
            blocks = λ i low.
                let below : i < g.n = let m = sound.shape.data_among_columns in omega (arith, m, low) in
                subst (λ (c : Col). c.is_up ≡ true → HasValue c.state.device (byte_of (kept_of (claim_at s.claims i))) (column_byte g.k g.block i (bytes_of s.site s.log)))
                (sym (at i below)) (old.blocks i low);
            parities = λ i high below.
                subst (λ (c : Col). c.is_up ≡ true → Holds c.state s.cuts (column_byte g.k g.block i (bytes_of s.site s.log)) (pending_on g.k s.claims i))
                (sym (at i below)) (old.parities i high below);
            target = rebuild_fills g (bytes_of s.site s.log) of s.rebuild old.target;
          };
    }
