-- Of which segments a scene is.
use Rattle.std.specs.Prelude.{◌≡◌, ℕ, if◌then◌else◌, List, Option, Some, None, option_map}
use Rattle.cod_types.specs.Limits.{Shape}
use Rattle.cod_types.specs.declared.call.NodeId.{NodeId}
use Rattle.cod_claims.specs.declared.claim.Claim.{Claim}
use Rattle.cod_seg.specs.Seg.{Col, col_at, Rebuilding, Seg, Target}
use Rattle.cod_step.specs.declared.scene.Job.{Job}
use Rattle.cod_step.specs.Live.{node_at}

-- the node of a column that is up
abbrev pub live_in : Col → Option NodeId
live_in c = if c.is_up then Some c.room.node else None

-- these are the nodes of the columns that are up
abbrev pub AreLive : List (Option NodeId) → List Col → Type 0
AreLive live cols = (i : ℕ) → node_at live i ≡ live_in (col_at cols i)

abbrev pub job_in : Rebuilding → Job
job_in r = record { caller = record { 0 = r.caller }; number = r.number; done = option_map (λ (t : Target). t.filled) r.target }

-- A scene shows a segment: its geometry, the nodes of its columns that are up, its claims, and its rebuild in progress.
pub record Shows (shape : Shape) (live : List (Option NodeId)) (claims : List (Option Claim)) (job : Option Job) (s : Seg) : Type 0 where
  pub shape_is : shape ≡ s.site.shape
  pub live_is : AreLive live s.cols
  pub claims_are : claims ≡ s.claims
  pub job_is : job ≡ option_map job_in s.rebuild
