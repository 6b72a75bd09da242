-- What is left of a column by a call that failed.
use Rattle.std.specs.Prelude.{◌≡◌, ℕ, false}
use Rattle.cod_types.specs.Faults.{Rose}
use Rattle.cod_parity.specs.State.{State}
use Rattle.cod_seg.specs.Seg.{Col, col_at, Seg}
use Rattle.cod_seg.specs.Steps.{KeepsColumn}
use Rattle.cod_repair.specs.Columns.{faults_at, with_state}

-- a column that is down, in this state
abbrev pub fallen : State → Col → Col
fallen state c = record { room = c.room; is_up = false; state = state }

-- A call of column i's region failed. It may have left other bytes there, and nothing else has changed.
pub record FailsAt (i : ℕ) (old new : Seg) : Type 0 where
  pub state : State
  pub keeps : KeepsColumn old.site.shape old.frail i (col_at old.cols i) (fallen state (col_at old.cols i))
  pub rose : Rose (faults_at old.cols i) state.device.faults
  pub becomes : new ≡ record old { cols = with_state old.cols i state }
