-- What any number of steps keep.
use Rattle.cod_seg.specs.Seg.{Seg}
use Rattle.cod_seg.specs.Sound.{Sound}
use Rattle.cod_seg.specs.Steps.{Goes, stays, goes, Step, begins, applies, notes, commits, puts, spoils, answers, loses, marks, works, aims, fills, rises, moves}
use Rattle.cod_seg.proofs.Committing.{commit_keeps}
use Rattle.cod_seg.proofs.Keeping.{answers_keep, works_keep}
use Rattle.cod_seg.proofs.Marking.{applies_keep, notes_keep}
use Rattle.cod_seg.proofs.Falling.{marks_keep}
use Rattle.cod_seg.proofs.Beginning.{loses_keep}
use Rattle.cod_seg.proofs.Claimings.{begins_keep}
use Rattle.cod_seg.proofs.Spoiling.{spoils_keep}
use Rattle.cod_seg.proofs.Targets.{aims_keep, fills_keep}
use Rattle.cod_seg.proofs.Arriving.{moves_keep, rises_keep}
use Rattle.cod_seg.proofs.Putting.{puts_keep}

pub step_keeps : (s t : Seg) → Sound s → Step s t → Sound t
step_keeps s t sound (begins r) = begins_keep s t sound r
step_keeps s t sound (applies j r) = applies_keep s t j sound r
step_keeps s t sound (notes j i high below r) = notes_keep s t j i high below sound r
step_keeps s t sound (commits r) = commit_keeps s t sound r
step_keeps s t sound (puts r) = puts_keep s t sound r
step_keeps s t sound (spoils r) = spoils_keep s t sound r
step_keeps s t sound (answers r) = answers_keep s t sound r
step_keeps s t sound (loses r) = loses_keep s t sound r
step_keeps s t sound (marks i below r) = marks_keep s t i below sound r
step_keeps s t sound (works i below r) = works_keep s t i below sound r
step_keeps s t sound (aims r) = aims_keep s t sound r
step_keeps s t sound (fills r) = fills_keep s t sound r
step_keeps s t sound (rises r) = rises_keep s t sound r
step_keeps s t sound (moves i below r) = moves_keep s t i below sound r

pub goes_keep : (s t : Seg) → Sound s → Goes s t → Sound t
goes_keep s t sound (stays u) = sound
goes_keep s t sound (goes a b c before r) = step_keeps b c (goes_keep s b sound before) r
