-- A replay's scenario, whose lines were moved out, prints as the whole one.
use Rattle.std.proofs.Common.{◌≡◌, List, All, get_or, length, sym, ap, ◌∙◌, arith}
use Rattle.std.proofs.lemmas.List.{get_or_default}
use Rattle.cod_chronicle.specs.Said.{Site}
use Rattle.cod_script.specs.Script.{Script}
use Rattle.cod_seg.specs.Seg.{Seg}
use Rattle.cod_shell.specs.Lines.{IsNamed, PrintsAs}
use Rattle.cod_shell.proofs.Bare.{names_same}
use Rattle.cod_advance.specs.Worlds.{AreSegmentsOf, no_seg, seg_at}
use Rattle.cod_replay.specs.Standing.{IsBareOf}
use Rattle.cod_replay.specs.State.{course_of, State}

pub prints_as : (whole bare : Script) → IsBareOf whole bare → PrintsAs whole bare
prints_as whole bare b = record { same = b.same; count = b.count; names = b.names }

-- each segment has a name
pub all_named : (s : State) (bare : Script) → IsBareOf s.script bare → AreSegmentsOf (course_of s) s.segs → All (IsNamed bare) s.segs
all_named s bare b are k d lt =
    let here : seg_at s.segs k ≡ get_or s.segs k d = get_or_default s.segs k no_seg d lt in
    let is = are.each k lt in
    let site = ap (λ (t : Seg). t.site) (sym here) ∙ is.site in
    let place : (get_or s.segs k d).site.segment ≡ k = ap (λ (t : Site). t.segment) site in
    let shape : (get_or s.segs k d).site.shape ≡ s.script.shape = ap (λ (t : Site). t.shape) site in
    record {
      there = omega (arith, place, lt, are.count, ap length (names_same s.script bare (prints_as s.script bare b)));
      shape = shape ∙ ap (λ (x : Script). x.shape) (sym b.same);
    }

pub count_same : (s : State) (bare : Script) → IsBareOf s.script bare → AreSegmentsOf (course_of s) s.segs → length s.segs ≡ length bare.segments
count_same s bare b are = are.count ∙ ap length (sym (names_same s.script bare (prints_as s.script bare b)))
