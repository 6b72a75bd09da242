-- What is printed of a run's end, by a scenario whose lines were moved out.
use Rattle.std.proofs.Common.{◌≡◌, ℕ, List, Option, length, refl, sym, ap, ◌∙◌, subst, arith}
use Rattle.cod_region.specs.Device.{AllRegions}
use Rattle.cod_board.specs.declared.kill.Kill.{Kill}
use Rattle.cod_place.specs.Rooms.{Store}
use Rattle.cod_script.specs.Script.{Script}
use Rattle.cod_seg.specs.Seg.{Seg}
use Rattle.cod_shell.specs.Lines.{PrintsAs}
use Rattle.cod_shell.proofs.Bare.{names_same, run_same}
use Rattle.cod_run.specs.declared.command.Command.{Command}
use Rattle.cod_run.specs.declared.command.Command.TheVariants.{Run, Summary}
use Rattle.cod_run.specs.Ends.{End, IsEnd, IsPrintable}
use Rattle.cod_run.specs.Runs.{Serves, text_of}

pub printable_bare : (whole bare : Script) (segs : List Seg) (kills : List (Option Kill)) (pools : Store) → PrintsAs whole bare → IsPrintable whole segs kills pools → IsPrintable bare segs kills pools
printable_bare whole bare segs kills pools b p =
    let names = sym (ap length (names_same whole bare b)) in
    record {
      count = p.count ∙ names;
      named = λ k d lt. record { there = (let n = (p.named k d lt).there in omega (arith, n, names)); shape = (p.named k d lt).shape ∙ sym (ap (λ (y : Script). y.shape) b.same) };
      nodes = p.nodes ∙ sym (ap (λ (y : Script). y.nodes) b.same);
      capacity = p.capacity ∙ sym (ap (λ (y : Script). y.capacity) b.same);
      free = p.free ∙ sym (ap (λ (y : Script). y.nodes) b.same);
      sums = p.sums;
    }

text_same : (command : Command) (whole bare : Script) → PrintsAs whole bare → (e : End) → text_of command bare e ≡ text_of command whole e
text_same Run whole bare b e = run_same whole bare b e.kills e.segs
text_same Summary whole bare b e = refl

-- a text of the end was printed
pub ran_of : (on : AllRegions) (command : Command) (whole bare : Script) (e : End) (Took : List ℕ → Type 0) → IsEnd on whole e → PrintsAs whole bare → Took (text_of command bare e)
    → Serves on command Took whole
ran_of on command whole bare e Took run b took = record { end = e; run = run; printed = subst Took (text_same command whole bare b e) took }

-- the text was taken in another way
pub serves_as : (on : AllRegions) (command : Command) (x : Script) (T U : List ℕ → Type 0) → ((text : List ℕ) → T text → U text) → Serves on command T x → Serves on command U x
serves_as on command x T U so r = record { end = r.end; run = r.run; printed = so _ r.printed }
