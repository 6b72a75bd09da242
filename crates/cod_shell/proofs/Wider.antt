-- A history is one also where more nodes may fail.
use Rattle.std.proofs.Common.{◌≡◌, ℕ, Bool, List}
use Rattle.std.specs.Prelude.{IsTrue}
use Rattle.cod_types.specs.declared.call.Reply.{Reply}
use Rattle.cod_types.specs.declared.call.Reply.TheVariants.{Bytes, Done, Range, Long, Lost, Whole, Rebuilt, NoSpare, NoMem, Differs, Shifted, Clear}
use Rattle.cod_types.specs.declared.reasons.Why.{Why}
use Rattle.cod_types.specs.declared.reasons.Why.TheVariants as why
use Rattle.cod_chronicle.specs.declared.entry.Entry.{Entry}
use Rattle.cod_chronicle.specs.declared.entry.Entry.TheVariants.{Call, Down, Up, Move}
use Rattle.cod_chronicle.specs.declared.entry.Cause.{Cause}
use Rattle.cod_chronicle.specs.declared.entry.Cause.TheVariants.{Killed, Fault}
use Rattle.cod_script.specs.Script.{Script, Ask}
use Rattle.cod_script.specs.Owed.{IsCause, IsGiven, IsGivenWhy, IsHistory, IsLicensed}

why_wider : (x : Script) (may wide : ℕ → Bool) (node : ℕ) (w : Why) → (IsTrue (may node) → IsTrue (wide node)) → IsGivenWhy x may node w → IsGivenWhy x wide node w
why_wider x may wide node (why.Down line) more g = g
why_wider x may wide node (why.Free bytes) more g = g
why_wider x may wide node (why.Fault count) more g = (g.0, more g.1)

given_wider : (x : Script) (may wide : ℕ → Bool) (r : Reply) → ((node : ℕ) → IsTrue (may node) → IsTrue (wide node)) → IsGiven x may r → IsGiven x wide r
given_wider x may wide (NoSpare reasons) more g = λ k d lt. why_wider x may wide _ _ (more _) (g k d lt)
given_wider x may wide (Bytes bytes) more g = g
given_wider x may wide (Differs bytes) more g = g
given_wider x may wide Done more g = g
given_wider x may wide Range more g = g
given_wider x may wide Long more g = g
given_wider x may wide Lost more g = g
given_wider x may wide Whole more g = g
given_wider x may wide (Rebuilt col node) more g = g
given_wider x may wide NoMem more g = g
given_wider x may wide (Shifted col node) more g = g
given_wider x may wide Clear more g = g

cause_wider : (x : Script) (may wide : ℕ → Bool) (node : ℕ) (c : Cause) → (IsTrue (may node) → IsTrue (wide node)) → IsCause x may node c → IsCause x wide node c
cause_wider x may wide node (Killed line) more g = g
cause_wider x may wide node (Fault count) more g = (g.0, more g.1)

licensed_wider : (x : Script) (may wide : ℕ → Bool) (e : Entry) → ((node : ℕ) → IsTrue (may node) → IsTrue (wide node)) → IsLicensed x may e → IsLicensed x wide e
licensed_wider x may wide (Call caller number stamp call reply) more g = given_wider x may wide reply more g
licensed_wider x may wide (Down stamp col node cause) more g = cause_wider x may wide node.0 cause (more node.0) g
licensed_wider x may wide (Up stamp col node) more g = g
licensed_wider x may wide (Move stamp col node) more g = g

pub history_wider : (told : Bool) (x : Script) (may wide : ℕ → Bool) (owes : ℕ → List Ask) (hs : List (List Entry)) → ((node : ℕ) → IsTrue (may node) → IsTrue (wide node))
    → IsHistory told x may owes hs → IsHistory told x wide owes hs
history_wider told x may wide owes hs more h =
    record { count = h.count; whole = h.whole; licensed = λ k d lt. licensed_wider x may wide _ more (h.licensed k d lt); holds = h.holds; obeys = h.obeys }
