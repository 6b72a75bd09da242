use Rattle.std.proofs.Common.{◌≡◌, ℕ, length, take}
use Rattle.cod_record.specs.Record.{IsRecord, Record}
use Rattle.cod_parity.proofs.Ranging.{AreWithin, Spanned}
use Rattle.cod_parity.proofs.log.add_record.Given as goal

abbrev pub invariant-spans : goal.invariant-spans
invariant-spans l = record {
  long : length l.window ≡ length l.initial.window;
  within : AreWithin l.from l.span-iterator;
  meaning : (version : ℕ) (r : Record) (n : ℕ) → IsRecord version r (take n l.from) → Spanned l.from l.span-iterator l.off r.ranges l.initial.window l.window;
}
