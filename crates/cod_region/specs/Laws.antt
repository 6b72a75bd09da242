-- What the regions in memory need for the laws of their trait.
use Rattle.std.proofs.Common.{◌≡◌, ◌==◌, ◌&&◌, ℕ, Bool, true, List, length, Some, ap, sym, arith}
use Rattle.std.proofs.lemmas.Grind.{common_steps}
use Rattle.std.proofs.lemmas.Bool.Decides.{nat_tests}

-- two told lists that are the same have one length
pub same_length : (items held : List ℕ) → Some items ≡ Some held → length held ≡ length items
same_length items held is = let same : items ≡ held = cc in ap length (sym same)

-- a test that ends in the test of a count for 0 gives that it is 0
pub no_fault : (unlisted : Bool) (faults : ℕ) → (unlisted && (faults == 0)) ≡ true → faults ≡ 0
no_fault unlisted faults sure = grind (arith, common_steps, nat_tests)
