-- The lowest-numbered input in error, sought from input 1 on: input i + 1 is next.
-- Assumes nothing.
use Prim.Native.Nat.{ℕ, ◌+◌, ◌-◌, ◌<◌, ◌≤◌}
use mathlib.Core.Bool.{true, false}
use mathlib.Core.List.{List}
use mathlib.Core.Path.{◌≡◌, sym, ◌∙◌}
use native.Mathlib.Omega.{arith}
use borrow.Author.Tests.{lt-ltb}
use Rattle.numbers.specs.Choice.{first}
use Rattle.table.specs.Table.{least}
use Rattle.table.proofs.TableLaws.{least_hit, least_miss, least_none}
use Rattle.why.specs.Trail.{math_pair, wrong, lowest, math_next}
use Rattle.why.specs.declared.types.End.TheVariants.{Divided}
use Rattle.why.specs.declared.types.Next.TheVariants.{Ends, Reads}

module _ (unit : List ℕ) (k i : ℕ) (left : least (wrong unit k) (i + 1) (4 - i) ≡ lowest unit k) where
  pub hit : i < 4 → wrong unit k (i + 1) ≡ true → Reads (math_pair unit (k + 1) (i + 1)) ≡ math_next unit k
  unfolding math_next first
  hit h e =
      let is : lowest unit k ≡ i + 1 = sym left ∙ least_hit (wrong unit k) (i + 1) (4 - i) (omega arith) e in
      rw (is, lt-ltb (i + 1) 5 (omega arith))

  pub miss : i < 4 → wrong unit k (i + 1) ≡ false → least (wrong unit k) (i + 1 + 1) (4 - (i + 1)) ≡ lowest unit k
  miss h e =
      let fewer : 4 - (i + 1) ≡ 4 - i - 1 = omega arith in
      rw fewer (sym (least_miss (wrong unit k) (i + 1) (4 - i) (omega arith) e) ∙ left)

  pub none : i ≤ 4 → 4 ≤ i → Ends Divided ≡ math_next unit k
  unfolding math_next first
  none h g =
      let i-is : i ≡ 4 = omega arith in
      let is : lowest unit k ≡ 5 = sym left ∙ least_none (wrong unit k) (i + 1) (4 - i) (omega arith) ∙ omega arith in
      rw is
