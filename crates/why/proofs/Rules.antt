-- The first rule that applies: it does, and none before it.
-- Assumes nothing.
use Prim.Native.Nat.{ℕ, ◌<◌, ◌≤◌}
use mathlib.Core.Bool.{Bool, true, false}
use mathlib.Core.Path.{◌≡◌, refl}
use native.Mathlib.Omega.{arith}
use borrow.Author.Tests.{eqb-false}
use lib.Dec.{eqb}
use Rattle.numbers.specs.Choice.{first}
use Rattle.signals.specs.Signal.{is_error, is_absent}
use Rattle.signals.specs.declared.signal.Signal.{Signal}
use Rattle.output.specs.Output.{rule, rule_of}
use Rattle.output.specs.Turning.{turned_on, turned_off}
use Rattle.output.specs.declared.Settings.{Settings}
use Rattle.why.specs.Explains.{applies}

-- six tests in their order
unfoldable named : Bool → Bool → Bool → Bool → Bool → Bool → ℕ
named a b c d e f = first a 1 (first b 2 (first c 3 (first d 4 (first e 5 (first f 6 7)))))

unfoldable tested : Bool → Bool → Bool → Bool → Bool → Bool → ℕ → Bool
tested a b c d e f n = first (eqb n 1) a (first (eqb n 2) b (first (eqb n 3) c (first (eqb n 4) d (first (eqb n 5) e (first (eqb n 6) f true)))))

holds : (a b c d e f : Bool) → tested a b c d e f (named a b c d e f) ≡ true
unfolding tested named first
holds true b c d e f = refl
holds false true c d e f = refl
holds false false true d e f = refl
holds false false false true e f = refl
holds false false false false true f = refl
holds false false false false false true = refl
holds false false false false false false = refl

-- one test more that does not hold
past : (n k : ℕ) {rest : Bool} → k ≤ n → (k < n → rest ≡ false) → first (eqb n k) false rest ≡ false
unfolding first
past n k {rest} from more = by (eqb n k) refl where
  by : (t : Bool) → eqb n k ≡ t → first t false rest ≡ false
  by true e = refl
  by false e = let other = eqb-false n k e in more (omega (arith, other))

none : (a b c d e f : Bool) (n : ℕ) → 1 ≤ n → n < named a b c d e f → tested a b c d e f n ≡ false
unfolding tested named first
none true b c d e f n l h = absurd (omega arith)
none false true c d e f n l h = past n 1 l (λ p. absurd (omega arith))
none false false true d e f n l h = past n 1 l (λ p. past n 2 p (λ q. absurd (omega arith)))
none false false false true e f n l h = past n 1 l (λ p. past n 2 p (λ q. past n 3 q (λ r. absurd (omega arith))))
none false false false false true f n l h = past n 1 l (λ p. past n 2 p (λ q. past n 3 q (λ r. past n 4 r (λ s. absurd (omega arith)))))
none false false false false false true n l h = past n 1 l (λ p. past n 2 p (λ q. past n 3 q (λ r. past n 4 r (λ s. past n 5 s (λ t. absurd (omega arith))))))
none false false false false false false n l h = past n 1 l (λ p. past n 2 p (λ q. past n 3 q (λ r. past n 4 r (λ s. past n 5 s (λ t. past n 6 t (λ u. absurd (omega arith)))))))

module _ (s : Settings) (control enable over : Signal) where
  pub applied : applies (rule_of s control enable over) s control enable over ≡ true
  unfolding applies rule_of rule tested named
  applied = holds (turned_off s.enable_response enable) (is_error enable) (turned_on s.override_response over) (is_error over) (is_error control) (is_absent control)

  pub no_earlier : (r : ℕ) → 1 ≤ r → r < rule_of s control enable over → applies r s control enable over ≡ false
  unfolding applies rule_of rule tested named
  no_earlier r l h = none (turned_off s.enable_response enable) (is_error enable) (turned_on s.override_response over) (is_error over) (is_error control) (is_absent control) r l h
