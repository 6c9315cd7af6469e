-- What a held line is answered.
-- Assumes nothing.
use Prim.Native.Nat.{◌<◌, ◌≤◌}
use mathlib.Core.List.{[]}
use mathlib.Core.Path.{◌≡◌}
use native.Mathlib.Omega.{arith}
use borrow.Author.Tests.{le-leb, lt-leb, ne_eqb}
use lib.ListN.{length, take, length-take}
use lib.Seq.{length-take-le, take_all}
use Rattle.numbers.specs.Choice.{first}
use Rattle.printer.specs.Answering.{said, unheard}
use Rattle.session.specs.Dialogue.{cut, lines, told, next, answered, Kept, goes_on, closed}
use Rattle.session.specs.Byte.{ending}
use Rattle.session.proofs.dialogue.Short.{told_most}

module _ (k : Kept) (h : length k.line ≡ 65) where
  pub too_long : 65 ≤ k.held → ending k ≡ unheard k.unit
  unfolding ending told first
  too_long n =
      let all = take_all k.held k.line (omega arith) in
      rw (all, lt-leb (length k.line) 64 (omega arith))

  pub short_enough : k.held < 65 → ending k ≡ said (take k.held k.line) k.unit
  unfolding ending told first
  short_enough n =
      let short = length-take-le k.held k.line (omega arith) in
      rw (le-leb (length (take k.held k.line)) 64 (omega arith))

-- ---- at the end of the input

module _ (k : Kept) where
  pub none_held : k.held ≡ 0 → closed k ≡ record { left = k.unit; printed = [] }
  unfolding closed goes_on cut lines answered first
  none_held n = rw n

  pub some_held : length k.line ≡ 65 → (k.held ≡ 0 → ⊥) → closed k ≡ ending k
  unfolding closed goes_on cut lines answered next ending first
  some_held h n = rw (ne_eqb (length (take k.held k.line)) 0 (λ e. n (omega (arith, length-take k.held k.line))))

-- ---- its length

pub ending_most : (k : Kept) → length (ending k).printed ≤ 33
unfolding ending
ending_most k = told_most (take k.held k.line) k.unit
