-- Two answers that the contract of hearing a piece allows are equal, with all that they leave.
-- Assumes nothing.
use Prim.Native.Nat.{ℕ}
use mathlib.Core.List.{List}
use mathlib.Core.Path.{◌≡◌, sym, ◌∙◌}
use Rattle.printer.proofs.Answers.{printed_once}
use Rattle.session.specs.Dialogue.{Kept, Hears}

pub heard_once : {k a b : Kept} {piece room x y : List ℕ} {m n i j : ℕ} → Hears k piece room a x m i → Hears k piece room b y n j → (a ≡ b) × (x ≡ y) × (m ≡ n) × (i ≡ j)
heard_once p q =
    let printed = printed_once p.print q.print in
    (p.kept ∙ sym q.kept, printed.0, printed.1, p.count ∙ sym q.count)
