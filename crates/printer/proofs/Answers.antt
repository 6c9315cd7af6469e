-- What the contract of a printed answer leaves open: nothing, and the answer has room.
-- Assumes nothing.
use Prim.Native.Nat.{ℕ, ◌≤◌}
use mathlib.Core.List.{List}
use mathlib.Core.Path.{◌≡◌, ap, sym, ◌∙◌}
use native.Mathlib.Omega.{arith}
use lib.ListN.{length, take, drop, length-append, length-drop}
use lib.Seq.{take-append_seam}
use Rattle.printer.specs.Answering.{Said, Answers}
use Rattle.printer.specs.Printing.{Printed}

pub printed_once : {answer before x y : List ℕ} {m n : ℕ} → Printed answer before x m → Printed answer before y n → (x ≡ y) × (m ≡ n)
printed_once p q = (p.bytes ∙ sym q.bytes, p.counted ∙ sym q.counted)

pub answered_once : {s : Said} {u v before x y : List ℕ} {m n : ℕ} → Answers s u before x m → Answers s v before y n → (u ≡ v) × (x ≡ y) × (m ≡ n)
answered_once p q = let printed = printed_once p.print q.print in (p.left ∙ sym q.left, printed.0, printed.1)

pub printed_fits : {answer before after : List ℕ} {count : ℕ} → Printed answer before after count → length after ≡ length before → count ≤ length before
printed_fits {answer} {before} p e =
    omega (arith, p.counted, ap length p.bytes, length-append answer (drop (length answer) before), length-drop (length answer) before)

-- the buffer begins with it
pub begins : {answer before after : List ℕ} {count : ℕ} → Printed answer before after count → take count after ≡ answer
begins {answer} {before} p = rw (p.counted, p.bytes) (take-append_seam answer (drop (length answer) before))

pub inside : {answer before after : List ℕ} {count : ℕ} → Printed answer before after count → count ≤ length after
inside {answer} {before} p = rw (p.counted, p.bytes) (omega (arith, length-append answer (drop (length answer) before)))
