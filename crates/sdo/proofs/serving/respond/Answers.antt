-- `sdo::serving::respond` meets its contract: the stores come to the list that the definition gives (`ReplyLaws`).
-- Assumes nothing.
use Prim.Native.Nat.{ℕ, ◌/◌, ◌%◌}
use native.Mathlib.Omega.{arith}
use lib.ListN.{get_or}
use lib.ListN.{length-set}
use Rattle.sdo.proofs.ReplyLaws.{eight_stores, le_bytes}
use Rattle.sdo.specs.Frames.{reply, name_in}
use Rattle.sdo.proofs.serving.respond.Goals as goal

pub bounds-out-1 : goal.bounds-out-1
bounds-out-1 c = simp length-set (omega arith)

pub bounds-out-2 : goal.bounds-out-2
bounds-out-2 c = simp length-set (omega arith)

pub bounds-out-3 : goal.bounds-out-3
bounds-out-3 c = simp length-set (omega arith)

pub bounds-out-4 : goal.bounds-out-4
bounds-out-4 c = simp length-set (omega arith)

pub bounds-out-5 : goal.bounds-out-5
bounds-out-5 c = simp length-set (omega arith)

pub bounds-out-6 : goal.bounds-out-6
bounds-out-6 c = simp length-set (omega arith)

pub bounds-out-7 : goal.bounds-out-7
bounds-out-7 c = simp length-set (omega arith)

pub shape_of-out : goal.shape_of-out
shape_of-out c = simp length-set

pub returns : goal.returns
unfolding reply name_in
returns c =
    let a = c.args in
    let byte : ℕ → ℕ = λ i. get_or a.frame.now i 0 in
    rw (c.to_le_bytes-bytes.ensures, ← le_bytes a.value)
    (eight_stores a.out.now (omega arith) a.head (byte 1) (byte 2) (byte 3) (a.value % 256) (a.value / 256 % 256) (a.value / 0x10000 % 256) (a.value / 0x1000000 % 256))
