-- A piece copied byte by byte, as far as it has room (`Room`).
-- Assumes nothing.
use Prim.Native.Nat.{◌-◌, min}
use mathlib.Core.Path.{◌≡◌, ◌∙◌}
use native.Mathlib.Omega.{arith}
use lib.ListN.{length, length-set}
use Rattle.octets.proofs.putting.Room.{sets_next, sets_out, sets_room}
use Rattle.octets.proofs.putting.put.Goals as goal

pub returns-then-at-buffer : goal.returns-then-at-buffer
returns-then-at-buffer c = let a = c.args in sets_out a.buffer.now a.at a.piece.now (omega arith)

pub loop-k-preserved : goal.loop-k-preserved
loop-k-preserved c =
    let a = c.args in (
      omega arith,
      rw c.loop-k.invariant.1 (sets_next a.buffer.now a.at a.piece.now c.loop-k.k (omega arith)),
      simp length-set c.loop-k.invariant.2,
    )

pub returns : goal.returns
returns c =
    let a = c.args in
    let all : c.loop-k.k ≡ min (length a.piece.now) (length a.buffer.now - a.at) = omega arith in
    c.loop-k.invariant.1 ∙ rw all (sets_room a.buffer.now a.at a.piece.now)
