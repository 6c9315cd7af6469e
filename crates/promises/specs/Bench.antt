-- The starred examples from the bench as rows of one table, each about a fresh unit, under one statement about the definitions.
-- Assumes nothing.
use Rattle.std.specs.Prelude.{ℕ, ◌≡◌, List, [], ◌∷◌, ℤ, pos, neg_ℤ}
use Rattle.std.specs.Float.{binary32}
use Rattle.std.specs.Float.Ieee.{of_bits}
use Rattle.numbers.specs.Nearest.{nearest16}
use Rattle.numbers.specs.Signed.{pattern16}
use Rattle.signals.specs.declared.signal.Signal.TheVariants.{Whole}
use Rattle.roles.specs.Values.{at_start}
use Rattle.sdo.specs.Answers.{answer}
use Rattle.sdo.specs.Frames.{reply, reply_to}
use Rattle.table.specs.Table.{looked_up}
use Rattle.controller.specs.Tick.{ticked}

pub data Example : Type 0 where
  -- a frame, and the reply
  frame : List ℕ → List ℕ → Example
  -- a sample of input 1, and the process value that is read after a tick with it
  sample : ℤ → ℤ → Example
  -- the two points of a table, an x, and the table's signal
  points : ℤ → ℤ → ℤ → ℤ → ℤ → ℤ → Example
  -- a REAL32 by its bits, and the INTEGER16 that it becomes
  real : ℕ → ℤ → Example

-- the frame that reads 7130h:1
unfoldable pub read_process : List ℕ
read_process = 0x40 ∷ 0x30 ∷ 0x71 ∷ 0x01 ∷ 0x00 ∷ 0x00 ∷ 0x00 ∷ 0x00 ∷ []

-- what a row says
abbrev pub Shown : Example → Type 0
Shown (frame f bytes) = reply_to f (answer at_start f 8) ≡ bytes
-- whatever the other inputs sample
Shown (sample v pv) = (others : List ℤ) → reply_to read_process (answer (ticked (v ∷ others) at_start) read_process 8) ≡ reply read_process 0x4B (pattern16 pv)
-- axis type 0, and response 1 at the second point
Shown (points x1 y1 x2 y2 x y) =
    looked_up (0 ∷ 1 ∷ []) (pattern16 x1 ∷ pattern16 x2 ∷ []) (pattern16 y1 ∷ pattern16 y2 ∷ []) (Whole x) ≡ Whole y
Shown (real bits n) = nearest16 (of_bits binary32 bits) ≡ n

abbrev pub All : List Example → Type 0
All [] = Unit
All (e ∷ es) = Shown e × All es

abbrev pub examples : List Example
examples =
    -- 3015h:2 = 200 accepted, 201 gives 80 15 30 02 31 00 09 06
    frame (0x2B ∷ 0x15 ∷ 0x30 ∷ 0x02 ∷ 0xC8 ∷ 0x00 ∷ 0x00 ∷ 0x00 ∷ []) (0x60 ∷ 0x15 ∷ 0x30 ∷ 0x02 ∷ 0x00 ∷ 0x00 ∷ 0x00 ∷ 0x00 ∷ [])
    ∷ frame (0x2B ∷ 0x15 ∷ 0x30 ∷ 0x02 ∷ 0xC9 ∷ 0x00 ∷ 0x00 ∷ 0x00 ∷ []) (0x80 ∷ 0x15 ∷ 0x30 ∷ 0x02 ∷ 0x31 ∷ 0x00 ∷ 0x09 ∷ 0x06 ∷ [])
    -- write 3015h:0: 02 00 01 06
    ∷ frame (0x2F ∷ 0x15 ∷ 0x30 ∷ 0x00 ∷ 0x0B ∷ 0x00 ∷ 0x00 ∷ 0x00 ∷ []) (0x80 ∷ 0x15 ∷ 0x30 ∷ 0x00 ∷ 0x02 ∷ 0x00 ∷ 0x01 ∷ 0x06 ∷ [])
    -- 3015h:12: 11 00 09 06
    ∷ frame (0x2B ∷ 0x15 ∷ 0x30 ∷ 0x0C ∷ 0x96 ∷ 0x00 ∷ 0x00 ∷ 0x00 ∷ []) (0x80 ∷ 0x15 ∷ 0x30 ∷ 0x0C ∷ 0x11 ∷ 0x00 ∷ 0x09 ∷ 0x06 ∷ [])
    -- one byte to 3015h:2: 13 00 07 06
    ∷ frame (0x2F ∷ 0x15 ∷ 0x30 ∷ 0x02 ∷ 0x96 ∷ 0x00 ∷ 0x00 ∷ 0x00 ∷ []) (0x80 ∷ 0x15 ∷ 0x30 ∷ 0x02 ∷ 0x13 ∷ 0x00 ∷ 0x07 ∷ 0x06 ∷ [])
    -- 7321h:1 = 1499 accepted, 1500 too high
    ∷ frame (0x2B ∷ 0x21 ∷ 0x73 ∷ 0x01 ∷ 0xDB ∷ 0x05 ∷ 0x00 ∷ 0x00 ∷ []) (0x60 ∷ 0x21 ∷ 0x73 ∷ 0x01 ∷ 0x00 ∷ 0x00 ∷ 0x00 ∷ 0x00 ∷ [])
    ∷ frame (0x2B ∷ 0x21 ∷ 0x73 ∷ 0x01 ∷ 0xDC ∷ 0x05 ∷ 0x00 ∷ 0x00 ∷ []) (0x80 ∷ 0x21 ∷ 0x73 ∷ 0x01 ∷ 0x31 ∷ 0x00 ∷ 0x09 ∷ 0x06 ∷ [])
    -- sample 2500: PV 500; 501: 0; 502: 1
    ∷ sample (pos 2500) (pos 500)
    ∷ sample (pos 501) (pos 0)
    ∷ sample (pos 502) (pos 1)
    -- points (0,-1), (2,0), x = 1: -1
    ∷ points (pos 0) (neg_ℤ (pos 1)) (pos 2) (pos 0) (pos 1) (neg_ℤ (pos 1))
    -- REAL32 2.5 to 3
    ∷ real 0x40200000 (pos 3)
    ∷ []

-- every row holds
abbrev pub OnTheBench : Type 0
OnTheBench = All examples
