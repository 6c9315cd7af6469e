-- A REAL32 as INTEGER16: "A REAL32 becomes INTEGER16 by nearest, halves away from zero, limited to -32768..32767."
-- Assumes nothing.
use Rattle.std.specs.Prelude.{◌*◌, ℤ, pos, neg_ℤ, Float}
use Rattle.std.specs.Float.{nan, inf, fin}
use Rattle.std.specs.Float.Ieee.{up, down}
use Rattle.numbers.specs.Choice.{first}
use Rattle.numbers.specs.Limit.{limit_whole}
use Rattle.numbers.specs.Line.{nearest_size}

-- limited to -32768..32767
unfoldable pub limit16 : ℤ → ℤ
limit16 z = limit_whole z (neg_ℤ (pos 32768)) (pos 32767)

-- a finite REAL32 is the number m * 2 ^ e with its sign, and 2 ^ e is the fraction up e / down e: its size is rounded and keeps the sign.
-- An infinity is beyond the limit on its side. What is no number has no nearest: it gives 0.
unfoldable pub nearest16 : Float → ℤ
nearest16 nan = pos 0
nearest16 (inf negative) = first negative (neg_ℤ (pos 32768)) (pos 32767)
nearest16 (fin negative m e) =
    let size = nearest_size (m * up e) (down e) in
    limit16 (first negative (neg_ℤ (pos size)) (pos size))
