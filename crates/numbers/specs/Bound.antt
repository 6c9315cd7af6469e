-- What the line routine works with: "The largest product is 65,535 x 65,535 = 4,294,836,225, and half the divisor still fits on top in 32 bits
-- unsigned." (request iii)
-- Assumes nothing.
use Rattle.std.specs.Prelude.{ℕ, ◌+◌, ◌-◌, ◌*◌, ◌/◌, ◌<◌, ◌≤◌, ◌≡◌}

-- the y of both ends, counted from -32768, each by its weight: how far x is from the other end, t and d - t of a line that is d wide
abbrev pub both_weighed : ℕ → ℕ → ℕ → ℕ → ℕ
both_weighed t d y1 y2 = y1 * (d - t) + y2 * t

-- of any two points and any x between them
abbrev pub Fits32Bits : Type 0
Fits32Bits =
    (65535 * 65535 ≡ 4294836225)
    × ((t d y1 y2 : ℕ) → t ≤ d → d < 65536 → y1 < 65536 → y2 < 65536
    → (both_weighed t d y1 y2 ≤ 65535 * 65535) × (both_weighed t d y1 y2 + d / 2 < 4294967296))
