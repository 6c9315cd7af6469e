-- What a firmware asks for after each tick: "prints O, the four commands, 1001h", as numbers.
-- Assumes nothing.
use Rattle.std.specs.Prelude.{ℕ, ◌+◌, ◌<◌, ◌≡◌, List, [], ◌∷◌, ◌++◌, ℤ, pos, get_or}
use Rattle.numbers.specs.Signed.{pattern16}
use Rattle.octets.specs.Little.{bytes}
use Rattle.sdo.specs.Answers.{answer}
use Rattle.sdo.specs.Frames.{reply_to}
use Rattle.unit.specs.Entry.{whole, byte}

-- 7330h:1-4
unfoldable pub commands : List ℕ → List ℤ
commands unit = whole unit 0x7330 1 ∷ whole unit 0x7330 2 ∷ whole unit 0x7330 3 ∷ whole unit 0x7330 4 ∷ []

-- 1001h
unfoldable pub register : List ℕ → ℕ
register unit = byte unit 0x1001 0

-- "command, index low byte first, sub, four data bytes"; "a read is 40h"
unfoldable pub request : ℕ → ℕ → List ℕ
request index sub = 0x40 ∷ bytes 2 index ++ sub ∷ bytes 4 0

unfoldable pub answered : List ℕ → ℕ → ℕ → List ℕ
answered unit index sub = reply_to (request index sub) (answer unit (request index sub) 8)

-- They are what a read of the names answers: "Good read: 43h, 4Bh or 4Fh for 4, 2, 1 bytes, name, value, zeros".
abbrev pub AsRead : Type 0
AsRead =
    (unit : List ℕ)
    → ((k : ℕ) → k < 4 → answered unit 0x7330 (k + 1) ≡ 0x4B ∷ 0x30 ∷ 0x73 ∷ (k + 1) ∷ bytes 4 (pattern16 (get_or (commands unit) k (pos 0))))
    × (answered unit 0x1001 0 ≡ 0x4F ∷ 0x01 ∷ 0x10 ∷ 0 ∷ bytes 4 (register unit))
