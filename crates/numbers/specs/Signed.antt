-- INTEGER16 as a whole number: two's complement over the low 16 bits of a word.
-- Assumes nothing.
use Rattle.std.specs.Prelude.{ℕ, ◌-◌, ◌%◌, ℤ, pos, negsuc, neg_ℤ, ltb}
use Rattle.numbers.specs.Choice.{first}

-- patterns up to 7FFFh stand for themselves, the others for themselves less 10000h
unfoldable pub twos : ℕ → ℤ
twos p = first (ltb p 0x8000) (pos p) (neg_ℤ (pos (0x10000 - p)))

-- the INTEGER16 that a word holds
unfoldable pub signed16 : ℕ → ℤ
signed16 word = twos (word % 0x10000)

-- the word of an INTEGER16: its 16-bit pattern
unfoldable pub pattern16 : ℤ → ℕ
pattern16 (pos n) = n
pattern16 (negsuc n) = 0xFFFF - n
