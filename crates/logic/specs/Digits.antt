-- Document 02 (vii), "Compare in the same digits": the digits of a source, and two whole numbers compared with theirs.
-- Assumes nothing.
use Rattle.std.specs.Prelude.{ℕ, ◌+◌, ◌*◌, Bool, not, ◌&&◌, ◌||◌, List, eqb, ltb, ℤ, pos, ◌*ℤ◌}
use Rattle.numbers.specs.Choice.{first}
use Rattle.numbers.specs.Order.{below}
use Rattle.unit.specs.Entry.{byte}

-- ---- which digits

-- a number from 1 to the count names something; any other names nothing, which has no digits
unfoldable pub within : ℕ → ℕ → ℕ → ℕ
within count number digits = first (eqb number 0) 0 (first (ltb count number) 0 digits)

-- "30z3h": the Y digits of table z, whose Y are its signal
unfoldable pub y_digits : List ℕ → ℕ → ℕ
y_digits unit z = within 6 z (byte unit (0x3003 + 0x10 * z) 0)

-- "using 2502h, 6132h or 30z3h of their sources as they stand when compared (a logic block uses those of the table that gave its signal,
-- also where that signal is the last tick's)": 4010h, which is published with a logic block's signal, is the number of that table.
-- Math blocks and constants give no whole numbers.
unfoldable pub digits_of : List ℕ → ℕ → ℕ → ℕ
digits_of unit source number =
    first (eqb source 1) (within 12 number (byte unit 0x2502 number))
    (first (eqb source 2) (within 4 number (byte unit 0x6132 number))
    (first (eqb source 3) (y_digits unit number)
    (first (eqb source 4) (y_digits unit (within 2 number (byte unit 0x4010 number)))
    0)))

-- ---- in the same digits

-- 10 ^ digits; "D means UNSIGNED8 0..3"
unfoldable pub tens : ℕ → ℕ
tens digits = first (eqb digits 0) 1 (first (eqb digits 1) 10 (first (eqb digits 2) 100 1000))

-- "0 =, 1 not =, 2 >, 3 >=, 4 <, 5 <="; two numbers are equal where neither is below the other
unfoldable pub orders : ℕ → ℤ → ℤ → Bool
orders comparison x y =
    first (eqb comparison 0) (not (below x y) && not (below y x))
    (first (eqb comparison 1) (below x y || below y x)
    (first (eqb comparison 2) (below y x)
    (first (eqb comparison 3) (not (below x y))
    (first (eqb comparison 4) (below x y)
    (not (below y x))))))

-- "compared as the decimal numbers they stand for, exactly": v with d digits stands for v / 10 ^ d and w with e digits for w / 10 ^ e, and
-- the first is to the second as v * 10 ^ e is to w * 10 ^ d
unfoldable pub in_same_digits : ℕ → ℤ → ℕ → ℤ → ℕ → Bool
in_same_digits comparison v d w e = orders comparison (v *ℤ pos (tens e)) (w *ℤ pos (tens d))
