-- What the private helpers give: the parts by which a line is read from left to right. No public contract cites them.
-- Assumes nothing.
use Rattle.std.specs.Prelude.{ℕ, ℤ, ◌&&◌, List, Option, Some, None, leb}
use Rattle.numbers.specs.Choice.{first}
use Rattle.printer.specs.Reading.{is_hex, hex_value, size_of_digits, value_of, is_digits, is_decimal}

-- a hex digit's value, or none
unfoldable pub nibble_of : ℕ → Option ℕ
nibble_of b = first (is_hex b) (Some (hex_value b)) None

-- 1 to 5 digits whose number is at most the limit
unfoldable pub size_read : List ℕ → ℕ → Option ℕ
size_read digits limit = first (is_digits digits && leb (size_of_digits digits) limit) (Some (size_of_digits digits)) None

-- a decimal INTEGER16, or none
unfoldable pub number_read : List ℕ → Option ℤ
number_read text = first (is_decimal text) (Some (value_of text)) None
