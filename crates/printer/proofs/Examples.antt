-- Worked examples, two tables: lines read and answers printed, the paper's session among them, computed from the definitions.
-- Assumes nothing.
use Prim.Native.Nat.{ℕ}
use Prim.Native.Char.{code}
use Prim.Native.String.{String, [] as end, ◌∷◌ as ◌then◌}
use mathlib.Core.List.{List, [], ◌∷◌}
use mathlib.Core.Path.{◌≡◌, refl}
use Rattle.std.specs.Prelude.{Option}
use lib.IntN.{pos, negsuc}
use Rattle.numbers.specs.Choice.{first, every}
use Rattle.numbers.specs.Order.{below}
use Rattle.printer.specs.Printing.{hex_digit, hex2, each, width, last_digits, digits, decimal, spaced, ended, reply_line, tick_line, silent_line, unknown_line}
use Rattle.printer.specs.Reading.{ahead, fields, letter, is_hex, hex_value, is_frame, bytes_of_digits, is_digit, minus, unsigned, tens, size_of_digits, value_of, is_digits, is_integer16, is_decimal, unknown, frame_of, tick_of, asked_frame, asked_tick, asked_by, asked}
use Rattle.printer.specs.declared.reading.Request.{Request}

-- the bytes of a text of ASCII characters
unfoldable pub bytes : String → List ℕ
bytes end = []
bytes (c then rest) = code c ∷ bytes rest

unfoldable pub readings : List (Option Request)
readings =
    asked (bytes "S 4001100000000000")
    ∷ asked (bytes "S 2B15300296000000")
    ∷ asked (bytes "T 2500 2500 2500 2500")
    ∷ asked (bytes "T -0 00007 32767 -32768")
    ∷ asked (bytes "S 2b15300296000000")
    ∷ asked (bytes "T 32768 0 0 0")
    ∷ asked (bytes "T 000000 0 0 0")
    ∷ asked (bytes "T +1 0 0 0")
    ∷ asked (bytes "T 1  2 3 4")
    ∷ asked (bytes "T 1 2 3 4 ")
    ∷ asked (bytes "T")
    ∷ asked (bytes "")
    ∷ []

pub lines_read :
    readings
    ≡ frame_of (0x40 ∷ 0x01 ∷ 0x10 ∷ 0 ∷ 0 ∷ 0 ∷ 0 ∷ 0 ∷ [])
    ∷ frame_of (0x2B ∷ 0x15 ∷ 0x30 ∷ 0x02 ∷ 0x96 ∷ 0 ∷ 0 ∷ 0 ∷ [])
    ∷ tick_of (pos 2500 ∷ pos 2500 ∷ pos 2500 ∷ pos 2500 ∷ [])
    ∷ tick_of (pos 0 ∷ pos 7 ∷ pos 32767 ∷ negsuc 32767 ∷ [])
    ∷ unknown
    ∷ unknown
    ∷ unknown
    ∷ unknown
    ∷ unknown
    ∷ unknown
    ∷ unknown
    ∷ unknown
    ∷ []
unfolding bytes readings asked asked_by asked_frame asked_tick tick_of frame_of unknown is_decimal is_integer16 is_digits value_of size_of_digits tens unsigned minus is_digit bytes_of_digits is_frame hex_value is_hex letter fields ahead every below first
lines_read = refl

unfoldable pub printings : List (List ℕ)
printings =
    tick_line (pos 0 ∷ pos 0 ∷ pos 0 ∷ pos 0 ∷ []) 0
    ∷ tick_line (negsuc 32767 ∷ pos 1500 ∷ negsuc 6 ∷ pos 10 ∷ []) 0x21
    ∷ reply_line (0x4F ∷ 0x01 ∷ 0x10 ∷ 0 ∷ 0 ∷ 0 ∷ 0 ∷ 0 ∷ [])
    ∷ reply_line (0x60 ∷ 0x15 ∷ 0x30 ∷ 0x02 ∷ 0 ∷ 0 ∷ 0 ∷ 0 ∷ [])
    ∷ silent_line
    ∷ unknown_line
    ∷ []

pub answers_printed :
    printings
    ≡ bytes "O 0 0 0 0 00\n"
    ∷ bytes "O -32768 1500 -7 10 21\n"
    ∷ bytes "4F01100000000000\n"
    ∷ bytes "6015300200000000\n"
    ∷ bytes "-\n"
    ∷ bytes "?\n"
    ∷ []
unfolding bytes printings unknown_line silent_line tick_line reply_line ended spaced decimal digits last_digits width each hex2 hex_digit first
answers_printed = refl
