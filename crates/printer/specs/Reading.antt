-- What a line of the session asks for: "S and 16 hex digits: prints the reply, or -. T and four decimal INTEGER16 ..
-- One space between fields; decimals have an optional - and 1 to 5 digits; hex is upper case. Any other line, empty or longer too, prints ?."
-- A line is the list of its bytes, without its line end.
-- Assumes nothing.
use Rattle.std.specs.Prelude.{ℕ, ◌+◌, ◌-◌, ◌*◌, Bool, false, not, ◌&&◌, ◌||◌, leb, eqb, ℤ, pos, neg_ℤ, Option, Some, None, length, get_or, drop}
use mathlib.Core.List.{List, [], ◌∷◌, map, foldl}
use Rattle.numbers.specs.Choice.{first, every}
use Rattle.numbers.specs.Order.{below}
use Rattle.printer.specs.declared.reading.Request.{Request}
use Rattle.printer.specs.declared.reading.Request.TheVariants.{Frame, Tick}

-- ---- "One space between fields"

-- one byte more at the front of the first field
unfoldable pub ahead : ℕ → List (List ℕ) → List (List ℕ)
ahead b [] = (b ∷ []) ∷ []
ahead b (field ∷ rest) = (b ∷ field) ∷ rest

-- a line is cut at each of its spaces; two spaces have an empty field between them, and a space at the end has one after it
unfoldable pub fields : List ℕ → List (List ℕ)
fields [] = [] ∷ []
fields (b ∷ rest) = first (eqb b 0x20) ([] ∷ fields rest) (ahead b (fields rest))

-- a field that is one letter and nothing else
unfoldable pub letter : ℕ → List ℕ → Bool
letter x [] = false
letter x (b ∷ []) = eqb b x
letter x (b ∷ c ∷ rest) = false

-- ---- "16 hex digits", "hex is upper case": 0 to 9 are 30h to 39h, A to F are 41h to 46h

-- an upper-case hex digit
unfoldable pub is_hex : ℕ → Bool
is_hex b = (leb 0x30 b && leb b 0x39) || (leb 0x41 b && leb b 0x46)

-- what a hex digit stands for
unfoldable pub hex_value : ℕ → ℕ
hex_value b = first (leb b 0x39) (b - 0x30) (b - 0x41 + 10)

-- "16 hex digits"
unfoldable pub is_frame : List ℕ → Bool
is_frame field = eqb (length field) 16 && every is_hex field

-- two digits a byte, the first the higher
unfoldable pub bytes_of_digits : List ℕ → List ℕ
bytes_of_digits [] = []
bytes_of_digits (high ∷ []) = []
bytes_of_digits (high ∷ low ∷ rest) = (16 * hex_value high + hex_value low) ∷ bytes_of_digits rest

-- ---- "decimal INTEGER16", "an optional - and 1 to 5 digits": - is 2Dh

-- a decimal digit
unfoldable pub is_digit : ℕ → Bool
is_digit b = leb 0x30 b && leb b 0x39

-- the field begins with -
unfoldable pub minus : List ℕ → Bool
minus [] = false
minus (b ∷ rest) = eqb b 0x2D

-- the field without its -
unfoldable pub unsigned : List ℕ → List ℕ
unsigned field = first (minus field) (drop 1 field) field

-- one digit more behind a number
unfoldable pub tens : ℕ → ℕ → ℕ
tens n b = n * 10 + (b - 0x30)

-- the number that digits say, the first the highest
unfoldable pub size_of_digits : List ℕ → ℕ
size_of_digits digits = foldl tens 0 digits

-- the number that a field says; -0 is 0
unfoldable pub value_of : List ℕ → ℤ
value_of field = first (minus field) (neg_ℤ (pos (size_of_digits (unsigned field)))) (pos (size_of_digits (unsigned field)))

-- "1 to 5 digits"
unfoldable pub is_digits : List ℕ → Bool
is_digits digits = leb 1 (length digits) && (leb (length digits) 5 && every is_digit digits)

-- INTEGER16 is -32768..32767
unfoldable pub is_integer16 : ℤ → Bool
is_integer16 z = not (below z (neg_ℤ (pos 32768))) && not (below (pos 32767) z)

-- "decimal INTEGER16": so 99999 is none, though it has 5 digits
unfoldable pub is_decimal : List ℕ → Bool
is_decimal field = is_digits (unsigned field) && is_integer16 (value_of field)

-- ---- what is asked, if anything

-- "Any other line"
unfoldable pub unknown : Option Request
unknown = None

-- a frame of these eight bytes
unfoldable pub frame_of : List ℕ → Option Request
frame_of bytes = Some (Frame bytes)

-- a tick with these four samples
unfoldable pub tick_of : List ℤ → Option Request
tick_of samples = Some (Tick samples)

-- after S: one field, 16 hex digits
unfoldable pub asked_frame : List (List ℕ) → Option Request
asked_frame rest = first (eqb (length rest) 1 && every is_frame rest) (frame_of (bytes_of_digits (get_or rest 0 []))) unknown

-- after T: four fields, each a decimal
unfoldable pub asked_tick : List (List ℕ) → Option Request
asked_tick rest = first (eqb (length rest) 4 && every is_decimal rest) (tick_of (map value_of rest)) unknown

-- the first field is the letter: S is 53h, T is 54h
unfoldable pub asked_by : List (List ℕ) → Option Request
asked_by [] = unknown
asked_by (verb ∷ rest) = first (letter 0x53 verb) (asked_frame rest) (first (letter 0x54 verb) (asked_tick rest) unknown)

-- what a whole line asks for
unfoldable pub asked : List ℕ → Option Request
asked line = asked_by (fields line)
