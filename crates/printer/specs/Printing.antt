-- How an answer is printed: "prints the reply, or -", "prints O, the four commands, 1001h as two hex digits. One space between fields;
-- decimals have an optional - and 1 to 5 digits; hex is upper case. Any other line .. prints ?." Every answer ends with a line end.
-- An answer is the list of its bytes.
-- Assumes nothing.
use Rattle.std.specs.Prelude.{ℕ, zero, suc, ◌+◌, ◌-◌, ◌/◌, ◌%◌, List, [], ◌∷◌, ◌++◌, map, ◌≡◌, ltb, ℤ, pos, negsuc, length, take, drop}
use Rattle.numbers.specs.Choice.{first}

-- ---- "hex is upper case": 0 to 9 are 30h to 39h, A to F are 41h to 46h

-- the digit that stands for a number below 16
unfoldable pub hex_digit : ℕ → ℕ
hex_digit n = first (ltb n 10) (0x30 + n) (0x41 + (n - 10))

-- a byte as two hex digits
unfoldable pub hex2 : ℕ → List ℕ
hex2 b = hex_digit (b / 16) ∷ hex_digit (b % 16) ∷ []

-- the bytes of each element, one after the other
unfoldable pub each : {A : Type 0} → (A → List ℕ) → List A → List ℕ
each bytes [] = []
each bytes (x ∷ rest) = bytes x ++ each bytes rest

-- ---- "decimals have an optional - and 1 to 5 digits": no more digits than the number needs

-- how many digits a number of up to 5 needs: at least one, and no leading zero
unfoldable pub width : ℕ → ℕ
width n = first (ltb n 10) 1 (first (ltb n 100) 2 (first (ltb n 1000) 3 (first (ltb n 10000) 4 5)))

-- the last w digits of n, the highest first
unfoldable pub last_digits : ℕ → ℕ → List ℕ
last_digits zero n = []
last_digits (suc w) n = last_digits w (n / 10) ++ (0x30 + n % 10) ∷ []

-- a number in decimal
unfoldable pub digits : ℕ → List ℕ
digits n = last_digits (width n) n

-- a whole number in decimal: - is 2Dh, and `negsuc n` is -(n + 1)
unfoldable pub decimal : ℤ → List ℕ
decimal (pos n) = digits n
decimal (negsuc n) = 0x2D ∷ digits (suc n)

-- ---- answers

-- "One space between fields"
unfoldable pub spaced : List (List ℕ) → List ℕ
spaced [] = []
spaced (field ∷ []) = field
spaced (field ∷ next ∷ rest) = field ++ 0x20 ∷ spaced (next ∷ rest)

-- an answer ends with LF
unfoldable pub ended : List ℕ → List ℕ
ended answer = answer ++ 0x0A ∷ []

-- a reply's eight bytes as 16 hex digits; what is shorter is no reply, and prints nothing
unfoldable pub reply_line : List ℕ → List ℕ
reply_line reply = first (ltb (length reply) 8) [] (ended (each hex2 (take 8 reply)))

-- "prints O, the four commands, 1001h as two hex digits": O is 4Fh
unfoldable pub tick_line : List ℤ → ℕ → List ℕ
tick_line commands register = ended (spaced ((0x4F ∷ []) ∷ map decimal commands ++ hex2 register ∷ []))

-- "prints the reply, or -": no reply
unfoldable pub silent_line : List ℕ
silent_line = ended (0x2D ∷ [])

-- "Any other line .. prints ?": ? is 3Fh
unfoldable pub unknown_line : List ℕ
unknown_line = ended (0x3F ∷ [])

-- ---- a lent buffer: it begins with the answer, what follows is as it was, and the result is the answer's length

pub record Printed (answer before after : List ℕ) (count : ℕ) : Type 0 where
  pub counted : count ≡ length answer
  pub bytes : after ≡ answer ++ drop (length answer) before
