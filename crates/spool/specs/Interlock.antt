-- The interlock of one spool with two coils, on outputs 1 and 2: what they are sent, of the core's commands and of what they were sent on the tick before.
-- Assumes nothing.
use Rattle.std.specs.Prelude.{Bool, false, not, ◌&&◌, ◌||◌, List, [], ◌∷◌, eqb, ℤ, pos, negsuc, get_or}
use Rattle.numbers.specs.Choice.{first}
use Rattle.numbers.specs.Order.{below}

-- "two coils on outputs 1 and 2": what a list of numbers, commands or sent, has for each
unfoldable pub coil_1 : List ℤ → ℤ
coil_1 numbers = get_or numbers 0 (pos 0)

unfoldable pub coil_2 : List ℤ → ℤ
coil_2 numbers = get_or numbers 1 (pos 0)

-- "Both start as sent 0."
unfoldable pub sent_at_start : List ℤ
sent_at_start = pos 0 ∷ pos 0 ∷ []

-- "ask": the core commands it above 0
unfoldable pub asks : ℤ → Bool
asks command = below (pos 0) command

-- "was sent 0", and not less
unfoldable pub rested : ℤ → Bool
rested (pos n) = eqb n 0
rested (negsuc n) = false

-- "a coil goes above 0 only if the other was sent 0 on the tick before": else it waits
unfoldable pub waits : ℤ → ℤ → Bool
waits command other = asks command && not (rested other)

-- "If both ask while both are at 0, coil 1 wins.": coil 2 loses
unfoldable pub loses : List ℤ → List ℤ → Bool
loses commands sent = asks (coil_1 commands) && asks (coil_2 commands) && rested (coil_1 sent) && rested (coil_2 sent)

-- "It sends the core's two commands on, but .. The coil that loses is sent 0."
unfoldable pub sent_1 : List ℤ → List ℤ → ℤ
sent_1 commands sent = first (waits (coil_1 commands) (coil_2 sent)) (pos 0) (coil_1 commands)

unfoldable pub sent_2 : List ℤ → List ℤ → ℤ
sent_2 commands sent = first (waits (coil_2 commands) (coil_1 sent) || loses commands sent) (pos 0) (coil_2 commands)

unfoldable pub interlocked : List ℤ → List ℤ → List ℤ
interlocked commands sent = sent_1 commands sent ∷ sent_2 commands sent ∷ []
