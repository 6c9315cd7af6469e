-- What is promised of one tick's interlock, whatever the core commands and whatever the coils were sent: the rules that hold a coil at 0, each coil's number by
-- them and by nothing else, and never both above 0.
-- Assumes nothing.
use Rattle.std.specs.Prelude.{List, ◌⊎◌, ◌≡◌, ℤ, pos, ◌<ℤ◌}
use Rattle.spool.specs.Interlock.{coil_1, coil_2, interlocked}

pub data Coil : Type 0 where
  one : Coil
  two : Coil

abbrev pub other : Coil → Coil
other one = two
other two = one

-- what a list of numbers, commands or sent, has for a coil
abbrev pub of : Coil → List ℤ → ℤ
of one numbers = coil_1 numbers
of two numbers = coil_2 numbers

abbrev pub Above0 : ℤ → Type 0
Above0 n = pos 0 <ℤ n

abbrev pub At0 : ℤ → Type 0
At0 n = n ≡ pos 0

-- "If both ask while both are at 0, coil 1 wins."
abbrev pub Loses : Coil → List ℤ → List ℤ → Type 0
Loses one commands sent = ⊥
Loses two commands sent = Above0 (of one commands) × (At0 (of one sent) × At0 (of two sent))

-- the rules hold a coil that asks at 0: "a coil goes above 0 only if the other was sent 0 on the tick before", or it loses
abbrev pub Holds : Coil → List ℤ → List ℤ → Type 0
Holds coil commands sent = Above0 (of coil commands) × ((At0 (of (other coil) sent) → ⊥) ⊎ Loses coil commands sent)

-- what a coil is sent, by what holds it: 0 exactly where it is held although it asks, the command exactly where it is not held
pub record Obeys (Held : Type 0) (command sent : ℤ) : Type 0 where
  pub held : Held → At0 sent
  pub only_held : Above0 command → At0 sent → Held
  pub free : (Held → ⊥) → sent ≡ command
  pub only_free : sent ≡ command → Held → ⊥

-- "each coil is sent the core's command whenever these rules don't hold it at 0"
abbrev pub EachObeys : Type 0
EachObeys = (coil : Coil) (commands sent : List ℤ) → Obeys (Holds coil commands sent) (of coil commands) (of coil (interlocked commands sent))

-- "a coil goes above 0 only if the other was sent 0 on the tick before"
abbrev pub OnlyAfter0 : Type 0
OnlyAfter0 = (coil : Coil) (commands sent : List ℤ) → Above0 (of coil (interlocked commands sent)) → At0 (of (other coil) sent)

-- "never both above 0"
abbrev pub NotBoth : List ℤ → Type 0
NotBoth sent = Above0 (of one sent) → Above0 (of two sent) → ⊥

abbrev pub NeverBoth : Type 0
NeverBoth = (commands sent : List ℤ) → NotBoth (interlocked commands sent)
