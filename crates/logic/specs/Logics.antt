-- The two logic blocks in a tick.
-- Assumes nothing.
use Rattle.std.specs.Prelude.{ℕ, zero, suc, ◌+◌, ◌*◌, ◌%◌, Bool, not, List, get_or}
use Rattle.numbers.specs.Choice.{first}
use Rattle.numbers.specs.Signed.{pattern16}
use Rattle.signals.specs.Signal as signals
use Rattle.signals.specs.declared.signal.Signal.{Signal}
use Rattle.dictionary.specs.Names.{slot_of}
use Rattle.logic.specs.Digits.{digits_of}
use Rattle.logic.specs.Logic.{judged, holding}
use Rattle.logic.specs.declared.Verdict.{Verdict}
use Rattle.unit.specs.Entry.{byte, switched, publish}
use Rattle.unit.specs.Held.{logics, lay}
use Rattle.unit.specs.Sources.{sourced}

-- "4x01h, x=1..2": an index of the family
abbrev pub of_logic : ℕ → ℕ → ℕ
of_logic index x = index + 0x100 * x

-- "4x11h-13h, 21h-23h, 31h-33h": condition c of A, B or C, which are t = 1, 2, 3
abbrev pub of_condition : ℕ → ℕ → ℕ → ℕ
of_condition x t c = 0x4000 + 0x100 * x + 0x10 * t + c

-- a condition's argument, a source and a number that follow each other: its signal, and the digits of its source
unfoldable pub argument_at : List ℕ → ℕ → Signal
argument_at unit slot = sourced unit (get_or unit slot 0 % 0x100) (get_or unit (slot + 1) 0 % 0x100)

unfoldable pub digits_at : List ℕ → ℕ → ℕ
digits_at unit slot = digits_of unit (get_or unit slot 0 % 0x100) (get_or unit (slot + 1) 0 % 0x100)

-- "condition: source, number, source, number, comparison": its five words follow each other; the first argument's signal is given
unfoldable pub judged_at : List ℕ → ℕ → Signal → Verdict
judged_at unit slot left =
    judged left (digits_at unit slot) (argument_at unit (slot + 2)) (digits_at unit (slot + 2)) (get_or unit (slot + 4) 0 % 0x100)

unfoldable pub condition_at : List ℕ → ℕ → Verdict
condition_at unit slot = judged_at unit slot (argument_at unit slot)

unfoldable pub condition_of : List ℕ → ℕ → Verdict
condition_of unit index = condition_at unit (slot_of index 1)

-- "4x02h operator": whether that of A, B or C holds
unfoldable pub holds_of : List ℕ → ℕ → ℕ → Bool
holds_of unit x t =
    holding (byte unit (of_logic 0x4002 x) t)
    (condition_of unit (of_condition x t 1))
    (condition_of unit (of_condition x t 2))
    (condition_of unit (of_condition x t 3))

-- "First of A, B, C that holds": the table's number of the first of n from t on, 0 if none does; "4x01h table for A, B, C"
unfoldable pub first_that_holds : List ℕ → ℕ → ℕ → ℕ → ℕ
first_that_holds unit x t zero = 0
first_that_holds unit x t (suc n) = first (holds_of unit x t) (byte unit (of_logic 0x4001 x) t) (first_that_holds unit x (suc t) n)

-- "None, or disabled: 4010h is 0"; "4000h logic enable"
unfoldable pub chosen : List ℕ → ℕ → ℕ
chosen unit x = first (not (switched unit 0x4000 x)) 0 (first_that_holds unit x 1 3)

-- "4010h is its table's number, the output that table's signal", as source 3 names it; 0 names nothing, so it is not available
unfoldable pub logic_turn : ℕ → List ℕ → List ℕ
logic_turn x unit =
    let number = chosen unit x in
    let signal = sourced unit 3 number in
    lay (publish (publish unit 0x4010 x number) 0x4020 x (pattern16 (signals.whole signal))) logics x signal
