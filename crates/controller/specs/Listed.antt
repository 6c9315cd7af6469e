-- The error list after a tick, of document 02 (viii): "Keep the last 8 flaggings beside the inputs, newest at sub 1".
-- Assumes nothing.
use Rattle.std.specs.Prelude.{ℕ, zero, suc, List, [], ◌∷◌, ◌++◌, ◌≡◌, ℤ, length, take}
use Rattle.numbers.specs.Choice.{first}
use Rattle.dictionary.specs.Unit.{unit_size}
use Rattle.input.specs.Errors.{error, errors, flagging}
use Rattle.input.specs.Inputs.{memory}
use Rattle.controller.specs.Tick.{ticked}

-- the flaggings of inputs 1 to n in a tick, newest first: "Two on one tick enter by input number"
unfoldable pub flaggings : ℕ → List ℕ → List ℕ → List ℕ
flaggings zero before after = []
flaggings (suc n) before after =
    first (flagging (memory before (suc n)).flagged (memory after (suc n)).flagged) (error (suc n) ∷ []) [] ++ flaggings n before after

-- they stand in front of what was kept before, cut at eight
abbrev pub EnterInFront : Type 0
EnterInFront =
    (samples : List ℤ) (unit : List ℕ) → length unit ≡ unit_size
    → errors (ticked samples unit) ≡ take 8 (flaggings 4 unit (ticked samples unit) ++ errors unit)
