-- One byte of a piece, as the code takes it. No public contract cites this.
-- Assumes nothing.
use Rattle.std.specs.Prelude.{ℕ, ◌+◌, ◌≤◌, List, [], ◌≡◌, eqb, ltb, length, take, set}
use Rattle.std.proofs.lemmas.List.Edits.{sets}
use Rattle.numbers.specs.Choice.{first}
use Rattle.printer.specs.Answering.{Said}
use Rattle.session.specs.Dialogue.{Kept, told}

-- what the line that is held is answered
unfoldable pub ending : Kept → Said
ending k = told (take k.held k.line) k.unit

pub record Finished (s : Said) (room : List ℕ) (printed : ℕ) (unit' room' : List ℕ) (printed' : ℕ) : Type 0 where
  pub left : unit' ≡ s.left
  pub stored : room' ≡ sets room printed s.printed
  pub count : printed' ≡ printed + length s.printed
  pub short : length s.printed ≤ 64

unfoldable pub step : Kept → ℕ → Kept
step k b =
    first (eqb b 0x0A)
    (record { unit = (ending k).left; line = k.line; held = 0 })
    (first (ltb k.held 65) (record { unit = k.unit; line = set k.line k.held b; held = k.held + 1 }) k)

unfoldable pub speaks : Kept → ℕ → List ℕ
speaks k b = first (eqb b 0x0A) (ending k).printed []

pub record Taken (k : Kept) (b : ℕ) (room : List ℕ) (printed : ℕ) (k' : Kept) (room' : List ℕ) (printed' : ℕ) : Type 0 where
  pub kept : k' ≡ step k b
  pub stored : room' ≡ sets room printed (speaks k b)
  pub count : printed' ≡ printed + length (speaks k b)
  pub short : length (speaks k b) ≤ 64
