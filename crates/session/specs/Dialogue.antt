-- A whole session: "Standard input, lines to 64 bytes. .. Any other line, empty or longer too, prints ?. The last line may lack its line end."
-- Assumes nothing.
use Rattle.std.specs.Prelude.{ℕ, ◌/◌, min, ◌≡◌, leb, eqb, length, take}
use mathlib.Core.List.{List, [], ◌∷◌, ◌++◌, foldl}
use Rattle.std.proofs.lemmas.List.Edits.{sets}
use Rattle.numbers.specs.Choice.{first}
use Rattle.terminal.specs.declared.line.Line.{Line}
use Rattle.printer.specs.Printing.{Printed}
use Rattle.printer.specs.Answering.{Said, said, unheard}

-- ---- lines

-- an input cut into lines: those that are finished, and what stands behind the last line end
pub record Cut : Type 0 where
  pub finished : List (List ℕ)
  pub unfinished : List ℕ

-- a byte more: LF (0Ah) finishes the line, any other byte joins it
unfoldable pub joined : Cut → ℕ → Cut
joined c b =
    first (eqb b 0x0A) (record { finished = c.finished ++ c.unfinished ∷ []; unfinished = [] }) (record { finished = c.finished; unfinished = c.unfinished ++ b ∷ [] })

-- an input that goes on with an unfinished line
unfoldable pub cut : List ℕ → List ℕ → Cut
cut line input = foldl joined (record { finished = []; unfinished = line }) input

-- "The last line may lack its line end": what stands behind the last line end is a line too, unless it is empty
unfoldable pub lines : Cut → List (List ℕ)
lines c = first (eqb (length c.unfinished) 0) c.finished (c.finished ++ c.unfinished ∷ [])

-- ---- answers

-- "lines to 64 bytes": a longer one prints ?
unfoldable pub told : List ℕ → List ℕ → Said
told line unit = first (leb (length line) 64) (said line unit) (unheard unit)

-- one line more
unfoldable pub next : Said → List ℕ → Said
next s line = let t = told line s.left in record { left = t.left; printed = s.printed ++ t.printed }

-- lines, answered one after the other
unfoldable pub answered : List (List ℕ) → List ℕ → Said
answered lines unit = foldl next (record { left = unit; printed = [] }) lines

-- what a whole input prints, and the unit that it leaves
unfoldable pub session : List ℕ → List ℕ → Said
session input unit = answered (lines (cut [] input)) unit

-- ---- a piece of the input

-- what is kept between two pieces: the unit, and the unfinished line as so many bytes at the front of a lent array
pub record Kept : Type 0 where
  pub unit : List ℕ
  pub line : List ℕ
  pub held : ℕ

-- the unit and the line that the code has
abbrev pub kept_of : List ℕ → Line → Kept
kept_of unit line = record { unit = unit; line = line.bytes; held = line.held }

-- the lines that a piece brings to their end, and the line that it leaves unfinished
unfoldable pub goes_on : Kept → List ℕ → Cut
goes_on k piece = cut (take k.held k.line) piece

unfoldable pub prints : Kept → List ℕ → List ℕ
prints k piece = (answered (goes_on k piece).finished k.unit).printed

-- in the lent array each line is written over the one before, as far as there is room
unfoldable pub over : List ℕ → List ℕ → List ℕ
over bytes line = sets bytes 0 line

unfoldable pub after : Kept → List ℕ → Kept
after k piece =
    let c = goes_on k piece in
    record {
      unit = (answered c.finished k.unit).left;
      line = foldl over k.line (c.finished ++ c.unfinished ∷ []);
      held = min (length c.unfinished) 65;
    }

-- a byte of the piece is taken for each 64 bytes of room, which every answer fits
unfoldable pub taken : List ℕ → List ℕ → List ℕ
taken piece room = take (length room / 64) piece

-- only what is taken is heard, and the caller is told how much that is
pub record Hears (k : Kept) (piece room : List ℕ) (k' : Kept) (room' : List ℕ) (printed took : ℕ) : Type 0 where
  pub kept : k' ≡ after k (taken piece room)
  pub print : Printed (prints k (taken piece room)) room room' printed
  pub count : took ≡ length (taken piece room)

-- the end of the input
unfoldable pub closed : Kept → Said
closed k = answered (lines (goes_on k [])) k.unit
