-- What a line prints, and what it does to the unit: "S and 16 hex digits: prints the reply, or -. T and four decimal INTEGER16: prints O, the four
-- commands, 1001h as two hex digits. .. Any other line, empty or longer too, prints ?."
-- Assumes nothing.
use Rattle.std.specs.Prelude.{ℕ, List, [], ◌∷◌, ◌≡◌, ℤ, Option, Some, None}
use Rattle.sdo.specs.Answers as frames
use Rattle.sdo.specs.Frames.{Answer, reply_to}
use Rattle.sdo.specs.Served.{after}
use Rattle.unit.specs.Entry.{whole, byte}
use Rattle.controller.specs.Tick.{ticked}
use Rattle.printer.specs.Printing.{Printed, reply_line, silent_line, tick_line, unknown_line}
use Rattle.printer.specs.Reading.{asked}
use Rattle.printer.specs.declared.reading.Request.{Request}
use Rattle.printer.specs.declared.reading.Request.TheVariants.{Frame, Tick}

-- the unit that a line leaves, and what it prints
pub record Said : Type 0 where
  pub left : List ℕ
  pub printed : List ℕ

-- "prints the reply, or -"
unfoldable pub shown : List ℕ → Answer → List ℕ
shown frame None = silent_line
shown frame (Some done) = reply_line (reply_to frame (Some done))

-- a frame's answer: the reply has room for eight bytes
unfoldable pub decided : List ℕ → List ℕ → Answer
decided unit frame = frames.answer unit frame 8

-- "S and 16 hex digits": the frame is served
unfoldable pub served : List ℕ → List ℕ → Said
served frame unit = record { left = after unit (decided unit frame); printed = shown frame (decided unit frame) }

-- "O, the four commands, 1001h as two hex digits": the commands are 7330h:1-4
unfoldable pub state_line : List ℕ → List ℕ
state_line unit = tick_line (whole unit 0x7330 1 ∷ whole unit 0x7330 2 ∷ whole unit 0x7330 3 ∷ whole unit 0x7330 4 ∷ []) (byte unit 0x1001 0)

-- "T and four decimal INTEGER16": a tick, and then what stands in the unit
unfoldable pub sampled : List ℤ → List ℕ → Said
sampled samples unit = record { left = ticked samples unit; printed = state_line (ticked samples unit) }

-- "Any other line .. prints ?", and changes nothing
unfoldable pub unheard : List ℕ → Said
unheard unit = record { left = unit; printed = unknown_line }

-- by what is asked
unfoldable pub done : Option Request → List ℕ → Said
done (Some (Frame frame)) unit = served frame unit
done (Some (Tick samples)) unit = sampled samples unit
done None unit = unheard unit

-- what a whole line does
unfoldable pub said : List ℕ → List ℕ → Said
said line unit = done (asked line) unit

-- what is left behind: the unit, and the lent buffer that begins with what is printed
pub record Answers (s : Said) (unit : List ℕ) (before after : List ℕ) (count : ℕ) : Type 0 where
  pub left : unit ≡ s.left
  pub print : Printed s.printed before after count
