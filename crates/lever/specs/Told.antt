-- What a line of the spool product's session does and prints: what the session's line does and prints, but for a tick, which is the product's own and prints after O
-- what the two coils are sent: `O s1 s2 c3 c4 rr` for `O c1 c2 c3 c4 rr`.
-- Assumes nothing.
use Rattle.std.specs.Prelude.{ℕ, List, [], ◌∷◌, ◌≡◌, leb, ℤ, pos, Option, Some, None, length, get_or}
use Rattle.numbers.specs.Choice.{first}
use Rattle.controller.specs.Tick.{ticked}
use Rattle.firmware.specs.Published.{commands, register}
use Rattle.spool.specs.Interlock.{coil_1, coil_2, interlocked}
use Rattle.printer.specs.Printing.{Printed, tick_line}
use Rattle.printer.specs.Answering as core
use Rattle.printer.specs.Reading.{asked}
use Rattle.printer.specs.declared.reading.Request.{Request}
use Rattle.printer.specs.declared.reading.Request.TheVariants.{Frame, Tick}

-- the unit and what the coils were sent, as a line leaves them, and what it prints
pub record Told : Type 0 where
  pub unit : List ℕ
  pub sent : List ℤ
  pub printed : List ℕ

-- "O, the four commands, 1001h as two hex digits", with what the coils are sent in the place of the first two
unfoldable pub sent_line : List ℕ → List ℤ → List ℕ
sent_line unit sent = tick_line (coil_1 sent ∷ coil_2 sent ∷ get_or (commands unit) 2 (pos 0) ∷ get_or (commands unit) 3 (pos 0) ∷ []) (register unit)

-- the product's tick
unfoldable pub sampled : List ℤ → List ℕ → List ℤ → Told
sampled samples unit sent =
    let after = ticked samples unit in
    let sent' = interlocked (commands after) sent in
    record { unit = after; sent = sent'; printed = sent_line after sent' }

-- the core's own answer; the coils are sent nothing new
unfoldable pub passed : core.Said → List ℤ → Told
passed said sent = record { unit = said.left; sent = sent; printed = said.printed }

-- by what the line asks for
unfoldable pub by_request : Option Request → List ℕ → List ℕ → List ℤ → Told
by_request (Some (Frame frame)) line unit sent = passed (core.said line unit) sent
by_request (Some (Tick samples)) line unit sent = sampled samples unit sent
by_request None line unit sent = passed (core.said line unit) sent

-- "lines to 64 bytes .. Any other line, empty or longer too, prints ?."
unfoldable pub told : List ℕ → List ℕ → List ℤ → Told
told line unit sent = first (leb (length line) 64) (by_request (asked line) line unit sent) (passed (core.unheard unit) sent)

-- what is left behind: the unit, what was sent, and the lent buffer that begins with what is printed
pub record Answers (t : Told) (unit : List ℕ) (sent : List ℤ) (before after : List ℕ) (count : ℕ) : Type 0 where
  pub left : unit ≡ t.unit
  pub coils : sent ≡ t.sent
  pub print : Printed t.printed before after count
