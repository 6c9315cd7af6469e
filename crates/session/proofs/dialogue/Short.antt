-- No answer is longer than 33 bytes.
-- Assumes nothing.
use Prim.Native.Nat.{ℕ, ◌*◌, ◌≤◌}
use mathlib.Core.Bool.{Bool, true, false}
use mathlib.Core.List.{List, [], ◌∷◌, ◌++◌}
use mathlib.Core.Path.{◌≡◌, refl}
use native.Mathlib.Omega.{arith}
use lib.Dec.{leb, ltb, lit≤}
use lib.IntN.{ℤ}
use lib.ListN.{length, take, length-append, length-take}
use Rattle.std.specs.Prelude.{Option, Some, None}
use Rattle.numbers.specs.Choice.{first}
use Rattle.sdo.specs.Frames.{Answer, reply_to}
use Rattle.printer.specs.declared.reading.Request.{Request}
use Rattle.printer.specs.declared.reading.Request.TheVariants.{Frame, Tick}
use Rattle.printer.specs.Reading.{asked}
use Rattle.printer.specs.Printing.{hex2, each, decimal, ended, reply_line, tick_line, silent_line, unknown_line}
use Rattle.printer.proofs.answer_lines.Lines.{command_put, tick_put}
use Rattle.printer.proofs.answer_lines.Places.{decimal_most}
use Rattle.printer.specs.Answering.{shown, decided, served, state_line, sampled, unheard, done, said}
use Rattle.session.specs.Dialogue.{told}

hex_long : (bytes : List ℕ) → length (each hex2 bytes) ≡ 2 * length bytes
unfolding each hex2
hex_long [] = refl
hex_long (b ∷ rest) = omega (arith, hex_long rest)

reply_most : (reply : List ℕ) → length (reply_line reply) ≤ 33
unfolding reply_line ended first
reply_most reply = by (ltb (length reply) 8) where
  by : (t : Bool) → length (first t [] (each hex2 (take 8 reply) ++ 0x0A ∷ [])) ≤ 33
  by true = lit≤ tt
  by false = omega (arith, length-append (each hex2 (take 8 reply)) (0x0A ∷ []), hex_long (take 8 reply), length-take 8 reply)

commands_most : (commands : List ℤ) → length (each command_put commands) ≤ 7 * length commands
unfolding each command_put
commands_most [] = omega arith
commands_most (v ∷ rest) = omega (arith, length-append (decimal v) (each command_put rest), decimal_most v, commands_most rest)

tick_most : (commands : List ℤ) (register : ℕ) → length commands ≡ 4 → length (tick_line commands register) ≤ 33
unfolding hex2
tick_most commands register four =
    rw (tick_put commands register)
    (omega (arith, length-append ((0x4F ∷ []) ++ each command_put commands) (0x20 ∷ hex2 register ++ 0x0A ∷ []), commands_most commands))

shown_most : (frame : List ℕ) (a : Answer) → length (shown frame a) ≤ 33
unfolding shown silent_line ended
shown_most frame None = lit≤ tt
shown_most frame (Some done) = reply_most (reply_to frame (Some done))

done_most : (asked : Option Request) (unit : List ℕ) → length (done asked unit).printed ≤ 33
unfolding done served sampled unheard state_line unknown_line ended
done_most (Some (Frame frame)) unit = shown_most frame (decided unit frame)
done_most (Some (Tick samples)) unit = tick_most _ _ refl
done_most None unit = lit≤ tt

pub told_most : (line unit : List ℕ) → length (told line unit).printed ≤ 33
unfolding told first said unheard done
told_most line unit = by (leb (length line) 64) where
  by : (t : Bool) → length (first t (said line unit) (unheard unit)).printed ≤ 33
  by true = done_most (asked line) unit
  by false = done_most None unit
