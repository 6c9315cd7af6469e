-- A hex digit's value, told by its range.
-- Assumes nothing.
use native.Mathlib.Omega.{arith}
use borrow.Author.Tests.{le-leb, lt-leb}
use Rattle.numbers.specs.Choice.{first}
use Rattle.printer.specs.Reading.{is_hex, hex_value}
use Rattle.printer.specs.Steps.{nibble_of}
use Rattle.printer.proofs.reading.hexadecimal.nibble.Goals as goal

pub returns-in-48-to-57 : goal.returns-in-48-to-57
unfolding nibble_of is_hex hex_value first
returns-in-48-to-57 c = let b = c.args.b in rw (le-leb 0x30 b (omega arith), le-leb b 0x39 (omega arith))

pub returns-in-65-to-70 : goal.returns-in-65-to-70
unfolding nibble_of is_hex hex_value first
returns-in-65-to-70 c = let b = c.args.b in rw (le-leb 0x30 b (omega arith), lt-leb b 0x39 (omega arith), le-leb 0x41 b (omega arith), le-leb b 0x46 (omega arith))

pub returns-in_default : goal.returns-in_default
unfolding nibble_of is_hex hex_value first
returns-in_default c = let b = c.args.b in rw (lt-leb 0x30 b (omega arith), lt-leb 0x41 b (omega arith))

pub returns-in_default-2 : goal.returns-in_default-2
unfolding nibble_of is_hex hex_value first
returns-in_default-2 c = let b = c.args.b in rw (le-leb 0x30 b (omega arith), lt-leb b 0x39 (omega arith), lt-leb 0x41 b (omega arith))

pub returns-in_default-3 : goal.returns-in_default-3
unfolding nibble_of is_hex hex_value first
returns-in_default-3 c = let b = c.args.b in rw (le-leb 0x30 b (omega arith), le-leb 0x41 b (omega arith), lt-leb b 0x39 (omega arith), lt-leb b 0x46 (omega arith))
