-- A decimal by its sign and its digits.
-- Assumes nothing.
use Prim.Native.Nat.{ℕ, ◌-◌}
use mathlib.Core.List.{List}
use mathlib.Core.Path.{◌≡◌, sym, ap, ◌∙◌}
use native.Mathlib.Omega.{arith}
use borrow.Author.Rules.{sfits_of}
use lib.ListN.{length, take, drop}
use mir.Syntax.{w16}
use mir.Facts.{to_z-of_z, to_z_pos}
use Rattle.std.specs.Prelude.{Option, Some}
use Rattle.printer.specs.Steps.{size_read}
use Rattle.printer.proofs.Cutting.{tail}
use Rattle.printer.proofs.Decimals.{number_none, minus_bad, minus_is, plain_bad, plain_is, sized_most, complement}
use Rattle.printer.proofs.reading.decimal.read_number.Goals as goal

-- what the digits past the - are read as
past : (text : List ℕ) {r : Option ℕ} → r ≡ size_read (take (length text - 1) (drop 1 text)) 32768 → size_read (drop 1 text) 32768 ≡ r
past text e = ap (λ (d : List ℕ). size_read d 32768) (sym (tail 1 text)) ∙ sym e

pub returns-in-empty : goal.returns-in-empty
returns-in-empty c = sym (number_none c.args.text.now (omega arith))

pub returns-in_default-read_size : goal.returns-in_default-read_size
returns-in_default-read_size c = sym (minus_bad c.args.text.now (omega arith) (past _ c.read_size.ensures ∙ c.in_default-read_size.is))

pub overflow_sub-n : goal.overflow_sub-n
overflow_sub-n c = omega (arith, sized_most _ 32768 _ (past _ c.read_size.ensures ∙ c.in-Some.is))

pub returns-in-Some : goal.returns-in-Some
returns-in-Some c =
    let read = past _ c.read_size.ensures ∙ c.in-Some.is in
    ap Some (to_z-of_z {w = w16} (sfits_of c.signed.type_inv) ∙ c.signed.ensures ∙ complement c.in-Some.n (sized_most _ 32768 _ read))
    ∙ sym (minus_is c.args.text.now (omega arith) c.in-Some.n read)

pub returns-in_default-read_size-2 : goal.returns-in_default-read_size-2
returns-in_default-read_size-2 c =
    sym (plain_bad c.args.text.now (λ q. omega arith) (sym c.read_size-in_default.ensures ∙ c.in_default-read_size-2.is))

pub overflow_cast-result : goal.overflow_cast-result
overflow_cast-result c = omega (arith, sized_most _ 32767 _ (sym c.read_size-in_default.ensures ∙ c.in-Some-read_size.is))

pub returns-in-Some-read_size : goal.returns-in-Some-read_size
returns-in-Some-read_size c =
    let read = sym c.read_size-in_default.ensures ∙ c.in-Some-read_size.is in
    ap Some (to_z_pos w16 (omega (arith, sized_most _ 32767 _ read)))
    ∙ sym (plain_is c.args.text.now (λ q. omega arith) c.in-Some-read_size.n read)
