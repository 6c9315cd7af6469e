-- By the test on the pattern.
-- Assumes nothing.
use mathlib.Core.Bool.{Bool, not}
use mathlib.Core.Path.{◌∙◌, sym, subst}
use borrow.Author.Tests.{lt-ltb, le-ltb}
use lib.Dec.{T}
use lib.Ieee.{binary32}
use lib.Ieee.Bits.{nan_bits_above}
use Rattle.numbers.specs.Choice.{first}
use Rattle.signals.specs.Words.{real_of}
use Rattle.signals.proofs.keeping.real_of.Goals as goal

pub returns-then-word-gt2139095040 : goal.returns-then-word-gt2139095040
unfolding real_of first
returns-then-word-gt2139095040 c = rw (nan_bits_above binary32 c.args.word ∙ lt-ltb _ _ c.if-word-gt2139095040.true)

pub float_from_bits-result : goal.float_from_bits-result
float_from_bits-result c = subst (λ (b : Bool). T (not b)) (sym (nan_bits_above binary32 c.args.word ∙ le-ltb _ _ c.if-word-gt2139095040.false)) tt

pub returns : goal.returns
unfolding real_of first
returns c = rw (nan_bits_above binary32 c.args.word ∙ le-ltb _ _ c.if-word-gt2139095040.false)
