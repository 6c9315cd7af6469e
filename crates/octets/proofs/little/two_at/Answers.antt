-- The bytes at the place, as many as are there (`Parts`).
-- Assumes nothing.
use mathlib.Core.Path.{refl, ◌∙◌}
use Rattle.octets.proofs.little.Parts.{none_past, from_rest, one_of_two}
use Rattle.octets.proofs.little.two_at.Goals as goal

pub returns-then-at-bytes : goal.returns-then-at-bytes
returns-then-at-bytes c = none_past c.args.bytes.now c.args.at 2 c.if-at-bytes.true

pub returns-in-len1 : goal.returns-in-len1
returns-in-len1 c = from_rest c.args.bytes.now c.args.at 2 refl (c.two.ensures ∙ one_of_two _ c.in-len1.len_at_least c.in-len1.len_below)
