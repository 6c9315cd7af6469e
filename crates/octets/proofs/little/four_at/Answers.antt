-- The bytes at the place, as many as are there (`Parts`).
-- Assumes nothing.
use mathlib.Core.Path.{refl, ◌∙◌}
use Rattle.octets.proofs.little.Parts.{none_past, from_rest, one_of_four, two_of_four, three_of_four}
use Rattle.octets.proofs.little.four_at.Goals as goal

pub returns-then-at-bytes : goal.returns-then-at-bytes
returns-then-at-bytes c = none_past c.args.bytes.now c.args.at 4 c.if-at-bytes.true

pub returns-in-len1 : goal.returns-in-len1
returns-in-len1 c = from_rest c.args.bytes.now c.args.at 4 refl (c.four.ensures ∙ one_of_four _ c.in-len1.len_at_least c.in-len1.len_below)

pub returns-in-len2 : goal.returns-in-len2
returns-in-len2 c = from_rest c.args.bytes.now c.args.at 4 refl (c.four-in-len2.ensures ∙ two_of_four _ c.in-len2.len_at_least c.in-len2.len_below)

pub returns-in-len3 : goal.returns-in-len3
returns-in-len3 c = from_rest c.args.bytes.now c.args.at 4 refl (c.four-in-len3.ensures ∙ three_of_four _ c.in-len3.len_at_least c.in-len3.len_below)
