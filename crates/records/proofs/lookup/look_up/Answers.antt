-- `lookup::look_up` meets its contract: as many records as the count says (`FindLaws`).
-- Assumes nothing.
use mathlib.Core.Path.{◌∙◌}
use Rattle.records.proofs.lookup.FindLaws.{no_count, behind_count}
use Rattle.records.proofs.lookup.look_up.Goals as goal

pub returns-then-image-lt4 : goal.returns-then-image-lt4
returns-then-image-lt4 c = no_count c.args.image.now _ _ c.if-image-lt4.true

pub returns : goal.returns
returns c =
    c.find_in.ensures ∙ behind_count c.args.image.now _ _ c.if-image-lt4.false c.four_at.ensures
