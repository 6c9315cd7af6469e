-- `walking::walk` meets its contract: the rows are those of the listed entries, by computing.
-- Assumes nothing.
use mathlib.Core.Path.{refl}
use mathlib.Core.List.{flat_map}
use Rattle.numbers.specs.Choice.{first}
use Rattle.dictionary.specs.Names.{configured}
use Rattle.roles.specs.Roles.{ranged}
use Rattle.records.specs.Layout.{listed}
use Rattle.records.specs.Rows.{row_of, row_from, entry_at, role_at, value_at}
use Rattle.records.proofs.WalkLaws.{no_count, other_count, records_refused, records_taken, records_fit}
use native.Mathlib.Omega.{arith}
use Rattle.records.proofs.walking.walk.Goals as goal

pub returns-then-image-lt4 : goal.returns-then-image-lt4
returns-then-image-lt4 c = no_count _ c.if-image-lt4.true

pub returns-then-four_at-ne-EC_VALUE : goal.returns-then-four_at-ne-EC_VALUE
unfolding configured
returns-then-four_at-ne-EC_VALUE c =
    other_count c.args.image.now c.if-image-lt4.false c.four_at.ensures c.if-four_at-ne-EC_VALUE.true

pub returns-in_default : goal.returns-in_default
unfolding configured listed row_of row_from entry_at role_at value_at first flat_map ranged
returns-in_default c =
    records_refused c.args.image.now c.if-image-lt4.false c.four_at.ensures c.if-four_at-ne-EC_VALUE.false refl c.walk_rows-records.ensures c.in_default.is

pub overflow_add-result : goal.overflow_add-result
unfolding configured listed row_of row_from entry_at role_at value_at first flat_map ranged
overflow_add-result c =
    let fit = records_fit c.args.image.now c.if-image-lt4.false c.four_at.ensures c.if-four_at-ne-EC_VALUE.false refl c.walk_rows-records.ensures c.in-Ok.is in omega arith

pub returns : goal.returns
unfolding configured listed row_of row_from entry_at role_at value_at first flat_map ranged
returns c =
    records_taken c.args.image.now c.if-image-lt4.false c.four_at.ensures c.if-four_at-ne-EC_VALUE.false refl c.walk_rows-records.ensures c.in-Ok.is
