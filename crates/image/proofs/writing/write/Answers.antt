-- `writing::write` meets its contract: the rows are those of the listed entries, by computing (`WrittenLaws` for the rest).
-- Assumes nothing.
use mathlib.Core.Path.{refl}
use mathlib.Core.List.{flat_map}
use native.Mathlib.Omega.{arith}
use Rattle.numbers.specs.Choice.{first}
use Rattle.roles.specs.Roles.{ranged}
use Rattle.records.specs.Layout.{listed}
use Rattle.records.specs.Rows.{row_of, row_from, entry_at, role_at, value_at}
use Rattle.image.proofs.writing.WrittenLaws.{no_room, room_behind, image_written}
use Rattle.image.proofs.writing.write.Goals as goal

pub returns-then-image-lt-IMAGE_SIZE : goal.returns-then-image-lt-IMAGE_SIZE
returns-then-image-lt-IMAGE_SIZE c = no_room c.args.words.now c.args.image.now (omega arith)

pub write_rows-requires : goal.write_rows-requires
unfolding listed row_of row_from entry_at role_at value_at first flat_map ranged
write_rows-requires c =
    room_behind c.args.words.now _ refl c.if-image-lt-IMAGE_SIZE.false c.put_number.ensures

pub returns : goal.returns
unfolding listed row_of row_from entry_at role_at value_at first flat_map ranged
returns c =
    image_written _ _ refl c.if-image-lt-IMAGE_SIZE.false c.put_number.ensures c.write_rows.ensures
