-- `writing::placing::write_record` meets its contract: the head, and the data behind it (`PlacingLaws`).
-- Assumes nothing.
use native.Mathlib.Omega.{arith}
use Rattle.records.proofs.TakeLaws.{same_size}
use Rattle.records.specs.Layout.{extent}
use Rattle.image.proofs.writing.PlacingLaws.{record_placed}
use Rattle.image.proofs.writing.placing.write_record.Goals as goal

pub put_head-requires : goal.put_head-requires
unfolding extent
put_head-requires c = omega (arith, c.requires.fits)

pub put_number-requires : goal.put_number-requires
unfolding extent
put_number-requires c =
    let size = same_size _ _ c.role_at.ensures c.width_of-size.ensures in omega (arith, c.requires.fits)

pub returns : goal.returns
returns c =
    record_placed _ _ _ _ _ (same_size _ _ c.role_at.ensures c.width_of-size.ensures) c.word_at.ensures c.put_head.ensures c.put_number.ensures
