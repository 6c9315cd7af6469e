-- `frames::data::index_in` meets its contract: the bytes stand where the definition reads them (`FrameLaws`).
-- Assumes nothing.
use Rattle.sdo.specs.Frames.{index_in}
use Rattle.sdo.proofs.data.index_in.Goals as goal

pub returns : goal.returns
unfolding index_in
returns c = c.two.ensures
