-- `frames::data::sub_in` meets its contract: the bytes stand where the definition reads them (`FrameLaws`).
-- Assumes nothing.
use mathlib.Core.Path.{refl}
use Rattle.sdo.specs.Frames.{sub_in}
use Rattle.sdo.proofs.data.sub_in.Goals as goal

pub returns : goal.returns
unfolding sub_in
returns c = refl
