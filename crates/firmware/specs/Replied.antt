-- What `valve_serve` leaves: the unit and the reply buffer as serving the frame leaves them, and the number of bytes of the reply.
-- Assumes nothing.
use Rattle.std.specs.Prelude.{ℕ, ◌≡◌, List, ℤ, pos, length}
use Rattle.sdo.specs.Answers.{answer}
use Rattle.sdo.specs.Frames.{reply_to}
use Rattle.sdo.specs.Served.{after, filled}

-- "A reply fills the buffer's first 8 bytes only"; "no reply, buffer untouched"
pub record Replied (unit frame reply unit' reply' : List ℕ) (r : ℤ) : Type 0 where
  pub state : unit' ≡ after unit (answer unit frame (length reply))
  pub bytes : reply' ≡ filled reply frame (answer unit frame (length reply))
  -- 8, or 0 where there is no reply
  pub count : r ≡ pos (length (reply_to frame (answer unit frame (length reply))))
