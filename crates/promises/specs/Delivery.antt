-- A list as it is sent: each of its records as the frame that writes it.
-- Assumes nothing.
use Rattle.std.specs.Prelude.{ℕ, zero, suc, ◌+◌, ◌-◌, List, [], ◌∷◌, ◌++◌, eqb, take, drop, replicate}
use Rattle.octets.specs.Little.{little}
use Rattle.numbers.specs.Choice.{first}
use Rattle.records.specs.Walk.{size_in}

-- "Writes of 4, 2, 1 bytes are 23h, 2Bh, 2Fh"
unfoldable pub write_command : ℕ → ℕ
write_command n = first (eqb n 4) 0x23 (first (eqb n 2) 0x2B 0x2F)

-- the record at the front of some bytes as a frame: command, name, data, zeros
unfoldable pub frame_of_record : List ℕ → List ℕ
frame_of_record rest = write_command (size_in rest) ∷ take 3 rest ++ take (size_in rest) (drop 7 rest) ++ replicate (4 - size_in rest) 0

-- the frames of so many records, each as long as it says
unfoldable pub frames_from : ℕ → List ℕ → List (List ℕ)
frames_from zero rest = []
frames_from (suc n) rest = frame_of_record rest ∷ frames_from n (drop (7 + size_in rest) rest)

unfoldable pub frames_in : List ℕ → List (List ℕ)
frames_in list = frames_from (little (take 4 list)) (drop 4 list)
