-- Frames: "Eight bytes: command, index low byte first, sub, four data bytes low byte first."
-- Assumes nothing.
use Rattle.std.specs.Prelude.{ℕ, ◌%◌, List, [], ◌∷◌, ◌++◌, Option, Some, None, Result, Ok, Err, eqb, get_or, take, drop}
use Rattle.octets.specs.Little.{little, bytes}
use Rattle.numbers.specs.Choice.{first}
use Rattle.sdo.specs.declared.types.Abort.{Abort}
use Rattle.sdo.specs.declared.types.Abort.TheVariants as abort
use Rattle.sdo.specs.declared.types.Command.{Command}
use Rattle.sdo.specs.declared.types.Command.TheVariants.{Read, Write}
use Rattle.sdo.specs.declared.types.Done.{Done}
use Rattle.sdo.specs.declared.types.Done.TheVariants.{Value, Written}

-- the parts of a frame
unfoldable pub index_in : List ℕ → ℕ
index_in frame = little (get_or frame 1 0 ∷ get_or frame 2 0 ∷ [])

unfoldable pub sub_in : List ℕ → ℕ
sub_in frame = get_or frame 3 0

-- "name as received"
unfoldable pub name_in : List ℕ → List ℕ
name_in frame = get_or frame 1 0 ∷ get_or frame 2 0 ∷ get_or frame 3 0 ∷ []

-- the first data bytes, so many; "Unused data bytes of a write are ignored"
unfoldable pub data_in : ℕ → List ℕ → ℕ
data_in size frame = little (take size (drop 4 frame))

-- "Writes of 4, 3, 2, 1 bytes are 23h, 27h, 2Bh, 2Fh; a read is 40h"; "command 22h, which DS-301 allows: expedited, size not told". "No other DS-301 command is taken"
unfoldable pub command_of : ℕ → Result Command Abort
command_of byte =
    first (eqb byte 0x40) (Ok Read)
    (first (eqb byte 0x23) (Ok (Write (Some 4)))
    (first (eqb byte 0x27) (Ok (Write (Some 3)))
    (first (eqb byte 0x2B) (Ok (Write (Some 2)))
    (first (eqb byte 0x2F) (Ok (Write (Some 1)))
    (first (eqb byte 0x22) (Ok (Write None)) (Err abort.Command))))))

-- the paper's number for each abort
unfoldable pub code : Abort → ℕ
code abort.Command = 0x05040001
code abort.NoIndex = 0x06020000
code abort.NoSub = 0x06090011
code abort.ReadOnly = 0x06010002
code abort.TooLong = 0x06070012
code abort.TooShort = 0x06070013
code abort.NotClear = 0x06090030
code abort.NotFinite = 0x06090030
code abort.Above = 0x06090031
code abort.Below = 0x06090032
code abort.ChainUp = 0x06090031
code abort.ChainDown = 0x06090032

-- "Good read: 43h, 4Bh or 4Fh for 4, 2, 1 bytes"
unfoldable pub read_command : ℕ → ℕ
read_command size = first (eqb size 4) 0x43 (first (eqb size 2) 0x4B 0x4F)

-- a value as so many bytes hold it
unfoldable pub cut : ℕ → ℕ → ℕ
cut word size = first (eqb size 4) word (first (eqb size 2) (word % 0x10000) (word % 0x100))

-- the eight bytes that answer a frame: "Good write: 60h, name, four zeros. Good read: .., name, value, zeros. Abort: 80h, name as received, code"
unfoldable pub reply : List ℕ → ℕ → ℕ → List ℕ
reply frame head value = head ∷ name_in frame ++ bytes 4 value

-- what a frame is answered: nothing, or an abort, a value or a word that is written
abbrev pub Answer : Type 0
Answer = Option (Result Done Abort)

unfoldable pub reply_to : List ℕ → Answer → List ℕ
reply_to frame None = []
reply_to frame (Some (Err a)) = reply frame 0x80 (code a)
reply_to frame (Some (Ok (Value word size))) = reply frame (read_command size) (cut word size)
reply_to frame (Some (Ok (Written slot word))) = reply frame 0x60 0
