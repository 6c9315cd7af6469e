-- The answer to a frame: the table of "Frames", first match.
-- Assumes nothing.
use Rattle.std.specs.Prelude.{ℕ, Bool, ◌&&◌, ◌||◌, not, List, eqb, ltb, length, get_or, Option, Some, None, Result, Ok, Err, ⊤}
use Rattle.numbers.specs.Choice.{first}
use Rattle.dictionary.specs.Names.{slot_of, sought, writable}
use Rattle.dictionary.specs.Rows.{width}
use Rattle.dictionary.specs.declared.types.Named.{Named}
use Rattle.dictionary.specs.declared.types.Named.TheVariants.{Count, At}
use Rattle.dictionary.specs.declared.types.Missing.{Missing}
use Rattle.dictionary.specs.declared.types.Missing.TheVariants as missing
use Rattle.entries.specs.Judge.{judged}
use Rattle.roles.specs.Values.{range_of}
use Rattle.entries.specs.declared.types.Fault.{Fault}
use Rattle.entries.specs.declared.types.Fault.TheVariants as fault
use Rattle.sdo.specs.Frames.{Answer, command_of, index_in, sub_in, data_in}
use Rattle.sdo.specs.declared.types.Abort.{Abort}
use Rattle.sdo.specs.declared.types.Abort.TheVariants as abort
use Rattle.sdo.specs.declared.types.Command.{Command}
use Rattle.sdo.specs.declared.types.Command.TheVariants.{Read, Write}
use Rattle.sdo.specs.declared.types.Done.{Done}
use Rattle.sdo.specs.declared.types.Done.TheVariants.{Value, Written}

-- the bytes of a slot's type
unfoldable pub size_of : ℕ → ℕ
size_of slot = width (range_of slot).kind

-- "3 index unknown; 4 sub unknown"
abbrev pub of_missing : Missing → Abort
of_missing missing.Index = abort.NoIndex
of_missing missing.Sub = abort.NoSub

-- "7 REAL32 not finite; 8 above, below own range; 9 breaks the chain upward, downward"
abbrev pub of_fault : Fault → Abort
of_fault fault.NotFinite = abort.NotFinite
of_fault fault.Above = abort.Above
of_fault fault.Below = abort.Below
of_fault fault.ChainUp = abort.ChainUp
of_fault fault.ChainDown = abort.ChainDown

-- what a name stands for, or its abort; sub 0 of an array is its largest sub, an UNSIGNED8
unfoldable pub reading : List ℕ → Result Named Missing → Result Done Abort
reading words (Err m) = Err (of_missing m)
reading words (Ok (Count n)) = Ok (Value n 1)
reading words (Ok (At slot)) = Ok (Value (get_or words slot 0) (size_of slot))

-- a value that may not stand is refused; else the word is written
unfoldable pub stored : ℕ → ℕ → Result ⊤ Fault → Result Done Abort
stored slot word (Ok tt) = Ok (Written slot word)
stored slot word (Err f) = Err (of_fault f)

-- 1003h:0 (document 02, viii): "0 clears the whole list"; "another value at sub 0 gives 06090030h, after order 6"
unfoldable pub unclear : ℕ → ℕ → Bool
unclear slot word = eqb slot (slot_of 0x1003 0) && not (eqb word 0)

-- "5 write to a read-only name; 6 longer, shorter than the type"; then 1003h:0
unfoldable pub offered : List ℕ → ℕ → ℕ → ℕ → Result Done Abort
offered words slot size word =
    first (not (ltb slot writable)) (Err abort.ReadOnly)
    (first (ltb (size_of slot) size) (Err abort.TooLong)
    (first (ltb size (size_of slot)) (Err abort.TooShort)
    (first (unclear slot word) (Err abort.NotClear) (stored slot word (judged words slot word)))))

-- a name that is no entry's cannot be written: "sub 0 is the largest sub-index (UNSIGNED8, read only)"
unfoldable pub refused : Result Named Missing → Result Done Abort
refused (Err m) = Err (of_missing m)
refused (Ok (Count n)) = Err abort.ReadOnly
refused (Ok (At slot)) = Err abort.ReadOnly

-- how many bytes a write has, to an entry that has so many: as many as it tells, and where it tells none "The length is then the entry's own"
unfoldable pub length_of : Option ℕ → ℕ → ℕ
length_of (Some n) own = n
length_of None own = own

-- "the first bytes count and the rest is ignored"
unfoldable pub writing : List ℕ → List ℕ → Option ℕ → Result Named Missing → Result Done Abort
writing words frame size (Err m) = refused (Err m)
writing words frame size (Ok (Count n)) = refused (Ok (Count n))
writing words frame size (Ok (At slot)) = let length = length_of size (size_of slot) in offered words slot length (data_in length frame)

-- "2 other command byte", then by the command
unfoldable pub obeyed : List ℕ → List ℕ → Result Command Abort → Result Done Abort
obeyed words frame (Err a) = Err a
obeyed words frame (Ok Read) = reading words (sought words (index_in frame) (sub_in frame))
obeyed words frame (Ok (Write size)) = writing words frame size (sought words (index_in frame) (sub_in frame))

-- "1 frame not 8 long, reply buffer under 8, or command 80h: no reply"
unfoldable pub silent : List ℕ → ℕ → Bool
silent frame room = not (eqb (length frame) 8) || (ltb room 8 || eqb (get_or frame 0 0) 0x80)

unfoldable pub answer : List ℕ → List ℕ → ℕ → Answer
answer words frame room = first (silent frame room) None (Some (obeyed words frame (command_of (get_or frame 0 0))))
