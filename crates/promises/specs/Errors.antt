-- What is promised of the error list, object 1003h, of document 02 (viii).
-- Assumes nothing.
use Rattle.std.specs.Prelude.{ℕ, ◌-◌, ◌<◌, ◌≤◌, Bool, true, false, List, [], ◌∷◌, ◌++◌, ◌≡◌, eqb, length, get_or, take, Option, Some, None, Ok, Err}
use Rattle.numbers.specs.Choice.{first}
use Rattle.dictionary.specs.Names.{slot_of}
use Rattle.dictionary.specs.Unit.{unit_size}
use Rattle.roles.specs.Values.{at_start}
use Rattle.image.specs.Loaded.{loaded}
use Rattle.image.specs.Reading.{reading}
use Rattle.sdo.specs.Answers.{length_of, answer}
use Rattle.sdo.specs.Frames.{Answer, index_in, sub_in, command_of, data_in}
use Rattle.sdo.specs.Served.{after}
use Rattle.sdo.specs.declared.types.Abort.TheVariants as abort
use Rattle.sdo.specs.declared.types.Done.TheVariants.{Value, Written}
use Rattle.sdo.specs.declared.types.Command.TheVariants.{Read, Write}
use Rattle.unit.specs.Entry.{entry}
use Rattle.input.specs.Errors.{errors}
use Rattle.controller.specs.Listed.{flaggings}
use Rattle.controller.specs.Tick.{ticked}
use Rattle.promises.specs.Running.{Event, frame, tick, load, happens, run}

-- an accepted write to 1003h:0
unfoldable pub clears : Answer → Bool
clears None = false
clears (Some (Err a)) = false
clears (Some (Ok (Value word size))) = false
clears (Some (Ok (Written slot word))) = eqb slot (slot_of 0x1003 0)

-- "0 clears the whole list and leaves 1001h", and no other frame touches it
abbrev pub OnlyCleared : Type 0
OnlyCleared =
    (unit f : List ℕ) (room : ℕ) → length unit ≡ unit_size → let a = answer unit f room in
    (clears a ≡ true → (errors (after unit a) ≡ []) × (entry (after unit a) 0x1001 0 ≡ entry unit 0x1001 0))
    × (clears a ≡ false → errors (after unit a) ≡ errors unit)

-- "Not configuration": no image that is loaded touches it
abbrev pub LoadLeavesIt : Type 0
LoadLeavesIt = (image unit : List ℕ) → length unit ≡ unit_size → errors (loaded image unit (reading image)) ≡ errors unit

-- "Sub 0 .. is the number kept and always agrees with the list": from the start, after any list of frames, ticks and loads
abbrev pub Agrees : List ℕ → Type 0
Agrees unit = entry unit 0x1003 0 ≡ length (errors unit)

abbrev pub AlwaysAgrees : Type 0
AlwaysAgrees = (events : List Event) → Agrees (run events at_start)

-- an eight-byte frame that names a sub of 1003h, with room for its reply
pub record NamesError (f : List ℕ) (room sub : ℕ) : Type 0 where
  pub eight : length f ≡ 8
  pub roomy : 8 ≤ room
  pub list : index_in f ≡ 0x1003
  pub place : sub_in f ≡ sub

-- where sub 0 agrees with the list: it reads the list's length, sub k its k-th entry, "newest at sub 1"; "a sub above the number kept gives 06090011h",
-- to reads and writes; a sub that is kept can only be read; sub 0 takes one byte that is 0, and "another value at sub 0 gives 06090030h"
pub record Told (unit f : List ℕ) (room sub : ℕ) : Type 0 where
  pub number : command_of (get_or f 0 0) ≡ Ok Read → sub ≡ 0 → answer unit f room ≡ Some (Ok (Value (length (errors unit)) 1))
  pub kept : command_of (get_or f 0 0) ≡ Ok Read → 0 < sub → sub ≤ length (errors unit) → answer unit f room ≡ Some (Ok (Value (get_or (errors unit) (sub - 1) 0) 4))
  pub not_read : command_of (get_or f 0 0) ≡ Ok Read → length (errors unit) < sub → answer unit f room ≡ Some (Err abort.NoSub)
  pub not_written : (size : Option ℕ) → command_of (get_or f 0 0) ≡ Ok (Write size) → length (errors unit) < sub → answer unit f room ≡ Some (Err abort.NoSub)
  pub only_read : (size : Option ℕ) → command_of (get_or f 0 0) ≡ Ok (Write size) → 0 < sub → sub ≤ length (errors unit) → answer unit f room ≡ Some (Err abort.ReadOnly)
  pub cleared : (size : Option ℕ) → command_of (get_or f 0 0) ≡ Ok (Write size) → length_of size 1 ≡ 1 → sub ≡ 0 → data_in 1 f ≡ 0
      → answer unit f room ≡ Some (Ok (Written (slot_of 0x1003 0) 0))
  pub not_cleared : (size : Option ℕ) → command_of (get_or f 0 0) ≡ Ok (Write size) → length_of size 1 ≡ 1 → sub ≡ 0 → (data_in 1 f ≡ 0 → ⊥)
      → answer unit f room ≡ Some (Err abort.NotClear)

abbrev pub ReadExactly : Type 0
ReadExactly = (unit f : List ℕ) (room sub : ℕ) → length unit ≡ unit_size → Agrees unit → NamesError f room sub → Told unit f room sub

-- the flaggings since the last clearing, newest first, over any frames, ticks and loads
unfoldable pub recalls : Event → List ℕ → List ℕ → List ℕ
recalls (frame f room) unit l = first (clears (answer unit f room)) [] l
recalls (tick samples) unit l = flaggings 4 unit (ticked samples unit) ++ l
recalls (load image) unit l = l

unfoldable pub recalled : List Event → List ℕ → List ℕ → List ℕ
recalled [] unit l = l
recalled (e ∷ es) unit l = recalled es (happens e unit) (recalls e unit l)

-- "Keep the last 8 flaggings": from the start, after any list of them
abbrev pub LastEight : Type 0
LastEight = (events : List Event) → errors (run events at_start) ≡ take 8 (recalled events at_start [])

-- "Technicians ask what went wrong first": while no more than eight came since the last clearing, a read of the sub that is the number kept tells the first of them
abbrev pub WhatWentWrongFirst : Type 0
WhatWentWrongFirst =
    (events : List Event) → let flagged = recalled events at_start [] in
    0 < length flagged → length flagged ≤ 8 → (f : List ℕ) (room : ℕ) → NamesError f room (length flagged) → command_of (get_or f 0 0) ≡ Ok Read
    → answer (run events at_start) f room ≡ Some (Ok (Value (get_or flagged (length flagged - 1) 0) 4))
