-- The session program: whatever it reads, it writes what a whole session prints. Its calls are `start`, `hear` for each piece that it reads, and
-- `close` in the end; what it wrote are the bytes that they printed into what it lent.
-- Assumes nothing.
use Rattle.std.specs.Prelude.{ℕ, ◌*◌, ◌≤◌, Bool, true, false, List, [], ◌++◌, ◌≡◌, length, take}
use Rattle.roles.specs.Values.{at_start}
use Rattle.printer.specs.Answering.{Answers}
use Rattle.session.specs.Dialogue.{Kept, Hears, closed, session}

-- a piece that it reads, 256 bytes at most, is answered in a room of 64 bytes for each of them
pub record Turn (k : Kept) (piece : List ℕ) (k' : Kept) (written : List ℕ) : Type 0 where
  pub room : List ℕ
  pub room' : List ℕ
  pub printed : ℕ
  pub took : ℕ
  pub read : length piece ≤ 256
  pub lent : length room ≡ 256 * 64
  pub heard : Hears k piece room k' room' printed took
  pub wrote : written ≡ take printed room'

-- what one turn of its loop leaves: there was nothing to read, or a piece
pub data Turned (k : Kept) : Kept → Bool → Type 0 where
  nothing : Turned k k false
  something : {k' : Kept} (piece written : List ℕ) → Turn k piece k' written → Turned k k' true

-- turn after turn: all that was read, and all that was written
pub data Turns (k : Kept) : List ℕ → List ℕ → Kept → Type 0 where
  none : Turns k [] [] k
  then : {k' k'' : Kept} {input written piece more : List ℕ} → Turns k input written k' → Turn k' piece k'' more → Turns k (input ++ piece) (written ++ more) k''

-- what its loop leaves
pub record Looped (k k' : Kept) : Type 0 where
  pub input : List ℕ
  pub written : List ℕ
  pub turns : Turns k input written k'

-- the end of the input is answered in 64 bytes
pub record End (k : Kept) (written : List ℕ) : Type 0 where
  pub left : List ℕ
  pub text : List ℕ
  pub text' : List ℕ
  pub printed : ℕ
  pub lent : length text ≡ 64
  pub answered : Answers (closed k) left text text' printed
  pub wrote : written ≡ take printed text'

-- no byte of a piece is left for want of room
abbrev pub AllTaken : Type 0
AllTaken = (k k' : Kept) (piece written : List ℕ) (t : Turn k piece k' written) → t.took ≡ length piece

-- from the start, with nothing held of a line, it writes what the whole input prints
abbrev pub PrintsTheSession : Type 0
PrintsTheSession =
    (line input written last : List ℕ) (k : Kept) → length line ≡ 65 → Turns (record { unit = at_start; line = line; held = 0 }) input written k → End k last
    → written ++ last ≡ (session input at_start).printed
