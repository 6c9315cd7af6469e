-- The session program to the byte: what it takes from its reader and gives to its writer, where a reader and a writer say what they have left and hold.
-- Assumes nothing.
use Rattle.std.specs.Prelude.{ℕ, ◌-◌, ◌^◌, ◌<◌, ◌≡◌, Bool, true, false, List, length}
use Rattle.std.specs.declared.option.Option.{Option}
use Rattle.std.specs.Io.KnownBytes.{Appends, Consumes, IsAtEnd}
use Rattle.session.specs.Dialogue.{Kept}
use Rattle.session.specs.Program.{Turns}

-- all that was read left the reader, and all that was written reached the writer
pub record Carried (k : Kept) (left held : Option (List ℕ)) (k' : Kept) (left' held' : Option (List ℕ)) : Type 0 where
  pub input : List ℕ
  pub written : List ℕ
  pub turns : Turns k input written k'
  pub took : Consumes left left' input
  pub gave : Appends held held' written

-- one turn: it read something, or the reader is at its end
pub record Heard (k : Kept) (left held : Option (List ℕ)) (k' : Kept) (more : Bool) (left' held' : Option (List ℕ)) : Type 0 where
  pub carried : Carried k left held k' left' held'
  pub some : more ≡ true → 0 < length carried.input
  pub ended : more ≡ false → IsAtEnd left'

-- the loop: it stops at the reader's end, but for an input that no session has
pub record Served (k : Kept) (left held : Option (List ℕ)) (k' : Kept) (left' held' : Option (List ℕ)) : Type 0 where
  pub carried : Carried k left held k' left' held'
  pub ended : length carried.input < 2 ^ 64 - 1 → IsAtEnd left'
