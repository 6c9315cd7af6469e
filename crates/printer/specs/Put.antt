-- Bytes put into a buffer, as the private helpers do it. No public contract cites this.
-- Assumes nothing.
use Rattle.std.specs.Prelude.{ℕ, ◌+◌, List, ◌≡◌, length}
use Rattle.std.proofs.lemmas.List.Edits.{sets}

-- bytes stored one after the other from a place on, and the place after them
pub record Put (before : List ℕ) (start : ℕ) (bytes after : List ℕ) (next : ℕ) : Type 0 where
  pub stored : after ≡ sets before start bytes
  pub place : next ≡ start + length bytes
