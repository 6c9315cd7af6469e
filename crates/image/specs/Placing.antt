-- The records of some entries written from a place on, as the private helpers do it. No public contract cites this.
-- Assumes nothing.
use Rattle.std.specs.Prelude.{◌≡◌, List, ℕ, ◌+◌, ◌≤◌, length, drop}
use Rattle.std.proofs.lemmas.List.Edits.{sets}
use Rattle.records.specs.Layout.{Listed, extent, records}
use Rattle.image.specs.declared.writing.types.Front.{Front}

-- the records fit behind the front; there are no more slots than bytes before it
pub record Room (es : List Listed) (from : Front) (image : List ℕ) : Type 0 where
  pub counted : from.slot ≤ from.place
  pub fits : from.place + extent es ≤ length image

-- the records stand from the front on, and the next front is behind them
pub record Placed (es : List Listed) (words : List ℕ) (from : Front) (image image' : List ℕ) (to : Front) : Type 0 where
  pub stored : image' ≡ sets image from.place (records es (drop from.slot words))
  pub slot : to.slot ≡ from.slot + length es
  pub place : to.place ≡ from.place + extent es
