-- The notes of a list, one record after the other, as the private helpers make them. No public contract cites this.
-- Assumes nothing.
use Rattle.std.specs.Prelude.{ℕ, ◌+◌, ◌-◌, ◌*◌, ◌<◌, ◌≤◌, Bool, true, false, ◌≡◌, length, take, drop, set}
use mathlib.Core.List.{List, [], ◌∷◌, ◌++◌, flat_map}
use Rattle.std.proofs.lemmas.List.Edits.{sets}
use Rattle.numbers.specs.Choice.{first}
use Rattle.numbers.specs.Order.{below}
use Rattle.entries.specs.Judge.{held}
use Rattle.records.specs.Walk.{size_in, data_in}
use Rattle.image.specs.Reading.{configuration_in}
use Rattle.sending.specs.Sending.{differs, rises, picked}
use Rattle.lists.specs.Changes.{place_of}
use Rattle.lists.specs.declared.changes.types.Noted.{Noted}

-- the record that begins at a place is there, with one to four bytes of data
pub record Stands (image : List ℕ) (place : ℕ) : Type 0 where
  pub some : 0 < size_in (drop place image)
  pub small : size_in (drop place image) ≤ 4
  pub inside : place + 7 + size_in (drop place image) ≤ length image

-- so it is in two images, of one size
pub record Both (current wanted : List ℕ) (place size : ℕ) : Type 0 where
  pub early : place < 65536
  pub first : Stands current place
  pub second : Stands wanted place
  pub size_first : size ≡ size_in (drop place current)
  pub size_second : size ≡ size_in (drop place wanted)

-- the record that begins at a place, and its word
unfoldable pub record_from : List ℕ → ℕ → List ℕ
record_from image place = take (7 + size_in (drop place image)) (drop place image)

unfoldable pub word_from : List ℕ → ℕ → ℕ
word_from image place = data_in (size_in (drop place image)) (drop place image)

-- one slot more: what rises goes before all that was noted so far, what falls behind it
unfoldable pub joined : Bool → Bool → ℕ → List ℕ → List ℕ
joined different up place ps = first different (first up (place ∷ ps) (ps ++ place ∷ [])) ps

unfoldable pub laid : List ℕ → List ℕ → List ℕ → List ℕ → List ℕ
laid a b [] ps = ps
laid a b (s ∷ ss) ps = laid a b ss (joined (differs a b s) (below (held a s) (held b s)) (place_of s) ps)

-- one note more
pub record Put (place size : ℕ) (up : Bool) (notes : List ℕ) (n : Noted) (notes' : List ℕ) (n' : Noted) : Type 0 where
  pub stored : notes' ≡ set notes (first up (n.low - 1) n.high) place
  pub low : n'.low ≡ first up (n.low - 1) n.low
  pub high : n'.high ≡ first up n.high (n.high + 1)
  pub long : n'.long ≡ n.long + size

-- or none, where the words are the same
unfoldable pub Once : Bool → Bool → ℕ → ℕ → List ℕ → Noted → List ℕ → Noted → Type 0
Once true up place size notes n notes' n' = (notes' ≡ notes) × (n' ≡ n)
Once false up place size notes n notes' n' = Put place size up notes n notes' n'

-- these places are noted, so many of them before the middle, over what the notes held at first
pub record State (wanted notes₀ : List ℕ) (ups : ℕ) (ps notes : List ℕ) (n : Noted) : Type 0 where
  pub middle : n.low + ups ≡ 611
  pub stored : notes ≡ sets notes₀ n.low ps
  pub high : n.high ≡ n.low + length ps
  pub long : n.long ≡ 4 + length (flat_map (record_from wanted) ps)

-- so many slots more have room, and the bytes of their records are too few to wrap
pub record Room (more : ℕ) (notes : List ℕ) (n : Noted) : Type 0 where
  pub sorted : n.low ≤ n.high
  pub before : more ≤ n.low
  pub behind : n.high + more ≤ length notes
  pub short : n.long + 11 * more ≤ 100000

-- some slots more are noted
pub record Further (current wanted slots notes : List ℕ) (n : Noted) (notes' : List ℕ) (n' : Noted) : Type 0 where
  pub states : (notes₀ : List ℕ) (ups : ℕ) (ps : List ℕ) → State wanted notes₀ ups ps notes n
      → State wanted notes₀ (ups + length (picked (rises (configuration_in current) (configuration_in wanted)) slots))
      (laid (configuration_in current) (configuration_in wanted) slots ps) notes' n'
  pub length_kept : length notes' ≡ length notes
  pub room : (more : ℕ) → Room (length slots + more) notes n → Room more notes' n'
