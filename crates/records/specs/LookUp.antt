-- Looking a name up: "The bytes of one record's value are handed on as they stand in the image."
-- Assumes nothing.
use Rattle.std.specs.Prelude.{ℕ, zero, suc, ◌+◌, ◌&&◌, List, [], eqb, ltb, length, take, drop}
use Rattle.octets.specs.Little.{little}
use Rattle.numbers.specs.Choice.{first}
use Rattle.records.specs.Walk.{index_in, sub_in, size_in}

-- among so many records, each as long as it says; a record that is cut ends the search
unfoldable pub looked : ℕ → ℕ → ℕ → List ℕ → List ℕ
looked zero index sub rest = []
looked (suc n) index sub rest =
    first (ltb (length rest) 7) []
    (first (ltb (length rest) (7 + size_in rest)) []
    (first (eqb (index_in rest) index && eqb (sub_in rest) sub) (take (size_in rest) (drop 7 rest))
    (looked n index sub (drop (7 + size_in rest) rest))))

-- no data where no record has the name
unfoldable pub look_up : List ℕ → ℕ → ℕ → List ℕ
look_up image index sub = first (ltb (length image) 4) [] (looked (little (take 4 image)) index sub (drop 4 image))
