-- "Readings refuse, records in order": what bytes are as the records of some entries, one after the other.
-- Assumes nothing.
use Rattle.std.specs.Prelude.{ℕ, ◌+◌, Bool, not, ◌||◌, List, [], ◌∷◌, eqb, ltb, length, get_or, take, drop, Result, Ok, Err, ⊤, is_ok}
use Rattle.octets.specs.Little.{little}
use Rattle.numbers.specs.Choice.{first}
use Rattle.dictionary.specs.Names.{configured}
use Rattle.entries.specs.Judge.{in_range}
use Rattle.records.specs.Layout.{Listed, listed, size}
use Rattle.records.specs.declared.types.Refusal.{Refusal}
use Rattle.records.specs.declared.types.Refusal.TheVariants.{EndedEarly, WrongCount, NotNext, WrongSize, OutOfRange, OutOfOrder, LeftOver, NoRoom}

-- the paper's number of each refusal
unfoldable pub number : Refusal → ℕ
number EndedEarly = 1
number WrongCount = 2
number NotNext = 3
number WrongSize = 4
number OutOfRange = 5
number OutOfOrder = 6
number LeftOver = 7
number NoRoom = 8

-- and of an outcome: 0 where nothing is refused
unfoldable pub outcome_number : Result ⊤ Refusal → ℕ
outcome_number (Ok _) = 0
outcome_number (Err why) = number why

-- the parts of a record
unfoldable pub index_in : List ℕ → ℕ
index_in rest = little (take 2 rest)

unfoldable pub sub_in : List ℕ → ℕ
sub_in rest = get_or rest 2 0

unfoldable pub size_in : List ℕ → ℕ
size_in rest = little (take 4 (drop 3 rest))

unfoldable pub data_in : ℕ → List ℕ → ℕ
data_in n rest = little (take n (drop 7 rest))

-- the data of one, two or four bytes, if they are there
unfoldable pub data_there : ℕ → List ℕ → ℕ
data_there n rest =
    first (ltb (length rest) (7 + n)) 0 (first (eqb n 1 || (eqb n 2 || eqb n 4)) (data_in n rest) 0)

-- a value may stand in its own range
unfoldable pub fits : Listed → ℕ → Bool
fits e word = is_ok (in_range e.range word)

-- "1 ended early (for a record's data: after 4)", "5 range or not finite"
unfoldable pub valued : Listed → List ℕ → Result ℕ Refusal
valued e rest =
    first (ltb (length rest) (7 + size e)) (Err EndedEarly)
    (first (not (fits e (data_in (size e) rest))) (Err OutOfRange)
    (Ok (7 + size e)))

-- "4 size"
unfoldable pub sized : Listed → List ℕ → Result ℕ Refusal
sized e rest = first (not (eqb (size_in rest) (size e))) (Err WrongSize) (valued e rest)

-- "1 ended early", "3 not the next entry": the seven bytes of a record's head are one piece
unfoldable pub decoded : Listed → List ℕ → Result ℕ Refusal
decoded e rest =
    first (ltb (length rest) 7) (Err EndedEarly)
    (first (not (eqb (index_in rest) e.index)) (Err NotNext)
    (first (not (eqb (sub_in rest) e.sub)) (Err NotNext)
    (sized e rest)))

-- so many bytes before what is taken
unfoldable pub behind : ℕ → Result ℕ Refusal → Result ℕ Refusal
behind n (Ok m) = Ok (n + m)
behind n (Err why) = Err why

-- the first record with a fault decides
unfoldable pub and_then : Result ℕ Refusal → Result ℕ Refusal → Result ℕ Refusal
and_then (Ok n) next = behind n next
and_then (Err why) next = Err why

unfoldable pub walked : List Listed → List ℕ → Result ℕ Refusal
walked [] rest = Ok 0
walked (e ∷ es) rest = and_then (decoded e rest) (walked es (drop (7 + size e) rest))

-- "1 ended early; 2 count not 611", then the records
unfoldable pub taken_in : List ℕ → Result ℕ Refusal
taken_in image =
    first (ltb (length image) 4) (Err EndedEarly)
    (first (not (eqb (little (take 4 image)) configured)) (Err WrongCount)
    (behind 4 (walked listed (drop 4 image))))

-- the words that the records hold
unfoldable pub values : List Listed → List ℕ → List ℕ
values [] rest = []
values (e ∷ es) rest = data_in (size e) rest ∷ values es (drop (7 + size e) rest)
