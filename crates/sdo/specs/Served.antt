-- What serving a frame leaves: the words, and the reply buffer.
-- Assumes nothing.
use Rattle.std.specs.Prelude.{ℕ, ◌≡◌, List, ◌++◌, Some, None, Ok, Err, length, set, drop}
use Rattle.dictionary.specs.Unit.{unticked}
use Rattle.sdo.specs.Answers.{answer}
use Rattle.sdo.specs.Frames.{Answer, reply_to}
use Rattle.sdo.specs.declared.types.Done.TheVariants.{Value, Written}

-- "An abort changes no state. An accepted write changes that one entry"; beside it the unit forgets only that it was ticked
unfoldable pub after : List ℕ → Answer → List ℕ
after words None = words
after words (Some (Err a)) = words
after words (Some (Ok (Value word size))) = words
after words (Some (Ok (Written slot word))) = unticked (set words slot word)

-- "no reply, buffer untouched"; "A reply fills the buffer's first 8 bytes only"
unfoldable pub filled : List ℕ → List ℕ → Answer → List ℕ
filled reply frame answer = reply_to frame answer ++ drop (length (reply_to frame answer)) reply

pub record Served (words frame reply words' reply' : List ℕ) (r : Answer) : Type 0 where
  pub answered : r ≡ answer words frame (length reply)
  pub state : words' ≡ after words r
  pub bytes : reply' ≡ filled reply frame r
