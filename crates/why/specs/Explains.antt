-- What is proved of all that is told, of any unit after a tick, by the units before and after it.
-- "the rule named is the one that gave the command, no earlier rule applied, and each step of the trail really was in error and read the next".
-- Assumes nothing.
use Rattle.std.specs.Prelude.{ℕ, ◌+◌, ◌<◌, ◌≤◌, Bool, true, false, List, [], ◌∷◌, ◌≡◌, eqb, length}
use Rattle.numbers.specs.Choice.{first}
use Rattle.signals.specs.Signal.{is_error, is_absent}
use Rattle.signals.specs.Signal as signals
use Rattle.signals.specs.declared.signal.Signal.{Signal}
use Rattle.signals.specs.declared.signal.Signal.TheVariants.{Error}
use Rattle.unit.specs.Held.{inputs, maths, tables, logics, blocks, at_row}
use Rattle.input.specs.Inputs.{memory}
use Rattle.math.specs.Division.{Divides}
use Rattle.math.specs.Maths.{operator}
use Rattle.output.specs.Output.{by_rule}
use Rattle.output.specs.Outputs.{settings, motion}
use Rattle.output.specs.Turning.{turned_on, turned_off}
use Rattle.output.specs.declared.Settings.{Settings}
use Rattle.controller.specs.Commands.{control, enable, override, rule_for}
use Rattle.controller.specs.Turns.{seen, operand_seen}
use Rattle.why.specs.Answer.{decider, signal}
use Rattle.why.specs.Seen.{block_of}
use Rattle.why.specs.Trail.{math_pair, table_pair, logic_pair, trail}
use Rattle.why.specs.declared.types.End.{End}
use Rattle.why.specs.declared.types.End.TheVariants.{Flagged, Divided, Earlier}
use Rattle.unit.specs.declared.pairs.Pair.{Pair}

-- ---- the rule

-- when each rule applies, by its number in the paper
unfoldable pub applies : ℕ → Settings → Signal → Signal → Signal → Bool
applies rule s control enable over =
    first (eqb rule 1) (turned_off s.enable_response enable)
    (first (eqb rule 2) (is_error enable)
    (first (eqb rule 3) (turned_on s.override_response over)
    (first (eqb rule 4) (is_error over)
    (first (eqb rule 5) (is_error control)
    (first (eqb rule 6) (is_absent control)
    true)))))

unfoldable pub applies_to : List ℕ → ℕ → ℕ → Bool
applies_to after n rule = applies rule (settings after n) (control after n) (enable after n) (override after n)

pub record Ruled (before after : List ℕ) (n rule : ℕ) : Type 0 where
  pub some : (1 ≤ rule) × (rule ≤ 7)
  -- 7330h is what that rule names, with all that the output remembers of its ramp
  pub gave : motion after n ≡ by_rule rule (settings after n) (signals.whole (control after n)) (motion before n)
  pub applied : applies_to after n rule ≡ true
  pub no_earlier : (r : ℕ) → 1 ≤ r → r < rule → applies_to after n r ≡ false

-- ---- the trail

module _ (before after : List ℕ) where
  -- what the block at row r saw of a pair in that tick; the outputs are at row 16
  abbrev pub at_sight : ℕ → Pair → Signal
  at_sight r p = seen before after r p.source p.number

  -- input i of math k + 1 was in error
  abbrev pub in_error : ℕ → ℕ → Bool
  in_error k i = is_error (at_sight (maths + k) (math_pair after (k + 1) i))

  -- the pair that the block at a row read, from which it has its error
  pub data Read : ℕ → Pair → Type 0 where
    -- "Of several inputs in error the lowest-numbered is followed"
    by_math : (k i : ℕ) → k < 4 → 1 ≤ i → i ≤ 4 → ((j : ℕ) → 1 ≤ j → j < i → in_error k j ≡ false) → Read (maths + k) (math_pair after (k + 1) i)
    by_table : (k : ℕ) → k < 6 → Read (tables + k) (table_pair after (k + 1))
    by_logic : (k : ℕ) → k < 2 → Read (logics + k) (logic_pair after (k + 1))

  -- where an error began
  pub data Began : ℕ → End → Type 0 where
    flagged : (k : ℕ) → k < 4 → (memory after (k + 1)).flagged ≡ true → Began (inputs + k) Flagged
    -- "a division is named only where no input is in error"
    divided : (k i : ℕ) → k < 4 → 1 ≤ i → i ≤ 3 → ((j : ℕ) → 1 ≤ j → j ≤ 4 → in_error k j ≡ false)
        → Divides (operator after (k + 1) i) (operand_seen before after k (i + 1)) → Began (maths + k) Divided

  -- steps read by the block at row r: each was in error as it was seen, and read the next; rows fall
  pub data Led : ℕ → List Pair → End → Type 0 where
    -- "Where the trail meets a signal taken from the last tick it stops there and says so"
    earlier : (r : ℕ) (p : Pair) → r ≤ block_of p → block_of p < blocks → at_row before (block_of p) ≡ Error → at_sight r p ≡ Error → Led r (p ∷ []) Earlier
    began : (r : ℕ) (p : Pair) (e : End) → block_of p < r → at_sight r p ≡ Error → Began (block_of p) e → Led r (p ∷ []) e
    read : (r : ℕ) (p q : Pair) (ps : List Pair) (e : End) → block_of p < r → at_sight r p ≡ Error → Read (block_of p) q → Led (block_of p) (q ∷ ps) e → Led r (p ∷ q ∷ ps) e

  -- all that is told of output n
  pub record Explains (n : ℕ) : Type 0 where
    pub ruled : Ruled before after n (rule_for after n)
    pub led : let p = decider after n (rule_for after n) in is_error (signal after p) ≡ true → Led blocks (trail after p).steps (trail after p).end
    -- it ends within the blocks there are
    pub few : let p = decider after n (rule_for after n) in is_error (signal after p) ≡ true → length (trail after p).steps ≤ blocks + 1
