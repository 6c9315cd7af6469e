-- One condition, one table more, as the code takes them.
-- Assumes nothing.
use Prim.Native.Nat.{ℕ, suc, ◌+◌, ◌-◌, ◌<◌}
use mathlib.Core.Bool.{Bool, true, false}
use mathlib.Core.List.{List}
use mathlib.Core.Path.{◌≡◌, sym, ap, ◌∙◌}
use native.Mathlib.Numerals.{add-one}
use native.Mathlib.Omega.{arith}
use Rattle.numbers.specs.Choice.{first}
use Rattle.logic.specs.Gathering.{counts, gathered, settled}
use Rattle.logic.specs.Logic.{holding}
use Rattle.logic.proofs.gathering.GatheringLaws.{gathered_all, stays}
use Rattle.unit.specs.Entry.{byte}
use Rattle.logic.specs.Logics.{of_logic, of_condition, condition_of, holds_of, first_that_holds}

-- ---- logic: what the operator has gathered of the first conditions
module _ (unit : List ℕ) (x t operator : ℕ) where
  unfoldable pub counted : ℕ → Bool
  counted c = counts operator (condition_of unit (of_condition x t c))

  unfoldable pub after_one : Bool
  unfolding counted
  after_one = gathered operator 0 false (counted 1)

  unfoldable pub after_two : Bool
  unfolding counted
  after_two = gathered operator 1 after_one (counted 2)

  unfoldable pub after_three : Bool
  unfolding counted
  after_three = gathered operator 2 after_two (counted 3)

  module _ (some : operator ≡ 0 → ⊥) (e : operator ≡ byte unit (of_logic 0x4002 x) t) where
    pub gathered_three : after_three ≡ holds_of unit x t
    unfolding after_one after_two after_three counted holds_of
    gathered_three =
        gathered_all operator some false _ _ _
        ∙ ap (λ (o : ℕ). holding o (condition_of unit (of_condition x t 1)) (condition_of unit (of_condition x t 2)) (condition_of unit (of_condition x t 3))) e

    -- once it is settled nothing more matters
    pub settled_by_two : settled operator after_two ≡ true → after_two ≡ holds_of unit x t
    unfolding after_three
    settled_by_two s = sym (stays operator 2 after_two (counted 3) s (λ z. omega arith)) ∙ gathered_three

    pub settled_by_one : settled operator after_one ≡ true → after_one ≡ holds_of unit x t
    unfolding after_two
    settled_by_one s =
        let same = stays operator 1 after_one (counted 2) s (λ z. omega arith) in
        sym same ∙ settled_by_two (rw same s)

-- ---- logic: the first of A, B, C that holds
module _ (unit : List ℕ) (x t : ℕ) (h : t < 3) where
  one_more : 3 - t ≡ suc (3 - (t + 1))
  one_more = omega arith

  pub first_here : holds_of unit x (t + 1) ≡ true → first_that_holds unit x (t + 1) (3 - t) ≡ byte unit (of_logic 0x4001 x) (t + 1)
  unfolding first_that_holds first
  first_here e = rw (one_more, e)

  pub first_later : holds_of unit x (t + 1) ≡ false → first_that_holds unit x (t + 1) (3 - t) ≡ first_that_holds unit x (t + 1 + 1) (3 - (t + 1))
  unfolding first_that_holds first
  first_later e = rw (one_more, e, ← add-one (t + 1))
