-- What the paper says of a table's curve: "x <= X1 gives Y1; x > Xm gives Ym; else with the least i where x <= Xi, response 1 is the line from
-- point i-1 to i, response 2 is Yi." Point i is word i - 1 of each list.
-- Assumes nothing.
use Rattle.std.specs.Prelude.{ℕ, ◌-◌, List, ◌≡◌, ℤ, ◌≤ℤ◌, ◌<ℤ◌}
use Rattle.table.specs.Table.{value, used, place, interval, curve}

pub record Sentence (response xs ys : List ℕ) (x : ℤ) : Type 0 where
  pub to_first : x ≤ℤ value xs 0 → curve response xs ys x ≡ value ys 0
  pub past_last : value xs (used response - 1) <ℤ x → curve response xs ys x ≡ value ys (used response - 1)
  pub between : value xs 0 <ℤ x → x ≤ℤ value xs (used response - 1) → curve response xs ys x ≡ interval response xs ys x (place response xs x)
