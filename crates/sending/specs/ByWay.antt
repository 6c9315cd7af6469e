-- Going from one configuration to another by way of a third: what the way costs more than going at once.
-- Assumes nothing.
use Rattle.std.specs.Prelude.{ℕ, ◌&&◌, List}
use Rattle.numbers.specs.Choice.{first}
use Rattle.dictionary.specs.Names.{configured}
use Rattle.sending.specs.Sending.{stretch, differs, total}

-- of one entry: on the way it holds what neither end holds, so it is written twice. Going at once writes it once, or never if the ends share their value
unfoldable pub detour : List ℕ → List ℕ → List ℕ → ℕ → ℕ
detour a b c slot = first (differs a b slot && differs b c slot) (first (differs a c slot) 1 2) 0

-- the number of entries that b holds otherwise than a and otherwise than c, those that a and c share counted twice
unfoldable pub aside : List ℕ → List ℕ → List ℕ → ℕ
aside a b c = total (detour a b c) (stretch 0 configured)
