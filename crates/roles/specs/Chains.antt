-- Chains, "true at all times": of each entry the neighbour above and the neighbour below.
-- Assumes nothing.
use Rattle.std.specs.Prelude.{ℕ, ◌+◌, ◌*◌, Bool, true, false, eqb}
use mathlib.Core.List.{List, [], ◌∷◌, ◌++◌, map, flat_map}
use Rattle.numbers.specs.Choice.{first}
use Rattle.dictionary.specs.Names.{find, slot_of}
use Rattle.roles.specs.declared.types.Link.{Link}
use Rattle.roles.specs.declared.types.Link.TheVariants.{Free, Loose, Strict}

-- two neighbours by their slots, and whether the upper one must be greater
pub record Neighbours : Type 0 where
  pub lower : ℕ
  pub upper : ℕ
  pub strict : Bool

-- "<=" and "<" between two names
abbrev pub at_most : ℕ → ℕ → ℕ → ℕ → Neighbours
at_most i s j t = record { lower = slot_of i s; upper = slot_of j t; strict = false }

abbrev pub less : ℕ → ℕ → ℕ → ℕ → Neighbours
less i s j t = record { lower = slot_of i s; upper = slot_of j t; strict = true }

abbrev pub four : List ℕ
four = 1 ∷ 2 ∷ 3 ∷ 4 ∷ []

-- "30z5h:1 <= :2 <= .. <= :11"
unfoldable pub curve_chains : List Neighbours
curve_chains =
    flat_map (λ z. map (λ k. at_most (0x3005 + 0x10 * z) k (0x3005 + 0x10 * z) (k + 1)) (1 ∷ 2 ∷ 3 ∷ 4 ∷ 5 ∷ 6 ∷ 7 ∷ 8 ∷ 9 ∷ 10 ∷ []))
    (1 ∷ 2 ∷ 3 ∷ 4 ∷ 5 ∷ 6 ∷ [])

-- "7148h <= 7120h < 7122h <= 7149h; 2520h < 2522h; 4y20h < 4y22h; 4521h < 4523h; 7320h < 7322h; 7321h < 7323h (same sub-index)"
unfoldable pub line_chains : List Neighbours
line_chains =
    map (λ k. at_most 0x7148 k 0x7120 k) four ++ map (λ k. less 0x7120 k 0x7122 k) four ++ map (λ k. at_most 0x7122 k 0x7149 k) four
    ++ map (λ k. less 0x2520 k 0x2522 k) (1 ∷ 2 ∷ 3 ∷ 4 ∷ 5 ∷ 6 ∷ 7 ∷ 8 ∷ 9 ∷ 10 ∷ 11 ∷ 12 ∷ [])
    ++ flat_map (λ y. map (λ k. less (0x4020 + 0x100 * y) k (0x4022 + 0x100 * y) k) four) (6 ∷ 7 ∷ 8 ∷ 9 ∷ [])
    ++ map (λ k. less 0x4521 k 0x4523 k) four ++ map (λ k. less 0x7320 k 0x7322 k) four ++ map (λ k. less 0x7321 k 0x7323 k) four

unfoldable pub chains : List Neighbours
unfolding curve_chains line_chains slot_of find flat_map
chains = curve_chains ++ line_chains

abbrev pub linked : Bool → ℕ → Link
linked true slot = Strict slot
linked false slot = Loose slot

-- the neighbour above a slot, and the one below
unfoldable pub upper_in : List Neighbours → ℕ → Link
upper_in [] slot = Free
upper_in (n ∷ ns) slot = first (eqb n.lower slot) (linked n.strict n.upper) (upper_in ns slot)

unfoldable pub lower_in : List Neighbours → ℕ → Link
lower_in [] slot = Free
lower_in (n ∷ ns) slot = first (eqb n.upper slot) (linked n.strict n.lower) (lower_in ns slot)

unfoldable pub upper_of : ℕ → Link
upper_of slot = upper_in chains slot

unfoldable pub lower_of : ℕ → Link
lower_of slot = lower_in chains slot
