-- A slot has one role: two that tell of it are equal.
-- Assumes nothing.
use Prim.Native.Nat.{ℕ, suc, ◌+◌, ◌-◌, ◌*◌, ◌<◌, ◌≤◌}
use native.Mathlib.Decide.{dec_lt}
use native.Mathlib.Omega.{arith}
use mathlib.Core.Bool.{Bool, true, false}
use mathlib.Core.List.{List, [], ◌∷◌}
use mathlib.Core.Path.{◌≡◌, refl, sym, ap, ◌∙◌}
use lib.Dec.{eqb, ltb}
use borrow.Author.Tests.{ltb-true}
use lib.IntN.{nat_abs}
use Rattle.numbers.specs.Choice.{first}
use Rattle.dictionary.specs.declared.types.Kind.{Kind}
use Rattle.dictionary.specs.declared.types.Kind.TheVariants.{Unsigned8, Integer16, Unsigned16, Real32, Unsigned32}
use Rattle.dictionary.specs.declared.types.Range.{Range}
use Rattle.dictionary.proofs.Tabulate.{tabulate, agree}
use Rattle.roles.specs.Roles.{ranged, upper_by, lower_by, Holding, said, alone, Told}
use Rattle.roles.specs.declared.types.Role.{Role}
use Rattle.roles.specs.declared.types.Role.TheVariants as role
use Rattle.roles.proofs.Cases.{nth, all, place, back, below, at_place}
use Rattle.roles.specs.declared.types.Link.{Link}
use Rattle.roles.specs.declared.types.Link.TheVariants.{Free, Loose, Strict}

-- ---- a rule whose values, computed, are all different

found : List ℕ → ℕ → ℕ
found [] x = 0
found (y ∷ ys) x = first (eqb y x) 0 (suc (found ys x))

apart : (n : ℕ) (f : ℕ → ℕ) → tabulate n 0 (λ r. found (tabulate n 0 f) (f r)) ≡ tabulate n 0 (λ r. r) → {r s : ℕ} → r < n → s < n → f r ≡ f s → r ≡ s
apart n f e {r} {s} h l q =
    let back = agree n (λ k. found (tabulate n 0 f) (f k)) (λ k. k) 0 e in
    sym (back r h) ∙ ap (found (tabulate n 0 f)) q ∙ back s l

-- ---- a number for a range, and one for a neighbour by how far it is from the slot

kind_mark : Kind → ℕ
kind_mark Unsigned8 = 1
kind_mark Integer16 = 2
kind_mark Unsigned16 = 3
kind_mark Real32 = 4
kind_mark Unsigned32 = 5

range_mark : Range → ℕ
range_mark r = 1000000 * kind_mark r.kind + 10 * nat_abs r.low + nat_abs r.high

link_mark : ℕ → Link → ℕ
link_mark slot Free = 0
link_mark slot (Loose other) = 2 * (other + 17 - slot)
link_mark slot (Strict other) = 2 * (other + 17 - slot) + 1

marked : ℕ → Holding → ℕ
marked slot h = range_mark h.range + 10000000 * link_mark slot h.upper + 1000000000 * link_mark slot h.lower

-- ---- the marks of the neighbours, in numbers alone

upper_mark : Role → ℕ
upper_mark role.FirstX = 36
upper_mark role.InnerX = 36
upper_mark role.EcLow = 59
upper_mark role.MathLow = 43
upper_mark role.PvLow = 51
upper_mark role.FvLow = 51
upper_mark role.LineLow = 51
upper_mark role.LineHigh = 58
upper_mark role.SpanLow = 2
upper_mark other = 0

lower_mark : Role → ℕ
lower_mark role.InnerX = 32
lower_mark role.LastX = 32
lower_mark role.EcHigh = 11
lower_mark role.MathHigh = 27
lower_mark role.PvHigh = 19
lower_mark role.FvHigh = 19
lower_mark role.LineLow = 66
lower_mark role.LineHigh = 19
lower_mark role.SpanHigh = 10
lower_mark other = 0

role_mark : Role → ℕ
role_mark role = range_mark (ranged role) + 10000000 * upper_mark role + 1000000000 * lower_mark role

module _ (slot : ℕ) (h : 16 ≤ slot) where
  above : (k : ℕ) → slot + k + 17 - slot ≡ k + 17
  above k = omega arith

  under : (k : ℕ) → k ≤ 16 → slot - k + 17 - slot ≡ 17 - k
  under k l = omega arith

  -- the mark of what a role says
  said_mark : (r : Role) → marked slot (said r slot) ≡ role_mark r
  unfolding tabulate nth first said marked link_mark role_mark upper_by lower_by upper_mark lower_mark
  said_mark = at_place (λ r. marked slot (said r slot)) role_mark
      (rw (above 1, above 12, above 4, above 8, above 16, under 16 (omega arith), under 1 (omega arith), under 12 (omega arith), under 4 (omega arith), under 8 (omega arith)))

-- the roles that no chain has come first
alone_first : (r : Role) → ltb (place r) 15 ≡ alone r
unfolding tabulate nth first place alone
alone_first = at_place (λ r. ltb (place r) 15) alone refl

near_start : {r : Role} {slot : ℕ} → Told r slot → slot < 16 → place r < 15
near_start {r} {slot} t h = ltb-true (place r) 15 (alone_first r ∙ go (alone r) refl)
  where
    go : (b : Bool) → alone r ≡ b → b ≡ true
    go true q = refl
    go false q = let far = t.near q in absurd (omega arith)

by_place : {r s : Role} → place r ≡ place s → r ≡ s
by_place {r} {s} q = sym (back r) ∙ ap (λ k. nth k all) q ∙ back s

-- far from the start all roles are told apart; a slot that is near it has one without neighbours, and the range tells
pub role_once : {r s : Role} {slot : ℕ} → Told r slot → Told s slot → r ≡ s
unfolding tabulate found nth first role_mark range_mark kind_mark upper_mark lower_mark ranged said
role_once {r} {s} {slot} p q = go (dec_lt slot 16)
  where
    same : said r slot ≡ said s slot
    same = p.holds ∙ sym q.holds

    go : Dec (slot < 16) → r ≡ s
    go (yes h) =
        by_place (apart 15 (λ k. range_mark (ranged (nth k all))) refl (near_start p h) (near_start q h)
        (ap (λ x. range_mark (ranged x)) (back r) ∙ ap (λ (h : Holding). range_mark h.range) same ∙ ap (λ x. range_mark (ranged x)) (sym (back s))))
    go (no n) =
        let h : 16 ≤ slot = omega arith in
        by_place (apart 32 (λ k. role_mark (nth k all)) refl (below r) (below s)
        (ap role_mark (back r) ∙ sym (said_mark slot h r) ∙ ap (marked slot) same ∙ said_mark slot h s ∙ ap role_mark (sym (back s))))
