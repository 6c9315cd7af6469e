-- A rule over the roles at those that a match names, and at those that it leaves: computed over all of them.
-- Assumes nothing.
use mathlib.Core.Path.{◌≡◌, refl, sym, ap, ◌∙◌}
use mathlib.Core.Bool.{Bool, true, false, ◌||◌}
use mathlib.Core.List.{List, [], ◌∷◌, map}
use mathlib.Core.Logic.{◌⊎◌, inl, inr}
use Prim.Native.Nat.{ℕ, ◌-◌, ◌<◌}
use lib.Dec.{eqb, lit<}
use borrow.Author.Tests.{eqb-true}
use Rattle.numbers.specs.Choice.{first}
use Rattle.dictionary.proofs.Tabulate.{tabulate, agree}
use Rattle.roles.specs.declared.types.Role.{Role}
use Rattle.roles.specs.declared.types.Role.TheVariants.{Axis, Switch, Response, Digits, Operator, Comparison, Source, Number, Table, Byte, Real, Time, Positive, Gain, Current, FvLow, FvHigh, Whole, FirstX, InnerX, LastX, EcLow, EcHigh, MathLow, MathHigh, PvLow, PvHigh, LineLow, LineHigh, SpanLow, SpanHigh, Long}

-- the roles in order, and the place of each
unfoldable pub nth : ℕ → List Role → Role
nth k [] = Axis
nth k (r ∷ rs) = first (eqb k 0) r (nth (k - 1) rs)

abbrev pub all : List Role
all = Axis ∷ Switch ∷ Response ∷ Digits ∷ Operator ∷ Comparison ∷ Source ∷ Number ∷ Table ∷ Byte ∷ Real ∷ Time ∷ Positive ∷ Gain ∷ Current ∷ FvLow ∷ FvHigh ∷ Whole ∷ FirstX ∷ InnerX ∷ LastX ∷ EcLow ∷ EcHigh ∷ MathLow ∷ MathHigh ∷ PvLow ∷ PvHigh ∷ LineLow ∷ LineHigh ∷ SpanLow ∷ SpanHigh ∷ Long ∷ []

unfoldable pub place : Role → ℕ
place Axis = 0
place Switch = 1
place Response = 2
place Digits = 3
place Operator = 4
place Comparison = 5
place Source = 6
place Number = 7
place Table = 8
place Byte = 9
place Real = 10
place Time = 11
place Positive = 12
place Gain = 13
place Current = 14
place FvLow = 15
place FvHigh = 16
place Whole = 17
place FirstX = 18
place InnerX = 19
place LastX = 20
place EcLow = 21
place EcHigh = 22
place MathLow = 23
place MathHigh = 24
place PvLow = 25
place PvHigh = 26
place LineLow = 27
place LineHigh = 28
place SpanLow = 29
place SpanHigh = 30
place Long = 31

pub back : (r : Role) → nth (place r) all ≡ r
unfolding nth place first
back Axis = refl
back Switch = refl
back Response = refl
back Digits = refl
back Operator = refl
back Comparison = refl
back Source = refl
back Number = refl
back Table = refl
back Byte = refl
back Real = refl
back Time = refl
back Positive = refl
back Gain = refl
back Current = refl
back FvLow = refl
back FvHigh = refl
back Whole = refl
back FirstX = refl
back InnerX = refl
back LastX = refl
back EcLow = refl
back EcHigh = refl
back MathLow = refl
back MathHigh = refl
back PvLow = refl
back PvHigh = refl
back LineLow = refl
back LineHigh = refl
back SpanLow = refl
back SpanHigh = refl
back Long = refl

pub below : (r : Role) → place r < 32
unfolding place
below Axis = lit< tt
below Switch = lit< tt
below Response = lit< tt
below Digits = lit< tt
below Operator = lit< tt
below Comparison = lit< tt
below Source = lit< tt
below Number = lit< tt
below Table = lit< tt
below Byte = lit< tt
below Real = lit< tt
below Time = lit< tt
below Positive = lit< tt
below Gain = lit< tt
below Current = lit< tt
below FvLow = lit< tt
below FvHigh = lit< tt
below Whole = lit< tt
below FirstX = lit< tt
below InnerX = lit< tt
below LastX = lit< tt
below EcLow = lit< tt
below EcHigh = lit< tt
below MathLow = lit< tt
below MathHigh = lit< tt
below PvLow = lit< tt
below PvHigh = lit< tt
below LineLow = lit< tt
below LineHigh = lit< tt
below SpanLow = lit< tt
below SpanHigh = lit< tt
below Long = lit< tt

-- a rule that agrees with another at all places agrees at all roles
pub at_place : {A : Type 0} (f g : Role → A) → tabulate 32 0 (λ k. f (nth k all)) ≡ tabulate 32 0 (λ k. g (nth k all)) → (r : Role) → f r ≡ g r
at_place f g e r = ap f (sym (back r)) ∙ agree 32 (λ k. f (nth k all)) (λ k. g (nth k all)) (f (nth 0 all)) e (place r) (below r) ∙ ap g (back r)

-- one of some
abbrev pub one_of : Role → List Role → Type 0
one_of r [] = ⊥
one_of r (s ∷ []) = r ≡ s
one_of r (s ∷ t ∷ rest) = (r ≡ s) ⊎ one_of r (t ∷ rest)

head_of : {A : Type 0} → A → List A → A
head_of d [] = d
head_of d (x ∷ xs) = x

tail_of : {A : Type 0} → List A → List A
tail_of [] = []
tail_of (x ∷ xs) = xs

-- a rule that has one value at all of some
pub named : {A : Type 0} (f : Role → A) (v : A) (rs : List Role) {r : Role} → one_of r rs → map (λ s. v) rs ≡ map f rs → v ≡ f r
unfolding head_of tail_of
named f v [] i e = absurd i
named f v (s ∷ []) i e = ap (head_of v) e ∙ ap f (sym i)
named f v (s ∷ t ∷ rest) (inl i) e = ap (head_of v) e ∙ ap f (sym i)
named f v (s ∷ t ∷ rest) (inr i) e = named f v (t ∷ rest) i (ap tail_of e)

-- none of some
abbrev pub none_of : Role → List Role → Type 0
none_of r [] = Unit
none_of r (s ∷ rest) = (r ≡ s → ⊥) × none_of r rest

unfoldable pub among : Role → List Role → Bool
unfolding place
among r [] = false
among r (s ∷ rest) = eqb (place r) (place s) || among r rest

not_among : (r : Role) (rs : List Role) → none_of r rs → among r rs ≡ false
unfolding among
not_among r [] n = refl
not_among r (s ∷ rest) n = go (eqb (place r) (place s)) refl (not_among r rest n.1)
  where
    go : (b : Bool) → eqb (place r) (place s) ≡ b → among r rest ≡ false → (b || among r rest) ≡ false
    go true q ih = absurd (n.0 (sym (back r) ∙ ap (λ k. nth k all) (eqb-true (place r) (place s) q) ∙ back s))
    go false q ih = ih

-- a fact where it is none of some
abbrev pub apart_from : Role → List Role → Type 0 → Type 0
apart_from r [] P = P
apart_from r (s ∷ rest) P = (r ≡ s → ⊥) → apart_from r rest P

curried : (r : Role) (rs : List Role) (P : Type 0) → (none_of r rs → P) → apart_from r rs P
curried r [] P p = p tt
curried r (s ∷ rest) P p = λ n. curried r rest P (λ m. p (n, m))

-- a rule that has one value at all but some
pub left : {A : Type 0} (f : Role → A) (v : A) (rs : List Role) (r : Role)
    → tabulate 32 0 (λ k. v) ≡ tabulate 32 0 (λ k. first (among (nth k all) rs) v (f (nth k all))) → apart_from r rs (v ≡ f r)
unfolding first
left f v rs r e = curried r rs (v ≡ f r) (λ n.
    agree 32 (λ k. v) (λ k. first (among (nth k all) rs) v (f (nth k all))) v e (place r) (below r)
    ∙ rw (back r, not_among r rs n))
