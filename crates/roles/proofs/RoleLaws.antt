-- The role that the code tells of a slot is the table's, by one computed test over the slots between two bounds, which are those of the code's branches.
-- Assumes nothing.
use mathlib.Core.Path.{◌≡◌, refl, sym, ap, ◌∙◌}
use mathlib.Core.Bool.{Bool, true, false, true≢false, ◌&&◌, ◌||◌, and-eq-true_iff}
use mathlib.Core.List.{List, [], ◌∷◌, ◌++◌, map}
use Prim.Native.Nat.{ℕ, zero, suc, ◌+◌, ◌-◌, ◌%◌, ◌^◌, ◌<◌, ◌≤◌}
use native.Mathlib.Omega.{arith}
use lib.Dec.{eqb, ltb, leb}
use lib.ListN.{get_or, take, drop, length-map, get_or-eq_default}
use borrow.Author.Tests.{eq-eqb, eqb-true, lt-ltb, le-leb, leb-true, ltb-true, ne_eqb}
use Rattle.numbers.specs.Choice.{first}
use Rattle.dictionary.specs.Names.{Entry, entries, words}
use Rattle.dictionary.specs.Rows.{u8}
use Rattle.dictionary.specs.declared.types.Range.{Range}
use Rattle.dictionary.proofs.Apart.{Apart}
use Rattle.dictionary.proofs.Sieve.{sieve, sift, sifted}
use Rattle.roles.specs.Chains.{Neighbours, chains, upper_in, lower_in, upper_of, lower_of}
use Rattle.roles.specs.Values.{range_of}
use Rattle.roles.specs.Roles.{Holding, ranged, upper_by, lower_by, said, holding, alone, Told}
use Rattle.roles.specs.declared.types.Role.{Role}
use Rattle.roles.specs.declared.types.Role.TheVariants.{Axis}
use Rattle.roles.specs.declared.types.Link.TheVariants.{Free}

-- the chains by runs of neighbours, each from two slots on: the same list, which the tests below look up without a name.
-- 30z5h; 7148h, 7120h, 7122h and 7149h; 2520h and 2522h; 4y20h and 4y22h; 4521h and 4523h; 7320h and 7322h; 7321h and 7323h
unfoldable pub run : ℕ → ℕ → Bool → ℕ → List Neighbours
run lower upper strict zero = []
run lower upper strict (suc n) = record { lower = lower; upper = upper; strict = strict } ∷ run (suc lower) (suc upper) strict n

unfoldable pub runs : List Neighbours
unfolding run
runs =
    run 107 108 false 10
    ++ run 144 145 false 10
    ++ run 181 182 false 10
    ++ run 218 219 false 10
    ++ run 255 256 false 10
    ++ run 292 293 false 10
    ++ run 583 567 false 4
    ++ run 567 575 true 4
    ++ run 575 587 false 4
    ++ run 68 80 true 12
    ++ run 446 450 true 4
    ++ run 473 477 true 4
    ++ run 500 504 true 4
    ++ run 527 531 true 4
    ++ run 422 426 true 4
    ++ run 591 599 true 4
    ++ run 595 603 true 4

pub chains_run : chains ≡ runs
unfolding chains runs
chains_run = refl

-- the table's ranges, and what is held at a slot where the range is given
abbrev joined : List Neighbours → ℕ → Range → Holding
joined ns slot range = record { range = range; upper = upper_in ns slot; lower = lower_in ns slot }

unfoldable pub table : List Range
unfolding entries
table = map (λ (e : Entry). e.value.range) entries

-- what a role says of the slots from start to stop that a test chooses, and what the table holds there
unfoldable pub told_when : Role → (ℕ → Bool) → ℕ → ℕ → List Holding
unfolding sieve said ranged upper_by lower_by first
told_when role p start stop = sieve p (stop - start) start (said role)

unfoldable pub held_in : List Neighbours → (ℕ → Bool) → ℕ → ℕ → List Holding
unfolding sift table upper_in lower_in first
held_in ns p start stop = sift p (joined ns) start (take (stop - start) (drop start table))

unfoldable pub held_when : (ℕ → Bool) → ℕ → ℕ → List Holding
unfolding held_in runs
held_when p start stop = held_in runs p start stop

-- a role that may have neighbours is far from both ends
unfoldable pub near : Role → ℕ → ℕ → Bool
unfolding alone
near role low high = alone role || (leb 16 low && leb high 65536)

nearby : (role : Role) {low high slot : ℕ} → near role low high ≡ true → low ≤ slot → slot < high → alone role ≡ false → (16 ≤ slot) × (slot < 2 ^ 16)
unfolding near
nearby role {low} {high} e l h r =
    let both = (and-eq-true_iff (leb 16 low) (leb high 65536)).0 (rw r at e) in
    let a = leb-true 16 low both.0 in
    let b = leb-true high 65536 both.1 in
    (omega arith, omega arith)

when : {start stop slot : ℕ} {role : Role} (p : ℕ → Bool) → start ≤ slot → slot < stop → p slot ≡ true → told_when role p start stop ≡ held_when p start stop → near role start stop ≡ true → Told role slot
unfolding told_when held_when held_in holding range_of table upper_of lower_of
when {start} {stop} {slot} {role} p l h t e n = record {
  holds = sifted p (said role) (joined runs) (u8 0 0 0).range start stop slot table e l h t
      ∙ ap (λ (ns : List Neighbours). joined ns slot (get_or table slot (u8 0 0 0).range)) (sym chains_run);
  near = nearby role n l h;
}

abbrev pub any : ℕ → Bool
any slot = true

pub on : (role : Role) {low high slot : ℕ} → low ≤ slot → slot < high → told_when role any low high ≡ held_when any low high → near role low high ≡ true → Told role slot
on role l h e n = when any l h refl e n

-- ---- blocks: a slot is folded back to the first block, from `base` on and `per` entries long, and the code's branches tell of that

module _ (role : Role) (base per : ℕ) {start stop slot : ℕ} (l : start ≤ slot) (h : slot < stop) where
  pub folded_from : {low : ℕ} → low ≤ base + (slot - base) % per
      → told_when role (λ s. leb low (base + (s - base) % per)) start stop ≡ held_when (λ s. leb low (base + (s - base) % per)) start stop → near role start stop ≡ true → Told role slot
  folded_from {low} a e n = when (λ s. leb low (base + (s - base) % per)) l h (le-leb low (base + (slot - base) % per) a) e n

  pub folded_below : {high : ℕ} → base + (slot - base) % per < high
      → told_when role (λ s. ltb (base + (s - base) % per) high) start stop ≡ held_when (λ s. ltb (base + (s - base) % per) high) start stop → near role start stop ≡ true → Told role slot
  folded_below {high} b e n = when (λ s. ltb (base + (s - base) % per) high) l h (lt-ltb (base + (slot - base) % per) high b) e n

  pub folded_on : {low high : ℕ} → low ≤ base + (slot - base) % per → base + (slot - base) % per < high
      → told_when role (λ s. leb low (base + (s - base) % per) && ltb (base + (s - base) % per) high) start stop ≡ held_when (λ s. leb low (base + (s - base) % per) && ltb (base + (s - base) % per) high) start stop → near role start stop ≡ true → Told role slot
  folded_on {low} {high} a b e n =
      when (λ s. leb low (base + (s - base) % per) && ltb (base + (s - base) % per) high) l h
      ((and-eq-true_iff (leb low (base + (slot - base) % per)) (ltb (base + (slot - base) % per) high)).1 (le-leb low (base + (slot - base) % per) a, lt-ltb (base + (slot - base) % per) high b)) e n

  -- and folded once more, from `from` on
  pub folded_twice : (from few : ℕ) {low k : ℕ} → low ≤ base + (slot - base) % per → (base + (slot - base) % per - from) % few ≡ k
      → told_when role (λ s. leb low (base + (s - base) % per) && eqb ((base + (s - base) % per - from) % few) k) start stop ≡ held_when (λ s. leb low (base + (s - base) % per) && eqb ((base + (s - base) % per - from) % few) k) start stop → near role start stop ≡ true → Told role slot
  folded_twice from few {low} {k} a b e n =
      when (λ s. leb low (base + (s - base) % per) && eqb ((base + (s - base) % per - from) % few) k) l h
      ((and-eq-true_iff (leb low (base + (slot - base) % per)) (eqb ((base + (slot - base) % per - from) % few) k)).1 (le-leb low (base + (slot - base) % per) a, eq-eqb ((base + (slot - base) % per - from) % few) k b)) e n

-- what is left of five
pub fifth : {n : ℕ} → Apart (0 ∷ 1 ∷ 2 ∷ 3 ∷ []) n → n < 5 → n ≡ 4
fifth a h = omega (arith, a.1, a.0.1, a.0.0.1, a.0.0.0.1)

-- ---- a slot past the last has the range 0..0 and no neighbour

unfoldable pub all_below : ℕ → List Neighbours → Bool
all_below bound [] = true
all_below bound (n ∷ ns) = (ltb n.lower bound && ltb n.upper bound) && all_below bound ns

module _ (bound slot : ℕ) (h : bound ≤ slot) where
  no_upper : (ns : List Neighbours) → all_below bound ns ≡ true → upper_in ns slot ≡ Free
  unfolding all_below upper_in first
  no_upper [] e = refl
  no_upper (n ∷ ns) e =
      let two = (and-eq-true_iff (ltb n.lower bound && ltb n.upper bound) (all_below bound ns)).0 e in
      let l : n.lower < bound = ltb-true n.lower bound ((and-eq-true_iff (ltb n.lower bound) (ltb n.upper bound)).0 two.0).0 in
      rw (ne_eqb n.lower slot (λ q. omega arith)) (no_upper ns two.1)

  no_lower : (ns : List Neighbours) → all_below bound ns ≡ true → lower_in ns slot ≡ Free
  unfolding all_below lower_in first
  no_lower [] e = refl
  no_lower (n ∷ ns) e =
      let two = (and-eq-true_iff (ltb n.lower bound && ltb n.upper bound) (all_below bound ns)).0 e in
      let l : n.upper < bound = ltb-true n.upper bound ((and-eq-true_iff (ltb n.lower bound) (ltb n.upper bound)).0 two.0).1 in
      rw (ne_eqb n.upper slot (λ q. omega arith)) (no_lower ns two.1)

-- the table and its chains end at a bound
unfoldable pub ends_at : ℕ → Bool
unfolding words chains all_below
ends_at bound = eqb words bound && all_below bound chains

no_range : (slot : ℕ) → words ≤ slot → range_of slot ≡ ranged Axis
unfolding range_of words ranged
no_range slot h = get_or-eq_default (map (λ (e : Entry). e.value.range) entries) (u8 0 0 0).range {n = slot} (rw (length-map entries (λ (e : Entry). e.value.range)) h)

pub past_all : {bound slot : ℕ} → bound ≤ slot → ends_at bound ≡ true → Told Axis slot
unfolding ends_at said holding upper_of lower_of upper_by lower_by alone
past_all {bound} {slot} h e =
    let two = (and-eq-true_iff (eqb words bound) (all_below bound chains)).0 e in
    let w : words ≡ bound = eqb-true words bound two.0 in
    record {
      holds = rw (no_range slot (omega arith), no_upper bound slot h chains two.1, no_lower bound slot h chains two.1);
      near = λ r. absurd (true≢false r);
    }
