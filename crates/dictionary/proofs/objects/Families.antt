-- The rows of an index, read off the table: one row where the index is known, none where it is none of those that begin with the same digits,
-- and for the second and each further block of a family the first block's row, moved on.
-- Assumes nothing.
use mathlib.Core.Path.{◌≡◌, refl, sym, ap, ◌∙◌}
use mathlib.Core.Bool.{Bool, true, false, true≢false, ◌&&◌, ◌||◌, not, and-eq-true_iff}
use mathlib.Core.List.{List, [], ◌∷◌}
use Prim.Native.Nat.{ℕ, ◌+◌, ◌-◌, ◌*◌, ◌/◌, ◌%◌, ◌<◌, ◌≤◌}
use native.Mathlib.Omega.{arith}
use lib.Dec.{eqb, ltb}
use borrow.Author.Tests.{eqb-true, eqb-false, ne_eqb, eq-eqb, ltb-true, ltb-false}
use Rattle.numbers.specs.Choice.{first}
use Rattle.dictionary.specs.Names.{Stretch, stretches, with_index, writable, slot_of}
use Rattle.dictionary.specs.Objects.{meant, Rows}
use Rattle.dictionary.specs.declared.objects.Object.{Object}
use Rattle.dictionary.specs.declared.objects.Object.TheVariants.{Unknown}
use Rattle.dictionary.proofs.Apart.{apart_from, Apart, apart_first}
use Rattle.dictionary.proofs.Tabulate.{tabulate, agree}

-- two names for one index
pub moved : {i j : ℕ} {o : Object} → i ≡ j → Rows o j → Rows o i
moved e h = rw e h

-- the row of a known index, computed
pub here : (base : ℕ) {low k : ℕ} {o : Object} → low ≡ k → meant o (base + k) ≡ with_index (base + k) stretches → Rows o (base + low)
here base e h = record { are = rw e h }

-- ---- an index that has no row

-- the stretches whose index begins with given digits: q, where the index is divided by d
unfoldable pub with_part : ℕ → ℕ → List Stretch → List Stretch
with_part d q [] = []
with_part d q (s ∷ ss) = first (eqb (s.index / d) q) (s ∷ with_part d q ss) (with_part d q ss)

-- the digits that follow in each
unfoldable pub last_digits : ℕ → List Stretch → List ℕ
last_digits d [] = []
last_digits d (s ∷ ss) = s.index % d ∷ last_digits d ss

none : (d q index x : ℕ) → index / d ≡ q → x ≡ index % d → (ss : List Stretch) (N : Type 0) → apart_from N (last_digits d (with_part d q ss)) x → with_index index ss ≡ []
unfolding with_index with_part last_digits first
none d q index x e m [] N a = refl
none d q index x e m (s ∷ ss) N a = go (none d q index x e m ss) (eqb (s.index / d) q) refl (eqb s.index index) refl a
  where
    go : ((N : Type 0) → apart_from N (last_digits d (with_part d q ss)) x → with_index index ss ≡ []) → (p : Bool) → eqb (s.index / d) q ≡ p → (t : Bool) → eqb s.index index ≡ t
        → apart_from N (last_digits d (first p (s ∷ with_part d q ss) (with_part d q ss))) x → first t (s ∷ with_index index ss) (with_index index ss) ≡ []
    go ih true p true t a =
        absurd ((apart_first (N × (x ≡ s.index % d → ⊥)) (last_digits d (with_part d q ss)) x a).1 (m ∙ ap (λ (i : ℕ). i % d) (sym (eqb-true s.index index t))))
    go ih true p false t a = ih (N × (x ≡ s.index % d → ⊥)) a
    go ih false p true t a = absurd (eqb-false (s.index / d) q p (ap (λ (i : ℕ). i / d) (eqb-true s.index index t) ∙ e))
    go ih false p false t a = ih N a

-- the keys of the match over an index's last two digits are those of all rows that begin with its first two
pub no_row : (high low : ℕ) → low < 256 → Apart (last_digits 256 (with_part 256 high stretches)) low → Rows Unknown (high * 256 + low)
unfolding meant
no_row high low h a = record { are = sym (none 256 high (high * 256 + low) low (omega arith) (omega arith) stretches Unit a) }

-- no row has an index from one bound to another
unfoldable pub all_outside : ℕ → ℕ → List Stretch → Bool
all_outside low high [] = true
all_outside low high (s ∷ ss) = (ltb s.index low || not (ltb s.index high)) && all_outside low high ss

outside_none : (low high index : ℕ) → low ≤ index → index < high → (ss : List Stretch) → all_outside low high ss ≡ true → with_index index ss ≡ []
unfolding all_outside with_index first
outside_none low high index l h [] e = refl
outside_none low high index l h (s ∷ ss) e =
    let both = (and-eq-true_iff (ltb s.index low || not (ltb s.index high)) (all_outside low high ss)).0 e in
    rw (ne_eqb s.index index (λ q. differs q (ltb s.index low) refl (ltb s.index high) refl both.0)) (outside_none low high index l h ss both.1)
  where
    differs : s.index ≡ index → (a : Bool) → ltb s.index low ≡ a → (b : Bool) → ltb s.index high ≡ b → (a || not b) ≡ true → ⊥
    differs q true p b r t = let k = ltb-true s.index low p in omega arith
    differs q false p true r t = let z : ◌≡◌ {A = Bool} false true = t in true≢false (sym z)
    differs q false p false r t = let k = ltb-false s.index high r in omega arith

pub no_row_between : (low high : ℕ) {index : ℕ} → low ≤ index → index < high → all_outside low high stretches ≡ true → Rows Unknown index
unfolding meant
no_row_between low high {index} l h e = record { are = sym (outside_none low high index l h stretches e) }

-- the first digits of all rows, each once
unfoldable pub without : ℕ → List ℕ → List ℕ
without k [] = []
without k (n ∷ ns) = first (eqb n k) (without k ns) (n ∷ without k ns)

unfoldable pub families_of : List Stretch → List ℕ
families_of [] = []
families_of (s ∷ ss) = s.index / 256 ∷ without (s.index / 256) (families_of ss)

unfoldable pub member : ℕ → List ℕ → Bool
member k [] = false
member k (n ∷ ns) = eqb n k || member k ns

apart_member : (N : Type 0) (ks : List ℕ) (x k : ℕ) → apart_from N ks x → member k ks ≡ true → x ≡ k → ⊥
unfolding member
apart_member N [] x k a m e = true≢false (sym m)
apart_member N (n ∷ ns) x k a m e = go (apart_member (N × (x ≡ n → ⊥)) ns x k a) (eqb n k) refl m
  where
    go : (member k ns ≡ true → x ≡ k → ⊥) → (b : Bool) → eqb n k ≡ b → (b || member k ns) ≡ true → ⊥
    go ih true p m = (apart_first (N × (x ≡ n → ⊥)) ns x a).1 (e ∙ sym (eqb-true n k p))
    go ih false p m = ih m e

unfoldable pub all_in : List ℕ → List Stretch → Bool
all_in ks [] = true
all_in ks (s ∷ ss) = member (s.index / 256) ks && all_in ks ss

all_in_none : (ks : List ℕ) (index : ℕ) → Apart ks (index / 256) → (ss : List Stretch) → all_in ks ss ≡ true → with_index index ss ≡ []
unfolding all_in with_index first
all_in_none ks index a [] e = refl
all_in_none ks index a (s ∷ ss) e =
    let both = (and-eq-true_iff (member (s.index / 256) ks) (all_in ks ss)).0 e in
    rw (ne_eqb s.index index (λ q. apart_member Unit ks (index / 256) (s.index / 256) a both.0 (ap (λ (i : ℕ). i / 256) (sym q)))) (all_in_none ks index a ss both.1)

families_complete : all_in (families_of stretches) stretches ≡ true
unfolding all_in member families_of without stretches first
families_complete = refl

-- the keys of the match over an index's first two digits are those of all rows
pub no_family : (index : ℕ) → Apart (families_of stretches) (index / 256) → Rows Unknown index
unfolding meant
no_family index a = record { are = sym (all_in_none (families_of stretches) index a stretches families_complete) }

-- ---- blocks of a family

-- a block's rows moved on: indexes by a step, configured slots by so many entries, the others by one for each block
unfoldable pub shifted : ℕ → ℕ → ℕ → List Stretch → List Stretch
shifted entries blocks step [] = []
shifted entries blocks step (s ∷ ss) =
    record { index = s.index + step; from = s.from; to = s.to; slot = s.slot + first (ltb s.slot writable) entries blocks } ∷ shifted entries blocks step ss

same_moved : (i j step : ℕ) → eqb (i + step) (j + step) ≡ eqb i j
same_moved i j step = go (eqb i j) refl
  where
    go : (b : Bool) → eqb i j ≡ b → eqb (i + step) (j + step) ≡ b
    go true e = eq-eqb (i + step) (j + step) (ap (λ (n : ℕ). n + step) (eqb-true i j e))
    go false e = ne_eqb (i + step) (j + step) (λ q. eqb-false i j e (omega arith))

moved_on : (entries blocks step index : ℕ) (ss : List Stretch) → with_index (index + step) (shifted entries blocks step ss) ≡ shifted entries blocks step (with_index index ss)
unfolding with_index shifted first
moved_on entries blocks step index [] = refl
moved_on entries blocks step index (s ∷ ss) = rw (same_moved s.index index step) (go (moved_on entries blocks step index ss) (eqb s.index index))
  where
    t : Stretch
    t = record { index = s.index + step; from = s.from; to = s.to; slot = s.slot + first (ltb s.slot writable) entries blocks }

    go : with_index (index + step) (shifted entries blocks step ss) ≡ shifted entries blocks step (with_index index ss) → (b : Bool)
        → first b (t ∷ with_index (index + step) (shifted entries blocks step ss)) (with_index (index + step) (shifted entries blocks step ss)) ≡ shifted entries blocks step (first b (s ∷ with_index index ss) (with_index index ss))
    go ih true = ap (λ (l : List Stretch). t ∷ l) ih
    go ih false = ih

-- an index is looked for among those alone that begin with its digits
narrowed : (d q index : ℕ) → index / d ≡ q → (ss : List Stretch) → with_index index (with_part d q ss) ≡ with_index index ss
unfolding with_index with_part first
narrowed d q index e [] = refl
narrowed d q index e (s ∷ ss) = go (narrowed d q index e ss) (eqb (s.index / d) q) refl (eqb s.index index) refl
  where
    go : with_index index (with_part d q ss) ≡ with_index index ss → (a : Bool) → eqb (s.index / d) q ≡ a → (b : Bool) → eqb s.index index ≡ b → with_index index (first a (s ∷ with_part d q ss) (with_part d q ss)) ≡ first b (s ∷ with_index index ss) (with_index index ss)
    go ih true p true t = rw (t, ih)
    go ih true p false t = rw t ih
    go ih false p true t = absurd (eqb-false (s.index / d) q p (ap (λ (i : ℕ). i / d) (eqb-true s.index index t) ∙ e))
    go ih false p false t = ih

-- n blocks, each with the next digit d of the index, each so many entries after the one before it
module _ (n d q entries : ℕ) (alike : tabulate n 0 (λ x. shifted (x * entries) x (x * d) (with_part d q stretches)) ≡ tabulate n 0 (λ x. with_part d (q + x) stretches)) where
  block : (x index : ℕ) → x < n → index / d ≡ q → (index + x * d) / d ≡ q + x → with_index (index + x * d) stretches ≡ shifted (x * entries) x (x * d) (with_index index stretches)
  block x index h e f =
      sym (narrowed d (q + x) (index + x * d) f stretches)
      ∙ ap (with_index (index + x * d)) (sym (agree n (λ x. shifted (x * entries) x (x * d) (with_part d q stretches)) (λ x. with_part d (q + x) stretches) [] alike x h))
      ∙ moved_on (x * entries) x (x * d) index (with_part d q stretches)
      ∙ ap (shifted (x * entries) x (x * d)) (narrowed d q index e stretches)

  pub in_block : (x base : ℕ) {low k : ℕ} {o : Object} → x < n → (base + low) / d ≡ q → (base + low + x * d) / d ≡ q + x → low ≡ k
      → meant o (base + k + x * d) ≡ shifted (x * entries) x (x * d) (with_index (base + k) stretches) → Rows o (base + low + x * d)
  in_block x base {low} h e f at row = record { are = rw (block x (base + low) h e f) (rw at row) }

  pub not_in_block : (x base : ℕ) {low : ℕ} → x < n → (base + low) / d ≡ q → (base + low + x * d) / d ≡ q + x → low ≡ (base + low) % d → Apart (last_digits d (with_part d q stretches)) low
      → Rows Unknown (base + low + x * d)
  unfolding meant shifted
  not_in_block x base {low} h e f m a = record { are = rw (block x (base + low) h e f, none d q (base + low) low e m stretches Unit a) }

pub tables_alike : tabulate 6 0 (λ x. shifted (x * (slot_of 0x3020 0 - slot_of 0x3010 0)) x (x * 16) (with_part 16 0x301 stretches)) ≡ tabulate 6 0 (λ x. with_part 16 (0x301 + x) stretches)
unfolding tabulate shifted with_part stretches writable slot_of first
tables_alike = refl

pub logics_alike : tabulate 2 0 (λ x. shifted (x * (slot_of 0x4201 1 - slot_of 0x4101 1)) x (x * 256) (with_part 256 0x41 stretches)) ≡ tabulate 2 0 (λ x. with_part 256 (0x41 + x) stretches)
unfolding tabulate shifted with_part stretches writable slot_of first
logics_alike = refl

pub maths_alike : tabulate 4 0 (λ x. shifted (x * (slot_of 0x4700 1 - slot_of 0x4600 1)) x (x * 256) (with_part 256 0x46 stretches)) ≡ tabulate 4 0 (λ x. with_part 256 (0x46 + x) stretches)
unfolding tabulate shifted with_part stretches writable slot_of first
maths_alike = refl
