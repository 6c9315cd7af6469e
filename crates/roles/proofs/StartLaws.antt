-- The word that the code tells of a slot at start is the table's default, by one computed test over the slots between two bounds of the code's branches.
-- Assumes nothing.
use mathlib.Core.Path.{◌≡◌, refl, sym, ◌∙◌}
use mathlib.Core.Bool.{Bool, true, ◌&&◌, and-eq-true_iff}
use mathlib.Core.List.{List}
use Prim.Native.Nat.{ℕ, ◌+◌, ◌-◌, ◌*◌, ◌/◌, ◌%◌, ◌<◌, ◌≤◌}
use native.Mathlib.Nat.{not-suc-le-zero}
use native.Mathlib.Omega.{arith}
use lib.Dec.{ltb, leb}
use lib.ListN.{length, get_or, take, drop, set, replicate, length-append, length-replicate, length-set, get_or-replicate, get_or-append}
use lib.Seq.{get_or-set_same, get_or-set_other, get_or-append-add, ext_get_or}
use borrow.Author.Count.{below_more}
use borrow.Author.Tests.{lt-ltb, le-leb}
use Rattle.dictionary.specs.Names.{words}
use Rattle.dictionary.specs.Unit.{unit_size}
use Rattle.numbers.specs.Choice.{first}
use Rattle.roles.specs.Values.{starts, at_start}
use Rattle.dictionary.proofs.Sieve.{sieve, sift, sifted}

pub starts_length : length starts ≡ words
unfolding starts words
starts_length = refl

-- a rule at the slots from start to stop that a test chooses, and the table's words there
unfoldable pub rule_when : (ℕ → ℕ) → (ℕ → Bool) → ℕ → ℕ → List ℕ
unfolding sieve first
rule_when f p start stop = sieve p (stop - start) start f

abbrev word_of : ℕ → ℕ → ℕ
word_of slot word = word

unfoldable pub starts_when : (ℕ → Bool) → ℕ → ℕ → List ℕ
unfolding sift starts first
starts_when p start stop = sift p word_of start (take (stop - start) (drop start starts))

starts_by : (f : ℕ → ℕ) (p : ℕ → Bool) {start stop slot : ℕ} → start ≤ slot → slot < stop → p slot ≡ true → rule_when f p start stop ≡ starts_when p start stop → f slot ≡ get_or starts slot 0
unfolding rule_when starts_when
starts_by f p {start} {stop} {slot} l h t e = sifted p f word_of 0 start stop slot starts e l h t

abbrev pub any : ℕ → Bool
any slot = true

pub starts_on : (word : ℕ) {low high slot : ℕ} → low ≤ slot → slot < high → rule_when (λ s. word) any low high ≡ starts_when any low high → word ≡ get_or starts slot 0
starts_on word l h e = starts_by (λ s. word) any l h refl e

-- a slot folded back to the first block, from `base` on and `per` entries long
module _ (word base per : ℕ) {start stop slot : ℕ} (l : start ≤ slot) (h : slot < stop) where
  pub starts_below : {high : ℕ} → base + (slot - base) % per < high
      → rule_when (λ s. word) (λ s. ltb (base + (s - base) % per) high) start stop ≡ starts_when (λ s. ltb (base + (s - base) % per) high) start stop → word ≡ get_or starts slot 0
  starts_below {high} b e = starts_by (λ s. word) (λ s. ltb (base + (s - base) % per) high) l h (lt-ltb (base + (slot - base) % per) high b) e

  pub starts_past : {low : ℕ} → low ≤ base + (slot - base) % per
      → rule_when (λ s. word) (λ s. leb low (base + (s - base) % per)) start stop ≡ starts_when (λ s. leb low (base + (s - base) % per)) start stop → word ≡ get_or starts slot 0
  starts_past {low} a e = starts_by (λ s. word) (λ s. leb low (base + (s - base) % per)) l h (le-leb low (base + (slot - base) % per) a) e

  pub starts_between : {low high : ℕ} → low ≤ base + (slot - base) % per → base + (slot - base) % per < high
      → rule_when (λ s. word) (λ s. leb low (base + (s - base) % per) && ltb (base + (s - base) % per) high) start stop ≡ starts_when (λ s. leb low (base + (s - base) % per) && ltb (base + (s - base) % per) high) start stop
      → word ≡ get_or starts slot 0
  starts_between {low} {high} a b e =
      starts_by (λ s. word) (λ s. leb low (base + (s - base) % per) && ltb (base + (s - base) % per) high) l h
      ((and-eq-true_iff (leb low (base + (slot - base) % per)) (ltb (base + (slot - base) % per) high)).1 (le-leb low (base + (slot - base) % per) a, lt-ltb (base + (slot - base) % per) high b)) e

-- the points of a table, and the tables of a logic block
module _ (base per : ℕ) {start stop slot : ℕ} (l : start ≤ slot) (h : slot < stop) where
  pub points : (from count step : ℕ) {low : ℕ} → low ≤ base + (slot - base) % per
      → rule_when (λ s. (base + (s - base) % per - from) % count * step) (λ s. leb low (base + (s - base) % per)) start stop ≡ starts_when (λ s. leb low (base + (s - base) % per)) start stop
      → (base + (slot - base) % per - from) % count * step ≡ get_or starts slot 0
  points from count step {low} a e =
      starts_by (λ s. (base + (s - base) % per - from) % count * step) (λ s. leb low (base + (s - base) % per)) l h (le-leb low (base + (slot - base) % per) a) e

  pub selected : (count : ℕ) {high : ℕ} → base + (slot - base) % per < high
      → rule_when (λ s. (s - base) / per * count + (base + (s - base) % per - base) + 1) (λ s. ltb (base + (s - base) % per) high) start stop ≡ starts_when (λ s. ltb (base + (s - base) % per) high) start stop
      → (slot - base) / per * count + (base + (slot - base) % per - base) + 1 ≡ get_or starts slot 0
  selected count {high} b e =
      starts_by (λ s. (s - base) / per * count + (base + (s - base) % per - base) + 1) (λ s. ltb (base + (s - base) % per) high) l h (lt-ltb (base + (slot - base) % per) high b) e

-- ---- the whole unit: the table's words, then zeros

start_length : length at_start ≡ unit_size
unfolding at_start unit_size words
start_length = simp (length-append, starts_length, length-replicate)

pub start_word : (k : ℕ) → k < words → get_or at_start k 0 ≡ get_or starts k 0
unfolding at_start
start_word k h = get_or-append starts (replicate (unit_size - words) 0) 0 k (rw starts_length h)

pub start_zero : (k : ℕ) → words ≤ k → k < unit_size → get_or at_start k 0 ≡ 0
unfolding at_start
start_zero k l h =
    let e : length starts + (k - words) ≡ k = rw starts_length (omega arith) in
    rw (← e) (get_or-append-add starts (replicate (unit_size - words) 0) (k - words) 0
    ∙ get_or-replicate (unit_size - words) (k - words) 0 0 (omega arith))

-- the words below a slot are the start's
pub record Filled (unit : List ℕ) (slot : ℕ) : Type 0 where
  pub long : length unit ≡ unit_size
  pub done : (k : ℕ) → k < slot → get_or unit k 0 ≡ get_or at_start k 0

pub filled_none : (unit : List ℕ) → length unit ≡ unit_size → Filled unit 0
filled_none unit e = record { long = e; done = λ k h. absurd (not-suc-le-zero h) }

pub filled_more : (unit : List ℕ) (slot v : ℕ) → slot < unit_size → Filled unit slot → v ≡ get_or at_start slot 0 → Filled (set unit slot v) (slot + 1)
filled_more unit slot v h filled e =
    record {
      long = simp length-set filled.long;
      done = below_more (λ k. get_or (set unit slot v) k 0 ≡ get_or at_start k 0) slot
          (λ k l. get_or-set_other unit slot k v 0 (λ q. omega arith) ∙ filled.done k l)
          (get_or-set_same unit slot v 0 (rw filled.long h) ∙ e);
    }

pub filled_whole : (unit : List ℕ) (slot : ℕ) → unit_size ≤ slot → Filled unit slot → unit ≡ at_start
filled_whole unit slot l filled =
    ext_get_or 0 unit at_start (filled.long ∙ sym start_length) (λ k h. let below : k < unit_size = rw filled.long at h in filled.done k (omega arith))
