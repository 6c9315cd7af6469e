-- The configuration before each turn of a restore list, from one that may stand to another: it may stand too.
-- Assumes nothing.
use mathlib.Core.Path.{◌≡◌, refl, ap, ◌∙◌}
use mathlib.Core.Bool.{Bool, true, false, not}
use mathlib.Core.List.{List}
use Prim.Native.Nat.{ℕ, suc, ◌+◌, ◌-◌, ◌^◌, ◌<◌, ◌≤◌}
use native.Mathlib.Omega.{arith}
use lib.Dec.{ltb}
use lib.IntN.{ℤ}
use lib.ListN.{get_or}
use borrow.Author.Tests.{ltb-true, ltb-false, not-false}
use Rattle.numbers.specs.Choice.{first}
use Rattle.numbers.specs.Order.{below}
use Rattle.numbers.specs.Signed.{signed16}
use Rattle.numbers.proofs.Choices.{chosen}
use Rattle.numbers.proofs.Differences.{plus_part, minus_part, parts, above, not_above, is_below, is_not_below}
use Rattle.dictionary.specs.Names.{configured}
use Rattle.dictionary.specs.Rows.{width}
use Rattle.roles.specs.Chains.{upper_of}
use Rattle.roles.specs.Values.{range_of}
use Rattle.entries.specs.Judge.{in_range, held, past_upper}
use Rattle.entries.specs.Valid.{Valid}
use Rattle.roles.specs.declared.types.Link.{Link}
use Rattle.roles.specs.declared.types.Link.TheVariants.{Free, Loose, Strict}
use Rattle.std.specs.Prelude.{Ok}
use Rattle.entries.proofs.Neighbours.{near, another, is_another, upper_another}
use Rattle.sending.specs.Sending.{grows}
use Rattle.sending.proofs.Agenda.{place, turn_of, place_inside, further}

-- a number and so much more is at most another; the parts of a whole number are its own and its opposite's
pub record Room (gap : ℕ) (v w : ℤ) : Type 0 where
  pub fits : plus_part v + minus_part w + gap ≤ plus_part w + minus_part v

-- ---- two neighbours: the lower one's numbers v and then v', the upper one's w and then w'

module _ (gap p q n t : ℕ) (v v' w w' : ℤ) (l : p < q) (h : q < n) (old : Room gap v w) (new : Room gap v' w') where
  -- whether each rises, and whether its turn is past
  blended : (r s x y : Bool) → below v v' ≡ r → below w w' ≡ s
      → ltb (first r (n - suc p) (n + p)) t ≡ x → ltb (first s (n - suc q) (n + q)) t ≡ y → Room gap (first x v' v) (first y w' w)
  unfolding first
  blended r s true true e f c d = new
  blended r s false false e f c d = old
  blended false s true false e f c d = let g = not_above (parts v) (parts v') e in record { fits = omega arith }
  blended true false true false e f c d = let g = not_above (parts w) (parts w') f in record { fits = omega arith }
  blended true true true false e f c d = let i = ltb-true (n - suc p) t c in let j = ltb-false (n - suc q) t d in record { fits = omega arith }
  blended r true false true e f c d = let g = above (parts w) (parts w') f in record { fits = omega arith }
  blended true false false true e f c d = let g = above (parts v) (parts v') e in record { fits = omega arith }
  blended false false false true e f c d = let i = ltb-false (n + p) t c in let j = ltb-true (n + q) t d in record { fits = omega arith }

-- ---- room is what a link asks for

loose_room : (v w : ℤ) → below w v ≡ false → Room 0 v w
loose_room v w e = let g = not_above (parts w) (parts v) e in record { fits = omega arith }

room_loose : (v w : ℤ) → Room 0 v w → below w v ≡ false
room_loose v w r = is_not_below (parts w) (parts v) (omega (arith, r.fits))

strict_room : (v w : ℤ) → not (below v w) ≡ false → Room 1 v w
strict_room v w e = let g = above (parts v) (parts w) (not-false (below v w) e) in record { fits = omega arith }

room_strict : (v w : ℤ) → Room 1 v w → not (below v w) ≡ false
room_strict v w r = ap not (is_below (parts v) (parts w) (omega (arith, r.fits)))

under : {A B : Type 0} (f : A → B) (x : Bool) (y z : A) → f (first x y z) ≡ first x (f y) (f z)
unfolding first
under f true y z = refl
under f false y z = refl

-- ---- the configuration before a turn: the second one's words where the turn is past, else the first one's

module _ (a b : List ℕ) where
  unfoldable pub due : ℕ → ℕ
  due k = turn_of (grows a b k) k

  unfoldable pub stage : ℕ → ℕ → ℕ
  stage t k = first (ltb (due k) t) (get_or b k 0) (get_or a k 0)

  pub stage_in : (P : ℕ → Type 0) (t k : ℕ) → P (get_or a k 0) → P (get_or b k 0) → P (stage t k)
  unfolding stage
  stage_in P t k old new = chosen P (ltb (due k) t) (get_or b k 0) (get_or a k 0) (λ e. new) (λ e. old)

  -- the words are those before a turn
  abbrev pub Stands : ℕ → List ℕ → Type 0
  Stands t words = (k : ℕ) → k < configured → get_or words k 0 ≡ stage t k

  module _ (words : List ℕ) (t : ℕ) (now : Stands t words) where
    held_at : (k : ℕ) → k < configured → held words k ≡ first (ltb (due k) t) (held b k) (held a k)
    unfolding held stage
    held_at k h = ap signed16 (now k h) ∙ under signed16 (ltb (due k) t) (get_or b k 0) (get_or a k 0)

    room_at : (gap k u : ℕ) → k < configured → u < configured → ltb (place k) (place u) ≡ true
        → Room gap (held a k) (held a u) → Room gap (held b k) (held b u) → Room gap (held words k) (held words u)
    unfolding due turn_of grows
    room_at gap k u h i f old new =
        rw (held_at k h, held_at u i)
        (blended gap (place k) (place u) configured t (held a k) (held b k) (held a u) (held b u)
        (ltb-true (place k) (place u) f) (place_inside u i) old new (grows a b k) (grows a b u)
        (ltb (due k) t) (ltb (due u) t) refl refl refl refl)

    link_at : (k : ℕ) (link : Link) → k < configured → near (another k) link ≡ true → near (λ u. ltb (place k) (place u)) link ≡ true
        → past_upper a link (held a k) ≡ false → past_upper b link (held b k) ≡ false → past_upper words link (held words k) ≡ false
    unfolding near past_upper
    link_at k Free h i f old new = refl
    link_at k (Loose u) h i f old new =
        room_loose (held words k) (held words u)
        (room_at 0 k u h (is_another k u i).0 f (loose_room (held a k) (held a u) old) (loose_room (held b k) (held b u) new))
    link_at k (Strict u) h i f old new =
        room_strict (held words k) (held words u)
        (room_at 1 k u h (is_another k u i).0 f (strict_room (held a k) (held a u) old) (strict_room (held b k) (held b u) new))

    pub stage_valid : Valid a → Valid b → Valid words
    stage_valid v w =
        record {
          sized = λ k h. rw (now k h) (stage_in (λ x. x < 256 ^ width (range_of k).kind) t k (v.sized k h) (w.sized k h));
          ranged = λ k h. rw (now k h) (stage_in (λ x. in_range (range_of k) x ≡ Ok tt) t k (v.ranged k h) (w.ranged k h));
          linked = λ k h. link_at k (upper_of k) h (upper_another k h) (further k h) (v.linked k h) (w.linked k h);
        }
