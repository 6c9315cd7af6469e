-- The bytes of an answer, put one after the other.
-- Assumes nothing.
use Prim.Native.Nat.{ℕ, suc, ◌+◌, ◌*◌, ◌<◌}
use mathlib.Core.Bool.{true, false}
use mathlib.Core.List.{List, [], ◌∷◌, append-nil}
use mathlib.Core.Path.{◌≡◌, refl, sym, ap, ◌∙◌}
use native.Mathlib.Omega.{arith}
use lib.Dec.{lit<}
use lib.ListN.{length, set}
use lib.Seq.{sets, set_comm}
use Rattle.numbers.specs.Choice.{first}
use Rattle.octets.specs.Little.{bytes}
use Rattle.octets.proofs.little.Parts.{sets_append}
use Rattle.signals.specs.Signal.{is_error}
use Rattle.signals.specs.Words.{kind_of}
use Rattle.signals.specs.declared.signal.Signal.{Signal}
use Rattle.signals.specs.declared.signal.Signal.TheVariants.{Whole, Real, Error, Absent}
use Rattle.why.specs.Answer.{end_number, value, pairs, trail_bytes, signal, signal_bytes, decided, Followed}
use Rattle.why.specs.Trail.{trail}
use Rattle.unit.specs.declared.pairs.Pair.{Pair}
use Rattle.why.specs.declared.types.Walked.{Walked}

pub kind_small : (s : Signal) {kind : ℕ} → kind ≡ kind_of s → kind < 256
unfolding kind_of
kind_small (Whole v) e = omega arith
kind_small (Real x) e = omega arith
kind_small Error e = omega arith
kind_small Absent e = omega arith

-- ---- the count, which is put last and stands first

before_all : (l : List ℕ) (i j v : ℕ) (xs : List ℕ) → i < j → set (sets l j xs) i v ≡ sets (set l i v) j xs
before_all l i j v [] h = refl
before_all l i j v (x ∷ xs) h = before_all (set l j x) i (suc j) v xs (omega arith) ∙ ap (λ (m : List ℕ). sets m (suc j) xs) (set_comm l j i x v (λ e. omega arith))

pub twice : (ps : List Pair) → length (pairs ps) ≡ 2 * length ps
unfolding pairs
twice [] = refl
twice (p ∷ ps) = omega (arith, twice ps)

pub trail_put : (unit : List ℕ) (p : Pair) {l l₁ l₂ l₃ : List ℕ} {r : Walked} {last : ℕ} → Followed unit p l l₁ r → last ≡ end_number r.end → l₂ ≡ sets l₁ 7 (r.count ∷ []) → l₃ ≡ sets l₂ (8 + 2 * r.count) (last ∷ [])
    → l₃ ≡ sets l 7 (trail_bytes (trail unit p))
unfolding trail_bytes
trail_put unit p {l} {l₁} {l₂} {l₃} {r} {last} f told count end =
    let t = trail unit p in
    let ps = pairs t.steps in
    let e = end_number t.end in
    let c = length t.steps in
    let place : 8 + 2 * r.count ≡ 8 + length ps = omega (arith, twice t.steps, f.count) in
    end
    ∙ ap (λ (n : ℕ). sets l₂ n (last ∷ [])) place
    ∙ ap (λ (n : ℕ). sets l₂ (8 + length ps) (n ∷ [])) (told ∙ ap end_number f.end)
    ∙ ap (λ (m : List ℕ). sets m (8 + length ps) (e ∷ [])) (count ∙ ap (λ (n : ℕ). sets l₁ 7 (n ∷ [])) f.count ∙ ap (λ (m : List ℕ). set m 7 c) f.bytes ∙ before_all l 7 8 c ps (lit< tt))
    ∙ sym (sets_append ps (e ∷ []) (set l 7 c) 8)

-- ---- the deciding signal, and its trail behind it

module _ (unit : List ℕ) (p : Pair) (l : List ℕ) {l₁ front : List ℕ} {s : Signal} {kind word : ℕ} (is : s ≡ signal unit p) (k : kind ≡ kind_of s) (w : word ≡ value s)
    (all : front ≡ p.source ∷ p.number ∷ kind ∷ bytes 4 word) (put : l₁ ≡ sets l 0 front) where
  head : l₁ ≡ sets l 0 (p.source ∷ p.number ∷ kind_of s ∷ bytes 4 (value s))
  head = rw (← k, ← w) (put ∙ ap (sets l 0) all)

  pub with_trail : is_error s ≡ true → {l₂ : List ℕ} → l₂ ≡ sets l₁ 7 (trail_bytes (trail unit p)) → l₂ ≡ sets l 0 (decided unit p)
  unfolding decided signal_bytes first bytes
  with_trail wrong behind =
      behind ∙ ap (λ (m : List ℕ). sets m 7 (trail_bytes (trail unit p))) head
      ∙ sym (sets_append (p.source ∷ p.number ∷ kind_of s ∷ bytes 4 (value s)) (trail_bytes (trail unit p)) l 0)
      ∙ rw (← is, wrong)

  pub alone : is_error s ≡ false → l₁ ≡ sets l 0 (decided unit p)
  unfolding decided signal_bytes first
  alone right = head ∙ rw (← is, right) (ap (λ (b : List ℕ). sets l 0 (p.source ∷ p.number ∷ kind_of s ∷ b)) (sym (append-nil (bytes 4 (value s)))))
