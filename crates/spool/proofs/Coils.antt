-- The promises of one tick's interlock: what the tests of the definition tell, and then by cases.
-- Assumes nothing.
use mathlib.Core.Bool.{Bool, true, false, not, ◌&&◌, ◌||◌, true≢false}
use mathlib.Core.Logic.{◌⊎◌, inl, inr}
use mathlib.Core.Path.{◌≡◌, refl, sym, ap, ◌∙◌, subst}
use borrow.Author.Tests.{eqb-true}
use lib.IntN.{ℤ, pos, negsuc}
use lib.Signed.{<ℤ_irrefl}
use Rattle.numbers.specs.Choice.{first}
use Rattle.numbers.proofs.Orders.{lt_is_below, below_is_lt}
use Rattle.spool.specs.Interlock.{coil_1, coil_2, asks, rested, waits, loses, sent_1, sent_2, interlocked}
use Rattle.spool.specs.Coils.{one, two, other, of, Above0, At0, Loses, Holds, Obeys, EachObeys, OnlyAfter0, NeverBoth}

-- ---- the two tests

pub rested_is : (s : ℤ) → rested s ≡ true → At0 s
unfolding rested
rested_is (pos n) e = ap pos (eqb-true n 0 e)
rested_is (negsuc n) e = absurd (true≢false (sym e))

pub is_rested : (s : ℤ) → At0 s → rested s ≡ true
unfolding rested
is_rested s e = rw e

asks_is : (c : ℤ) → asks c ≡ true → Above0 c
unfolding asks
asks_is c e = below_is_lt (pos 0) c e

is_asking : {c : ℤ} → Above0 c → asks c ≡ true
unfolding asks
is_asking h = lt_is_below h

-- a number above 0 is not 0
pub above_not_0 : {n : ℤ} → Above0 n → At0 n → ⊥
above_not_0 h e = <ℤ_irrefl (subst Above0 e h)

-- a coil that was not sent 0
not_rested : (s : ℤ) → (At0 s → ⊥) → not (rested s) ≡ true
not_rested s n = by (rested s) refl
  where
    by : (t : Bool) → rested s ≡ t → not t ≡ true
    by true e = absurd (n (rested_is s e))
    by false e = refl

-- ---- one coil, by the test that holds it where it asks

module _ {Held : Type 0} (c : ℤ) (t : Bool) (holds : Above0 c → t ≡ true → Held) (asking : Held → Above0 c) (tested : Held → t ≡ true) where
  obeys : Obeys Held c (first (asks c && t) (pos 0) c)
  unfolding first
  obeys = by (asks c) refl t refl
    where
      unheld : (asks c && t) ≡ false → Held → ⊥
      unheld e h = true≢false (sym (tested h) ∙ sym (ap (λ (a : Bool). a && t) (is_asking (asking h))) ∙ e)

      free : (Held → ⊥) → Obeys Held c c
      free n = record { held = λ h. absurd (n h); only_held = λ h z. absurd (above_not_0 h z); free = λ m. refl; only_free = λ z. n }

      by : (a : Bool) → asks c ≡ a → (b : Bool) → t ≡ b → Obeys Held c (first (a && b) (pos 0) c)
      by true q true e =
          let h = holds (asks_is c q) e in
          record { held = λ h. refl; only_held = λ a z. h; free = λ n. absurd (n h); only_free = λ z h. above_not_0 (asks_is c q) (sym z) }
      by true q false e = free (unheld (rw (q, e)))
      by false q b e = free (unheld (rw q))

-- ---- the two coils

together : (a b x y z : Bool) → ((a && x) || (b && a && y && z)) ≡ (a && (x || (b && y && z)))
together true true x y z = refl
together true false x y z = refl
together false true x y z = refl
together false false x y z = refl

pub each_obeys : EachObeys
unfolding interlocked coil_1 coil_2 sent_1 sent_2 waits loses
each_obeys one commands sent =
    obeys (coil_1 commands) (not (rested (coil_2 sent))) (λ a e. (a, inl (λ z. true≢false (sym e ∙ ap not (is_rested (coil_2 sent) z))))) (λ h. h.0) tested
  where
    tested : Holds one commands sent → not (rested (coil_2 sent)) ≡ true
    tested (a, inl n) = not_rested (coil_2 sent) n
    tested (a, inr l) = absurd l
each_obeys two commands sent =
    rw (together (asks (coil_2 commands)) (asks (coil_1 commands)) (not (rested (coil_1 sent))) (rested (coil_1 sent)) (rested (coil_2 sent)))
    (obeys (coil_2 commands) (not (rested (coil_1 sent)) || (asks (coil_1 commands) && rested (coil_1 sent) && rested (coil_2 sent)))
    (λ a e. (a, holds (asks (coil_1 commands)) refl (rested (coil_1 sent)) refl (rested (coil_2 sent)) refl e)) (λ h. h.0) tested)
  where
    holds : (a : Bool) → asks (coil_1 commands) ≡ a → (x : Bool) → rested (coil_1 sent) ≡ x → (y : Bool) → rested (coil_2 sent) ≡ y
        → (not x || (a && x && y)) ≡ true → (At0 (coil_1 sent) → ⊥) ⊎ Loses two commands sent
    holds a p false q y r e = inl (λ z. true≢false (sym (is_rested (coil_1 sent) z) ∙ q))
    holds true p true q true r e = inr (asks_is (coil_1 commands) p, (rested_is (coil_1 sent) q, rested_is (coil_2 sent) r))
    holds true p true q false r e = absurd (true≢false (sym e))
    holds false p true q y r e = absurd (true≢false (sym e))

    tested : Holds two commands sent → (not (rested (coil_1 sent)) || (asks (coil_1 commands) && rested (coil_1 sent) && rested (coil_2 sent))) ≡ true
    tested (a, inl n) = rw (not_rested (coil_1 sent) n)
    tested (a, inr l) = rw (is_asking l.0, is_rested (coil_1 sent) l.1.0, is_rested (coil_2 sent) l.1.1)

-- ---- never both

-- a coil that goes above 0 is not held, so the other was sent 0
pub only_after_0 : OnlyAfter0
only_after_0 coil commands sent a = by (rested (of (other coil) sent)) refl
  where
    o : Obeys (Holds coil commands sent) (of coil commands) (of coil (interlocked commands sent))
    o = each_obeys coil commands sent

    unheld : Holds coil commands sent → ⊥
    unheld h = above_not_0 a (o.held h)

    by : (t : Bool) → rested (of (other coil) sent) ≡ t → At0 (of (other coil) sent)
    by true e = rested_is (of (other coil) sent) e
    by false e = absurd (unheld (subst Above0 (o.free unheld) a, inl (λ z. true≢false (sym (is_rested (of (other coil) sent) z) ∙ e))))

-- both above 0: both were sent 0, and coil 2 lost
pub never_both : NeverBoth
never_both commands sent a b =
    let first = each_obeys one commands sent in
    let asking = subst Above0 (first.free (λ h. above_not_0 a (first.held h))) a in
    let second = each_obeys two commands sent in
    let asks-too = subst Above0 (second.free (λ h. above_not_0 b (second.held h))) b in
    above_not_0 b (second.held (asks-too, inr (asking, (only_after_0 two commands sent b, only_after_0 one commands sent a))))
