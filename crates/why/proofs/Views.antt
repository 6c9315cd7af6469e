-- A pair names a block, or what no block makes.
-- Assumes nothing.
use Prim.Native.Nat.{ℕ, ◌+◌, ◌-◌, ◌*◌, ◌/◌, ◌%◌, ◌<◌}
use mathlib.Core.Bool.{Bool, true, false}
use mathlib.Core.List.{List, []}
use mathlib.Core.Logic.{◌⊎◌, inl, inr}
use mathlib.Core.Path.{◌≡◌, refl, sym, ap, ◌∙◌}
use native.Mathlib.Omega.{arith}
use borrow.Author.Tests.{eqb-true, eqb-false, ltb-true, ltb-false}
use lib.Dec.{eqb, ltb, lit<}
use lib.ListN.{get_or}
use Rattle.numbers.specs.Choice.{first}
use Rattle.numbers.specs.Signed.{signed16}
use Rattle.signals.specs.Signal.{is_error}
use Rattle.signals.specs.Words.{real_of}
use Rattle.signals.specs.declared.signal.Signal.TheVariants.{Whole, Real, Absent}
use Rattle.dictionary.specs.Names.{slot_of}
use Rattle.unit.specs.Entry.{entry, whole, real}
use Rattle.unit.specs.Extent.{extent}
use Rattle.unit.specs.Held.{inputs, maths, tables, logics, blocks, at_row}
use Rattle.unit.specs.Sources.{sourced}
use Rattle.unit.proofs.sources.SourceLaws.{Nothing, names_nothing, received, constants, in_row}
use Rattle.controller.proofs.Seen.{ec_unpublished, constant_unpublished}
use Rattle.controller.specs.TickLaws.{Unpublished}
use Rattle.controller.specs.Turns.{row_of}
use Rattle.why.specs.Answer.{signal}
use Rattle.why.specs.Seen.{among, block_of}
use Rattle.unit.specs.declared.pairs.Pair.{Pair}

-- two units that agree in what no block publishes
abbrev pub Alike : List ℕ → List ℕ → Type 0
Alike u v = (slot : ℕ) → Unpublished slot → get_or u slot 0 ≡ get_or v slot 0

pub data View (p : Pair) : Type 0 where
  other : block_of p ≡ blocks → ((u : List ℕ) → is_error (signal u p) ≡ false) → ((u v : List ℕ) → Alike u v → signal u p ≡ signal v p) → View p
  block : block_of p < blocks → block_of p ≡ row_of p.source p.number → ((u : List ℕ) → signal u p ≡ at_row u (block_of p)) → View p

-- a pair whose number its source does not have
unnamed : (p : Pair) → block_of p ≡ blocks → Nothing (extent p.source % 16) p.number → View p
unfolding signal
unnamed p is n =
    let none : (u : List ℕ) → sourced u p.source p.number ≡ Absent = λ u. names_nothing u p.source p.number n in
    other is (λ u. ap is_error (none u)) (λ u v alike. none u ∙ sym (none v))

-- a pair of one of the four kinds of blocks
of_kind : (p : Pair) (start count : ℕ) → block_of p ≡ among start count p.number → extent p.source ≡ 16 * start + count → count < 16 → (p.source ≡ 1 → ⊥) → (p.source ≡ 6 → ⊥) → View p
unfolding among row_of signal first
of_kind p start count is has few no-ec no-constant = by (eqb p.number 0) refl (ltb count p.number) refl
  where
    by : (a : Bool) → eqb p.number 0 ≡ a → (b : Bool) → ltb count p.number ≡ b → View p
    by true e b f = unnamed p (is ∙ rw e) (inl (eqb-true p.number 0 e))
    by false e true f = let beyond = ltb-true count p.number f in unnamed p (is ∙ rw (e, f)) (inr (omega (arith, has)))
    by false e false f =
        let low : 0 < p.number = let k = eqb-false p.number 0 e in omega (arith, k) in
        let most = ltb-false count p.number f in
        let there : (u : List ℕ) → let row = extent p.source / 16 + p.number - 1 in (row < 16) × (sourced u p.source p.number ≡ at_row u row)
        = λ u. in_row u p.source p.number low (omega (arith, has)) no-ec no-constant in
        let row : block_of p ≡ extent p.source / 16 + p.number - 1 = is ∙ rw (e, f) (omega (arith, has)) in
        let inside = (there []).0 in
        block (omega arith) row (λ u. (there u).1 ∙ ap (at_row u) (sym row))

-- a pair of no block: an EC value, a constant or nothing
of_none : (p : Pair) → block_of p ≡ blocks → (extent p.source ≡ 0) ⊎ ((p.source ≡ 1) ⊎ (p.source ≡ 6)) → View p
unfolding signal extent first whole real entry
of_none p is (inl has) = by (eqb p.number 0) refl
  where
    by : (a : Bool) → eqb p.number 0 ≡ a → View p
    by true e = unnamed p is (inl (eqb-true p.number 0 e))
    by false e = let k = eqb-false p.number 0 e in unnamed p is (inr (omega (arith, has, k)))
of_none p is (inr kind) = by (eqb p.number 0) refl (ltb (extent p.source % 16) p.number) refl kind
  where
    by : (a : Bool) → eqb p.number 0 ≡ a → (b : Bool) → ltb (extent p.source % 16) p.number ≡ b → (p.source ≡ 1) ⊎ (p.source ≡ 6) → View p
    by true e b f kind = unnamed p is (inl (eqb-true p.number 0 e))
    by false e true f kind = unnamed p is (inr (ltb-true (extent p.source % 16) p.number f))
    by false e false f (inl ec) =
        let low : 0 < p.number = let k = eqb-false p.number 0 e in omega (arith, k) in
        let high = ltb-false (extent p.source % 16) p.number f in
        let value : (u : List ℕ) → sourced u p.source p.number ≡ Whole (whole u 0x2500 p.number) = λ u. received u p.source p.number low high ec in
        other is (λ u. ap is_error (value u))
        (λ u v alike. value u ∙ ap (λ (w : ℕ). Whole (signed16 w)) (alike (slot_of 0x2500 p.number) (ec_unpublished p.number low (rw ec at high))) ∙ sym (value v))
    by false e false f (inr constant) =
        let low : 0 < p.number = let k = eqb-false p.number 0 e in omega (arith, k) in
        let high = ltb-false (extent p.source % 16) p.number f in
        let value : (u : List ℕ) → sourced u p.source p.number ≡ Real (real u 0x5010 p.number) = λ u. constants u p.source p.number low high constant in
        other is (λ u. ap is_error (value u))
        (λ u v alike. value u ∙ ap (λ (w : ℕ). Real (real_of w)) (alike (slot_of 0x5010 p.number) (constant_unpublished p.number low (rw constant at high))) ∙ sym (value v))

pub view : (p : Pair) → View p
unfolding block_of extent first
view p = by (eqb s 2) refl (eqb s 3) refl (eqb s 4) refl (eqb s 5) refl (eqb s 1) refl (eqb s 6) refl
  where
    s : ℕ
    s = p.source

    kind : (n start count : ℕ) → s ≡ n → block_of p ≡ among start count p.number → extent n ≡ 16 * start + count → count < 16 → (n ≡ 1 → ⊥) → (n ≡ 6 → ⊥) → View p
    kind n start count e is has few no-ec no-constant = of_kind p start count is (ap extent e ∙ has) few (λ q. no-ec (sym e ∙ q)) (λ q. no-constant (sym e ∙ q))

    by : (a : Bool) → eqb s 2 ≡ a → (b : Bool) → eqb s 3 ≡ b → (c : Bool) → eqb s 4 ≡ c → (d : Bool) → eqb s 5 ≡ d → (e : Bool) → eqb s 1 ≡ e → (f : Bool) → eqb s 6 ≡ f → View p
    by true a b _ c _ d _ e _ f _ = kind 2 inputs 4 (eqb-true s 2 a) (rw a) refl (lit< tt) (λ q. omega arith) (λ q. omega arith)
    by false a true b c _ d _ e _ f _ = kind 3 tables 6 (eqb-true s 3 b) (rw (a, b)) refl (lit< tt) (λ q. omega arith) (λ q. omega arith)
    by false a false b true c d _ e _ f _ = kind 4 logics 2 (eqb-true s 4 c) (rw (a, b, c)) refl (lit< tt) (λ q. omega arith) (λ q. omega arith)
    by false a false b false c true d e _ f _ = kind 5 maths 4 (eqb-true s 5 d) (rw (a, b, c, d)) refl (lit< tt) (λ q. omega arith) (λ q. omega arith)
    by false a false b false c false d true e f _ = of_none p (rw (a, b, c, d)) (inr (inl (eqb-true s 1 e)))
    by false a false b false c false d false e true f = of_none p (rw (a, b, c, d)) (inr (inr (eqb-true s 6 f)))
    by false a false b false c false d false e false f = of_none p (rw (a, b, c, d)) (inl (rw (a, b, c, d, e, f)))

-- only a block is ever in error
pub error_block : (u : List ℕ) (p : Pair) → is_error (signal u p) ≡ true → block_of p < blocks
error_block u p e = by (view p) where
  by : View p → block_of p < blocks
  by (other none right same) = let z : ◌≡◌ {A = Bool} true false = sym e ∙ right u in absurd (no z)
    where
      no : true ≡ false → ⊥
      no q = let z : ◌≡◌ {A = ℕ} 0 1 = cc in omega arith
  by (block low row is) = low
