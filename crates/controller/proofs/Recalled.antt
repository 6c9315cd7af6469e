-- What a tick keeps of the signals that it found, and that it leaves the unit ticked.
-- Assumes nothing.
use Prim.Native.Nat.{ℕ, zero, suc, ◌+◌, ◌-◌, ◌<◌, ◌≤◌}
use mathlib.Core.List.{List}
use mathlib.Core.Path.{◌≡◌, refl, sym, ap, ◌∙◌}
use native.Mathlib.Omega.{arith}
use lib.Dec.{lit≤}
use lib.IntN.{ℤ}
use lib.ListN.{length, get_or, set}
use lib.Seq.{get_or-set_same, set-get_or}
use Rattle.dictionary.specs.Names.{slot_of}
use Rattle.dictionary.specs.Unit.{signals_at, before_at, ticked_at, unit_size}
use Rattle.dictionary.proofs.Unticked.{signals_behind, signals_before, runs_before, flags_before, ramps_before, mark_behind, mark_inside}
use Rattle.dictionary.proofs.naming.NameLaws.{counted}
use Rattle.unit.specs.Each.{each}
use Rattle.unit.specs.Held.{place}
use Rattle.controller.specs.Register.{registered}
use Rattle.controller.specs.Tick.{recall, recalled, marked, ticked}
use Rattle.controller.specs.Turns.{at_turn}
use Rattle.controller.proofs.Kept.{Kept, stands, fixed_last, kept_last, register_first, same, all_keep, set_keeps, own_turn}
use Rattle.controller.proofs.Turns.{Spared, through, to_last, all_turns}

-- word k of the signals kept
module _ (k : ℕ) (h : k < 32) where
  -- no turn sets it
  spared : (j : ℕ) → Spared (before_at + k) j
  unfolding place
  spared j =
      record {
        unpublished = λ at p e. omega (arith, stands p, fixed_last, signals_behind, signals_before);
        memory = λ l. (λ e. omega (arith, runs_before), λ e. omega (arith, flags_before));
        signal = λ l. (λ e. omega (arith, signals_before), λ e. omega (arith, signals_before));
        ramp = λ l q w g e. omega (arith, ramps_before);
        unlisted = λ l. (λ e. omega (arith, kept_last, counted, signals_behind, signals_before), λ low high. omega (arith, fixed_last, signals_behind, signals_before));
      }

  no_register : before_at + k ≡ slot_of 0x1001 0 → ⊥
  no_register e = omega (arith, register_first, counted, signals_behind, signals_before)

  before_mark : before_at + k < ticked_at
  before_mark = omega (arith, mark_behind)

  module _ (unit : List ℕ) (size : length unit ≡ unit_size) where
    -- a signal's own word while others are kept
    found : Kept (signals_at + k) unit (each k recall unit)
    unfolding recall
    found = all_keep k recall (λ j l v. set_keeps v (before_at + (j + 1 - 1)) _ (λ e. omega (arith, signals_before))) same

    recalled_is : get_or (recalled unit) (before_at + k) 0 ≡ get_or unit (signals_at + k) 0
    unfolding recalled recall
    recalled_is =
        let u = each k recall unit in
        let e : k + 1 - 1 ≡ k = omega arith in
        (own_turn recall 32 k (λ j later g v. set_keeps v (before_at + (j + 1 - 1)) _ (λ q. omega arith)) unit 32 h (lit≤ tt)).word
        ∙ rw e (get_or-set_same u (before_at + k) (get_or u (signals_at + k) 0) 0 (omega (arith, found.size, mark_behind, mark_inside)))
        ∙ found.word

    pub kept_before : (samples : List ℤ) → get_or (ticked samples unit) (before_at + k) 0 ≡ get_or unit (signals_at + k) 0
    kept_before samples = (to_last samples unit no_register before_mark (through samples unit 20 (lit≤ tt) (λ j l. spared j))).word ∙ recalled_is

-- a unit that keeps the signals that it has is as it was
pub recalled_same : (unit : List ℕ) → ((k : ℕ) → k < 32 → get_or unit (signals_at + k) 0 ≡ get_or unit (before_at + k) 0) → recalled unit ≡ unit
unfolding recalled recall each
recalled_same unit alike = on 32 (lit≤ tt)
  where
    on : (n : ℕ) → n ≤ 32 → each n recall unit ≡ unit
    on zero h = refl
    on (suc n) h =
        ap (recall (suc n)) (on n (omega arith))
        ∙ ap (set unit (before_at + (suc n - 1))) (alike (suc n - 1) (omega arith))
        ∙ set-get_or unit (before_at + (suc n - 1)) 0

pub is_ticked : (samples : List ℤ) (unit : List ℕ) → length (ticked samples unit) ≡ unit_size → get_or (ticked samples unit) ticked_at 0 ≡ 1
unfolding marked
is_ticked samples unit size =
    let u = registered (at_turn samples unit 20) in
    ap (λ (v : List ℕ). get_or v ticked_at 0) (sym (all_turns samples unit))
    ∙ get_or-set_same u ticked_at 1 0 (omega (arith, mark_inside, ap length (all_turns samples unit) ∙ size, (set_keeps {slot = 0} u ticked_at 1 (λ e. omega (arith, mark_behind))).size))
