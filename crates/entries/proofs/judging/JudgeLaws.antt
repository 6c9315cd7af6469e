-- What the parts of a judgement come to.
-- Assumes nothing.
use mathlib.Core.Path.{◌≡◌, sym, ap, ◌∙◌}
use mathlib.Core.Bool.{Bool, true, false, not}
use mathlib.Core.List.{List}
use Prim.Native.Nat.{ℕ}
use lib.IntN.{ℤ}
use lib.ListN.{get_or}
use lib.Signed.{lt_z}
use mir.Syntax.{w16}
use mir.Val.{SFits, to_z, of_z}
use mir.Facts.{to_z-of_z}
use Rattle.std.specs.Prelude.{Result, Ok, Err, ⊤}
use Rattle.std.specs.Result.{result_and}
use Rattle.numbers.specs.Choice.{first}
use Rattle.numbers.specs.Order.{below}
use Rattle.numbers.specs.Signed.{signed16}
use Rattle.roles.specs.Chains.{upper_of, lower_of}
use Rattle.roles.specs.Roles.{Holding, ranged, said, holding, Told}
use Rattle.entries.specs.Judge.{in_range, held, past_upper, past_lower, in_order, judged}
use Rattle.roles.specs.declared.types.Role.{Role}
use Rattle.roles.specs.declared.types.Link.{Link}
use Rattle.roles.specs.declared.types.Link.TheVariants.{Loose, Strict}
use Rattle.entries.specs.declared.types.Fault.{Fault}
use Rattle.entries.specs.declared.types.Fault.TheVariants.{ChainUp, ChainDown}

-- ---- the chain: a neighbour's word, its number r, and the comparison that the code makes

module _ (words : List ℕ) (link : Link) (slot word : ℕ) (r v : ℤ) (read : word ≡ get_or words slot 0) (is : r ≡ signed16 word) (fr : SFits w16 r) (fv : SFits w16 v) where
  same : held words slot ≡ r
  unfolding held
  same = ap signed16 (sym read) ∙ sym is

  pub up_loose : link ≡ Loose slot → lt_z (to_z w16 (of_z w16 r)) (to_z w16 (of_z w16 v)) ≡ past_upper words link v
  unfolding past_upper below
  up_loose e = rw (e, to_z-of_z fr, to_z-of_z fv, same)

  pub up_strict : link ≡ Strict slot → not (lt_z (to_z w16 (of_z w16 v)) (to_z w16 (of_z w16 r))) ≡ past_upper words link v
  unfolding past_upper below
  up_strict e = rw (e, to_z-of_z fr, to_z-of_z fv, same)

  pub down_loose : link ≡ Loose slot → lt_z (to_z w16 (of_z w16 v)) (to_z w16 (of_z w16 r)) ≡ past_lower words link v
  unfolding past_lower below
  down_loose e = rw (e, to_z-of_z fr, to_z-of_z fv, same)

  pub down_strict : link ≡ Strict slot → not (lt_z (to_z w16 (of_z w16 r)) (to_z w16 (of_z w16 v))) ≡ past_lower words link v
  unfolding past_lower below
  down_strict e = rw (e, to_z-of_z fr, to_z-of_z fv, same)

module _ (words : List ℕ) (slot word : ℕ) (v : ℤ) (is : v ≡ signed16 word) (fv : SFits w16 v) (up : Link) (above : up ≡ upper_of slot) (over : Bool) (o : over ≡ past_upper words up (to_z w16 (of_z w16 v))) where
  over_is : over ≡ past_upper words (upper_of slot) (signed16 word)
  over_is = o ∙ ap (past_upper words up) (to_z-of_z fv ∙ is) ∙ ap (λ (l : Link). past_upper words l (signed16 word)) above

  pub broken_up : over ≡ true → Err ChainUp ≡ in_order words slot word
  unfolding in_order first
  broken_up t = rw (← over_is, t)

  module _ (down : Link) (lower : down ≡ lower_of slot) (under : Bool) (u : under ≡ past_lower words down (to_z w16 (of_z w16 v))) where
    under_is : under ≡ past_lower words (lower_of slot) (signed16 word)
    under_is = u ∙ ap (past_lower words down) (to_z-of_z fv ∙ is) ∙ ap (λ (l : Link). past_lower words l (signed16 word)) lower

    pub broken_down : over ≡ false → under ≡ true → Err ChainDown ≡ in_order words slot word
    unfolding in_order first
    broken_down t s = rw (← over_is, t, ← under_is, s)

    pub unbroken : over ≡ false → under ≡ false → Ok tt ≡ in_order words slot word
    unfolding in_order first
    unbroken t s = rw (← over_is, t, ← under_is, s)

-- ---- both: the range decides unless it is good

pub by_own : (words : List ℕ) {role : Role} (slot word : ℕ) (own v : Result ⊤ Fault) → Told role slot → own ≡ in_range (ranged role) word → own ≡ v
    → result_and v (in_order words slot word) ≡ judged words slot word
unfolding judged said holding
by_own words slot word own v t o e =
    ap (λ (x : Result ⊤ Fault). result_and x (in_order words slot word)) (sym e ∙ o ∙ ap (λ (h : Holding). in_range h.range word) t.holds)
