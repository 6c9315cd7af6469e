-- What events cost: no event makes more than one entry alike, and only an accepted write of that entry does.
-- Assumes nothing.
use mathlib.Core.Path.{◌≡◌, refl}
use mathlib.Core.List.{List, [], ◌∷◌}
use Prim.Native.Nat.{ℕ, ◌+◌, ◌≤◌}
use native.Mathlib.Omega.{arith}
use lib.ListN.{set, take}
use Rattle.dictionary.specs.Names.{configured}
use Rattle.dictionary.specs.Unit.{unticked}
use Rattle.sdo.specs.Answers.{answer}
use Rattle.sdo.specs.declared.types.Done.TheVariants.{Value, Written}
use Rattle.sdo.specs.Served.{after}
use Rattle.controller.specs.Tick.{ticked}
use Rattle.sending.specs.Sending.{sends, total}
use Rattle.sending.proofs.Weights.{weight, sends_weight, weight_none, weight_same, weight_step}
use Rattle.promises.specs.Running.{Event, frame, tick, load, happens, run}
use Rattle.promises.specs.Restoring.{writes, FramesAndTicks}
use Rattle.promises.proofs.Forgetting.{front_forgotten}
use Rattle.promises.proofs.Running.{kept_by_tick}
use Rattle.promises.proofs.Underway.{front_is}
use Rattle.sdo.specs.Frames.{Answer}
use Rattle.std.specs.Prelude.{Some, None, Ok, Err}

-- an accepted write is worth at least what its slot weighs
module _ (f : ℕ → ℕ) (worth : Answer → ℕ) (enough : (slot word : ℕ) → f slot ≤ worth (Some (Ok (Written slot word)))) where
  by_answer : (unit wanted : List ℕ) (a : Answer) → weight f unit wanted ≤ worth a + weight f (after unit a) wanted
  unfolding after
  by_answer unit wanted None = omega arith
  by_answer unit wanted (Some (Err x)) = omega arith
  by_answer unit wanted (Some (Ok (Value w n))) = omega arith
  by_answer unit wanted (Some (Ok (Written slot word))) =
      let stored = set unit slot word in
      omega (arith, enough slot word, weight_step f unit wanted slot word, weight_same f (unticked stored) wanted stored wanted (front_forgotten stored) (λ k h. refl))

  spent : (events : List Event) → FramesAndTicks events → (unit wanted : List ℕ) → weight f unit wanted ≤ writes worth events unit + weight f (run events unit) wanted
  unfolding writes run happens
  spent [] only unit wanted = omega arith
  spent (frame g room ∷ es) only unit wanted =
      omega (arith, by_answer unit wanted (answer unit g room), spent es only (happens (frame g room) unit) wanted)
  spent (tick samples ∷ es) only unit wanted =
      omega (
        arith,
        weight_same f (ticked samples unit) wanted unit wanted (kept_by_tick samples unit) (λ k h. refl),
        spent es only (happens (tick samples) unit) wanted,
      )
  spent (load image ∷ es) only unit wanted = absurd only

  -- so what takes a unit from one configuration to another is worth at least what is sent between them
  pub paid : (a b unit : List ℕ) (events : List Event) → FramesAndTicks events → take configured unit ≡ a → take configured (run events unit) ≡ b → total f (sends a b) ≤ writes worth events unit
  paid a b unit events only first last =
      omega (
        arith,
        sends_weight f a b,
        weight_same f unit b a b (front_is unit first) (λ k h. refl),
        spent events only unit b,
        weight_none f (run events unit) b (front_is (run events unit) last),
      )
