-- A restore list on its way into a unit: what is left of it, whatever calm events came between.
-- Assumes nothing.
use mathlib.Core.Path.{◌≡◌, refl, sym, ap, ◌∙◌}
use mathlib.Core.List.{List, [], ◌∷◌, ◌++◌, map}
use Prim.Native.Nat.{ℕ, ◌<◌, ◌≤◌}
use native.Mathlib.Omega.{arith}
use lib.ListN.{length, get_or, set, take}
use lib.Seq.{get_or-set_other, get_or-take, ext_get_or, length-take-le}
use Rattle.dictionary.specs.Names.{configured}
use Rattle.dictionary.specs.Unit.{unit_size, unticked}
use Rattle.entries.proofs.Configuration.{can_be_written, in_unit}
use Rattle.sdo.specs.Answers.{stored, answer}
use Rattle.entries.specs.declared.types.Fault.{Fault}
use Rattle.sdo.specs.declared.types.Done.TheVariants.{Value, Written}
use Rattle.sdo.specs.Served.{after}
use Rattle.image.specs.Loaded.{loaded}
use Rattle.image.specs.Reading.{reading, configuration_in}
use Rattle.sending.proofs.Underway as Sending
use Rattle.lists.specs.Changes.{changes, list_of}
use Rattle.promises.specs.Delivery.{frames_in}
use Rattle.promises.proofs.ListFrames.{frame_at, answered, list_frames}
use Rattle.controller.proofs.TickLaws as Tick
use Rattle.promises.specs.Running.{Event, frame, tick, load, happens}
use Rattle.promises.specs.Restoring.{Proper, Calm, Sent, Holds}
use Rattle.promises.proofs.Proper.{good}
use Rattle.promises.proofs.Forgetting.{front_forgotten, size_stored}
use Rattle.promises.proofs.Running.{sizes, all_words, kept_by_tick, size_by_load}
use Rattle.sdo.specs.Frames.{Answer}
use Rattle.std.specs.Prelude.{Some, None, Ok, Err, Result, ⊤}

-- ---- a calm event keeps the configuration's words

pub record Kept (unit unit' : List ℕ) : Type 0 where
  pub long : length unit' ≡ length unit
  pub same : (k : ℕ) → k < configured → get_or unit' k 0 ≡ get_or unit k 0

by_answer : (unit : List ℕ) (a : Answer) → ((slot word : ℕ) → a ≡ Some (Ok (Written slot word)) → configured ≤ slot) → Kept unit (after unit a)
unfolding after
by_answer unit None calm = record { long = refl; same = λ k h. refl }
by_answer unit (Some (Err x)) calm = record { long = refl; same = λ k h. refl }
by_answer unit (Some (Ok (Value w n))) calm = record { long = refl; same = λ k h. refl }
by_answer unit (Some (Ok (Written slot word))) calm =
    let far = calm slot word refl in
    record {
      long = size_stored unit slot word;
      same = λ k h. front_forgotten (set unit slot word) k h ∙ get_or-set_other unit slot k word 0 (λ e. omega arith);
    }

-- words that stand at the front of a unit, one by one
pub front_is : (unit : List ℕ) {words : List ℕ} → take configured unit ≡ words → (k : ℕ) → k < configured → get_or unit k 0 ≡ get_or words k 0
front_is unit e k l = sym (get_or-take configured unit k 0 l) ∙ ap (λ (w : List ℕ). get_or w k 0) e

kept : (e : Event) (unit : List ℕ) → length unit ≡ unit_size → Calm e unit → Kept unit (happens e unit)
unfolding happens
kept (frame f room) unit long calm = by_answer unit (answer unit f room) calm
kept (tick samples) unit long calm = record { long = Tick.length_kept samples unit; same = kept_by_tick samples unit }
kept (load image) unit long calm =
    record {
      long = size_by_load image unit (omega (arith, long, sizes)) (reading image);
      same = λ k h. front_is (loaded image unit (reading image)) calm k h ∙ get_or-take configured unit k 0 h;
    }

-- ---- between two configurations that may stand

module _ (current wanted : List ℕ) where
  -- these frames are left to send
  pub record Going (frames : List (List ℕ)) (unit : List ℕ) : Type 0 where
    pub slots : List ℕ
    pub left : Sending.Underway (configuration_in current) (configuration_in wanted) slots unit
    pub as_frames : map (frame_at wanted) slots ≡ frames
    pub long : length unit ≡ unit_size

  -- the next frame is an accepted write, and the rest is left
  pub record Next (f : List ℕ) (rest : List (List ℕ)) (unit : List ℕ) : Type 0 where
    pub slot : ℕ
    pub inside : slot < configured
    pub is : frame_at wanted slot ≡ f
    pub answers : (room : ℕ) → 8 ≤ room → answer unit f room ≡ Some (Ok (Written slot (get_or (configuration_in wanted) slot 0)))
    pub then : Going rest (unticked (set unit slot (get_or (configuration_in wanted) slot 0)))

  -- all of them at first, and none at the end

  pub begun : {unit : List ℕ} → Proper wanted → Holds unit (configuration_in current) → Going (frames_in (list_of current wanted)) unit
  unfolding changes
  begun {unit} second h =
      record { slots = changes current wanted; left = Sending.begun (front_is unit h.front); as_frames = sym (list_frames current wanted (good second)); long = h.long }

  pub ended : {unit : List ℕ} → Going [] unit → Holds unit (configuration_in wanted)
  ended {unit} g = record { long = g.long; front = ext_get_or 0 (take configured unit) (configuration_in wanted) (as_long ∙ sym (all_words wanted)) each }
    where
      as_long : length (take configured unit) ≡ configured
      as_long = length-take-le configured unit (omega (arith, sizes, g.long))

      go : (slots : List ℕ) → Sending.Underway (configuration_in current) (configuration_in wanted) slots unit → map (frame_at wanted) slots ≡ []
          → (k : ℕ) → k < configured → get_or unit k 0 ≡ get_or (configuration_in wanted) k 0
      go [] u e = Sending.arrived u
      go (slot ∷ slots) u e = let z : ◌≡◌ {A = ℕ} 0 1 = cc in absurd (omega arith)

      each : (k : ℕ) → k < length (take configured unit) → get_or (take configured unit) k 0 ≡ get_or (configuration_in wanted) k 0
      each k h = let l : k < configured = omega (arith, as_long) in get_or-take configured unit k 0 l ∙ go g.slots g.left g.as_frames k l

  module _ (first : Proper current) (second : Proper wanted) where
    pub next : {f : List ℕ} {rest : List (List ℕ)} {unit : List ℕ} → Going (f ∷ rest) unit → Next f rest unit
    unfolding stored
    next {f} {rest} {unit} g = go g.slots g.left g.as_frames
      where
        go : (slots : List ℕ) → Sending.Underway (configuration_in current) (configuration_in wanted) slots unit → map (frame_at wanted) slots ≡ f ∷ rest → Next f rest unit
        go [] u e = let z : ◌≡◌ {A = ℕ} 0 1 = cc in absurd (omega arith)
        go (slot ∷ slots) u e =
            let inside = Sending.inside u in
            let word = get_or (configuration_in wanted) slot 0 in
            let there : slot < length unit = omega (arith, in_unit slot (can_be_written slot inside), g.long) in
            let same : frame_at wanted slot ≡ f = cc in
            record {
              slot = slot;
              inside = inside;
              is = same;
              answers = λ room h.
                  ap (λ (x : List ℕ). answer unit x room) (sym same) ∙ answered wanted (good second) slot inside unit room h ∙ ap (λ (v : Result ⊤ Fault). Some (stored slot word v)) (Sending.accepted first.valid second.valid u there);
              then = record { slots = slots; left = Sending.as_well (Sending.step u there) (front_forgotten (set unit slot word)); as_frames = cc; long = size_stored unit slot word ∙ g.long };
            }

    pub further : {sent rest : List (List ℕ)} {unit unit' : List ℕ} → Sent sent unit unit' → Going (sent ++ rest) unit → Going rest unit'
    unfolding happens after
    further Sent.nothing g = g
    further (Sent.meanwhile {unit = unit} e calm s) g =
        let k = kept e unit g.long calm in
        further s (record { slots = g.slots; left = Sending.as_well g.left k.same; as_frames = g.as_frames; long = k.long ∙ g.long })
    further (Sent.send room h s) g = let n = next g in further s (rw (n.answers room h) n.then)
