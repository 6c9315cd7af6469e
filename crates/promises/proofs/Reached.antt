-- What accepted writes can reach: a configuration that may stand, and every one of those.
-- Assumes nothing.
use mathlib.Core.Path.{◌≡◌, sym, subst, ◌∙◌}
use mathlib.Core.List.{List, [], ◌∷◌}
use Prim.Native.Nat.{ℕ}
use native.Mathlib.Omega.{arith}
use lib.ListN.{length, get_or, set}
use Rattle.octets.specs.Little.{Bytes}
use Rattle.dictionary.specs.Unit.{unit_size}
use Rattle.entries.specs.Valid.{Valid}
use Rattle.sdo.specs.declared.types.Done.TheVariants.{Written}
use Rattle.sdo.specs.Served.{after}
use Rattle.image.specs.Reading.{configuration_in}
use Rattle.lists.specs.Changes.{list_of}
use Rattle.promises.specs.Delivery.{frames_in}
use Rattle.promises.specs.Restoring.{Proper, Holds, Accepts, Reaches}
use Rattle.promises.proofs.Accepted.{accepted}
use Rattle.promises.proofs.ListFrames.{frame_bytes}
use Rattle.promises.proofs.Proper.{good}
use Rattle.promises.proofs.Forgetting.{agrees, valid_forgotten, size_stored}
use Rattle.promises.proofs.Underway.{Going, next, begun, ended, front_is}
use Rattle.promises.proofs.Writing.{still_valid}
use Rattle.std.specs.Prelude.{Some, Ok}

-- ---- accepted writes keep a configuration that may stand

stays : {frames : List (List ℕ)} {unit unit' : List ℕ} → Accepts frames unit unit' → length unit ≡ unit_size → Valid unit → Valid unit'
unfolding after
stays Accepts.end l v = v
stays (Accepts.next {f = f} {unit = unit} slot word b e more) l v =
    stays more (size_stored unit slot word ∙ l) (valid_forgotten (set unit slot word) (still_valid unit f slot word (accepted unit f 8 slot word e) l b v))

pub only_valid : {unit first second : List ℕ} → Holds unit first → Reaches unit second → Valid first → Valid second
only_valid {unit} {first} {second} h r v =
    agrees second r.unit' (λ k l. sym (front_is r.unit' r.after.front k l))
    (stays r.accepts h.long (agrees unit first (front_is unit h.front) v))

-- ---- a list on its way, to its end

module _ (current wanted : List ℕ) (first : Proper current) (second : Proper wanted) where
  record Arriving (frames : List (List ℕ)) (unit : List ℕ) : Type 0 where
    unit' : List ℕ
    accepts : Accepts frames unit unit'
    end : Going current wanted [] unit'

  arriving : (frames : List (List ℕ)) (unit : List ℕ) → Going current wanted frames unit → Arriving frames unit
  unfolding after
  arriving [] unit g = record { unit' = unit; accepts = Accepts.end; end = g }
  arriving (f ∷ frames) unit g =
      let n = next current wanted first second g in
      let word = get_or (configuration_in wanted) n.slot 0 in
      let more = arriving frames (after unit (Some (Ok (Written n.slot word)))) n.then in
      record {
        unit' = more.unit';
        accepts = Accepts.next n.slot word (subst Bytes n.is (frame_bytes wanted (good second) n.slot n.inside second.complete.of_bytes)) (n.answers 8 (omega arith)) more.accepts;
        end = more.end;
      }

  pub reaches : {unit : List ℕ} → Holds unit (configuration_in current) → Reaches unit (configuration_in wanted)
  reaches {unit} h =
      let frames = frames_in (list_of current wanted) in
      let end = arriving frames unit (begun current wanted second h) in
      record { frames = frames; unit' = end.unit'; accepts = end.accepts; after = ended current wanted end.end }
