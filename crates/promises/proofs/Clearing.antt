-- What a frame leaves of the error list.
-- Assumes nothing.
use mathlib.Core.Path.{◌≡◌, refl, sym, ap, ◌∙◌}
use mathlib.Core.Bool.{true, false, not, ◌&&◌, true≢false}
use mathlib.Core.List.{List, []}
use Prim.Native.Nat.{ℕ}
use native.Mathlib.Omega.{arith}
use lib.Dec.{eqb}
use lib.ListN.{length, get_or, set, length-set}
use lib.Seq.{get_or-set_same, get_or-set_other}
use borrow.Author.Tests.{eqb-true, eqb-false, eq-eqb, not-false}
use Rattle.dictionary.specs.Names.{slot_of}
use Rattle.dictionary.specs.Unit.{signals_at, runs_at, flags_at, unit_size, unticked}
use Rattle.dictionary.proofs.Unticked.{words_stay, length_stays}
use Rattle.dictionary.proofs.naming.NameLaws.{counted}
use Rattle.sdo.specs.Answers.{unclear, answer}
use Rattle.sdo.specs.Served.{after}
use Rattle.sdo.specs.declared.types.Done.TheVariants.{Value, Written}
use Rattle.unit.specs.Entry.{entry}
use Rattle.unit.proofs.Slots.{error_slots}
use Rattle.input.specs.Errors.{errors}
use Rattle.input.proofs.ErrorLaws.{OfList, number, one, same_errors}
use Rattle.controller.proofs.TickLaws.{register_unwritten, register_forgotten}
use Rattle.promises.specs.Errors.{clears}
use Rattle.promises.proofs.Accepted.{Accepted, accepted}
use Rattle.promises.proofs.Forgetting.{size_stored}
use Rattle.sdo.specs.Frames.{Answer}
use Rattle.std.specs.Prelude.{Some, None, Ok, Err}

abbrev Emptied : List ℕ → Type 0
Emptied unit = (errors unit ≡ []) × (entry unit 0x1003 0 ≡ 0)

abbrev Unchanged : List ℕ → List ℕ → Type 0
Unchanged unit unit' = (errors unit' ≡ errors unit) × (entry unit' 0x1003 0 ≡ entry unit 0x1003 0)

-- only 0 is accepted by sub 0
only_zero : (slot word : ℕ) → unclear slot word ≡ false → slot ≡ slot_of 0x1003 0 → word ≡ 0
unfolding unclear
only_zero slot word clear here =
    let both : (true && not (eqb word 0)) ≡ false = rw (eq-eqb slot (slot_of 0x1003 0) here) at clear in
    eqb-true word 0 (not-false (eqb word 0) both)

-- a write past the list's words
module _ (unit : List ℕ) (size : length unit ≡ unit_size) (f : List ℕ) (slot word : ℕ) (a : Accepted unit f slot word) where
  emptied : slot ≡ slot_of 0x1003 0 → Emptied (set unit slot word)
  unfolding errors entry unit_size flags_at runs_at signals_at
  emptied here =
      let none : get_or (set unit slot word) (slot_of 0x1003 0) 0 ≡ 0 =
      ap (λ (k : ℕ). get_or (set unit k word) (slot_of 0x1003 0) 0) here
      ∙ get_or-set_same unit (slot_of 0x1003 0) word 0 (omega (arith, error_slots, counted))
      ∙ only_zero slot word a.clear here in
      (rw none, none)

  untouched : (slot ≡ slot_of 0x1003 0 → ⊥) → Unchanged unit (set unit slot word)
  unfolding entry
  untouched other = (same_errors unit (set unit slot word) (length-set unit slot word) same, same (slot_of 0x1003 0) number)
    where
      apart : (k : ℕ) → OfList k → k ≡ slot → ⊥
      apart k number e = other (sym e)
      apart k (one from to) e = omega (arith, a.below, error_slots, counted)

      same : (k : ℕ) → OfList k → get_or (set unit slot word) k 0 ≡ get_or unit k 0
      same k o = get_or-set_other unit slot k word 0 (apart k o)

-- forgetting the tick leaves it
module _ (unit : List ℕ) where
  same_word : (k : ℕ) → OfList k → get_or (unticked unit) k 0 ≡ get_or unit k 0
  same_word k number = words_stay unit k (omega (arith, error_slots, counted))
  same_word k (one from to) = words_stay unit k (omega (arith, error_slots, counted))

  still : Unchanged unit (unticked unit)
  unfolding entry
  still = (same_errors unit (unticked unit) (length_stays unit) same_word, same_word (slot_of 0x1003 0) number)

-- "0 clears the whole list", and no other frame touches it
pub by_frame : (unit f : List ℕ) (room : ℕ) → length unit ≡ unit_size → (a : Answer) → answer unit f room ≡ a
    → (clears a ≡ true → Emptied (after unit a)) × (clears a ≡ false → Unchanged unit (after unit a))
unfolding after clears
by_frame unit f room size None e = (λ t. absurd (true≢false (sym t)), λ t. (refl, refl))
by_frame unit f room size (Some (Err x)) e = (λ t. absurd (true≢false (sym t)), λ t. (refl, refl))
by_frame unit f room size (Some (Ok (Value w n))) e = (λ t. absurd (true≢false (sym t)), λ t. (refl, refl))
by_frame unit f room size (Some (Ok (Written slot word))) e =
    let a = accepted unit f room slot word e in
    let s = still (set unit slot word) in (
      λ t. let done = emptied unit size f slot word a (eqb-true slot (slot_of 0x1003 0) t) in (s.0 ∙ done.0, s.1 ∙ done.1),
      λ t. let done = untouched unit size f slot word a (eqb-false slot (slot_of 0x1003 0) t) in (s.0 ∙ done.0, s.1 ∙ done.1),
    )

-- the number of words stays, and 1001h
pub frame_size : (unit : List ℕ) (a : Answer) → length (after unit a) ≡ length unit
unfolding after
frame_size unit None = refl
frame_size unit (Some (Err x)) = refl
frame_size unit (Some (Ok (Value w n))) = refl
frame_size unit (Some (Ok (Written slot word))) = size_stored unit slot word

pub register_left : (unit f : List ℕ) (room : ℕ) (a : Answer) → answer unit f room ≡ a → entry (after unit a) 0x1001 0 ≡ entry unit 0x1001 0
unfolding after
register_left unit f room None e = refl
register_left unit f room (Some (Err x)) e = refl
register_left unit f room (Some (Ok (Value w n))) e = refl
register_left unit f room (Some (Ok (Written slot word))) e =
    register_forgotten (set unit slot word) ∙ register_unwritten unit slot word (accepted unit f room slot word e).below
