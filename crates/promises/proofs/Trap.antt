-- The paper's trap: the wanted unit is one that accepted writes make; what is sent is computed on the configurations' words.
-- Assumes nothing.
use mathlib.Core.Path.{◌≡◌, refl, sym, ap, subst, ◌∙◌}
use mathlib.Core.Bool.{true, and-eq-true_iff}
use mathlib.Core.List.{List, [], ◌∷◌, ◌++◌, map, flat_map, reverse}
use Prim.Native.Nat.{ℕ, zero, suc, ◌≤◌}
use native.Mathlib.Omega.{arith}
use lib.Dec.{ltb}
use lib.IntN.{pos}
use lib.ListN.{length, take, drop}
use borrow.Author.Tests.{ltb-true}
use Rattle.octets.specs.Little.{little, bytes, Bytes}
use Rattle.numbers.specs.Choice.{first, every}
use Rattle.numbers.specs.Order.{below}
use Rattle.numbers.specs.Signed.{twos, signed16}
use Rattle.dictionary.specs.Names.{configured, find, slot_of, hidden, sought, words, writable}
use Rattle.dictionary.specs.Rows.{width}
use Rattle.dictionary.specs.Unit.{signals_at, runs_at, flags_at, before_at, ticked_at, unit_size, unticked}
use Rattle.roles.specs.Chains.{chains, upper_in, lower_in, upper_of, lower_of}
use Rattle.roles.specs.Values.{range_of, starts, at_start}
use Rattle.entries.specs.Judge.{number_of, finite, within, in_range, held, past_upper, past_lower, in_order, judged}
use Rattle.entries.proofs.Start.{valid_at_start}
use Rattle.sdo.specs.Answers.{size_of, stored, unclear, offered, length_of, writing, obeyed, silent, answer}
use Rattle.sdo.specs.Frames.{index_in, sub_in, name_in, data_in, command_of, code, reply, reply_to}
use Rattle.sdo.specs.Served.{after}
use Rattle.records.specs.Layout.{listed, size, entry, offset, record_in, record_of, records, image_of}
use Rattle.records.specs.Walk.{size_in}
use Rattle.image.specs.Reading.{configuration_in}
use Rattle.sending.specs.Sending.{slots_from, stretch, order, picked, differs, grows, rises, falls, sent, sends}
use Rattle.lists.specs.Changes.{changes, list_of}
use Rattle.lists.specs.Listing.{left_by}
use Rattle.gateway.specs.Restored.{told, outcome}
use Rattle.promises.specs.Delivery.{write_command, frame_of_record, frames_from, frames_in}
use Rattle.promises.specs.Restoring.{Proper, Called, Holds, Restoring}
use Rattle.promises.specs.Running.{Event, frame, happens, run, MadeOfBytes, Sound}
use Rattle.promises.specs.Trap.{moved, point, downward, the_list, OutOfTheTrap}
use Rattle.promises.proofs.Listed.{number_is, buffer_is}
use Rattle.promises.proofs.Proper.{saved_held}
use Rattle.promises.proofs.Running.{size_at_start, always_sound}

-- ---- the wanted unit is what the writes make of a fresh one, so it may stand

every_byte : (l : List ℕ) → every (λ b. ltb b 256) l ≡ true → Bytes l
unfolding every
every_byte [] e i = omega arith
every_byte (b ∷ l) e zero = ltb-true b 256 ((and-eq-true_iff (ltb b 256) (every (λ b. ltb b 256) l)).0 e).0
every_byte (b ∷ l) e (suc i) = every_byte l ((and-eq-true_iff (ltb b 256) (every (λ b. ltb b 256) l)).0 e).1 i

abbrev write : List ℕ → Event
write f = frame f 8

of_bytes : (fs : List (List ℕ)) → every (λ f. every (λ b. ltb b 256) f) fs ≡ true → MadeOfBytes (map write fs)
unfolding every
of_bytes [] e = tt
of_bytes (f ∷ fs) e =
    let both = (and-eq-true_iff (every (λ b. ltb b 256) f) (every (λ f. every (λ b. ltb b 256) f) fs)).0 e in (every_byte f both.0, of_bytes fs both.1)

all_bytes : MadeOfBytes (map write (downward point))
unfolding every bytes
all_bytes = of_bytes (downward point) refl

written : run (map write (downward point)) at_start ≡ moved
unfolding moved run happens after unticked words signals_at runs_at flags_at before_at ticked_at unit_size slot_of first below twos signed16 find hidden sought writable width chains upper_in lower_in upper_of lower_of number_of finite within in_range held past_upper past_lower in_order judged range_of starts at_start size_of stored unclear offered length_of writing obeyed silent answer little bytes index_in sub_in data_in command_of
written = refl

sound : Sound moved
sound = subst Sound written (always_sound (map write (downward point)) all_bytes)

-- ---- both images are proper

first_unit : Proper (image_of at_start) × Holds at_start (configuration_in (image_of at_start))
first_unit = saved_held at_start size_at_start valid_at_start

second_unit : Proper (image_of moved) × Holds moved (configuration_in (image_of moved))
second_unit = saved_held moved sound.size sound.valid

-- ---- the list

slots_computed : sends (take configured at_start) (take configured moved) ≡ reverse (slots_from (slot_of 0x3015 1) 11)
unfolding moved at_start starts slot_of sends sent order stretch slots_from picked first differs rises falls grows below twos signed16 held configured
slots_computed = refl

sends_down : changes (image_of at_start) (image_of moved) ≡ reverse (slots_from (slot_of 0x3015 1) 11)
unfolding changes
sends_down = rw (← first_unit.1.front, ← second_unit.1.front) slots_computed

records_computed : bytes 4 11 ++ flat_map (record_in (image_of moved)) (reverse (slots_from (slot_of 0x3015 1) 11)) ≡ the_list
unfolding the_list flat_map moved at_start starts slot_of slots_from record_in offset listed entry size width image_of records record_of little bytes configured
records_computed = refl

list_is : list_of (image_of at_start) (image_of moved) ≡ the_list
unfolding list_of slots_from
list_is = ap (λ (slots : List ℕ). bytes 4 (length slots) ++ flat_map (record_in (image_of moved)) slots) sends_down ∙ records_computed

frames_computed : frames_in the_list ≡ downward point
unfolding the_list flat_map frames_in frames_from frame_of_record write_command size_in little bytes first
frames_computed = refl

upward_refused : reply_to (point 1 500) (answer at_start (point 1 500) 8) ≡ 0x80 ∷ 0x15 ∷ 0x30 ∷ 0x01 ∷ 0x31 ∷ 0x00 ∷ 0x09 ∷ 0x06 ∷ []
unfolding first below twos signed16 find hidden sought writable width chains upper_in lower_in upper_of lower_of number_of finite within in_range held past_upper past_lower in_order judged range_of starts at_start size_of stored unclear offered length_of writing obeyed silent answer little bytes index_in sub_in name_in data_in command_of code reply reply_to
upward_refused = refl

pub out_of_the_trap : OutOfTheTrap
unfolding the_list flat_map bytes
out_of_the_trap = (upward_refused, instance, frames_computed)
  where
    instance : (buffer : List ℕ) → 5207 ≤ length buffer → Restoring (image_of at_start) (image_of moved) buffer (the_list ++ drop 103 buffer) (pos 103) at_start
    instance buffer room =
        let a = image_of at_start in
        let b = image_of moved in
        let made : Called a b buffer (left_by (outcome a b buffer) (list_of a b) buffer) (told (outcome a b buffer))
        = record { first = first_unit.0; second = second_unit.0; room = room; restored = record { answered = refl; bytes = refl } } in
        let number = number_is made ∙ ap (λ (l : List ℕ). pos (length l)) list_is in
        let left = buffer_is made ∙ ap (λ (l : List ℕ). l ++ drop (length l) buffer) list_is in
        record { called = record { first = first_unit.0; second = second_unit.0; room = room; restored = record { answered = sym number; bytes = sym left } }; holds = first_unit.1 }
