-- The bench's replies, computed from the definitions.
-- Assumes nothing.
use Prim.Native.Nat.{ℕ, ◌+◌, ◌%◌}
use mathlib.Core.List.{List, ◌∷◌}
use mathlib.Core.Path.{◌≡◌, refl, sym, ap, ◌∙◌}
use native.Mathlib.Omega.{arith}
use lib.Dec.{lit<}
use lib.Ieee.{of_bits}
use lib.IntN.{ℤ, pos}
use Rattle.numbers.specs.Choice.{first}
use Rattle.numbers.specs.Limit.{limit_whole}
use Rattle.numbers.specs.Line.{nearest_size, nearest, between, line_at}
use Rattle.numbers.specs.Nearest.{limit16, nearest16}
use Rattle.numbers.specs.Order.{below}
use Rattle.numbers.specs.Signed.{twos, signed16, pattern16}
use Rattle.dictionary.specs.Names.{find, slot_of, words, hidden, sought, writable}
use Rattle.dictionary.specs.Rows.{width}
use Rattle.dictionary.specs.Unit.{signals_at, runs_at, flags_at, before_at, unit_size}
use Rattle.dictionary.proofs.Unticked.{signals_behind, signals_before, mark_behind, mark_inside}
use Rattle.roles.specs.Chains.{chains, upper_in, lower_in, upper_of, lower_of}
use Rattle.entries.specs.Judge.{number_of, finite, within, in_range, held, past_upper, past_lower, in_order, judged}
use Rattle.entries.proofs.Start.{valid_at_start}
use Rattle.roles.specs.Values.{range_of, starts, at_start}
use Rattle.roles.proofs.StartLaws.{start_zero}
use Rattle.sdo.specs.Answers.{size_of, reading, stored, unclear, offered, refused, length_of, writing, obeyed, silent, answer}
use Rattle.octets.specs.Little.{little, bytes}
use Rattle.sdo.specs.Frames.{index_in, sub_in, name_in, data_in, command_of, code, read_command, cut, reply, reply_to}
use Rattle.signals.specs.Signal.{whole}
use Rattle.input.specs.Input as input
use Rattle.input.specs.Inputs.{settings, memory}
use Rattle.unit.specs.Each.{each}
use Rattle.unit.specs.Entry as entry
use Rattle.table.specs.Table.{least, value, unused, used, reaches, place, interval, curve, looked_up}
use Rattle.controller.specs.Tick.{recalled, ticked}
use Rattle.controller.specs.Turns.{at_turn}
use Rattle.controller.proofs.Recalled.{recalled_same}
use Rattle.promises.specs.Bench.{read_process, OnTheBench}
use Rattle.promises.proofs.Running.{size_at_start}
use Rattle.promises.proofs.Ticking.{each_tick}

-- 7130h:1 as it is read of any unit
asked : (unit : List ℕ) → reply_to read_process (answer unit read_process 8) ≡ reply read_process 0x4B (entry.entry unit 0x7130 1 % 0x10000)
unfolding read_process first find hidden sought slot_of width range_of little index_in sub_in name_in command_of read_command cut reply reply_to size_of reading obeyed silent answer entry.entry
asked unit = refl

-- at the start nothing is kept and there is nothing to keep, so the first turn of a tick finds the unit as it is
fresh : recalled at_start ≡ at_start
fresh =
    recalled_same at_start (λ k h.
    start_zero (signals_at + k) (omega (arith, signals_behind)) (omega (arith, signals_before, mark_behind, mark_inside))
    ∙ sym (start_zero (before_at + k) (omega (arith, signals_behind, signals_before)) (omega (arith, mark_behind, mark_inside))))

first_sensed : (v : ℤ) (others : List ℤ) → entry.entry (ticked (v ∷ others) at_start) 0x7130 1 ≡ pattern16 (whole (input.sensed (settings at_start 1) (memory at_start 1) v).signal)
unfolding at_turn each
first_sensed v others =
    let t = each_tick (v ∷ others) at_start size_at_start valid_at_start in
    t.shown.processed 0 (lit< tt)
    ∙ ap (λ s. pattern16 (whole s)) (t.signals.input 0 (lit< tt))
    ∙ ap (λ (unit : List ℕ). pattern16 (whole (input.sensed (settings unit 1) (memory unit 1) v).signal)) fresh

read_as : (v pv : ℤ) → pattern16 (whole (input.sensed (settings at_start 1) (memory at_start 1) v).signal) % 0x10000 ≡ pattern16 pv → (others : List ℤ)
    → reply_to read_process (answer (ticked (v ∷ others) at_start) read_process 8) ≡ reply read_process 0x4B (pattern16 pv)
read_as v pv e others = asked (ticked (v ∷ others) at_start) ∙ ap (reply read_process 0x4B) (ap (λ (w : ℕ). w % 0x10000) (first_sensed v others) ∙ e)

pub on_the_bench : OnTheBench
unfolding settings memory whole input.sensed input.signal_of input.flagged_after input.run_after input.out input.within input.clears input.process entry.whole entry.entry entry.switched entry.byte entry.time runs_at flags_at signals_at words unit_size pattern16 least value unused used reaches place interval curve looked_up slot_of limit_whole nearest_size nearest between line_at limit16 nearest16 of_bits first below twos signed16 find hidden sought writable width chains upper_in lower_in upper_of lower_of number_of finite within in_range held past_upper past_lower in_order judged range_of starts at_start size_of reading stored unclear offered refused length_of writing obeyed silent answer little bytes index_in sub_in name_in data_in command_of code reply reply_to
on_the_bench = (refl, (refl, (refl, (refl, (refl, (refl, (refl, (read_as (pos 2500) (pos 500) refl, (read_as (pos 501) (pos 0) refl, (read_as (pos 502) (pos 1) refl, (refl, (refl, tt))))))))))))
