-- The four inputs in a tick: "7100h is the sample. 7130h is the straight line .."
-- Assumes nothing.
use Rattle.std.specs.Prelude.{ℕ, ◌+◌, ◌-◌, not, List, eqb, ℤ, get_or, set}
use Rattle.numbers.specs.Choice.{first}
use Rattle.numbers.specs.Signed.{pattern16}
use Rattle.dictionary.specs.Unit.{runs_at, flags_at}
use Rattle.input.specs.Errors.{noted}
use Rattle.input.specs.Input.{sensed}
use Rattle.input.specs.declared.Memory.{Memory}
use Rattle.input.specs.declared.Settings.{Settings}
use Rattle.unit.specs.Entry.{whole, switched, time, publish}
use Rattle.unit.specs.Held.{inputs, lay}

-- "7120h, 7121h, 7122h, 7123h: FV1, PV1, FV2, PV2; 7148h, 7149h: span start, end; 2110h, 2111h, 2112h: detect; hysteresis; delay"
unfoldable pub settings : List ℕ → ℕ → Settings
settings unit n =
    record {
      fv1 = whole unit 0x7120 n;
      pv1 = whole unit 0x7121 n;
      fv2 = whole unit 0x7122 n;
      pv2 = whole unit 0x7123 n;
      start = whole unit 0x7148 n;
      end = whole unit 0x7149 n;
      hysteresis = whole unit 0x2111 n;
      detect = switched unit 0x2110 n;
      delay = time unit 0x2112 n;
    }

-- input n keeps its run of out ticks and its flag in two words of its own
unfoldable pub memory : List ℕ → ℕ → Memory
memory unit n = record { run = get_or unit (runs_at + (n - 1)) 0; flagged = not (eqb (get_or unit (flags_at + (n - 1)) 0) 0) }

unfoldable pub remember : List ℕ → ℕ → Memory → List ℕ
remember unit n m = set (set unit (runs_at + (n - 1)) m.run) (flags_at + (n - 1)) (first m.flagged 1 0)

-- what input n makes of a sample: 7100h, 7130h, its signal, a flagging's entry in 1003h, its run and its flag
unfoldable pub input_turn : ℤ → ℕ → List ℕ → List ℕ
input_turn sample n unit =
    let after = sensed (settings unit n) (memory unit n) sample in
    let published = publish (publish unit 0x7100 n (pattern16 sample)) 0x7130 n (pattern16 after.reads) in
    let laid = lay published inputs n after.signal in
    remember (noted laid n (memory unit n).flagged after.memory.flagged) n after.memory
