-- A unit: the dictionary's words, and behind them what ticks remember and nobody can read.
-- Assumes nothing.
use Rattle.std.specs.Prelude.{ℕ, ◌+◌, ◌-◌, ◌*◌, List, [], ◌∷◌, set}
use Rattle.dictionary.specs.Names.{slot_of, configured, writable, words}

-- of each of the 16 blocks (inputs 1-4, math 1-4, tables 1-6, logic 1-2) its signal as two words, kind and number: "A block that reads a later
-- block, or itself, sees the last tick's signal"
unfoldable pub signals_at : ℕ
unfolding words
signals_at = words

-- of each input "the run of out ticks"
unfoldable pub runs_at : ℕ
unfolding signals_at
runs_at = signals_at + 2 * 16

-- of each input whether it is "flagged"
unfoldable pub flags_at : ℕ
unfolding runs_at
flags_at = runs_at + 4

-- of each output what it remembers of its ramp, in six words, from here on
unfoldable pub ramps_at : ℕ
unfolding flags_at
ramps_at = flags_at + 4

-- the ticks counted; 0: the count starts again, and the other five don't matter
unfoldable pub ramp_count_at : ℕ
unfolding ramps_at
ramp_count_at = ramps_at

-- what the count began with: the command, whether it rises, FV1, FV2 and the ramp in use
unfoldable pub ramp_start_at : ℕ
unfolding ramp_count_at
ramp_start_at = ramp_count_at + 4

unfoldable pub ramp_rising_at : ℕ
unfolding ramp_start_at
ramp_rising_at = ramp_start_at + 4

unfoldable pub ramp_fv1_at : ℕ
unfolding ramp_rising_at
ramp_fv1_at = ramp_rising_at + 4

unfoldable pub ramp_fv2_at : ℕ
unfolding ramp_fv1_at
ramp_fv2_at = ramp_fv1_at + 4

unfoldable pub ramp_used_at : ℕ
unfolding ramp_fv2_at
ramp_used_at = ramp_fv2_at + 4

unfoldable pub ramps_end : ℕ
unfolding ramp_used_at
ramps_end = ramp_used_at + 4

-- the 32 words of the signals as the last tick found them: "the state may keep those signals for this"
unfoldable pub before_at : ℕ
unfolding ramps_end
before_at = ramps_end

-- 1 after a tick; 0 at the start and after an accepted write
unfoldable pub ticked_at : ℕ
unfolding before_at
ticked_at = before_at + 2 * 16

-- the whole unit's words
unfoldable pub unit_size : ℕ
unfolding ticked_at
unit_size = ticked_at + 1

-- "no tick since its start or last accepted write"
unfoldable pub unticked : List ℕ → List ℕ
unticked unit = set unit ticked_at 0

-- where each object's words begin, in the order of `dictionary::slots`
unfoldable pub places : List ℕ
unfolding slot_of configured writable words signals_at runs_at flags_at ramp_count_at ramp_start_at ramp_rising_at ramp_fv1_at ramp_fv2_at ramp_used_at before_at ticked_at unit_size
places =
    slot_of 0x2110 1 ∷ slot_of 0x2111 1 ∷ slot_of 0x2112 1 ∷ slot_of 0x2300 1 ∷
    slot_of 0x2330 1 ∷ slot_of 0x2331 1 ∷ slot_of 0x2340 1 ∷ slot_of 0x2341 1 ∷
    slot_of 0x2350 1 ∷ slot_of 0x2351 1 ∷ slot_of 0x2352 1 ∷ slot_of 0x2360 1 ∷
    slot_of 0x2361 1 ∷ slot_of 0x2362 1 ∷ slot_of 0x2502 1 ∷ slot_of 0x2520 1 ∷
    slot_of 0x2522 1 ∷ slot_of 0x3010 0 ∷ slot_of 0x3011 0 ∷ slot_of 0x3012 0 ∷
    slot_of 0x3013 0 ∷ slot_of 0x3014 1 ∷ slot_of 0x3015 1 ∷ slot_of 0x3015 11 ∷ slot_of 0x3016 1 ∷
    slot_of 0x4000 1 ∷ slot_of 0x4101 1 ∷ slot_of 0x4102 1 ∷ slot_of 0x4102 3 ∷ slot_of 0x4111 1 ∷
    slot_of 0x4500 1 ∷ slot_of 0x4521 1 ∷ slot_of 0x4523 1 ∷ slot_of 0x4532 1 ∷
    slot_of 0x4600 1 ∷ slot_of 0x4601 1 ∷ slot_of 0x4602 1 ∷ slot_of 0x4620 1 ∷
    slot_of 0x4622 1 ∷ slot_of 0x4640 1 ∷ slot_of 0x4650 1 ∷ slot_of 0x5010 3 ∷
    slot_of 0x6132 1 ∷ slot_of 0x6302 1 ∷ slot_of 0x6340 1 ∷ slot_of 0x7120 1 ∷
    slot_of 0x7121 1 ∷ slot_of 0x7122 1 ∷ slot_of 0x7123 1 ∷ slot_of 0x7148 1 ∷
    slot_of 0x7149 1 ∷ slot_of 0x7320 1 ∷ slot_of 0x7321 1 ∷ slot_of 0x7322 1 ∷
    slot_of 0x7323 1 ∷ slot_of 0x7341 1 ∷ slot_of 0x2500 1 ∷ slot_of 0x1003 0 ∷ slot_of 0x1001 0 ∷
    slot_of 0x7100 1 ∷ slot_of 0x7130 1 ∷ slot_of 0x3017 0 ∷ slot_of 0x4010 1 ∷
    slot_of 0x4020 1 ∷ slot_of 0x4530 1 ∷ slot_of 0x7330 1 ∷ slot_of 0x5010 1 ∷ slot_of 0x1003 1 ∷
    signals_at ∷ runs_at ∷ flags_at ∷
    ramp_count_at ∷ ramp_start_at ∷ ramp_rising_at ∷ ramp_fv1_at ∷ ramp_fv2_at ∷ ramp_used_at ∷ before_at ∷ ticked_at ∷ unit_size ∷
    (slot_of 0x3020 0 - slot_of 0x3010 0) ∷ (slot_of 0x4201 1 - slot_of 0x4101 1) ∷ (slot_of 0x4700 1 - slot_of 0x4600 1) ∷
    configured ∷ writable ∷ words ∷ []
