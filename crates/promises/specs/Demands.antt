-- The three demands, each one definition: its words, and beside them the statements that answer them; and what document 02 asks for besides.
-- Assumes nothing.
use Rattle.numbers.specs.Bound.{Fits32Bits}
use Rattle.dictionary.specs.OneEach.{NamesApart, SlotNamed, SlotsApart}
use Rattle.output.specs.Lasting.{Lasts, MovesOn, OnTime, AtOnce}
use Rattle.spool.specs.Coils.{OnlyAfter0}
use Rattle.table.specs.Curves.{NeverDips, StaysBetween}
use Rattle.why.specs.Answer as why
use Rattle.promises.specs.Asking.{ToldAsItWas, RefusedExactly, OneAnswerWhy}
use Rattle.promises.specs.Bench.{OnTheBench}
use Rattle.promises.specs.Curves.{TablesNeverDip, TablesStayBetween}
use Rattle.controller.specs.Listed.{EnterInFront}
use Rattle.promises.specs.Errors.{OnlyCleared, LoadLeavesIt, AlwaysAgrees, ReadExactly, LastEight, WhatWentWrongFirst}
use Rattle.promises.specs.ByWay.{ThereAndBack, ByWay, CostOfTheWay, SameEnd}
use Rattle.promises.specs.FrameRefusals.{FramesMeetTheirs, CodesAsListed}
use Rattle.promises.specs.Images.{SavedReadsBack, SameBytesAgain, AcceptsExactly, OneConfigurationEach, RefusalsWriteNothing, OneOutcome, LookedUpAsItStands}
use Rattle.promises.specs.ImageRefusals.{ImagesMeetTheirs, OneToSeven, ToldToC, SameForC, OneForC, NumberTellsWhich}
use Rattle.promises.specs.Ramps.{EveryRampLasts, EveryRampMovesOn, EveryRampOnTime, EveryRamp0AtOnce, StartsAgain}
use Rattle.promises.specs.Restoring.{AlwaysFits, CountIsDifference, EqualImages, EachAccepted, Arrives, Shortest, CutAnywhere, TakenUpAgain, TurnedAwayExactly, OwnImage, RefusedListsWriteNothing, OneList}
use Rattle.promises.specs.Running.{OnlyTheFold, AlwaysSound}
use Rattle.promises.specs.SameDigits.{SameDigits, RealsAsBefore, GivenByItsTable}
use Rattle.promises.specs.Spool.{OnlyThese, CoreAsBefore, OnlyTicksSend, NeverBothAbove, SentOn, CommandsNotBelow0, ChangeOver, WaitsForTheOther, GoesNext}
use Rattle.promises.specs.Ticking.{NoNan, TableSentence, EveryTick}
use Rattle.controller.specs.Off.{MathOff, MathError, TablePasses, LogicOff}
use Rattle.controller.specs.TickLaws.{WordsKept, RegisterTold, FlagsUnwritten, RegisterUnwritten}
use Rattle.promises.specs.Trap.{OutOfTheTrap}
use Rattle.controller.specs.Turns.{SeenBy, SourcedBy}
use Rattle.promises.specs.Serving.{Untouched, FirstEightOnly, ThatOneEntry, Determined, ReadsBack, SizeNotTold, NeverForItsLength, StaysValid, DecidedByConfiguration}

-- "1. Every frame, image and sample is taken. Bad input meets its listed refusal, and after a refusal the controller and the lent buffers hold what they
-- held before, save for an abort frame where a reply is due. Each call ends, and no caller has to look first."
-- That each is taken, ends and asks nothing of its caller is no statement here: no public function has a `requires`, and the checker proves that each ends.
pub record Demand1 : Type 0 where
  -- "Bad input meets its listed refusal": a frame the first row of the paper's table that applies, or it is good
  pub frames_meet_theirs : FramesMeetTheirs
  pub codes_as_listed : CodesAsListed
  -- an image the first that is listed for images, by the paper's number
  pub images_meet_theirs : ImagesMeetTheirs
  -- so it is refused exactly where it is not that of a configuration in range and in order
  pub images_told_apart : AcceptsExactly
  -- C is told that number
  pub told_to_C : ToldToC
  -- "-n for the current image, -(10+n) for the wanted, then -8 for room": the number tells which of them it was, since 8 is no image's
  pub one_to_seven : OneToSeven
  pub number_tells_which : NumberTellsWhich
  -- and each has one answer, with all that it leaves: a frame
  pub one_answer : Determined
  -- an image that is written or loaded
  pub one_outcome : OneOutcome
  -- what C calls
  pub one_for_C : OneForC
  -- two images and a buffer for the list
  pub one_list : OneList
  -- "after a refusal the controller and the lent buffers hold what they held before, save for an abort frame where a reply is due": of a frame
  pub frames_refused : Untouched
  pub first_eight_only : FirstEightOnly
  -- of an image that is read or written
  pub images_refused : RefusalsWriteNothing
  -- of a list
  pub lists_refused : RefusedListsWriteNothing
  -- and so of what C calls
  pub same_for_C : SameForC

-- "2. Frames answer as DS-301 expedited transfer says. Inputs, math, tables, logic and outputs follow document 01 tick by tick, REAL32 to the bit. An image
-- written from a controller reads back as that configuration, and one that is read and written again has the same bytes."
pub record Demand2 : Type 0 where
  -- "Frames answer as DS-301 expedited transfer says": what is written is read back, by its name
  pub reads_back : ReadsBack
  -- a write that does not tell its size has the entry's own, and is never refused for it
  pub size_not_told : SizeNotTold
  pub never_for_its_length : NeverForItsLength
  -- "An accepted write changes that one entry"
  pub that_one_entry : ThatOneEntry
  -- no two names share a slot, every slot has a name, and no two slots share one
  pub names_apart : NamesApart
  pub slot_named : SlotNamed
  pub slots_apart : SlotsApart
  -- no write touches an input's flag or 1001h
  pub flags_unwritten : FlagsUnwritten
  pub register_unwritten : RegisterUnwritten
  -- nothing but the configuration decides whether a configuration write is accepted
  pub decided_by_configuration : DecidedByConfiguration
  -- no frame breaks a range or a chain
  pub stays_valid : StaysValid
  -- the bench's own replies and numbers
  pub on_the_bench : OnTheBench
  -- "Inputs, math, tables, logic and outputs follow document 01 tick by tick, REAL32 to the bit": any frames, ticks and loads leave what the definitions make of them
  pub only_the_fold : OnlyTheFold
  -- and in that, from the start, ranges and chains hold and 1001h tells of the flags
  pub always_sound : AlwaysSound
  -- "A block that reads a later block, or itself, sees the last tick's signal", and of every block before it this tick's
  pub seen_by : SeenBy
  pub sourced_by : SourcedBy
  -- no block makes a NaN
  pub no_nan : NoNan
  -- after every tick each block holds the signal that its turn made, and each output has the command of its rule: "So under rule 7 the command stays
  -- between the two configured limits, and rules 1 to 6 name their value"
  pub every_tick : EveryTick
  -- a tick leaves the configuration, 2500h and 5010h:1-2, and 1001h tells of the flags
  pub words_kept : WordsKept
  pub register_told : RegisterTold
  -- a block that is off, or whose inputs are missing or in error, and a table's curve
  pub math_off : MathOff
  pub math_error : MathError
  pub table_passes : TablePasses
  pub table_sentence : TableSentence
  pub logic_off : LogicOff
  -- "An image written from a controller reads back as that configuration"
  pub saved_reads_back : SavedReadsBack
  -- "one that is read and written again has the same bytes"
  pub same_bytes_again : SameBytesAgain
  -- so no image stands for two configurations
  pub one_configuration_each : OneConfigurationEach
  -- "The bytes of one record's value are handed on as they stand in the image"
  pub looked_up_as_it_stands : LookedUpAsItStands

-- "3. Take any two complete images whose values are in range and whose chains are ordered, and a buffer of 5,207 bytes. The list we make from them, sent to a
-- controller that holds the first while no other configuration write comes between, is accepted record by record and leaves the second. It is as short as any
-- such list can be. Cut after any record, every entry holds its first or its second value. Given such a first image and buffer, a second one with the right
-- count, all 611 records in place at their sizes and nothing after them is turned away exactly when no list of accepted writes could reach it."
pub record Demand3 : Type 0 where
  -- "The list we make from them": one is made, and fits
  pub always_fits : AlwaysFits
  -- it has one record for each entry that differs, and its count is their number
  pub count_is_difference : CountIsDifference
  -- "two equal images give four zero bytes"
  pub equal_images : EqualImages
  -- "sent to a controller that holds the first while no other configuration write comes between, is accepted record by record"
  pub each_accepted : EachAccepted
  -- "and leaves the second."
  pub arrives : Arrives
  -- "It is as short as any such list can be."
  pub shortest : Shortest
  -- "Cut after any record, every entry holds its first or its second value."
  pub cut_anywhere : CutAnywhere
  -- and what was not sent is all that a list made anew would send
  pub taken_up_again : TakenUpAgain
  -- "Given such a first image and buffer, a second one with the right count, all 611 records in place at their sizes and nothing after them
  -- is turned away exactly when no list of accepted writes could reach it."
  pub turned_away_exactly : TurnedAwayExactly
  -- there are such images and controllers: every unit that runs, with the image it would save
  pub own_image : OwnImage
  -- "to move 0, 100, .. to 500, 600, .. the first write (500) is refused": this move, and its list to the byte
  pub out_of_the_trap : OutOfTheTrap

-- What document 02 asks for and is no part of the three demands, request by request.
pub record AskedFor : Type 0 where
  -- (i) "While a command rises toward a target, a moving one too, its movement after k ticks must be k x (FV2 - FV1) / ramp rounded down, stopped at the
  -- target; falling likewise": of the ramp alone, and of every output of a unit that runs
  pub lasts : Lasts
  pub every_ramp_lasts : EveryRampLasts
  -- "a changed target alone doesn't" start the count again, "or a lever that is always moving would hold a slow output still"
  pub moves_on : MovesOn
  pub every_ramp_moves_on : EveryRampMovesOn
  -- "Ramps that last as long as they say": from one end to the other in so many ticks, and not one less
  pub on_time : OnTime
  pub every_ramp_on_time : EveryRampOnTime
  -- "Ramp 0 still goes at once."
  pub at_once : AtOnce
  pub every_ramp_0_at_once : EveryRamp0AtOnce
  -- "Standing at the target after the last tick, .. or a tick under rules 1 to 6, starts the count again"
  pub starts_again : StartsAgain
  -- (iii) "The largest product is 65,535 x 65,535 = 4,294,836,225, and half the divisor still fits on top in 32 bits unsigned."
  pub fits_32_bits : Fits32Bits
  -- (v) "Proved: the rule named is the one that gave the command, no earlier rule applied, and each step of the trail really was in error and read the next."
  pub told_as_it_was : ToldAsItWas
  -- "Refusals, named: output number outside 1..4; then a state with no tick since its start or last accepted write", and no other
  pub refused_exactly : RefusedExactly
  pub one_answer_why : OneAnswerWhy
  -- VALVE_TRAIL bytes are enough for all that is told
  pub answers_fit : why.AlwaysFits
  -- (xii) "For any table whose used Y values don't fall from point to point, a larger x never gives a smaller output, for lines and jumps and equal X alike":
  -- of the curve, and of every table at work
  pub never_dips : NeverDips
  pub tables_never_dip : TablesNeverDip
  -- "and every output lies between the two Y values of its interval"
  pub stays_between : StaysBetween
  pub tables_stay_between : TablesStayBetween
  -- (vii) "two whole-number arguments are compared as the decimal numbers they stand for, exactly"
  pub same_digits : SameDigits
  -- "A REAL32 argument is compared as before."
  pub reals_as_before : RealsAsBefore
  -- "(a logic block uses those of the table that gave its signal, also where that signal is the last tick's)": that table is 4010h's
  pub given_by_its_table : GivenByItsTable
  -- (xi) "State and prove for complete, ordered images: a list from one to itself is empty"
  pub empty_to_itself : EqualImages
  -- "there and back have equal counts"
  pub there_and_back : ThereAndBack
  -- "the count from A to C is at most A to B plus B to C, equal exactly when every entry holds in B what it holds in A or in C"
  pub by_way : ByWay
  -- and if not every entry does, this is what it costs more
  pub cost_of_the_way : CostOfTheWay
  -- "and sending both lists leaves what the direct one leaves."
  pub same_end : SameEnd
  -- (viii) "Keep the last 8 flaggings beside the inputs, newest at sub 1 ..; code in the low half, input number in the high half"; "Two on one tick enter by input number"
  pub enter_in_front : EnterInFront
  -- "0 clears the whole list and leaves 1001h"
  pub only_cleared : OnlyCleared
  -- "Not configuration."
  pub load_leaves_it : LoadLeavesIt
  -- "Sub 0 (u8, 0 at start) is the number kept and always agrees with the list"
  pub always_agrees : AlwaysAgrees
  -- "another value at sub 0 gives 06090030h, after order 6; a sub above the number kept gives 06090011h, in order 4": with the rows of demand 1, and of each sub
  pub read_exactly : ReadExactly
  -- of any frames, ticks and loads: the list is what the flaggings since the last clearing make it
  pub last_eight : LastEight
  -- "Technicians ask what went wrong first."
  pub what_went_wrong_first : WhatWentWrongFirst
  -- (iv) "Both start as sent 0. It sends the core's two commands on": any frames, ticks and loads leave what the definitions make of them
  pub spool_only_these : OnlyThese
  -- "a coil goes above 0 only if the other was sent 0 on the tick before"
  pub spool_only_after_0 : OnlyAfter0
  -- "Wanted: over any ticks and writes never both above 0"
  pub spool_never_both : NeverBothAbove
  -- "and each coil is sent the core's command whenever these rules don't hold it at 0"
  pub spool_sent_on : SentOn
  -- "Demand 3 reads as before", and so do demands 1 and 2: the unit is the core's, and no frame changes what was sent
  pub spool_core_as_before : CoreAsBefore
  pub spool_only_ticks_send : OnlyTicksSend
  -- and who waits: the core commands nothing below 0, so from the one coil to the other there is a tick with both at 0
  pub commands_not_below_0 : CommandsNotBelow0
  pub spool_change_over : ChangeOver
  pub spool_waits : WaitsForTheOther
  -- "If both ask while both are at 0, coil 1 wins. The coil that loses is sent 0."
  pub spool_goes_next : GoesNext
