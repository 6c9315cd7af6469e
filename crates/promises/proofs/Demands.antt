-- The three demands are met, and what document 02 asks for besides.
-- Assumes nothing.
use Rattle.dictionary.proofs.OneEach as OneEach
use Rattle.numbers.proofs.Bound as Bound
use Rattle.output.proofs.Lasting as Lasting
use Rattle.table.proofs.Curves as curves
use Rattle.why.proofs.Fits as Fits
use Rattle.promises.specs.Demands.{Demand1, Demand2, Demand3, AskedFor}
use Rattle.promises.proofs.Asking as Asking
use Rattle.promises.proofs.Bench as Bench
use Rattle.promises.proofs.Errors as Errors
use Rattle.controller.proofs.Listed as Listed
use Rattle.promises.proofs.Curves as Curves
use Rattle.promises.proofs.ByWay as ByWay
use Rattle.promises.proofs.FrameRefusals as FrameRefusals
use Rattle.promises.proofs.Images as Images
use Rattle.promises.proofs.ImageRefusals as ImageRefusals
use Rattle.promises.proofs.Ramps as Ramps
use Rattle.promises.proofs.Restoring as Restoring
use Rattle.promises.proofs.Running as Running
use Rattle.promises.proofs.SameDigits as SameDigits
use Rattle.promises.proofs.Spool as Spool
use Rattle.spool.proofs.Coils as Coils
use Rattle.promises.proofs.Ticking as Ticking
use Rattle.controller.proofs.Off as Off
use Rattle.promises.proofs.Trap as Trap
use Rattle.controller.proofs.Seen as Seen
use Rattle.controller.proofs.TickLaws as TickLaws
use Rattle.controller.proofs.Turns as Turns
use Rattle.promises.proofs.Serving as Serving

pub demand_1 : Demand1
demand_1 =
    record {
      frames_meet_theirs = FrameRefusals.frames_meet_theirs;
      codes_as_listed = FrameRefusals.codes_as_listed;
      images_meet_theirs = ImageRefusals.images_meet_theirs;
      images_told_apart = Images.accepts_exactly;
      told_to_C = ImageRefusals.told_to_C;
      one_to_seven = ImageRefusals.one_to_seven;
      number_tells_which = ImageRefusals.number_tells_which;
      one_answer = Serving.determined;
      one_outcome = Images.one_outcome;
      one_for_C = ImageRefusals.one_for_C;
      one_list = Restoring.one_list;
      frames_refused = Serving.untouched;
      first_eight_only = Serving.first_eight_only;
      images_refused = Images.refusals_write_nothing;
      lists_refused = Restoring.refused_lists_write_nothing;
      same_for_C = ImageRefusals.same_for_C;
    }

pub demand_2 : Demand2
demand_2 =
    record {
      reads_back = Serving.reads_back;
      size_not_told = Serving.size_not_told;
      never_for_its_length = Serving.never_for_its_length;
      that_one_entry = Serving.that_one_entry;
      names_apart = OneEach.names_apart;
      slot_named = OneEach.slot_named;
      slots_apart = OneEach.slots_apart;
      flags_unwritten = TickLaws.flags_unwritten;
      register_unwritten = TickLaws.register_unwritten;
      decided_by_configuration = Serving.decided_by_configuration;
      stays_valid = Serving.stays_valid;
      on_the_bench = Bench.on_the_bench;
      only_the_fold = Running.only_the_fold;
      always_sound = Running.always_sound;
      seen_by = Turns.seen_by;
      sourced_by = Seen.sourced_by;
      no_nan = Ticking.no_nan;
      every_tick = Ticking.every_tick;
      words_kept = TickLaws.words_kept;
      register_told = TickLaws.register_told;
      math_off = Off.math_off;
      math_error = Off.math_error;
      table_passes = Off.table_passes;
      table_sentence = Ticking.table_sentence;
      logic_off = Off.logic_off;
      saved_reads_back = Images.saved_reads_back;
      same_bytes_again = Images.same_bytes_again;
      one_configuration_each = Images.one_configuration_each;
      looked_up_as_it_stands = Images.looked_up_as_it_stands;
    }

pub demand_3 : Demand3
demand_3 =
    record {
      always_fits = Restoring.always_fits;
      count_is_difference = Restoring.count_is_difference;
      equal_images = Restoring.equal_images;
      each_accepted = Restoring.each_accepted;
      arrives = Restoring.arrives;
      shortest = Restoring.shortest;
      cut_anywhere = Restoring.cut_anywhere;
      taken_up_again = Restoring.taken_up_again;
      turned_away_exactly = Restoring.turned_away_exactly;
      own_image = Restoring.own_image;
      out_of_the_trap = Trap.out_of_the_trap;
    }

pub asked_for : AskedFor
asked_for =
    record {
      lasts = Lasting.lasts;
      every_ramp_lasts = Ramps.every_ramp_lasts;
      moves_on = Lasting.moves_on;
      every_ramp_moves_on = Ramps.every_ramp_moves_on;
      on_time = Lasting.on_time;
      every_ramp_on_time = Ramps.every_ramp_on_time;
      at_once = Lasting.at_once;
      every_ramp_0_at_once = Ramps.every_ramp_0_at_once;
      starts_again = Ramps.starts_again;
      fits_32_bits = Bound.fits_32_bits;
      told_as_it_was = Asking.told_as_it_was;
      refused_exactly = Asking.refused_exactly;
      one_answer_why = Asking.one_answer_why;
      answers_fit = Fits.always_fits;
      never_dips = curves.never_dips;
      tables_never_dip = Curves.tables_never_dip;
      stays_between = curves.stays_between;
      tables_stay_between = Curves.tables_stay_between;
      same_digits = SameDigits.same_digits;
      reals_as_before = SameDigits.reals_as_before;
      given_by_its_table = SameDigits.given_by_its_table;
      empty_to_itself = Restoring.equal_images;
      there_and_back = ByWay.there_and_back;
      by_way = ByWay.by_way;
      cost_of_the_way = ByWay.cost_of_the_way;
      same_end = ByWay.same_end;
      enter_in_front = Listed.enter_in_front;
      only_cleared = Errors.only_cleared;
      load_leaves_it = Errors.load_leaves_it;
      always_agrees = Errors.always_agrees;
      read_exactly = Errors.read_exactly;
      last_eight = Errors.last_eight;
      what_went_wrong_first = Errors.what_went_wrong_first;
      spool_only_these = Spool.only_these;
      spool_only_after_0 = Coils.only_after_0;
      spool_never_both = Spool.never_both_above;
      spool_sent_on = Spool.sent_on;
      spool_core_as_before = Spool.core_as_before;
      spool_only_ticks_send = Spool.only_ticks_send;
      commands_not_below_0 = Spool.commands_not_below_0;
      spool_change_over = Spool.change_over;
      spool_waits = Spool.waits_for_the_other;
      spool_goes_next = Spool.goes_next;
    }
