-- The dictionary's word, then zeros (`StartLaws`).
-- Assumes nothing.
use mathlib.Core.Path.{sym, ◌∙◌}
use Rattle.dictionary.specs.Names.{words}
use Rattle.roles.proofs.StartLaws.{start_word, start_zero}
use Rattle.roles.proofs.start.fresh.Goals as goal

pub initial-requires : goal.initial-requires
unfolding words
initial-requires c = c.if-slot-lt-SIGNALS.true

pub returns-then-slot-lt-SIGNALS : goal.returns-then-slot-lt-SIGNALS
unfolding words
returns-then-slot-lt-SIGNALS c = c.initial.ensures ∙ sym (start_word c.args.slot c.if-slot-lt-SIGNALS.true)

pub returns : goal.returns
unfolding words
returns c = sym (start_zero c.args.slot c.if-slot-lt-SIGNALS.false c.requires)
