-- "So under rule 7 the command stays between the two configured limits": the ramp's tick ends between them, and rule 7 gives its command.
-- Assumes nothing.
use Rattle.numbers.specs.Choice.{first}
use Rattle.signals.specs.Signal.{whole}
use Rattle.output.specs.Commanded.{Rule7}
use Rattle.output.specs.Output.{by_rule}
use Rattle.output.proofs.OutputLaws.{by, ramped_within}

pub rule_7 : Rule7
unfolding Rule7 by_rule first
rule_7 s control enable over m order e = rw (by s control enable over m e) (ramped_within s order (whole control) m)
