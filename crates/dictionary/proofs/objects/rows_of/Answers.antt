-- `objects::rows_of` meets its contract: each arm's family answers for it, and the arms are all families (`Families`).
-- Assumes nothing.
use native.Mathlib.Omega.{arith}
use Rattle.numbers.specs.Choice.{first}
use Rattle.dictionary.specs.Names.{stretches}
use Rattle.dictionary.proofs.objects.Families.{moved, no_family, families_of, without}
use Rattle.dictionary.proofs.objects.rows_of.Goals as goal

pub returns-in-33 : goal.returns-in-33
returns-in-33 c = moved (omega arith) c.input_settings.ensures

pub returns-in-35 : goal.returns-in-35
returns-in-35 c = moved (omega arith) c.output_settings.ensures

pub returns-in-37 : goal.returns-in-37
returns-in-37 c = moved (omega arith) c.received_values.ensures

pub returns-in-48 : goal.returns-in-48
returns-in-48 c = moved (omega arith) c.tables.ensures

pub returns-in-64 : goal.returns-in-64
returns-in-64 c = moved (omega arith) c.logic_blocks.ensures

pub returns-in-65 : goal.returns-in-65
returns-in-65 c = moved (omega arith) c.logic_settings.ensures

pub returns-in-66 : goal.returns-in-66
returns-in-66 c = moved (omega arith) c.logic_settings-in-66.ensures

pub returns-in-69 : goal.returns-in-69
returns-in-69 c = moved (omega arith) c.math_blocks.ensures

pub returns-in-70 : goal.returns-in-70
returns-in-70 c = moved (omega arith) c.math_settings.ensures

pub returns-in-71 : goal.returns-in-71
returns-in-71 c = moved (omega arith) c.math_settings-in-71.ensures

pub returns-in-72 : goal.returns-in-72
returns-in-72 c = moved (omega arith) c.math_settings-in-72.ensures

pub returns-in-73 : goal.returns-in-73
returns-in-73 c = moved (omega arith) c.math_settings-in-73.ensures

pub returns-in-80 : goal.returns-in-80
returns-in-80 c = moved (omega arith) c.constants.ensures

pub returns-in-97 : goal.returns-in-97
returns-in-97 c = moved (omega arith) c.input_digits.ensures

pub returns-in-99 : goal.returns-in-99
returns-in-99 c = moved (omega arith) c.output_digits.ensures

pub returns-in-113 : goal.returns-in-113
returns-in-113 c = moved (omega arith) c.inputs.ensures

pub returns-in-115 : goal.returns-in-115
returns-in-115 c = moved (omega arith) c.outputs.ensures

pub returns-in-16 : goal.returns-in-16
returns-in-16 c = moved (omega arith) c.error_register.ensures

pub returns-in_default : goal.returns-in_default
unfolding stretches families_of without first
returns-in_default c = no_family _ c.in_default.in_default-own.rest
