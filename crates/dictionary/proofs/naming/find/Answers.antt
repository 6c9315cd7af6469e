-- `naming::find` meets its contract: the short account of an index gives what the index with its sub names in a unit (`Sought`).
-- Assumes nothing.
use mathlib.Core.Path.{refl, ◌∙◌}
use Rattle.dictionary.proofs.naming.NameLaws.{array_of}
use Rattle.dictionary.proofs.naming.Sought.{is_errors, elsewhere, there}
use Rattle.dictionary.specs.Names.{named}
use Rattle.dictionary.specs.Objects.{meant}
use Rattle.dictionary.specs.declared.objects.Object.TheVariants.{Unknown, Constants}
use Rattle.dictionary.proofs.naming.find.Goals as goal

pub in_array-requires : goal.in_array-requires
in_array-requires c = array_of _ _ _ _ c.in-Array.is c.rows_of.ensures

pub returns-in-Unknown : goal.returns-in-Unknown
unfolding named meant is_errors
returns-in-Unknown c = elsewhere _ Unknown _ _ _ c.in-Unknown.is c.rows_of.ensures refl

pub returns-in-Var : goal.returns-in-Var
unfolding is_errors
returns-in-Var c = c.in_var.ensures ∙ elsewhere _ _ _ _ _ c.in-Var.is c.rows_of.ensures refl

pub returns-in-Array : goal.returns-in-Array
unfolding is_errors
returns-in-Array c = c.in_array.ensures ∙ elsewhere _ _ _ _ _ c.in-Array.is c.rows_of.ensures refl

pub returns-in-Constants : goal.returns-in-Constants
unfolding is_errors
returns-in-Constants c = c.in_constants.ensures ∙ elsewhere _ Constants _ _ _ c.in-Constants.is c.rows_of.ensures refl

pub returns-in-Errors : goal.returns-in-Errors
returns-in-Errors c = c.in_errors.ensures ∙ there _ _ _ _ c.in-Errors.is c.rows_of.ensures
