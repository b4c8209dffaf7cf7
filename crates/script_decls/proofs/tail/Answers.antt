-- `tail` meets its contract, a stage at a time.
use Rattle.script_decls.proofs.tail.Goals as goal

pub returns-in-Variables : goal.returns-in-Variables
returns-in-Variables c = rw c.in-Variables.is c.variable_tail.ensures

pub returns-in-Arrays : goal.returns-in-Arrays
returns-in-Arrays c = rw c.in-Arrays.is c.array_tail.ensures

pub returns-in-Functions : goal.returns-in-Functions
returns-in-Functions c = rw c.in-Functions.is c.function_tail.ensures
