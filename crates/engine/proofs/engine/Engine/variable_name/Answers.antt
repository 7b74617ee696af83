-- The name is the loader's.
use Rattle.engine.proofs.engine.Engine.variable_name.Goals as goal

pub returns-clause-name : goal.returns-clause-name
returns-clause-name c = c.variable_name.ensures.name
