-- The values' lines stand behind that of the number.
use Rattle.record.specs.StatesText.{state_line, value_lines}
use Rattle.record.proofs.PlacedParts.{placed_then}
use Rattle.record.proofs.placing.put_state.Goals as goal

pub returns : goal.returns
returns c = placed_then (state_line c.args.state) (value_lines 0 c.args.values.now) _ _ _ _ _ _ c.put_line-at.ensures c.put_values.ensures
