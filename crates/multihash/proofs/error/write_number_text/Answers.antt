use Rattle.multihash.proofs.Common.{arith, common_steps}
use Rattle.std.proofs.Output.{has_written_styled_append}
use Rattle.multihash.proofs.error.write_number_text.Goals as goal

pub returns-clause-styled : goal.returns-clause-styled
returns-clause-styled g c flush ok = grind (arith, common_steps, has_written_styled_append)
