use Rattle.std.proofs.Common.{arith}
use Rattle.place_spool.proofs.Places.{cells_held, cells_count}
use Rattle.place_spool.proofs.memory.cells.Goals as goal

pub returns-clause-held : goal.returns-clause-held
returns-clause-held c = cells_held c.args.memory.now c.as_chunks.result.0.now _ c.as_chunks.ensures.front (omega arith)

pub returns-clause-count : goal.returns-clause-count
returns-clause-count c = cells_count c.args.memory.now c.as_chunks.result.0.now _ c.as_chunks.ensures.front (omega arith)
