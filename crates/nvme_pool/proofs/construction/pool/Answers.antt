use Rattle.std.proofs.Common.{arith}
use Rattle.nvme_pool.proofs.Beginnings.{pool_made}
use Rattle.nvme_pool.proofs.construction.pool.Goals as goal

pub returns-clause-pool : goal.returns-clause-pool
returns-clause-pool c =
    pool_made _ _ _ c.in-Some.push _ _ _ c.in-Ok.ensures.all c.in-Some.ensures.items (omega (arith, c.in-Ok.pushes.ok, c.in-Ok.ensures.producers)) c.in-Ok-with_rings.ensures.passes
    (omega (arith, c.in-Ok-with_rings.made.ok, c.in-Ok-with_rings.ensures.count, c.in-Ok.ensures.consumers, c.if-workers-gt-MAX_WORKERS.false)) c.in-Ok-with_rings.ensures.rings
