use Rattle.nvme_arbiter.specs.Standing.{last_of, used_of}
use Rattle.nvme_arbiter.specs.Layout.{kept_of}
use Rattle.nvme_arbiter.proofs.Choices.{round_robin_idle, weighted_idle}
use Rattle.nvme_arbiter.proofs.arbiter_fields.ArbiterFields.peek.Goals as goal

pub returns-in-RoundRobin-clause-none_where_idle : goal.returns-in-RoundRobin-clause-none_where_idle
returns-in-RoundRobin-clause-none_where_idle g c =
    rw c.round_robin.ensures (round_robin_idle (kept_of c.args.self.now).settings (kept_of c.args.self.now).last.all (g.Q.ReadyQueues.seen c.args.queues.now))

pub returns-in-Weighted-clause-none_where_idle : goal.returns-in-Weighted-clause-none_where_idle
returns-in-Weighted-clause-none_where_idle g c =
    rw c.weighted.ensures (weighted_idle (kept_of c.args.self.now).settings (last_of (kept_of c.args.self.now).last) (used_of (kept_of c.args.self.now).used) (g.Q.ReadyQueues.seen c.args.queues.now))
