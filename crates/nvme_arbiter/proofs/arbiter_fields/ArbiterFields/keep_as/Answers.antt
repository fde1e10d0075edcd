use Rattle.nvme_arbiter.specs.Layout.{kept_of}
use Rattle.nvme_arbiter.proofs.Stands.{cut_within, stands_picked}
use Rattle.nvme_arbiter.proofs.arbiter_fields.ArbiterFields.keep_as.Goals as goal

pub note-requires-clause-within : goal.note-requires-clause-within
note-requires-clause-within g c =
    rw c.requires.class (cut_within (kept_of c.args.self.now) (g.Q.ReadyQueues.seen c.args.queues.now) c.args.pick c.requires.observed c.requires.peeked)

pub returns-clause-stands : goal.returns-clause-stands
returns-clause-stands g c = λ m first past h.
    rw (c.note.ensures.kept, c.requires.class) (stands_picked m first past (kept_of c.args.self.now) (g.Q.ReadyQueues.seen c.args.queues.now) c.args.pick h)
