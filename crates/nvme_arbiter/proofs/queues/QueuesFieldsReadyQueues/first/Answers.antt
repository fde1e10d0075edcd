use Rattle.std.proofs.Common.{◌∙◌, sym}
use Rattle.nvme_arbiter.specs.Layout.{slots_in}
use Rattle.nvme_arbiter.proofs.MaskLemmas.{admin-other, first-found, zero-found}
use Rattle.nvme_arbiter.proofs.queues.QueuesFieldsReadyQueues.first.Goals as goal

pub returns-then-is_io : goal.returns-then-is_io
returns-then-is_io c =
    first-found (slots_in c.args.self.now) c.args.class c.first_from.result (admin-other c.args.self.now c.args.class (sym c.is_io.ensures ∙ c.if-is_io.true)) c.first_from.ensures

pub returns-in-Some : goal.returns-in-Some
returns-in-Some c = zero-found (slots_in c.args.self.now) c.args.class c.in-Some.seen c.in-Some.ensures.some

pub returns-in-None : goal.returns-in-None
returns-in-None c = first-found (slots_in c.args.self.now) c.args.class c.first_from-in-None.result c.in-None.ensures.none c.first_from-in-None.ensures
