use Rattle.std.proofs.Common.{◌∙◌, sym}
use Rattle.std.proofs.lemmas.Bool.{eqb-true}
use Rattle.nvme_arbiter.proofs.MaskLemmas.{none-of-io, none-of-admin}
use Rattle.nvme_arbiter.proofs.queues.QueuesFieldsReadyQueues.has_none.Goals as goal

pub returns-then-is_io : goal.returns-then-is_io
returns-then-is_io c none = none-of-io c.args.self.now c.args.class (sym c.is_io.ensures ∙ c.if-is_io.true) (sym c.mask_for.ensures ∙ eqb-true c.mask_for.result 0 none)

pub returns-then-is_some : goal.returns-then-is_some
returns-then-is_some c none = none-of-admin c.args.self.now c.args.class (sym c.is_io.ensures ∙ c.if-is_io.false) (sym c.is_some.ensures ∙ c.if-is_some.true) (eqb-true _ 0 none)
