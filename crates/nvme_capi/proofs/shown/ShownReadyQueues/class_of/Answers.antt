use Rattle.std.proofs.Common.{◌∙◌, sym, ap}
use Rattle.std.specs.Prelude.{option_map}
use Rattle.nvme_arbiter.specs.declared.pick.Seen.{Seen}
use Rattle.nvme_capi.proofs.shown.ShownReadyQueues.class_of.Goals as goal

pub returns-in-Some : goal.returns-in-Some
returns-in-Some c = ap (option_map (λ (s : Seen). s.class)) (sym c.in-Some.is ∙ c.queue_of.ensures)

pub returns-in-None : goal.returns-in-None
returns-in-None c = ap (option_map (λ (s : Seen). s.class)) (sym c.in-None.is ∙ c.queue_of.ensures)
