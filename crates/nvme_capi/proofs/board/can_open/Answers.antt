use Rattle.std.proofs.Common.{[], arith}
use Rattle.std.proofs.lemmas.List.Elements.{All-nil, All-cons, All-head}
use Rattle.nvme_arbiter.specs.Observation.{IsSeen}
use Rattle.nvme_arbiter.specs.Queues.{seen_as}
use Rattle.nvme_arbiter.specs.declared.pick.Seen.{Seen}
use Rattle.nvme_capi.proofs.board.can_open.Goals as goal

pub returns : goal.returns
returns c =
    let seen : Seen = seen_as c.args.qid (record { class = c.args.class; count = 0 }) in
    let test = c.is_observation.ensures in
    (λ yes. All-head IsSeen seen [] (test.0 yes).each, λ fits. test.1 (record { each = All-cons IsSeen seen [] fits (All-nil IsSeen); ascending = λ i j d h k. absurd (omega arith) }))
