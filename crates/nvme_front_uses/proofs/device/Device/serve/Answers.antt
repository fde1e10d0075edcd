use Rattle.std.proofs.Common.{refl, ◌∙◌, arith}
use Rattle.nvme_lane.proofs.Prefixes.{IsPrefix-trans}
use Rattle.nvme_log.proofs.Prefixes.{IsPrefix-refl}
use Rattle.nvme_front.proofs.EndsSeen.{GoesOn-refl, GoesOn-trans}
use Rattle.nvme_front_uses.proofs.device.Device.serve.Goals as goal

pub loop-init : goal.loop-init
loop-init g c = record { goes_on = GoesOn-refl _; account = λ some. absurd (omega (arith, some)); script = refl; collected = IsPrefix-refl _ }

pub loop-preserved : goal.loop-preserved
loop-preserved g c =
    let done = c.round.ensures in
    let inv = c.loop.invariant in
    record {
      goes_on = GoesOn-trans _ _ _ inv.goes_on done.goes_on;
      account = λ _. done.account;
      script = done.script ∙ inv.script;
      collected = IsPrefix-trans _ _ _ inv.collected done.collected;
    }

pub returns-in_err-round-clause-goes_on : goal.returns-in_err-round-clause-goes_on
returns-in_err-round-clause-goes_on g c = GoesOn-trans _ _ _ c.loop.invariant.goes_on c.round.ensures.goes_on

pub returns-then-is_done-clause-goes_on : goal.returns-then-is_done-clause-goes_on
returns-then-is_done-clause-goes_on g c = GoesOn-trans _ _ _ c.loop.invariant.goes_on c.round.ensures.goes_on
