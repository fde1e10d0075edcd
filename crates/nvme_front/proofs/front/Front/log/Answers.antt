use Rattle.std.proofs.Common.{ap, subst, ◌∙◌}
use Rattle.nvme_front.specs.View.{FrontView, AccountsForEnds}
use Rattle.nvme_front.proofs.EndsSeen.{accounts_for_ends, admin_there}
use Rattle.nvme_front.proofs.front.Front.log.Goals as goal

pub returns-clause-account : goal.returns-clause-account
returns-clause-account c = λ gets puts late.
    let s = c.self.inside.state in
    subst AccountsForEnds c.self.view_is
    (accounts_for_ends s c.self.invariant (admin_there s c.args.self.now c.self.view_is gets puts) (ap (λ (v : FrontView). v.late) c.self.view_is ∙ late))
