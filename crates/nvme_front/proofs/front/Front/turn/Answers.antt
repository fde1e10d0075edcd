use Rattle.std.proofs.Common.{ℕ, List, subst}
use Rattle.std.specs.Prelude.{OnOk}
use Rattle.nvme_entry.specs.declared.submission.Sqe.{Sqe}
use Rattle.nvme_front.specs.View.{FrontView, GoesOn, HasNoStray}
use Rattle.nvme_front.specs.inside.State.{view_of}
use Rattle.nvme_front.specs.LoadedFront.{IsLoadedFront, GotWithin}
use Rattle.nvme_front.proofs.States.{admin-goes}
use Rattle.nvme_front.proofs.EndsSeen.{accounts_for_ends, admin_there, view_goes_on}
use Rattle.nvme_front.proofs.Executions.{none_in_hand_posted}
use Rattle.nvme_front.proofs.Results.{results_of}
use Rattle.nvme_front.proofs.front.Front.turn.Goals as goal

pub returns-clause-goes_on : goal.returns-clause-goes_on
returns-clause-goes_on g c =
    subst (λ (v : FrontView). GoesOn v (view_of c.turn.new.self)) c.self.view_is (view_goes_on c.self.inside.state c.turn.new.self c.turn.ensures.goes)

pub returns-clause-account : goal.returns-clause-account
returns-clause-account g c = λ late.
    let admin = admin_there c.self.inside.state c.args.self.now c.self.view_is c.requires.admin_sq c.requires.admin_cq in
    accounts_for_ends c.turn.new.self c.turn.ensures.consistent (admin-goes c.self.inside.state c.turn.new.self c.turn.ensures.goes admin) late

pub returns-clause-jobs : goal.returns-clause-jobs
returns-clause-jobs g c =
    let admin = admin-goes c.self.inside.state c.turn.new.self c.turn.ensures.goes (admin_there c.self.inside.state c.args.self.now c.self.view_is c.requires.admin_sq c.requires.admin_cq) in
    (c.turn.ensures.consistent.running admin).jobs.account

pub returns-clause-executed : goal.returns-clause-executed
returns-clause-executed g c = none_in_hand_posted c.turn.new.self c.turn.ensures.consistent

pub returns-clause-results : goal.returns-clause-results
returns-clause-results g c = results_of c.turn.new.self c.turn.ensures.consistent

pub returns-clause-no_stray : goal.returns-clause-no_stray
returns-clause-no_stray g c =
    subst (λ (v : FrontView). OnOk c.turn.result (HasNoStray v (view_of c.turn.new.self))) c.self.view_is c.turn.ensures.balanced

pub returns-clause-within : goal.returns-clause-within
returns-clause-within g c = c.turn.ensures.consistent.roomy.few_events

pub returns-clause-loaded : goal.returns-clause-loaded
returns-clause-loaded g c =
    subst (λ (v : FrontView). (scripts : ℕ → List Sqe) → GotWithin scripts (view_of c.turn.new.self) → IsLoadedFront scripts v → IsLoadedFront scripts (view_of c.turn.new.self))
    c.self.view_is c.turn.ensures.loads
