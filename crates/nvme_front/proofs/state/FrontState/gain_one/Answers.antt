-- The command whose result was gained is one whose tag is out, and its status is its outcome.
use Rattle.std.proofs.Common.{refl}
use Rattle.nvme_engine.specs.Calls.{HasAnswered}
use Rattle.nvme_front.specs.inside.Room.{IsRunning}
use Rattle.nvme_front.specs.inside.State.{rules_of}
use Rattle.nvme_front.proofs.PostOne.{engine_stands}
use Rattle.nvme_front.proofs.States.{Goes-same, kept_same}
use Rattle.nvme_front.proofs.GainOne.{same_jobs, stray-goes, stray-kept, stray-seen, gained-fewer, gained-goes, gained-kept, gained_tagged, gained_entry, gained_status}
use Rattle.nvme_jobs.proofs.Balances.{balances-still, balances-gained}
use Rattle.nvme_front.proofs.state.FrontState.gain_one.Goals as goal

pub returns-in-Nothing-clause-goes : goal.returns-in-Nothing-clause-goes
returns-in-Nothing-clause-goes c = Goes-same c.args.self.now _ (same_jobs c.args.self.now _ c.gain.new.self c.in-Nothing.ensures.0)

pub returns-in-Nothing-clause-consistent : goal.returns-in-Nothing-clause-consistent
returns-in-Nothing-clause-consistent c = kept_same c.args.self.now _ (same_jobs c.args.self.now _ c.gain.new.self c.in-Nothing.ensures.0) c.requires.consistent

pub returns-in-Nothing-clause-still : goal.returns-in-Nothing-clause-still
returns-in-Nothing-clause-still c = λ _. (same_jobs c.args.self.now _ c.gain.new.self c.in-Nothing.ensures.0, c.in-Nothing.ensures.1)

pub returns-in-Nothing-clause-balanced : goal.returns-in-Nothing-clause-balanced
returns-in-Nothing-clause-balanced c = balances-still c.args.self.now.config.spaces c.args.self.now.jobs c.gain.new.self c.in-Nothing.ensures.0

pub returns-in-Stray-clause-consistent : goal.returns-in-Stray-clause-consistent
returns-in-Stray-clause-consistent c = stray-kept c.args.self.now _ c.gain.new.self c.in-Stray.ticket c.in-Stray.ensures c.requires.consistent c.requires.admin

pub returns-in-Stray-clause-goes : goal.returns-in-Stray-clause-goes
returns-in-Stray-clause-goes c = stray-goes c.args.self.now _ c.gain.new.self c.in-Stray.ticket c.in-Stray.ensures

pub returns-in-Stray-clause-stray : goal.returns-in-Stray-clause-stray
returns-in-Stray-clause-stray c = (c.in-Stray.ticket, refl, stray-seen c.args.self.now c.args.self.now.config.few_events c.gain.new.self c.in-Stray.ticket c.in-Stray.ensures)

-- ---- a result of a job
pub complete-requires : goal.complete-requires
complete-requires c = record { engine = engine_stands c.args.self.now (c.requires.consistent.running c.requires.admin) }

answered : (c : goal.After-complete)
    → HasAnswered (rules_of c.args.self.now) c.args.self.now.late (c.requires.consistent.running c.requires.admin).notes c.in-Result.dispatched.place c.in-Result.status c.complete.new.self
answered c =
    let s = c.args.self.now in
    let k : IsRunning s = c.requires.consistent.running c.requires.admin in
    let d = c.in-Result.dispatched in
    let h = c.in-Result.ensures.2 in
    let result = c.in-Result.ensures.0 in
    let tagged = gained_tagged s k c.gain.new.self d result h in
    c.complete.ensures.stands _ _ k.notes d.place d.entry k.stands tagged.held tagged.out (gained_entry s k c.gain.new.self d result h) (gained_status s k c.gain.new.self d result h c.in-Result.status c.in-Result.ensures.1)

pub returns-clause-consistent : goal.returns-clause-consistent
returns-clause-consistent c =
    gained-kept c.args.self.now (c.requires.consistent.running c.requires.admin) c.gain.new.self c.in-Result.dispatched c.in-Result.ensures.0 c.in-Result.ensures.2
    _ c.complete.new.self c.in-Result.status (answered c) c.requires.consistent c.requires.admin

pub returns-clause-goes : goal.returns-clause-goes
returns-clause-goes c =
    gained-goes c.args.self.now (c.requires.consistent.running c.requires.admin) c.gain.new.self c.in-Result.dispatched c.in-Result.ensures.0 c.in-Result.ensures.2
    _ c.complete.new.self c.in-Result.status (answered c)

pub returns-clause-balanced : goal.returns-clause-balanced
returns-clause-balanced c =
    balances-gained c.args.self.now.config.spaces c.args.self.now.jobs c.gain.new.self c.in-Result.dispatched c.in-Result.ensures.0 c.in-Result.ensures.2

pub returns-clause-fewer : goal.returns-clause-fewer
returns-clause-fewer c = λ _.
    gained-fewer c.args.self.now.config.spaces c.args.self.now.jobs c.gain.new.self c.in-Result.dispatched c.in-Result.ensures.0 c.in-Result.ensures.2
