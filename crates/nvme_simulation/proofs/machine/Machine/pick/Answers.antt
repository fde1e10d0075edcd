use Rattle.std.proofs.Common.{Some, inr, refl, subst, ℕ}
use Rattle.nvme_ctrl_log.specs.Steps.{IsNextWithin}
use Rattle.nvme_simulation.proofs.Hosted.{all_stay}
use Rattle.nvme_simulation.proofs.Machines.{acts, acts_front, acts_then, goes_self, goes_then}
use Rattle.nvme_simulation.proofs.Quiet.{quiet_self, quiet_then}
use Rattle.nvme_simulation.proofs.machine.Machine.pick.Goals as goal

pub returns-then-room-eq0-clause-goes : goal.returns-then-room-eq0-clause-goes
returns-then-room-eq0-clause-goes c = acts _ _ (goes_self _ c.requires.front)

pub returns-then-room-eq0-clause-passes : goal.returns-then-room-eq0-clause-passes
returns-then-room-eq0-clause-passes c may counts = all_stay _ _

pub returns-in_err-take_all-in-Picked-clause-goes : goal.returns-in_err-take_all-in-Picked-clause-goes
returns-in_err-take_all-in-Picked-clause-goes c = acts_then _ _ _ (acts_front _ _ (all_stay _ _) c.pick.ensures.front refl refl) c.take_all.ensures.goes

pub returns-in_err-fetch-in-Picked-clause-goes : goal.returns-in_err-fetch-in-Picked-clause-goes
returns-in_err-fetch-in-Picked-clause-goes c =
    acts_then _ _ _ (acts_then _ _ _ (acts_front _ _ (all_stay _ _) c.pick.ensures.front refl refl) c.take_all.ensures.goes) c.fetch.ensures.goes

pub returns-in_ok-fetch-in-Picked-clause-goes : goal.returns-in_ok-fetch-in-Picked-clause-goes
returns-in_ok-fetch-in-Picked-clause-goes c =
    acts_then _ _ _ (acts_then _ _ _ (acts_front _ _ (all_stay _ _) c.pick.ensures.front refl refl) c.take_all.ensures.goes) c.fetch.ensures.goes

pub returns-in_ok-fetch-in-Picked-clause-passes : goal.returns-in_ok-fetch-in-Picked-clause-passes
returns-in_ok-fetch-in-Picked-clause-passes c may counts = (goes_then _ _ _ c.take_all.ensures.goes c.fetch.ensures.goes).hosts

pub returns-in_ok-fetch-in-Picked-clause-lawful : goal.returns-in_ok-fetch-in-Picked-clause-lawful
returns-in_ok-fetch-in-Picked-clause-lawful c rules late notes s =
    let picked = c.pick.ensures.picked c.in-Picked.pick c.in-Picked.is rules late notes s in
    (c.room-room.ensures, subst (λ (room : ℕ). IsNextWithin rules notes room (Some c.in-Picked.pick)) c.room-room.ensures picked)

pub returns-in-Idle-clause-goes : goal.returns-in-Idle-clause-goes
returns-in-Idle-clause-goes c = acts_front _ _ (all_stay _ _) c.pick.ensures.front refl refl

pub returns-in-Idle-clause-passes : goal.returns-in-Idle-clause-passes
returns-in-Idle-clause-passes c may counts = all_stay _ _

pub returns-in-Idle-clause-lawful : goal.returns-in-Idle-clause-lawful
returns-in-Idle-clause-lawful c rules late notes s = inr (c.pick.ensures.idle c.in-Idle.is rules late notes s)

pub returns-in_default-clause-goes : goal.returns-in_default-clause-goes
returns-in_default-clause-goes c = acts_front _ _ (all_stay _ _) c.pick.ensures.front refl refl

pub returns-in_default-2 : goal.returns-in_default-2
returns-in_default-2 c = record {
  goes = acts_front _ _ (all_stay _ _) c.pick.ensures.front refl refl;
  cost = tt;
  of_picks = tt;
  timed = tt;
  counts = λ end now occupancy. tt;
  lawful = λ rules late notes s. tt;
  passes = λ may counts. tt;
  notes = tt;
  picks = tt;
}

pub returns-in_ok-fetch-in-Picked-clause-picks : goal.returns-in_ok-fetch-in-Picked-clause-picks
returns-in_ok-fetch-in-Picked-clause-picks c = record {
  front = c.pick.new.self;
  taken = c.take_all.new.self;
  takes = c.in_ok-take_all-in-Picked.ensures.takes;
  reads = record { goes = c.fetch.ensures.goes.hosts; rests = c.fetch.ensures.rests; device = c.fetch.ensures.device; agenda = c.fetch.ensures.agenda };
  all = c.in_ok-fetch-in-Picked.ensures.all;
}

pub returns-then-room-eq0-clause-notes : goal.returns-then-room-eq0-clause-notes
returns-then-room-eq0-clause-notes c = quiet_self c.args.self.now.front

pub returns-in-Idle-clause-notes : goal.returns-in-Idle-clause-notes
returns-in-Idle-clause-notes c = c.pick.ensures.still c.in-Idle.is

pub returns-in_ok-fetch-in-Picked-clause-notes : goal.returns-in_ok-fetch-in-Picked-clause-notes
returns-in_ok-fetch-in-Picked-clause-notes c rules late notes s =
    quiet_then c.pick.new.self c.take_all.new.self.front c.fetch.new.self.front c.take_all.ensures.goes.front.quiet c.fetch.ensures.goes.front.quiet rules late _ (c.pick.ensures.noted c.in-Picked.pick c.in-Picked.is rules late notes s)
