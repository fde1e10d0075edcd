-- What was running is the command that was found, and the rest; or nothing was found, and all is left.
use Rattle.std.proofs.Common.{refl, sym}
use Rattle.nvme_jobs.proofs.jobs.Jobs.gain.Goals as goal

pub returns-in_default-take : goal.returns-in_default-take
returns-in_default-take c = rw (← c.self.view_is) (record {
  result = c.in-Some.finished;
  seat = c.gain.new.self;
  can = record { same = c.gain.ensures.same; handed = c.gain.ensures.handed; gained = c.in-Some.ensures.gained };
  of_ticket = sym c.ticket.ensures;
  of_none = c.in_default-take.ensures.none;
  are = rw c.in_default-take.ensures.unchanged refl;
})

pub returns : goal.returns
returns c = rw (← c.self.view_is) (
  c.in-Some.finished,
  c.status.ensures.value,
  record {
    rest = c.take.new.self.items;
    seat = c.gain.new.self;
    can = record { same = c.gain.ensures.same; handed = c.gain.ensures.handed; gained = c.in-Some.ensures.gained };
    its = record { running_is = c.in-Some-take.ensures.rest; its_job = c.in-Some-take.ensures.job };
    are = refl;
  },
)
