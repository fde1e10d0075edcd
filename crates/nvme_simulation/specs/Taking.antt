-- What a pick makes of hosts and device. (profile)
use Rattle.std.specs.Prelude.{◌≡◌, ℕ, zero, suc}
use Rattle.nvme_arbiter.specs.declared.pick.Pick.{Pick}
use Rattle.nvme_simulation.specs.Machines.{TakesPicked}
use Rattle.nvme_simulation.specs.Progress.{AllGoOn}
use Rattle.nvme_simulation.specs.Reading.{HasRead}
use Rattle.nvme_simulation.specs.Resting.{AllRest}
use Rattle.nvme_simulation.specs.Times.{now_of}
use Rattle.nvme_simulation.specs.declared.front.Front.{Front}
use Rattle.nvme_simulation.specs.declared.happening.Happening.{Happening}
use Rattle.nvme_simulation.specs.declared.happening.Happening.TheVariants.{Over, Picked, Settled}
use Rattle.nvme_simulation.specs.declared.machine.Machine.{Machine}

-- the device takes so many commands of a queue, one after another
unfoldable pub TakesAll : (count qid : ℕ) → (before after : Machine) → Type 0
TakesAll zero qid before after = after ≡ before
TakesAll (suc n) qid before after = (m : Machine) × (TakesAll n qid before m × TakesPicked qid m after)

-- hosts submit commands and the controller reads some: none is picked, starts or is done. The device isn't called, and nothing is planned
pub record Reads (before after : Machine) : Type 0 where
  pub goes : AllGoOn (now_of before.agenda) before.hosts after.hosts
  pub rests : AllRest before.hosts after.hosts
  pub device : after.device ≡ before.device
  pub agenda : after.agenda ≡ before.agenda

-- the controller picks commands, the device takes them, as many as the pick has, and then the controller reads what it may
pub record TakesPick (pick : Pick) (before after : Machine) : Type 0 where
  pub front : Front
  pub taken : Machine
  pub takes : TakesAll pick.n pick.qid (record before { front = front }) taken
  pub reads : Reads taken after
  pub all : HasRead pick.qid after.front

-- what is picked is what is told. Where none is, nothing but the controller changes, and at the end nothing but the agenda
abbrev pub PicksAsTold : (before after : Machine) → Happening → Type 0
PicksAsTold before after (Picked p) = TakesPick p.pick before after
PicksAsTold before after Settled = after ≡ record before { front = after.front }
PicksAsTold before after Over = after ≡ record before { agenda = after.agenda }
PicksAsTold before after h = Unit {0}
