-- What a host does. (profile)
use Rattle.std.specs.Prelude.{ℕ}
use Rattle.nvme_arbiter.specs.declared.settings.Class.{Class}
use Rattle.nvme_load.specs.declared.arrivals.Arrivals.{Arrivals}
use Rattle.nvme_load.specs.declared.mix.Mix.{Mix}
use Rattle.nvme_load.specs.declared.places.Places.{Places}
use Rattle.nvme_load.specs.declared.services.Services.{Services}
use Rattle.nvme_model.specs.declared.queue.Queue.{Queue}
use Rattle.nvme_simulation.specs.declared.host.Host.{Host}

-- the class of its queue, how many slots each of its rings has, when its commands come, what they ask for, where, and how long they run
pub record Load : Type 0 where
  pub class : Class
  pub slots : ℕ
  pub arrivals : Arrivals
  pub mix : Mix
  pub places : Places
  pub services : Services

abbrev pub load_in : Queue → Load
load_in q = record { class = q.class; slots = q.slots; arrivals = q.arrivals; mix = q.mix; places = q.places; services = q.services }

abbrev pub load_of : Host → Load
load_of h = record { class = h.class; slots = h.slots; arrivals = h.arrivals; mix = h.mix; places = h.places; services = h.services }
