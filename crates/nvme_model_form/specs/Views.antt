-- The numbers that the parts of a model hold. (profile)
use Rattle.std.specs.Prelude.{ℕ, List, Option, Some, None}
use Rattle.nvme_arbiter.specs.declared.settings.Class.{Class}
use Rattle.nvme_clock.specs.Quantiles.{values_of}
use Rattle.nvme_channels.specs.declared.placement.Placement.{Placement}
use Rattle.nvme_channels.specs.declared.placement.Placement.TheVariants as placement
use Rattle.nvme_load.specs.declared.arrivals.Arrivals.{Arrivals}
use Rattle.nvme_load.specs.declared.arrivals.Arrivals.TheVariants as arrivals
use Rattle.nvme_load.specs.declared.mix.Mix.{Mix}
use Rattle.nvme_load.specs.declared.places.Order.{Order}
use Rattle.nvme_load.specs.declared.services.Distribution.{Distribution}
use Rattle.nvme_load.specs.declared.services.Distribution.TheVariants as distribution
use Rattle.nvme_load.specs.declared.services.Service.{Service}
use Rattle.nvme_load.specs.declared.services.Services.{Services}
use Rattle.nvme_model.specs.declared.device.Device.{Device}
use Rattle.nvme_model.specs.declared.device.Pauses.{Pauses}
use Rattle.nvme_model.specs.declared.model.End.{End}
use Rattle.nvme_model.specs.declared.queue.Queue.{Queue}

-- ---- when commands come

pub data Coming : Type 0 where
  ByPoisson : (mean : ℕ) → Coming
  ByGap : (gap : ℕ) → Coming
  InBursts : (mean on off : ℕ) → Coming
  BehindOthers : (depth think : ℕ) → Coming
  Replayed : Coming

abbrev pub coming_of : Arrivals → Coming
coming_of (arrivals.Poisson mean) = ByPoisson mean.picoseconds
coming_of (arrivals.Regular gap) = ByGap gap.picoseconds
coming_of (arrivals.OnOff phases) = InBursts phases.mean.picoseconds phases.on phases.off
coming_of (arrivals.Closed host) = BehindOthers host.depth host.think
-- (its list is that of a file)
coming_of (arrivals.Replay list) = Replayed

-- ---- how long the device takes

pub data Spread : Type 0 where
  Always : (time : ℕ) → Spread
  Exponentially : (mean : ℕ) → Spread
  OneOfTwo : (usual rare times out_of : ℕ) → Spread
  ByQuantiles : (times : List ℕ) → Spread

abbrev pub spread_of : Distribution → Spread
spread_of (distribution.Fixed time) = Always time
spread_of (distribution.Exponential mean) = Exponentially mean.picoseconds
spread_of (distribution.TwoPoints points) = OneOfTwo points.usual points.rare points.times points.out_of
spread_of (distribution.Quantiles table) = ByQuantiles (values_of table)

pub record Taking : Type 0 where
  pub spread : Spread
  pub per_block : ℕ

abbrev pub taking_of : Service → Taking
taking_of service = record { spread = spread_of service.time; per_block = service.per_block }

pub record Serving : Type 0 where
  pub read : Taking
  pub write : Taking
  pub flush : Spread

abbrev pub serving_of : Services → Serving
serving_of services = record { read = taking_of services.read; write = taking_of services.write; flush = spread_of services.flush }

-- ---- the device

pub data Placing : Type 0 where
  Anywhere : Placing
  InStripes : (blocks : ℕ) → Placing

abbrev pub placing_of : Placement → Placing
placing_of placement.Pool = Anywhere
placing_of (placement.Striped stripe) = InStripes stripe.blocks

pub record Resting : Type 0 where
  pub every : ℕ
  pub length : ℕ

abbrev pub resting_of : Option Pauses → Option Resting
resting_of None = None
resting_of (Some pauses) = Some (record { every = pauses.every; length = pauses.length })

pub record Running : Type 0 where
  pub channels : ℕ
  pub depth : ℕ
  pub placing : Placing
  pub resting : Option Resting

abbrev pub running_of : Device → Running
running_of device = record { channels = device.channels; depth = device.depth; placing = placing_of device.placement; resting = resting_of device.pauses }

-- ---- the queues

pub record Shares : Type 0 where
  pub read : ℕ
  pub write : ℕ
  pub flush : ℕ

abbrev pub shares_of : Mix → Shares
shares_of mix = record { read = mix.read; write = mix.write; flush = mix.flush }

pub record Asking : Type 0 where
  pub class : Class
  pub slots : ℕ
  pub coming : Coming
  pub shares : Shares
  pub size : ℕ
  pub blocks : ℕ
  pub order : Order
  pub read : Taking
  pub write : Taking
  pub flush : Spread

abbrev pub asking_of : Queue → Asking
asking_of queue = record { class = queue.class; slots = queue.slots; coming = coming_of queue.arrivals; shares = shares_of queue.mix; size = queue.places.extent.size; blocks = queue.places.extent.blocks; order = queue.places.order; read = taking_of queue.services.read; write = taking_of queue.services.write; flush = spread_of queue.services.flush }

-- ---- the end

pub record Ending : Type 0 where
  pub commands : ℕ
  pub time : Option ℕ

abbrev pub ending_of : End → Ending
ending_of end = record { commands = end.commands; time = end.time }
