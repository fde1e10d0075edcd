-- The keys of a simulation file, and those that each kind of table has. (profile)
use Rattle.std.specs.Prelude.{codes, ℕ, List, [], ◌∷◌}
use Rattle.nvme_model_form.specs.declared.key.Key.{Key}
use Rattle.nvme_model_form.specs.declared.key.Key.TheVariants as key

-- a key as it stands in a file
abbrev pub text_of : Key → List ℕ
text_of key.Version = codes "version"
text_of key.Mechanism = codes "mechanism"
text_of key.Burst = codes "burst"
text_of key.Weights = codes "weights"
text_of key.Simulation = codes "simulation"
text_of key.Device = codes "device"
text_of key.Queue = codes "queue"
text_of key.Seed = codes "seed"
text_of key.Commands = codes "commands"
text_of key.Time = codes "time"
text_of key.WarmUp = codes "warm_up"
text_of key.Channels = codes "channels"
text_of key.Depth = codes "depth"
text_of key.Placing = codes "placing"
text_of key.Stripe = codes "stripe"
text_of key.Size = codes "size"
text_of key.Pauses = codes "pauses"
text_of key.Read = codes "read"
text_of key.Write = codes "write"
text_of key.Flush = codes "flush"
text_of key.Every = codes "every"
text_of key.For = codes "for"
text_of key.Class = codes "class"
text_of key.Slots = codes "slots"
text_of key.Arrivals = codes "arrivals"
text_of key.Mix = codes "mix"
text_of key.Blocks = codes "blocks"
text_of key.Offsets = codes "offsets"
text_of key.Fixed = codes "fixed"
text_of key.Exponential = codes "exponential"
text_of key.Usual = codes "usual"
text_of key.Rare = codes "rare"
text_of key.OneIn = codes "one_in"
text_of key.Quantiles = codes "quantiles"
text_of key.PerBlock = codes "per_block"
text_of key.Poisson = codes "poisson"
text_of key.Closed = codes "closed"
text_of key.Think = codes "think"
text_of key.Bursts = codes "bursts"
text_of key.On = codes "on"
text_of key.Off = codes "off"
text_of key.Replay = codes "replay"
text_of key.Form = codes "form"
text_of key.Speed = codes "speed"

-- the file's own table
abbrev pub file_keys : List Key
file_keys = key.Version ∷ key.Mechanism ∷ key.Burst ∷ key.Weights ∷ key.Simulation ∷ key.Device ∷ key.Queue ∷ []

-- `simulation`
abbrev pub simulation_keys : List Key
simulation_keys = key.Seed ∷ key.Commands ∷ key.Time ∷ key.WarmUp ∷ []

-- `device`
abbrev pub device_keys : List Key
device_keys = key.Channels ∷ key.Depth ∷ key.Placing ∷ key.Stripe ∷ key.Size ∷ key.Read ∷ key.Write ∷ key.Flush ∷ key.Pauses ∷ []

-- `pauses`
abbrev pub pause_keys : List Key
pause_keys = key.Every ∷ key.For ∷ []

-- a queue
abbrev pub queue_keys : List Key
queue_keys = key.Class ∷ key.Slots ∷ key.Arrivals ∷ key.Mix ∷ key.Blocks ∷ key.Offsets ∷ key.Read ∷ key.Write ∷ key.Flush ∷ []

-- `mix`
abbrev pub mix_keys : List Key
mix_keys = key.Read ∷ key.Write ∷ key.Flush ∷ []

-- `arrivals`
abbrev pub arrival_keys : List Key
arrival_keys = key.Poisson ∷ key.Every ∷ key.Closed ∷ key.Think ∷ key.Bursts ∷ key.Replay ∷ []

-- `arrivals` that replay a file
abbrev pub replay_keys : List Key
replay_keys = key.Replay ∷ key.Form ∷ key.Speed ∷ key.Queue ∷ []

-- `bursts`
abbrev pub burst_keys : List Key
burst_keys = key.Poisson ∷ key.On ∷ key.Off ∷ []

-- the service of reads or writes
abbrev pub service_keys : List Key
service_keys = key.Fixed ∷ key.Exponential ∷ key.Usual ∷ key.Rare ∷ key.OneIn ∷ key.Quantiles ∷ key.PerBlock ∷ []

-- the service of flushes
abbrev pub flush_keys : List Key
flush_keys = key.Fixed ∷ key.Exponential ∷ key.Usual ∷ key.Rare ∷ key.OneIn ∷ key.Quantiles ∷ []
