-- The whole of a simulation file. (profile)
use Rattle.std.specs.Prelude.{◌≡◌, ℕ, Bool, ◌||◌, is_some, List, length, map, Option, Some, None}
use Rattle.toml.specs.Data.{Members}
use Rattle.nvme_arbiter.specs.declared.settings.Mechanism.{Mechanism}
use Rattle.nvme_arbiter.specs.Settings.{ArbitrationFields, settings_of}
use Rattle.nvme_model.specs.declared.model.Model.{Model}
use Rattle.nvme_short_form.specs.declared.key.Key.TheVariants as short_key
use Rattle.nvme_short_form.specs.declared.place.Place.TheVariants as place
use Rattle.nvme_short_form.specs.Readings.{value_in as short_value_in}
use Rattle.nvme_short_form.specs.Form.{optional_mechanism}
use Rattle.nvme_short_form.specs.Admin.{arbitration_in}
use Rattle.nvme_model_form.specs.declared.key.Key.TheVariants as key
use Rattle.nvme_model_form.specs.Keys.{file_keys}
use Rattle.nvme_model_form.specs.Readings.{◌>>=◌, ◌>>◌, accepted, only_keys, value_in, whole}
use Rattle.nvme_model_form.specs.Devices.{device_at, size_in, device_of}
use Rattle.nvme_model_form.specs.Queues.{queues_in, queue_count}
use Rattle.nvme_model_form.specs.Simulations.{Lasting, lasting_at}
use Rattle.nvme_model_form.specs.Views.{Asking, Running, asking_of, running_of, ending_of}

abbrev pub is_simulation : Members → Bool
is_simulation file = is_some (value_in key.Device file) || is_some (value_in key.Simulation file)

-- the mechanism, and the settings of the Arbitration feature, as the short workload file has them
abbrev pub mechanism_in : Members → Option Mechanism
mechanism_in file = accepted (optional_mechanism file (short_value_in short_key.Mechanism file))

abbrev pub settings_in : Members → Option ArbitrationFields
settings_in file = accepted (arbitration_in place.Top file) >>= (λ cdw11. Some (settings_of cdw11))

abbrev pub device_in : Members → Option Running
device_in file = device_at file >>= device_of

unfoldable pub queues_of : Members → Option (List Asking)
queues_of file = do
  device ← device_at file
  size ← size_in device
  queues_in size device file

-- ---- the whole

pub record Plan : Type 0 where
  pub mechanism : Mechanism
  pub settings : ArbitrationFields
  pub device : Running
  pub queues : List Asking
  pub lasting : Lasting

-- of the version 1, and of no key that a file may not have
unfoldable pub plan_in : Members → Option Plan
plan_in file = do
  only_keys file_keys file
  version ← value_in key.Version file
  whole 1 1 version
  mechanism ← mechanism_in file
  settings ← settings_in file
  lasting ← lasting_at file
  device ← device_in file
  queues ← queues_of file
  Some (record { mechanism = mechanism; settings = settings; device = device; queues = queues; lasting = lasting })

abbrev pub plan_of : Model → Plan
plan_of model = record { mechanism = model.mechanism; settings = model.settings; device = running_of model.device; queues = map asking_of model.queues.items; lasting = record { seed = model.seed; ending = ending_of model.end; warm_up = model.warm_up } }

-- what a file says of a model, and of each part of it
pub record Says (file : Members) (model : Model) : Type 0 where
  pub plan : plan_in file ≡ Some (plan_of model)
  pub mechanism : mechanism_in file ≡ Some model.mechanism
  pub settings : settings_in file ≡ Some model.settings
  pub device : device_in file ≡ Some (running_of model.device)
  pub queues : queues_of file ≡ Some (map asking_of model.queues.items)
  pub count : queue_count file ≡ Some (length model.queues.items)
  pub lasting : lasting_at file ≡ Some (record { seed = model.seed; ending = ending_of model.end; warm_up = model.warm_up })
