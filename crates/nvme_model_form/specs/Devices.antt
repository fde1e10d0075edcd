-- The device, by what a file says. (profile)
use Rattle.std.specs.Prelude.{ℕ, ◌&&◌, nat_lt, min, if◌then◌else◌, codes, List, Option, Some, None}
use Rattle.toml.specs.Data.{Data, Members, as_str, as_table}
use Rattle.nvme_channels.specs.declared.channels.TheConstants.{MAX_CHANNELS}
use Rattle.nvme_load.specs.declared.mix.Operation.TheVariants as operation
use Rattle.nvme_model.specs.declared.device.TheConstants.{MAX_DEPTH}
use Rattle.nvme_short_form.specs.Commands.{is_named}
use Rattle.nvme_model_form.specs.declared.key.Key.TheVariants as key
use Rattle.nvme_model_form.specs.Keys.{device_keys, pause_keys}
use Rattle.nvme_model_form.specs.Readings.{◌>>=◌, ◌>>◌, only_keys, value_in, number_or}
use Rattle.nvme_model_form.specs.Services.{checked_service}
use Rattle.nvme_model_form.specs.Times.{duration_at}
use Rattle.nvme_model_form.specs.Views.{Placing, Anywhere, InStripes, Resting, Running}

abbrev pub device_at : Members → Option Members
device_at file = value_in key.Device file >>= as_table

abbrev pub size_in : Members → Option ℕ
size_in device = number_or key.Size 1048576 1 9223372036854775807 device

unfoldable pub striped : Members → Option Placing
striped device = number_or key.Stripe 8 1 9223372036854775807 device >>= (λ blocks. Some (InStripes blocks))

-- a stripe has no effect then
abbrev pub pool_by : Option Data → Option Placing
pool_by None = Some Anywhere
pool_by (Some d) = None

abbrev pub pool : Members → Option Placing
pool device = pool_by (value_in key.Stripe device)

abbrev pub placing_named : Members → Option (List ℕ) → Option Placing
placing_named device None = None
placing_named device (Some name) =
    if is_named name (codes "pool") then pool device else (if is_named name (codes "striped") then striped device else None)

abbrev pub placing_by : Members → Option Data → Option Placing
placing_by device None = pool device
placing_by device (Some d) = placing_named device (as_str d)

abbrev pub placing_in : Members → Option Placing
placing_in device = placing_by device (value_in key.Placing device)

abbrev pub resting : (every length : ℕ) → Option Resting
resting every length = if nat_lt 0 length && nat_lt length every then Some (record { every = every; length = length }) else None

unfoldable pub resting_in : Members → Option Resting
resting_in table = do
  only_keys pause_keys table
  every ← duration_at key.Every table
  length ← duration_at key.For table
  resting every length

-- seen as those that may be left out
abbrev pub resting_by : Data → Option (Option Resting)
resting_by d = as_table d >>= resting_in >>= (λ rest. Some (Some rest))

abbrev pub optional_resting : Option Data → Option (Option Resting)
optional_resting None = Some None
optional_resting (Some d) = resting_by d

-- by default as many commands at a time as channels, and at most as many as there can be
abbrev pub depth_in : ℕ → Members → Option ℕ
depth_in channels device = number_or key.Depth (min channels MAX_DEPTH) 1 MAX_DEPTH device

unfoldable pub device_of : Members → Option Running
device_of device = do
  only_keys device_keys device
  channels ← number_or key.Channels 1 1 MAX_CHANNELS device
  depth ← depth_in channels device
  placing ← placing_in device
  size_in device
  checked_service operation.Read device
  checked_service operation.Write device
  checked_service operation.Flush device
  rest ← optional_resting (value_in key.Pauses device)
  Some (record { channels = channels; depth = depth; placing = placing; resting = rest })
