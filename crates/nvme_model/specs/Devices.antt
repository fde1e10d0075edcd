-- Which devices and pauses are refused. (profile)
use Rattle.std.specs.Prelude.{◌≡◌, ◌≤◌, ◌<◌, ◌⊎◌, ℕ}
use Rattle.nvme_channels.specs.declared.channels.TheConstants.{MAX_CHANNELS}
use Rattle.nvme_model.specs.declared.device.TheConstants.{MAX_DEPTH}
use Rattle.nvme_model.specs.declared.device.DeviceFault.{DeviceFault}
use Rattle.nvme_model.specs.declared.device.DeviceFault.TheVariants.{Channels, Depth}
use Rattle.nvme_model.specs.declared.device.PausesFault.{PausesFault}
use Rattle.nvme_model.specs.declared.device.PausesFault.TheVariants.{NoLength, TooLong}

abbrev pub TellsPausesFault : (every length : ℕ) → PausesFault → Type 0
TellsPausesFault every length NoLength = length ≡ 0
TellsPausesFault every length TooLong = every ≤ length

abbrev pub TellsDeviceFault : (channels depth : ℕ) → DeviceFault → Type 0
TellsDeviceFault channels depth Channels = (channels ≡ 0) ⊎ (MAX_CHANNELS < channels)
TellsDeviceFault channels depth Depth = (depth ≡ 0) ⊎ (MAX_DEPTH < depth)
