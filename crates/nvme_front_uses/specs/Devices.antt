-- A device that one thread serves (profile).
use Rattle.std.specs.Prelude.{◌≡◌, List, [], length}
use Rattle.nvme_entry.specs.declared.submission.Sqe.{Sqe}
use Rattle.nvme_lane.specs.Feeder.{script_of}
use Rattle.nvme_lane.specs.Drainer.{items_of}
use Rattle.nvme_log.specs.Account.{IsClear}
use Rattle.nvme_front.specs.View.{past_in, HasItsRegions}
use Rattle.nvme_front.specs.declared.front.FrontConfig.{FrontConfig}
use Rattle.nvme_front_uses.specs.declared.device.Device.{Device}

-- a device with this configuration, whose host has this script, and which did nothing yet
pub record IsNew (config : FrontConfig) (script : List Sqe) (device : Device) : Type 0 where
  pub mechanism : device.front.rules.mechanism ≡ config.mechanism
  pub start : device.front.rules.start ≡ record { nsq = config.limits.nsq; ncq = config.limits.ncq; settings = config.settings }
  pub sizes : device.front.rules.sizes ≡ config.spaces
  pub regions : HasItsRegions device.front
  pub log : device.front.log ≡ []
  pub script_is : script_of device.feeder ≡ script
  pub none_collected : items_of device.drainer ≡ []

-- the front is clear, and the host has as many completions as its script has commands
pub record IsDone (device : Device) : Type 0 where
  pub clear : IsClear (past_in device.front)
  pub all_collected : length (items_of device.drainer) ≡ length (script_of device.feeder)
