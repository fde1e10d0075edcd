-- What holds of the times of a command. (profile)
use Rattle.std.specs.Prelude.{◌≡◌, ◌+◌, ◌-◌}
use Rattle.nvme_model.specs.declared.times.Times.{Times}

-- in the host, in arbitration, in the device and in service
abbrev pub IsSumOfParts : Times → Type 0
IsSumOfParts t = t.done - t.came ≡ t.submitted - t.came + (t.picked - t.submitted) + (t.started - t.picked) + (t.done - t.started)
