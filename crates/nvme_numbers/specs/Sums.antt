-- Sums over commands, and what bounds them. (profile)
use Rattle.std.specs.Prelude.{◌+◌, ◌-◌, ◌*◌}
use Rattle.nvme_model.specs.declared.finished.Finished.{Finished}
use Rattle.nvme_numbers.specs.declared.sums.Sums.{Sums}

abbrev pub no_sums : Sums
no_sums = record { bytes = 0; host = 0; arbitration = 0; device = 0; service = 0 }

-- with a command: a block has 512 bytes
abbrev pub sums_with : Sums → Finished → Sums
sums_with s f = record {
  bytes = s.bytes + 512 * f.blocks;
  host = s.host + (f.times.submitted - f.times.came);
  arbitration = s.arbitration + (f.times.picked - f.times.submitted);
  device = s.device + (f.times.started - f.times.picked);
  service = s.service + (f.times.done - f.times.started);
}

-- with those of other commands
abbrev pub sums_plus : Sums → Sums → Sums
sums_plus s t = record {
  bytes = s.bytes + t.bytes;
  host = s.host + t.host;
  arbitration = s.arbitration + t.arbitration;
  device = s.device + t.device;
  service = s.service + t.service;
}
