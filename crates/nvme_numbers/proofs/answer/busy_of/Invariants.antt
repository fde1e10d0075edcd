use Rattle.std.proofs.Common.{◌≡◌, ◌≤◌, ◌*◌, take}
use Rattle.nvme_numbers.specs.Answers.{busy_of}
use Rattle.nvme_numbers.proofs.answer.busy_of.Given as goal

-- how long the channels so far ran commands
abbrev pub invariant-loop-channel : goal.invariant-loop-channel
invariant-loop-channel l = record {
  value : l.busy ≡ busy_of (take l.channel-index l.channels);
  within : l.busy ≤ 0xffff_ffff_ffff_ffff * l.channel-index;
}
