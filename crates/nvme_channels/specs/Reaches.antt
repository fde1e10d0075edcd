-- On which channels a command may run. (profile)
use Rattle.std.specs.Prelude.{ℕ, ◌+◌, ◌/◌, ◌%◌, ◌&&◌, Bool, nat_le, nat_lt}
use Rattle.nvme_channels.specs.declared.placement.Placement.{Placement}
use Rattle.nvme_channels.specs.declared.placement.Placement.TheVariants.{Pool, Striped}
use Rattle.nvme_channels.specs.declared.placement.Reach.{Reach}

-- of so many channels, those of a command that begins at a block: in a pool all, else the one where the block lies
abbrev pub reach_of : Placement → ℕ → ℕ → Reach
reach_of Pool channels block = record { first = 0; end = channels }
reach_of (Striped stripe) channels block =
    record { first = block / stripe.blocks % channels; end = block / stripe.blocks % channels + 1 }

abbrev pub reaches : Reach → ℕ → Bool
reaches r channel = nat_le r.first channel && nat_lt channel r.end
