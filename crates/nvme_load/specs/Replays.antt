-- Commands of a list. (profile)
use Rattle.std.specs.Prelude.{◌≡◌, ◌<◌, ◌+◌, ◌&&◌, ℕ, Bool, true, false, nat_le, List, [], ◌∷◌, Any}
use Rattle.nvme_load.specs.declared.replay.Request.{Request}
use Rattle.nvme_load.specs.declared.replay.ReplayFault.{ReplayFault}
use Rattle.nvme_load.specs.declared.replay.ReplayFault.TheVariants.{Outside, Order}

-- none comes before a time, nor before the one in front of it
abbrev pub in_order : (before : ℕ) → List Request → Bool
in_order before [] = true
in_order before (r ∷ rs) = nat_le before r.at && in_order r.at rs

abbrev pub TellsReplayFault : (size : ℕ) → List Request → ReplayFault → Type 0
TellsReplayFault size requests Outside = Any (λ r. size < r.block + r.blocks) requests
TellsReplayFault size requests Order = in_order 0 requests ≡ false
