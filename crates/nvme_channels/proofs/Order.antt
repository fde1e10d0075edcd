-- Where a command starts, no earlier one waits that may run there.
use Rattle.std.proofs.Common.{◌≡◌, ℕ, ◌<◌, Bool, true, false, List, length, get_or, Some, refl, sym, ◌∙◌}
use Rattle.std.proofs.lemmas.List.Quantifiers.{position-Some}
use Rattle.nvme_channels.specs.declared.channels.Waiting.{Waiting}
use Rattle.nvme_channels.specs.declared.placement.Placement.{Placement}
use Rattle.nvme_channels.specs.Devices.{Device, idle_in, new_device}
use Rattle.nvme_channels.specs.Laws.{StartsInOrder}
use Rattle.nvme_channels.specs.Reaches.{reach_of, reaches}
use Rattle.nvme_channels.specs.Runs.{Step, device_after}
use Rattle.nvme_channels.proofs.Idle.{found}
use Rattle.nvme_channels.proofs.Steady.{Kept, kept_after, reach_within}

none_reaches : (d : Device) (block k i : ℕ) (w : Waiting) → Kept d → idle_in d.channels (reach_of d.placement (length d.channels) block) ≡ Some k
    → i < length d.waiting → reaches (get_or d.waiting i w).reach k ≡ false
none_reaches d block k i w kept e l = go (reaches (get_or d.waiting i w).reach k) refl
  where
    go : (b : Bool) → reaches (get_or d.waiting i w).reach k ≡ b → b ≡ false
    go false t = refl
    go true t =
        let there = found d.channels (reach_of d.placement (length d.channels) block) k (reach_within d.placement (length d.channels) block kept.some) e in
        sym there.1 ∙ kept.conserves i w l k there.0 t

pub in_order : (placement : Placement) (depth count : ℕ) → 0 < count → (past : List Step) → StartsInOrder (device_after (new_device placement depth count) past)
in_order placement depth count some past =
    let d = device_after (new_device placement depth count) past in
    record {
      waiting = λ k i e j w l. (position-Some (λ (w : Waiting). reaches w.reach k) d.waiting i w e).2 j l;
      taken = λ block k e i w l. none_reaches d block k i w (kept_after placement depth count some past) e l;
    }
