-- What queues ask for where their gaps are multiplied by a ratio, and where a gap would be too long. (profile)
use Rattle.std.specs.Prelude.{◌≡◌, ◌⊎◌, ℕ, ◌+◌, ◌*◌, ◌/◌, ◌^◌, ◌<◌, ◌≤◌, max, List, map, Some, slice_get, unwrap_or}
use Rattle.nvme_clock.specs.declared.draws.TheConstants.{MAX_MEAN}
use Rattle.nvme_model.specs.declared.device.Device.{Device}
use Rattle.nvme_model.specs.declared.queue.Queue.{Queue}
use Rattle.nvme_model_form.specs.Views.{Asking, Coming, ByPoisson, ByGap, InBursts, BehindOthers, Replayed, Running, asking_of, running_of}
use Rattle.nvme_simulate.specs.Loads.{capacity_of, offered_in, part_of}

-- the nearest whole number of picoseconds, and at least 1
abbrev pub scaled_gap : (offered target gap : ℕ) → ℕ
scaled_gap offered target gap = max ((gap * offered * 2 + target) / (target * 2)) 1

-- phases stay, and closed hosts, and the times of a list
abbrev pub scaled_coming : (offered target : ℕ) → Coming → Coming
scaled_coming offered target (ByPoisson mean) = ByPoisson (scaled_gap offered target mean)
scaled_coming offered target (ByGap gap) = ByGap (scaled_gap offered target gap)
scaled_coming offered target (InBursts mean on off) = InBursts (scaled_gap offered target mean) on off
scaled_coming offered target (BehindOthers depth think) = BehindOthers depth think
scaled_coming offered target Replayed = Replayed

-- all else stays
abbrev pub scaled_asking : (offered target : ℕ) → Asking → Asking
scaled_asking offered target asking = record asking { coming = scaled_coming offered target asking.coming }

-- in these parts of a channel: 10^-15
abbrev pub fine_parts : ℕ
fine_parts = 1_000_000_000_000_000

-- what open queues ask for, or 0 where none is open
abbrev pub offered_of : List Queue → ℕ
offered_of queues = unwrap_or (offered_in fine_parts (map asking_of queues)) 0

-- so many millionths of what a device can do
abbrev pub target_of : (millionths : ℕ) → Running → ℕ
target_of millionths device = part_of (capacity_of fine_parts device) millionths 1_000_000

-- one ratio for all: what the open queues asked for, to so many millionths of what the device can do
abbrev pub AreScaled : (millionths : ℕ) → Device → (old new : List Queue) → Type 0
AreScaled millionths device old new =
    map asking_of new ≡ map (scaled_asking (offered_of old) (target_of millionths (running_of device))) (map asking_of old)

-- ---- where a gap would be too long

-- a scaled gap isn't answered: no load is to be reached, its reckoning (here with twice the target) has more than 128 bits, or it is longer than the most
abbrev pub IsTooLong : (offered target most gap : ℕ) → Type 0
IsTooLong offered target most gap = (target ≡ 0) ⊎ ((2 ^ 128 ≤ gap * offered * 2 + target * 2) ⊎ (most < scaled_gap offered target gap))

-- the mean of exponential gaps has its limit, and a gap between two commands has 64 bits. Closed hosts and lists have nothing that is scaled
abbrev pub HasLongGap : (offered target : ℕ) → Coming → Type 0
HasLongGap offered target (ByPoisson mean) = IsTooLong offered target MAX_MEAN mean
HasLongGap offered target (ByGap gap) = IsTooLong offered target 0xffff_ffff_ffff_ffff gap
HasLongGap offered target (InBursts mean on off) = IsTooLong offered target MAX_MEAN mean
HasLongGap offered target (BehindOthers depth think) = ⊥
HasLongGap offered target Replayed = ⊥

-- the queue of this number, from 1, has one
pub record IsLongGapOf (offered target number : ℕ) (queues : List Asking) : Type 0 where
  pub place : ℕ
  pub number_is : number ≡ place + 1
  pub queue : Asking
  pub is_there : slice_get queues place ≡ Some queue
  pub long : HasLongGap offered target queue.coming
