-- Worked examples. Times are in picoseconds. (profile)
use Rattle.std.specs.Prelude.{◌≡◌, List, [], ◌∷◌, Option, Some, None, map}
use Rattle.nvme_arbiter.specs.declared.settings.Class.TheVariants.{High}
use Rattle.nvme_load.specs.declared.places.Order.TheVariants.{Uniform}
use Rattle.nvme_model.specs.declared.device.Device.{Device}
use Rattle.nvme_model.specs.declared.queue.Queue.{Queue}
use Rattle.nvme_model_form.specs.Views.{Asking, Coming, ByPoisson, ByGap, InBursts, BehindOthers, Replayed, Resting, Running, Anywhere, Shares, Always, Exponentially, OneOfTwo, ByQuantiles, asking_of, running_of}
use Rattle.nvme_simulate.specs.Loads.{capacity_of, mean_of, mean_service, offered_by, offered_in, part_of}
use Rattle.nvme_simulate.specs.Scaling.{AreScaled, HasLongGap, IsLongGapOf, IsTooLong, target_of}

-- of 8 blocks. A read takes 40 us and 5 us for each block, a write 80 us or with 5 of 100 commands 2 ms, and 1 us for each block, and a flush 1 ms
abbrev pub asking : Shares → Coming → Asking
asking shares coming =
    record { class = High; slots = 64; coming = coming; shares = shares; size = 1_024; blocks = 8; order = Uniform; read = record { spread = Always 40_000_000; per_block = 5_000_000 }; write = record { spread = OneOfTwo 80_000_000 2_000_000_000 5 100; per_block = 1_000_000 }; flush = Always 1_000_000_000 }

-- a read takes 80 us
abbrev pub reads : Coming → Asking
reads coming = asking (record { read = 1; write = 0; flush = 0 }) coming

-- four channels
abbrev pub four_channels : Option Resting → Running
four_channels resting = record { channels = 4; depth = 16; placing = Anywhere; resting = resting }

-- 100 us in each millisecond
abbrev pub pausing : Option Resting
pausing = Some (record { every = 1_000_000_000; length = 100_000_000 })

-- one command each 20 us while it is on, which it is for 1 of 4 ms
abbrev pub bursts : Coming
bursts = InBursts 20_000_000 1_000_000_000 3_000_000_000

-- 95 of 100 times 80, and 5 times 2000. Between three quantiles there are two steps, of the means 15 and 30. Seven reads of 80 us, two writes of 184 us and a
-- flush of 1 ms take 1928 us
pub record MeanExamples : Type 0 where
  pub always : mean_of (Always 80) ≡ 80
  pub exponential : mean_of (Exponentially 80) ≡ 80
  pub two_points : mean_of (OneOfTwo 80 2000 5 100) ≡ 176
  pub rare_alone : mean_of (OneOfTwo 80 2000 7 5) ≡ 2000
  pub quantiles : mean_of (ByQuantiles (10 ∷ 20 ∷ 40 ∷ [])) ≡ 22
  pub two_quantiles : mean_of (ByQuantiles (10 ∷ 20 ∷ [])) ≡ 15
  pub reads_alone : mean_service (reads (ByGap 1)) ≡ 80_000_000
  pub mixed : mean_service (asking (record { read = 7; write = 2; flush = 1 }) (ByGap 1)) ≡ 192_800_000

-- in millionths of a channel
pub record LoadExamples : Type 0 where
  pub poisson : offered_by 1_000_000 (reads (ByPoisson 100_000_000)) ≡ Some 800_000
  pub regular : offered_by 1_000_000 (reads (ByGap 50_000_000)) ≡ Some 1_600_000
  pub in_bursts : offered_by 1_000_000 (reads bursts) ≡ Some 1_000_000
  pub behind_others : offered_by 1_000_000 (reads (BehindOthers 8 0)) ≡ None
  pub replayed : offered_by 1_000_000 (reads Replayed) ≡ None
  pub none_open : offered_in 1_000_000 (reads (BehindOthers 8 0) ∷ reads Replayed ∷ []) ≡ None
  pub all_open : offered_in 1_000_000 (reads (ByPoisson 100_000_000) ∷ reads (BehindOthers 8 0) ∷ reads bursts ∷ []) ≡ Some 1_800_000
  pub all_channels : capacity_of 1_000_000 (four_channels None) ≡ 4_000_000
  pub less_pauses : capacity_of 1_000_000 (four_channels pausing) ≡ 3_600_000
  pub too_great : part_of 0x8000_0000_0000_0000_0000_0000_0000_0000 2 1 ≡ 0xffff_ffff_ffff_ffff_ffff_ffff_ffff_ffff

-- half of 3.6 channels are 1.8. So gaps become 4 / 9 of what they were where 0.8 were asked for, and twice as long where 3.6 were
pub record ScalingExamples : Type 0 where
  pub half : target_of 500_000 (four_channels pausing) ≡ 1_800_000_000_000_000
  pub shorter : (d : Device) (old new : List Queue) → running_of d ≡ four_channels pausing → map asking_of old ≡ reads (ByPoisson 100_000_000) ∷ []
      → AreScaled 500_000 d old new → map asking_of new ≡ reads (ByPoisson 44_444_444) ∷ []
  pub asks_for_half : offered_by 1_000_000 (reads (ByPoisson 44_444_444)) ≡ Some 1_800_000
  pub together : (d : Device) (old new : List Queue) → running_of d ≡ four_channels pausing
      → map asking_of old ≡ reads (ByGap 50_000_000) ∷ reads (BehindOthers 8 0) ∷ reads bursts ∷ reads (ByPoisson 80_000_000) ∷ []
      → AreScaled 500_000 d old new
      → map asking_of new ≡ reads (ByGap 100_000_000) ∷ reads (BehindOthers 8 0) ∷ reads (InBursts 40_000_000 1_000_000_000 3_000_000_000) ∷ reads (ByPoisson 160_000_000) ∷ []

-- doubled, the gaps of the first queue have 64 bits, and those of the second 65
abbrev pub long_second : List Asking
long_second = reads (ByGap 50_000_000) ∷ reads (ByGap 0x8000_0000_0000_0000) ∷ reads (BehindOthers 8 0) ∷ []

-- the longest mean is 2^58 - 1 ps and the longest gap 2^64 - 1 ps: they stay as they are, and half of one more is too long where it is doubled. 2^63 times 2^63,
-- doubled, and twice 2^126 make 2^128
pub record LongExamples : Type 0 where
  pub no_load : IsTooLong 1 0 0xffff_ffff_ffff_ffff 1
  pub least_load : IsTooLong 1 1 0xffff_ffff_ffff_ffff 1 → ⊥
  pub too_many_bits : IsTooLong 0x8000_0000_0000_0000 0x4000_0000_0000_0000_0000_0000_0000_0000 0xffff_ffff_ffff_ffff 0x8000_0000_0000_0000
  pub all_bits : IsTooLong 0x8000_0000_0000_0000 0x3fff_ffff_ffff_ffff_ffff_ffff_ffff_ffff 0xffff_ffff_ffff_ffff 0x8000_0000_0000_0000 → ⊥
  pub longest_mean : HasLongGap 1 1 (ByPoisson 0x03ff_ffff_ffff_ffff) → ⊥
  pub mean_too_long : HasLongGap 2 1 (ByPoisson 0x0200_0000_0000_0000)
  pub longest_in_bursts : HasLongGap 1 1 (InBursts 0x03ff_ffff_ffff_ffff 1_000_000_000 3_000_000_000) → ⊥
  pub too_long_in_bursts : HasLongGap 2 1 (InBursts 0x0200_0000_0000_0000 1_000_000_000 3_000_000_000)
  pub longest_gap : HasLongGap 1 1 (ByGap 0xffff_ffff_ffff_ffff) → ⊥
  pub gap_too_long : HasLongGap 2 1 (ByGap 0x8000_0000_0000_0000)
  pub behind_others : HasLongGap 2 0 (BehindOthers 8 0) → ⊥
  pub replayed : HasLongGap 2 0 Replayed → ⊥
  pub second : IsLongGapOf 2 1 2 long_second
  pub not_first : IsLongGapOf 2 1 1 long_second → ⊥
  pub not_third : IsLongGapOf 2 1 3 long_second → ⊥
  pub no_fourth : IsLongGapOf 2 1 4 long_second → ⊥
