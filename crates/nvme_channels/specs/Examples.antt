-- Worked examples of the definitions. (profile)
use Rattle.std.specs.Prelude.{◌≡◌, ℕ, List, [], ◌∷◌, Ok, Err, Some, None}
use Rattle.std.proofs.Common.{lit<}
use Rattle.nvme_channels.specs.declared.channel.StepFault.TheVariants.{NoRoom, NoChannel, NoCommand, Early, TooLate}
use Rattle.nvme_channels.specs.declared.channels.Start.{Start}
use Rattle.nvme_channels.specs.declared.placement.Placement.{Placement}
use Rattle.nvme_channels.specs.declared.placement.Placement.TheVariants.{Pool, Striped}
use Rattle.nvme_channels.specs.Devices.{Device, channel_at, new_device, room_of}
use Rattle.nvme_channels.specs.Reaches.{reach_of}
use Rattle.nvme_channels.specs.Runs.{Step, Take, Finish, Pause, device_after, last_end, runs_on}
use Rattle.nvme_channels.specs.Steps.{finish_of, pause_of, resume_of, take_of}

abbrev pub start : ℕ → ℕ → ℕ → Start
start number channel ends = record { number = number; channel = channel; ends = ends }

-- two channels, and up to three commands
abbrev pub pool : Device
pool = new_device Pool 3 2

-- command 1 takes 80 picoseconds, command 2 takes 50 and command 3 takes 100
abbrev pub two_run : List Step
two_run = Take 5 2 0 50 ∷ Take 0 1 0 80 ∷ []

abbrev pub one_waits : List Step
one_waits = Take 6 3 0 100 ∷ two_run

abbrev pub paused : List Step
paused = Pause 1 ∷ one_waits

pub record PoolExamples : Type 0 where
  pub first : (take_of 0 1 0 80 pool).0 ≡ Ok (Some (start 1 0 80))
  pub second : (take_of 5 2 0 50 (device_after pool (Take 0 1 0 80 ∷ []))).0 ≡ Ok (Some (start 2 1 55))
  pub third : (take_of 6 3 0 100 (device_after pool two_run)).0 ≡ Ok None
  pub fourth : (take_of 7 4 0 10 (device_after pool one_waits)).0 ≡ Err NoRoom
  pub room_at_first : room_of pool ≡ 3
  pub room_for_one : room_of (device_after pool two_run) ≡ 1
  pub no_room : room_of (device_after pool one_waits) ≡ 0
  pub room_again : room_of (device_after pool (Finish 55 1 ∷ one_waits)) ≡ 1
  pub next_starts : (finish_of 55 1 (device_after pool one_waits)).0 ≡ Ok (Some (start 3 1 155))
  pub none_waits : (finish_of 80 0 (device_after pool (Finish 55 1 ∷ one_waits))).0 ≡ Ok None
  pub before_its_end : (finish_of 54 1 (device_after pool one_waits)).0 ≡ Err Early
  pub none_runs : (finish_of 9 1 (device_after pool (Take 0 1 0 80 ∷ []))).0 ≡ Err NoCommand
  pub third_channel : (finish_of 9 2 (device_after pool one_waits)).0 ≡ Err NoChannel
  pub busy : (channel_at (device_after pool (Finish 55 1 ∷ one_waits)) 1).busy ≡ 150
  pub ran : runs_on 1 pool (Finish 55 1 ∷ one_waits) ≡ 150
  pub other_ran : runs_on 0 pool (Finish 55 1 ∷ one_waits) ≡ 80
  pub ends : last_end 1 pool (Finish 55 1 ∷ one_waits) ≡ 155
  pub longest : (take_of 5 1 0 0xffff_ffff_ffff_fffa pool).0 ≡ Ok (Some (start 1 0 0xffff_ffff_ffff_ffff))
  pub too_late : (take_of 5 1 0 0xffff_ffff_ffff_fffb pool).0 ≡ Err TooLate
  pub time_that_passed : (take_of 7 2 0 1 (device_after (new_device Pool 3 1) (Finish 8 0 ∷ Take 0 1 0 8 ∷ []))).0 ≡ Err Early

pub record PauseExamples : Type 0 where
  pub pauses : (pause_of 1 (device_after pool one_waits)).0 ≡ Ok tt
  pub third_channel : (pause_of 2 pool).0 ≡ Err NoChannel
  pub none_starts : (finish_of 55 1 (device_after pool paused)).0 ≡ Ok None
  pub waits_for_resume : (resume_of 70 1 (device_after pool (Finish 55 1 ∷ paused))).0 ≡ Ok (Some (start 3 1 170))
  pub goes_on : (resume_of 50 1 (device_after pool paused)).0 ≡ Ok None
  pub none_to_resume : (resume_of 50 2 pool).0 ≡ Err NoChannel
  pub other_channel : (take_of 0 1 0 80 (device_after pool (Pause 0 ∷ []))).0 ≡ Ok (Some (start 1 1 80))
  pub paused_adds_nothing : runs_on 1 pool (Finish 55 1 ∷ paused) ≡ 50

-- stripes of eight blocks on two channels
abbrev pub striped : Placement
striped = Striped (record { blocks = 8; some = lit< tt })

abbrev pub stripes : Device
stripes = new_device striped 4 2

pub record StripeExamples : Type 0 where
  pub first_stripe : reach_of striped 2 7 ≡ record { first = 0; end = 1 }
  pub second_stripe : reach_of striped 2 8 ≡ record { first = 1; end = 2 }
  pub third_stripe : reach_of striped 2 16 ≡ record { first = 0; end = 1 }
  pub of_pool : reach_of Pool 2 8 ≡ record { first = 0; end = 2 }
  pub own_channel : (take_of 0 1 8 80 stripes).0 ≡ Ok (Some (start 1 1 80))
  pub waits_for_its_own : (take_of 0 2 9 80 (device_after stripes (Take 0 1 8 80 ∷ []))).0 ≡ Ok None
  pub passes_one_that_waits : (take_of 0 3 16 30 (device_after stripes (Take 0 2 9 80 ∷ Take 0 1 8 80 ∷ []))).0 ≡ Ok (Some (start 3 0 30))
  pub in_order : (finish_of 80 1 (device_after stripes (Take 0 4 10 40 ∷ Take 0 2 9 20 ∷ Take 0 1 8 80 ∷ []))).0 ≡ Ok (Some (start 2 1 100))
  pub none_for_the_other : (finish_of 30 0 (device_after stripes (Take 0 2 9 20 ∷ Take 0 3 0 30 ∷ Take 0 1 8 80 ∷ []))).0 ≡ Ok None
