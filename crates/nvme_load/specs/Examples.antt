-- Worked examples of the definitions. (profile)
use Rattle.std.specs.Prelude.{◌≡◌, ℕ, true, false, List, [], ◌∷◌, Some, None}
use Rattle.std.proofs.Common.{lit<, lit≤}
use Rattle.nvme_clock.specs.Examples.{words}
use Rattle.nvme_clock.specs.declared.draws.TwoPoints.{TwoPoints as Points}
use Rattle.nvme_clock.specs.declared.quantiles.Quantiles.{Quantiles as Table}
use Rattle.nvme_clock.specs.Quantiles.{values_of}
use Rattle.nvme_load.specs.declared.arrivals.Arrivals.{Arrivals}
use Rattle.nvme_load.specs.declared.arrivals.Arrivals.TheVariants.{Poisson, Regular, OnOff, Closed, Replay as Listed}
use Rattle.nvme_load.specs.declared.mean.Mean.{Mean}
use Rattle.nvme_load.specs.declared.mix.Operation.TheVariants.{Read, Write, Flush}
use Rattle.nvme_load.specs.declared.places.Order.TheVariants.{Uniform, Sequential}
use Rattle.nvme_load.specs.declared.replay.Replay.{Replay}
use Rattle.nvme_load.specs.declared.replay.Request.{Request}
use Rattle.nvme_load.specs.declared.services.Distribution.TheVariants.{Fixed, Exponential, TwoPoints, Quantiles}
use Rattle.nvme_load.specs.declared.services.Service.{Service}
use Rattle.nvme_load.specs.declared.services.Services.{Services}
use Rattle.nvme_load.specs.Arrivals.{at_start, ends_at, next_after, request_at}
use Rattle.nvme_load.specs.Mixes.{operation}
use Rattle.nvme_load.specs.Phases.{on_before, when_on}
use Rattle.nvme_load.specs.Places.{place, sequential_place}
use Rattle.nvme_load.specs.Services.{service_by, service_of, time_of}

-- seven of ten commands read, two write and one flushes; the words below 2^64 - 6 are accepted
pub record MixExamples : Type 0 where
  pub last_read : (operation 7 2 1 (words (6 ∷ []))).0 ≡ Read
  pub first_write : (operation 7 2 1 (words (7 ∷ []))).0 ≡ Write
  pub last_write : (operation 7 2 1 (words (8 ∷ []))).0 ≡ Write
  pub flush : (operation 7 2 1 (words (9 ∷ []))).0 ≡ Flush
  pub next_round : (operation 7 2 1 (words (10 ∷ []))).0 ≡ Read
  pub last_accepted : (operation 7 2 1 (words (0xffff_ffff_ffff_fff9 ∷ []))).0 ≡ Flush
  pub rejected : (operation 7 2 1 (words (0xffff_ffff_ffff_fffa ∷ 8 ∷ []))).0 ≡ Write
  pub next_command : (operation 7 2 1 (operation 7 2 1 (words (6 ∷ 9 ∷ []))).1).0 ≡ Flush
  pub no_reads : (operation 0 2 1 (words (0 ∷ []))).0 ≡ Write
  pub flushes_alone : (operation 0 0 3 (words (0 ∷ []))).0 ≡ Flush

abbrev pub mean : Mean
mean = record { picoseconds = 100_000; some = lit< tt; at_most = lit≤ tt }

abbrev pub points : Points
points = record { usual = 80; rare = 2000; times = 5; out_of = 100; some = lit< tt }

abbrev pub fixed : Service
fixed = record { time = Fixed 80; per_block = 5 }

abbrev pub longest : Service
longest = record { time = Fixed 0xffff_ffff_ffff_fff0; per_block = 5 }

abbrev pub two_points : Service
two_points = record { time = TwoPoints points; per_block = 1 }

abbrev pub device : Services
device = record { read = fixed; write = two_points; flush = TwoPoints points }

-- 2^63 is a half, and 2^62 a quarter
pub record ServiceExamples : Type 0 where
  pub fixed_time : (service_of fixed 8 (words (7 ∷ []))).0 ≡ Some 120
  pub fixed_draws_nothing : (service_of fixed 8 (words (7 ∷ []))).1 ≡ words (7 ∷ [])
  pub exponential_time : (service_of (record { time = Exponential mean; per_block = 5 }) 8
      (words (0x8000_0000_0000_0000 ∷ 0x8000_0000_0000_0000 ∷ []))).0 ≡ Some 50_040
  pub exponential_next : (time_of (TwoPoints points)
      (time_of (Exponential mean) (words (0x8000_0000_0000_0000 ∷ 0x8000_0000_0000_0000 ∷ 4 ∷ []))).1).0 ≡ 2000
  pub usual : (service_of two_points 8 (words (5 ∷ []))).0 ≡ Some 88
  pub rare : (service_of two_points 8 (words (4 ∷ []))).0 ≡ Some 2008
  pub next_draw : (service_of two_points 8 (service_of two_points 8 (words (5 ∷ 104 ∷ []))).1).0 ≡ Some 2008
  pub from_quantiles : (table : Table) → values_of table ≡ 10 ∷ 20 ∷ 40 ∷ []
      → (time_of (Quantiles table) (words (0x4000_0000_0000_0000 ∷ []))).0 ≡ 15
  pub quantiles_next : (table : Table) → (time_of (TwoPoints points) (time_of (Quantiles table) (words (7 ∷ 4 ∷ []))).1).0 ≡ 2000
  pub longest_time : (service_of longest 3 (words [])).0 ≡ Some 0xffff_ffff_ffff_ffff
  pub too_long : (service_of longest 4 (words [])).0 ≡ None
  pub read : (service_by device Read 8 (words (4 ∷ []))).0 ≡ Some 120
  pub write : (service_by device Write 8 (words (4 ∷ []))).0 ≡ Some 2008
  pub flush : (service_by device Flush 8 (words (4 ∷ []))).0 ≡ Some 2000
  pub flush_next : (service_by device Flush 8 (service_by device Flush 8 (words (4 ∷ 5 ∷ []))).1).0 ≡ Some 80

-- on for three picoseconds, and off for two
abbrev pub on_off : Arrivals
on_off = OnOff (record { mean = record { picoseconds = 4; some = lit< tt; at_most = lit≤ tt }; on = 3; off = 2; some = lit< tt; fits = lit< tt })

abbrev pub closed : Arrivals
closed = Closed (record { depth = 4; think = 9; some = lit< tt })

abbrev pub regular : Arrivals
regular = Regular (record { picoseconds = 7; some = lit< tt })

-- the words of a half of the mean, and of a quarter
abbrev pub half : List ℕ
half = 0x8000_0000_0000_0000 ∷ 0x8000_0000_0000_0000 ∷ []

abbrev pub quarter : List ℕ
quarter = 0x4000_0000_0000_0000 ∷ 0x8000_0000_0000_0000 ∷ []

-- two commands at one time, and one later
abbrev pub list : List Request
list =
    record { at = 30; operation = Read; block = 0; blocks = 8 }
    ∷ record { at = 30; operation = Write; block = 8; blocks = 4 }
    ∷ record { at = 45; operation = Flush; block = 0; blocks = 0 } ∷ []

pub record ArrivalExamples : Type 0 where
  pub on_before_first : on_before 3 2 2 ≡ 2
  pub on_before_off : on_before 3 2 3 ≡ 3
  pub on_before_second : on_before 3 2 5 ≡ 3
  pub on_before_later : on_before 3 2 6 ≡ 4
  pub on_at_first : when_on 3 2 0 ≡ 0
  pub on_at_second : when_on 3 2 3 ≡ 5
  pub on_at_later : when_on 3 2 7 ≡ 11
  pub within_phase : (next_after on_off 0 1 (words quarter)).0 ≡ Some 2
  pub at_next_phase : (next_after on_off 0 1 (words half)).0 ≡ Some 5
  pub within_next_phase : (next_after on_off 0 2 (words half)).0 ≡ Some 6
  pub from_off_phase : (next_after on_off 0 4 (words half)).0 ≡ Some 7
  pub on_off_next : (next_after on_off 0 1 (next_after on_off 0 1 (words (0x4000_0000_0000_0000 ∷ 0x8000_0000_0000_0000 ∷ half))).1).0 ≡ Some 5
  pub poisson : (next_after (Poisson mean) 0 10 (words quarter)).0 ≡ Some 25_010
  pub poisson_next : (next_after (Poisson mean) 0 10 (next_after (Poisson mean) 0 10 (words (0x4000_0000_0000_0000 ∷ 0x8000_0000_0000_0000 ∷ half))).1).0 ≡ Some 50_010
  pub every_seventh : (next_after regular 0 10 (words (5 ∷ []))).0 ≡ Some 17
  pub regular_draws_nothing : (next_after regular 0 10 (words (5 ∷ []))).1 ≡ words (5 ∷ [])
  pub last_time : (next_after regular 0 0xffff_ffff_ffff_fff8 (words [])).0 ≡ Some 0xffff_ffff_ffff_ffff
  pub too_late : (next_after regular 0 0xffff_ffff_ffff_fff9 (words [])).0 ≡ None
  pub think : (next_after closed 0 10 (words (5 ∷ []))).0 ≡ Some 19
  pub think_draws_nothing : (next_after closed 0 10 (words (5 ∷ []))).1 ≡ words (5 ∷ [])
  pub depth_at_start : at_start closed ≡ 4
  pub on_off_start : at_start on_off ≡ 0
  pub poisson_start : at_start (Poisson mean) ≡ 0
  pub regular_start : at_start regular ≡ 0
  pub first_listed : (l : Replay) → l.requests.items ≡ list → (next_after (Listed l) 0 0 (words (5 ∷ []))).0 ≡ Some 30
  pub second_listed : (l : Replay) → l.requests.items ≡ list → (next_after (Listed l) 1 30 (words (5 ∷ []))).0 ≡ Some 30
  pub last_listed : (l : Replay) → l.requests.items ≡ list → (next_after (Listed l) 2 30 (words (5 ∷ []))).0 ≡ Some 45
  pub list_ended : (l : Replay) → l.requests.items ≡ list → (next_after (Listed l) 3 45 (words (5 ∷ []))).0 ≡ None
  pub lists_draw_nothing : (l : Replay) → (next_after (Listed l) 0 0 (words (5 ∷ []))).1 ≡ words (5 ∷ [])
  pub second_request : (l : Replay) → l.requests.items ≡ list → request_at (Listed l) 1 ≡ Some (record { at = 30; operation = Write; block = 8; blocks = 4 })
  pub not_ended : (l : Replay) → l.requests.items ≡ list → ends_at (Listed l) 2 ≡ false
  pub ended : (l : Replay) → l.requests.items ≡ list → ends_at (Listed l) 3 ≡ true

-- of 100 blocks, twelve commands of eight blocks fit; the words below 2^64 - 4 are accepted
pub record PlaceExamples : Type 0 where
  pub first : (place Uniform 100 8 16 (words (0 ∷ []))).0 ≡ 0
  pub second : (place Uniform 100 8 16 (words (13 ∷ []))).0 ≡ 8
  pub last : (place Uniform 100 8 16 (words (11 ∷ []))).0 ≡ 88
  pub rejected : (place Uniform 100 8 16 (words (0xffff_ffff_ffff_fffc ∷ 2 ∷ []))).0 ≡ 16
  pub next_draw : (place Uniform 100 8 16 (place Uniform 100 8 16 (words (0 ∷ 3 ∷ []))).1).0 ≡ 24
  pub behind : (place Sequential 100 8 16 (words (3 ∷ []))).0 ≡ 16
  pub draws_nothing : (place Sequential 100 8 16 (words (3 ∷ []))).1 ≡ words (3 ∷ [])
  pub just_fits : (place Sequential 100 8 92 (words [])).0 ≡ 92
  pub wraps : (place Sequential 100 8 93 (words [])).0 ≡ 0
  pub whole_namespace : (place Sequential 8 8 8 (words [])).0 ≡ 0
  pub begins : sequential_place 100 8 0 ≡ 0
  pub twelfth : sequential_place 100 8 11 ≡ 88
  pub thirteenth : sequential_place 100 8 12 ≡ 0
