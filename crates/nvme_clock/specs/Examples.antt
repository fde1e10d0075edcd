-- Worked examples of the definitions. (profile)
use Rattle.std.specs.Prelude.{◌≡◌, ℕ, List, [], ◌∷◌, drop, slice_index, Ok, Err, Some, None, codes}
use Rattle.rand_core.specs.Steps.{Steps, stream_of}
use Rattle.rand_core.specs.Stream.{Stream}
use Rattle.rand_xoshiro.specs.SplitMix64.{mix_u64}
use Rattle.rand_xoshiro.specs.Xoshiro256.{plus_plus}
use Rattle.nvme_clock.specs.declared.durations.DurationFault.TheVariants as fault
use Rattle.nvme_clock.specs.Draws.{exponential_from, quantile, uniform_from}
use Rattle.nvme_clock.specs.Durations.{duration_in}
use Rattle.nvme_clock.specs.Held.{Held, nothing, popped, pushed}

pub record DurationExamples : Type 0 where
  pub microseconds : duration_in (codes "80us") ≡ Ok 80_000_000
  pub with_point : duration_in (codes "1.5ms") ≡ Ok 1_500_000_000
  pub smallest : duration_in (codes "0.000000000001s") ≡ Ok 1
  pub zeros : duration_in (codes "012.0ps") ≡ Ok 12
  pub longest : duration_in (codes "18446744073709551615ps") ≡ Ok 0xffff_ffff_ffff_ffff
  pub longest_days : duration_in (codes "18446744.073709551615s") ≡ Ok 0xffff_ffff_ffff_ffff
  pub too_long : duration_in (codes "18446744073709551616ps") ≡ Err fault.TooLong
  pub too_long_part : duration_in (codes "18446744.073709551616s") ≡ Err fault.TooLong
  pub half_picosecond : duration_in (codes "0.5ps") ≡ Err fault.Part
  pub finer : duration_in (codes "1.0000000000001s") ≡ Err fault.Part
  pub no_unit : duration_in (codes "80") ≡ Err fault.Unit
  pub other_unit : duration_in (codes "2min") ≡ Err fault.Unit
  pub space : duration_in (codes "80 us") ≡ Err fault.Unit
  pub sign : duration_in (codes "-1us") ≡ Err fault.Unit
  pub no_digit : duration_in (codes "us") ≡ Err fault.Digits
  pub no_digit_before : duration_in (codes ".5us") ≡ Err fault.Digits
  pub no_digit_behind : duration_in (codes "1.us") ≡ Err fault.Digits
  pub two_points : duration_in (codes "1.2.3us") ≡ Err fault.Digits

-- a stream of these words
abbrev pub listed : Steps (List ℕ)
listed = record { next_u32 = λ ws. (0, ws); next_u64 = λ ws. (slice_index ws 0, drop 1 ws); fill_bytes = λ n ws. ([], ws) }

abbrev pub words : List ℕ → Stream
words ws = stream_of listed ws

-- 2^63 is a half, and 2^62 a quarter
pub record DrawExamples : Type 0 where
  pub run_of_one : (exponential_from 2 100_000 0 (words (0x8000_0000_0000_0000 ∷ 0x8000_0000_0000_0000 ∷ []))).0 ≡ 50_000
  pub run_of_two : (exponential_from 2 100_000 0 (words (0x8000_0000_0000_0000 ∷ 0x4000_0000_0000_0000 ∷ 0x4000_0000_0000_0000
      ∷ 0x4000_0000_0000_0000 ∷ 0x8000_0000_0000_0000 ∷ []))).0 ≡ 125_000
  pub run_of_three : (exponential_from 2 100_000 0 (words (0x8000_0000_0000_0000 ∷ 0x4000_0000_0000_0000 ∷ 0x2000_0000_0000_0000
      ∷ 0x8000_0000_0000_0000 ∷ []))).0 ≡ 50_000
  pub remainder : (uniform_from 2 6 (words (0xffff_ffff_ffff_fffb ∷ []))).0 ≡ 5
  pub rejected : (uniform_from 2 6 (words (0xffff_ffff_ffff_fffc ∷ 7 ∷ []))).0 ≡ 1
  pub lowest : quantile (10 ∷ 20 ∷ 40 ∷ []) 0 ≡ 10
  pub between : quantile (10 ∷ 20 ∷ 40 ∷ []) 0x4000_0000_0000_0000 ≡ 15
  pub at_one : quantile (10 ∷ 20 ∷ 40 ∷ []) 0x8000_0000_0000_0000 ≡ 20
  pub between_others : quantile (10 ∷ 20 ∷ 40 ∷ []) 0xc000_0000_0000_0000 ≡ 30
  pub highest : quantile (10 ∷ 20 ∷ 40 ∷ []) 0xffff_ffff_ffff_ffff ≡ 39

-- the published first words of xoshiro256++ from the state 1, 2, 3, 4, and of SplitMix64 from 1234567
pub record PublishedWords : Type 0 where
  pub xoshiro_first : (plus_plus (1 ∷ 2 ∷ 3 ∷ 4 ∷ [])).0 ≡ 41943041
  pub xoshiro_second : (plus_plus (plus_plus (1 ∷ 2 ∷ 3 ∷ 4 ∷ [])).1).0 ≡ 58720359
  pub xoshiro_third : (plus_plus (plus_plus (plus_plus (1 ∷ 2 ∷ 3 ∷ 4 ∷ [])).1).1).0 ≡ 3588806011781223
  pub splitmix_first : (mix_u64 1234567).0 ≡ 6457827717110365317
  pub splitmix_second : (mix_u64 (mix_u64 1234567).1).0 ≡ 3203168211198807973

-- a queue that holds nothing, and then an event at 5, one at 3 and another at 5
abbrev pub three_pushed : Held ℕ
three_pushed = pushed 5 12 (pushed 3 11 (pushed 5 10 nothing))

pub record EventExamples : Type 0 where
  pub earliest : (popped three_pushed).0 ≡ Some (record { at = 3; number = 1; what = 11 })
  pub pushed_first : (popped (popped three_pushed).1).0 ≡ Some (record { at = 5; number = 0; what = 10 })
  pub pushed_later : (popped (popped (popped three_pushed).1).1).0 ≡ Some (record { at = 5; number = 2; what = 12 })
  pub none : (popped (popped (popped (popped three_pushed).1).1).1).0 ≡ None
  pub time : (popped (popped three_pushed).1).1.time ≡ 5
