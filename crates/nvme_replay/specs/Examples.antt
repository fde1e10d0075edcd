-- Worked examples. (profile)
use Rattle.std.specs.Prelude.{◌≡◌, Some, None, codes}
use Rattle.nvme_replay.specs.Speeds.{at_speed, speed_in, whole_speed}

-- twice as fast takes half of the time, and half as fast twice as much
pub record SpeedExamples : Type 0 where
  pub two : speed_in (codes "2") ≡ Some (record { parts = 2; whole = 1 })
  pub half : speed_in (codes "0.5") ≡ Some (record { parts = 5; whole = 10 })
  pub one_and_a_quarter : speed_in (codes "1.25") ≡ Some (record { parts = 125; whole = 100 })
  pub zero : speed_in (codes "0") ≡ None
  pub no_part : speed_in (codes "0.00") ≡ None
  pub nothing_behind : speed_in (codes "1.") ≡ None
  pub nothing_before : speed_in (codes ".5") ≡ None
  pub two_points : speed_in (codes "1.2.3") ≡ None
  pub sign : speed_in (codes "+1") ≡ None
  pub no_text : speed_in (codes "") ≡ None
  pub greatest : speed_in (codes "18446744073709551615") ≡ Some (record { parts = 0xffff_ffff_ffff_ffff; whole = 1 })
  pub too_great : speed_in (codes "18446744073709551616") ≡ None
  pub whole : whole_speed 3 ≡ Some (record { parts = 3; whole = 1 })
  pub no_whole : whole_speed 0 ≡ None
  pub at_double : at_speed (record { parts = 2; whole = 1 }) 101 ≡ Some 50
  pub at_half : at_speed (record { parts = 5; whole = 10 }) 101 ≡ Some 202
  pub last : at_speed (record { parts = 5; whole = 10 }) 0x7fff_ffff_ffff_ffff ≡ Some 0xffff_ffff_ffff_fffe
  pub too_late : at_speed (record { parts = 5; whole = 10 }) 0x8000_0000_0000_0000 ≡ None
