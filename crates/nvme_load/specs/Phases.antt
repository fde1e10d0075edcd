-- On and off phases of fixed lengths, which follow one another from time 0. (profile)
use Rattle.std.specs.Prelude.{◌≡◌, ◌≤◌, ◌^◌, ℕ, ◌+◌, ◌*◌, ◌/◌, ◌%◌, Bool, nat_lt, IsTrue}
use Rattle.nvme_load.specs.declared.phases.PhasesFault.{PhasesFault}
use Rattle.nvme_load.specs.declared.phases.PhasesFault.TheVariants.{NoOn, TooLong}
use Rattle.nvme_load.specs.Counts.{count_below}

abbrev pub TellsPhasesFault : ℕ → ℕ → PhasesFault → Type 0
TellsPhasesFault on off NoOn = on ≡ 0
TellsPhasesFault on off TooLong = 2 ^ 64 ≤ on + off

-- whether it is on at a time: each on phase has its off phase behind it
abbrev pub is_on : ℕ → ℕ → ℕ → Bool
is_on on off time = nat_lt (time % (on + off)) on

-- the picoseconds before a time that lie in on phases
abbrev pub on_before : ℕ → ℕ → ℕ → ℕ
on_before on off time = count_below (is_on on off) time

-- the time before which it was on for so long, and at which it is on: all on phases that fit, each with its off phase, and the rest
abbrev pub when_on : ℕ → ℕ → ℕ → ℕ
when_on on off length = length / on * (on + off) + length % on

-- it is so
pub record ComesWhereOn (on off length : ℕ) : Type 0 where
  pub on_there : IsTrue (is_on on off (when_on on off length))
  pub on_so_long : on_before on off (when_on on off length) ≡ length
