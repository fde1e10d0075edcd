-- Commands that run on a device. (profile)
use Rattle.std.specs.Prelude.{◌<◌, ◌≤◌, ℕ, ◌+◌, ◌*◌, ◌/◌, ◌&&◌, Bool, nat_le, nat_lt, All, List, count_by}

-- a command that runs from a time on until it ends
pub record Run : Type 0 where
  pub start : ℕ
  pub end : ℕ

abbrev pub runs_at : ℕ → Run → Bool
runs_at now r = nat_le r.start now && nat_lt now r.end

-- behind one time, and not behind another
abbrev pub ends_in : (from to : ℕ) → Run → Bool
ends_in from to r = nat_lt from r.end && nat_le r.end to

-- behind one time, and before another
abbrev pub ends_between : (from to : ℕ) → Run → Bool
ends_between from to r = nat_lt from r.end && nat_lt r.end to

-- none takes longer
abbrev pub LastAtMost : (longest : ℕ) → List Run → Type 0
LastAtMost longest runs = All (λ r. r.end ≤ r.start + longest) runs

-- from one time on and before another, so many run at least
abbrev pub IsBusy : (least from to : ℕ) → List Run → Type 0
IsBusy least from to runs = (now : ℕ) → from ≤ now → now < to → least ≤ count_by (runs_at now) runs

-- how long it takes until so many commands and one more have ended, where so many run at least
abbrev pub time_behind : (commands least longest : ℕ) → ℕ
time_behind commands least longest = (commands / least + 1) * longest
