-- How many commands came and are done. (profile)
use Rattle.std.specs.Prelude.{◌≡◌, ◌+◌, ◌&&◌, ℕ, Bool, true, false, nat_le, nat_lt, Option, Some, None}
use Rattle.nvme_model.specs.declared.model.End.{End}
use Rattle.nvme_occupancy.specs.Occupancies.{Comes, Leaves}
use Rattle.nvme_occupancy.specs.declared.occupancy.Occupancy.{Occupancy}
use Rattle.nvme_simulation.specs.declared.happening.Happening.{Happening}
use Rattle.nvme_simulation.specs.declared.happening.Happening.TheVariants.{Came, Finished, Over}

abbrev pub is_before : ℕ → Option ℕ → Bool
is_before now None = true
is_before now (Some end) = nat_lt now end

-- one more command may come: before the end, and where fewer came than are to come
abbrev pub may_come : End → (now : ℕ) → Occupancy → Bool
may_come end now o = is_before now end.time && nat_lt o.came end.commands

-- numbers count the next command that comes: it isn't of those that come first, to warm up
abbrev pub is_counted : (warm_up : ℕ) → Occupancy → Bool
is_counted warm_up o = nat_le warm_up o.came

abbrev pub ComesIf : Bool → (now : ℕ) → (before after : Occupancy) → Type 0
ComesIf true now before after = Comes now before after
ComesIf false now before after = after ≡ before

-- what happens changes the occupancy so: one comes where one may; one is done; or it stays. At the end as many are done as came, so that the area and the sum of the
-- times at which they came are the sum of those at which they were done (Little's law)
abbrev pub Counts : End → (now : ℕ) → (before after : Occupancy) → Happening → Type 0
Counts end now before after (Came queue) = ComesIf (may_come end now before) now before after
Counts end now before after (Finished command counts) = Leaves now before after
Counts end now before after Over = (after ≡ before) × (after.area + after.came_times ≡ after.left_times)
Counts end now before after h = after ≡ before
