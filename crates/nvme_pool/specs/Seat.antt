-- What contracts see of the front's seat at a pool (profile).
use Rattle.std.specs.Prelude.{◌≡◌, ℕ, ◌<◌, List, [], ◌∷◌, ◌++◌, length, map}
use Rattle.std.specs.List.{All}
use Rattle.nvme_lane.specs.View.{GetView, SameGet}
use Rattle.nvme_lane.specs.Passes.{LaneView}
use Rattle.nvme_pool.specs.declared.jobs.Job.{Job}
use Rattle.nvme_pool.specs.declared.jobs.Finished.{Finished}
use Rattle.nvme_pool.specs.Place.{Place, get_place}

-- the get ends of the result rings, in the order of the workers; what was got from them are the results gained
abbrev pub Ends : Type 0
Ends = List (GetView Finished)

-- the lane that it hands to with its parts of that lane, the jobs that it handed, and the ends by which it gains results
pub record SeatView : Type 0 where
  pub lane : LaneView
  pub parts : ℕ
  pub handed : List Job
  pub ends : Ends

-- the rings of the ends, in order
abbrev pub rings_at : Ends → List Place
rings_at ends = map (λ (g : GetView Finished). get_place g) ends

-- the same seat, after some calls: of the same lane, with ends of the same rings
pub record SameSeat (old new : SeatView) : Type 0 where
  pub lane : new.lane ≡ old.lane
  pub parts : new.parts ≡ old.parts
  pub rings : rings_at new.ends ≡ rings_at old.ends

-- nothing is known to rest in the ring
abbrev pub IsUnknown : GetView Finished → Type 0
IsUnknown g = g.known ≡ []

-- x was got from one end, the first of what was known there if anything was, so that the rest is known still; nothing is known at the ends before it, and no other end changed
pub record OneGained (old new : Ends) (x : Finished) : Type 0 where
  pub before : Ends
  pub end : GetView Finished
  pub after : Ends
  pub end' : GetView Finished
  pub were : old ≡ before ++ end ∷ after
  pub are : new ≡ before ++ end' ∷ after
  pub none_before : All IsUnknown before
  pub same : SameGet end end'
  pub got : end'.got ≡ end.got ++ x ∷ []
  pub known : 0 < length end.known → end.known ≡ x ∷ end'.known
