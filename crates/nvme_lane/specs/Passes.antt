-- What contracts see of a lane and of its passes (profile).
use Rattle.std.specs.Prelude.{◌≡◌, ℕ, ◌+◌, ◌<◌, List, [], length, sum_by, slice_index_or}
use Rattle.std.specs.List.{All}
use Rattle.atomic_table.specs.Seated.{TableId}

-- which lane it is, and how many items it holds at most
pub record LaneView : Type 0 where
  pub name : TableId
  pub capacity : ℕ

-- which lane it is a pass of, its parts of the lane, and the list of what it pushed or popped
pub record PassView (T : Type 0) : Type 0 where
  pub lane : LaneView
  pub parts : ℕ
  pub items : List T

-- the parts of all passes of a lane
abbrev pub whole : ℕ
whole = 1024

module _ {T : Type 0} where
  -- a pass of one part that has pushed or popped nothing
  abbrev pub fresh : LaneView → PassView T
  fresh lane = record { lane = lane; parts = 1; items = [] }

  abbrev pub parts_of : List (PassView T) → ℕ
  parts_of passes = sum_by (λ (p : PassView T). p.parts) passes

  -- the weight of all that the passes pushed or popped
  abbrev pub weight_of : (T → ℕ) → List (PassView T) → ℕ
  weight_of h passes = sum_by (λ (p : PassView T). sum_by h p.items) passes

  -- they are passes of that lane
  abbrev pub AreOf : LaneView → List (PassView T) → Type 0
  AreOf lane passes = All (λ (p : PassView T). p.lane ≡ lane) passes

  -- they are passes of the lane with that name
  abbrev pub AreNamed : TableId → List (PassView T) → Type 0
  AreNamed name passes = All (λ (p : PassView T). p.lane.name ≡ name) passes

  -- they have pushed or popped nothing
  abbrev pub AreBlank : List (PassView T) → Type 0
  AreBlank passes = All (λ (p : PassView T). p.items ≡ []) passes

  -- they are all passes of that lane, in any order
  pub record AreAllOf (lane : LaneView) (pushes pops : List (PassView T)) : Type 0 where
    pub pushes_of : AreOf lane pushes
    pub pops_of : AreOf lane pops
    pub some : 0 < length pushes
    pub complete : parts_of pushes + parts_of pops ≡ whole

  -- the same pass, after some steps: the same lane and the same parts
  pub record SamePass (old new : PassView T) : Type 0 where
    pub lane : new.lane ≡ old.lane
    pub parts : new.parts ≡ old.parts

  -- the same passes in the same order, after some steps
  pub record SamePasses (old new : List (PassView T)) : Type 0 where
    pub number : length new ≡ length old
    pub each : (k : ℕ) (d e : PassView T) → k < length old → SamePass (slice_index_or old k d) (slice_index_or new k e)
