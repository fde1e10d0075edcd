-- What a pass of a lane has done, as the rule of the lane sees it (profile).
use Rattle.std.specs.Prelude.{ℕ, List}
use Rattle.nvme_lane.specs.declared.rule.Hand.{Hand}

module _ {T : Type 0} where
  -- a hand with this number of parts that put one list and took another
  abbrev pub hand : ℕ → List T → List T → Hand T
  hand parts put taken = record { parts = parts; put = put; taken = taken }
