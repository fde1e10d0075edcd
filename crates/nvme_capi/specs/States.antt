-- What a state of C says, in the library's terms (profile).
use Rattle.std.specs.Prelude.{◌≤◌, ◌==◌, ◌&&◌, length, Bool, Option, Some, None, List, map}
use Rattle.nvme_arbiter.specs.Settings.{class_of_number}
use Rattle.nvme_arbiter.specs.Limits.{queue_limit}
use Rattle.nvme_arbiter.specs.Observation.{IsObservation}
use Rattle.nvme_arbiter.specs.Layout.{is_arbiter}
use Rattle.nvme_arbiter.specs.declared.settings.Class.{Class}
use Rattle.nvme_arbiter.specs.declared.settings.Class.TheVariants.{Low}
use Rattle.nvme_arbiter.specs.declared.pick.Seen.{Seen}
use Rattle.nvme_arbiter.specs.declared.pick.Pick.{Pick}
use Rattle.nvme_capi.specs.declared.board.BoardState.{BoardState}
use Rattle.nvme_capi.specs.declared.board.TheConstants.{MARK}
use Rattle.nvme_capi.specs.declared.states.SeenFields.{SeenFields}
use Rattle.nvme_capi.specs.declared.states.PickFields.{PickFields}

-- a board is one that was made, by its mark, and what its arbiter keeps is in its ranges
abbrev pub is_board : BoardState → Bool
is_board s = s.mark == MARK && is_arbiter s.board.arbiter

abbrev pub seen_in_class : SeenFields → Option Class → Seen
seen_in_class f (Some class) = record { qid = f.qid; class = class; count = f.count }
seen_in_class f None = record { qid = 0xffff; class = Low; count = 0 }

-- a submission queue as arbitration sees it. A queue with an unknown class can't be seen
abbrev pub seen_of_fields : SeenFields → Seen
seen_of_fields f = seen_in_class f (class_of_number f.class)

abbrev pub seen_in : List SeenFields → List Seen
seen_in fs = map {A = SeenFields} {B = Seen} seen_of_fields fs

abbrev pub pick_of_fields : PickFields → Pick
pick_of_fields f = record { qid = f.qid; n = f.n; fresh = f.fresh == 1 }

-- the queues are an observation that the library can be shown
pub record IsShown (fs : List SeenFields) : Type 0 where
  pub few : length fs ≤ queue_limit
  pub observed : IsObservation (seen_in fs)
