-- What an arbitration history says. A history is a list of events, the newest first: `e ∷ past` is e after the events of `past`.
-- (Base Specification, Command Arbitration; histories: profile)
use Rattle.std.specs.Prelude.{ℕ, ◌+◌, Bool, false, if◌then◌else◌, List, [], ◌∷◌, Option, Some, None}
use Rattle.nvme_arbiter.specs.Settings.{ArbitrationFields}
use Rattle.nvme_arbiter.specs.Observation.{is_class, class_in}
use Rattle.nvme_arbiter.specs.declared.settings.Class.{Class}
use Rattle.nvme_arbiter.specs.declared.pick.Seen.{Seen}
use Rattle.nvme_arbiter.specs.declared.pick.Pick.{Pick}

pub data ArbitrationEvent : Type 0 where
  -- a pick, and the observation on which it was made
  Picked : (seen : List Seen) (pick : Pick) → ArbitrationEvent
  -- an accepted change of the settings
  Changed : (settings : ArbitrationFields) → ArbitrationEvent

-- a history, the newest event first
abbrev pub History : Type 0
History = List ArbitrationEvent

-- the settings in force: those of the latest change, else the first ones
abbrev pub settings_after : ArbitrationFields → History → ArbitrationFields
settings_after first [] = first
settings_after first (Changed settings ∷ past) = settings
settings_after first (Picked seen pick ∷ past) = settings_after first past

-- the identifier that was served last of all
abbrev pub last_served : History → Option ℕ
last_served [] = None
last_served (Picked seen pick ∷ past) = Some pick.qid
last_served (Changed settings ∷ past) = last_served past

-- whether a queue was seen in a class
abbrev pub is_in_class : Class → Option Class → Bool
is_in_class class None = false
is_in_class class (Some other) = is_class class other

-- the identifier that was served last of a class. A pick is of the class in which its own observation shows its queue
abbrev pub last_served_of : Class → History → Option ℕ
last_served_of class [] = None
last_served_of class (Picked seen pick ∷ past) = if is_in_class class (class_in seen pick.qid) then Some pick.qid else last_served_of class past
last_served_of class (Changed settings ∷ past) = last_served_of class past

-- how many commands a pick took from a class
abbrev pub taken : Class → List Seen → Pick → ℕ
taken class seen pick = if is_in_class class (class_in seen pick.qid) then pick.n else 0

-- how many commands of a level were picked in this round. A round starts at the beginning, with each fresh pick, which counts, and with each change of the settings (profile)
abbrev pub used_in_round : Class → History → ℕ
used_in_round level [] = 0
used_in_round level (Changed settings ∷ past) = 0
used_in_round level (Picked seen pick ∷ past) = taken level seen pick + (if pick.fresh then 0 else used_in_round level past)
