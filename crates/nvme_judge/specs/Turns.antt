-- When a queue was picked last, and since when it waits, by the numbers of picks: the first pick of a history is number 1.
-- (Base Specification, Command Arbitration; the numbers: profile)
use Rattle.std.specs.Prelude.{ℕ, ◌+◌, ◌==◌, ◌&&◌, Bool, false, not, nat_le, if◌then◌else◌, List, [], ◌∷◌, slice_index_or, Option, Some, None}
use Rattle.std.specs.List.{list_any}
use Rattle.nvme_arbiter.specs.ByClass.{of_class}
use Rattle.nvme_arbiter.specs.History.{Picked, Changed, History}
use Rattle.nvme_arbiter.specs.Specified.{ready_in, is_pick_in}
use Rattle.nvme_arbiter.specs.declared.settings.Class.{Class}
use Rattle.nvme_arbiter.specs.declared.pick.Seen.{Seen}
use Rattle.nvme_judge.specs.declared.turns.Turn.{Turn}
use Rattle.nvme_judge.specs.declared.turns.Turns.{Turns}

-- how many picks a history has
abbrev pub picks_in : History → ℕ
picks_in [] = 0
picks_in (Changed settings ∷ past) = picks_in past
picks_in (Picked seen pick ∷ past) = picks_in past + 1

-- whether the queue of an identifier is ready, in a class where one is given
abbrev pub is_ready_in : Option Class → ℕ → List Seen → Bool
is_ready_in class qid seen = list_any (λ s. s.qid == qid) (ready_in class seen)

-- the number of the latest pick of a queue, among those of a class where one is given
abbrev pub latest_pick : Option Class → ℕ → History → Option ℕ
latest_pick class qid [] = None
latest_pick class qid (Changed settings ∷ past) = latest_pick class qid past
latest_pick class qid (Picked seen pick ∷ past) = if is_pick_in class seen pick && (pick.qid == qid) then Some (picks_in past + 1) else latest_pick class qid past

-- a number, or another where there is none
abbrev pub or_number : Option ℕ → ℕ → ℕ
or_number None n = n
or_number (Some m) n = m

-- the number of the pick since which a queue was ready at each, among those of a class where one is given, and was not picked
abbrev pub waits_since : Option Class → ℕ → History → Option ℕ
waits_since class qid [] = None
waits_since class qid (Changed settings ∷ past) = waits_since class qid past
waits_since class qid (Picked seen pick ∷ past) =
    if is_pick_in class seen pick
    then (if is_ready_in class qid seen && not (pick.qid == qid) then Some (or_number (waits_since class qid past) (picks_in past + 1)) else None)
    else waits_since class qid past

-- whether a queue waits since a pick or longer
abbrev pub is_since : Option ℕ → Option ℕ → Bool
is_since None latest = false
is_since (Some since) None = false
is_since (Some since) (Some latest) = nat_le since latest

-- what is kept of a queue after a history
abbrev pub turn_after : Option Class → ℕ → History → Turn
turn_after class qid past = record { latest = latest_pick class qid past; since = waits_since class qid past }

-- nothing is known of a queue
abbrev pub no_turn : Turn
no_turn = record { latest = None; since = None }

-- what is kept of a queue
abbrev pub turn_in : List Turn → ℕ → Turn
turn_in turns qid = slice_index_or turns qid no_turn

-- what is kept of all queues, or of those of a class
abbrev pub turns_of : Turns → Option Class → List Turn
turns_of turns None = turns.all.turns
turns_of turns (Some class) = (of_class turns.by_class class).turns
