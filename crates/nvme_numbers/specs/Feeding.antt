-- What is done while commands come: no later than the last of them, and behind the first one that counts. (profile)
use Rattle.std.specs.Prelude.{ℕ, ◌+◌, ◌-◌, ◌*◌, ◌==◌, ◌&&◌, Bool, false, if◌then◌else◌, nat_le, nat_lt, List, [], ◌∷◌, Option, Some, None, length, min, unwrap_or}
use Rattle.std.specs.List.{sum_by}
use Rattle.nvme_model.specs.declared.finished.Finished.{Finished}
use Rattle.nvme_numbers.specs.declared.feed.Amount.{Amount}

-- so many commands came in all, the last of them at this time, or a command is done
pub data Event : Type 0 where
  Comes : (count at : ℕ) → Event
  Ends : (command : Finished) → Event

-- of events, the newest first: how many commands came
unfoldable pub came_in : List Event → ℕ
came_in [] = 0
came_in (Comes count at ∷ past) = if nat_lt (came_in past) count then count else came_in past
came_in (Ends command ∷ past) = came_in past

-- when the last one came, and 0 where none did
unfoldable pub last_in : List Event → ℕ
last_in [] = 0
last_in (Comes count at ∷ past) = if nat_lt (came_in past) count then at else last_in past
last_in (Ends command ∷ past) = last_in past

-- when the first one came that counts, which is that behind those that warm up
unfoldable pub first_in : (warm_up : ℕ) → List Event → Option ℕ
first_in warm_up [] = None
first_in warm_up (Comes count at ∷ past) =
    if nat_lt (came_in past) count && (nat_le (came_in past) warm_up && nat_lt warm_up count) then Some at else first_in warm_up past
first_in warm_up (Ends command ∷ past) = first_in warm_up past

-- a command is done behind that
abbrev pub is_behind : Option ℕ → Finished → Bool
is_behind None command = false
is_behind (Some first) command = nat_lt first command.times.done

-- a command of a queue is so
abbrev pub counts_of : (warm_up queue : ℕ) → List Event → Finished → Bool
counts_of warm_up queue past command = (command.queue == queue) && is_behind (first_in warm_up past) command

-- all of a queue that are done behind that
unfoldable pub done_in : (warm_up queue : ℕ) → List Event → List Finished
done_in warm_up queue [] = []
done_in warm_up queue (Comes count at ∷ past) = done_in warm_up queue past
done_in warm_up queue (Ends command ∷ past) =
    if counts_of warm_up queue past command then command ∷ done_in warm_up queue past else done_in warm_up queue past

-- those of them that are done before the last command comes, or when it does
unfoldable pub fed_in : (warm_up queue : ℕ) → List Event → List Finished
fed_in warm_up queue [] = []
fed_in warm_up queue (Comes count at ∷ past) = if nat_lt (came_in past) count then done_in warm_up queue past else fed_in warm_up queue past
fed_in warm_up queue (Ends command ∷ past) =
    if counts_of warm_up queue past command && nat_le command.times.done (last_in past) then command ∷ fed_in warm_up queue past else fed_in warm_up queue past

-- how long that is
abbrev pub fed_time : (warm_up : ℕ) → List Event → ℕ
fed_time warm_up events = last_in events - unwrap_or (first_in warm_up events) (last_in events)

-- how many commands are done, and their bytes: a block has 512. More than 2^128 - 1 are told as so many
abbrev pub capped : ℕ → ℕ
capped count = min count 0xffff_ffff_ffff_ffff_ffff_ffff_ffff_ffff

abbrev pub amount_of : List Finished → Amount
amount_of commands = record { commands = capped (length commands); bytes = capped (sum_by (λ f. 512 * f.blocks) commands) }

abbrev pub amount_with : Amount → Finished → Amount
amount_with a f = record { commands = capped (a.commands + 1); bytes = capped (a.bytes + 512 * f.blocks) }

abbrev pub amount_plus : Amount → Amount → Amount
amount_plus a b = record { commands = capped (a.commands + b.commands); bytes = capped (a.bytes + b.bytes) }
