-- The places of a log and their fates. A place is a submission region with an index, which counts the region's fetches from 0 (profile).
use Rattle.std.specs.Prelude.{ℕ, ◌+◌, ◌==◌, ◌&&◌, ◌||◌, Bool, true, false, not, nat_lt, if◌then◌else◌, List, [], ◌∷◌, ◌++◌, length, filter, Option, Some, None, slice_get}
use Rattle.std.specs.List.{flat_map}
use Rattle.nvme_entry.specs.declared.submission.Sqe.{Sqe}
use Rattle.nvme_arbiter.specs.Limits.{queue_limit}
use Rattle.nvme_arbiter.specs.declared.pick.Seen.{Seen}
use Rattle.nvme_log.specs.declared.event.Event.TheVariants.{Fetch, Pick, Abort}
use Rattle.nvme_log.specs.Rules.{Past, upto}
use Rattle.nvme_log.specs.Queues.{Queue, open_sq, has_region}

-- the entries fetched from a region, in order
abbrev pub fetched : Past → ℕ → List Sqe
fetched [] r = []
fetched (Fetch region index entry ∷ past) r = if region == r then fetched past r ++ entry ∷ [] else fetched past r
fetched (e ∷ past) r = fetched past r

-- how many commands of a region were picked. A pick is of the region whose queue its identifier names then
abbrev pub picked : Past → ℕ → ℕ
picked [] r = 0
picked (Pick seen pick ∷ past) r = if has_region r (open_sq past pick.qid) then picked past r + pick.n else picked past r
picked (e ∷ past) r = picked past r

-- an Abort names the place
abbrev pub is_aborted : Past → ℕ → ℕ → Bool
is_aborted [] r i = false
is_aborted (Abort region index ∷ past) r i = (region == r && index == i) || is_aborted past r i
is_aborted (e ∷ past) r i = is_aborted past r i

-- how many places of a region below an index no Abort names
abbrev pub unaborted_below : Past → ℕ → ℕ → ℕ
unaborted_below past r i = length (filter (λ (k : ℕ). not (is_aborted past r k)) (upto i))

-- what became of a place
pub data Fate : Type 0 where
  WasAborted : Fate
  WasPicked : Fate
  Waits : Fate

-- the fate of a fetched place: aborted where an Abort names it, else picked where fewer places below it are unaborted than commands were
-- picked, else it waits
abbrev pub fate_of : Past → ℕ → ℕ → Fate
fate_of past r i = if is_aborted past r i then WasAborted else (if nat_lt (unaborted_below past r i) (picked past r) then WasPicked else Waits)

abbrev pub is_waiting : Fate → Bool
is_waiting Waits = true
is_waiting WasAborted = false
is_waiting WasPicked = false

abbrev pub is_picked : Fate → Bool
is_picked WasPicked = true
is_picked WasAborted = false
is_picked Waits = false

-- the fetched places of a region
abbrev pub places : Past → ℕ → List ℕ
places past r = upto (length (fetched past r))

-- the places of a region that wait, ascending: the candidates
abbrev pub waiting : Past → ℕ → List ℕ
waiting past r = filter (λ (i : ℕ). is_waiting (fate_of past r i)) (places past r)

-- the entry of a place
abbrev pub entry_at : Past → ℕ → ℕ → Option Sqe
entry_at past r i = slice_get (fetched past r) i

-- what arbitration sees of an open queue: its class and how many of its places wait
abbrev pub seen_as : Past → ℕ → Option Queue → List Seen
seen_as past q None = []
seen_as past q (Some queue) = record { qid = q; class = queue.class; count = length (waiting past queue.region) } ∷ []

-- the open queues, ascending, each with its class and the number of its waiting places
abbrev pub observation_of : Past → List Seen
observation_of past = flat_map (λ (q : ℕ). seen_as past q (open_sq past q)) (upto queue_limit)

-- a place was fetched, and was picked or aborted
abbrev pub is_served : Past → ℕ → ℕ → Bool
is_served past r i = nat_lt i (length (fetched past r)) && not (is_waiting (fate_of past r i))

abbrev pub one_if : Bool → ℕ
one_if b = if b then 1 else 0
