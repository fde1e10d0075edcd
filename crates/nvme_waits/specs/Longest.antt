-- The longest service of any command, in picoseconds. (profile)
use Rattle.std.specs.Prelude.{◌≡◌, ◌<◌, ℕ, ◌==◌, max, if◌then◌else◌, Contains, List}
use Rattle.std.specs.List.{fold}
use Rattle.nvme_load.specs.declared.arrivals.Arrivals.{Arrivals}
use Rattle.nvme_load.specs.declared.arrivals.Arrivals.TheVariants.{Poisson, Regular, OnOff, Closed, Replay}
use Rattle.nvme_load.specs.declared.mix.Mix.{Mix}
use Rattle.nvme_load.specs.declared.mix.Operation.{Operation}
use Rattle.nvme_load.specs.declared.mix.Operation.TheVariants.{Read, Write, Flush}
use Rattle.nvme_load.specs.declared.replay.Request.{Request}
use Rattle.nvme_load.specs.declared.services.Services.{Services}
use Rattle.nvme_load.specs.Longest.{longest_by}
use Rattle.nvme_model.specs.declared.queue.Queue.{Queue}

-- the greatest value of a list, and 0 where it is empty
abbrev pub greatest_by : {X : Type 0} → (X → ℕ) → List X → ℕ
greatest_by value xs = fold (λ most x. max most (value x)) 0 xs

-- the share that an operation has of the commands that are drawn
abbrev pub share_of : Mix → Operation → ℕ
share_of mix Read = mix.read
share_of mix Write = mix.write
share_of mix Flush = mix.flush

-- of the commands of an operation that are drawn, if it has a share
abbrev pub longest_drawn_of : Queue → Operation → ℕ
longest_drawn_of q operation = if share_of q.mix operation == 0 then 0 else longest_by q.services operation q.places.extent.blocks

abbrev pub longest_drawn : Queue → ℕ
longest_drawn q = max (max (longest_drawn_of q Read) (longest_drawn_of q Write)) (longest_drawn_of q Flush)

-- of the commands of a list
abbrev pub longest_listed : Services → List Request → ℕ
longest_listed services requests = greatest_by (λ r. longest_by services r.operation r.blocks) requests

-- of a queue, whose commands are drawn where no list says what they do
abbrev pub longest_coming : Queue → Arrivals → ℕ
longest_coming q (Poisson mean) = longest_drawn q
longest_coming q (Regular gap) = longest_drawn q
longest_coming q (OnOff phases) = longest_drawn q
longest_coming q (Closed host) = longest_drawn q
longest_coming q (Replay list) = longest_listed q.services list.requests.items

abbrev pub longest_in : Queue → ℕ
longest_in q = longest_coming q q.arrivals

-- of all queues
abbrev pub longest_of : List Queue → ℕ
longest_of queues = greatest_by longest_in queues

-- a queue may have a command of an operation and so many blocks: its list has one, or the operation has a share of those that are drawn
abbrev pub MayDraw : Queue → Operation → (blocks : ℕ) → Type 0
MayDraw q operation blocks = (0 < share_of q.mix operation) × (blocks ≡ q.places.extent.blocks)

abbrev pub MayCome : Queue → Arrivals → Operation → (blocks : ℕ) → Type 0
MayCome q (Poisson mean) operation blocks = MayDraw q operation blocks
MayCome q (Regular gap) operation blocks = MayDraw q operation blocks
MayCome q (OnOff phases) operation blocks = MayDraw q operation blocks
MayCome q (Closed host) operation blocks = MayDraw q operation blocks
MayCome q (Replay list) operation blocks =
    (r : Request) × Contains list.requests.items r × ((r.operation ≡ operation) × (r.blocks ≡ blocks))
