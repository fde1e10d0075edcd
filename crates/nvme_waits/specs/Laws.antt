-- What holds of the longest service. (profile)
use Rattle.std.specs.Prelude.{◌≤◌, ℕ, Contains, List}
use Rattle.nvme_load.specs.declared.mix.Operation.{Operation}
use Rattle.nvme_load.specs.Longest.{longest_by}
use Rattle.nvme_model.specs.declared.queue.Queue.{Queue}
use Rattle.nvme_waits.specs.Longest.{MayCome, longest_of}

-- no command that may come takes longer
abbrev pub NoneTakesLonger : Type 0
NoneTakesLonger = (queues : List Queue) (q : Queue) (operation : Operation) (blocks : ℕ) → Contains queues q → MayCome q q.arrivals operation blocks
    → longest_by q.services operation blocks ≤ longest_of queues
