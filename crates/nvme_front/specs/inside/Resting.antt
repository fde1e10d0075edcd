-- What a look at the first n submission rings leaves, and what taking from the first n completion rings leaves, with both ends of each in hand (profile).
use Rattle.std.specs.Prelude.{◌≡◌, ℕ, ◌<◌, Bool, true, false, List, [], ◌++◌}
use Rattle.nvme_entry.specs.declared.submission.Sqe.{Sqe}
use Rattle.nvme_entry.specs.declared.completion.Cqe.{Cqe}
use Rattle.nvme_lane.specs.declared.feeder.Feeder.{Feeder}
use Rattle.nvme_lane.specs.declared.drainer.Drainer.{Drainer}
use Rattle.nvme_front.specs.View.{FrontView, past_in, got_in, known_in, sent_in}
use Rattle.nvme_log.specs.Queues.{is_serving}
use Rattle.nvme_front.specs.Hosts.{submitted_at, taken_at}
use Rattle.nvme_front.specs.Unsettled.{IsSameFront, AreSameFeeders, Takes}

-- a command rests in the ring of one of the first n regions, whose queue is open or closing
pub record SomeRests (n : ℕ) (v w : FrontView) : Type 0 where
  pub region : ℕ
  pub below : region < n
  pub serving : is_serving (past_in v) region ≡ true
  pub rests : known_in w region ≡ [] → ⊥

pub record Rests (n : ℕ) (quiet : Bool) (f f' : List (Feeder Sqe)) (v w : FrontView) : Type 0 where
  pub front : IsSameFront v w
  pub feeders : AreSameFeeders f f'
  pub puts : w.puts ≡ v.puts
  pub rest : (r : ℕ) → r < n → got_in w r ++ known_in w r ≡ submitted_at f' r
  pub none : quiet ≡ true → (r : ℕ) → r < n → is_serving (past_in v) r ≡ true → known_in w r ≡ []
  pub some : quiet ≡ false → SomeRests n v w

pub record Collects (n : ℕ) (d d' : List (Drainer Cqe)) (v w : FrontView) : Type 0 where
  pub front : IsSameFront v w
  pub gets : w.gets ≡ v.gets
  pub takes : Takes v d d'
  pub all : (c : ℕ) → c < n → taken_at d' c ≡ sent_in v c
