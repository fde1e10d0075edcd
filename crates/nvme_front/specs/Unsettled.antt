-- What a refusal to settle leaves of a front and its hosts (profile).
use Rattle.std.specs.Prelude.{◌≡◌, ◌⊎◌, ◌≤◌, ℕ, List, map}
use mathlib.Core.List.{IsPrefix}
use Rattle.nvme_entry.specs.declared.submission.Sqe.{Sqe}
use Rattle.nvme_entry.specs.declared.completion.Cqe.{Cqe}
use Rattle.nvme_lane.specs.View.{GetView, PutView}
use Rattle.nvme_lane.specs.declared.feeder.Feeder.{Feeder}
use Rattle.nvme_lane.specs.declared.drainer.Drainer.{Drainer}
use Rattle.nvme_front.specs.Ends.{get_place, put_place}
use Rattle.nvme_front.specs.View.{FrontView, known_in, sent_in, free_in}
use Rattle.nvme_front.specs.Hosts.{feeder_place, drainer_place, told, free_at, taken_at}

-- nothing changed except what the ends know of what comes next and of free places, which is no less than before
pub record IsSameFront (v w : FrontView) : Type 0 where
  pub rules : w.rules ≡ v.rules
  pub limit : w.limit ≡ v.limit
  pub late : w.late ≡ v.late
  pub log : w.log ≡ v.log
  pub got : map (λ (g : GetView Sqe). g.got) w.gets ≡ map (λ (g : GetView Sqe). g.got) v.gets
  pub knows : (r : ℕ) → IsPrefix (known_in v r) (known_in w r)
  pub get_places : map get_place w.gets ≡ map get_place v.gets
  pub sent : map (λ (p : PutView Cqe). p.sent) w.puts ≡ map (λ (p : PutView Cqe). p.sent) v.puts
  pub put_places : map put_place w.puts ≡ map put_place v.puts
  pub frees : (c : ℕ) → free_in v c ≤ free_in w c
  pub hands : w.hands ≡ v.hands

-- nothing changed except what the feeders know of free places, which is no less than before
pub record AreSameFeeders (f f' : List (Feeder Sqe)) : Type 0 where
  pub told_is : map told f' ≡ map told f
  pub places : map feeder_place f' ≡ map feeder_place f
  pub frees : (r : ℕ) → free_at f r ≤ free_at f' r

-- a list of completions is as it was, or was extended by what came next from its ring
abbrev pub TakesOf : List Cqe → List Cqe → List Cqe → Type 0
TakesOf sent old new = (new ≡ old) ⊎ (IsPrefix old new × IsPrefix new sent)

pub record Takes (v : FrontView) (d d' : List (Drainer Cqe)) : Type 0 where
  pub places : map drainer_place d' ≡ map drainer_place d
  pub taken : (c : ℕ) → TakesOf (sent_in v c) (taken_at d c) (taken_at d' c)
