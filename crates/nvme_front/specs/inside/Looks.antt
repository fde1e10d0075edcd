-- What a look at both ends of a ring leaves (profile).
use Rattle.std.specs.Prelude.{◌≡◌, ◌≤◌, ℕ, ◌++◌, length, slice_set, slice_index_or}
use mathlib.Core.List.{IsPrefix}
use Rattle.nvme_entry.specs.declared.submission.Sqe.{Sqe}
use Rattle.nvme_entry.specs.declared.completion.Cqe.{Cqe}
use Rattle.nvme_lane.specs.View.{GetView, PutView, SamePut, SameGet}
use Rattle.nvme_lane.specs.Feeder.{script_of, count_of, put_of}
use Rattle.nvme_lane.specs.Drainer.{items_of, get_of}
use Rattle.nvme_lane.specs.declared.feeder.Feeder.{Feeder}
use Rattle.nvme_lane.specs.declared.drainer.Drainer.{Drainer}
use Rattle.nvme_front.specs.Ends.{get_place, put_place}
use Rattle.nvme_front.specs.View.{FrontView}

-- at a submission ring, in which this number of commands rests
pub record LooksAtSq (r : ℕ) (f f' : Feeder Sqe) (v w : FrontView) (rests : ℕ) : Type 0 where
  -- the front's end, as it is now: it knows all that rests in its ring
  pub end : GetView Sqe
  pub view : w ≡ record v { gets = slice_set v.gets r end }
  pub got : (g : GetView Sqe) → end.got ≡ (slice_index_or v.gets r g).got
  pub known : (g : GetView Sqe) → IsPrefix (slice_index_or v.gets r g).known end.known
  pub place : (g : GetView Sqe) → get_place end ≡ get_place (slice_index_or v.gets r g)
  pub rest : end.got ++ end.known ≡ (put_of f').sent
  pub count : rests ≡ length end.known
  pub script : script_of f' ≡ script_of f
  pub sent : count_of f' ≡ count_of f
  pub put : SamePut (put_of f) (put_of f')
  pub free : (put_of f).free ≤ (put_of f').free

-- at a completion ring, in which this number of completions rests
pub record LooksAtCq (c : ℕ) (d d' : Drainer Cqe) (v w : FrontView) (rests : ℕ) : Type 0 where
  -- the front's end, as it is now
  pub end : PutView Cqe
  pub view : w ≡ record v { puts = slice_set v.puts c end }
  pub sent : (p : PutView Cqe) → end.sent ≡ (slice_index_or v.puts c p).sent
  pub place : (p : PutView Cqe) → put_place end ≡ put_place (slice_index_or v.puts c p)
  pub free : (p : PutView Cqe) → (slice_index_or v.puts c p).free ≤ end.free
  -- the drainer knows all that rests in its ring
  pub rest : items_of d' ++ (get_of d').known ≡ end.sent
  pub count : rests ≡ length (get_of d').known
  pub items : items_of d' ≡ items_of d
  pub get : SameGet (get_of d) (get_of d')
