-- What a step makes of hosts, controller and device. (profile)
use Rattle.std.specs.Prelude.{◌≡◌, ℕ, Option, Some, slice_get}
use Rattle.nvme_channels.specs.Steps.{finish_of, take_of}
use Rattle.nvme_ctrl.specs.Posts.{next_post_of}
use Rattle.nvme_ctrl.specs.declared.posts.Post.{Post}
use Rattle.nvme_simulation.specs.Devices.{IsBehind, device_in}
use Rattle.nvme_simulation.specs.Fronts.{IsCompletionOf, StaysFront}
use Rattle.nvme_simulation.specs.Moving.{OneMoves, StartsIn}
use Rattle.nvme_simulation.specs.Plans.{Follows, events_of}
use Rattle.nvme_simulation.specs.Progress.{AllGoOn, AsksFor}
use Rattle.nvme_simulation.specs.Quiet.{GoesFront}
use Rattle.nvme_simulation.specs.Resting.{AllRest}
use Rattle.nvme_simulation.specs.Rings.{OneHears}
use Rattle.nvme_simulation.specs.Starts.{AnswersAs, PlansEnd, StartsOn, number_in, started_in}
use Rattle.nvme_simulation.specs.Times.{now_of}
use Rattle.nvme_simulation.specs.declared.channels.Started.{Started}
use Rattle.nvme_simulation.specs.declared.flight.Request.{Request}
use Rattle.nvme_simulation.specs.declared.front.Front.{Front}
use Rattle.nvme_simulation.specs.declared.flight.Stage.TheVariants.{Fetched}
use Rattle.nvme_simulation.specs.declared.front.Taken.{Taken}
use Rattle.nvme_simulation.specs.declared.hosts.Hosts.{Hosts}
use Rattle.nvme_simulation.specs.declared.machine.Machine.{Machine}

-- the controller stands, commands go on now and none comes or is done, events are planned and none comes, and the device is called
pub record Acts (before after : Machine) : Type 0 where
  pub front : StaysFront before.front after.front
  pub hosts : AllGoOn (now_of before.agenda) before.hosts after.hosts
  pub events : Follows (events_of before.agenda) (events_of after.agenda)
  pub device : IsBehind (device_in before.device) (device_in after.device)

-- so, and none is picked
pub record Goes (before after : Machine) : Type 0 where
  pub front : GoesFront before.front after.front
  pub hosts : AllGoOn (now_of before.agenda) before.hosts after.hosts
  pub events : Follows (events_of before.agenda) (events_of after.agenda)
  pub device : IsBehind (device_in before.device) (device_in after.device)

-- the device takes a command of a queue now, which was read and is picked: on the channels of its first block, for its service. Where it starts at once, its end is
-- planned
pub record TakesPicked (qid : ℕ) (before after : Machine) : Type 0 where
  pub taken : Taken
  pub queue : taken.qid ≡ qid
  pub request : Request
  pub asks : AsksFor qid taken.number before.hosts request
  pub takes : device_in after.device ≡ (take_of (now_of before.agenda) (number_in taken) request.block request.service (device_in before.device)).1
  pub picked : Hosts
  pub picks : OneMoves qid taken.number Fetched (now_of before.agenda) before.hosts picked
  pub started : Option Started
  pub answers : AnswersAs (take_of (now_of before.agenda) (number_in taken) request.block request.service (device_in before.device)).0 started
  pub on : StartsOn started before.device after.device
  pub starts : StartsIn started (now_of before.agenda) picked after.hosts
  pub plans : PlansEnd started (events_of before.agenda) (events_of after.agenda)

-- the controller posts the completion of a command next, and it comes to the host of its queue, which it tells the head of its ring
pub record Completes (taken : Taken) (front : Front) (before after : Hosts) : Type 0 where
  pub answered : Front
  pub stays : StaysFront front answered
  pub post : Post
  pub posts : next_post_of answered.controller answered.pool.items taken.qid ≡ Some post
  pub completion : IsCompletionOf taken post
  pub hears : OneHears taken.qid post.cqe.sqhd before after

-- the command that started last on a channel ends now, and the next one starts there, if one does: its end is planned, and nothing else. The completion of the one that ends
-- comes to its host
pub record EndsAndStarts (channel : ℕ) (taken : Taken) (before after : Machine) : Type 0 where
  pub ran : slice_get (started_in before.device) channel ≡ Some (Some taken)
  pub started : Option Started
  pub on : StartsOn started before.device after.device
  pub answers : AnswersAs (finish_of (now_of before.agenda) channel (device_in before.device)).0 started
  pub device : device_in after.device ≡ (finish_of (now_of before.agenda) channel (device_in before.device)).1
  pub plans : PlansEnd started (events_of before.agenda) (events_of after.agenda)
  pub waited : Hosts
  pub starts : StartsIn started (now_of before.agenda) before.hosts waited
  pub told : Hosts
  pub completes : Completes taken before.front waited told
  pub rests : AllRest told after.hosts

-- so, but that commands may come and be done
pub record Works (before after : Machine) : Type 0 where
  pub front : GoesFront before.front after.front
  pub events : Follows (events_of before.agenda) (events_of after.agenda)
  pub device : IsBehind (device_in before.device) (device_in after.device)
