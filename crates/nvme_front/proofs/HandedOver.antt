-- Where no ready completion can be posted, and jobs are handed over, none can be posted afterwards.
use Rattle.std.proofs.Common.{◌≡◌, ◌==◌, ◌&&◌, List, ap, sym, ◌∙◌}
use Rattle.std.specs.Prelude.{reverse}
use Rattle.std.specs.List.{list_any}
use Rattle.nvme_log.specs.declared.event.Event.{Event}
use Rattle.nvme_jobs.specs.declared.dispatched.Dispatched.{Dispatched}
use Rattle.nvme_jobs.specs.Hands.{in_hand}
use Rattle.nvme_front.specs.declared.state.FrontState.{FrontState}
use Rattle.nvme_front.specs.inside.State.{past_of, view_of}
use Rattle.nvme_front.specs.View.{NoneCanBePosted}

-- a ready place is one still where the log and the commands in hand are the same, and the rings are as full
pub drained-handed : (a b : FrontState) → b.log.items ≡ a.log.items → b.cqs.items ≡ a.cqs.items → in_hand b.jobs.hands ≡ in_hand a.jobs.hands
    → NoneCanBePosted (view_of a) → NoneCanBePosted (view_of b)
drained-handed a b log cqs hand drained = λ r i ready c is.
    let past : past_of b ≡ past_of a = ap (λ (xs : List Event). reverse xs) log in
    rw cqs (drained r i (record {
      served = rw (← past) ready.served;
      unposted = rw (← past) ready.unposted;
      has_result = ap (λ (ds : List Dispatched). list_any (λ (d : Dispatched). d.place.region == r && d.place.index == i) ds) (sym hand) ∙ ready.has_result;
      not_deleting = rw (← past) ready.not_deleting;
    }) c (rw (← past) is))
