-- What `next_post` tells is posted.
use Rattle.std.proofs.Common.{◌≡◌, ◌==◌, not, Bool, List, refl, sym, ap, ◌∙◌, subst}
use Rattle.nvme_log.specs.Rules.{FrontRules}
use Rattle.nvme_ctrl_log.specs.Notes.{Notes}
use Rattle.nvme_ctrl.specs.Standing.{Stands}
use Rattle.nvme_ctrl.specs.Calls.{HasPosted}
use Rattle.nvme_ctrl.specs.Posts.{completion_of, post_in}
use Rattle.nvme_slots.specs.declared.chain.Chain.{Chain}
use Rattle.nvme_ctrl.specs.declared.posts.Post.{Post}
use Rattle.nvme_slots.specs.declared.slot.Slot.{Slot}
use Rattle.nvme_ctrl.specs.declared.state.CqState.{CqState}
use Rattle.nvme_ctrl.specs.declared.state.Controller.{Controller}
use Rattle.nvme_slots.specs.Pool.{IsChain, flags_in, put_item}
use Rattle.nvme_ctrl.proofs.NextPost.{some_is_in, IsPostable, postable, by_command, entry_by_command, post_of_command, chain-some, chain-first}
use Rattle.nvme_ctrl.proofs.NoPosts.{none_postable}
use Rattle.nvme_ctrl.proofs.PostCall.{HasDone}
use Rattle.nvme_ctrl.proofs.PostLog.{steps_post}
use Rattle.nvme_slots.proofs.Generations.{left_both, put_left, items_left}
use Rattle.nvme_ctrl.specs.kept.QueueSets.{with_queue}
use Rattle.nvme_ctrl.proofs.state.Controller.post.Goals as goal

abbrev after : goal.After-slots-2-1 → Controller
after c = record c.count_post.new.self { free = c.push.new.self }

-- the completion queue is put back
abbrev put_back : goal.After-slots-2-1 → Controller
put_back c = record c.put_cq.new.self { readied = c.with_queue-self.result }

-- a slot of the ring is free, and a command is ready
there : (c : goal.After-slots-2-1) → IsPostable c.args.self.now c.args.slots.now c.cq-cq.result c.in_ok-post.post
there c =
    postable c.args.self.now c.args.slots.now c.cq-cq.result c.in_ok-post.post
    (some_is_in c.args.self.now c.args.slots.now c.args.cqid c.in_ok-post.post (sym c.in_ok-post.was ∙ c.next_post.ensures.value) ∙ ap (post_in c.args.self.now c.args.slots.now) (sym c.cq-cq.ensures))

done : (c : goal.After-slots-2-1) → HasDone c.cq-cq.result c.count_post.new.self.free c.args.slots.now c.put_state.new.slots c.in_ok-post.post.tag c.write.new.self c.push.new.self c.push.new.slots
done c = record {
  room = (there c).room;
  some = chain-some c.args.slots.now c.cq-cq.result (there c).some;
  first = λ y rest h. chain-first c.args.slots.now c.cq-cq.result y rest h ∙ sym (ap (λ (p : Post). p.tag) (there c).post_is);
  rest = λ y rest h. subst (λ (q : Chain). IsChain c.args.slots.now q rest) (sym c.write.ensures.ready) (c.pop.ensures.rest y rest h);
  counts = c.write.ensures.counts;
  phase = c.write.ensures.phase;
  same_slots = c.write.ensures.slots;
  chain = c.push.ensures.chain;
  items = c.push.ensures.items;
  links = c.push.ensures.links;
}

posted : (c : goal.After-slots-2-1) (rules : FrontRules) (late : Bool) (notes : Notes) → Stands rules late notes c.args.self.now c.args.slots.now
    → HasPosted rules late notes c.args.cqid c.in_ok-post.post.slot c.in_ok-post.post.cqe c.in_ok-post.post.cookie c.in_ok-post.post.flags (after c) c.push.new.slots
posted c rules late notes stands =
    let self : Controller = c.args.self.now in
    let slots : List Slot = c.args.slots.now in
    let post : Post = c.in_ok-post.post in
    let old : CqState = c.cq-cq.result in
    let more : Bool = not (c.write.new.self.ready.len == 0) in
    let readied : c.with_queue-self.result ≡ with_queue self.readied c.args.cqid more = c.with_queue-self.ensures ∙ ap (λ (y : Controller). with_queue y.readied c.args.cqid more) c.put_cq.ensures in
    let cqe : post.cqe ≡ completion_of self c.slot_at-command.result (old.phase == 1) =
    entry_by_command self slots old post (there c).post_is ∙ ap (λ (s : Slot). completion_of self s (old.phase == 1)) (sym c.slot_at-command.ensures) in
    let here : HasPosted rules late notes c.args.cqid old.ring.tail post.cqe c.slot_at-command.result.cookie (flags_in c.slot_at-command.result) (after c) c.push.new.slots =
    steps_post rules late notes self (put_back c) c.count_post.new.self slots c.put_state.new.slots c.args.cqid post.tag old c.write.new.self
    c.slot_at-command.result c.push.new.self c.push.new.slots post.cqe c.cq-cq.ensures c.slot_at-command.ensures cqe (λ j. record (c.put_cq.ensures j) { readied = readied j }) c.count_post.ensures
    (c.put_state.ensures ∙ ap (λ (s : Slot). put_item slots post.tag (record s { state = 0 })) (sym c.slot_at-command.ensures)) (done c) stands in
    subst (λ (p : Post). HasPosted rules late notes c.args.cqid p.slot p.cqe p.cookie p.flags (after c) c.push.new.slots) (sym (by_command self slots old post (there c).post_is))
    (subst (λ (s : Slot). HasPosted rules late notes c.args.cqid old.ring.tail post.cqe s.cookie (flags_in s) (after c) c.push.new.slots) c.slot_at-command.ensures here)

pub returns-clause-front : goal.returns-clause-front
returns-clause-front c f =
    let p = posted c f.rules f.late f.notes f.stands in
    record { rules = f.rules; late = f.late; notes = _; stands = p.stands }

pub returns-clause-command : goal.returns-clause-command
returns-clause-command c = post_of_command c.args.self.now c.args.slots.now c.cq-cq.result c.in_ok-post.post (there c).post_is

pub returns-clause-stands : goal.returns-clause-stands
returns-clause-stands c = posted c

pub returns-in_err-post-clause-told : goal.returns-in_err-post-clause-told
returns-in_err-post-clause-told c rules late notes stands none x is =
    none_postable rules late notes c.args.self.now c.args.slots.now stands c.args.cqid x is (sym c.next_post.ensures.value ∙ c.in_err-post.was)

pub returns-clause-generations : goal.returns-clause-generations
returns-clause-generations c =
    left_both c.args.slots.now c.put_state.new.slots c.push.new.slots
    (put_left c.args.slots.now c.put_state.new.slots c.in_ok-post.post.tag _ c.put_state.ensures refl)
    (items_left c.put_state.new.slots c.push.new.slots c.push.ensures.items)
