-- The completion that is ready first is posted, and its head doorbell is rung.
use Rattle.std.proofs.Common.{◌≡◌, ◌+◌, ◌%◌, List, length, Some, sym, ap, ◌∙◌, subst}
use Rattle.nvme_ctrl.specs.Standing.{Stands}
use Rattle.nvme_ctrl.specs.Calls.{HasPosted}
use Rattle.nvme_ctrl.specs.Posts.{next_post_of}
use Rattle.nvme_slots.specs.declared.slot.Slot.{Slot}
use Rattle.nvme_engine.specs.declared.engine.Engine.{Engine}
use Rattle.nvme_engine.proofs.Calls.{written, leaves, stands_written}
use Rattle.nvme_engine.proofs.PostSteps.{told, post_done}
use Rattle.nvme_engine.proofs.engine.Engine.post.Goals as goal

pub returns-in_err-region-clause-posted : goal.returns-in_err-region-clause-posted
returns-in_err-region-clause-posted c rules late notes x cqe s is_open size_is next =
    let e : Engine = c.args.self.now in
    let did : HasPosted s.their s.their_late notes c.args.cqid c.in_ok-post.post.slot c.in_ok-post.post.cqe c.in_ok-post.post.cookie c.in_ok-post.post.flags c.post.new.self c.post.new.slots =
    c.in_ok-post.ensures.stands s.their s.their_late notes (subst (λ (xs : List Slot). Stands s.their s.their_late notes e.controller xs) (sym c.deref_mut.ensures.value) s.stands) in
    let is = told rules late notes e s c.args.cqid x c.args.slots is_open size_is c.in_ok-post.post c.post.new.self c.post.new.slots did ((c.from.result + 1) % c.from-2.result)
    (λ j. (c.from.ensures j + 1) % c.from-2.ensures j) c.cq_head.result c.cq_head.new.self c.cq_head.ensures.answer c.cq_head.ensures.stands c.serving.result c.serving.ensures.on_regions in
    let none = c.in_err-region.was in
    absurd (cc (none, is))

pub returns-clause-stands : goal.returns-clause-stands
returns-clause-stands c rules late notes x cqe s is_open size_is next =
    let e : Engine = c.args.self.now in
    let did : HasPosted s.their s.their_late notes c.args.cqid c.in_ok-post.post.slot c.in_ok-post.post.cqe c.in_ok-post.post.cookie c.in_ok-post.post.flags c.post.new.self c.post.new.slots =
    c.in_ok-post.ensures.stands s.their s.their_late notes (subst (λ (xs : List Slot). Stands s.their s.their_late notes e.controller xs) (sym c.deref_mut.ensures.value) s.stands) in
    let size : length c.post.new.slots ≡ length e.slots.items = c.post.ensures.size ∙ ap (λ (xs : List Slot). length xs) c.deref_mut.ensures.value in
    let value : Some c.in_ok-post.post ≡ next_post_of e.controller e.slots.items c.args.cqid =
    c.in_ok-post.ensures.value ∙ ap (λ (xs : List Slot). next_post_of e.controller xs c.args.cqid) c.deref_mut.ensures.value in
    post_done rules late notes e s c.args.cqid x c.args.slots is_open size_is c.in_ok-post.post c.post.new.self c.post.new.slots did ((c.from.result + 1) % c.from-2.result)
    (λ j. (c.from.ensures j + 1) % c.from-2.ensures j) c.cq_head.result c.cq_head.new.self c.cq_head.ensures.answer c.cq_head.ensures.stands c.serving.result c.serving.ensures.on_regions
    cqe value next c.in_ok-region.region c.in_ok-region.was (written e c.cq_head.new.self c.post.new.slots)
    (leaves e c.cq_head.new.self c.post.new.slots (c.cq_head.ensures.depths ∙ c.post.ensures.depths) (c.cq_head.ensures.own ∙ c.post.ensures.own) size)
    (stands_written s.their s.their_late _ e c.cq_head.new.self c.post.new.slots size)
