use Rattle.std.proofs.Common.{List, sym, ap, ◌∙◌}
use Rattle.nvme_ctrl.specs.Posts.{next_post_of}
use Rattle.nvme_slots.specs.declared.slot.Slot.{Slot}
use Rattle.nvme_engine.proofs.Posting.{all_posted}
use Rattle.nvme_engine.proofs.engine.Engine.next_post.Goals as goal

pub returns-in_err-post-clause-none : goal.returns-in_err-post-clause-none
returns-in_err-post-clause-none c rules late notes x s is none =
    all_posted rules late notes c.args.self.now s c.args.cqid x is
    (ap (λ (xs : List Slot). next_post_of c.args.self.now.controller xs c.args.cqid) (sym c.as_slice.ensures.value) ∙ sym c.next_post.ensures.value ∙ c.in_err-post.was)
