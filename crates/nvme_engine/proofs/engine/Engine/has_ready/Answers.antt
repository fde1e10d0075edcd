use Rattle.std.proofs.Common.{◌≡◌, ℕ, true, List, Option, Some, None, is_some, option_map, refl, sym, ap, true≢false, ◌∙◌}
use Rattle.std.specs.Prelude.{IfSome}
use Rattle.nvme_admin.proofs.Reached.{not_some}
use Rattle.nvme_ctrl.specs.Posts.{next_post_of}
use Rattle.nvme_ctrl.specs.declared.posts.Post.{Post}
use Rattle.nvme_slots.specs.declared.slot.Slot.{Slot}
use Rattle.nvme_engine.proofs.Posting.{all_posted}
use Rattle.nvme_engine.proofs.engine.Engine.has_ready.Goals as goal

-- a queue is told, and what is said of it holds
told : (o : Option ℕ) (P : ℕ → Type 0) → is_some o ≡ true → IfSome o P → (q : ℕ) × P q
told None P is h = absurd (true≢false (sym is))
told (Some q) P is h = (q, h)

-- where no completion is posted next, nothing is
no_cqe : (o : Option Post) → option_map (λ (p : Post). p.cqe) o ≡ None → o ≡ None
no_cqe None none = refl
no_cqe (Some p) none = absurd (cc none)

pub returns-clause-some : goal.returns-clause-some
returns-clause-some c = λ r.
    let e = c.args.self.now in
    let (q, next) = told c.next_to_post.result _ (sym c.is_some.ensures ∙ r) c.next_to_post.ensures.next in
    (q, λ none. next.work (ap (λ (xs : List Slot). next_post_of e.controller xs q) c.as_slice.ensures.value ∙ no_cqe (next_post_of e.controller e.slots.items q) none))

pub returns-clause-none : goal.returns-clause-none
returns-clause-none c rules late notes cqid x s is none =
    all_posted rules late notes c.args.self.now s cqid x is
    (ap (λ (xs : List Slot). next_post_of c.args.self.now.controller xs cqid) (sym c.as_slice.ensures.value) ∙ c.next_to_post.ensures.none (not_some c.next_to_post.result (sym c.is_some.ensures ∙ none)) cqid)
