use Rattle.std.proofs.Common.{◌∙◌, List, ap, sym, subst, refl}
use Rattle.nvme_ctrl.specs.Posts.{next_post_of}
use Rattle.nvme_ctrl.specs.Standing.{IsController, Stands}
use Rattle.nvme_slots.specs.declared.slot.Slot.{Slot}
use Rattle.nvme_simulation.specs.Fronts.{Arbitrates}
use Rattle.nvme_simulation.specs.Quiet.{StandsBehind}
use Rattle.nvme_simulation.proofs.Pools.{again, at_pool, told}
use Rattle.nvme_simulation.proofs.Quiet.{behind_one, behind_told}
use Rattle.nvme_simulation.specs.Creating.{StandsAfter}
use Rattle.nvme_simulation.proofs.Creating.{noted, post_done, told_done}
use Rattle.nvme_simulation.proofs.front.Front.post.Goals as goal

pub returns : goal.returns
returns c =
    let value = c.deref_mut.ensures.value in
    record {
      keeps = λ m s done h. at_pool (λ (xs : List Slot). StandsAfter m s done c.post.new.self xs) c.args.self.now.pool _ c.post.new.slots value c.post.ensures.size
          (let stood = subst (λ (xs : List Slot). StandsAfter m s done c.args.self.now.controller xs) (sym value) h in
          told_done m s done _ _ _ _ _ c.post.result c.post.ensures.none (c.post.ensures.stands stood.rules stood.late stood.notes stood.stands)
          (λ x p. noted m s done _ _ _ _ stood _ p.stands refl (post_done _ _ _ _ _)) stood);
      front = record {
        is = at_pool (λ (xs : List Slot). IsController c.post.new.self xs) c.args.self.now.pool _ c.post.new.slots value c.post.ensures.size
            (c.post.ensures.front (subst (λ (xs : List Slot). IsController c.args.self.now.controller xs) (sym value) c.requires.front));
        depths = c.post.ensures.depths;
        arbitrates = λ m s a. at_pool (λ (xs : List Slot). Arbitrates m s c.post.new.self xs) c.args.self.now.pool _ c.post.new.slots value c.post.ensures.size
            (let stood = subst (λ (xs : List Slot). Arbitrates m s c.args.self.now.controller xs) (sym value) a in
            told m s _ _ _ _ _ c.post.result c.post.ensures.none (c.post.ensures.stands stood.rules stood.late stood.notes stood.stands)
            (λ x h. again m s _ _ _ _ stood _ h.stands) stood);
      };
      value = c.post.ensures.value ∙ ap (λ (xs : List Slot). next_post_of c.args.self.now.controller xs c.args.cqid) value;
      quiet = λ rules late notes s.
          at_pool (λ (xs : List Slot). StandsBehind rules late notes c.post.new.self xs) c.args.self.now.pool _ c.post.new.slots value c.post.ensures.size
          (let stood = subst (λ (xs : List Slot). Stands rules late notes c.args.self.now.controller xs) (sym value) s in
          behind_told rules late notes _ _ _ _ _ c.post.result c.post.ensures.none (c.post.ensures.stands rules late notes stood)
          (λ x h. behind_one rules late notes _ _ _ refl h.stands) stood);
    }
