-- The steps of a post: the controller posts, its head doorbell is rung, and the region of the command's queue is looked up.
use Rattle.std.proofs.Common.{◌≡◌, ◌↔◌, ℕ, ◌+◌, ◌%◌, Bool, true, false, List, ◌∷◌, length, Option, Some, None, sym, ap, ◌∙◌, subst}
use Rattle.std.specs.Prelude.{option_map, IsTrue}
use Rattle.std.proofs.lemmas.Option.{same_Some}
use Rattle.nvme_entry.specs.declared.completion.Cqe.{Cqe}
use Rattle.nvme_log.specs.declared.event.Event.TheVariants as event
use Rattle.nvme_log.specs.Rules.{FrontRules, cq_regions_of, slots_at}
use Rattle.nvme_log.specs.Queues.{open_cq, is_closed_region, qid_of_region}
use Rattle.nvme_log.specs.Completions.{posted_to}
use Rattle.nvme_ctrl_log.specs.Notes.{Notes, Logged, Head, logged}
use Rattle.nvme_ctrl_log.specs.Doorbells.{cq_slots}
use Rattle.nvme_ctrl_log.specs.Calls.{IsHeadOf}
use Rattle.nvme_ctrl.specs.Calls.{HeadRung, HasPosted}
use Rattle.nvme_ctrl_log.specs.Making.{placing_in}
use Rattle.nvme_ctrl.specs.Standing.{Stands}
use Rattle.nvme_ctrl.specs.Posts.{next_post_of}
use Rattle.nvme_slots.specs.declared.slot.Slot.{Slot}
use Rattle.nvme_ctrl.specs.declared.posts.Post.{Post}
use Rattle.nvme_ctrl.specs.declared.state.Controller.{Controller}
use Rattle.nvme_engine.specs.Standing.{StandsAt}
use Rattle.nvme_engine.specs.Calls as engine
use Rattle.nvme_engine.specs.declared.engine.Engine.{Engine}
use Rattle.nvme_engine.proofs.Additions.{on_regions}
use Rattle.nvme_engine.proofs.Calls.{Leaves}
use Rattle.nvme_engine.proofs.Posting.{not_closed, may_ring, has_posted}

module _ (rules : FrontRules) (late : Bool) (notes : Notes) (e : Engine) (s : StandsAt rules late notes e) (cqid x size : ℕ) (is_open : open_cq (logged notes) cqid ≡ Some x)
    (size_is : size ≡ slots_at (cq_regions_of rules) x) (post : Post) (c : Controller) (slots : List Slot)
    (did : HasPosted s.their s.their_late notes cqid post.slot post.cqe post.cookie post.flags c slots) where
  same_x : did.x ≡ x
  same_x = same_Some did.x x (sym did.is_open ∙ is_open)

  abbrev posted : Notes
  posted = Logged (event.Post x did.region did.index post.cqe) ∷ notes

  stands_posted : Stands s.their s.their_late posted c slots
  stands_posted = subst (λ (y : ℕ). Stands s.their s.their_late (Logged (event.Post y did.region did.index post.cqe) ∷ notes) c slots) same_x did.stands

  slot_is : post.slot ≡ length (posted_to (logged notes) x) % cq_slots s.their x
  slot_is = subst (λ (y : ℕ). post.slot ≡ length (posted_to (logged notes) y) % cq_slots s.their y) same_x did.slot_is

  module _ (head : ℕ) (head_is : head ≡ (post.slot + 1) % size) (rang : Bool) (f : Controller)
      (answer : (rules : FrontRules) (late : Bool) (notes : Notes) (slots : List Slot) → Stands rules late notes c slots → IsTrue rang ↔ IsHeadOf rules notes cqid head)
      (stands : (rules : FrontRules) (late : Bool) (notes : Notes) (slots : List Slot) → Stands rules late notes c slots → rang ≡ true → HeadRung rules late notes cqid head f slots)
      (served : Option ℕ)
      (serving : (rules : FrontRules) (late : Bool) (notes : Notes) (pool : List Slot) → Stands rules late notes f pool → placing_in rules ≡ None
      → (r : ℕ) → (served ≡ Some r) ↔ ((qid_of_region (logged notes) r ≡ Some post.cqe.sqid) × (is_closed_region (logged notes) r ≡ false))) where
    -- the doorbell is valid
    is_rung : rang ≡ true
    is_rung =
        (answer s.their s.their_late posted slots stands_posted).1
        (may_ring rules late notes e s cqid x is_open did.region did.index post.cqe did.queue c slots stands_posted size post.slot head size_is slot_is head_is)

    stands_rung : Stands s.their s.their_late (Head x head ∷ posted) f slots
    stands_rung =
        let rung = stands s.their s.their_late posted slots stands_posted is_rung in
        subst (λ (y : ℕ). Stands s.their s.their_late (Head y head ∷ posted) f slots) (same_Some rung.region x (sym rung.is_open ∙ is_open)) rung.stands

    -- the region is that of the command's queue
    pub told : served ≡ Some did.region
    told =
        (serving s.their s.their_late (Head x head ∷ posted) slots stands_rung (on_regions s.their s.alike.adds) did.region).1
        (did.queue, not_closed rules late notes e s cqid x is_open did.region did.index post.cqe did.queue c slots stands_posted)

    -- so the place of the completion that was to be posted next is told
    pub post_done : (cqe : Cqe) → Some post ≡ next_post_of e.controller e.slots.items cqid → engine.next_cqe e cqid ≡ Some cqe → (region : ℕ) → served ≡ Some region
        → (g : Engine) → Leaves e g → (Stands s.their s.their_late (Head x head ∷ posted) f slots → Stands s.their s.their_late (Head x head ∷ posted) g.controller g.slots.items)
        → engine.HasPosted rules late notes x cqe (record { region = region; index = post.cookie }) g
    post_done cqe value next region is g left now =
        let same : post.cqe ≡ cqe = same_Some post.cqe cqe (ap (option_map (λ (q : Post). q.cqe)) value ∙ next) in
        subst (λ (q : Cqe). engine.HasPosted rules late notes x q (record { region = region; index = post.cookie }) g) same
        (has_posted rules late notes e s cqid x is_open did.region did.index post.cqe did.queue c slots stands_posted size post.slot head size_is slot_is head_is g left (now stands_rung)
        (record { region = region; index = post.cookie }) (same_Some region did.region (sym is ∙ told)) did.kept did.through)
