use Rattle.std.proofs.Common.{List, refl, sym, subst}
use Rattle.nvme_ctrl.specs.Standing.{IsController, Stands}
use Rattle.nvme_slots.specs.declared.slot.Slot.{Slot}
use Rattle.nvme_simulation.specs.Fronts.{Arbitrates}
use Rattle.nvme_simulation.specs.Quiet.{StandsBehind}
use Rattle.nvme_simulation.proofs.Pools.{again, at_pool, told}
use Rattle.nvme_simulation.proofs.Quiet.{behind_one, behind_told}
use Rattle.nvme_simulation.proofs.front.Front.take.Goals as goal

pub returns-in_err-tag-clause-front : goal.returns-in_err-tag-clause-front
returns-in_err-tag-clause-front c =
    let value = c.deref_mut.ensures.value in
    record {
      is = at_pool (λ (xs : List Slot). IsController c.take.new.self xs) c.args.self.now.pool _ c.take.new.slots value c.take.ensures.size
          (c.take.ensures.front (subst (λ (xs : List Slot). IsController c.args.self.now.controller xs) (sym value) c.requires.front));
      depths = c.take.ensures.depths;
      arbitrates = λ m s a. at_pool (λ (xs : List Slot). Arbitrates m s c.take.new.self xs) c.args.self.now.pool _ c.take.new.slots value c.take.ensures.size
          (let stood = subst (λ (xs : List Slot). Arbitrates m s c.args.self.now.controller xs) (sym value) a in
          told m s _ _ _ _ _ c.take.result c.take.ensures.none (c.take.ensures.stands stood.rules stood.late stood.notes stood.stands)
          (λ x h. again m s _ _ _ _ stood _ h.stands) stood);
    }

pub returns-clause-front : goal.returns-clause-front
returns-clause-front c =
    let value = c.deref_mut.ensures.value in
    record {
      is = at_pool (λ (xs : List Slot). IsController c.take.new.self xs) c.args.self.now.pool _ c.take.new.slots value c.take.ensures.size
          (c.take.ensures.front (subst (λ (xs : List Slot). IsController c.args.self.now.controller xs) (sym value) c.requires.front));
      depths = c.take.ensures.depths;
      arbitrates = λ m s a. at_pool (λ (xs : List Slot). Arbitrates m s c.take.new.self xs) c.args.self.now.pool _ c.take.new.slots value c.take.ensures.size
          (let stood = subst (λ (xs : List Slot). Arbitrates m s c.args.self.now.controller xs) (sym value) a in
          told m s _ _ _ _ _ c.take.result c.take.ensures.none (c.take.ensures.stands stood.rules stood.late stood.notes stood.stands)
          (λ x h. again m s _ _ _ _ stood _ h.stands) stood);
    }

pub returns-in_err-tag-clause-quiet : goal.returns-in_err-tag-clause-quiet
returns-in_err-tag-clause-quiet c rules late notes s =
    let value = c.deref_mut.ensures.value in
    at_pool (λ (xs : List Slot). StandsBehind rules late notes c.take.new.self xs) c.args.self.now.pool _ c.take.new.slots value c.take.ensures.size
    (let stood = subst (λ (xs : List Slot). Stands rules late notes c.args.self.now.controller xs) (sym value) s in
    behind_told rules late notes _ _ _ _ _ c.take.result c.take.ensures.none (c.take.ensures.stands rules late notes stood)
    (λ x h. behind_one rules late notes _ _ _ refl h.stands) stood)

pub returns-clause-quiet : goal.returns-clause-quiet
returns-clause-quiet c rules late notes s =
    let value = c.deref_mut.ensures.value in
    at_pool (λ (xs : List Slot). StandsBehind rules late notes c.take.new.self xs) c.args.self.now.pool _ c.take.new.slots value c.take.ensures.size
    (let stood = subst (λ (xs : List Slot). Stands rules late notes c.args.self.now.controller xs) (sym value) s in
    behind_told rules late notes _ _ _ _ _ c.take.result c.take.ensures.none (c.take.ensures.stands rules late notes stood)
    (λ x h. behind_one rules late notes _ _ _ refl h.stands) stood)
