use Rattle.std.proofs.Common.{[], ◌∷◌, ◌++◌, List, sym, subst}
use Rattle.nvme_ctrl.specs.Standing.{IsController, Stands}
use Rattle.nvme_ctrl.specs.Steps.{HasStepped}
use Rattle.nvme_ctrl.specs.declared.picks.Step.{Step}
use Rattle.nvme_slots.specs.declared.slot.Slot.{Slot}
use Rattle.nvme_ctrl.proofs.MayPick.{arbiter_there}
use Rattle.nvme_ctrl_log.specs.Steps.{picked_notes}
use Rattle.nvme_simulation.specs.Fronts.{Arbitrates}
use Rattle.nvme_simulation.specs.Quiet.{StandsBehind}
use Rattle.nvme_simulation.proofs.Pools.{at_pool, stepped}
use Rattle.nvme_simulation.proofs.Quiet.{behind_none}
use Rattle.nvme_entry.specs.AdminCommand.{admin_command_of}
use Rattle.nvme_simulation.specs.Creating.{StandsAfter}
use Rattle.nvme_simulation.proofs.Creating.{made}
use Rattle.nvme_simulation.proofs.front.Front.pick.Goals as goal

pub pick-requires : goal.pick-requires
pick-requires c = record { arbiter = arbiter_there c.args.self.now.controller c.args.self.now.pool.items c.requires.front }

pub returns-clause-done : goal.returns-clause-done
returns-clause-done c effect entry is opens m s done h =
    let value = c.deref_mut.ensures.value in
    at_pool (λ (xs : List Slot). StandsAfter m s (done ++ admin_command_of entry ∷ []) c.pick.new.self xs) c.args.self.now.pool _ c.pick.new.slots value c.pick.ensures.size
    (let stood = subst (λ (xs : List Slot). StandsAfter m s done c.args.self.now.controller xs) (sym value) h in
    made m s done _ _ _ _ stood effect entry opens
    (subst (λ (st : Step). HasStepped stood.rules stood.late stood.notes c.args.room st c.pick.new.self c.pick.new.slots) is
    (c.pick.ensures.stands stood.rules stood.late stood.notes stood.stands)))

pub returns-clause-front : goal.returns-clause-front
returns-clause-front c =
    let value = c.deref_mut.ensures.value in
    record {
      is = at_pool (λ (xs : List Slot). IsController c.pick.new.self xs) c.args.self.now.pool _ c.pick.new.slots value c.pick.ensures.size
          (c.pick.ensures.front (subst (λ (xs : List Slot). IsController c.args.self.now.controller xs) (sym value) c.requires.front));
      depths = c.pick.ensures.depths;
      arbitrates = λ m s a. at_pool (λ (xs : List Slot). Arbitrates m s c.pick.new.self xs) c.args.self.now.pool _ c.pick.new.slots value c.pick.ensures.size
          (let stood = subst (λ (xs : List Slot). Arbitrates m s c.args.self.now.controller xs) (sym value) a in
          stepped m s _ _ _ _ stood c.args.room c.pick.result (c.pick.ensures.stands stood.rules stood.late stood.notes stood.stands));
    }

pub returns-clause-idle : goal.returns-clause-idle
returns-clause-idle c is rules late notes s =
    let stood = subst (λ (xs : List Slot). Stands rules late notes c.args.self.now.controller xs) (sym c.deref_mut.ensures.value) s in
    (subst (λ (st : Step). HasStepped rules late notes c.args.room st c.pick.new.self c.pick.new.slots) is (c.pick.ensures.stands rules late notes stood)).1

pub returns-clause-picked : goal.returns-clause-picked
returns-clause-picked c pick is rules late notes s =
    let stood = subst (λ (xs : List Slot). Stands rules late notes c.args.self.now.controller xs) (sym c.deref_mut.ensures.value) s in
    (subst (λ (st : Step). HasStepped rules late notes c.args.room st c.pick.new.self c.pick.new.slots) is (c.pick.ensures.stands rules late notes stood)).0

pub returns-clause-still : goal.returns-clause-still
returns-clause-still c is rules late notes s =
    let value = c.deref_mut.ensures.value in
    at_pool (λ (xs : List Slot). StandsBehind rules late notes c.pick.new.self xs) c.args.self.now.pool _ c.pick.new.slots value c.pick.ensures.size
    (let stood = subst (λ (xs : List Slot). Stands rules late notes c.args.self.now.controller xs) (sym value) s in
    behind_none rules late notes _ _
    (subst (λ (st : Step). HasStepped rules late notes c.args.room st c.pick.new.self c.pick.new.slots) is (c.pick.ensures.stands rules late notes stood)).0)

pub returns-clause-noted : goal.returns-clause-noted
returns-clause-noted c pick is rules late notes s =
    let value = c.deref_mut.ensures.value in
    at_pool (λ (xs : List Slot). Stands rules late (picked_notes notes pick) c.pick.new.self xs) c.args.self.now.pool _ c.pick.new.slots value c.pick.ensures.size
    (let stood = subst (λ (xs : List Slot). Stands rules late notes c.args.self.now.controller xs) (sym value) s in
    (subst (λ (st : Step). HasStepped rules late notes c.args.room st c.pick.new.self c.pick.new.slots) is (c.pick.ensures.stands rules late notes stood)).1)
