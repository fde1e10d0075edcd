use Rattle.std.proofs.Common.{List, inl, inr, refl, sym, subst}
use Rattle.std.proofs.lemmas.Bool.{cases_Bool}
use Rattle.nvme_ctrl.specs.Standing.{IsController, Stands}
use Rattle.nvme_slots.specs.declared.slot.Slot.{Slot}
use Rattle.nvme_simulation.specs.Fronts.{Arbitrates}
use Rattle.nvme_simulation.specs.Quiet.{StandsBehind}
use Rattle.nvme_simulation.proofs.Pools.{fetched, at_pool, unchanged}
use Rattle.nvme_simulation.proofs.Quiet.{behind_fetch, behind_same}
use Rattle.nvme_simulation.specs.Creating.{StandsAfter}
use Rattle.nvme_simulation.proofs.Creating.{fetch_done, noted, same_done}
use Rattle.nvme_simulation.proofs.front.Front.fetched.Goals as goal

pub returns : goal.returns
returns c =
    let value = c.deref_mut.ensures.value in
    let made = c.fetched.new.self in
    record {
      keeps = λ m s done h. at_pool (λ (xs : List Slot). StandsAfter m s done made xs) c.args.self.now.pool _ c.fetched.new.slots value c.fetched.ensures.size
          (let stood = subst (λ (xs : List Slot). StandsAfter m s done c.args.self.now.controller xs) (sym value) h in
          elim (cases_Bool c.fetched.result) [
            | inl done_it ↦ noted m s done _ _ _ _ stood _ (c.fetched.ensures.stands stood.rules stood.late stood.notes stood.stands done_it).stands refl (fetch_done _ _ _ _ _)
            | inr refused ↦ same_done m s done _ _ _ _ (c.fetched.ensures.refused refused) stood
          ]);
      front = record {
        is = at_pool (λ (xs : List Slot). IsController made xs) c.args.self.now.pool _ c.fetched.new.slots value c.fetched.ensures.size
            (c.fetched.ensures.front (subst (λ (xs : List Slot). IsController c.args.self.now.controller xs) (sym value) c.requires.front));
        depths = c.fetched.ensures.depths;
        arbitrates = λ m s a. at_pool (λ (xs : List Slot). Arbitrates m s made xs) c.args.self.now.pool _ c.fetched.new.slots value c.fetched.ensures.size
            (let stood = subst (λ (xs : List Slot). Arbitrates m s c.args.self.now.controller xs) (sym value) a in
            elim (cases_Bool c.fetched.result) [
              | inl done ↦ fetched m s _ _ _ _ stood _ _ _ (c.fetched.ensures.stands stood.rules stood.late stood.notes stood.stands done)
              | inr refused ↦ unchanged m s _ _ _ _ (c.fetched.ensures.refused refused) stood
            ]);
      };
      quiet = λ io rules late notes s.
          at_pool (λ (xs : List Slot). StandsBehind rules late notes made xs) c.args.self.now.pool _ c.fetched.new.slots value c.fetched.ensures.size
          (let stood = subst (λ (xs : List Slot). Stands rules late notes c.args.self.now.controller xs) (sym value) s in
          elim (cases_Bool c.fetched.result) [
            | inl done ↦ behind_fetch rules late notes _ _ _ _ _ io (c.fetched.ensures.stands rules late notes stood done)
            | inr refused ↦ behind_same rules late notes _ _ _ _ (c.fetched.ensures.refused refused) stood
          ]);
    }
