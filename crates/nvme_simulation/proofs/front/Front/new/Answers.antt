use Rattle.std.proofs.Common.{List, [], refl}
use Rattle.nvme_slots.specs.declared.slot.Slot.{Slot}
use Rattle.std.proofs.lemmas.List.Elements.{All-nil}
use Rattle.nvme_simulation.specs.Creating.{StandsAfter}
use Rattle.nvme_simulation.specs.Fronts.{Arbitrates}
use Rattle.nvme_simulation.proofs.Pools.{at_pool}
use Rattle.nvme_simulation.proofs.front.Front.new.Goals as goal

pub returns-in-Ok : goal.returns-in-Ok
returns-in-Ok c = record {
  depths = c.in-Ok.ensures.depths;
  front = at_pool (λ (xs : List Slot). Arbitrates c.args.mechanism c.args.settings c.in-Ok.controller xs) c.resize.new.self _ c.anywhere.new.slots
      c.deref_mut.ensures.value c.in-Ok.ensures.size (record {
        rules = _;
        late = _;
        notes = [];
        stands = c.in-Ok.ensures.stands [];
        in_time = refl;
        mechanism_is = refl;
        settings_are = refl;
      });
  done = at_pool (λ (xs : List Slot). StandsAfter c.args.mechanism c.args.settings [] c.in-Ok.controller xs) c.resize.new.self _ c.anywhere.new.slots
      c.deref_mut.ensures.value c.in-Ok.ensures.size (record {
        rules = _;
        late = _;
        notes = [];
        stands = c.in-Ok.ensures.stands [];
        in_time = refl;
        mechanism_is = refl;
        settings_are = refl;
        in_force = refl;
        done = All-nil _;
      });
}
