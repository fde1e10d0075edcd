use Rattle.std.proofs.Common.{◌∷◌, sym, subst}
use Rattle.nvme_arbiter.specs.History.{Picked}
use Rattle.nvme_arbiter.specs.Layout.{kept_of}
use Rattle.nvme_arbiter.specs.Standing.{StandsAt}
use Rattle.nvme_capi.specs.States.{seen_in}
use Rattle.nvme_capi.proofs.arbiter.nvmearb_arbiter_pick_up_to.Goals as goal

pub returns-in-Some-clause-stands : goal.returns-in-Some-clause-stands
returns-in-Some-clause-stands c = λ _ m first past h.
    subst (λ p. StandsAt m first (Picked (seen_in c.args.queues.now) p ∷ past) (kept_of c.pick_up_to.new.self)) (sym c.fields_of_pick.ensures.same) (c.in-Some.ensures.stands m first past h)
