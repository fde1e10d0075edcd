use Rattle.std.proofs.Common.{◌≡◌, ◌≢◌, ◌∙◌, true, false, [], length, sym, arith}
use Rattle.nvme_capi.specs.Controllers.{is_config}
use Rattle.nvme_capi.proofs.Refusals.{no_fault}
use Rattle.nvme_capi.proofs.Configurations.{made_of}
use Rattle.nvme_capi.proofs.ctrl.making.nvmearb_ctrl_init.Goals as goal

pub returns-in-Ok-clause-refused : goal.returns-in-Ok-clause-refused
returns-in-Ok-clause-refused c = (
  λ e. (let lost : 0 ≡ 2 = e in absurd (omega (arith, lost))),
  λ h. absurd (no_fault (is_config c.args.config.now (length c.args.slots.now)) (c.args.config.now.mechanism ≢ 1 × c.args.config.now.mechanism ≢ 2)
      (sym c.is_config.ensures ∙ c.if-not-is_config.false)
      (λ unknown. (let lost : true ≡ false = c.in-Some.ensures.none.1 unknown in cc lost))
      h),
)

pub returns-in-Ok-clause-stands : goal.returns-in-Ok-clause-stands
returns-in-Ok-clause-stands c = λ _ sizes.
    made_of c.args.config.now (length c.args.slots.now) c.in-Some.mechanism c.from_cdw11.result sizes c.set_depth.new.self c.new.new.slots
    (sym c.is_config.ensures ∙ c.if-not-is_config.false) c.in-Some.ensures.some c.from_cdw11.ensures (c.set_depth.ensures.stands _ false [] _ (c.in-Ok.ensures.stands sizes))

pub returns-in-Ok-clause-front : goal.returns-in-Ok-clause-front
returns-in-Ok-clause-front c = λ _. c.set_depth.ensures.front _ c.in-Ok.ensures.front
