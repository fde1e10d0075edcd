use Rattle.std.proofs.Common.{◌≡◌, ◌≢◌, ◌∙◌, ◌⊎◌, true, false, [], length, sym, arith, inl, inr, IsFalse}
use Rattle.nvme_capi.specs.Controllers.{is_config, is_placement}
use Rattle.nvme_capi.proofs.Refusals.{no_fault}
use Rattle.nvme_capi.proofs.Configurations.{made_anywhere_of}
use Rattle.nvme_capi.proofs.ctrl.making.nvmearb_ctrl_init_anywhere.Goals as goal

pub returns-in-Ok-clause-refused : goal.returns-in-Ok-clause-refused
returns-in-Ok-clause-refused c = (
  λ e. (let lost : 0 ≡ 2 = e in absurd (omega (arith, lost))),
  λ h. absurd (no_fault (is_config c.args.config.now (length c.args.slots.now)) ((c.args.config.now.mechanism ≢ 1 × c.args.config.now.mechanism ≢ 2) ⊎ IsFalse (is_placement c.args.placement.now))
      (sym c.is_config.ensures ∙ c.if-not-is_config.false)
      (λ wrong. elim wrong [
        | inl unknown ↦ (let lost : true ≡ false = c.in-Some.ensures.none.1 unknown in cc lost)
        | inr none ↦ (let lost : true ≡ false = c.in-Some-placement_of.ensures.none.1 none in cc lost)
      ])
      h),
)

pub returns-in-Ok-clause-stands : goal.returns-in-Ok-clause-stands
returns-in-Ok-clause-stands c = λ _ sizes.
    made_anywhere_of c.args.config.now c.args.placement.now (length c.args.slots.now) c.in-Some.mechanism c.from_cdw11.result c.in-Some-placement_of.placement sizes c.set_depth.new.self c.anywhere.new.slots
    (sym c.is_config.ensures ∙ c.if-not-is_config.false) c.in-Some.ensures.some c.from_cdw11.ensures c.in-Some-placement_of.ensures.some (c.set_depth.ensures.stands _ false [] _ (c.in-Ok.ensures.stands sizes))

pub returns-in-Ok-clause-front : goal.returns-in-Ok-clause-front
returns-in-Ok-clause-front c = λ _. c.set_depth.ensures.front _ c.in-Ok.ensures.front
