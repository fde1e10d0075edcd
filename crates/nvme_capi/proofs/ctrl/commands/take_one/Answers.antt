use Rattle.std.proofs.Common.{◌≡◌, ℕ, ◌∙◌, sym, ap, subst}
use Rattle.nvme_ctrl.specs.Calls.{HasTaken}
use Rattle.nvme_slots.specs.Generations.{IsNextGeneration, tag_at, tag_of}
use Rattle.nvme_ctrl_log.specs.Tags.{holder, is_out}
use Rattle.nvme_slots.specs.Pool.{slot_at}
use Rattle.nvme_capi.proofs.SlotsOfTags.{told_slot}
use Rattle.nvme_capi.proofs.ctrl.commands.take_one.Goals as goal

pub returns-in-Some-clause-taken : goal.returns-in-Some-clause-taken
returns-in-Some-clause-taken c =
    let is : c.in-Some.slot ≡ (tag_of c.number.result).slot = sym (told_slot c.take.new.slots c.number.result c.in-Some.slot c.at.result c.number.ensures.back c.at.ensures) in
    λ _. record {
      stands = λ rules late notes s. subst (λ (slot : ℕ). HasTaken rules late notes slot c.take.new.self c.take.new.slots) is (c.in-Some.ensures.stands rules late notes s);
      command = record {
        tag_is = c.number.ensures.back ∙ c.at.ensures ∙ ap (tag_at c.take.new.slots) is;
        entry = c.entry.ensures.value ∙ ap (λ (slot : ℕ). (slot_at c.take.new.slots slot).entry) is;
        cookie_is = c.cookie.ensures.value ∙ ap (λ (slot : ℕ). (slot_at c.take.new.slots slot).cookie) is;
      };
      cookie = λ rules late notes s place held out. c.cookie.ensures.out rules late notes s place (ap (holder notes) is ∙ held) (ap (is_out notes) is ∙ out);
      entry = λ rules late notes s place held out. c.entry.ensures.out rules late notes s place (ap (holder notes) is ∙ held) (ap (is_out notes) is ∙ out);
      generation = λ rules late notes s. subst (λ (slot : ℕ). IsNextGeneration c.args.slots.now c.take.new.slots slot) is (c.in-Some.ensures.generation rules late notes s);
    }

pub returns-in-None-clause-none : goal.returns-in-None-clause-none
returns-in-None-clause-none c = λ _ rules late notes s. c.take.ensures.told rules late notes s c.in-None.is
