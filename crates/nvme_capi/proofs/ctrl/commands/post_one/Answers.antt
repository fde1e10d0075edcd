use Rattle.std.proofs.Common.{rules, ◌≡◌, ◌∙◌, ℕ, Option, None, Some, sym, subst}
use Rattle.std.specs.Prelude.{IsSomeAnd}
use Rattle.nvme_slots.specs.Generations.{tag_of}
use Rattle.nvme_ctrl.specs.declared.posts.Post.{Post}
use Rattle.nvme_ctrl.specs.Calls.{HasPosted}
use Rattle.nvme_capi.specs.Controllers.{IsPostIn}
use Rattle.nvme_capi.proofs.ctrl.commands.post_one.Goals as goal

pub returns-in-Some-clause-posted : goal.returns-in-Some-clause-posted
returns-in-Some-clause-posted c =
    let told : IsPostIn c.args.slots.now c.fields_of_post.result = search rules in
    let here : (tag_of c.fields_of_post.result.tag).slot ≡ c.in-Some.it.tag = search rules in
    λ _. record {
      stands = λ rules late notes s. record {
        cqe = c.in-Some.it.cqe;
        flags = c.in-Some.it.flags;
        layout = c.fields_of_post.ensures.layout;
        posted = subst (λ (slot : ℕ). HasPosted rules late notes c.args.cqid slot c.in-Some.it.cqe c.fields_of_post.result.cookie c.in-Some.it.flags c.post.new.self c.post.new.slots) (sym c.fields_of_post.ensures.slot)
            (subst (λ (kept : ℕ). HasPosted rules late notes c.args.cqid c.in-Some.it.slot c.in-Some.it.cqe kept c.in-Some.it.flags c.post.new.self c.post.new.slots) (sym c.fields_of_post.ensures.cookie)
            (c.in-Some.ensures.stands rules late notes s));
      };
      command = told;
      tag = subst (λ (o : Option Post). IsSomeAnd o (λ (p : Post). (tag_of c.fields_of_post.result.tag).slot ≡ p.tag)) (sym (sym c.post.ensures.value ∙ c.in-Some.is)) here;
      due = λ none. (let lost : None ≡ Some c.in-Some.it = sym none ∙ sym c.post.ensures.value ∙ c.in-Some.is in cc lost);
      generations = c.post.ensures.generations;
    }

pub returns-in-None-clause-none : goal.returns-in-None-clause-none
returns-in-None-clause-none c = λ _. record {
  none_due = sym c.post.ensures.value ∙ c.in-None.is;
  none_postable = λ rules late notes s x is_open. c.post.ensures.told rules late notes s c.in-None.is x is_open;
}
