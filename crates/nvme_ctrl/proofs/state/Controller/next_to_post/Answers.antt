use Rattle.std.proofs.Common.{◌≡◌, ◌∙◌, Bool, false, if◌then◌else◌, Option, Some, None, is_some, sym, ap, inl, inr, arith, refl}
use Rattle.std.proofs.lemmas.Bool.{cases_eq, cases_lt}
use Rattle.nvme_ctrl.specs.NextQueue.{turns_before}
use Rattle.nvme_ctrl.specs.Posts.{next_post_of, post_in}
use Rattle.nvme_ctrl.specs.declared.posts.Post.{Post}
use Rattle.nvme_ctrl.specs.kept.State.{cq_at}
use Rattle.nvme_ctrl.proofs.state.Controller.next_to_post.Goals as goal

nothing : (o : Option Post) → false ≡ is_some o → o ≡ None
nothing None h = refl
nothing (Some p) h = absurd (cc h)

pub loop-next-preserved : goal.loop-next-preserved
loop-next-preserved c = record {
  few = (let few = c.in-Some.ensures.few in omega (arith, few));
  last = c.loop-next.invariant.last;
  none = λ p few before. elim (cases_lt (turns_before c.min-last.result p) c.loop-next.turn) [
    | inl earlier ↦ c.loop-next.invariant.none p few earlier
    | inr from ↦ elim (cases_eq (turns_before c.min-last.result p) c.in-Some.next) [
      | inl now ↦ ap (next_post_of c.args.self.now c.args.slots.now) (c.at_turn-cqid.ensures.alone p few now) ∙ sym c.next_post.ensures.value ∙ nothing c.next_post.result c.if-is_some.ensures
      | inr other ↦ ap (λ (b : Bool). if b then post_in c.args.self.now c.args.slots.now (cq_at c.args.self.now.cqs p) else None) (c.in-Some.ensures.none_between p few from (omega (arith, before, other)))
    ]
  ];
}
