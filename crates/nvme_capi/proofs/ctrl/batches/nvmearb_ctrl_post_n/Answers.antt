use Rattle.std.proofs.Common.{◌∙◌, sym, subst, arith}
use Rattle.nvme_capi.specs.Batches.{PostsOne, NoneToPost, with_slots}
use Rattle.nvme_capi.proofs.Refusals.{not_ok}
use Rattle.nvme_capi.proofs.Repeats.{no_call, all_rest}
use Rattle.nvme_capi.proofs.ctrl.batches.nvmearb_ctrl_post_n.Goals as goal

pub returns-clause-all : goal.returns-clause-all
returns-clause-all c = λ _ less. c.post_all.ensures.all (omega arith)

pub returns-clause-nothing : goal.returns-clause-nothing
returns-clause-nothing c = λ nothing some.
    let none = c.put_count.ensures.none (not_ok c.put_count.result nothing) in
    subst (NoneToPost c.args.cqid) (no_call (PostsOne c.args.cqid) c.post_all.new.posts c.post_all.result (with_slots c.args.state.now.ctrl c.args.slots.now) (with_slots c.post_all.new.ctrl c.post_all.new.slots) none c.post_all.ensures.each)
    (c.post_all.ensures.all (omega arith))

pub returns-clause-unchanged : goal.returns-clause-unchanged
returns-clause-unchanged c = λ not_done.
    let none = c.put_count.ensures.none not_done in
    let same = no_call (PostsOne c.args.cqid) c.post_all.new.posts c.post_all.result (with_slots c.args.state.now.ctrl c.args.slots.now) (with_slots c.post_all.new.ctrl c.post_all.new.slots) none c.post_all.ensures.each in
    ((λ i. record c.args.state.now { ctrl = (same i).ctrl }), ((λ i. (same i).slots), all_rest c.post_all.new.posts c.args.posts.now c.post_all.result none c.post_all.ensures.rest))

pub returns-clause-kept : goal.returns-clause-kept
returns-clause-kept c = λ k. record { front = λ m n. c.post_all.ensures.front (k.front m (sym c.has_slots.ensures ∙ c.if-not-has_slots.false)) }
