use Rattle.std.proofs.Common.{◌≡◌, ◌∙◌, true, false, sym, subst}
use Rattle.nvme_entry.specs.declared.submission.Sqe.{Sqe}
use Rattle.nvme_ctrl.specs.Calls.{HasFetched}
use Rattle.nvme_capi.proofs.ctrl.rings.fetch_one.Goals as goal

pub returns-then-fetched-clause-fetched : goal.returns-then-fetched-clause-fetched
returns-then-fetched-clause-fetched c = λ _. record {
  stands = λ rules late notes s entry is.
      subst (λ (x : Sqe). HasFetched rules late notes c.args.qid x c.args.cookie c.fetched.new.self c.fetched.new.slots)
      (c.submission_layout_is_exact.ensures.one_entry c.args.bytes.now c.from_bytes.result entry c.from_bytes.ensures.layout is)
      (c.fetched.ensures.stands rules late notes s c.if-fetched.true);
  generations = c.fetched.ensures.generations;
}

pub returns-else-fetched-clause-none : goal.returns-else-fetched-clause-none
returns-else-fetched-clause-none c = λ _ rules late notes s slot may.
    let lost : true ≡ false = sym (c.fetched.ensures.told rules late notes s slot may) ∙ c.if-fetched.false in
    cc lost
