use Rattle.std.proofs.Common.{List, [], ◌∷◌, ◌++◌, ◌∙◌, ap, refl, rules}
use Rattle.nvme_entry.specs.declared.completion.Cqe.{Cqe}
use Rattle.nvme_lane.specs.View.{PutView}
use Rattle.nvme_front.specs.declared.state.FrontState.{FrontState}
use Rattle.nvme_front.proofs.AddedRegions.{is_added-cq}
use Rattle.nvme_front.proofs.States.{kept_same}
use Rattle.nvme_front.proofs.state.FrontState.add_cq.Goals as goal

pub returns-then-is_err-clause-consistent : goal.returns-then-is_err-clause-consistent
returns-then-is_err-clause-consistent c =
    kept_same c.args.self.now _ (record { log = refl; sqs = refl; cqs = c.reserve.ensures.items; engine = refl; jobs = refl; late = refl; config = refl; alloc = refl }) c.requires.consistent

pub push_cq-requires-clause-consistent : goal.push_cq-requires-clause-consistent
push_cq-requires-clause-consistent c =
    kept_same c.args.self.now _ (record { log = refl; sqs = refl; cqs = c.reserve.ensures.items; engine = refl; jobs = refl; late = refl; config = refl; alloc = refl }) c.requires.consistent

pub returns-clause-added : goal.returns-clause-added
returns-clause-added c =
    let s : FrontState = c.args.self.now in
    let m = c.push_cq.ensures.more in
    is_added-cq s c.push_cq.new.self c.args.end c.len-number.result
    (record {
      config = m.config;
      sqs = m.sqs;
      cqs = m.cqs ∙ ap (λ (puts : List (PutView Cqe)). puts ++ c.args.end ∷ []) c.reserve.ensures.items;
      jobs = m.jobs;
      log = m.log;
      late = m.late;
    })
    (search rules) (search rules) (search rules)
