use Rattle.std.proofs.Common.{◌==◌, rules, tests}
use Rattle.std.proofs.lemmas.Iterator.{YieldsList-from_slice}
use Rattle.std.proofs.lemmas.Iterator.Search.{any_from_yields_List}
use Rattle.nvme_entry.specs.declared.completion.Cqe.{Cqe}
use Rattle.nvme_lane.specs.View.{PutView}
use Rattle.nvme_front.specs.declared.region.SqRegion.{SqRegion}
use Rattle.nvme_front.proofs.Addresses.{is_address-sq, is_address-cq}
use Rattle.nvme_front.proofs.state.FrontState.has_address.Goals as goal

pub returns-then-any : goal.returns-then-any
returns-then-any c =
    is_address-sq c.args.self.now c.args.address _
    (any_from_yields_List (λ (x : SqRegion). x.end.address == c.args.address) _ _ c.any.result c.any.ensures.ran
    (YieldsList-from_slice c.args.self.now.sqs.items cc) (λ x b q k. search (rules, tests)))
    c.if-any.true

pub returns-else-any : goal.returns-else-any
returns-else-any c =
    is_address-cq c.args.self.now c.args.address _ _
    (any_from_yields_List (λ (x : SqRegion). x.end.address == c.args.address) _ _ c.any.result c.any.ensures.ran
    (YieldsList-from_slice c.args.self.now.sqs.items cc) (λ x b q k. search (rules, tests)))
    c.if-any.false
    (any_from_yields_List (λ (p : PutView Cqe). p.address == c.args.address) _ _ c.any-else-any.result c.any-else-any.ensures.ran
    (YieldsList-from_slice c.args.self.now.cqs.items cc) (λ x b q k. search (rules, tests)))
