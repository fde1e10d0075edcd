use Rattle.std.proofs.Common.{◌∙◌, rules, tests}
use Rattle.std.proofs.lemmas.Iterator.{YieldsList-from_slice}
use Rattle.std.proofs.lemmas.Iterator.Search.{any_from_yields_List}
use Rattle.serde_json.specs.View.{view}
use Rattle.serde_json.specs.declared.value.Value.{Value}
use Rattle.nvme_audit_text.specs.Heads.{names}
use Rattle.nvme_audit_text.proofs.HeadLemmas.{any_kind}
use Rattle.nvme_audit_text.proofs.head.has_kind.Goals as goal

pub returns : goal.returns
returns c =
    any_from_yields_List (λ (v : Value). names c.args.kind (view v)) _ _ c.any.result c.any.ensures.ran (YieldsList-from_slice c.args.values.now cc) (λ x b q k. search (rules, tests))
    ∙ any_kind c.args.kind c.args.values.now
