use Rattle.std.proofs.Common.{◌∙◌, rules, tests}
use Rattle.std.proofs.lemmas.Iterator.{YieldsList-from_slice}
use Rattle.std.proofs.lemmas.Iterator.Search.{all_from_yields_List}
use Rattle.serde_json.specs.View.{view}
use Rattle.serde_json.specs.declared.value.Value.{Value}
use Rattle.nvme_audit_text.specs.Heads.{is_kind}
use Rattle.nvme_audit_text.proofs.HeadLemmas.{all_kinds}
use Rattle.nvme_audit_text.proofs.head.are_kinds.Goals as goal

pub returns : goal.returns
returns c =
    all_from_yields_List (λ (v : Value). is_kind (view v)) _ _ c.all.result c.all.ensures.ran (YieldsList-from_slice c.args.values.now cc) (λ x b q k. search (rules, tests))
    ∙ all_kinds c.args.values.now
