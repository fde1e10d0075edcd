-- The kinds that a head tells.
use Rattle.std.proofs.Common.{◌≡◌, ◌&&◌, ◌||◌, List, [], ◌∷◌, refl, ap}
use Rattle.std.specs.List.{list_all, list_any}
use Rattle.serde_json.specs.View.{view, items_view}
use Rattle.serde_json.specs.declared.value.Value.{Value}
use Rattle.nvme_audit_text.specs.declared.fault.Kind.{Kind}
use Rattle.nvme_audit_text.specs.Heads.{names, is_kind, are_kinds, has_kind}

pub all_kinds : (vs : List Value) → list_all (λ v. is_kind (view v)) vs ≡ are_kinds (items_view vs)
all_kinds [] = refl
all_kinds (v ∷ vs) = ap (λ b. is_kind (view v) && b) (all_kinds vs)

pub any_kind : (k : Kind) (vs : List Value) → list_any (λ v. names k (view v)) vs ≡ has_kind k (items_view vs)
any_kind k [] = refl
any_kind k (v ∷ vs) = ap (λ b. names k (view v) || b) (any_kind k vs)
