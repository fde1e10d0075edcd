-- Lists that others begin with.
use Rattle.std.proofs.Common.{List, ◌++◌, ap, sym, ◌∙◌, append_assoc}
use mathlib.Core.List.{IsPrefix}

pub IsPrefix-trans : {T : Type 0} (a b c : List T) → IsPrefix a b → IsPrefix b c → IsPrefix a c
IsPrefix-trans a b c p q = (p.0 ++ q.0, sym (append_assoc a p.0 q.0) ∙ ap (λ z. z ++ q.0) p.1 ∙ q.1)
