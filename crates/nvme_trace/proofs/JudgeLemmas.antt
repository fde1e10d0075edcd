-- An answer that is known.
use Rattle.std.proofs.Common.{◌≡◌, ◌≤◌, Option, Some, None, subst, arith}
use Rattle.std.specs.Prelude.{MatchOption, IfNone}
use Rattle.nvme_arbiter.specs.History.{ArbitrationEvent, Picked, Changed}
use Rattle.nvme_trace.specs.Judged.{picks_of}

pub at_some : {A : Type 0} (P : Type 0) (Q : A → Type 0) (o : Option A) (x : A) → MatchOption o P Q → o ≡ Some x → Q x
at_some P Q o x m e = subst (λ r. MatchOption r P Q) e m

pub at_none : {A : Type 0} (P : Type 0) (Q : A → Type 0) (o : Option A) → MatchOption o P Q → o ≡ None → P
at_none P Q o m e = subst (λ r. MatchOption r P Q) e m

pub if_none : {A : Type 0} (P : Type 0) (o : Option A) → IfNone o P → o ≡ None → P
if_none P o m e = subst (λ r. IfNone r P) e m

-- an event is one pick at most
pub few_picks : (e : ArbitrationEvent) → picks_of e ≤ 1
few_picks (Picked seen pick) = omega arith
few_picks (Changed settings) = omega arith
