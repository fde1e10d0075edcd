-- What is kept under a name once the commands of a queue are given up.
use Rattle.std.proofs.Common.{◌≡◌, ℕ, ◌==◌, ◌&&◌, not, Bool, if◌then◌else◌, List, [], ◌∷◌, None, nat_eq, arith}
use Rattle.std.proofs.lemmas.Grind.{common_steps}
use Rattle.std.specs.List.{filter}
use Rattle.std.specs.Map.{lookup}

abbrev pub is_named : ℕ → ℕ → ℕ × ℕ → Bool
is_named q c name = nat_eq q name.0 && nat_eq c name.1

pub lookup-filter_queue : {X : Type 0} (s q c : ℕ) (es : List ((ℕ × ℕ) × X)) → lookup (is_named q c) (filter (λ e. not (e.0.0 == s)) es) ≡ (if s == q then None else lookup (is_named q c) es)
lookup-filter_queue s q c [] = grind (arith, common_steps)
lookup-filter_queue s q c (e ∷ es) = grind (arith, common_steps, lookup-filter_queue s q c es)
