-- The commands in hand after each step of the jobs.
use Rattle.std.proofs.Common.{◌≡◌, ℕ, List, [], ◌∷◌, ◌++◌, sym, ap, ◌∙◌, subst, append_assoc}
use Rattle.std.specs.List.Sorted.{IsPermutation}
use Rattle.std.proofs.lemmas.List.Sorted.{IsPermutation-append_left}
use Rattle.nvme_pool.specs.declared.jobs.Finished.{Finished}
use Rattle.nvme_jobs.specs.declared.dispatched.Dispatched.{Dispatched}
use Rattle.nvme_jobs.specs.Hands.{in_hand}
use Rattle.nvme_jobs.specs.inside.Jobs.{JobsView, HandsOne, GainsOne, GainsStray}

-- they stay where a job is handed over
pub in_hand-handed : (sizes : List ℕ) (old new : JobsView) → HandsOne sizes old new → in_hand new.hands ≡ in_hand old.hands
in_hand-handed sizes old new one =
    ap (λ (j : JobsView). in_hand j.hands) one.are
    ∙ append_assoc old.hands.running (one.dispatched ∷ []) one.rest ∙ ap (λ (ds : List Dispatched). old.hands.running ++ ds) (sym one.can.oldest)

-- one whose result is gained is in hand no longer
pub in_hand-gained : (sizes : List ℕ) (old new : JobsView) (d : Dispatched) (result : Finished) → GainsOne sizes old new d result
    → IsPermutation (in_hand old.hands) (d ∷ in_hand new.hands)
in_hand-gained sizes old new d result one =
    subst (λ (j : JobsView). IsPermutation (in_hand old.hands) (d ∷ in_hand j.hands)) (sym one.are)
    (IsPermutation-append_left old.hands.unhanded old.hands.running (d ∷ one.rest) one.its.running_is)

-- they stay where a result is dropped
pub in_hand-strayed : (sizes : List ℕ) (old new : JobsView) (ticket : ℕ) → GainsStray sizes old new ticket → in_hand new.hands ≡ in_hand old.hands
in_hand-strayed sizes old new ticket one = ap (λ (j : JobsView). in_hand j.hands) one.are
