-- What was got from a submission region and is known to come next, from step to step.
use Rattle.std.proofs.Common.{◌≡◌, ℕ, zero, suc, List, [], ◌∷◌, ◌++◌, ◌<◌, length, map, set, get_or, refl, sym, ap, ◌∙◌, subst, arith}
use mathlib.Core.List.{IsPrefix}
use Rattle.std.proofs.lemmas.List.{append-nil, append_assoc}
use Rattle.std.proofs.Math.Seq.{map-set_same}
use Rattle.nvme_entry.specs.declared.submission.Sqe.{Sqe}
use Rattle.nvme_lane.specs.View.{GetView}
use Rattle.nvme_front.specs.declared.region.SqRegion.{SqRegion}
use Rattle.nvme_front.specs.declared.state.FrontState.{FrontState}
use Rattle.nvme_front.specs.inside.State.{gets_of}
use Rattle.nvme_front.specs.inside.Goes.{coming_at, coming_in}
use Rattle.nvme_front.specs.inside.State.{view_of}
use Rattle.nvme_front.specs.View.{got_in, known_in}

-- where nothing was got and no more is known to come
pub comes-same : (a b : List SqRegion) → map coming_at b ≡ map coming_at a → (r : ℕ) → IsPrefix (coming_in a r) (coming_in b r)
comes-same a b e r = ([], append-nil (coming_in a r) ∙ ap (λ (xs : List (List Sqe)). get_or xs r []) (sym e))

-- a region was replaced by one with the same end
pub coming-set : (sqs : List SqRegion) (r : ℕ) (d g : SqRegion) → d ≡ get_or sqs r d → coming_at g ≡ coming_at d → map coming_at (set sqs r g) ≡ map coming_at sqs
coming-set sqs r d g read same = map-set_same coming_at sqs r g d (same ∙ ap coming_at read)

-- a region was replaced by one at which more comes
pub comes-set : (sqs : List SqRegion) (k : ℕ) (d g : SqRegion) → d ≡ get_or sqs k d → IsPrefix (coming_at d) (coming_at g)
    → (r : ℕ) → IsPrefix (coming_in sqs r) (coming_in (set sqs k g) r)
comes-set [] k d g read more r = ([], append-nil _)
comes-set (x ∷ sqs) zero d g read more zero = subst (λ (y : SqRegion). IsPrefix (coming_at y) (coming_at g)) read more
comes-set (x ∷ sqs) zero d g read more (suc r) = ([], append-nil _)
comes-set (x ∷ sqs) (suc k) d g read more zero = ([], append-nil _)
comes-set (x ∷ sqs) (suc k) d g read more (suc r) = comes-set sqs k d g read more r

-- where some were known to come, the next of them was got
comes_known : (got got' known known' : List Sqe) (x : Sqe) → got' ≡ got ++ x ∷ [] → (0 < length known → known ≡ x ∷ known') → IsPrefix (got ++ known) (got' ++ known')
comes_known got got' [] known' x more next = (x ∷ known', ap (λ (xs : List Sqe). xs ++ x ∷ known') (append-nil got) ∙ sym (ap (λ (xs : List Sqe). xs ++ known') more ∙ append_assoc got (x ∷ []) known'))
comes_known got got' (y ∷ known) known' x more next =
    ([], append-nil (got ++ y ∷ known) ∙ ap (λ (xs : List Sqe). got ++ xs) (next (omega arith)) ∙ sym (ap (λ (xs : List Sqe). xs ++ known') more ∙ append_assoc got (x ∷ []) known'))

-- the same of a region from which a command was fetched
pub comes_next : (d g : SqRegion) (x : Sqe) → g.end.got ≡ d.end.got ++ x ∷ [] → (0 < length d.end.known → d.end.known ≡ x ∷ g.end.known)
    → IsPrefix (coming_at d) (coming_at g)
comes_next d g x more next = comes_known d.end.got g.end.got d.end.known g.end.known x more next

-- what a region's view says
pub coming_in-seen : (sqs : List SqRegion) (r : ℕ)
    → coming_in sqs r ≡ get_or (map (λ (g : GetView Sqe). g.got) (map (λ (s : SqRegion). s.end) sqs)) r [] ++ get_or (map (λ (g : GetView Sqe). g.known) (map (λ (s : SqRegion). s.end) sqs)) r []
coming_in-seen [] r = refl
coming_in-seen (x ∷ sqs) zero = refl
coming_in-seen (x ∷ sqs) (suc r) = coming_in-seen sqs r

-- so it is for what a contract sees
pub comes-seen : (a b : FrontState) → ((r : ℕ) → IsPrefix (coming_in a.sqs.items r) (coming_in b.sqs.items r))
    → (r : ℕ) → IsPrefix (got_in (view_of a) r ++ known_in (view_of a) r) (got_in (view_of b) r ++ known_in (view_of b) r)
comes-seen a b comes r =
    subst (λ (xs : List Sqe). IsPrefix xs (got_in (view_of b) r ++ known_in (view_of b) r)) (coming_in-seen a.sqs.items r)
    (subst (λ (xs : List Sqe). IsPrefix (coming_in a.sqs.items r) xs) (coming_in-seen b.sqs.items r) (comes r))

-- more behind the same
pub IsPrefix-onto : (xs ys zs : List Sqe) → IsPrefix ys zs → IsPrefix (xs ++ ys) (xs ++ zs)
IsPrefix-onto xs ys zs p = (p.0, append_assoc xs ys p.0 ∙ ap (λ (l : List Sqe). xs ++ l) p.1)
