-- What a front that is kept says of its log and its ends.
use Rattle.std.proofs.Common.{◌≡◌, ℕ, zero, suc, ◌<◌, false, List, [], ◌∷◌, map, length, get_or, ◌⊎◌, inl, inr, refl, sym, ap, subst, ◌∙◌, arith}
use Rattle.std.specs.Prelude.{reverse}
use Rattle.std.specs.List.{All}
use Rattle.std.proofs.lemmas.Bool.{cases_lt}
use Rattle.std.proofs.lemmas.List.Elements.{All-head, All-tail}
use Rattle.nvme_entry.specs.declared.submission.Sqe.{Sqe}
use Rattle.nvme_entry.specs.declared.completion.Cqe.{Cqe}
use Rattle.nvme_lane.specs.View.{GetView, PutView}
use Rattle.nvme_log.specs.declared.event.Event.{Event}
use Rattle.nvme_log.specs.Places.{fetched}
use Rattle.nvme_log.specs.Completions.{posted_to}
use Rattle.nvme_front.specs.declared.region.SqRegion.{SqRegion}
use Rattle.nvme_front.specs.declared.state.FrontState.{FrontState}
use Rattle.nvme_front.specs.inside.State.{gets_of, past_of, view_of}
use Rattle.nvme_front.specs.inside.Room.{IsConsistent, IsFreshSq}
use Rattle.nvme_front.specs.inside.Goes.{HasAdmin}
use Rattle.nvme_front.specs.View.{FrontView, AccountsForEnds, past_in, got_in, sent_in}
use Rattle.nvme_front.proofs.EndsSeen.{accounts_for_ends, admin_there}

-- both admin regions are there, or not
pub admin_or_not : (s : FrontState) → HasAdmin s ⊎ (HasAdmin s → ⊥)
admin_or_not s = elim (cases_lt 0 (length s.sqs.items)) [
  | inl sq ↦ elim (cases_lt 0 (length s.cqs.items)) [
    | inl cq ↦ inl (sq, cq)
    | inr none ↦ inr (λ h. omega (arith, h.1, none))
  ]
  | inr none ↦ inr (λ h. omega (arith, h.0, none))
]

-- nothing was got from fresh regions, and nothing was put
nothing_got : (sqs : List SqRegion) → All IsFreshSq sqs → (r : ℕ) → get_or (map (λ (g : GetView Sqe). g.got) (gets_of sqs)) r [] ≡ []
nothing_got [] h r = refl
nothing_got (x ∷ sqs) h zero = (All-head IsFreshSq x sqs h).nothing_got
nothing_got (x ∷ sqs) h (suc r) = nothing_got sqs (All-tail IsFreshSq x sqs h) r

nothing_put : (cqs : List (PutView Cqe)) → All (λ (p : PutView Cqe). p.sent ≡ []) cqs → (c : ℕ) → get_or (map (λ (p : PutView Cqe). p.sent) cqs) c [] ≡ []
nothing_put [] h c = refl
nothing_put (x ∷ cqs) h zero = All-head (λ (p : PutView Cqe). p.sent ≡ []) x cqs h
nothing_put (x ∷ cqs) h (suc c) = nothing_put cqs (All-tail (λ (p : PutView Cqe). p.sent ≡ []) x cqs h) c

-- all that was got from a region was fetched
pub fetched_all : (s : FrontState) → IsConsistent s → (r : ℕ) → fetched (past_of s) r ≡ got_in (view_of s) r
fetched_all s k r = elim (admin_or_not s) [
  | inl admin ↦ (k.running admin).got r
  | inr none ↦ let fresh = k.fresh none in ap (λ (z : List Event). fetched (reverse z) r) fresh.log ∙ sym (nothing_got s.sqs.items fresh.sqs r)
]

-- all that was put into a region was posted
pub posted_all : (s : FrontState) → IsConsistent s → (c : ℕ) → posted_to (past_of s) c ≡ sent_in (view_of s) c
posted_all s k c = elim (admin_or_not s) [
  | inl admin ↦ (k.running admin).sent c
  | inr none ↦ let fresh = k.fresh none in ap (λ (z : List Event). posted_to (reverse z) c) fresh.log ∙ sym (nothing_put s.cqs.items fresh.cqs c)
]

-- the same by the view
pub account_seen : (s : FrontState) (v : FrontView) → view_of s ≡ v → IsConsistent s → 0 < length v.gets → 0 < length v.puts → v.late ≡ false → AccountsForEnds v
account_seen s v e k gets puts late =
    subst AccountsForEnds e (accounts_for_ends s k (admin_there s v e gets puts) (ap (λ (z : FrontView). z.late) e ∙ late))

pub fetched_seen : (s : FrontState) (v : FrontView) → view_of s ≡ v → IsConsistent s → (r : ℕ) → fetched (past_in v) r ≡ got_in v r
fetched_seen s v e k = subst (λ (z : FrontView). (r : ℕ) → fetched (past_in z) r ≡ got_in z r) e (fetched_all s k)

pub posted_seen : (s : FrontState) (v : FrontView) → view_of s ≡ v → IsConsistent s → (c : ℕ) → posted_to (past_in v) c ≡ sent_in v c
posted_seen s v e k = subst (λ (z : FrontView). (c : ℕ) → posted_to (past_in z) c ≡ sent_in z c) e (posted_all s k)
