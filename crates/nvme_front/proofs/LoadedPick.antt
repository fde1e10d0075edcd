-- A pick leaves a loaded front where each queue was scanned, and so does the end of a deletion.
use Rattle.std.proofs.Common.{◌≡◌, ℕ, zero, suc, ◌+◌, ◌<◌, Bool, true, false, List, [], ◌∷◌, length, get_or, map, reverse, Some, refl, sym, ap, ◌∙◌, arith}
use Rattle.std.specs.List.{list_all}
use Rattle.std.proofs.lemmas.Bool.{and_from}
use Rattle.std.proofs.lemmas.List.Folds.{list_all-append}
use Rattle.nvme_lane.specs.View.{GetView}
use Rattle.nvme_arbiter.specs.Limits.{queue_limit}
use Rattle.nvme_log.specs.declared.event.Event.{Event}
use Rattle.nvme_log.specs.declared.event.Event.TheVariants.{ClosedSq}
use Rattle.nvme_log.specs.declared.event.Event.TheVariants as event
use Rattle.nvme_log.specs.Rules.{Past, upto}
use Rattle.nvme_log.specs.Queues.{open_sq, pending}
use Rattle.nvme_log.specs.Places.{fetched}
use Rattle.nvme_log.specs.Histories.{picks_in}
use Rattle.nvme_log.specs.Loaded.{without_posts, is_filled}
use Rattle.nvme_log.proofs.PickCounts.{picks_in-append}
use Rattle.nvme_log.proofs.Tables.{with_events}
use Rattle.nvme_log.proofs.WithoutPosts.{is_filled-at, pending-posts}
use Rattle.nvme_log.proofs.LoadedTurns.{AreOther, last-pick, pending-ends, others-in}
use Rattle.nvme_front.specs.declared.state.FrontState.{FrontState}
use Rattle.nvme_front.specs.declared.front.Step.{Step}
use Rattle.nvme_front.specs.declared.front.Step.TheVariants.{Picked, Moved, Idle, Stalled}
use Rattle.nvme_front.specs.inside.State.{rules_of, past_of, gets_of}
use Rattle.nvme_front.specs.inside.Room.{IsConsistent}
use Rattle.nvme_front.specs.inside.Goes.{Goes, HasAdmin, AllScanned, IsSame}
use Rattle.nvme_front.specs.inside.Turn.{IsPickOf, Finishes}
use Rattle.nvme_front.specs.inside.Loads.{Loads}
use Rattle.nvme_front.proofs.States.{admin-goes}
use Rattle.nvme_front.proofs.Ended.{fetched_all}
use Rattle.nvme_front.proofs.Loading.{posts-same, posts-load, past-later, others-load, scanned-filled}

-- a test that passes for each number below a bound passes for all of them
all_from_below : (test : ℕ → Bool) (n : ℕ) → ((i : ℕ) → i < n → test i ≡ true) → list_all test (upto n) ≡ true
all_from_below test zero h = refl
all_from_below test (suc n) h =
    list_all-append test (upto n) (n ∷ [])
    ∙ and_from (list_all test (upto n)) (list_all test (n ∷ [])) (all_from_below test n (λ i lt. h i (omega (arith, lt))))
    (rw (h n (omega arith)) refl)

-- where the ends stay no more was fetched
same-fetched : (s t : FrontState) → IsConsistent s → IsConsistent t → gets_of t.sqs.items ≡ gets_of s.sqs.items → (r : ℕ) → fetched (past_of t) r ≡ fetched (past_of s) r
same-fetched s t kept kept' gets r =
    fetched_all t kept' r ∙ ap (λ (g : List (GetView _)). get_or (map (λ (x : GetView _). x.got) g) r []) gets ∙ sym (fetched_all s kept r)

-- a pick, with what its command makes behind it
pub pick-load : (s t : FrontState) → IsConsistent s → HasAdmin s → IsConsistent t → Goes s t → AllScanned s → gets_of t.sqs.items ≡ gets_of s.sqs.items → IsPickOf s t
    → picks_in t.log.items ≡ picks_in s.log.items + 1 → Loads s t
pick-load s t kept admin kept' goes scanned gets pick one = λ scripts within h.
    let e : Event = event.Pick pick.seen pick.pick in
    let past : past_of t ≡ with_events pick.after (e ∷ past_of s) = ap (λ (xs : List Event). reverse xs) pick.log_is ∙ past-later (e ∷ pick.after) s.log.items in
    let others : AreOther pick.after =
    others-in pick.after (e ∷ past_of s)
    (omega (arith, one, ap picks_in pick.log_is, picks_in-append s.log.items (e ∷ pick.after)))
    (λ r. ap (λ (p : Past). length (fetched p r)) (sym past) ∙ ap length (same-fetched s t kept kept' gets r)) in
    others-load s t kept' (admin-goes s t goes admin) goes gets scripts h pick.after (e ∷ past_of s) past others tt (
      all_from_below (λ (q : ℕ). is_filled (rules_of s) scripts (without_posts (past_of s)) (open_sq (without_posts (past_of s)) q)) queue_limit
          (λ q lt. is_filled-at (rules_of s) scripts (past_of s) q ∙ scanned-filled s kept admin scripts h.scripts_are q (scanned q (omega (arith, lt)))),
      h.so_far.filled_before,
    )
    (last-pick (without_posts (past_of s)) pick.seen pick.pick, h.so_far.fetches_last)

-- the end of a deletion
pub close-load : (s t : FrontState) → IsConsistent s → HasAdmin s → IsConsistent t → Goes s t → gets_of t.sqs.items ≡ gets_of s.sqs.items → Finishes s t → Loads s t
close-load s t kept admin kept' goes gets ends = λ scripts within h.
    let e : Event = ClosedSq ends.deletion.qid ends.deletion.region in
    let past : past_of t ≡ with_events (e ∷ []) (past_of s) = ap (λ (xs : List Event). reverse xs) ends.log_is ∙ past-later (e ∷ []) s.log.items in
    let was : pending (without_posts (past_of s)) ≡ Some ends.deletion = pending-posts (past_of s) ∙ ends.was_pending in
    others-load s t kept' (admin-goes s t goes admin) goes gets scripts h (e ∷ []) (past_of s) past (tt, tt)
    (pending-ends (without_posts (past_of s)) h.so_far.closed_at_once ends.deletion was)
    h.so_far.filled_before h.so_far.fetches_last

-- so does a look for a pick
pub look-load : (s t : FrontState) → IsConsistent s → HasAdmin s → IsConsistent t → Goes s t → AllScanned s → gets_of t.sqs.items ≡ gets_of s.sqs.items → (picked : Step)
    → (picked ≡ Picked → IsPickOf s t) → (picked ≡ Picked → picks_in t.log.items ≡ picks_in s.log.items + 1) → (picked ≡ Moved → ⊥)
    → (picked ≡ Idle → IsSame s t) → (picked ≡ Stalled → IsSame s t) → Loads s t
look-load s t kept admin kept' goes scanned gets Picked pick one never idle stalled = pick-load s t kept admin kept' goes scanned gets (pick refl) (one refl)
look-load s t kept admin kept' goes scanned gets Moved pick one never idle stalled = absurd (never refl)
look-load s t kept admin kept' goes scanned gets Idle pick one never idle stalled = posts-load s t goes (posts-same s t (idle refl))
look-load s t kept admin kept' goes scanned gets Stalled pick one never idle stalled = posts-load s t goes (posts-same s t (stalled refl))

-- and a look at the pending deletion
pub finish-load : (s t : FrontState) → IsConsistent s → HasAdmin s → IsConsistent t → Goes s t → t.sqs.items ≡ s.sqs.items → (finished : Bool)
    → (finished ≡ true → Finishes s t) → (finished ≡ false → IsSame s t) → Loads s t
finish-load s t kept admin kept' goes sqs true closed still = close-load s t kept admin kept' goes (ap gets_of sqs) (closed refl)
finish-load s t kept admin kept' goes sqs false closed still = posts-load s t goes (posts-same s t (still refl))
