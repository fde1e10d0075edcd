-- How far a turn goes: what a scan leaves of the windows, and a pick after it.
use Rattle.std.proofs.Common.{◌≡◌, ◌≢◌, ℕ, ◌+◌, ◌≤◌, Bool, true, false, List, [], length, map, get_or, Some, None, refl, sym, ap, ◌∙◌, subst, inl, inr, ⊎_elim}
use Rattle.std.specs.Prelude.{IfSome}
use Rattle.std.proofs.lemmas.Option.{same_Some}
use Rattle.nvme_lane.proofs.Prefixes.{IsPrefix-trans}
use Rattle.nvme_lane.specs.View.{GetView}
use Rattle.nvme_entry.specs.declared.submission.Sqe.{Sqe}
use Rattle.nvme_front.specs.declared.front.Step.{Step}
use Rattle.nvme_front.specs.declared.front.Step.TheVariants.{Picked, Moved, Idle, Stalled}
use Rattle.nvme_front.specs.declared.state.FrontState.{FrontState}
use Rattle.nvme_log.specs.Limits.{admin_events}
use Rattle.nvme_log.specs.Rules.{FrontRules, Past, window_at}
use Rattle.nvme_log.specs.Queues.{Deletion, pending}
use Rattle.nvme_log.specs.Places.{waiting}
use Rattle.nvme_log.specs.Histories.{picks_in}
use Rattle.nvme_front.specs.inside.State.{rules_of, past_of, gets_of, view_of}
use Rattle.nvme_front.specs.inside.Room.{IsConsistent}
use Rattle.nvme_front.specs.inside.Goes.{Goes, IsSame, HasAdmin, AllScanned}
use Rattle.nvme_front.specs.View.{known_in, AreFilled, HasPlaces, HasUnposted, LacksPlaces, NoneCanBePosted, NoneCanBePicked, PicksOne, EndsSteps, GoesToEnd, next_lawful}
use Rattle.nvme_front.specs.inside.Turn.{IsPickOf, told_after}
use Rattle.nvme_front.proofs.States.{rules-goes, Goes-same}
use Rattle.nvme_front.proofs.Still.{drained_same, past_same, scanned_same, pick_same, IsIdlePick, IsStalledPick}
use Rattle.nvme_front.proofs.Turns.{none_picked}
use Rattle.nvme_front.proofs.OpenQueues.{open_few}

-- ---- windows that are filled
-- where each queue was scanned, each is filled
pub all_filled : (s : FrontState) → IsConsistent s → HasAdmin s → AllScanned s → AreFilled (view_of s) (past_of s)
all_filled s kept admin scanned = λ q queue is. ⊎_elim (λ full. inl full.0) (λ known. inr known) (scanned q (open_few s (kept.running admin) q queue is) queue is)

-- and stays so as long as the ends stay
pub filled_later : (s t : FrontState) → Goes s t → gets_of t.sqs.items ≡ gets_of s.sqs.items → AreFilled (view_of s) (past_of s) → AreFilled (view_of t) (past_of s)
filled_later s t goes gets filled = λ q queue is.
    let known : known_in (view_of t) queue.region ≡ known_in (view_of s) queue.region =
    ap (λ (g : List (GetView Sqe)). get_or (map (λ (x : GetView Sqe). x.known) g) queue.region []) gets in
    ⊎_elim
    (λ full. inl (subst (λ (rules : FrontRules). window_at rules queue.region ≤ length (waiting (past_of s) queue.region)) (sym (rules-goes s t goes)) full))
    (λ none. inr (known ∙ none))
    (filled q queue is)

-- ---- picks and deletions
-- where a look for a pick left all as it was, no pick can be made
none_can_be_picked : (s p : FrontState) → IsSame s p → IfSome (next_lawful (view_of s)) (LacksPlaces (rules_of s) (past_of s)) → NoneCanBePicked (view_of p)
none_can_be_picked s p same many =
    none_picked p (next_lawful (view_of s)) (pick_same s p same) (rw (past_same s p same, rules-goes s p (Goes-same s p same)) many)

-- a deletion that waited for a completion still does
still_waits : (a t : FrontState) (d : Deletion) → IsSame a t → pending (past_of a) ≡ Some d → HasUnposted (past_of a) d.region
    → (x : Deletion) → pending (past_of t) ≡ Some x → HasUnposted (past_of t) x.region
still_waits a t d same is unposted x now =
    subst (λ (y : Deletion). HasUnposted (past_of t) y.region) (same_Some d x (sym is ∙ sym (ap pending (past_same a t same)) ∙ now))
    (subst (λ (p : Past). HasUnposted p d.region) (sym (past_same a t same)) unposted)

-- ---- what a turn's answer says of them
-- a pick after a scan
pub picks_one : (a s p t : FrontState) → IsConsistent s → HasAdmin s → AllScanned s → Goes a s → Goes s t → picks_in s.log.items ≡ picks_in a.log.items
    → gets_of t.sqs.items ≡ gets_of s.sqs.items → (pick : IsPickOf s p) → t.log.items ≡ p.log.items → (pick.pick.qid ≢ 0 → NoneCanBePosted (view_of t)) → PicksOne (view_of a) (view_of t)
picks_one a s p t kept admin scanned as_ goes picks gets pick log drained = record {
  before = s.log.items;
  seen = pick.seen;
  pick = pick.pick;
  after = pick.after;
  log_is = log ∙ pick.log_is;
  since = as_.grew;
  first = picks;
  room = λ of_admin. subst (λ (n : ℕ). length s.log.items + admin_events ≤ n) (sym (λ i. (goes.config i).max_events)) (pick.room of_admin);
  places = subst (λ (rules : FrontRules). HasPlaces rules (past_of s) pick.pick) (sym (rules-goes s t goes)) pick.places;
  filled = filled_later s t goes gets (all_filled s kept admin scanned);
  posted = drained;
}

-- a scan, and then a look for a pick
pub serves_to_end : (a s p : FrontState) → IsConsistent s → HasAdmin s → pending (past_of s) ≡ None → AllScanned s → NoneCanBePosted (view_of s) → IsConsistent p → HasAdmin p → Goes a s → Goes s p
    → picks_in s.log.items ≡ picks_in a.log.items → gets_of p.sqs.items ≡ gets_of s.sqs.items → (fetched : Bool) (picked : Step) → (picked ≡ Picked → PicksOne (view_of a) (view_of p))
    → (picked ≡ Moved → ⊥) → (picked ≡ Idle → IsIdlePick s p) → (picked ≡ Stalled → IsStalledPick s p) → GoesToEnd (told_after fetched picked) (view_of a) (view_of p)
serves_to_end a s p kept admin none scanned drained kept' there as_ sp picks gets fetched picked one never idle stalled =
    by fetched picked one never idle stalled where
      same_ends : IsSame s p → NoneCanBePicked (view_of p) → EndsSteps (view_of a) (view_of p)
      same_ends same unpicked = record {
        filled = λ none. all_filled p kept' there (scanned_same s p same scanned);
        unpicked = λ none. unpicked;
        posted = λ still. drained_same s p same drained;
        waits = λ d now. absurd (let it = ap pending (past_same s p same) ∙ none in cc);
      }

      idle_ends : IsIdlePick s p → EndsSteps (view_of a) (view_of p)
      idle_ends it = same_ends it.0 (none_picked p None (pick_same s p it.0 ∙ it.1) tt)

      stalled_ends : IsStalledPick s p → EndsSteps (view_of a) (view_of p)
      stalled_ends it = same_ends it.0 (none_can_be_picked s p it.0 it.1.0)

      by : (fetched : Bool) (picked : Step) → (picked ≡ Picked → PicksOne (view_of a) (view_of p)) → (picked ≡ Moved → ⊥) → (picked ≡ Idle → IsIdlePick s p)
          → (picked ≡ Stalled → IsStalledPick s p) → GoesToEnd (told_after fetched picked) (view_of a) (view_of p)
      by true Picked one never idle stalled = one refl
      by false Picked one never idle stalled = one refl
      by fetched Moved one never idle stalled = absurd (never refl)
      by true Idle one never idle stalled = idle_ends (idle refl)
      by false Idle one never idle stalled = idle_ends (idle refl)
      by true Stalled one never idle stalled = stalled_ends (stalled refl)
      by false Stalled one never idle stalled = stalled_ends (stalled refl)

-- a deletion that was pending, finished or not
pub closes_to_end : (a t : FrontState) (d : Deletion) → NoneCanBePosted (view_of a) → pending (past_of a) ≡ Some d → (finished : Bool)
    → (finished ≡ true → pending (past_of t) ≡ None) → (finished ≡ false → IsSame a t × HasUnposted (past_of a) d.region)
    → GoesToEnd (told_after finished Idle) (view_of a) (view_of t)
closes_to_end a t d drained was true done still = record {
  filled = λ none. absurd (let it = was in cc);
  unpicked = λ none. absurd (let it = was in cc);
  posted = λ same. absurd (let it = was in let now = done refl in cc);
  waits = λ x now. absurd (let it = done refl in cc);
}
closes_to_end a t d drained was false done still = record {
  filled = λ none. absurd (let it = was in cc);
  unpicked = λ none. absurd (let it = was in cc);
  posted = λ same. drained_same a t (still refl).0 drained;
  waits = still_waits a t d (still refl).0 was (still refl).1;
}

-- ---- since a time before
-- the same deletion was pending, or none
module _ (a b : FrontState) (goes : Goes a b) (pending_since : pending (past_of b) ≡ pending (past_of a)) (picks : picks_in b.log.items ≡ picks_in a.log.items) (c : FrontState) where
  ends_since : EndsSteps (view_of b) (view_of c) → EndsSteps (view_of a) (view_of c)
  ends_since it = record {
    filled = λ none. it.filled (pending_since ∙ none);
    unpicked = λ none. it.unpicked (pending_since ∙ none);
    posted = λ still. it.posted (still ∙ sym pending_since);
    waits = it.waits;
  }

  picks_since : PicksOne (view_of b) (view_of c) → PicksOne (view_of a) (view_of c)
  picks_since it = record {
    before = it.before;
    seen = it.seen;
    pick = it.pick;
    after = it.after;
    log_is = it.log_is;
    since = IsPrefix-trans a.log.items b.log.items it.before goes.grew it.since;
    first = it.first ∙ picks;
    room = it.room;
    places = it.places;
    filled = it.filled;
    posted = it.posted;
  }

  -- what was done before an answer makes no difference
  pub to_end_after : (moved : Bool) (step : Step) → GoesToEnd step (view_of b) (view_of c) → GoesToEnd (told_after moved step) (view_of a) (view_of c)
  to_end_after true Picked it = picks_since it
  to_end_after true Moved it = ends_since it
  to_end_after true Idle it = ends_since it
  to_end_after true Stalled it = ends_since it
  to_end_after false Picked it = picks_since it
  to_end_after false Moved it = ends_since it
  to_end_after false Idle it = ends_since it
  to_end_after false Stalled it = ends_since it
