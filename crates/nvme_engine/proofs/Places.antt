-- How many places are outstanding after what an engine notes.
use Rattle.std.proofs.Common.{◌≡◌, ℕ, ◌==◌, ◌<◌, ◌≤◌, ◌&&◌, ◌||◌, not, nat_le, Bool, true, false, List, [], ◌∷◌, length, filter, Some, refl, sym, ap, ◌∙◌, subst, arith}
use Rattle.std.proofs.lemmas.List.{length_push, length-map}
use Rattle.nvme_entry.specs.declared.completion.Cqe.{Cqe}
use Rattle.nvme_entry.specs.declared.submission.Sqe.{Sqe}
use Rattle.nvme_admin.specs.declared.region.Region.{Region}
use Rattle.nvme_log.specs.declared.event.Event.{Event}
use Rattle.nvme_log.specs.declared.event.Event.TheVariants as event
use Rattle.nvme_log.specs.Account.{LeavesPlaces}
use Rattle.nvme_log.specs.Completions.{is_posted, takes_place, outstanding}
use Rattle.nvme_log.specs.Limits.{max_outstanding, window_of}
use Rattle.nvme_log.specs.Places.{fetched, waiting, places}
use Rattle.nvme_log.specs.Queues.{Queue, open_sq}
use Rattle.nvme_log.specs.Rules.{FrontRules, Past, Each, upto, sq_regions_of, slots_at}
use Rattle.nvme_log.proofs.Counting.{counts_less}
use Rattle.nvme_ctrl_content.specs.Content.{Candidate, Content}
use Rattle.nvme_ctrl_content.specs.Standing.{Holds}
use Rattle.nvme_ctrl_log.specs.Making.{with_region}
use Rattle.nvme_admin.specs.History.{Kind, Submission, Completion}
use Rattle.nvme_ctrl_log.proofs.AddedTables.{sq-more, cq-same}
use Rattle.nvme_ctrl_content.proofs.AfterSteps.{CanFetch}
use Rattle.nvme_ctrl_content.proofs.Counts.{counts-fetch}
use Rattle.nvme_ctrl_log.proofs.FurtherAccounts.{fetched-before}
use Rattle.nvme_ctrl_log.proofs.Growing.{sum_by-further}
use Rattle.nvme_ctrl.proofs.HeldSlots.{fetched_none}
use Rattle.nvme_ctrl_content.proofs.Regions.{regions-fetch}
use Rattle.nvme_ctrl_log.proofs.Sums.{sum_less, sum_none}
use Rattle.nvme_engine.specs.Standing.{HasPlaces}

-- before the first event none is
pub no_places : (rules : FrontRules) → HasPlaces rules []
no_places rules = record {
  each = tt;
  few = (let none = sum_none (λ (r : ℕ). 0) (length (sq_regions_of rules)) (λ r. refl) in omega (arith, none));
}

-- a completion that is posted gives its place back
pub places_posted : (rules : FrontRules) (past : Past) (c r i : ℕ) (cqe : Cqe) → HasPlaces rules past → HasPlaces rules (event.Post c r i cqe ∷ past)
places_posted rules past c r i cqe h = record {
  each = (tt, h.each);
  few =
      let later : Past = event.Post c r i cqe ∷ past in
      let less = sum_less (λ (x : ℕ). length (filter (λ (j : ℕ). takes_place past x j && not (is_posted past x j)) (places past x)))
      (λ (x : ℕ). length (filter (λ (j : ℕ). takes_place later x j && not (is_posted later x j)) (places later x))) (length (sq_regions_of rules))
      (λ x lt. counts_less (λ (j : ℕ). takes_place later x j && not (is_posted later x j)) (λ (j : ℕ). takes_place past x j && not (is_posted past x j))
      (λ j. fewer (takes_place past x j) (r == x && i == j) (is_posted past x j)) (places past x)) in
      omega (arith, less, h.few);
} where
  fewer : (t here p : Bool) → (t && not (here || p)) ≡ true → (t && not p) ≡ true
  fewer true true p e = cc e
  fewer true false p e = e
  fewer false here p e = cc e

-- the end of a deletion leaves them
pub places_closed : (rules : FrontRules) (past : Past) (qid region : ℕ) → HasPlaces rules past → HasPlaces rules (event.ClosedSq qid region ∷ past)
places_closed rules past qid region h = record { each = (tt, h.each); few = h.few }

-- so does a fetch
pub places_fetched : (rules : FrontRules) (late : Bool) (past : Past) (k : Content) (s : Holds rules late past k) (q : ℕ) (queue : Queue) → open_sq past q ≡ Some queue
    → length (waiting past queue.region) < window_of (slots_at (sq_regions_of rules) queue.region) → (i : ℕ) → i ≡ length (fetched past queue.region) → (entry : Sqe)
    → HasPlaces rules past → HasPlaces rules (event.Fetch queue.region i entry ∷ past)
places_fetched rules late past k s q queue is_open room i is entry h =
    let region = s.regions queue.region in
    let can : CanFetch past k q queue = record {
      is_open = is_open;
      room = (let size = ap (λ (xs : List ℕ). length xs) region.waiting_is ∙ length-map (k.sq queue.region).window (λ (c : Candidate). c.index) in
          subst (λ (n : ℕ). length (k.sq queue.region).window < window_of n) (s.tabled.sq_slots queue.region) (subst (λ (n : ℕ). n < window_of (slots_at (sq_regions_of rules) queue.region)) size room));
    } in
    let counts = (counts-fetch rules late past k q queue entry s can (regions-fetch rules late past k q queue entry s can)).outstanding_is in
    let index : (k.sq queue.region).fetched ≡ i = region.counted ∙ ap (λ (xs : List Sqe). length xs) (sym region.fetched_is) ∙ sym is in
    let here : outstanding rules (event.Fetch queue.region i entry ∷ past) ≡ k.outstanding =
    subst (λ (n : ℕ). outstanding rules (event.Fetch queue.region n entry ∷ past) ≡ k.outstanding) index (sym counts) in
    record { each = (tt, h.each); few = omega (arith, here, s.counts.outstanding_is, h.few) }

-- ---- a region more
module _ (rules others : FrontRules) (more : length (sq_regions_of rules) ≤ length (sq_regions_of others)) where
  -- no place is outstanding in a region of which nothing was fetched
  outstanding_further : (past : Past) → ((r : ℕ) → length (sq_regions_of rules) ≤ r → fetched past r ≡ []) → outstanding others past ≡ outstanding rules past
  outstanding_further past none =
      sum_by-further (λ (r : ℕ). length (filter (λ (i : ℕ). takes_place past r i && not (is_posted past r i)) (places past r))) (length (sq_regions_of rules)) (length (sq_regions_of others)) more
      (λ r beyond. ap (λ (xs : List Sqe). length (filter (λ (i : ℕ). takes_place past r i && not (is_posted past r i)) (upto (length xs)))) (none r beyond))

  one_further : (e : Event) (past : Past) → ((r : ℕ) → length (sq_regions_of rules) ≤ r → fetched (e ∷ past) r ≡ []) → LeavesPlaces rules past e → LeavesPlaces others past e
  one_further (event.Pick seen pick) past none h = subst (λ (m : ℕ). nat_le m max_outstanding ≡ true) (sym (outstanding_further (event.Pick seen pick ∷ past) none)) h
  one_further (event.Abort r i) past none h = subst (λ (m : ℕ). nat_le m max_outstanding ≡ true) (sym (outstanding_further (event.Abort r i ∷ past) none)) h
  one_further e past none h = h

  each_further : (past : Past) → ((r : ℕ) → length (sq_regions_of rules) ≤ r → fetched past r ≡ []) → Each (LeavesPlaces rules) past → Each (LeavesPlaces others) past
  each_further [] none h = tt
  each_further (e ∷ past) none h = (one_further e past none h.0, each_further past (λ r beyond. fetched-before e past r (none r beyond)) h.1)

  pub further : (past : Past) → ((r : ℕ) → length (sq_regions_of rules) ≤ r → fetched past r ≡ []) → HasPlaces rules past → HasPlaces others past
  further past none h = record { each = each_further past none h.each; few = omega (arith, outstanding_further past none, h.few) }

-- so it is with a region that is added
pub places_with : (kind : Kind) (a n : ℕ) (rules : FrontRules) (late : Bool) (past : Past) (k : Content) → Holds rules late past k → HasPlaces rules past
    → HasPlaces (with_region kind a n rules) past
places_with Submission a n rules late past k s h =
    further rules (with_region Submission a n rules)
    (omega (arith, ap (λ (rs : List Region). length rs) (sq-more a n rules), length_push (sq_regions_of rules) (record { address = a; slots = n }))) past (fetched_none rules late past k s) h
places_with Completion a n rules late past k s h =
    further rules (with_region Completion a n rules) (omega (arith, ap (λ (rs : List Region). length rs) (cq-same a n rules))) past (fetched_none rules late past k s) h
