-- No fetch and no pick of an I/O queue makes a completion ready.
use Rattle.std.proofs.Common.{◌≡◌, ℕ, zero, suc, ◌+◌, ◌<◌, ◌≤◌, ◌==◌, ◌&&◌, ◌⊎◌, not, nat_lt, Bool, true, false, List, [], ◌∷◌, length, map, take, get_or, Some, refl, sym, ap, ◌∙◌, subst, arith, inl, inr}
use Rattle.std.specs.Prelude.{slice_index_or}
use Rattle.std.specs.List.{list_any, Contains}
use Rattle.std.proofs.lemmas.Bool.{and_parts, and_from, or_parts, or_left, or_right, cases_Bool, cases_eq, cases_lt, eq-eqb, ne_eqb, lt-ltb, ltb-true, le-ltb, not-true}
use Rattle.std.proofs.lemmas.List.{length_push, append_assoc}
use Rattle.std.proofs.lemmas.List.Folds.{list_any-append}
use Rattle.nvme_entry.specs.declared.submission.Sqe.{Sqe}
use Rattle.nvme_entry.specs.declared.completion.Cqe.{Cqe}
use Rattle.nvme_lane.specs.View.{PutView}
use Rattle.nvme_arbiter.specs.declared.pick.Pick.{Pick}
use Rattle.nvme_arbiter.specs.declared.pick.Seen.{Seen}
use Rattle.nvme_log.specs.declared.event.Event.TheVariants as event
use Rattle.nvme_log.specs.declared.place.Place.{Place}
use Rattle.nvme_log.specs.Rules.{Past}
use Rattle.nvme_log.specs.Queues.{Queue, open_sq, has_region, cq_region_of}
use Rattle.nvme_log.specs.Places.{fetched, waiting, picked, unaborted_below, fate_of, is_waiting, is_served, one_if}
use Rattle.nvme_log.specs.Completions.{is_posted}
use Rattle.nvme_log.specs.Aborts.{is_index}
use Rattle.nvme_log.specs.Account.{deleting_place}
use Rattle.nvme_log.proofs.Waiting.{times_among, contains-times, fate_of-same, one_fate_of, fetched-fetch, fetched-fetch_other, picked-pick_other}
use Rattle.nvme_ctrl_log.specs.Notes.{Notes, Taken}
use Rattle.nvme_jobs.specs.declared.dispatched.Dispatched.{Dispatched}
use Rattle.nvme_jobs.specs.Hands.{in_hand, is_in_hand}
use Rattle.nvme_jobs.specs.inside.Jobs.{JobsView}
use Rattle.nvme_jobs.specs.inside.Standing.{IsOther}
use Rattle.nvme_jobs.proofs.PickedPlaces.{is_picked-pick}
use Rattle.nvme_front.specs.declared.state.FrontState.{FrontState}
use Rattle.nvme_front.specs.inside.Dispatching.{with_jobs, AreDispatched}
use Rattle.nvme_front.specs.inside.State.{past_of, view_of}
use Rattle.nvme_front.specs.View.{IsReadyPlace, NoneCanBePosted}

-- where no place became ready, and the completion rings are the same
pub none_posted-later : (a b : FrontState) → ((r i : ℕ) → IsReadyPlace (view_of b) r i → IsReadyPlace (view_of a) r i)
    → ((r : ℕ) → cq_region_of (past_of b) r ≡ cq_region_of (past_of a) r) → b.cqs.items ≡ a.cqs.items → NoneCanBePosted (view_of a) → NoneCanBePosted (view_of b)
none_posted-later a b ready regions cqs none r i is c of =
    ap (λ (ps : List (PutView Cqe)). slice_index_or (map (λ (p : PutView Cqe). p.free) ps) c 0) cqs ∙ none r i (ready r i is) c (sym (regions r) ∙ of)

-- ---- a fetch
-- the place that is fetched isn't served
served-fetch : (past : Past) (region index : ℕ) (entry : Sqe) → IsOther past (event.Fetch region index entry) → (r i : ℕ)
    → is_served (event.Fetch region index entry ∷ past) r i ≡ true → is_served past r i ≡ true
served-fetch past region index entry fresh r i served = elim (cases_eq region r) [
  | inl same ↦ subst (λ (x : ℕ). is_served past x i ≡ true) same (here (subst (λ (x : ℕ). is_served (event.Fetch region index entry ∷ past) x i ≡ true) (sym same) served))
  | inr other ↦
      let parts = and_parts (nat_lt i (length (fetched (event.Fetch region index entry ∷ past) r))) (not (is_waiting (fate_of past r i))) served in
      and_from (nat_lt i (length (fetched past r))) (not (is_waiting (fate_of past r i)))
      (ap (λ (xs : List Sqe). nat_lt i (length xs)) (sym (fetched-fetch_other past region index entry r other)) ∙ parts.0) parts.1
] where
  waits : is_waiting (fate_of past region (length (fetched past region))) ≡ true
  waits = rw (fresh.0, le-ltb (unaborted_below past region (length (fetched past region))) (picked past region) fresh.1) refl

  here : is_served (event.Fetch region index entry ∷ past) region i ≡ true → is_served past region i ≡ true
  here at =
      let n : ℕ = length (fetched past region) in
      let parts = and_parts (nat_lt i (length (fetched (event.Fetch region index entry ∷ past) region))) (not (is_waiting (fate_of past region i))) at in
      let lt = ltb-true i (length (fetched (event.Fetch region index entry ∷ past) region)) parts.0 in
      let below : i < n + 1 = omega (arith, lt, ap (λ (xs : List Sqe). length xs) (fetched-fetch past region index entry), length_push (fetched past region) entry) in
      elim (cases_lt i n) [
        | inl inside ↦ and_from (nat_lt i n) (not (is_waiting (fate_of past region i))) (lt-ltb i n inside) parts.1
        | inr beyond ↦
            let last : i ≡ n = omega (arith, below, beyond) in
            let no : is_waiting (fate_of past region n) ≡ false = not-true (is_waiting (fate_of past region n)) (ap (λ (x : ℕ). not (is_waiting (fate_of past region x))) (sym last) ∙ parts.1) in
            absurd (let yes = waits in cc (no, yes))
      ]

-- so it makes no completion ready
pub fetch-ready : (a b : FrontState) (region index : ℕ) (entry : Sqe) → IsOther (past_of a) (event.Fetch region index entry) → past_of b ≡ event.Fetch region index entry ∷ past_of a
    → b.jobs ≡ a.jobs → b.cqs.items ≡ a.cqs.items → NoneCanBePosted (view_of a) → NoneCanBePosted (view_of b)
fetch-ready a b region index entry fresh past jobs cqs =
    none_posted-later a b (λ r i is. record {
      served = served-fetch (past_of a) region index entry fresh r i (ap (λ (p : Past). is_served p r i) (sym past) ∙ is.served);
      unposted = ap (λ (p : Past). is_posted p r i) (sym past) ∙ is.unposted;
      has_result = ap (λ (j : JobsView). is_in_hand j.hands r i) (sym jobs) ∙ is.has_result;
      not_deleting = ap (λ (p : Past). r == 0 && is_index i (deleting_place p)) (sym past) ∙ is.not_deleting;
    })
    (λ r. ap (λ (p : Past). cq_region_of p r) past) cqs

-- ---- a pick of an I/O queue
-- it takes a place of its queue
pub record IsTakenPlace (past : Past) (pick : Pick) (queue : Queue) (r i : ℕ) : Type 0 where
  pub region : queue.region ≡ r
  pub among : Contains (take pick.n (waiting past queue.region)) i

-- a place that is served then was served before, or is taken
served-pick : (past : Past) (seen : List Seen) (pick : Pick) (queue : Queue) → open_sq past pick.qid ≡ Some queue → (r i : ℕ)
    → is_served (event.Pick seen pick ∷ past) r i ≡ true → (is_served past r i ≡ true) ⊎ IsTakenPlace past pick queue r i
served-pick past seen pick queue is_open r i served = elim (cases_eq queue.region r) [
  | inl same ↦ elim (cases_Bool (is_waiting (fate_of past r i))) [
    | inr was ↦ inl (and_from (nat_lt i (length (fetched past r))) (not (is_waiting (fate_of past r i))) parts.0 (ap not was))
    | inl waited ↦
        let own : has_region r (open_sq past pick.qid) ≡ true = ap (has_region r) is_open ∙ eq-eqb queue.region r same in
        let more = is_picked-pick past seen pick r own i (ltb-true i (length (fetched past r)) parts.0) in
        let later : is_waiting (fate_of (event.Pick seen pick ∷ past) r i) ≡ false = not-true (is_waiting (fate_of (event.Pick seen pick ∷ past) r i)) parts.1 in
        let one = one_fate_of past r i in
        let one_later = one_fate_of (event.Pick seen pick ∷ past) r i in
        let there : 1 ≤ times_among i (take pick.n (waiting past r)) = omega (arith, more, one, one_later, ap one_if waited, ap one_if later) in
        inr (record {
          region = same;
          among = subst (λ (x : ℕ). Contains (take pick.n (waiting past x)) i) (sym same) (contains-times i (take pick.n (waiting past r)) there);
        })
  ]
  | inr other ↦
      let own : has_region r (open_sq past pick.qid) ≡ false = ap (has_region r) is_open ∙ ne_eqb queue.region r other in
      let fate = fate_of-same past (event.Pick seen pick ∷ past) r (picked-pick_other past seen pick r own) (λ k. refl) i in
      inl (and_from (nat_lt i (length (fetched past r))) (not (is_waiting (fate_of past r i))) parts.0 (ap (λ (f : _). not (is_waiting f)) (sym fate) ∙ parts.1))
] where
  parts : (nat_lt i (length (fetched past r)) ≡ true) × (not (is_waiting (fate_of (event.Pick seen pick ∷ past) r i)) ≡ true)
  parts = and_parts (nat_lt i (length (fetched past r))) (not (is_waiting (fate_of (event.Pick seen pick ∷ past) r i))) served

-- a command of a place
abbrev is_of : ℕ → ℕ → Dispatched → Bool
is_of r i d = d.place.region == r && d.place.index == i

-- the commands that are taken have their places
are-has : (notes : Notes) (region ticket : ℕ) (is : List ℕ) (ds : List Dispatched) → AreDispatched notes region ticket is ds → (i k : ℕ) → k < length is → get_or is k i ≡ i
    → list_any (is_of region i) ds ≡ true
are-has notes region ticket [] [] are i k lt at = absurd (omega (arith, lt))
are-has notes region ticket [] (d ∷ ds) are i k lt at = absurd are
are-has notes region ticket (x ∷ is) [] are i k lt at = absurd are
are-has notes region ticket (x ∷ is) (d ∷ ds) are i zero lt at =
    or_left (is_of region i d) (list_any (is_of region i) ds)
    (and_from (d.place.region == region) (d.place.index == i) (eq-eqb d.place.region region (ap (λ (p : Place). p.region) are.1))
    (eq-eqb d.place.index i (ap (λ (p : Place). p.index) are.1 ∙ at)))
are-has notes region ticket (x ∷ is) (d ∷ ds) are i (suc k) lt at =
    or_right (is_of region i d) (list_any (is_of region i) ds)
    (are-has (Taken d.tag region x ∷ notes) region (ticket + 1) is ds are.5 i k (omega (arith, lt)) at)

-- a command that is taken has no result yet, so it makes no completion ready
pub pick-ready : (a b : FrontState) (seen : List Seen) (pick : Pick) (queue : Queue) (notes : Notes) (ticket : ℕ) (ds : List Dispatched) → open_sq (past_of a) pick.qid ≡ Some queue
    → AreDispatched notes queue.region ticket (take pick.n (waiting (past_of a) queue.region)) ds → past_of b ≡ event.Pick seen pick ∷ past_of a
    → b.jobs ≡ with_jobs a.jobs ds → b.cqs.items ≡ a.cqs.items → NoneCanBePosted (view_of a) → NoneCanBePosted (view_of b)
pick-ready a b seen pick queue notes ticket ds is_open are past jobs cqs =
    none_posted-later a b ready (λ r. ap (λ (p : Past). cq_region_of p r) past) cqs where
      none_of : (r i : ℕ) → is_in_hand b.jobs.hands r i ≡ false → (is_in_hand a.jobs.hands r i ≡ false) × (list_any (is_of r i) ds ≡ false)
      none_of r i none =
          or_parts (is_in_hand a.jobs.hands r i) (list_any (is_of r i) ds)
          (sym (list_any-append (is_of r i) (in_hand a.jobs.hands) ds) ∙ ap (list_any (is_of r i)) (append_assoc a.jobs.hands.running a.jobs.hands.unhanded ds)
          ∙ ap (λ (j : JobsView). is_in_hand j.hands r i) (sym jobs) ∙ none)

      served : (r i : ℕ) → IsReadyPlace (view_of b) r i → is_served (past_of a) r i ≡ true
      served r i is = elim (served-pick (past_of a) seen pick queue is_open r i (ap (λ (p : Past). is_served p r i) (sym past) ∙ is.served)) [
        | inl before ↦ before
        | inr took ↦
            let there = are-has notes queue.region ticket (take pick.n (waiting (past_of a) queue.region)) ds are i took.among.0 took.among.1 took.among.2 in
            let here : list_any (is_of r i) ds ≡ true = subst (λ (x : ℕ). list_any (is_of x i) ds ≡ true) took.region there in
            absurd (let none = (none_of r i is.has_result).1 in cc (none, here))
      ]

      ready : (r i : ℕ) → IsReadyPlace (view_of b) r i → IsReadyPlace (view_of a) r i
      ready r i is = record {
        served = served r i is;
        unposted = ap (λ (p : Past). is_posted p r i) (sym past) ∙ is.unposted;
        has_result = (none_of r i is.has_result).0;
        not_deleting = ap (λ (p : Past). r == 0 && is_index i (deleting_place p)) (sym past) ∙ is.not_deleting;
      }
