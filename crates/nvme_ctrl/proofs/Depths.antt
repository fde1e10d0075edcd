-- The sum of the depths of the queues suffices.
use Rattle.std.proofs.Common.{◌≡◌, ℕ, zero, suc, ◌+◌, ◌-◌, ◌<◌, ◌≤◌, ◌==◌, ◌||◌, not, Bool, true, false, if◌then◌else◌, List, [], ◌∷◌, length, map, sum_by, Option, Some, None, option_map, refl, sym, ap, ◌∙◌, subst, arith, inl, inr, add-one}
use Rattle.std.proofs.lemmas.Bool.{cases_eq, ne_eqb, eq-eqb, cases_Bool, cond-true, cond-false}
use Rattle.std.proofs.lemmas.Option.{same_Some}
use Rattle.std.proofs.lemmas.List.{length_push}
use Rattle.std.proofs.lemmas.List.Sums.{sum_by_push}
use Rattle.nvme_entry.specs.declared.submission.Sqe.{Sqe}
use Rattle.nvme_arbiter.specs.Limits.{queue_limit}
use Rattle.nvme_log.specs.declared.event.Event.TheVariants.{Fetch, Post}
use Rattle.nvme_log.specs.Rules.{FrontRules, Past, upto, sq_regions_of}
use Rattle.nvme_log.specs.Queues.{qid_of_region, is_closed_region}
use Rattle.nvme_log.specs.Places.{fetched, waiting, places}
use Rattle.nvme_log.specs.Completions.{is_posted, unposted_of}
use Rattle.nvme_log.specs.Laws.{count_of}
use Rattle.nvme_log.proofs.Counting.{count_of-push, counts_all, counts_less}
use Rattle.nvme_log.proofs.Fates.{length-upto}
use Rattle.nvme_log.proofs.Waiting.{fetched-fetch, fetched-fetch_other}
use Rattle.nvme_ctrl_log.specs.Notes.{Notes, Logged, EachNote, logged}
use Rattle.nvme_ctrl_log.specs.Tags.{all_fetches, all_posts}
use Rattle.nvme_ctrl.specs.Depths.{held_in, IsFetchedInDepth, HasDepths, DepthsSuffice, DepthsLeaveRoom, HeldWaitOrAreUnposted}
use Rattle.nvme_ctrl_content.specs.Content.{Attachment, Candidate, Content}
use Rattle.nvme_ctrl_content.specs.Standing.{hand_of}
use Rattle.nvme_ctrl.specs.kept.Kept.{StandsAt}
use Rattle.nvme_slots.specs.declared.slot.Slot.{Slot}
use Rattle.nvme_ctrl.specs.declared.state.Controller.{Controller}
use Rattle.nvme_ctrl.proofs.HeldSlots.{fetches-by, posts-by, fetched_none}
use Rattle.nvme_ctrl_content.proofs.PostedPlaces.{posted_served, unposted_by}
use Rattle.nvme_ctrl_log.proofs.Sums.{sum_same, sum_add, sum_more, at_most}

-- ---- sums by identifier
abbrev without : (ℕ → ℕ) → ℕ → ℕ → ℕ
without d q x = if x == q then 0 else d x

without_other : (d : ℕ → ℕ) (q x : ℕ) → (x ≡ q → ⊥) → without d q x ≡ d x
without_other d q x n = cond-false (x == q) 0 (d x) (ne_eqb x q n)

without_same : (d : ℕ → ℕ) (q : ℕ) → without d q q ≡ 0
without_same d q = cond-true (q == q) 0 (d q) (eq-eqb q q refl)

sum_without : (d : ℕ → ℕ) (q m : ℕ) → q < m → sum_by d (upto m) ≡ sum_by (without d q) (upto m) + d q
sum_without d q zero lt = absurd (omega (arith, lt))
sum_without d q (suc m) lt = elim (cases_eq q m) [
  | inl same ↦
      let below = sum_same d (without d q) m (λ r less. without_other d q r (λ e. omega (arith, e, less, same))) in
      let here : without d q m ≡ 0 = subst (λ (y : ℕ). without d q y ≡ 0) same (without_same d q) in
      let is : d q ≡ d m = ap d same in
      omega (arith, sum_by_push d (upto m) m, sum_by_push (without d q) (upto m) m, below, here, is)
  | inr other ↦
      let rest = sum_without d q m (omega (arith, lt, other)) in
      let here = without_other d q m (λ e. other (sym e)) in
      omega (arith, sum_by_push d (upto m) m, sum_by_push (without d q) (upto m) m, rest, here)
]

-- what is bounded by its identifier's number, and is nothing without one, sums to no more than the numbers of the identifiers
pub sum_ids : (f d : ℕ → ℕ) (ids : ℕ → Option ℕ) (n m : ℕ) → ((r : ℕ) → ids r ≡ None → f r ≡ 0) → ((r q : ℕ) → r < n → ids r ≡ Some q → (f r ≤ d q) × (q < m))
    → ((r x q : ℕ) → ids r ≡ Some q → ids x ≡ Some q → r ≡ x) → sum_by f (upto n) ≤ sum_by d (upto m)
sum_ids f d ids zero m none some apart = omega arith
sum_ids f d ids (suc n) m none some apart = by (ids n) refl (λ e h. sum_ids f e ids n m none h apart) where
  by : (o : Option ℕ) → ids n ≡ o → ((e : ℕ → ℕ) → ((r q : ℕ) → r < n → ids r ≡ Some q → (f r ≤ e q) × (q < m)) → sum_by f (upto n) ≤ sum_by e (upto m))
      → sum_by f (upto (suc n)) ≤ sum_by d (upto m)
  by None e rest =
      let below = rest d (λ r q lt. some r q (omega (arith, lt))) in
      omega (arith, sum_by_push f (upto n) n, none n e, below)
  by (Some q) e rest =
      let here = some n q (omega arith) e in
      let below = rest (without d q) (λ r x lt is.
      let it = some r x (omega (arith, lt)) is in
      let other : x ≡ q → ⊥ = λ same. omega (arith, lt, apart r n q (is ∙ ap (λ (y : ℕ). Some y) same) e) in
      (subst (λ (v : ℕ). f r ≤ v) (sym (without_other d q x other)) it.0, it.1)) in
      omega (arith, sum_by_push f (upto n) n, sum_without d q m here.1, below, here.0)

-- ---- depths
-- no more commands of a region hold a slot than its depth
pub depth_kept : (depth : ℕ → ℕ) (notes : Notes) → EachNote (IsFetchedInDepth depth) notes → (r : ℕ) → held_in (logged notes) r ≤ depth r
depth_kept depth [] h r = omega arith
depth_kept depth (Logged (Fetch region i entry) ∷ notes) h r = elim (cases_eq region r) [
  | inl same ↦
      let past : Past = logged notes in
      let test : ℕ → Bool = λ (j : ℕ). not (is_posted past region j) in
      let size : length (fetched (Fetch region i entry ∷ past) region) ≡ suc (length (fetched past region)) =
      ap length (fetched-fetch past region i entry) ∙ length_push (fetched past region) entry ∙ add-one (length (fetched past region)) in
      let all : held_in (Fetch region i entry ∷ past) region ≡ count_of test (upto (suc (length (fetched past region)))) = ap (λ (n : ℕ). count_of test (upto n)) size in
      let room = h.0 in
      subst (λ (x : ℕ). held_in (Fetch region i entry ∷ past) x ≤ depth x) same
      (omega (arith, all, room, count_of-push test (upto (length (fetched past region))) (length (fetched past region)), at_most (test (length (fetched past region)))))
  | inr other ↦
      let same : held_in (Fetch region i entry ∷ logged notes) r ≡ held_in (logged notes) r =
      ap (λ (xs : List Sqe). count_of (λ (j : ℕ). not (is_posted (logged notes) r j)) (upto (length xs))) (fetched-fetch_other (logged notes) region i entry r other) in
      omega (arith, same, depth_kept depth notes h.1 r)
]
depth_kept depth (Logged (Post c region i cqe) ∷ notes) h r =
    let less = counts_less (λ (j : ℕ). not (is_posted (Post c region i cqe ∷ logged notes) r j)) (λ (j : ℕ). not (is_posted (logged notes) r j))
    (λ j e. still (is_posted (logged notes) r j) _ e) (places (logged notes) r) in
    omega (arith, less, depth_kept depth notes h.1 r)
  where
    still : (p b : Bool) → not (b || p) ≡ true → not p ≡ true
    still true true e = e
    still true false e = e
    still false b e = refl
depth_kept depth (Logged e ∷ notes) h r = depth_kept depth notes h.1 r
depth_kept depth (note ∷ notes) h r = depth_kept depth notes h.1 r

module _ (rules : FrontRules) (late : Bool) (notes : Notes) (c : Controller) (slots : List Slot) (s : StandsAt rules late notes c slots) where
  abbrev past : Past
  past = logged notes

  abbrev k : Content
  k = s.content

  -- a region whose queue's state isn't kept holds nothing
  none_held : (r : ℕ) → k.sq_id r ≡ None → held_in past r ≡ 0
  none_held r none = by (k.sq r).queue refl where
    by : (o : Option Attachment) → (k.sq r).queue ≡ o → held_in past r ≡ 0
    by None is =
        let nothing : fetched past r ≡ [] = (s.holds.regions r).fetched_is ∙ (s.holds.queues.unopened r is).nothing_got in
        ap (λ (xs : List Sqe). count_of (λ (j : ℕ). not (is_posted past r j)) (upto (length xs))) nothing
    by (Some a) is = elim (cases_Bool (is_closed_region past r)) [
      | inl closed ↦
          let gone = s.holds.queues.gone r closed in
          let waits : length (waiting past r) ≡ 0 = ap length ((s.holds.regions r).waiting_is ∙ ap (map (λ (d : Candidate). d.index)) gone.none_waits) in
          let unposted : unposted_of past r ≡ 0 = sym (s.holds.counts.unposted r) ∙ gone.all_posted in
          let all = unposted_by past r (posted_served past k (hand_of k) s.holds.ready r) in
          let size = length-upto (length (fetched past r)) in
          omega (arith, waits, unposted, all, size, counts_all (λ (j : ℕ). is_posted past r j) (places past r))
      | inr still ↦
          let named : qid_of_region past r ≡ Some a.qid = s.holds.queues.qid_is r ∙ ap (option_map (λ (a : Attachment). a.qid)) is in
          let life = s.holds.lives.there r a.qid named still in
          let id : k.sq_id r ≡ Some a.qid = s.numbers.sqs.ids.ids_are a.qid r life in
          cc (none, id)
    ]

  -- each command that was fetched holds a slot of its region, or is posted
  all_held : all_fetches past ≤ all_posts past + sum_by (λ (r : ℕ). held_in past r) (upto (length (sq_regions_of rules)))
  all_held =
      let n = length (sq_regions_of rules) in
      let fetches = fetches-by past n (fetched_none rules late past k s.holds) in
      let posts = posts-by (λ (r : ℕ). length (fetched past r)) n past in
      let parts = sum_add (λ (r : ℕ). count_of (λ (j : ℕ). is_posted past r j) (places past r)) (λ (r : ℕ). held_in past r) (λ (r : ℕ). length (fetched past r)) n
      (λ r lt. let size = length-upto (length (fetched past r)) in omega (arith, size, counts_all (λ (j : ℕ). is_posted past r j) (places past r))) in
      omega (arith, fetches, posts, parts)

  -- the bound of each identifier bounds them all
  held_by_ids : (d : ℕ → ℕ) → ((r q : ℕ) → k.sq_id r ≡ Some q → held_in past r ≤ d q) → all_fetches past ≤ all_posts past + sum_by d (upto queue_limit)
  held_by_ids d h =
      let few = sum_ids (λ (r : ℕ). held_in past r) d k.sq_id (length (sq_regions_of rules)) queue_limit none_held
      (λ r q lt is. (h r q is, s.numbers.sqs.few q r (s.numbers.sqs.ids.lives_are r q is)))
      (λ r x q is it. same_Some r x (sym (s.numbers.sqs.ids.lives_are r q is) ∙ s.numbers.sqs.ids.lives_are x q it)) in
      omega (arith, all_held, few)

  in_depth : (depth depths : ℕ → ℕ) → EachNote (IsFetchedInDepth depth) notes → HasDepths depth depths past → (r q : ℕ) → k.sq_id r ≡ Some q → held_in past r ≤ depths q
  in_depth depth depths each has r q is =
      let life = s.numbers.sqs.ids.lives_are r q is in
      omega (arith, depth_kept depth notes each r, has r q (s.holds.lives.named q r life) (s.holds.lives.not_closed q r life))

pub depths_suffice : DepthsSuffice
depths_suffice rules late notes c slots depth depths s each has =
    held_by_ids rules late notes c slots s depths (in_depth rules late notes c slots s depth depths each has)

pub depths_leave_room : DepthsLeaveRoom
depths_leave_room rules late notes c slots depth depths qid queue s each has is_open room size =
    let past : Past = logged notes in
    let id : s.content.sq_id queue.region ≡ Some qid = s.numbers.sqs.ids.ids_are qid queue.region (s.holds.lives.sqs qid queue is_open) in
    let less : ℕ → ℕ = λ (q : ℕ). if q == qid then depths qid - 1 else depths q in
    let here : less qid ≡ depths qid - 1 = cond-true (qid == qid) (depths qid - 1) (depths qid) (eq-eqb qid qid refl) in
    let others : (q : ℕ) → (qid ≡ q → ⊥) → depths q ≡ less q = λ q other. sym (cond-false (q == qid) (depths qid - 1) (depths q) (ne_eqb q qid (λ e. other (sym e)))) in
    let few = s.numbers.sqs.few qid queue.region (s.holds.lives.sqs qid queue is_open) in
    let more = sum_more less depths qid queue_limit few others (omega (arith, here, room)) in
    let all = held_by_ids rules late notes c slots s less (λ r q is. elim (cases_eq qid q) [
      | inl same ↦
          let region : r ≡ queue.region = same_Some r queue.region (sym (s.numbers.sqs.ids.lives_are r qid (is ∙ ap (λ (y : ℕ). Some y) (sym same))) ∙ s.holds.lives.sqs qid queue is_open) in
          let at : held_in past r ≡ held_in past queue.region = ap (held_in past) region in
          subst (λ (x : ℕ). held_in past r ≤ less x) same (omega (arith, at, here, room))
      | inr other ↦ omega (arith, in_depth rules late notes c slots s depth depths each has r q is, others q other)
    ]) in
    omega (arith, all, more, size)

pub held_wait_or_are_unposted : HeldWaitOrAreUnposted
held_wait_or_are_unposted rules late notes c slots r s =
    let past : Past = logged notes in
    let all = unposted_by past r (posted_served past s.content (hand_of s.content) s.holds.ready r) in
    let size = length-upto (length (fetched past r)) in
    omega (arith, all, size, counts_all (λ (j : ℕ). is_posted past r j) (places past r))
