-- How many commands were fetched and have no completion posted: those that wait, those that are outstanding, and those that were aborted with their queue.
use Rattle.std.proofs.Common.{◌≡◌, ℕ, zero, suc, ◌+◌, ◌≤◌, ◌==◌, ◌&&◌, ◌||◌, not, nat_lt, Bool, true, false, List, [], ◌∷◌, length, sum_by, Option, Some, None, option_map, refl, sym, ap, ◌∙◌, arith, inl, inr}
use Rattle.std.proofs.lemmas.Bool.{cases_lt, ne_eqb, and_parts, not-true}
use Rattle.std.proofs.lemmas.List.{length_push}
use Rattle.nvme_log.specs.declared.event.Event.TheVariants.{Fetch, Post}
use Rattle.nvme_log.specs.Aborts.{is_abort_requested, is_aborted_with_queue}
use Rattle.nvme_log.specs.Completions.{is_posted, takes_place, outstanding, unposted_of}
use Rattle.nvme_log.specs.Laws.{count_of}
use Rattle.nvme_log.specs.Places.{fetched, waiting, places, picked, is_aborted, unaborted_below, fate_of, is_waiting, is_picked, one_if}
use Rattle.nvme_log.specs.Rules.{FrontRules, Past, upto, sq_regions_of}
use Rattle.nvme_log.proofs.Counting.{count_of-cons, count_of-push, counts_same, counts_less, counts_below, counts_change, fate_by}
use Rattle.nvme_log.proofs.Waiting.{fetched-fetch, fetched-fetch_other}
use Rattle.nvme_ctrl_log.specs.Laws.{HoldsFewSlots, NoneDeleting, all_waiting, all_dropped}
use Rattle.nvme_ctrl.specs.Laws.{FewHoldSlots}
use Rattle.nvme_ctrl_log.specs.Notes.{logged}
use Rattle.nvme_ctrl_log.specs.Tags.{all_fetches, all_posts}
use Rattle.nvme_ctrl_content.specs.Content.{Attachment, PendingDelete, Content}
use Rattle.nvme_ctrl_content.specs.Standing.{Holds, hand_of}
use Rattle.nvme_ctrl_content.proofs.FewUnposted.{aborted-posted}
use Rattle.nvme_ctrl_log.proofs.FurtherAccounts.{not_empty, fetched-before}
use Rattle.nvme_ctrl_content.proofs.PostedPlaces.{posted_places, posted_served, unposted_by}
use Rattle.nvme_ctrl_log.proofs.OutstandingPlaces.{outstanding_of}
use Rattle.nvme_ctrl_log.proofs.Sums.{sum_less, sum_add, sum_none, sum_step, sum_more, at_most}

-- ---- fetches and posts by region
-- all that was fetched was fetched of some region
pub fetches-by : (past : Past) (n : ℕ) → ((r : ℕ) → n ≤ r → fetched past r ≡ []) → all_fetches past ≡ sum_by (λ (r : ℕ). length (fetched past r)) (upto n)
fetches-by [] n h = sym (sum_none (λ (r : ℕ). 0) n (λ r. refl))
fetches-by (Fetch region i entry ∷ past) n h =
    let rest = fetches-by past n (λ r beyond. fetched-before (Fetch region i entry) past r (h r beyond)) in
    elim (cases_lt region n) [
      | inl below ↦
          let more = sum_more (λ (r : ℕ). length (fetched past r)) (λ (r : ℕ). length (fetched (Fetch region i entry ∷ past) r)) region n below
          (λ r other. ap length (fetched-fetch_other past region i entry r other))
          (ap length (fetched-fetch past region i entry) ∙ length_push (fetched past region) entry) in
          omega (arith, rest, more)
      | inr beyond ↦ absurd (not_empty (fetched past region) entry (sym (fetched-fetch past region i entry) ∙ h region beyond))
    ]
fetches-by (e ∷ past) n h = fetches-by past n (λ r beyond. fetched-before e past r (h r beyond))

-- a test that passes one index more
count_step : (t u : ℕ → Bool) (i n : ℕ) → ((j : ℕ) → (i ≡ j → ⊥) → u j ≡ t j) → count_of u (upto n) ≤ count_of t (upto n) + 1
count_step t u i n h = elim (cases_lt i n) [
  | inl below ↦ omega (arith, counts_change t u i n below h, at_most (u i))
  | inr beyond ↦ omega (arith, counts_below t u n (λ j lt. h j (λ e. omega (arith, e, lt, beyond))))
]

count_false : (n : ℕ) → count_of (λ (i : ℕ). false) (upto n) ≡ 0
count_false zero = refl
count_false (suc n) = omega (arith, count_of-push (λ (i : ℕ). false) (upto n) n, count_false n)

-- of some places, no more are posted than completions were
pub posts-by : (m : ℕ → ℕ) (n : ℕ) (past : Past) → sum_by (λ (r : ℕ). count_of (λ (i : ℕ). is_posted past r i) (upto (m r))) (upto n) ≤ all_posts past
posts-by m n [] = let none = sum_none (λ (r : ℕ). count_of (λ (i : ℕ). false) (upto (m r))) n (λ r. count_false (m r)) in omega (arith, none)
posts-by m n (Post c r0 i0 cqe ∷ past) =
    let rest = posts-by m n past in
    let before : ℕ → ℕ = λ (r : ℕ). count_of (λ (i : ℕ). is_posted past r i) (upto (m r)) in
    let after : ℕ → ℕ = λ (r : ℕ). count_of (λ (i : ℕ). is_posted (Post c r0 i0 cqe ∷ past) r i) (upto (m r)) in
    let step = sum_step before after r0 n
    (λ r other. counts_same (λ (i : ℕ). is_posted past r i) (λ (i : ℕ). is_posted (Post c r0 i0 cqe ∷ past) r i)
    (λ i. ap (λ (b : Bool). (b && i0 == i) || is_posted past r i) (ne_eqb r0 r other)) (upto (m r)))
    (count_step (λ (i : ℕ). is_posted past r0 i) (λ (i : ℕ). is_posted (Post c r0 i0 cqe ∷ past) r0 i) i0 (m r0)
    (λ j other. no_index (r0 == r0) (i0 == j) (is_posted past r0 j) (ne_eqb i0 j other))) in
    omega (arith, rest, step)
  where
    no_index : (a b p : Bool) → b ≡ false → ((a && b) || p) ≡ p
    no_index true true p e = cc e
    no_index true false p e = refl
    no_index false b p e = refl
posts-by m n (e ∷ past) = posts-by m n past

-- ---- unposted places
-- how many places of a region that were aborted with their queue have no completion posted
abbrev deleted_of : Past → ℕ → ℕ
deleted_of past r = count_of (λ (i : ℕ). is_aborted_with_queue past r i && not (is_posted past r i)) (places past r)

-- a test that passes where one of two others does
counts_either : (t u v : ℕ → Bool) → ((i : ℕ) → one_if (v i) ≤ one_if (t i) + one_if (u i)) → (is : List ℕ) → count_of v is ≤ count_of t is + count_of u is
counts_either t u v h [] = omega arith
counts_either t u v h (i ∷ is) = omega (arith, count_of-cons t i is, count_of-cons u i is, count_of-cons v i is, h i, counts_either t u v h is)

-- an unposted place is outstanding, or was aborted with its queue
either : (a b q p : Bool) → one_if (not (is_waiting (fate_by a b)) && not p) ≤ one_if ((is_picked (fate_by a b) || q) && not p) + one_if ((a && not q) && not p)
either true b true true = omega arith
either true b true false = omega arith
either true b false true = omega arith
either true b false false = omega arith
either false true q p = omega arith
either false false q p = omega arith

unposted_either : (past : Past) (r : ℕ) → unposted_of past r ≤ outstanding_of past r + deleted_of past r
unposted_either past r =
    counts_either (λ (i : ℕ). takes_place past r i && not (is_posted past r i)) (λ (i : ℕ). is_aborted_with_queue past r i && not (is_posted past r i))
    (λ (i : ℕ). not (is_waiting (fate_of past r i)) && not (is_posted past r i))
    (λ i. either (is_aborted past r i) (nat_lt (unaborted_below past r i) (picked past r)) (is_abort_requested past r i) (is_posted past r i)) (places past r)

module _ (rules : FrontRules) (late : Bool) (past : Past) (k : Content) (s : Holds rules late past k) where
  abbrev number : ℕ
  number = length (sq_regions_of rules)

  abbrev size : ℕ → ℕ
  size r = length (fetched past r)

  -- nothing was fetched of a region that isn't there
  pub fetched_none : (r : ℕ) → number ≤ r → fetched past r ≡ []
  fetched_none r beyond = (s.regions r).fetched_is ∙ by (k.sq r).queue refl where
    by : (o : Option Attachment) → (k.sq r).queue ≡ o → (k.sq r).got ≡ []
    by None is = (s.queues.unopened r is).nothing_got
    by (Some a) is = absurd (omega (arith, s.queues.sq_there r a is, s.tabled.sq_number, beyond))

  -- where no queue is being deleted, there are none
  none_deleted : ((r : ℕ) → k.deletion r ≡ None) → all_dropped rules past ≡ 0
  none_deleted none = sum_none (λ (r : ℕ). deleted_of past r) number (λ r.
      let less = counts_less (λ (i : ℕ). is_aborted_with_queue past r i && not (is_posted past r i)) (λ (i : ℕ). false)
      (λ i e. let parts = and_parts (is_aborted_with_queue past r i) (not (is_posted past r i)) e in
      absurd (aborted-posted past k r i s.regions s.ready s.hand.each s.deletion (none r) parts.0 (not-true (is_posted past r i) parts.1))) (places past r) in
      omega (arith, less, count_false (size r)))

  -- what is fetched and not posted waits, is outstanding, or was aborted with its queue
  held_by_few : all_fetches past ≤ all_posts past + all_waiting rules past + all_dropped rules past + outstanding rules past
  held_by_few =
      let fetches = fetches-by past number fetched_none in
      let posts = posts-by (λ (r : ℕ). size r) number past in
      let all = sum_add (λ (r : ℕ). length (waiting past r) + unposted_of past r) (λ (r : ℕ). posted_places past r) (λ (r : ℕ). size r) number
      (λ r lt. sym (unposted_by past r (posted_served past k (hand_of k) s.ready r))) in
      let unposted = sum_add (λ (r : ℕ). length (waiting past r)) (λ (r : ℕ). unposted_of past r) (λ (r : ℕ). length (waiting past r) + unposted_of past r) number (λ r lt. refl) in
      let parts = sum_less (λ (r : ℕ). outstanding_of past r + deleted_of past r) (λ (r : ℕ). unposted_of past r) number (λ r lt. unposted_either past r) in
      let two = sum_add (λ (r : ℕ). outstanding_of past r) (λ (r : ℕ). deleted_of past r) (λ (r : ℕ). outstanding_of past r + deleted_of past r) number (λ r lt. refl) in
      omega (arith, fetches, posts, all, unposted, parts, two)

  -- no deletion of a region is kept, where no queue is being deleted
  pub not_deleted : NoneDeleting past → (r : ℕ) → k.deletion r ≡ None
  not_deleted none r = no_deletion (k.deletion r) (sym (s.deletion.place_is r) ∙ none r) where
    no_deletion : (o : Option PendingDelete) → option_map (λ (d : PendingDelete). d.place.index) o ≡ None → o ≡ None
    no_deletion None e = refl
    no_deletion (Some d) e = cc

  pub few_held : HoldsFewSlots rules past
  few_held = record {
    always = held_by_few;
    none_deleting = λ none. omega (arith, held_by_few, none_deleted (not_deleted none));
  }

pub few_hold_slots : FewHoldSlots
few_hold_slots rules late notes c slots s = few_held rules late (logged notes) s.content s.holds
