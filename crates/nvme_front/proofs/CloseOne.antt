-- The end of a deletion: what it waits for, and what it leaves.
use Rattle.std.proofs.Common.{◌≡◌, ◌≢◌, ℕ, ◌+◌, ◌<◌, ◌≤◌, ◌&&◌, nat_lt, not, Bool, List, [], ◌∷◌, ◌++◌, length, map, get_or, Some, refl, sym, ap, ◌∙◌, subst, arith, inl}
use Rattle.std.specs.Prelude.{filter, reverse}
use Rattle.std.proofs.lemmas.Bool.{and_parts, and_from, lt-ltb, not-true}
use Rattle.std.proofs.lemmas.List.{length_push}
use Rattle.nvme_entry.specs.Status.{success}
use Rattle.nvme_lane.specs.View.{PutView}
use Rattle.nvme_entry.specs.declared.completion.Cqe.{Cqe}
use Rattle.nvme_log.specs.declared.event.Event.{Event}
use Rattle.nvme_log.specs.declared.event.Event.TheVariants.{ClosedSq}
use Rattle.nvme_log.specs.Completions.{is_posted, posted_to, unposted_of}
use Rattle.nvme_log.specs.Places.{fetched, places, fate_of, is_waiting}
use Rattle.nvme_log.specs.Queues.{Deletion, pending}
use Rattle.nvme_log.specs.Rules.{Past}
use Rattle.nvme_log.proofs.Members.{IsIn, in-all, in-filter}
use Rattle.nvme_log.proofs.Waiting.{upto-below}
use Rattle.nvme_ctrl_log.specs.Notes.{Notes, Logged, Answered, logged}
use Rattle.nvme_engine.specs.Calls.{HasFinished}
use Rattle.nvme_engine.specs.Standing.{StandsAt}
use Rattle.nvme_jobs.specs.inside.Standing.{HoldsJobs}
use Rattle.nvme_jobs.proofs.Leaving.{jobs-other}
use Rattle.nvme_front.specs.declared.region.SqRegion.{SqRegion}
use Rattle.nvme_front.specs.declared.state.FrontState.{FrontState}
use Rattle.nvme_front.specs.View.{HasUnposted}
use Rattle.nvme_front.specs.inside.State.{gets_of, rules_of, past_of}
use Rattle.nvme_front.specs.inside.Room.{IsConsistent, IsRunning}
use Rattle.nvme_front.specs.inside.Goes.{Goes, HasAdmin}
use Rattle.nvme_front.proofs.States.{Goes-log, past-push, kept_after, rules-goes}
use Rattle.nvme_front.proofs.TagSteps.{KeepsOuts, tags_kept, outs_answered}

-- ---- what a deletion waits for
-- a list that isn't empty has an item
record HasItem (xs : List ℕ) : Type 0 where
  item : ℕ
  inside : IsIn item xs

has_item : (xs : List ℕ) → length xs ≢ 0 → HasItem xs
has_item [] some = absurd (some refl)
has_item (x ∷ xs) some = record { item = x; inside = inl refl }

-- where places of a region aren't posted, one isn't
pub has_unposted : (past : Past) (r : ℕ) → unposted_of past r ≢ 0 → HasUnposted past r
has_unposted past r some =
    let test : ℕ → Bool = λ (i : ℕ). not (is_waiting (fate_of past r i)) && not (is_posted past r i) in
    let it = has_item (filter test (places past r)) some in
    let at = in-filter test it.item (places past r) it.inside in
    let parts = and_parts (not (is_waiting (fate_of past r it.item))) (not (is_posted past r it.item)) at.1 in
    record {
      index = it.item;
      served = and_from (nat_lt it.item (length (fetched past r))) (not (is_waiting (fate_of past r it.item)))
          (lt-ltb it.item (length (fetched past r)) (in-all (λ (i : ℕ). i < length (fetched past r)) it.item (places past r) (upto-below (length (fetched past r))) at.0)) parts.0;
      unposted = not-true (is_posted past r it.item) parts.1;
    }

-- the pending deletion of a front waits for such a place
pub waits_for : (s : FrontState) (k : IsRunning s) → ((d : Deletion) → pending (logged k.notes) ≡ Some d → unposted_of (logged k.notes) d.region ≢ 0)
    → (d : Deletion) → pending (past_of s) ≡ Some d → HasUnposted (past_of s) d.region
waits_for s k none d is =
    subst (λ (p : Past). HasUnposted p d.region) k.past_is
    (has_unposted (logged k.notes) d.region (none d (ap pending k.past_is ∙ is)))

-- ---- a front after the end of a deletion
pub record IsClosed (a b : FrontState) (k : IsRunning a) (d : Deletion) : Type 0 where
  pub finished : HasFinished (rules_of a) a.late k.notes d b.engine
  pub log : b.log.items ≡ a.log.items ++ ClosedSq d.qid d.region ∷ []
  pub room : length a.log.items + 1 ≤ a.config.max_events
  pub sqs : b.sqs.items ≡ a.sqs.items
  pub cqs : b.cqs.items ≡ a.cqs.items
  pub jobs : b.jobs ≡ a.jobs
  pub late : b.late ≡ a.late
  pub config : b.config ≡ a.config
  pub alloc : b.alloc ≡ a.alloc

module _ (a b : FrontState) (k : IsRunning a) (d : Deletion) (h : IsClosed a b k d) where
  -- it is the same front
  pub closed-goes : Goes a b
  closed-goes = Goes-log a b (ClosedSq d.qid d.region ∷ []) h.log h.config h.alloc h.late h.sqs h.cqs h.jobs

  closed-past : past_of b ≡ ClosedSq d.qid d.region ∷ past_of a
  closed-past = ap (λ (xs : List Event). reverse xs) h.log ∙ past-push a.log.items (ClosedSq d.qid d.region)

  -- its engine stands at its log
  closed-runs : IsRunning b
  closed-runs =
      let rules : rules_of b ≡ rules_of a = rules-goes a b closed-goes in
      let spaces : b.config.spaces ≡ a.config.spaces = ap (λ z. z.spaces) h.config in
      let before : Notes = Logged (ClosedSq d.qid d.region) ∷ k.notes in
      let notes : Notes = Answered 0 h.finished.index (record { status = success; dw0 = 0 }) ∷ before in
      let stands : StandsAt (rules_of a) a.late notes b.engine = h.finished.stands in
      let jobs : HoldsJobs a.config.spaces (ClosedSq d.qid d.region ∷ past_of a) a.jobs = jobs-other a.config.spaces (past_of a) (ClosedSq d.qid d.region) a.jobs tt k.jobs in
      let outs : KeepsOuts k.notes (Answered 0 h.finished.index (record { status = success; dw0 = 0 }) ∷ k.notes) =
      outs_answered (rules_of a) a.late k.notes a.engine k.stands h.finished.index (record { status = success; dw0 = 0 }) in
      record {
        notes = notes;
        stands = rw (rules, h.late) stands;
        past_is = ap (λ (q : Past). ClosedSq d.qid d.region ∷ q) k.past_is ∙ sym closed-past;
        got = λ r. ap (λ (q : Past). fetched q r) closed-past ∙ k.got r ∙ ap (λ (sqs : List SqRegion). get_or (map (λ g. g.got) (gets_of sqs)) r []) (sym h.sqs);
        sent = λ x. ap (λ (q : Past). posted_to q x) closed-past ∙ k.sent x ∙ ap (λ (cqs : List (PutView Cqe)). get_or (map (λ (p : PutView Cqe). p.sent) cqs) x []) (sym h.cqs);
        counted = rw h.sqs k.counted;
        jobs = rw (spaces, closed-past, h.jobs) jobs;
        tags = rw h.jobs (tags_kept k.notes notes a.jobs a.jobs (record { outs = outs.outs; held = outs.held }) refl k.tags);
      }

  -- and it is kept
  pub closed-kept : IsConsistent a → HasAdmin a → IsConsistent b
  closed-kept kept admin =
      let long : length b.log.items ≡ length a.log.items + 1 = ap (λ (xs : List Event). length xs) h.log ∙ length_push a.log.items (ClosedSq d.qid d.region) in
      let few : length b.log.items ≤ b.config.max_events = rw h.config (let room = h.room in omega (arith, long, room)) in
      kept_after a b admin kept.roomy closed-goes few closed-runs
