-- Open queues stay held as their log says, and in the classes that were set, when an event is noted.
use Rattle.std.proofs.Common.{◌≡◌, ℕ, ◌==◌, Bool, true, false, if◌then◌else◌, List, [], ◌∷◌, map, Option, Some, None, refl, sym, ap, ◌∙◌}
use Rattle.std.proofs.lemmas.Option.{same_Some}
use Rattle.nvme_arbiter.specs.Board.{BoardView}
use Rattle.nvme_arbiter.specs.declared.settings.Class.{Class}
use Rattle.nvme_admin.specs.declared.verdict.Verdict.{Verdict}
use Rattle.nvme_admin.specs.declared.verdict.Verdict.TheVariants.{Done, BeginDelete, CloseCq}
use Rattle.nvme_admin.specs.declared.verdict.Verdict.TheVariants as verdict
use Rattle.nvme_log.specs.declared.event.Event.{Event}
use Rattle.nvme_log.specs.declared.event.Event.TheVariants as event
use Rattle.nvme_log.specs.Rules.{Past}
use Rattle.nvme_log.specs.Queues.{Queue, open_sq, open_cq}
use Rattle.nvme_log.specs.Effects.{abort_in, closing_of, closed_cq_of, made_by, target_of}
use Rattle.nvme_ctrl_log.specs.Notes.{Notes, Logged, logged}
use Rattle.nvme_ctrl_log.specs.Observation.{is_held, class_set}
use Rattle.nvme_ctrl_log.specs.Steps.{with_logged}
use Rattle.nvme_ctrl_content.specs.Content.{Candidate, Content, put_held, put_class}
use Rattle.nvme_ctrl_content.specs.Shown.{HoldsShown}
use Rattle.nvme_ctrl_content.specs.Steps.{oldest_named}
use Rattle.nvme_ctrl_content.proofs.AfterSteps.{after_admin, deleting_from, aborting_from, aborting_in}
use Rattle.nvme_ctrl_log.proofs.QueueWords.{at_same, at_other}

-- a queue that is opened
abbrev opened : (region cqid : ℕ) → Class → Queue
opened region cqid class = record { region = region; cqid = cqid; class = class }

-- an event opens a submission queue
abbrev opens : Event → Bool
opens (event.OpenSq qid region cqid class) = true
opens e = false

-- another leaves them
shown_event : (e : Event) (notes : Notes) (k : Content) → opens e ≡ false → HoldsShown notes k → HoldsShown (Logged e ∷ notes) k
shown_event (event.OpenSq qid region cqid class) notes k quiet h = absurd (cc quiet)
shown_event (event.Closing qid region) notes k quiet h = record {
  held = λ q queue is. h.held q queue (still q queue (qid == q) is);
  classed = λ q queue is. h.classed q queue (still q queue (qid == q) is);
} where
  still : (q : ℕ) (queue : Queue) (b : Bool) → (if b then None else open_sq (logged notes) q) ≡ Some queue → open_sq (logged notes) q ≡ Some queue
  still q queue true is = absurd (cc is)
  still q queue false is = is
shown_event e notes k quiet h = record { held = h.held; classed = h.classed }

-- so do events of which none opens one
abbrev NoneOpens : List Event → Type 0
NoneOpens [] = Unit {0}
NoneOpens (e ∷ es) = (opens e ≡ false) × NoneOpens es

shown_events : (es : List Event) (notes : Notes) (k : Content) → NoneOpens es → HoldsShown notes k → HoldsShown (with_logged es notes) k
shown_events [] notes k quiet h = h
shown_events (e ∷ es) notes k quiet h = shown_events es (Logged e ∷ notes) k quiet.1 (shown_event e notes k quiet.0 h)

aborts_open_none : (r : ℕ) (is : List ℕ) → NoneOpens (map (λ (i : ℕ). event.Abort r i) is)
aborts_open_none r [] = tt
aborts_open_none r (i ∷ is) = (refl, aborts_open_none r is)

-- ---- what an admin command makes
module _ (past : Past) (notes : Notes) (k : Content) (candidate : Candidate) (c : ℕ) (board : BoardView) (h : HoldsShown notes k) where
  -- a queue that is opened isn't held, and no class of it was set
  shown_opened : (qid region cqid : ℕ) (class : Class) → ((q : ℕ) (other : Queue) → open_sq (logged notes) q ≡ Some other → other.region ≡ region → ⊥)
      → HoldsShown (Logged (event.OpenSq qid region cqid class) ∷ notes) (after_admin past k candidate c board (verdict.OpenSq qid region cqid class))
  shown_opened qid region cqid class apart = record {
    held = λ q queue is. held_by q queue (qid == q) is;
    classed = λ q queue is. classed_by q queue (qid == q) is;
  } where
    region_is : (queue : Queue) → Some (opened region cqid class) ≡ Some queue → queue.region ≡ region
    region_is queue is = sym (ap (λ (q : Queue). q.region) (same_Some (opened region cqid class) queue is))

    held_by : (q : ℕ) (queue : Queue) (b : Bool) → (if b then Some (opened region cqid class) else open_sq (logged notes) q) ≡ Some queue
        → put_held k.held region false queue.region ≡ (if b then false else is_held notes q)
    held_by q queue true is = at_same queue.region region false (k.held queue.region) (region_is queue is)
    held_by q queue false is = at_other queue.region region false (k.held queue.region) (apart q queue is) ∙ h.held q queue is

    classed_by : (q : ℕ) (queue : Queue) (b : Bool) → (if b then Some (opened region cqid class) else open_sq (logged notes) q) ≡ Some queue
        → put_class k.classed region None queue.region ≡ (if b then None else class_set notes q)
    classed_by q queue true is = at_same queue.region region None (k.classed queue.region) (region_is queue is)
    classed_by q queue false is = at_other queue.region region None (k.classed queue.region) (apart q queue is) ∙ h.classed q queue is

  shown_closed_cq : (qid : ℕ) (o : Option ℕ) → HoldsShown (with_logged (closed_cq_of qid o) notes) (after_admin past k candidate c board (CloseCq qid))
  shown_closed_cq qid None = record { held = h.held; classed = h.classed }
  shown_closed_cq qid (Some region) = record { held = h.held; classed = h.classed }

  shown_deleting : (qid : ℕ) (o : Option Queue) → HoldsShown (with_logged (closing_of past qid o) notes) (deleting_from k qid c candidate o)
  shown_deleting qid None = record { held = h.held; classed = h.classed }
  shown_deleting qid (Some queue) =
      shown_events (closing_of past qid (Some queue)) notes (deleting_from k qid c candidate (Some queue)) (refl, aborts_open_none queue.region _)
      (record { held = h.held; classed = h.classed })

  shown_found : (queue : Queue) (sqid cid : ℕ) (o : Option Candidate) → HoldsShown notes (aborting_in k candidate sqid queue.region c cid board o)
  shown_found queue sqid cid None = record { held = h.held; classed = h.classed }
  shown_found queue sqid cid (Some found) = record { held = h.held; classed = h.classed }

  shown_aborting : (sqid cid : ℕ) (o : Option Queue) → HoldsShown (with_logged (abort_in past cid o) notes) (aborting_from k candidate sqid c cid board o)
  shown_aborting sqid cid None = record { held = h.held; classed = h.classed }
  shown_aborting sqid cid (Some queue) =
      shown_events (abort_in past cid (Some queue)) notes (aborting_from k candidate sqid c cid board (Some queue)) (aborts_open_none queue.region _)
      (shown_found queue sqid cid (oldest_named cid (k.sq queue.region).window))

  -- no open queue has the region of a queue that is opened
  abbrev pub OpensApart : Verdict → Type 0
  OpensApart (verdict.OpenSq qid region cqid class) = (q : ℕ) (other : Queue) → open_sq (logged notes) q ≡ Some other → other.region ≡ region → ⊥
  OpensApart v = Unit {0}

  pub shown_verdict : (v : Verdict) → OpensApart v → HoldsShown (with_logged (made_by past v) notes) (after_admin past k candidate c board v)
  shown_verdict (Done status dw0) apart = record { held = h.held; classed = h.classed }
  shown_verdict (verdict.OpenSq qid region cqid class) apart = shown_opened qid region cqid class apart
  shown_verdict (verdict.OpenCq qid region) apart = record { held = h.held; classed = h.classed }
  shown_verdict (verdict.SetArbitration settings) apart = record { held = h.held; classed = h.classed }
  shown_verdict (CloseCq qid) apart = shown_closed_cq qid (open_cq past qid)
  shown_verdict (BeginDelete qid) apart = shown_deleting qid (open_sq past qid)
  shown_verdict (verdict.Abort sqid cid) apart = shown_aborting sqid cid (target_of past sqid)
