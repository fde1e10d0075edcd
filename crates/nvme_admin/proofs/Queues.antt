-- What an open queue's Create found, for as long as the queue is there.
use Rattle.std.proofs.Common.{◌≡◌, ℕ, zero, suc, ◌+◌, ◌≤◌, ◌==◌, ◌⊎◌, Bool, true, false, if◌then◌else◌, List, [], ◌∷◌, ◌++◌, length, Option, Some, None, refl, sym, ◌∙◌, ap, subst, inl, inr, unwrap_or, slice_get, eqb-true}
use Rattle.std.proofs.lemmas.Option.{none-some, same_Some}
use Rattle.nvme_entry.specs.declared.admin.AdminCommand.{AdminCommand}
use Rattle.nvme_entry.specs.declared.admin.AdminCommand.TheVariants.{DeleteSq, CreateSq, DeleteCq, CreateCq, Abort, SetFeatures, GetFeatures, Other}
use Rattle.nvme_admin.specs.declared.region.Region.{Region}
use Rattle.nvme_admin.specs.declared.verdict.SqEntry.{SqEntry}
use Rattle.nvme_admin.specs.History.{Start, TableHistory, Placing, Kind, Submission, Completion, Effects, Added, Accepted}
use Rattle.nvme_admin.specs.QueueTable.{table_in, number_by, placing_in, io_sq_in, io_cq_in, sq_regions_in, cq_regions_in, sq_named_in, cq_named_in, first_request_in, created_in, nsq_by, ncq_by}
use Rattle.nvme_admin.specs.Accepted.{effects_of, queue_table}
use Rattle.nvme_admin.specs.Laws.{SqsAreAllotted, CqsAreAllotted, sq_asked_in, cq_asked_in, SqsHaveTheirRegions, CqsHaveTheirRegions}
use Rattle.nvme_admin.proofs.Slots.{sq_in-io, cq_in-io}
use Rattle.nvme_admin.proofs.Reached.{Passes, reached, create_sq-found, create_cq-found, create_sq-asked, create_cq-asked}
use Rattle.nvme_admin.proofs.LawLemmas.{closing-back, finished-back, region-back, fixed-step}

-- what a choice holds comes from one side
of-choice : {A : Type 0} (b : Bool) (x : A) (o : Option A) (y : A) → (if b then Some x else o) ≡ Some y → ((b ≡ true) × (x ≡ y)) ⊎ ((b ≡ false) × (o ≡ Some y))
of-choice true x o y h = inl (refl, same_Some x y h)
of-choice false x o y h = inr (refl, h)

unless-closed : {A : Type 0} (b : Bool) (o : Option A) (y : A) → (if b then None else o) ≡ Some y → o ≡ Some y
unless-closed true o y h = absurd (none-some y h)
unless-closed false o y h = h

-- ---- identifiers
-- a Create was accepted, and the identifier is at most the allotted number
abbrev SqAllotted : Start → Effects → ℕ → Type 0
SqAllotted start e q = (created_in e ≡ true) × (q ≤ nsq_by start (first_request_in e))

abbrev CqAllotted : Start → Effects → ℕ → Type 0
CqAllotted start e q = (created_in e ≡ true) × (q ≤ ncq_by start (first_request_in e))

abbrev AreAllotted : Start → Effects → Type 0
AreAllotted start e = ((q : ℕ) (queue : SqEntry) → io_sq_in e q ≡ Some queue → SqAllotted start e q) × ((q k : ℕ) → io_cq_in e q ≡ Some k → CqAllotted start e q)

module _ (start : Start) where
  -- a request after a Create changes no number
  allotted-set : (e : Effects) (fid : ℕ) (sv : Bool) (cdw11 : ℕ) → AreAllotted start e → Passes (table_in start e) (SetFeatures fid sv cdw11) → AreAllotted start (Accepted (SetFeatures fid sv cdw11) ∷ e)
  allotted-set e fid sv cdw11 p passes = (
    (λ q queue h.
        let a = p.0 q queue h in
        (a.0, subst (λ (o : Option ℕ). q ≤ nsq_by start o) (sym (fixed-step start e (SetFeatures fid sv cdw11) (inr a.0) passes).1) a.1)),
    (λ q k h.
        let a = p.1 q k h in
        (a.0, subst (λ (o : Option ℕ). q ≤ ncq_by start o) (sym (fixed-step start e (SetFeatures fid sv cdw11) (inr a.0) passes).1) a.1)),
  )

  allotted-step : (e : Effects) (command : AdminCommand) → AreAllotted start e → Passes (table_in start e) command → AreAllotted start (Accepted command ∷ e)
  allotted-step e (CreateSq qid qsize prp1 cqid qprio pc) p passes =
      let found = create_sq-found (table_in start e) qid qsize prp1 cqid qprio pc passes in (
        (λ q queue h. elim (of-choice (qid == q) _ (io_sq_in e q) queue h) [
          | inl own ↦ (refl, subst (λ (n : ℕ). n ≤ nsq_by start (first_request_in e)) (eqb-true qid q own.0) found.in_range)
          | inr before ↦ (refl, (p.0 q queue before.1).1)
        ]),
        (λ q k h. (refl, (p.1 q k h).1)),
      )
  allotted-step e (CreateCq qid qsize prp1 pc) p passes =
      let found = create_cq-found (table_in start e) qid qsize prp1 pc passes in (
        (λ q queue h. (refl, (p.0 q queue h).1)),
        (λ q k h. elim (of-choice (qid == q) _ (io_cq_in e q) k h) [
          | inl own ↦ (refl, subst (λ (n : ℕ). n ≤ ncq_by start (first_request_in e)) (eqb-true qid q own.0) found.in_range)
          | inr before ↦ (refl, (p.1 q k before.1).1)
        ]),
      )
  allotted-step e (DeleteSq qid) p passes = (
    (λ q queue h. let back = closing-back (qid == q) (io_sq_in e q) queue h in p.0 q back.0 back.1),
    p.1,
  )
  allotted-step e (DeleteCq qid) p passes = (p.0, (λ q k h. p.1 q k (unless-closed (qid == q) (io_cq_in e q) k h)))
  allotted-step e (SetFeatures fid sv cdw11) p passes = allotted-set e fid sv cdw11 p passes
  allotted-step e (GetFeatures fid) p passes = p
  allotted-step e (Abort sqid cid) p passes = p
  allotted-step e Other p passes = p

  allotted : (h : TableHistory) → AreAllotted start (effects_of start h)
  allotted h =
      reached start (AreAllotted start)
      ((λ q queue none. absurd (none-some queue none)), (λ q k none. absurd (none-some k none)))
      (λ e kind address slots p. p)
      allotted-step
      (λ e qid p. ((λ q queue after. p.0 q queue (finished-back (qid == q) (io_sq_in e q) queue after)), p.1))
      (λ e placing p. p)
      h

pub sqs-are_allotted : SqsAreAllotted
unfolding queue_table
sqs-are_allotted start h q queue io is = ((allotted start h).0 q queue (sym (sq_in-io (effects_of start h) q io) ∙ is)).1

pub cqs-are_allotted : CqsAreAllotted
unfolding queue_table
cqs-are_allotted start h q k io is = ((allotted start h).1 q k (sym (cq_in-io (effects_of start h) q io) ∙ is)).1

-- ---- regions
abbrev HasRegion : Option Region → List Region → ℕ → Type 0
HasRegion asked regions k = (r : Region) × (asked ≡ Some r) × (slice_get regions k ≡ Some r)

abbrev HaveRegions : Effects → Type 0
HaveRegions e = ((q : ℕ) (queue : SqEntry) → io_sq_in e q ≡ Some queue → HasRegion (sq_asked_in e q) (sq_regions_in e) queue.region)
    × ((q k : ℕ) → io_cq_in e q ≡ Some k → HasRegion (cq_asked_in e q) (cq_regions_in e) k)

more : {A : Type 0} (xs ys : List A) (k : ℕ) (x : A) → slice_get xs k ≡ Some x → slice_get (xs ++ ys) k ≡ Some x
more [] ys k x h = absurd (none-some x h)
more (y ∷ xs) ys zero x h = h
more (y ∷ xs) ys (suc k) x h = more xs ys k x h

regions-added : (e : Effects) (kind : Kind) (address slots : ℕ) → HaveRegions e → HaveRegions (Added kind address slots ∷ e)
regions-added e Submission address slots p = (
  (λ q queue h. let a = p.0 q queue h in (a.0, a.1, more (sq_regions_in e) _ queue.region a.0 a.2)),
  p.1,
)
regions-added e Completion address slots p = (
  p.0,
  (λ q k h. let a = p.1 q k h in (a.0, a.1, more (cq_regions_in e) _ k a.0 a.2)),
)

-- the own Create of an identifier, and one of another identifier
region-own : (b : Bool) (x : Region) (o : Option Region) (regions : List Region) (k : ℕ) → b ≡ true → slice_get regions k ≡ Some x → HasRegion (if b then Some x else o) regions k
region-own b x o regions k own at = (x, (λ i. if own i then Some x else o), at)

region-other : (b : Bool) (x : Region) (o : Option Region) (regions : List Region) (k : ℕ) → b ≡ false → HasRegion o regions k → HasRegion (if b then Some x else o) regions k
region-other b x o regions k apart a = (a.0, (λ i. if apart i then Some x else o) ∙ a.1, a.2)

-- where queues lie on regions after a step that says otherwise, they did before it
on-regions : (b : Bool) (o : Option Placing) (p : Placing) → (if b then o else Some p) ≡ None → o ≡ None
on-regions true o p h = h
on-regions false o p h = absurd (none-some p (sym h))

module _ (start : Start) where
  has_regions-step : (e : Effects) (command : AdminCommand) → placing_in e ≡ None → HaveRegions e → Passes (table_in start e) command → HaveRegions (Accepted command ∷ e)
  has_regions-step e (CreateSq qid qsize prp1 cqid qprio pc) by_regions p passes =
      let found = create_sq-asked (table_in start e) qid qsize prp1 cqid qprio pc by_regions passes in
      let is : unwrap_or (number_by (placing_in e) (length (sq_named_in e)) (sq_regions_in e) prp1) 0 ≡ found.0 = ap (λ (o : Option ℕ). unwrap_or o 0) found.1 in (
        (λ q queue h. elim (of-choice (qid == q) _ (io_sq_in e q) queue h) [
          | inl own ↦ region-own (qid == q) _ (sq_asked_in e q) (sq_regions_in e) queue.region own.0
              (subst (λ (n : ℕ). slice_get (sq_regions_in e) n ≡ Some (record { address = prp1; slots = qsize + 1 })) (sym is ∙ ap (λ (x : SqEntry). x.region) own.1) found.2)
          | inr before ↦ region-other (qid == q) _ (sq_asked_in e q) (sq_regions_in e) queue.region before.0 (p.0 q queue before.1)
        ]),
        p.1,
      )
  has_regions-step e (CreateCq qid qsize prp1 pc) by_regions p passes =
      let found = create_cq-asked (table_in start e) qid qsize prp1 pc by_regions passes in
      let is : unwrap_or (number_by (placing_in e) (length (cq_named_in e)) (cq_regions_in e) prp1) 0 ≡ found.0 = ap (λ (o : Option ℕ). unwrap_or o 0) found.1 in (
        p.0,
        (λ q k h. elim (of-choice (qid == q) _ (io_cq_in e q) k h) [
          | inl own ↦ region-own (qid == q) _ (cq_asked_in e q) (cq_regions_in e) k own.0
              (subst (λ (n : ℕ). slice_get (cq_regions_in e) n ≡ Some (record { address = prp1; slots = qsize + 1 })) (sym is ∙ own.1) found.2)
          | inr before ↦ region-other (qid == q) _ (cq_asked_in e q) (cq_regions_in e) k before.0 (p.1 q k before.1)
        ]),
      )
  has_regions-step e (DeleteSq qid) by_regions p passes = (
    (λ q queue h.
        let back = region-back (qid == q) (io_sq_in e q) queue h in
        subst (HasRegion (sq_asked_in e q) (sq_regions_in e)) back.2 (p.0 q back.0 back.1)),
    p.1,
  )
  has_regions-step e (DeleteCq qid) by_regions p passes = (p.0, (λ q k h. p.1 q k (unless-closed (qid == q) (io_cq_in e q) k h)))
  has_regions-step e (SetFeatures fid sv cdw11) by_regions p passes = p
  has_regions-step e (GetFeatures fid) by_regions p passes = p
  has_regions-step e (Abort sqid cid) by_regions p passes = p
  has_regions-step e Other by_regions p passes = p

  has_regions : (h : TableHistory) → placing_in (effects_of start h) ≡ None → HaveRegions (effects_of start h)
  has_regions h =
      reached start (λ e. placing_in e ≡ None → HaveRegions e)
      (λ by_regions. ((λ q queue none. absurd (none-some queue none)), (λ q k none. absurd (none-some k none))))
      (λ e kind address slots p by_regions. regions-added e kind address slots (p by_regions))
      (λ e command p passes by_regions. has_regions-step e command by_regions (p by_regions) passes)
      (λ e qid p by_regions. ((λ q queue after. (p by_regions).0 q queue (finished-back (qid == q) (io_sq_in e q) queue after)), (p by_regions).1))
      (λ e placing p by_regions. p (on-regions (created_in e) (placing_in e) placing by_regions))
      h

pub sqs-have_their_regions : SqsHaveTheirRegions
unfolding queue_table
sqs-have_their_regions start h q queue by_regions io is = (has_regions start h by_regions).0 q queue (sym (sq_in-io (effects_of start h) q io) ∙ is)

pub cqs-have_their_regions : CqsHaveTheirRegions
unfolding queue_table
cqs-have_their_regions start h q k by_regions io is = (has_regions start h by_regions).1 q k (sym (cq_in-io (effects_of start h) q io) ∙ is)
