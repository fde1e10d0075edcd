-- What the effect of an admin entry says beyond its verdict: the regions of the queues that it is about.
-- (Base Specification, Create and Delete I/O Submission and Completion Queue; regions: profile)
use Rattle.std.specs.Prelude.{◌≡◌, Some, IsSomeAnd}
use Rattle.nvme_admin.specs.declared.effect.Effect.{Effect}
use Rattle.nvme_admin.specs.declared.effect.Effect.TheVariants.{Done, OpenSq, OpenCq, BeginDelete, CloseCq, Abort, SetArbitration}
use Rattle.nvme_admin.specs.declared.verdict.Verdict.{Verdict}
use Rattle.nvme_admin.specs.declared.verdict.Verdict.TheVariants as verdict
use Rattle.nvme_admin.specs.Standing.{TableView, sq_of, cq_of}

-- the verdict in an effect
abbrev pub verdict_in : Effect → Verdict
verdict_in (Done status dw0) = verdict.Done status dw0
verdict_in (OpenSq qid region cqid cq_region class) = verdict.OpenSq qid region cqid class
verdict_in (OpenCq qid region) = verdict.OpenCq qid region
verdict_in (BeginDelete qid region) = verdict.BeginDelete qid
verdict_in (CloseCq qid region) = verdict.CloseCq qid
verdict_in (Abort sqid cid) = verdict.Abort sqid cid
verdict_in (SetArbitration settings) = verdict.SetArbitration settings

-- the regions in an effect are those of the queues of the table before it: that of a deleted queue, and that of the
-- completion queue of a new submission queue. The region of a new queue is in the verdict
abbrev pub NamesRegions : TableView → Effect → Type 0
NamesRegions before (OpenSq qid region cqid cq_region class) = cq_of before cqid ≡ Some cq_region
NamesRegions before (BeginDelete qid region) = IsSomeAnd (sq_of before qid) (λ queue. queue.region ≡ region)
NamesRegions before (CloseCq qid region) = cq_of before qid ≡ Some region
NamesRegions before effect = Unit {0}
