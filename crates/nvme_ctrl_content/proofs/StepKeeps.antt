-- What a step of a controller keeps: the types of the lemmas on each part of what stands.
use Rattle.std.proofs.Common.{◌≡◌, ℕ, Bool, false, List, [], ◌∷◌, Some}
use Rattle.nvme_entry.specs.declared.submission.Sqe.{Sqe}
use Rattle.nvme_entry.specs.declared.completion.Cqe.{Cqe}
use Rattle.nvme_arbiter.specs.Board.{BoardView}
use Rattle.nvme_arbiter.specs.Queues.{seen_of}
use Rattle.nvme_arbiter.specs.declared.pick.Pick.{Pick}
use Rattle.nvme_arbiter.specs.declared.pick.Seen.{Seen}
use Rattle.nvme_admin.specs.QueueTable.{QueueTable}
use Rattle.nvme_log.specs.declared.event.Event.TheVariants as event
use Rattle.nvme_log.specs.Rules.{FrontRules, Past}
use Rattle.nvme_log.specs.Queues.{Queue, admin_queue}
use Rattle.nvme_log.specs.Places.{entry_at}
use Rattle.nvme_log.specs.declared.place.Place.{Place}
use Rattle.nvme_log.specs.Answers.{Answer}
use Rattle.nvme_ctrl_content.specs.Content.{Candidate, Ready, PendingDelete, Content}
use Rattle.nvme_ctrl_content.specs.Standing.{HoldsSq, HoldsReady, HoldsCounts, HoldsPosts, HoldsQueues, HoldsDeletion, HoldsLives, HoldsArbitration, HoldsTable, HoldsHand, HoldsOwn, hand_of, Holds}
use Rattle.nvme_ctrl_log.specs.Next.{IsNext, EachNext}
use Rattle.nvme_log.specs.Effects.{made_by}
use Rattle.nvme_ctrl_content.specs.Steps.{CanPick, CanApply, verdict_at, applied_to}
use Rattle.nvme_ctrl_content.proofs.AfterSteps.{CanFetch, fetch_event, after_fetch, after_io, CanAnswer, after_answer, admin_past, CanPost, post_event, after_post, CanClose, closed_event, after_closed, after_admin, IsChosen}
use Rattle.nvme_ctrl_log.proofs.HandedPicks.{IsHanded}

-- ---- what is kept by each step
abbrev pub Invariant : Type 1
Invariant = FrontRules → Bool → Past → Content → Type 0

abbrev pub KeepsFetch : Invariant → Type 0
KeepsFetch X = (rules : FrontRules) (late : Bool) (past : Past) (k : Content) (q : ℕ) (queue : Queue) (entry : Sqe)
    → Holds rules late past k → CanFetch past k q queue
    → X rules late (fetch_event k queue entry ∷ past) (after_fetch k q queue entry)

abbrev pub KeepsIo : Invariant → Type 0
KeepsIo X = (rules : FrontRules) (late : Bool) (past : Past) (k : Content) (queue : Queue) (seen : List Seen) (pick : Pick) (board : BoardView) (c : ℕ)
    → Holds rules late past k → CanPick rules past k queue pick board → seen ≡ seen_of k.board.queues → IsHanded past pick
    → (k.sq queue.region).queue ≡ Some (record { qid = pick.qid; cq_region = c })
    → X rules late (event.Pick seen pick ∷ past) (after_io k queue pick.n board)

-- the device answers a command, and its completion is ready
abbrev pub KeepsAnswer : Invariant → Type 0
KeepsAnswer X = (rules : FrontRules) (late : Bool) (past : Past) (k : Content) (p : Place) (before after : List Place)
    (sqid c cid : ℕ) (answer : Answer) (entry : Sqe)
    → Holds rules late past k → CanAnswer k p before after sqid c → entry_at past p.region p.index ≡ Some entry → cid ≡ entry.cid
    → X rules late past (after_answer k p before after sqid c cid answer)

abbrev pub KeepsAdmin : Invariant → Type 0
KeepsAdmin X = (rules : FrontRules) (late : Bool) (past : Past) (k : Content) (seen : List Seen) (pick : Pick) (picked : BoardView)
    (candidate : Candidate) (rest : List Candidate) (table : QueueTable) (c : ℕ) (board : BoardView)
    → (s : Holds rules late past k) → CanPick rules past k admin_queue pick picked → seen ≡ seen_of k.board.queues → pick.qid ≡ 0 → pick.n ≡ 1
    → CanApply rules past k s.tabled.history candidate rest table
    → IsChosen rules past k c picked board (verdict_at rules s.tabled.history candidate)
    → X rules late (admin_past past (event.Pick seen pick) (verdict_at rules s.tabled.history candidate))
    (after_admin past (applied_to k picked table) candidate c board (verdict_at rules s.tabled.history candidate))

abbrev pub KeepsPost : Invariant → Type 0
KeepsPost X = (rules : FrontRules) (late : Bool) (past : Past) (k : Content) (c : ℕ) (t : Ready) (rest : List Ready) (cqe : Cqe)
    → Holds rules late past k → CanPost past k c t rest cqe
    → X rules late (post_event c t cqe ∷ past) (after_post k c t rest cqe)

abbrev pub KeepsClose : Invariant → Type 0
KeepsClose X = (rules : FrontRules) (late : Bool) (past : Past) (k : Content) (d : PendingDelete) (table : QueueTable)
    → (s : Holds rules late past k) → CanClose rules k s.tabled.history d table
    → X rules late (closed_event d ∷ past) (after_closed k d table)

-- ---- what stands: each part is kept by each step. The parts below the first may use that the first stands afterwards
abbrev pub Regions : Invariant
Regions rules late past k = (r : ℕ) → HoldsSq past r (k.sq r)

abbrev pub ReadyOnes : Invariant
ReadyOnes rules late past k = Regions rules late past k → HoldsReady past k (hand_of k)

abbrev pub Hand : Invariant
Hand rules late past k = Regions rules late past k → HoldsHand past k

abbrev pub Counts : Invariant
Counts rules late past k = Regions rules late past k → HoldsCounts rules past k

abbrev pub Posts : Invariant
Posts rules late past k = HoldsPosts past k

abbrev pub Queues : Invariant
Queues rules late past k = Regions rules late past k → HoldsQueues past k

abbrev pub Deleting : Invariant
Deleting rules late past k = Regions rules late past k → HoldsDeletion past k

abbrev pub Lives : Invariant
Lives rules late past k = HoldsLives past k

abbrev pub Arbitration : Invariant
Arbitration rules late past k = HoldsArbitration rules past k

abbrev pub Tabled : Invariant
Tabled rules late past k = HoldsTable rules late past k

abbrev pub Own : Invariant
Own rules late past k = Regions rules late past k → late ≡ false → HoldsOwn rules past k

-- the newest event is lawful
abbrev pub Next : Invariant
Next rules late [] k = Unit {0}
Next rules late (e ∷ past) k = Regions rules late (e ∷ past) k → late ≡ false → IsNext rules past e

-- each event of an admin pick is lawful: the pick, and what its command makes
abbrev pub NextAdmin : Type 0
NextAdmin = (rules : FrontRules) (late : Bool) (past : Past) (k : Content) (seen : List Seen) (pick : Pick) (picked : BoardView)
    (candidate : Candidate) (rest : List Candidate) (table : QueueTable)
    → (s : Holds rules late past k) → CanPick rules past k admin_queue pick picked → seen ≡ seen_of k.board.queues → pick.qid ≡ 0 → pick.n ≡ 1
    → CanApply rules past k s.tabled.history candidate rest table → late ≡ false
    → EachNext (IsNext rules) (event.Pick seen pick ∷ made_by past (verdict_at rules s.tabled.history candidate)) past
