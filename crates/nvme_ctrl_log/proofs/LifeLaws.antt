-- Open completion queues, places without a post, and entries that stay in a table.
use Rattle.std.proofs.Common.{◌≡◌, ◌≢◌, ℕ, zero, suc, ◌<◌, ◌==◌, ◌||◌, Bool, true, false, if◌then◌else◌, [], ◌∷◌, Option, Some, None, refl, sym, ap, ◌∙◌, arith, inl, inr, eq-eqb, true≢false}
use Rattle.std.specs.Prelude.{option_map}
use Rattle.std.proofs.lemmas.Bool.{cases_eq, false_from_ne_true, or_right}
use Rattle.std.proofs.lemmas.Option.{none-some, same_Some}
use Rattle.nvme_admin.specs.Changes.{sq_after}
use Rattle.nvme_arbiter.specs.declared.settings.Class.{Class}
use Rattle.nvme_admin.specs.QueueTable.{as_closing, QueueTable}
use Rattle.nvme_admin.specs.Checks.{some_below}
use Rattle.nvme_admin.specs.declared.verdict.SqEntry.{SqEntry}
use Rattle.nvme_admin.specs.declared.verdict.Verdict.{Verdict}
use Rattle.nvme_admin.specs.declared.verdict.Verdict.TheVariants.{Done, BeginDelete, CloseCq}
use Rattle.nvme_admin.specs.declared.verdict.Verdict.TheVariants as verdict
use Rattle.nvme_log.specs.declared.event.Event.TheVariants as event
use Rattle.nvme_log.specs.Rules.{Past}
use Rattle.nvme_log.specs.Queues.{open_cq}
use Rattle.nvme_log.specs.Places.{is_served}
use Rattle.nvme_log.specs.Completions.{is_posted, posts_of, unposted_of}
use Rattle.nvme_log.proofs.Posts.{posts_of-some}
use Rattle.nvme_ctrl_log.specs.Regions.{is_opened_cq}
use Rattle.nvme_ctrl_log.proofs.QueueWords.{at_other, chosen}
use Rattle.nvme_ctrl_log.proofs.Readying.{unposted-counts}

-- ---- completion queues of the log
-- an open completion queue was opened on its region
pub opened_was : (past : Past) (x q : ℕ) → open_cq past q ≡ Some x → is_opened_cq past x ≡ true
opened_was [] x q is = elim (chosen q 0 (Some 0) None x is) [
  | inl p ↦ eq-eqb x 0 (sym (same_Some 0 x p.1))
  | inr n ↦ absurd (none-some x n.1)
]
opened_was (event.OpenCq qid region ∷ past) x q is = elim (chosen qid q (Some region) (open_cq past q) x is) [
  | inl p ↦ ap (λ (b : Bool). b || is_opened_cq past x) (eq-eqb region x (same_Some region x p.1))
  | inr n ↦ or_right (region == x) (is_opened_cq past x) (opened_was past x q n.1)
]
opened_was (event.ClosedCq qid region ∷ past) x q is = elim (chosen qid q None (open_cq past q) x is) [
  | inl p ↦ absurd (none-some x p.1)
  | inr n ↦ opened_was past x q n.1
]
opened_was (event.Fetch region index entry ∷ past) x q is = opened_was past x q is
opened_was (event.Pick seen pick ∷ past) x q is = opened_was past x q is
opened_was (event.SetArbitration settings ∷ past) x q is = opened_was past x q is
opened_was (event.OpenSq qid region cqid class ∷ past) x q is = opened_was past x q is
opened_was (event.Closing qid region ∷ past) x q is = opened_was past x q is
opened_was (event.Abort region index ∷ past) x q is = opened_was past x q is
opened_was (event.Post c region index cqe ∷ past) x q is = opened_was past x q is
opened_was (event.ClosedSq qid region ∷ past) x q is = opened_was past x q is

-- ---- a region whose places are all posted
-- a place with no post isn't posted
not_posted : (past : Past) (r i : ℕ) → posts_of past r i ≡ 0 → is_posted past r i ≡ false
not_posted past r i e = false_from_ne_true (is_posted past r i) (λ (p : is_posted past r i ≡ true). omega (arith, posts_of-some past r i p))

-- so a served place with no post isn't one of such a region
pub served_elsewhere : (past : Past) (r x i : ℕ) → unposted_of past r ≡ 0 → is_served past x i ≡ true → posts_of past x i ≡ 0 → x ≢ r
served_elsewhere past r x i none served fresh same =
    unposted-counts past x i served (not_posted past x i fresh) (ap (unposted_of past) same ∙ none)

-- ---- the table
-- an entry of a table is still there, on its region and with its completion queue
pub record StaysIn (t : QueueTable) (q : ℕ) (entry : SqEntry) : Type 0 where
  pub now : SqEntry
  pub in_table : t.sq q ≡ Some now
  pub region : now.region ≡ entry.region
  pub cqid : now.cqid ≡ entry.cqid

-- so it is after a verdict that opens no queue under its identifier
pub stays_after : (v : Verdict) (sqs : ℕ → Option SqEntry) (t : QueueTable) (q : ℕ) (entry : SqEntry) → t.sq q ≡ sq_after v sqs q → sqs q ≡ Some entry
    → ((qid region cqid : ℕ) (class : Class) → v ≡ verdict.OpenSq qid region cqid class → sqs qid ≡ None) → StaysIn t q entry
stays_after (Done status dw0) sqs t q entry is was free = record { now = entry; in_table = is ∙ was; region = refl; cqid = refl }
stays_after (verdict.OpenCq qid region) sqs t q entry is was free = record { now = entry; in_table = is ∙ was; region = refl; cqid = refl }
stays_after (CloseCq qid) sqs t q entry is was free = record { now = entry; in_table = is ∙ was; region = refl; cqid = refl }
stays_after (verdict.Abort sqid cid) sqs t q entry is was free = record { now = entry; in_table = is ∙ was; region = refl; cqid = refl }
stays_after (verdict.SetArbitration settings) sqs t q entry is was free = record { now = entry; in_table = is ∙ was; region = refl; cqid = refl }
stays_after (verdict.OpenSq qid region cqid class) sqs t q entry is was free = record {
  now = entry;
  in_table = is ∙ at_other qid q _ (sqs q) (λ same. none-some entry (sym (free qid region cqid class refl) ∙ ap sqs same ∙ was)) ∙ was;
  region = refl;
  cqid = refl;
}
stays_after (BeginDelete qid) sqs t q entry is was free = by (qid == q) is where
  by : (b : Bool) → t.sq q ≡ (if b then option_map as_closing (sqs q) else sqs q) → StaysIn t q entry
  by true now = record { now = as_closing entry; in_table = now ∙ ap (option_map as_closing) was; region = refl; cqid = refl }
  by false now = record { now = entry; in_table = now ∙ was; region = refl; cqid = refl }

-- ---- a completion queue that may be closed
-- where a test passes at no number below n, it fails at each
either_none : (a b : Bool) → (a || b) ≡ false → (a ≡ false) × (b ≡ false)
either_none true b e = absurd (true≢false e)
either_none false b e = (refl, e)

pub none_below : (test : ℕ → Bool) (n q : ℕ) → some_below test n ≡ false → q < n → test q ≡ false
unfolding some_below
none_below test zero q none lt = absurd (omega (arith, lt))
none_below test (suc n) q none lt = elim (cases_eq q n) [
  | inl same ↦ ap test same ∙ (either_none (some_below test n) (test n) none).1
  | inr other ↦ none_below test n q (either_none (some_below test n) (test n) none).0 (omega (arith, lt, other))
]
