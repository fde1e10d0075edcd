-- Where no queue is attached nothing is ready, and an admin command leaves the entries of other queues.
use Rattle.std.proofs.Common.{◌≡◌, ◌≢◌, ℕ, ◌≤◌, Bool, false, List, [], ◌∷◌, Option, Some, refl, sym, ap, subst, ◌∙◌, arith, inl, inr, eq-eqb, true≢false}
use Rattle.std.proofs.lemmas.Bool.{cases_lt, false_from_ne_true}
use Rattle.nvme_arbiter.specs.Limits.{highest_qid}
use Rattle.std.proofs.lemmas.List.Elements.{All-head, All-same}
use Rattle.nvme_admin.specs.Accepted.{queue_table, sq_at}
use Rattle.nvme_admin.specs.Changes.{IsDue, TellsChange}
use Rattle.nvme_admin.specs.Checks.{attaches}
use Rattle.nvme_admin.specs.QueueTable.{QueueTable}
use Rattle.nvme_admin.specs.declared.bounds.TheConstants.{MAX_REGIONS}
use Rattle.nvme_admin.specs.declared.verdict.SqEntry.{SqEntry}
use Rattle.nvme_admin.specs.declared.verdict.Verdict.{Verdict}
use Rattle.nvme_admin.specs.declared.verdict.Verdict.TheVariants.{CloseCq}
use Rattle.nvme_admin.proofs.Changed.{TellsChange-entry}
use Rattle.nvme_log.specs.Rules.{FrontRules, Past}
use Rattle.nvme_log.specs.Queues.{cq_region_of, is_closed_region}
use Rattle.nvme_ctrl_content.specs.Content.{Candidate, Ready, Content}
use Rattle.nvme_ctrl_content.specs.Standing.{IsReady, Holds, hand_of}
use Rattle.nvme_ctrl_content.specs.Steps.{CanApply, verdict_at}
use Rattle.nvme_ctrl_content.proofs.ReadyChange.{IsServed, ready-served}
use Rattle.nvme_ctrl_log.proofs.LifeLaws.{served_elsewhere, StaysIn, stays_after, none_below}

-- ---- a completion region to which no queue posts
-- nothing is ready in it
pub none_ready_unattached : (rules : FrontRules) (late : Bool) (past : Past) (k : Content) → Holds rules late past k → (x : ℕ)
    → ((q r : ℕ) → k.sq_life q ≡ Some r → cq_region_of past r ≢ Some x) → (k.cq x).ready ≡ []
none_ready_unattached rules late past k s x none = by (k.cq x).ready refl where
  by : (ts : List Ready) → (k.cq x).ready ≡ ts → ts ≡ []
  by [] is = refl
  by (t ∷ rest) is =
      let ready : IsReady past k.deletion x t = All-head (IsReady past k.deletion x) t rest (All-same (IsReady past k.deletion x) (t ∷ rest) (k.cq x).ready (sym is) (s.ready.each x)) in
      let served : IsServed past t = All-head (IsServed past) t rest (All-same (IsServed past) (t ∷ rest) (k.cq x).ready (sym is) (ready-served past k (hand_of k) s.ready x)) in
      let fresh : is_closed_region past t.place.region ≡ false =
      false_from_ne_true (is_closed_region past t.place.region) (λ closed.
      let gone = s.queues.gone t.place.region closed in
      served_elsewhere past t.place.region t.place.region t.place.index (sym (s.counts.unposted t.place.region) ∙ gone.all_posted) served.served served.no_post refl) in
      absurd (none t.sqid t.place.region (s.lives.there t.place.region t.sqid ready.queue fresh) ready.region)

-- an admin command leaves each entry there
pub applied_stays : (rules : FrontRules) (late : Bool) (past : Past) (k : Content) (candidate : Candidate) (rest : List Candidate) (table : QueueTable) (s : Holds rules late past k)
    → CanApply rules past k s.tabled.history candidate rest table → (q : ℕ) (entry : SqEntry) → k.table.sq q ≡ Some entry → StaysIn table q entry
applied_stays rules late past k candidate rest table s can q entry was =
    let v : Verdict = verdict_at rules s.tabled.history candidate in
    let tells : TellsChange rules.start s.tabled.history candidate.entry v = TellsChange-entry rules.start s.tabled.history candidate.entry in
    stays_after v (sq_at rules.start s.tabled.history) table q entry (ap (λ (t : QueueTable). t.sq q) can.table_is ∙ tells.sqs q) (sym (ap (λ (t : QueueTable). t.sq q) s.tabled.table_is) ∙ was)
    (λ qid region cqid class is.
    let due = subst (λ (z : Verdict). IsDue (queue_table rules.start s.tabled.history) z) is tells.due in
    due.free)

module _ (rules : FrontRules) (late : Bool) (past : Past) (k : Content) (candidate : Candidate) (rest : List Candidate) (table : QueueTable) (s : Holds rules late past k)
    (can : CanApply rules past k s.tabled.history candidate rest table) (qid : ℕ) (closes : verdict_at rules s.tabled.history candidate ≡ CloseCq qid) where
  tells : TellsChange rules.start s.tabled.history candidate.entry (CloseCq qid)
  tells = subst (TellsChange rules.start s.tabled.history candidate.entry) closes (TellsChange-entry rules.start s.tabled.history candidate.entry)

  -- the table has the submission queues that it had
  pub closes_same : (q : ℕ) → table.sq q ≡ k.table.sq q
  closes_same q = ap (λ (t : QueueTable). t.sq q) can.table_is ∙ tells.sqs q ∙ sym (ap (λ (t : QueueTable). t.sq q) s.tabled.table_is)

  -- it isn't the admin queue's
  pub closes_io : qid ≢ 0
  closes_io = tells.due.not_admin

  -- and none of them is attached to it
  pub none_attached : (q : ℕ) (entry : SqEntry) → table.sq q ≡ Some entry → entry.cqid ≡ qid → ⊥
  none_attached q entry is same = elim (cases_lt q MAX_REGIONS) [
    | inl below ↦
        let none : attaches qid (sq_at rules.start s.tabled.history q) ≡ false = none_below (λ (x : ℕ). attaches qid (sq_at rules.start s.tabled.history x)) MAX_REGIONS q tells.due.unattached below in
        let there : sq_at rules.start s.tabled.history q ≡ Some entry = sym (tells.sqs q) ∙ sym (ap (λ (t : QueueTable). t.sq q) can.table_is) ∙ is in
        true≢false (sym (eq-eqb entry.cqid qid same) ∙ ap (λ (o : Option SqEntry). attaches qid o) (sym there) ∙ none)
    | inr beyond ↦
        let few : q ≤ highest_qid = can.few_queues q entry is in
        absurd (omega (arith, beyond, few))
  ]

  pub none_attached_before : (q : ℕ) (entry : SqEntry) → k.table.sq q ≡ Some entry → entry.cqid ≡ qid → ⊥
  none_attached_before q entry is same = none_attached q entry (closes_same q ∙ is) same
