-- When a placed table tells a queue table.
use Rattle.std.proofs.Common.{◌≡◌, ℕ, ◌==◌, Bool, true, false, if◌then◌else◌, [], ◌∷◌, Option, Some, None, is_some, option_map, IsSomeAnd, Result, Ok, Err, OnOk, refl, sym, ◌∙◌, ap, subst, inl, inr, ◌⊎◌, true≢false, eqb-true}
use Rattle.std.proofs.Math.Path.{fun_ext}
use Rattle.std.proofs.lemmas.Bool.{cases_Bool}
use Rattle.std.proofs.lemmas.Option.{none-some}
use Rattle.nvme_entry.specs.Status.{StatusCode}
use Rattle.nvme_entry.specs.AdminCommand.{admin_command_of}
use Rattle.nvme_entry.specs.declared.submission.Sqe.{Sqe}
use Rattle.nvme_entry.specs.declared.admin.AdminCommand.{AdminCommand}
use Rattle.nvme_admin.specs.declared.verdict.SqEntry.{SqEntry}
use Rattle.nvme_admin.specs.declared.verdict.Verdict.{Verdict}
use Rattle.nvme_admin.specs.declared.verdict.Verdict.TheVariants.{Done, OpenSq, OpenCq, BeginDelete, CloseCq, Abort, SetArbitration}
use Rattle.nvme_admin.specs.History.{Start, TableHistory, Placing, Submission, Completion, RegionAdded, EntryApplied, DeletionFinished, PlacedAnywhere, Accepted}
use Rattle.nvme_admin.specs.QueueTable.{QueueTable, table_in, unless_closing}
use Rattle.nvme_admin.specs.Accepted.{queue_table, effects_of, status_of, verdict_of, dw0_of}
use Rattle.nvme_admin.specs.Checks.{status_over, status_in, dw0_in, is_success, verdict_by}
use Rattle.nvme_admin.specs.Further.{AreSame}
use Rattle.nvme_admin.specs.Steps.{table_after}
use Rattle.nvme_admin.specs.Standing.{TableView, IsSized, Shows, sq_of, cq_of}
use Rattle.nvme_admin.proofs.Stepped.{tables-go_by_commands}
use Rattle.nvme_admin.proofs.Changed.{finish-takes_one}
use Rattle.nvme_admin.proofs.Applied.{dw0_in-verdict}
use Rattle.nvme_admin.proofs.Slots.{closing_some}
use Rattle.nvme_admin.specs.declared.limits.Limits.{Limits}
use Rattle.nvme_arbiter.specs.Settings.{ArbitrationFields}
use Rattle.nvme_placing.proofs.Alike.{same-of, gone-unplaced}
use Rattle.nvme_placing.proofs.Carried.{tokens-kept}
use Rattle.nvme_placing.specs.declared.table.PlacedTable.{PlacedTable}
use Rattle.nvme_placing.specs.Telling.{Tells, HasTokens, IsTold, IsToldBy, content_of, placing_of, unplaced, unplaced_verdict}
use Rattle.nvme_placing.specs.inside.Carrying.{HasQueues, Carries, IsNewTable}

-- the queues of a queue table that is told
pub has-queues : (p : PlacedTable) (t : QueueTable) → Tells p t → HasQueues (content_of p) t
has-queues p t s = record { sq = s.sq; cq = s.cq; nsq = s.nsq; ncq = s.ncq; numbers_set = s.numbers_set; created = s.created; settings = s.settings }

-- a table on regions tells the queue table that it shows
pub tells-shown : (p : PlacedTable) (t : QueueTable) → placing_of p ≡ None → IsSized (content_of p) → Shows (content_of p) t → Tells p t
tells-shown p t none sized s = record {
  placing = s.placing ∙ sym none;
  sq = λ q. ap (option_map unplaced) (s.sq q);
  cq = λ q. ap is_some (s.cq q);
  nsq = s.nsq;
  ncq = s.ncq;
  numbers_set = s.numbers_set;
  created = s.created;
  settings = s.settings;
  by_regions = λ h. s;
  by_tokens = λ some. absurd (true≢false (sym some ∙ ap is_some none));
  sized = sized;
}

-- a table anywhere tells the queue table whose queues it has
pub tells-queues : (p : PlacedTable) (t : QueueTable) (placing : Placing) → placing_of p ≡ Some placing → t.placing ≡ Some placing → HasQueues (content_of p) t
    → HasTokens (content_of p) → IsSized (content_of p) → Tells p t
tells-queues p t placing some there s tokens sized = record {
  placing = there ∙ sym some;
  sq = s.sq;
  cq = s.cq;
  nsq = s.nsq;
  ncq = s.ncq;
  numbers_set = s.numbers_set;
  created = s.created;
  settings = s.settings;
  by_regions = λ none. absurd (none-some placing (sym none ∙ some));
  by_tokens = λ h. tokens;
  sized = sized;
}

-- queue tables that are the same are one
same-table : (a b : QueueTable) → AreSame a b → a ≡ b
same-table a b s = λ i. record {
  sq = (fun_ext s.alike.sq) i;
  cq = (fun_ext s.alike.cq) i;
  sq_regions = s.sq_regions i;
  cq_regions = s.cq_regions i;
  sq_region_used = (fun_ext s.alike.sq_region_used) i;
  cq_region_used = (fun_ext s.alike.cq_region_used) i;
  nsq = s.alike.nsq i;
  ncq = s.alike.ncq i;
  numbers_set = s.alike.numbers_set i;
  created = s.alike.created i;
  settings = s.alike.settings i;
  placing = s.alike.placing i;
  sqs_made = s.alike.sqs_made i;
  cqs_made = s.alike.cqs_made i;
}

-- the queue table after an entry, accepted and not
after-accepted : (start : Start) (h : TableHistory) (entry : Sqe) → is_success (status_over (queue_table start h) entry) ≡ true
    → queue_table start (EntryApplied entry ∷ h) ≡ table_after (queue_table start h) (admin_command_of entry)
unfolding status_of
after-accepted start h entry ok = same-table _ _ (tables-go_by_commands start h entry ok)

after-refused : (start : Start) (h : TableHistory) (entry : Sqe) → is_success (status_over (queue_table start h) entry) ≡ false
    → queue_table start (EntryApplied entry ∷ h) ≡ queue_table start h
unfolding effects_of queue_table
after-refused start h entry bad = λ i. table_in start (if bad i then Accepted (admin_command_of entry) ∷ effects_of start h else effects_of start h)

-- ---- an entry, where queues may lie anywhere
dw0-unplaced : (verdict : Verdict) → dw0_in (unplaced_verdict verdict) ≡ dw0_in verdict
dw0-unplaced (Done status dw0) = refl
dw0-unplaced (OpenSq qid region cqid class) = refl
dw0-unplaced (OpenCq qid region) = refl
dw0-unplaced (BeginDelete qid) = refl
dw0-unplaced (CloseCq qid) = refl
dw0-unplaced (Abort sqid cid) = refl
dw0-unplaced (SetArbitration settings) = refl

module _ (old new : PlacedTable) (placing : Placing) (entry : Sqe) (verdict : Verdict) (start : Start) (h : TableHistory) where
  pub carried-status : placing_of old ≡ Some placing → (HasTokens (content_of old) → IsSized (content_of old) → Carries (content_of old) (content_of new) placing entry verdict)
      → Tells old (queue_table start h) → status_in verdict ≡ status_of start h entry
  unfolding status_of
  carried-status some carries tells =
      (carries (tells.by_tokens (ap is_some some)) tells.sized).status (queue_table start h) (has-queues old (queue_table start h) tells) (tells.placing ∙ some)

  pub carried-verdict : placing_of old ≡ Some placing → (HasTokens (content_of old) → IsSized (content_of old) → Carries (content_of old) (content_of new) placing entry verdict)
      → Tells old (queue_table start h) → IsTold old verdict (verdict_of start h entry)
  unfolding status_of verdict_of
  carried-verdict some carries tells =
      let t : QueueTable = queue_table start h in
      let command : AdminCommand = admin_command_of entry in
      let told : unplaced_verdict verdict ≡ unplaced_verdict (verdict_by (status_over t entry) (table_after t command) command) =
      (carries (tells.by_tokens (ap is_some some)) tells.sized).told t (has-queues old t tells) (tells.placing ∙ some) in
      let one : verdict_by (status_over t entry) (table_after t command) command ≡ verdict_by (status_over t entry) (queue_table start (EntryApplied entry ∷ h)) command =
      elim (cases_Bool (is_success (status_over t entry))) [
        | inl ok ↦ ap (λ (u : QueueTable). verdict_by (status_over t entry) u command) (sym (after-accepted start h entry ok))
        | inr bad ↦ refused-by (status_over t entry) (table_after t command) (queue_table start (EntryApplied entry ∷ h)) command bad
      ] in
      subst (λ (o : Option Placing). IsToldBy o verdict (verdict_by (status_over t entry) (queue_table start (EntryApplied entry ∷ h)) command)) (sym some) (told ∙ ap unplaced_verdict one)
    where
      refused-by : (status : StatusCode) (a b : QueueTable) (k : AdminCommand) → is_success status ≡ false → verdict_by status a k ≡ verdict_by status b k
      refused-by status a b k fails = rw fails refl

  pub carried-dw0 : placing_of old ≡ Some placing → (HasTokens (content_of old) → IsSized (content_of old) → Carries (content_of old) (content_of new) placing entry verdict)
      → Tells old (queue_table start h) → dw0_in verdict ≡ dw0_of start h entry
  unfolding status_of verdict_of dw0_of
  carried-dw0 some carries tells =
      let told : unplaced_verdict verdict ≡ unplaced_verdict (verdict_of start h entry) =
      subst (λ (o : Option Placing). IsToldBy o verdict (verdict_of start h entry)) some (carried-verdict some carries tells) in
      sym (dw0-unplaced verdict) ∙ ap dw0_in told ∙ dw0-unplaced (verdict_of start h entry)
      ∙ dw0_in-verdict (status_of start h entry) (queue_table start (EntryApplied entry ∷ h)) (admin_command_of entry)

  pub carried-stands : placing_of old ≡ Some placing → placing_of new ≡ placing_of old → (HasTokens (content_of old) → IsSized (content_of old) → Carries (content_of old) (content_of new) placing entry verdict)
      → (HasTokens (content_of old) → is_success (status_in verdict) ≡ false → new ≡ old)
      → Tells old (queue_table start h) → Tells new (queue_table start (EntryApplied entry ∷ h))
  carried-stands some kept carries unchanged tells =
      let t : QueueTable = queue_table start h in
      let tokens : HasTokens (content_of old) = tells.by_tokens (ap is_some some) in
      let c : Carries (content_of old) (content_of new) placing entry verdict = carries tokens tells.sized in
      let s : HasQueues (content_of old) t = has-queues old t tells in
      let there : t.placing ≡ Some placing = tells.placing ∙ some in
      let is : status_in verdict ≡ status_over t entry = c.status t s there in
      elim (cases_Bool (is_success (status_in verdict))) [
        | inl ok ↦ subst (Tells new) (sym (after-accepted start h entry (sym (ap is_success is) ∙ ok)))
            (tells-queues new (table_after t (admin_command_of entry)) placing (kept ∙ some) there (c.after t s there ok) c.tokens c.sized)
        | inr bad ↦ subst (Tells new) (sym (after-refused start h entry (sym (ap is_success is) ∙ bad)))
            (subst (λ (p : PlacedTable). Tells p t) (sym (unchanged tokens bad)) tells)
      ]

-- ---- a new table
pub new-told : (p : PlacedTable) (placing : Placing) (limits : Limits) (settings : ArbitrationFields) (sq_address sq_slots cq_address cq_slots : ℕ)
    → placing_of p ≡ Some placing → IsSized (content_of p) → IsNewTable (content_of p) limits settings
    → Tells p (queue_table (record { nsq = limits.nsq; ncq = limits.ncq; settings = settings })
    (RegionAdded Completion cq_address cq_slots ∷ RegionAdded Submission sq_address sq_slots ∷ PlacedAnywhere placing ∷ []))
unfolding effects_of queue_table
new-told p placing limits settings sq_address sq_slots cq_address cq_slots some sized new =
    tells-queues p _ placing some refl
    (record {
      sq = λ q. ap (option_map unplaced) (new.sq q);
      cq = λ q. ap is_some (new.cq q);
      nsq = new.nsq;
      ncq = new.ncq;
      numbers_set = new.numbers_set;
      created = new.created;
      settings = new.settings_are;
    })
    new.tokens sized

-- ---- a finished deletion
pub placing-cases : (o : Option Placing) → (o ≡ None) ⊎ ((p : Placing) × (o ≡ Some p))
placing-cases None = inl refl
placing-cases (Some p) = inr (p, refl)

gone-either : (b : Bool) (x y u w : Option SqEntry) → option_map unplaced x ≡ option_map unplaced y → (b ≡ true → x ≡ None) → option_map unplaced u ≡ option_map unplaced w
    → option_map unplaced (if b then None else u) ≡ option_map unplaced (if b then y else w)
gone-either true x y u w e n f = ap (option_map unplaced) (sym (n refl)) ∙ e
gone-either false x y u w e n f = f

finish-placing : (start : Start) (h : TableHistory) (qid : ℕ) → (queue_table start (DeletionFinished qid ∷ h)).placing ≡ (queue_table start h).placing
unfolding effects_of queue_table
finish-placing start h qid = refl

module _ (old new : PlacedTable) (qid : ℕ) (start : Start) (h : TableHistory) where
  finish-queues : IsSomeAnd (sq_of (content_of old) qid) (λ queue. queue.closing ≡ true)
      → ((q : ℕ) → sq_of (content_of new) q ≡ (if qid == q then None else sq_of (content_of old) q))
      → content_of new ≡ record (content_of old) { sqs = (content_of new).sqs }
      → HasQueues (content_of old) (queue_table start h) → HasQueues (content_of new) (queue_table start (DeletionFinished qid ∷ h))
  unfolding effects_of queue_table
  finish-queues closing gone rest s =
      let found = closing_some (sq_of (content_of old) qid) closing in
      let none : unless_closing (sq_of (content_of old) qid) ≡ None = ap unless_closing found.1 ∙ (λ i. if found.2 i then None else Some found.0) in
      record {
        sq = λ q. ap (option_map unplaced) (gone q)
            ∙ gone-either (qid == q) (unless_closing (sq_of (content_of old) q)) (unless_closing ((queue_table start h).sq q)) (sq_of (content_of old) q) ((queue_table start h).sq q)
            (same-of (λ o. option_map unplaced (unless_closing o)) gone-unplaced (sq_of (content_of old) q) ((queue_table start h).sq q) (s.sq q))
            (λ own. subst (λ (k : ℕ). unless_closing (sq_of (content_of old) k) ≡ None) (eqb-true qid q own) none)
            (s.sq q)
            ∙ sym (ap (option_map unplaced) (finish-takes_one start h qid q));
        cq = λ q. ap (λ (w : TableView). is_some (cq_of w q)) rest ∙ s.cq q;
        nsq = ap (λ (w : TableView). w.nsq) rest ∙ s.nsq;
        ncq = ap (λ (w : TableView). w.ncq) rest ∙ s.ncq;
        numbers_set = ap (λ (w : TableView). w.numbers_set) rest ∙ s.numbers_set;
        created = ap (λ (w : TableView). w.created) rest ∙ s.created;
        settings = ap (λ (w : TableView). w.settings) rest ∙ s.settings;
      }

  finish-tokens : content_of new ≡ record (content_of old) { sqs = (content_of new).sqs } → HasTokens (content_of old) → HasTokens (content_of new)
  finish-tokens rest t = tokens-kept (content_of old) (content_of new) (ap (λ (w : TableView). w.sq_regions) rest) (ap (λ (w : TableView). w.cq_regions) rest) t

  pub finish-told : IsSomeAnd (sq_of (content_of old) qid) (λ queue. queue.closing ≡ true) → placing_of new ≡ placing_of old
      → (Shows (content_of old) (queue_table start h) → Shows (content_of new) (queue_table start (DeletionFinished qid ∷ h)))
      → ((q : ℕ) → sq_of (content_of new) q ≡ (if qid == q then None else sq_of (content_of old) q))
      → content_of new ≡ record (content_of old) { sqs = (content_of new).sqs } → IsSized (content_of new)
      → Tells old (queue_table start h) → Tells new (queue_table start (DeletionFinished qid ∷ h))
  finish-told closing kept shown gone rest sized tells = elim (placing-cases (placing_of old)) [
    | inl none ↦ tells-shown new (queue_table start (DeletionFinished qid ∷ h)) (kept ∙ none) sized (shown (tells.by_regions none))
    | inr some ↦ tells-queues new (queue_table start (DeletionFinished qid ∷ h)) some.0 (kept ∙ some.1) (finish-placing start h qid ∙ tells.placing ∙ some.1)
        (finish-queues closing gone rest (has-queues old (queue_table start h) tells)) (finish-tokens rest (tells.by_tokens (ap is_some some.1))) sized
  ]

-- ---- a region more
pub on-regions : (p : PlacedTable) → p.anywhere ≡ 0 → placing_of p ≡ None
on-regions p is = rw is refl

pub region-told : (old new : PlacedTable) (t after : QueueTable) → placing_of old ≡ None → placing_of new ≡ None → IsSized (content_of new)
    → (Shows (content_of old) t → Shows (content_of new) after) → Tells old t → Tells new after
region-told old new t after none still sized shown tells = tells-shown new after still sized (shown (tells.by_regions none))

pub on-ok : {T E X Y : Type 0} (r : Result T E) → (X → Y) → OnOk r X → OnOk r Y
on-ok (Ok x) f h = f h
on-ok (Err e) f h = tt
