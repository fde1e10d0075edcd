-- Where queues may lie anywhere: what is counted, and that the regions that are added decide nothing.
use Rattle.std.proofs.Common.{◌≡◌, ℕ, suc, ◌<◌, ◌==◌, Bool, true, false, not, if◌then◌else◌, List, [], ◌∷◌, ◌++◌, length, Option, Some, None, is_some, is_none, refl, sym, ◌∙◌, ap, subst, arith, true≢false, option_to_list, option_map, unwrap_or, ◌&&◌}
use Rattle.std.proofs.Math.Path.{fun_ext}
use Rattle.nvme_entry.specs.Status.{StatusCode, invalid_field}
use Rattle.nvme_entry.specs.Checks.{Check, first_failed}
use Rattle.nvme_entry.specs.Submission.{fuse_of}
use Rattle.nvme_entry.specs.AdminCommand.{admin_command_of}
use Rattle.nvme_entry.specs.declared.submission.Sqe.{Sqe}
use Rattle.nvme_entry.specs.declared.admin.AdminCommand.{AdminCommand}
use Rattle.nvme_entry.specs.declared.admin.AdminCommand.TheVariants.{DeleteSq, CreateSq, DeleteCq, CreateCq, Abort, SetFeatures, GetFeatures, Other}
use Rattle.nvme_arbiter.specs.Settings.{settings_of}
use Rattle.nvme_admin.specs.declared.region.Region.{Region}
use Rattle.nvme_admin.specs.declared.verdict.Verdict.{Verdict}
use Rattle.nvme_admin.specs.declared.verdict.Verdict.TheVariants.{Done}
use Rattle.nvme_admin.specs.History.{Start, TableHistory, Placing, Kind, Submission, Completion, RegionAdded, EntryApplied, DeletionFinished, PlacedAnywhere, Effects, Added, Accepted, Finished, Anywhere}
use Rattle.nvme_admin.specs.QueueTable.{QueueTable, table_in, number_by, placing_in, class_of, arbitration, number_of_queues, as_closing, unless_closing, is_used, admin_sq, admin_cq, io_sq_in, io_cq_in, sq_regions_in, cq_regions_in, sq_named_in, cq_named_in, first_request_in, created_in, settings_in, nsq_by, ncq_by}
use Rattle.nvme_admin.specs.Checks.{row, rows_of, placing_rows, status_over, is_success, verdict_by, verdict_after, dw0_by, dw0_after}
use Rattle.nvme_admin.specs.Accepted.{effects_of, after_entry, queue_table, status_of, dw0_of, verdict_of}
use Rattle.nvme_admin.specs.Laws.{SqCreatesAreCounted, CqCreatesAreCounted, SqLivesAreCounted, CqLivesAreCounted}
use Rattle.nvme_admin.specs.Further.{AreAlike, HasRegions, ComeToSame, RegionsDontMatter}
use Rattle.nvme_admin.proofs.Slots.{admin_sq-append, admin_cq-append}
use Rattle.nvme_admin.proofs.Reached.{Passes, create_sq-found, create_cq-found, status_over-passes}
use Rattle.nvme_admin.proofs.Changed.{at-own}

-- ---- counting
pub one-more : (o : Option ℕ) (k : ℕ) (named : List ℕ) → o ≡ Some k → length (option_to_list o ++ named) ≡ suc (length named)
one-more o k named is = ap (λ (x : Option ℕ). length (option_to_list x ++ named)) is

next-number : (placing : Option Placing) (made : ℕ) (regions : List Region) (prp1 : ℕ) → is_some placing ≡ true → unwrap_or (number_by placing made regions prp1) 0 ≡ suc made
next-number None made regions prp1 h = absurd (true≢false (sym h))
next-number (Some p) made regions prp1 h = refl

-- an accepted entry, over the steps that took effect
pub taken : (start : Start) (h : TableHistory) (entry : Sqe) (command : AdminCommand) → admin_command_of entry ≡ command → is_success (status_of start h entry) ≡ true
    → (effects_of start (EntryApplied entry ∷ h) ≡ Accepted command ∷ effects_of start h) × Passes (table_in start (effects_of start h)) command
unfolding effects_of queue_table status_of
taken start h entry command is accepted = (
  (λ i. if accepted i then Accepted (is i) ∷ effects_of start h else effects_of start h),
  subst (λ (k : AdminCommand). Passes (table_in start (effects_of start h)) k) is (status_over-passes (table_in start (effects_of start h)) entry accepted),
)

pub sq-creates_are_counted : SqCreatesAreCounted
unfolding queue_table
sq-creates_are_counted start h entry qid qsize prp1 cqid qprio pc is accepted =
    let e : Effects = effects_of start h in
    let t = taken start h entry (CreateSq qid qsize prp1 cqid qprio pc) is accepted in
    let found = create_sq-found (table_in start e) qid qsize prp1 cqid qprio pc t.1 in
    ap (λ (after : Effects). length (sq_named_in after)) t.0 ∙ one-more _ found.region.number (sq_named_in e) found.region.found

pub cq-creates_are_counted : CqCreatesAreCounted
unfolding queue_table
cq-creates_are_counted start h entry qid qsize prp1 pc is accepted =
    let e : Effects = effects_of start h in
    let t = taken start h entry (CreateCq qid qsize prp1 pc) is accepted in
    let found = create_cq-found (table_in start e) qid qsize prp1 pc t.1 in
    ap (λ (after : Effects). length (cq_named_in after)) t.0 ∙ one-more _ found.region.number (cq_named_in e) found.region.found

pub sq-lives_are_counted : SqLivesAreCounted
unfolding queue_table
sq-lives_are_counted start h entry qid qsize prp1 cqid qprio pc some is accepted =
    let e : Effects = effects_of start h in
    let t = taken start h entry (CreateSq qid qsize prp1 cqid qprio pc) is accepted in
    let found = create_sq-found (table_in start e) qid qsize prp1 cqid qprio pc t.1 in
    let number = next-number (placing_in e) (length (sq_named_in e)) (sq_regions_in e) prp1 some in
    ap (λ (after : Effects). (table_in start after).sq qid) t.0
    ∙ at-own qid (admin_sq (sq_regions_in e)) _ (io_sq_in e qid) found.not_admin
    ∙ (λ i. Some (record { region = number i; cqid = cqid; class = class_of qprio; closing = false }))

pub cq-lives_are_counted : CqLivesAreCounted
unfolding queue_table
cq-lives_are_counted start h entry qid qsize prp1 pc some is accepted =
    let e : Effects = effects_of start h in
    let t = taken start h entry (CreateCq qid qsize prp1 pc) is accepted in
    let found = create_cq-found (table_in start e) qid qsize prp1 pc t.1 in
    let number = next-number (placing_in e) (length (cq_named_in e)) (cq_regions_in e) prp1 some in
    ap (λ (after : Effects). (table_in start after).cq qid) t.0
    ∙ at-own qid (admin_cq (cq_regions_in e)) _ (io_cq_in e qid) found.not_admin
    ∙ (λ i. Some (number i))

-- ---- regions decide nothing
some-of : (o : Option Placing) → is_some o ≡ true → (p : Placing) × (o ≡ Some p)
some-of None h = absurd (true≢false (sym h))
some-of (Some p) h = (p, refl)

-- a queue table with other regions
abbrev with_regions : QueueTable → (sqs cqs : List Region) → Placing → QueueTable
with_regions t sqs cqs p = record t { sq_regions = sqs; cq_regions = cqs; placing = Some p }

rows-alike : (t : QueueTable) (sqs cqs : List Region) (p : Placing) (command : AdminCommand)
    → rows_of (with_regions t sqs cqs p) command ≡ rows_of (with_regions t t.sq_regions t.cq_regions p) command
rows-alike t sqs cqs p (CreateSq qid qsize prp1 cqid qprio pc) = refl
rows-alike t sqs cqs p (CreateCq qid qsize prp1 pc) = refl
rows-alike t sqs cqs p (DeleteSq qid) = refl
rows-alike t sqs cqs p (DeleteCq qid) = refl
rows-alike t sqs cqs p (SetFeatures fid sv cdw11) = refl
rows-alike t sqs cqs p (GetFeatures fid) = refl
rows-alike t sqs cqs p (Abort sqid cid) = refl
rows-alike t sqs cqs p Other = refl

verdicts-alike : (t : QueueTable) (sqs cqs : List Region) (p : Placing) (command : AdminCommand)
    → verdict_after (with_regions t sqs cqs p) command ≡ verdict_after (with_regions t t.sq_regions t.cq_regions p) command
verdicts-alike t sqs cqs p (CreateSq qid qsize prp1 cqid qprio pc) = refl
verdicts-alike t sqs cqs p (CreateCq qid qsize prp1 pc) = refl
verdicts-alike t sqs cqs p (DeleteSq qid) = refl
verdicts-alike t sqs cqs p (DeleteCq qid) = refl
verdicts-alike t sqs cqs p (SetFeatures fid sv cdw11) = refl
verdicts-alike t sqs cqs p (GetFeatures fid) = refl
verdicts-alike t sqs cqs p (Abort sqid cid) = refl
verdicts-alike t sqs cqs p Other = refl

dw0s-alike : (t : QueueTable) (sqs cqs : List Region) (p : Placing) (command : AdminCommand)
    → dw0_after (with_regions t sqs cqs p) command ≡ dw0_after (with_regions t t.sq_regions t.cq_regions p) command
dw0s-alike t sqs cqs p (CreateSq qid qsize prp1 cqid qprio pc) = refl
dw0s-alike t sqs cqs p (CreateCq qid qsize prp1 pc) = refl
dw0s-alike t sqs cqs p (DeleteSq qid) = refl
dw0s-alike t sqs cqs p (DeleteCq qid) = refl
dw0s-alike t sqs cqs p (SetFeatures fid sv cdw11) = refl
dw0s-alike t sqs cqs p (GetFeatures fid) = refl
dw0s-alike t sqs cqs p (Abort sqid cid) = refl
dw0s-alike t sqs cqs p Other = refl

module _ (a b : QueueTable) (p : Placing) (alike : AreAlike a b) (some : b.placing ≡ Some p) where
  -- the one is the other with its own regions
  first-is : a ≡ with_regions b a.sq_regions a.cq_regions p
  first-is = λ i. record {
    sq = (fun_ext alike.sq) i;
    cq = (fun_ext alike.cq) i;
    sq_regions = a.sq_regions;
    cq_regions = a.cq_regions;
    sq_region_used = (fun_ext alike.sq_region_used) i;
    cq_region_used = (fun_ext alike.cq_region_used) i;
    nsq = alike.nsq i;
    ncq = alike.ncq i;
    numbers_set = alike.numbers_set i;
    created = alike.created i;
    settings = alike.settings i;
    placing = (alike.placing ∙ some) i;
    sqs_made = alike.sqs_made i;
    cqs_made = alike.cqs_made i;
  }

  second-is : with_regions b b.sq_regions b.cq_regions p ≡ b
  second-is = λ i. record b { placing = (sym some) i }

  status-alike : (entry : Sqe) → status_over a entry ≡ status_over b entry
  status-alike entry =
      ap (λ (t : QueueTable). status_over t entry) first-is
      ∙ ap (λ (rows : List Check). first_failed (row (not (fuse_of entry == 0)) invalid_field ∷ placing_rows (Some p) entry ++ rows)) (rows-alike b a.sq_regions a.cq_regions p (admin_command_of entry))
      ∙ ap (λ (t : QueueTable). status_over t entry) second-is

  verdict-alike : (status : StatusCode) (command : AdminCommand) → verdict_by status a command ≡ verdict_by status b command
  verdict-alike status command =
      ap (λ (t : QueueTable). verdict_by status t command) first-is
      ∙ ap (λ (v : Verdict). if is_success status then v else Done status 0) (verdicts-alike b a.sq_regions a.cq_regions p command)
      ∙ ap (λ (t : QueueTable). verdict_by status t command) second-is

  dw0-alike : (status : StatusCode) (command : AdminCommand) → dw0_by status a command ≡ dw0_by status b command
  dw0-alike status command =
      ap (λ (t : QueueTable). dw0_by status t command) first-is
      ∙ ap (λ (n : ℕ). if is_success status then n else 0) (dw0s-alike b a.sq_regions a.cq_regions p command)
      ∙ ap (λ (t : QueueTable). dw0_by status t command) second-is

-- steps that took effect come to the same, but for their regions: their queues and the numbers of these, the admin queues, what was set,
-- where queues may lie, and whether a queue was created
abbrev SameQueues : Effects → Effects → Type 0
SameQueues a b = ((q : ℕ) → io_sq_in a q ≡ io_sq_in b q) × ((q : ℕ) → io_cq_in a q ≡ io_cq_in b q)

abbrev SameNumbers : Effects → Effects → Type 0
SameNumbers a b = (sq_named_in a ≡ sq_named_in b) × (cq_named_in a ≡ cq_named_in b)

abbrev SameAdmin : Effects → Effects → Type 0
SameAdmin a b = (admin_sq (sq_regions_in a) ≡ admin_sq (sq_regions_in b)) × (admin_cq (cq_regions_in a) ≡ admin_cq (cq_regions_in b))

abbrev SameSets : Start → Effects → Effects → Type 0
SameSets start a b = (first_request_in a ≡ first_request_in b) × (settings_in start a ≡ settings_in start b)

abbrev SamePlacing : Effects → Effects → Type 0
SamePlacing a b = (placing_in a ≡ placing_in b) × (is_some (placing_in b) ≡ true)

abbrev Same : Start → Effects → Effects → Type 0
Same start a b = SameQueues a b × SameNumbers a b × SameAdmin a b × SameSets start a b × SamePlacing a b × (created_in a ≡ created_in b)

some-number : (o : Option Placing) (m n : ℕ) (rs us : List Region) (prp1 : ℕ) → is_some o ≡ true → m ≡ n → number_by o m rs prp1 ≡ number_by o n us prp1
some-number None m n rs us prp1 some is = absurd (true≢false (sym some))
some-number (Some p) m n rs us prp1 some is = λ i. Some (suc (is i))

module _ (start : Start) (a b : Effects) (s : Same start a b) where
  tables-alike : AreAlike (table_in start a) (table_in start b)
  tables-alike = record {
    sq = λ q. λ i. if q == 0 then s.2.0 i else (s.0.0 q) i;
    cq = λ q. λ i. if q == 0 then s.2.1 i else (s.0.1 q) i;
    sq_region_used = λ k. λ i. is_used (s.1.0 i) k;
    cq_region_used = λ k. λ i. is_used (s.1.1 i) k;
    nsq = ap (nsq_by start) s.3.0;
    ncq = ap (ncq_by start) s.3.0;
    numbers_set = λ i. is_some (s.3.0 i);
    created = s.5;
    settings = s.3.1;
    placing = s.4.0;
    sqs_made = λ i. length (s.1.0 i);
    cqs_made = λ i. length (s.1.1 i);
  }

  -- the number of a new queue's region
  same-number : (m n : ℕ) (rs us : List Region) (prp1 : ℕ) → m ≡ n → number_by (placing_in a) m rs prp1 ≡ number_by (placing_in b) n us prp1
  same-number m n rs us prp1 is = (λ i. number_by (s.4.0 i) m rs prp1) ∙ some-number (placing_in b) m n rs us prp1 s.4.1 is

  same-command : (command : AdminCommand) → Same start (Accepted command ∷ a) (Accepted command ∷ b)
  same-command (CreateSq qid qsize prp1 cqid qprio pc) =
      let number = same-number (length (sq_named_in a)) (length (sq_named_in b)) (sq_regions_in a) (sq_regions_in b) prp1 (λ i. length (s.1.0 i)) in (
        ((λ q. λ i. if qid == q then Some (record { region = unwrap_or (number i) 0; cqid = cqid; class = class_of qprio; closing = false }) else (s.0.0 q) i), s.0.1),
        ((λ i. option_to_list (number i) ++ s.1.0 i), s.1.1),
        s.2,
        s.3,
        s.4,
        refl,
      )
  same-command (CreateCq qid qsize prp1 pc) =
      let number = same-number (length (cq_named_in a)) (length (cq_named_in b)) (cq_regions_in a) (cq_regions_in b) prp1 (λ i. length (s.1.1 i)) in (
        (s.0.0, (λ q. λ i. if qid == q then Some (unwrap_or (number i) 0) else (s.0.1 q) i)),
        (s.1.0, (λ i. option_to_list (number i) ++ s.1.1 i)),
        s.2,
        s.3,
        s.4,
        refl,
      )
  same-command (DeleteSq qid) = (((λ q. λ i. if qid == q then option_map as_closing ((s.0.0 q) i) else (s.0.0 q) i), s.0.1), s.1, s.2, s.3, s.4, s.5)
  same-command (DeleteCq qid) = ((s.0.0, (λ q. λ i. if qid == q then None else (s.0.1 q) i)), s.1, s.2, s.3, s.4, s.5)
  same-command (SetFeatures fid sv cdw11) = (
    s.0,
    s.1,
    s.2,
    ((λ i. if fid == number_of_queues && is_none (s.3.0 i) then Some cdw11 else s.3.0 i), (λ i. if fid == arbitration then settings_of cdw11 else s.3.1 i)),
    s.4,
    s.5,
  )
  same-command (GetFeatures fid) = s
  same-command (Abort sqid cid) = s
  same-command Other = s

  same-added : (kind : Kind) (address slots : ℕ) → Same start (Added kind address slots ∷ a) (Added kind address slots ∷ b)
  same-added Submission address slots =
      let r : Region = record { address = address; slots = slots } in
      (s.0, s.1, ((admin_sq-append (sq_regions_in a) r r ∙ sym (admin_sq-append (sq_regions_in b) r r)), s.2.1), s.3, s.4, s.5)
  same-added Completion address slots =
      let r : Region = record { address = address; slots = slots } in
      (s.0, s.1, (s.2.0, (admin_cq-append (cq_regions_in a) r ∙ sym (admin_cq-append (cq_regions_in b) r))), s.3, s.4, s.5)

  same-finished : (qid : ℕ) → Same start (Finished qid ∷ a) (Finished qid ∷ b)
  same-finished qid = (((λ q. λ i. if qid == q then unless_closing ((s.0.0 q) i) else (s.0.0 q) i), s.0.1), s.1, s.2, s.3, s.4, s.5)

  same-placed : (p : Placing) → Same start (Anywhere p ∷ a) (Anywhere p ∷ b)
  same-placed p = (s.0, s.1, s.2, s.3, ((λ i. if s.5 i then s.4.0 i else Some p), some-either (created_in b) (placing_in b) p s.4.1), s.5)
    where
      some-either : (c : Bool) (o : Option Placing) (q : Placing) → is_some o ≡ true → is_some (if c then o else Some q) ≡ true
      some-either true o q h = h
      some-either false o q h = refl

  same-status : (entry : Sqe) → status_over (table_in start a) entry ≡ status_over (table_in start b) entry
  same-status entry =
      let found = some-of (placing_in b) s.4.1 in
      status-alike (table_in start a) (table_in start b) found.0 tables-alike found.1 entry

  same-entry : (entry : Sqe) → Same start (after_entry (status_over (table_in start a) entry) (admin_command_of entry) a) (after_entry (status_over (table_in start b) entry) (admin_command_of entry) b)
  same-entry entry =
      subst (λ (status : StatusCode). Same start (after_entry status (admin_command_of entry) a) (after_entry (status_over (table_in start b) entry) (admin_command_of entry) b)) (sym (same-status entry))
      (either (is_success (status_over (table_in start b) entry)) (admin_command_of entry))
    where
      either : (c : Bool) (command : AdminCommand) → Same start (if c then Accepted command ∷ a else a) (if c then Accepted command ∷ b else b)
      either true command = same-command command
      either false command = s

same-later : (start : Start) (later x y : TableHistory) → Same start (effects_of start x) (effects_of start y) → Same start (effects_of start (later ++ x)) (effects_of start (later ++ y))
unfolding effects_of
same-later start [] x y s = s
same-later start (RegionAdded kind address slots ∷ later) x y s = same-added start (effects_of start (later ++ x)) (effects_of start (later ++ y)) (same-later start later x y s) kind address slots
same-later start (DeletionFinished qid ∷ later) x y s = same-finished start (effects_of start (later ++ x)) (effects_of start (later ++ y)) (same-later start later x y s) qid
same-later start (PlacedAnywhere p ∷ later) x y s = same-placed start (effects_of start (later ++ x)) (effects_of start (later ++ y)) (same-later start later x y s) p
same-later start (EntryApplied entry ∷ later) x y s = same-entry start (effects_of start (later ++ x)) (effects_of start (later ++ y)) (same-later start later x y s) entry

-- a further region where one of its kind is there
admin_sq-further : (rs : List Region) (r : Region) → 0 < length rs → admin_sq (rs ++ r ∷ []) ≡ admin_sq rs
admin_sq-further [] r l = absurd (omega arith)
admin_sq-further (x ∷ rs) r l = refl

admin_cq-further : (rs : List Region) (r : Region) → 0 < length rs → admin_cq (rs ++ r ∷ []) ≡ admin_cq rs
admin_cq-further [] r l = absurd (omega arith)
admin_cq-further (x ∷ rs) r l = refl

same-further : (start : Start) (e : Effects) (kind : Kind) (address slots : ℕ) → is_some (placing_in e) ≡ true → HasRegions (table_in start e) → Same start (Added kind address slots ∷ e) e
same-further start e Submission address slots some has =
    (((λ q. refl), (λ q. refl)), (refl, refl), ((admin_sq-further (sq_regions_in e) _ has.sq), refl), (refl, refl), (refl, some), refl)
same-further start e Completion address slots some has =
    (((λ q. refl), (λ q. refl)), (refl, refl), (refl, (admin_cq-further (cq_regions_in e) _ has.cq)), (refl, refl), (refl, some), refl)

-- histories that come to the same
come-to_same : (start : Start) (x y : TableHistory) → ((later : TableHistory) → Same start (effects_of start (later ++ x)) (effects_of start (later ++ y))) → ComeToSame start x y
unfolding effects_of queue_table status_of dw0_of verdict_of
come-to_same start x y all =
    let s = all [] in
    let found = some-of (placing_in (effects_of start y)) s.4.1 in
    let alike = tables-alike start (effects_of start x) (effects_of start y) s in
    let status : (entry : Sqe) → status_of start x entry ≡ status_of start y entry = status-alike (queue_table start x) (queue_table start y) found.0 alike found.1 in
    record {
      alike = alike;
      status = status;
      dw0 = λ entry.
          let after = all (EntryApplied entry ∷ []) in
          let chosen = some-of (placing_in (effects_of start (EntryApplied entry ∷ y))) after.4.1 in
          (λ i. dw0_by (status entry i) (queue_table start (EntryApplied entry ∷ x)) (admin_command_of entry))
          ∙ dw0-alike (queue_table start (EntryApplied entry ∷ x)) (queue_table start (EntryApplied entry ∷ y)) chosen.0
          (tables-alike start (effects_of start (EntryApplied entry ∷ x)) (effects_of start (EntryApplied entry ∷ y)) after) chosen.1 (status_of start y entry) (admin_command_of entry);
      verdict = λ entry.
          let after = all (EntryApplied entry ∷ []) in
          let chosen = some-of (placing_in (effects_of start (EntryApplied entry ∷ y))) after.4.1 in
          (λ i. verdict_by (status entry i) (queue_table start (EntryApplied entry ∷ x)) (admin_command_of entry))
          ∙ verdict-alike (queue_table start (EntryApplied entry ∷ x)) (queue_table start (EntryApplied entry ∷ y)) chosen.0
          (tables-alike start (effects_of start (EntryApplied entry ∷ x)) (effects_of start (EntryApplied entry ∷ y)) after) chosen.1 (status_of start y entry) (admin_command_of entry);
    }

pub regions-dont_matter : RegionsDontMatter
unfolding effects_of queue_table
regions-dont_matter start later first kind address slots some has =
    let here : Same start (effects_of start (RegionAdded kind address slots ∷ first)) (effects_of start first) = same-further start (effects_of start first) kind address slots some has in
    come-to_same start (later ++ RegionAdded kind address slots ∷ first) (later ++ first)
    (λ more. same-later start more (later ++ RegionAdded kind address slots ∷ first) (later ++ first) (same-later start later (RegionAdded kind address slots ∷ first) first here))
