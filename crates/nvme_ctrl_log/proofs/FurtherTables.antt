-- Table histories to one of which a region was added before: entries that don't name its address, and all entries where queues may lie anywhere, are answered
-- alike after both.
use Rattle.std.proofs.Common.{◌≡◌, ℕ, ◌+◌, ◌<◌, ◌==◌, ◌&&◌, ◌||◌, Bool, true, false, not, nat_lt, if◌then◌else◌, List, [], ◌∷◌, ◌++◌, length, Option, Some, None, is_none, is_some, option_map, option_to_list, unwrap_or, refl, sym, ap, ◌∙◌, subst, arith, inl, inr, true≢false}
use Rattle.std.specs.Prelude.{◌⊎◌}
use Rattle.nvme_entry.specs.Status.{StatusCode, invalid_field, completion_queue_invalid, invalid_queue_identifier, invalid_queue_size}
use Rattle.nvme_entry.specs.Checks.{Check, first_failed}
use Rattle.nvme_entry.specs.Submission.{fuse_of}
use Rattle.nvme_entry.specs.AdminCommand.{admin_command_of}
use Rattle.nvme_entry.specs.declared.submission.Sqe.{Sqe}
use Rattle.nvme_entry.specs.declared.admin.AdminCommand.{AdminCommand}
use Rattle.nvme_entry.specs.declared.admin.AdminCommand.TheVariants.{DeleteSq, CreateSq, DeleteCq, CreateCq, Abort, SetFeatures, GetFeatures, Other}
use Rattle.nvme_arbiter.specs.Settings.{settings_of}
use Rattle.nvme_admin.specs.declared.bounds.TheConstants.{MAX_QSIZE}
use Rattle.nvme_admin.specs.declared.region.Region.{Region}
use Rattle.nvme_admin.specs.declared.verdict.Verdict.TheVariants.{Done}
use Rattle.nvme_admin.specs.History.{Start, TableHistory, Placing, RegionAdded, EntryApplied, DeletionFinished, Kind, Submission, Completion, Effects, Added, Accepted, Finished}
use Rattle.nvme_admin.specs.QueueTable.{QueueTable, table_in, number_by, placing_in, class_of, as_closing, unless_closing, is_used, admin_sq, admin_cq, arbitration, number_of_queues, sq_regions_in, cq_regions_in, sq_named_in, cq_named_in, io_sq_in, io_cq_in, first_request_in, created_in, settings_in, nsq_by, ncq_by}
use Rattle.nvme_admin.specs.Checks.{row, rows_of, is_free, placing_rows, status_over, is_success, verdict_by, verdict_after, dw0_by, dw0_after}
use Rattle.nvme_admin.specs.Accepted.{after_entry, effects_of, queue_table, status_of, verdict_of, dw0_of}
use Rattle.nvme_ctrl_log.specs.Making.{command_names}
use Rattle.nvme_ctrl_log.proofs.FurtherRegion.{sqs_with, cqs_with, sq_number_with, cq_number_with, sq_free_with, cq_free_with}

-- a queue table with a region more
abbrev pub table_with : Kind → (a n : ℕ) → QueueTable → QueueTable
table_with kind a n t = record t { sq_regions = sqs_with kind a n t.sq_regions; cq_regions = cqs_with kind a n t.cq_regions }

-- a command asks for no region at an address: it doesn't name the address, or queues may lie anywhere
abbrev pub PassesBy : ℕ → Option Placing → AdminCommand → Type 0
PassesBy a placing command = (command_names a command ≡ false) ⊎ (is_some placing ≡ true)

-- whether no region is free where one is wanted: none is wanted where queues may lie anywhere
wanted_same : (placing : Option Placing) (x y : Bool) → (x ≡ y) ⊎ (is_some placing ≡ true) → (is_none placing && not x) ≡ (is_none placing && not y)
wanted_same None x y (inl same) = ap not same
wanted_same None x y (inr some) = absurd (true≢false (sym some))
wanted_same (Some p) x y either = refl

-- what one of two cases gives
pub in_first : {A B C : Type 0} → (A → B) → A ⊎ C → B ⊎ C
in_first f (inl x) = inl (f x)
in_first f (inr z) = inr z

module _ (start : Start) (kind : Kind) (a n : ℕ) where
  -- ---- a table with a region more
  -- a command that doesn't ask for it is checked alike
  rows_with : (t : QueueTable) (command : AdminCommand) → PassesBy a t.placing command → rows_of (table_with kind a n t) command ≡ rows_of t command
  rows_with t (CreateCq qid qsize prp1 pc) other =
      ap (λ (lacks : Bool).
      row (not pc) invalid_field
      ∷ row (qid == 0 || nat_lt t.ncq qid || is_some (t.cq qid)) invalid_queue_identifier
      ∷ row (qsize == 0 || nat_lt MAX_QSIZE qsize) invalid_queue_size
      ∷ row lacks invalid_field
      ∷ [])
      (wanted_same t.placing (is_free (cqs_with kind a n t.cq_regions) t.cq_region_used prp1 (qsize + 1)) (is_free t.cq_regions t.cq_region_used prp1 (qsize + 1))
      (in_first (λ (e : (a == prp1) ≡ false). cq_free_with a n prp1 e kind t.cq_regions t.cq_region_used (qsize + 1)) other))
  rows_with t (CreateSq qid qsize prp1 cqid qprio pc) other =
      ap (λ (lacks : Bool).
      row (not pc) invalid_field
      ∷ row (qid == 0 || nat_lt t.nsq qid || is_some (t.sq qid)) invalid_queue_identifier
      ∷ row (qsize == 0 || nat_lt MAX_QSIZE qsize) invalid_queue_size
      ∷ row (cqid == 0 || nat_lt t.ncq cqid) invalid_queue_identifier
      ∷ row (is_none (t.cq cqid)) completion_queue_invalid
      ∷ row lacks invalid_field
      ∷ [])
      (wanted_same t.placing (is_free (sqs_with kind a n t.sq_regions) t.sq_region_used prp1 (qsize + 1)) (is_free t.sq_regions t.sq_region_used prp1 (qsize + 1))
      (in_first (λ (e : (a == prp1) ≡ false). sq_free_with a n prp1 e kind t.sq_regions t.sq_region_used (qsize + 1)) other))
  rows_with t (DeleteSq qid) other = refl
  rows_with t (DeleteCq qid) other = refl
  rows_with t (Abort sqid cid) other = refl
  rows_with t (SetFeatures fid sv cdw11) other = refl
  rows_with t (GetFeatures fid) other = refl
  rows_with t Other other = refl

  status_with : (t : QueueTable) (entry : Sqe) → PassesBy a t.placing (admin_command_of entry) → status_over (table_with kind a n t) entry ≡ status_over t entry
  status_with t entry other = ap (λ (rows : List Check). first_failed (row (not (fuse_of entry == 0)) invalid_field ∷ placing_rows t.placing entry ++ rows)) (rows_with t (admin_command_of entry) other)

  -- what is answered of an accepted command doesn't rest on regions
  verdict_with : (t : QueueTable) (command : AdminCommand) → verdict_after (table_with kind a n t) command ≡ verdict_after t command
  verdict_with t (CreateSq qid qsize prp1 cqid qprio pc) = refl
  verdict_with t (CreateCq qid qsize prp1 pc) = refl
  verdict_with t (DeleteSq qid) = refl
  verdict_with t (DeleteCq qid) = refl
  verdict_with t (Abort sqid cid) = refl
  verdict_with t (SetFeatures fid sv cdw11) = refl
  verdict_with t (GetFeatures fid) = refl
  verdict_with t Other = refl

  dw0_with : (t : QueueTable) (command : AdminCommand) → dw0_after (table_with kind a n t) command ≡ dw0_after t command
  dw0_with t (CreateSq qid qsize prp1 cqid qprio pc) = refl
  dw0_with t (CreateCq qid qsize prp1 pc) = refl
  dw0_with t (DeleteSq qid) = refl
  dw0_with t (DeleteCq qid) = refl
  dw0_with t (Abort sqid cid) = refl
  dw0_with t (SetFeatures fid sv cdw11) = refl
  dw0_with t (GetFeatures fid) = refl
  dw0_with t Other = refl

  -- ---- effects
  -- the effects f make what the effects e make, with the region more. The admin regions are there
  record Further (e f : Effects) : Type 0 where
    sqs : sq_regions_in f ≡ sqs_with kind a n (sq_regions_in e)
    cqs : cq_regions_in f ≡ cqs_with kind a n (cq_regions_in e)
    io_sq : (q : ℕ) → io_sq_in f q ≡ io_sq_in e q
    io_cq : (q : ℕ) → io_cq_in f q ≡ io_cq_in e q
    sq_named : sq_named_in f ≡ sq_named_in e
    cq_named : cq_named_in f ≡ cq_named_in e
    request : first_request_in f ≡ first_request_in e
    created : created_in f ≡ created_in e
    settings : settings_in start f ≡ settings_in start e
    placing : placing_in f ≡ placing_in e
    some_sqs : 0 < length (sq_regions_in e)
    some_cqs : 0 < length (cq_regions_in e)

  -- the admin queues stay
  same_admin_sq : (rs : List Region) → 0 < length rs → (k : Kind) → admin_sq (sqs_with k a n rs) ≡ admin_sq rs
  same_admin_sq [] lt k = absurd (omega (arith, lt))
  same_admin_sq (r ∷ rs) lt Submission = refl
  same_admin_sq (r ∷ rs) lt Completion = refl

  same_admin_cq : (rs : List Region) → 0 < length rs → (k : Kind) → admin_cq (cqs_with k a n rs) ≡ admin_cq rs
  same_admin_cq [] lt k = absurd (omega (arith, lt))
  same_admin_cq (r ∷ rs) lt Submission = refl
  same_admin_cq (r ∷ rs) lt Completion = refl

  -- so their tables are alike but for it
  further_table : (e f : Effects) → Further e f → table_in start f ≡ table_with kind a n (table_in start e)
  further_table e f s =
      let of_sqs : admin_sq (sq_regions_in f) ≡ admin_sq (sq_regions_in e) = ap admin_sq s.sqs ∙ same_admin_sq (sq_regions_in e) s.some_sqs kind in
      let of_cqs : admin_cq (cq_regions_in f) ≡ admin_cq (cq_regions_in e) = ap admin_cq s.cqs ∙ same_admin_cq (cq_regions_in e) s.some_cqs kind in
      λ i. record {
        sq = λ q. if q == 0 then of_sqs i else s.io_sq q i;
        cq = λ q. if q == 0 then of_cqs i else s.io_cq q i;
        sq_regions = s.sqs i;
        cq_regions = s.cqs i;
        sq_region_used = is_used (s.sq_named i);
        cq_region_used = is_used (s.cq_named i);
        nsq = nsq_by start (s.request i);
        ncq = ncq_by start (s.request i);
        numbers_set = is_some (s.request i);
        created = s.created i;
        settings = s.settings i;
        placing = s.placing i;
        sqs_made = length (s.sq_named i);
        cqs_made = length (s.cq_named i);
      }

  -- a queue that is created at another address has the region number that it had, on a region or anywhere
  sq_next_with : (placing : Option Placing) (made prp1 : ℕ) → ((a == prp1) ≡ false) ⊎ (is_some placing ≡ true) → (rs : List Region) → number_by placing made (sqs_with kind a n rs) prp1 ≡ number_by placing made rs prp1
  sq_next_with None made prp1 (inl other) rs = sq_number_with a n prp1 other kind rs
  sq_next_with None made prp1 (inr some) rs = absurd (true≢false (sym some))
  sq_next_with (Some p) made prp1 other rs = refl

  cq_next_with : (placing : Option Placing) (made prp1 : ℕ) → ((a == prp1) ≡ false) ⊎ (is_some placing ≡ true) → (rs : List Region) → number_by placing made (cqs_with kind a n rs) prp1 ≡ number_by placing made rs prp1
  cq_next_with None made prp1 (inl other) rs = cq_number_with a n prp1 other kind rs
  cq_next_with None made prp1 (inr some) rs = absurd (true≢false (sym some))
  cq_next_with (Some p) made prp1 other rs = refl

  -- they stay so by an accepted command that doesn't ask for it
  further_accepted : (e f : Effects) (command : AdminCommand) → PassesBy a (placing_in e) command → Further e f → Further (Accepted command ∷ e) (Accepted command ∷ f)
  further_accepted e f (CreateSq qid qsize prp1 cqid qprio pc) other s =
      let number : number_by (placing_in f) (length (sq_named_in f)) (sq_regions_in f) prp1 ≡ number_by (placing_in e) (length (sq_named_in e)) (sq_regions_in e) prp1 =
      (λ i. number_by (s.placing i) (length (s.sq_named i)) (s.sqs i) prp1) ∙ sq_next_with (placing_in e) (length (sq_named_in e)) prp1 other (sq_regions_in e) in
      record {
        sqs = s.sqs;
        cqs = s.cqs;
        io_sq = λ q. λ i. if qid == q then Some (record { region = unwrap_or (number i) 0; cqid = cqid; class = class_of qprio; closing = false }) else s.io_sq q i;
        io_cq = s.io_cq;
        sq_named = λ i. option_to_list (number i) ++ s.sq_named i;
        cq_named = s.cq_named;
        request = s.request;
        created = refl;
        settings = s.settings;
        placing = s.placing;
        some_sqs = s.some_sqs;
        some_cqs = s.some_cqs;
      }
  further_accepted e f (CreateCq qid qsize prp1 pc) other s =
      let number : number_by (placing_in f) (length (cq_named_in f)) (cq_regions_in f) prp1 ≡ number_by (placing_in e) (length (cq_named_in e)) (cq_regions_in e) prp1 =
      (λ i. number_by (s.placing i) (length (s.cq_named i)) (s.cqs i) prp1) ∙ cq_next_with (placing_in e) (length (cq_named_in e)) prp1 other (cq_regions_in e) in
      record {
        sqs = s.sqs;
        cqs = s.cqs;
        io_sq = s.io_sq;
        io_cq = λ q. λ i. if qid == q then Some (unwrap_or (number i) 0) else s.io_cq q i;
        sq_named = s.sq_named;
        cq_named = λ i. option_to_list (number i) ++ s.cq_named i;
        request = s.request;
        created = refl;
        settings = s.settings;
        placing = s.placing;
        some_sqs = s.some_sqs;
        some_cqs = s.some_cqs;
      }
  further_accepted e f (DeleteSq qid) other s = record {
    sqs = s.sqs;
    cqs = s.cqs;
    io_sq = λ q. λ i. if qid == q then option_map as_closing (s.io_sq q i) else s.io_sq q i;
    io_cq = s.io_cq;
    sq_named = s.sq_named;
    cq_named = s.cq_named;
    request = s.request;
    created = s.created;
    settings = s.settings;
    placing = s.placing;
    some_sqs = s.some_sqs;
    some_cqs = s.some_cqs;
  }
  further_accepted e f (DeleteCq qid) other s = record {
    sqs = s.sqs;
    cqs = s.cqs;
    io_sq = s.io_sq;
    io_cq = λ q. λ i. if qid == q then None else s.io_cq q i;
    sq_named = s.sq_named;
    cq_named = s.cq_named;
    request = s.request;
    created = s.created;
    settings = s.settings;
    placing = s.placing;
    some_sqs = s.some_sqs;
    some_cqs = s.some_cqs;
  }
  further_accepted e f (SetFeatures fid sv cdw11) other s = record {
    sqs = s.sqs;
    cqs = s.cqs;
    io_sq = s.io_sq;
    io_cq = s.io_cq;
    sq_named = s.sq_named;
    cq_named = s.cq_named;
    request = λ i. if fid == number_of_queues && is_none (s.request i) then Some cdw11 else s.request i;
    created = s.created;
    settings = λ i. if fid == arbitration then settings_of cdw11 else s.settings i;
    placing = s.placing;
    some_sqs = s.some_sqs;
    some_cqs = s.some_cqs;
  }
  further_accepted e f (GetFeatures fid) other s = record {
    sqs = s.sqs;
    cqs = s.cqs;
    io_sq = s.io_sq;
    io_cq = s.io_cq;
    sq_named = s.sq_named;
    cq_named = s.cq_named;
    request = s.request;
    created = s.created;
    settings = s.settings;
    placing = s.placing;
    some_sqs = s.some_sqs;
    some_cqs = s.some_cqs;
  }
  further_accepted e f (Abort sqid cid) other s = record {
    sqs = s.sqs;
    cqs = s.cqs;
    io_sq = s.io_sq;
    io_cq = s.io_cq;
    sq_named = s.sq_named;
    cq_named = s.cq_named;
    request = s.request;
    created = s.created;
    settings = s.settings;
    placing = s.placing;
    some_sqs = s.some_sqs;
    some_cqs = s.some_cqs;
  }
  further_accepted e f Other other s = record {
    sqs = s.sqs;
    cqs = s.cqs;
    io_sq = s.io_sq;
    io_cq = s.io_cq;
    sq_named = s.sq_named;
    cq_named = s.cq_named;
    request = s.request;
    created = s.created;
    settings = s.settings;
    placing = s.placing;
    some_sqs = s.some_sqs;
    some_cqs = s.some_cqs;
  }

  -- by the end of a deletion
  further_finished : (e f : Effects) (qid : ℕ) → Further e f → Further (Finished qid ∷ e) (Finished qid ∷ f)
  further_finished e f qid s = record {
    sqs = s.sqs;
    cqs = s.cqs;
    io_sq = λ q. λ i. if qid == q then unless_closing (s.io_sq q i) else s.io_sq q i;
    io_cq = s.io_cq;
    sq_named = s.sq_named;
    cq_named = s.cq_named;
    request = s.request;
    created = s.created;
    settings = s.settings;
    placing = s.placing;
    some_sqs = s.some_sqs;
    some_cqs = s.some_cqs;
  }

  -- and by an entry
  further_entry : (e f : Effects) (entry : Sqe) → PassesBy a (placing_in e) (admin_command_of entry) → Further e f
      → Further (after_entry (status_over (table_in start e) entry) (admin_command_of entry) e) (after_entry (status_over (table_in start f) entry) (admin_command_of entry) f)
  further_entry e f entry other s =
      let same : status_over (table_in start f) entry ≡ status_over (table_in start e) entry =
      ap (λ (t : QueueTable). status_over t entry) (further_table e f s) ∙ status_with (table_in start e) entry other in
      subst (λ (st : StatusCode). Further (after_entry (status_over (table_in start e) entry) (admin_command_of entry) e) (after_entry st (admin_command_of entry) f)) (sym same)
      (by (is_success (status_over (table_in start e) entry)))
    where
      by : (b : Bool) → Further (if b then Accepted (admin_command_of entry) ∷ e else e) (if b then Accepted (admin_command_of entry) ∷ f else f)
      by true = further_accepted e f (admin_command_of entry) other s
      by false = s

  -- ---- histories
  -- a history makes what another does, with the region more
  pub record IsFurther (h g : TableHistory) : Type 0 where
    effects : Further (effects_of start h) (effects_of start g)

  -- where the region is added last
  pub added-further : (h : TableHistory) → 0 < length (queue_table start h).sq_regions → 0 < length (queue_table start h).cq_regions → IsFurther h (RegionAdded kind a n ∷ h)
  unfolding effects_of queue_table
  added-further h sqs cqs = record {
    effects = record {
      sqs = more_sqs kind (effects_of start h);
      cqs = more_cqs kind (effects_of start h);
      io_sq = λ q. refl;
      io_cq = λ q. refl;
      sq_named = refl;
      cq_named = refl;
      request = refl;
      created = refl;
      settings = refl;
      placing = refl;
      some_sqs = sqs;
      some_cqs = cqs;
    };
  } where
    more_sqs : (k : Kind) (e : Effects) → sq_regions_in (Added k a n ∷ e) ≡ sqs_with k a n (sq_regions_in e)
    more_sqs Submission e = refl
    more_sqs Completion e = refl

    more_cqs : (k : Kind) (e : Effects) → cq_regions_in (Added k a n ∷ e) ≡ cqs_with k a n (cq_regions_in e)
    more_cqs Submission e = refl
    more_cqs Completion e = refl

  -- where it was added before
  pub entry-further : (h g : TableHistory) (entry : Sqe) → PassesBy a (queue_table start h).placing (admin_command_of entry) → IsFurther h g → IsFurther (EntryApplied entry ∷ h) (EntryApplied entry ∷ g)
  unfolding effects_of queue_table
  entry-further h g entry other s = record { effects = further_entry (effects_of start h) (effects_of start g) entry other s.effects }

  pub finished-further : (h g : TableHistory) (qid : ℕ) → IsFurther h g → IsFurther (DeletionFinished qid ∷ h) (DeletionFinished qid ∷ g)
  unfolding effects_of
  finished-further h g qid s = record { effects = further_finished (effects_of start h) (effects_of start g) qid s.effects }

  -- the tables are alike but for the region
  pub table-further : (h g : TableHistory) → IsFurther h g → queue_table start g ≡ table_with kind a n (queue_table start h)
  unfolding queue_table
  table-further h g s = further_table (effects_of start h) (effects_of start g) s.effects

  -- the admin regions are there
  pub sqs-further : (h g : TableHistory) → IsFurther h g → 0 < length (queue_table start h).sq_regions
  unfolding queue_table
  sqs-further h g s = s.effects.some_sqs

  pub cqs-further : (h g : TableHistory) → IsFurther h g → 0 < length (queue_table start h).cq_regions
  unfolding queue_table
  cqs-further h g s = s.effects.some_cqs

  -- an entry that doesn't ask for it is answered alike
  pub status-further : (h g : TableHistory) (entry : Sqe) → PassesBy a (queue_table start h).placing (admin_command_of entry) → IsFurther h g → status_of start g entry ≡ status_of start h entry
  unfolding status_of
  status-further h g entry other s = ap (λ (t : QueueTable). status_over t entry) (table-further h g s) ∙ status_with (queue_table start h) entry other

  pub verdict-further : (h g : TableHistory) (entry : Sqe) → PassesBy a (queue_table start h).placing (admin_command_of entry) → IsFurther h g → verdict_of start g entry ≡ verdict_of start h entry
  unfolding verdict_of
  verdict-further h g entry other s =
      let t : QueueTable = queue_table start (EntryApplied entry ∷ h) in
      let after = table-further (EntryApplied entry ∷ h) (EntryApplied entry ∷ g) (entry-further h g entry other s) in
      (λ i. verdict_by (status-further h g entry other s i) (after i) (admin_command_of entry))
      ∙ (λ i. if is_success (status_of start h entry) then verdict_with t (admin_command_of entry) i else Done (status_of start h entry) 0)

  pub dw0-further : (h g : TableHistory) (entry : Sqe) → PassesBy a (queue_table start h).placing (admin_command_of entry) → IsFurther h g → dw0_of start g entry ≡ dw0_of start h entry
  unfolding dw0_of
  dw0-further h g entry other s =
      let t : QueueTable = queue_table start (EntryApplied entry ∷ h) in
      let after = table-further (EntryApplied entry ∷ h) (EntryApplied entry ∷ g) (entry-further h g entry other s) in
      (λ i. dw0_by (status-further h g entry other s i) (after i) (admin_command_of entry))
      ∙ (λ i. if is_success (status_of start h entry) then dw0_with t (admin_command_of entry) i else 0)
