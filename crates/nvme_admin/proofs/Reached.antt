-- What is true of every table that a history reaches, and what it means that a command passes its checks.
use Rattle.std.proofs.Common.{◌≡◌, ℕ, suc, ◌+◌, ◌<◌, ◌≤◌, ◌==◌, ◌||◌, ◌&&◌, Bool, true, false, not, nat_lt, if◌then◌else◌, List, [], ◌∷◌, ◌++◌, length, Option, Some, None, is_some, is_none, refl, sym, ◌∙◌, ap, subst, arith, inl, inr, true≢false, ltb-false, slice_get, get_or, eqb-true}
use Rattle.std.proofs.lemmas.Bool.{cases_Bool, eqb-false}
use Rattle.std.proofs.lemmas.List.Quantifiers.{position-Some}
use Rattle.std.proofs.lemmas.Option.{none-some, slice_get-get_or}
use Rattle.nvme_entry.specs.Status.{StatusCode, invalid_field}
use Rattle.nvme_entry.specs.Checks.{Check, first_failed}
use Rattle.nvme_entry.specs.Submission.{fuse_of}
use Rattle.nvme_entry.specs.AdminCommand.{admin_command_of}
use Rattle.nvme_entry.specs.declared.submission.Sqe.{Sqe}
use Rattle.nvme_entry.specs.declared.admin.AdminCommand.{AdminCommand}
use Rattle.nvme_entry.specs.declared.admin.AdminCommand.TheVariants.{DeleteSq, CreateSq, DeleteCq, CreateCq, Abort, SetFeatures, GetFeatures, Other}
use Rattle.nvme_admin.specs.declared.region.Region.{Region}
use Rattle.nvme_admin.specs.History.{Start, TableHistory, Placing, RegionAdded, EntryApplied, DeletionFinished, PlacedAnywhere, Kind, Effects, Added, Accepted, Finished, Anywhere}
use Rattle.nvme_admin.specs.QueueTable.{QueueTable, table_in, region_number, number_by, number_of_queues}
use Rattle.nvme_admin.specs.Checks.{rows_of, placing_rows, placing_rows_of, status_over, is_success, is_open, is_attached, is_free, is_fit, has_slots}
use Rattle.nvme_admin.specs.Accepted.{effects_of}

-- a command passes its checks
abbrev pub Passes : QueueTable → AdminCommand → Type 0
Passes t command = is_success (first_failed (rows_of t command)) ≡ true

-- ---- tests
pub or_false-parts : (a b : Bool) → (a || b) ≡ false → (a ≡ false) × (b ≡ false)
or_false-parts true b h = absurd (true≢false h)
or_false-parts false b h = (refl, h)

pub and_true-parts : (a b : Bool) → (a && b) ≡ true → (a ≡ true) × (b ≡ true)
and_true-parts true b h = (refl, h)
and_true-parts false b h = absurd (true≢false (sym h))

pub not_false : (a : Bool) → not a ≡ false → a ≡ true
not_false true h = refl
not_false false h = absurd (true≢false h)

pub not_true : (a : Bool) → not a ≡ true → a ≡ false
not_true false h = refl
not_true true h = absurd (true≢false (sym h))

pub not_some : {A : Type 0} (o : Option A) → is_some o ≡ false → o ≡ None
not_some None h = refl
not_some (Some x) h = absurd (true≢false h)

pub not_none : {A : Type 0} (o : Option A) → is_none o ≡ false → is_some o ≡ true
not_none None h = absurd (true≢false h)
not_none (Some x) h = refl

-- each row gives a failure
abbrev pub AllFailures : List Check → Type 0
AllFailures [] = Unit {0}
AllFailures (r ∷ rs) = (is_success r.status ≡ false) × AllFailures rs

-- no row matches
abbrev pub NoneMatches : List Check → Type 0
NoneMatches [] = Unit {0}
NoneMatches (r ∷ rs) = (r.fails ≡ false) × NoneMatches rs

first_test : (b : Bool) (s r : StatusCode) → is_success s ≡ false → is_success (if b then s else r) ≡ true → (b ≡ false) × (is_success r ≡ true)
first_test true s r f h = absurd (true≢false (sym h ∙ f))
first_test false s r f h = (refl, h)

-- no row of failures matches where success comes out
pub none-matches : (rows : List Check) → AllFailures rows → is_success (first_failed rows) ≡ true → NoneMatches rows
none-matches [] f h = tt
none-matches (r ∷ rs) f h =
    let first = first_test r.fails r.status (first_failed rs) f.0 h in
    (first.0, none-matches rs f.1 first.1)

-- ---- what a command that passes has found
-- where queues may lie anywhere, no number above those of the queues that were made is used
abbrev pub AreFresh : Option Placing → ℕ → (ℕ → Bool) → Type 0
AreFresh placing made used = is_some placing ≡ true → (k : ℕ) → made < k → used k ≡ false

-- a new queue has a region that is unused
pub record FindsRegion (placing : Option Placing) (made : ℕ) (regions : List Region) (used : ℕ → Bool) (address : ℕ) : Type 0 where
  pub number : ℕ
  pub found : number_by placing made regions address ≡ Some number
  pub unused : AreFresh placing made used → used number ≡ false
  pub there : placing ≡ None → number < length regions

finds-fit : (made : ℕ) (regions : List Region) (used : ℕ → Bool) (address slots : ℕ) (o : Option ℕ) → region_number regions address ≡ o → is_fit regions used slots o ≡ true
    → FindsRegion None made regions used address
finds-fit made regions used address slots None e h = absurd (true≢false (sym h))
finds-fit made regions used address slots (Some k) e h =
    let parts = and_true-parts (has_slots (slice_get regions k) slots) (not (used k)) h in
    record {
      number = k;
      found = e;
      unused = λ fresh. not_true (used k) parts.1;
      there = λ by_regions. (position-Some (λ (r : Region). r.address == address) regions k (record { address = 0; slots = 0 }) e).0;
    }

finds : (placing : Option Placing) (made : ℕ) (regions : List Region) (used : ℕ → Bool) (address slots : ℕ)
    → (is_none placing && not (is_free regions used address slots)) ≡ false → FindsRegion placing made regions used address
finds None made regions used address slots h =
    finds-fit made regions used address slots (region_number regions address) refl (not_false (is_free regions used address slots) h)
finds (Some p) made regions used address slots h = record {
  number = suc made;
  found = refl;
  unused = λ fresh. fresh refl (suc made) (omega arith);
  there = λ by_regions. absurd (none-some p (sym by_regions));
}

-- the unused region at an address, with its slots
asked-fit : (regions : List Region) (used : ℕ → Bool) (address slots : ℕ) (o : Option ℕ) → region_number regions address ≡ o → is_fit regions used slots o ≡ true
    → (k : ℕ) × (region_number regions address ≡ Some k) × (slice_get regions k ≡ Some (record { address = address; slots = slots }))
asked-fit regions used address slots None e h = absurd (true≢false (sym h))
asked-fit regions used address slots (Some k) e h =
    let parts = and_true-parts (has_slots (slice_get regions k) slots) (not (used k)) h in
    let none : Region = record { address = 0; slots = 0 } in
    let found = position-Some (λ (r : Region). r.address == address) regions k none e in
    let here : slice_get regions k ≡ Some (get_or regions k none) = slice_get-get_or regions k none found.0 in
    let of_slots : ((get_or regions k none).slots == slots) ≡ true = sym (ap (λ (o : Option Region). has_slots o slots) here) ∙ parts.0 in
    let at : (get_or regions k none).address ≡ address = eqb-true (get_or regions k none).address address found.1 in
    let long : (get_or regions k none).slots ≡ slots = eqb-true (get_or regions k none).slots slots of_slots in
    (k, e, here ∙ (λ i. Some (record { address = at i; slots = long i })))

pub asked : (placing : Option Placing) (made : ℕ) (regions : List Region) (used : ℕ → Bool) (address slots : ℕ) → placing ≡ None
    → (is_none placing && not (is_free regions used address slots)) ≡ false
    → (k : ℕ) × (number_by placing made regions address ≡ Some k) × (slice_get regions k ≡ Some (record { address = address; slots = slots }))
asked None made regions used address slots by_regions h =
    asked-fit regions used address slots (region_number regions address) refl (not_false (is_free regions used address slots) h)
asked (Some p) made regions used address slots by_regions h = absurd (none-some p (sym by_regions))

pub record FoundSq (t : QueueTable) (qid prp1 cqid : ℕ) : Type 0 where
  pub not_admin : qid ≡ 0 → ⊥
  pub in_range : qid ≤ t.nsq
  pub free : t.sq qid ≡ None
  pub cq_not_admin : cqid ≡ 0 → ⊥
  pub cq_open : is_some (t.cq cqid) ≡ true
  pub region : FindsRegion t.placing t.sqs_made t.sq_regions t.sq_region_used prp1

pub create_sq-found : (t : QueueTable) (qid qsize prp1 cqid qprio : ℕ) (pc : Bool) → Passes t (CreateSq qid qsize prp1 cqid qprio pc) → FoundSq t qid prp1 cqid
create_sq-found t qid qsize prp1 cqid qprio pc h =
    let r = none-matches (rows_of t (CreateSq qid qsize prp1 cqid qprio pc)) (refl, (refl, (refl, (refl, (refl, (refl, tt)))))) h in
    let ids = or_false-parts (qid == 0 || nat_lt t.nsq qid) (is_some (t.sq qid)) r.1.0 in
    let range = or_false-parts (qid == 0) (nat_lt t.nsq qid) ids.0 in
    let cqids = or_false-parts (cqid == 0) (nat_lt t.ncq cqid) r.1.1.1.0 in
    record {
      not_admin = eqb-false qid 0 range.0;
      in_range = ltb-false t.nsq qid range.1;
      free = not_some (t.sq qid) ids.1;
      cq_not_admin = eqb-false cqid 0 cqids.0;
      cq_open = not_none (t.cq cqid) r.1.1.1.1.0;
      region = finds t.placing t.sqs_made t.sq_regions t.sq_region_used prp1 (qsize + 1) r.1.1.1.1.1.0;
    }

pub record FoundCq (t : QueueTable) (qid prp1 : ℕ) : Type 0 where
  pub not_admin : qid ≡ 0 → ⊥
  pub in_range : qid ≤ t.ncq
  pub free : t.cq qid ≡ None
  pub region : FindsRegion t.placing t.cqs_made t.cq_regions t.cq_region_used prp1

pub create_cq-found : (t : QueueTable) (qid qsize prp1 : ℕ) (pc : Bool) → Passes t (CreateCq qid qsize prp1 pc) → FoundCq t qid prp1
create_cq-found t qid qsize prp1 pc h =
    let r = none-matches (rows_of t (CreateCq qid qsize prp1 pc)) (refl, (refl, (refl, (refl, tt)))) h in
    let ids = or_false-parts (qid == 0 || nat_lt t.ncq qid) (is_some (t.cq qid)) r.1.0 in
    let range = or_false-parts (qid == 0) (nat_lt t.ncq qid) ids.0 in
    record {
      not_admin = eqb-false qid 0 range.0;
      in_range = ltb-false t.ncq qid range.1;
      free = not_some (t.cq qid) ids.1;
      region = finds t.placing t.cqs_made t.cq_regions t.cq_region_used prp1 (qsize + 1) r.1.1.1.0;
    }

pub create_sq-asked : (t : QueueTable) (qid qsize prp1 cqid qprio : ℕ) (pc : Bool) → t.placing ≡ None → Passes t (CreateSq qid qsize prp1 cqid qprio pc)
    → (k : ℕ) × (number_by t.placing t.sqs_made t.sq_regions prp1 ≡ Some k) × (slice_get t.sq_regions k ≡ Some (record { address = prp1; slots = qsize + 1 }))
create_sq-asked t qid qsize prp1 cqid qprio pc by_regions h =
    let r = none-matches (rows_of t (CreateSq qid qsize prp1 cqid qprio pc)) (refl, (refl, (refl, (refl, (refl, (refl, tt)))))) h in
    asked t.placing t.sqs_made t.sq_regions t.sq_region_used prp1 (qsize + 1) by_regions r.1.1.1.1.1.0

pub create_cq-asked : (t : QueueTable) (qid qsize prp1 : ℕ) (pc : Bool) → t.placing ≡ None → Passes t (CreateCq qid qsize prp1 pc)
    → (k : ℕ) × (number_by t.placing t.cqs_made t.cq_regions prp1 ≡ Some k) × (slice_get t.cq_regions k ≡ Some (record { address = prp1; slots = qsize + 1 }))
create_cq-asked t qid qsize prp1 pc by_regions h =
    let r = none-matches (rows_of t (CreateCq qid qsize prp1 pc)) (refl, (refl, (refl, (refl, tt)))) h in
    asked t.placing t.cqs_made t.cq_regions t.cq_region_used prp1 (qsize + 1) by_regions r.1.1.1.0

pub delete_sq-found : (t : QueueTable) (qid : ℕ) → Passes t (DeleteSq qid) → (qid ≡ 0 → ⊥) × (is_open (t.sq qid) ≡ true)
delete_sq-found t qid h =
    let r = none-matches (rows_of t (DeleteSq qid)) (refl, tt) h in
    let parts = or_false-parts (qid == 0) (not (is_open (t.sq qid))) r.0 in
    (eqb-false qid 0 parts.0, not_false (is_open (t.sq qid)) parts.1)

pub delete_cq-found : (t : QueueTable) (qid : ℕ) → Passes t (DeleteCq qid) → (qid ≡ 0 → ⊥) × (is_some (t.cq qid) ≡ true) × (is_attached t qid ≡ false)
delete_cq-found t qid h =
    let r = none-matches (rows_of t (DeleteCq qid)) (refl, (refl, tt)) h in
    let parts = or_false-parts (qid == 0) (is_none (t.cq qid)) r.0 in
    (eqb-false qid 0 parts.0, not_none (t.cq qid) parts.1, r.1.0)

pub set_numbers-found : (t : QueueTable) (sv : Bool) (cdw11 : ℕ) → Passes t (SetFeatures number_of_queues sv cdw11) → t.created ≡ false
set_numbers-found t sv cdw11 h =
    let r = none-matches (rows_of t (SetFeatures number_of_queues sv cdw11)) (refl, (refl, (refl, (refl, tt)))) h in
    r.1.1.0

-- ---- histories
-- the rows before the command's are failures
placed-failures : (p : Placing) (entry : Sqe) (command : AdminCommand) → AllFailures (placing_rows_of p entry command)
placed-failures p entry (CreateSq qid qsize prp1 cqid qprio pc) = (refl, (refl, tt))
placed-failures p entry (CreateCq qid qsize prp1 pc) = (refl, (refl, (refl, tt)))
placed-failures p entry (DeleteSq qid) = tt
placed-failures p entry (DeleteCq qid) = tt
placed-failures p entry (SetFeatures fid sv cdw11) = tt
placed-failures p entry (GetFeatures fid) = tt
placed-failures p entry (Abort sqid cid) = tt
placed-failures p entry Other = tt

placing-failures : (placing : Option Placing) (entry : Sqe) → AllFailures (placing_rows placing entry)
placing-failures None entry = tt
placing-failures (Some p) entry = placed-failures p entry (admin_command_of entry)

-- what comes after rows of failures passes where all of it does
rest-passes : (rows more : List Check) → AllFailures rows → is_success (first_failed (rows ++ more)) ≡ true → is_success (first_failed more) ≡ true
rest-passes [] more f h = h
rest-passes (r ∷ rows) more f h = rest-passes rows more f.1 (first_test r.fails r.status (first_failed (rows ++ more)) f.0 h).1

-- an entry of success isn't fused, and its command passes
pub status_over-passes : (t : QueueTable) (entry : Sqe) → is_success (status_over t entry) ≡ true → Passes t (admin_command_of entry)
status_over-passes t entry h =
    let placed : List Check = placing_rows t.placing entry in
    let rows : List Check = rows_of t (admin_command_of entry) in
    rest-passes placed rows (placing-failures t.placing entry) (first_test (not (fuse_of entry == 0)) invalid_field (first_failed (placed ++ rows)) refl h).1

-- what is true at the start and kept by every step that takes effect is true after every history
pub reached : (start : Start) (P : Effects → Type 0)
    → P []
    → ((effects : Effects) (kind : Kind) (address slots : ℕ) → P effects → P (Added kind address slots ∷ effects))
    → ((effects : Effects) (command : AdminCommand) → P effects → Passes (table_in start effects) command → P (Accepted command ∷ effects))
    → ((effects : Effects) (qid : ℕ) → P effects → P (Finished qid ∷ effects))
    → ((effects : Effects) (p : Placing) → P effects → P (Anywhere p ∷ effects))
    → (h : TableHistory) → P (effects_of start h)
unfolding effects_of
reached start P base added accepted finished placed [] = base
reached start P base added accepted finished placed (RegionAdded kind address slots ∷ past) =
    added (effects_of start past) kind address slots (reached start P base added accepted finished placed past)
reached start P base added accepted finished placed (DeletionFinished qid ∷ past) =
    finished (effects_of start past) qid (reached start P base added accepted finished placed past)
reached start P base added accepted finished placed (PlacedAnywhere p ∷ past) =
    placed (effects_of start past) p (reached start P base added accepted finished placed past)
reached start P base added accepted finished placed (EntryApplied entry ∷ past) =
    let effects : Effects = effects_of start past in
    let before : P effects = reached start P base added accepted finished placed past in
    let t : QueueTable = table_in start effects in
    elim (cases_Bool (is_success (status_over t entry))) [
      | inl passes ↦
          subst (λ (b : Bool). P (if b then Accepted (admin_command_of entry) ∷ effects else effects)) (sym passes)
          (accepted effects (admin_command_of entry) before (status_over-passes t entry passes))
      | inr fails ↦ subst (λ (b : Bool). P (if b then Accepted (admin_command_of entry) ∷ effects else effects)) (sym fails) before
    ]
