-- The region of a queue that a Create opens has the slots that it asks for.
use Rattle.std.proofs.Common.{◌≡◌, ℕ, zero, suc, ◌+◌, ◌<◌, ◌≤◌, ◌==◌, ◌||◌, nat_lt, Bool, true, false, if◌then◌else◌, List, [], ◌∷◌, length, Option, Some, None, refl, sym, ap, ◌∙◌, arith, inl, inr, ltb-false, true≢false}
use Rattle.std.specs.Prelude.{min, slice_get, unwrap_or}
use Rattle.std.proofs.lemmas.Bool.{cases_lt, eq-eqb, ne_eqb}
use Rattle.std.proofs.lemmas.Option.{none-some, same_Some}
use Rattle.nvme_entry.specs.Status.{StatusCode}
use Rattle.nvme_entry.specs.AdminCommand.{admin_command_of}
use Rattle.nvme_entry.specs.declared.submission.Sqe.{Sqe}
use Rattle.nvme_entry.specs.declared.admin.AdminCommand.{AdminCommand}
use Rattle.nvme_entry.specs.declared.admin.AdminCommand.TheVariants.{DeleteSq, CreateSq, DeleteCq, CreateCq, Abort, SetFeatures, GetFeatures, Other}
use Rattle.nvme_arbiter.specs.Settings.{ArbitrationFields}
use Rattle.nvme_arbiter.specs.declared.settings.Class.{Class}
use Rattle.nvme_admin.specs.declared.bounds.TheConstants.{MAX_QSIZE}
use Rattle.nvme_admin.specs.declared.region.Region.{Region}
use Rattle.nvme_admin.specs.declared.verdict.SqEntry.{SqEntry}
use Rattle.nvme_admin.specs.declared.verdict.Verdict.{Verdict}
use Rattle.nvme_admin.specs.declared.verdict.Verdict.TheVariants.{Done, OpenSq, OpenCq, SetArbitration}
use Rattle.nvme_admin.specs.History.{Start, TableHistory, Effects, Accepted}
use Rattle.nvme_admin.specs.QueueTable.{table_in, number_of_queues, placing_in, number_by, sq_named_in, cq_named_in, sq_in, cq_in, sq_regions_in, cq_regions_in}
use Rattle.nvme_admin.specs.Checks.{rows_of, status_over, is_success, verdict_after, opened_sq, opened_cq}
use Rattle.nvme_admin.specs.Accepted.{effects_of, queue_table, status_of, verdict_of}
use Rattle.nvme_admin.proofs.Reached.{Passes, none-matches, or_false-parts, create_sq-found, create_cq-found, create_sq-asked, create_cq-asked, status_over-passes}
use Rattle.nvme_log.specs.Rules.{slots_at}
use Rattle.nvme_ctrl_log.specs.Making.{slots_asked}

-- a region has the slots that a command asks for, of which there are some
pub record HasAsked (regions : List Region) (region : ℕ) (command : AdminCommand) : Type 0 where
  pub slots : slots_at regions region ≡ slots_asked command
  pub some : 0 < slots_asked command

-- ---- verdicts
-- the region of a queue that a verdict opens
abbrev pub opened_region : Verdict → Option ℕ
opened_region (OpenSq qid region cqid class) = Some region
opened_region (OpenCq qid region) = Some region
opened_region v = None

-- whether it opens a submission queue
abbrev pub opens_sq : Verdict → Bool
opens_sq (OpenSq qid region cqid class) = true
opens_sq v = false

abbrev pub opens_cq : Verdict → Bool
opens_cq (OpenCq qid region) = true
opens_cq v = false

-- ---- slots
-- the slots of a region that is there
slots_get : (regions : List Region) (k : ℕ) (x : Region) → slice_get regions k ≡ Some x → slots_at regions k ≡ x.slots
slots_get [] k x e = absurd (none-some x e)
slots_get (y ∷ regions) zero x e = ap (λ (z : Region). z.slots) (same_Some y x e)
slots_get (y ∷ regions) (suc k) x e = slots_get regions k x e

-- QSIZE is no more than the largest
not_more : (qsize : ℕ) → (qsize == 0 || nat_lt MAX_QSIZE qsize) ≡ false → min (qsize + 1) 0xffff ≡ qsize + 1
not_more qsize e = let few : qsize ≤ MAX_QSIZE = ltb-false MAX_QSIZE qsize (or_false-parts (qsize == 0) (nat_lt MAX_QSIZE qsize) e).1 in omega (arith, few)

-- an identifier that was written has what was written
pub own : {A : Type 0} (qid : ℕ) (x y z : Option A) → (qid ≡ 0 → ⊥) → (if qid == 0 then x else (if qid == qid then y else z)) ≡ y
own qid x y z io = rw (ne_eqb qid 0 io, eq-eqb qid qid refl) refl

-- ---- Creates
module _ (start : Start) (e : Effects) (by_regions : placing_in e ≡ None) where
  -- an accepted Create of a submission queue
  create_sq : (qid qsize prp1 cqid qprio : ℕ) (pc : Bool) → Passes (table_in start e) (CreateSq qid qsize prp1 cqid qprio pc) → (region : ℕ)
      → opened_region (opened_sq qid (sq_in (Accepted (CreateSq qid qsize prp1 cqid qprio pc) ∷ e) qid)) ≡ Some region
      → HasAsked (sq_regions_in e) region (CreateSq qid qsize prp1 cqid qprio pc)
  create_sq qid qsize prp1 cqid qprio pc h region is =
      let found = create_sq-found (table_in start e) qid qsize prp1 cqid qprio pc h in
      let asked = create_sq-asked (table_in start e) qid qsize prp1 cqid qprio pc by_regions h in
      let rows = none-matches (rows_of (table_in start e) (CreateSq qid qsize prp1 cqid qprio pc)) (refl, (refl, (refl, (refl, (refl, (refl, tt)))))) h in
      let number : unwrap_or (number_by (placing_in e) (length (sq_named_in e)) (sq_regions_in e) prp1) 0 ≡ asked.0 = ap (λ (o : Option ℕ). unwrap_or o 0) asked.1 in
      let opened : opened_region (opened_sq qid (sq_in (Accepted (CreateSq qid qsize prp1 cqid qprio pc) ∷ e) qid)) ≡ Some (unwrap_or (number_by (placing_in e) (length (sq_named_in e)) (sq_regions_in e) prp1) 0) =
      ap (λ (o : Option SqEntry). opened_region (opened_sq qid o)) (own qid _ _ _ found.not_admin) in
      let same : asked.0 ≡ region = sym number ∙ same_Some (unwrap_or (number_by (placing_in e) (length (sq_named_in e)) (sq_regions_in e) prp1) 0) region (sym opened ∙ is) in
      let all : min (qsize + 1) 0xffff ≡ qsize + 1 = not_more qsize rows.1.1.0 in
      record {
        slots = ap (slots_at (sq_regions_in e)) (sym same) ∙ slots_get (sq_regions_in e) asked.0 (record { address = prp1; slots = qsize + 1 }) asked.2 ∙ sym all;
        some = omega (arith, all);
      }

  -- and one of a completion queue
  create_cq : (qid qsize prp1 : ℕ) (pc : Bool) → Passes (table_in start e) (CreateCq qid qsize prp1 pc) → (region : ℕ)
      → opened_region (opened_cq qid (cq_in (Accepted (CreateCq qid qsize prp1 pc) ∷ e) qid)) ≡ Some region
      → HasAsked (cq_regions_in e) region (CreateCq qid qsize prp1 pc)
  create_cq qid qsize prp1 pc h region is =
      let found = create_cq-found (table_in start e) qid qsize prp1 pc h in
      let asked = create_cq-asked (table_in start e) qid qsize prp1 pc by_regions h in
      let rows = none-matches (rows_of (table_in start e) (CreateCq qid qsize prp1 pc)) (refl, (refl, (refl, (refl, tt)))) h in
      let number : unwrap_or (number_by (placing_in e) (length (cq_named_in e)) (cq_regions_in e) prp1) 0 ≡ asked.0 = ap (λ (o : Option ℕ). unwrap_or o 0) asked.1 in
      let opened : opened_region (opened_cq qid (cq_in (Accepted (CreateCq qid qsize prp1 pc) ∷ e) qid)) ≡ Some (unwrap_or (number_by (placing_in e) (length (cq_named_in e)) (cq_regions_in e) prp1) 0) =
      ap (λ (o : Option ℕ). opened_region (opened_cq qid o)) (own qid _ _ _ found.not_admin) in
      let same : asked.0 ≡ region = sym number ∙ same_Some (unwrap_or (number_by (placing_in e) (length (cq_named_in e)) (cq_regions_in e) prp1) 0) region (sym opened ∙ is) in
      let all : min (qsize + 1) 0xffff ≡ qsize + 1 = not_more qsize rows.1.1.0 in
      record {
        slots = ap (slots_at (cq_regions_in e)) (sym same) ∙ slots_get (cq_regions_in e) asked.0 (record { address = prp1; slots = qsize + 1 }) asked.2 ∙ sym all;
        some = omega (arith, all);
      }

-- the verdict of a Create opens a queue of its kind, where it opens one
sq_opens_no_cq : (qid : ℕ) (o : Option SqEntry) → opens_cq (opened_sq qid o) ≡ false
sq_opens_no_cq qid None = refl
sq_opens_no_cq qid (Some queue) = refl

cq_opens_no_sq : (qid : ℕ) (o : Option ℕ) → opens_sq (opened_cq qid o) ≡ false
cq_opens_no_sq qid None = refl
cq_opens_no_sq qid (Some region) = refl

-- a feature that is set opens none
sets_no_sq : (b : Bool) (status : StatusCode) (dw0 : ℕ) (settings : ArbitrationFields) → opens_sq (if b then Done status dw0 else SetArbitration settings) ≡ false
sets_no_sq true status dw0 settings = refl
sets_no_sq false status dw0 settings = refl

sets_no_cq : (b : Bool) (status : StatusCode) (dw0 : ℕ) (settings : ArbitrationFields) → opens_cq (if b then Done status dw0 else SetArbitration settings) ≡ false
sets_no_cq true status dw0 settings = refl
sets_no_cq false status dw0 settings = refl

neither : {A : Type 0} (b : Bool) → b ≡ false → b ≡ true → A
neither b fails passes = absurd (true≢false (sym passes ∙ fails))

-- what is so of a Create and of the region of its queue
abbrev pub OfSqs : Start → Effects → (ℕ → AdminCommand → Type 0) → Type 0
OfSqs start e Q = (qid qsize prp1 cqid qprio : ℕ) (pc : Bool) → Passes (table_in start e) (CreateSq qid qsize prp1 cqid qprio pc) → (region : ℕ)
    → opened_region (opened_sq qid (sq_in (Accepted (CreateSq qid qsize prp1 cqid qprio pc) ∷ e) qid)) ≡ Some region → Q region (CreateSq qid qsize prp1 cqid qprio pc)

abbrev pub OfCqs : Start → Effects → (ℕ → AdminCommand → Type 0) → Type 0
OfCqs start e Q = (qid qsize prp1 : ℕ) (pc : Bool) → Passes (table_in start e) (CreateCq qid qsize prp1 pc) → (region : ℕ)
    → opened_region (opened_cq qid (cq_in (Accepted (CreateCq qid qsize prp1 pc) ∷ e) qid)) ≡ Some region → Q region (CreateCq qid qsize prp1 pc)

module _ (start : Start) (e : Effects) (Q : ℕ → AdminCommand → Type 0) where
  -- a command whose verdict opens a submission queue is a Create of one
  asks_sq : OfSqs start e Q → (command : AdminCommand) → Passes (table_in start e) command → (region : ℕ)
      → opens_sq (verdict_after (table_in start (Accepted command ∷ e)) command) ≡ true → opened_region (verdict_after (table_in start (Accepted command ∷ e)) command) ≡ Some region
      → Q region command
  asks_sq each (CreateSq qid qsize prp1 cqid qprio pc) h region opens is = each qid qsize prp1 cqid qprio pc h region is
  asks_sq each (CreateCq qid qsize prp1 pc) h region opens is = neither _ (cq_opens_no_sq qid _) opens
  asks_sq each (DeleteSq qid) h region opens is = neither _ refl opens
  asks_sq each (DeleteCq qid) h region opens is = neither _ refl opens
  asks_sq each (Abort sqid cid) h region opens is = neither _ refl opens
  asks_sq each (SetFeatures fid sv cdw11) h region opens is = neither _ (sets_no_sq (fid == number_of_queues) _ _ _) opens
  asks_sq each (GetFeatures fid) h region opens is = neither _ refl opens
  asks_sq each Other h region opens is = neither _ refl opens

  asks_cq : OfCqs start e Q → (command : AdminCommand) → Passes (table_in start e) command → (region : ℕ)
      → opens_cq (verdict_after (table_in start (Accepted command ∷ e)) command) ≡ true → opened_region (verdict_after (table_in start (Accepted command ∷ e)) command) ≡ Some region
      → Q region command
  asks_cq each (CreateSq qid qsize prp1 cqid qprio pc) h region opens is = neither _ (sq_opens_no_cq qid _) opens
  asks_cq each (CreateCq qid qsize prp1 pc) h region opens is = each qid qsize prp1 pc h region is
  asks_cq each (DeleteSq qid) h region opens is = neither _ refl opens
  asks_cq each (DeleteCq qid) h region opens is = neither _ refl opens
  asks_cq each (Abort sqid cid) h region opens is = neither _ refl opens
  asks_cq each (SetFeatures fid sv cdw11) h region opens is = neither _ (sets_no_cq (fid == number_of_queues) _ _ _) opens
  asks_cq each (GetFeatures fid) h region opens is = neither _ refl opens
  asks_cq each Other h region opens is = neither _ refl opens

  -- an entry that passes its checks, or doesn't
  pub applied_sq : OfSqs start e Q → (command : AdminCommand) (status : StatusCode) (b : Bool) → (b ≡ true → Passes (table_in start e) command) → (region : ℕ)
      → opens_sq (if b then verdict_after (table_in start (if b then Accepted command ∷ e else e)) command else Done status 0) ≡ true
      → opened_region (if b then verdict_after (table_in start (if b then Accepted command ∷ e else e)) command else Done status 0) ≡ Some region
      → Q region command
  applied_sq each command status true passes region opens is = asks_sq each command (passes refl) region opens is
  applied_sq each command status false passes region opens is = neither _ refl opens

  pub applied_cq : OfCqs start e Q → (command : AdminCommand) (status : StatusCode) (b : Bool) → (b ≡ true → Passes (table_in start e) command) → (region : ℕ)
      → opens_cq (if b then verdict_after (table_in start (if b then Accepted command ∷ e else e)) command else Done status 0) ≡ true
      → opened_region (if b then verdict_after (table_in start (if b then Accepted command ∷ e else e)) command else Done status 0) ≡ Some region
      → Q region command
  applied_cq each command status true passes region opens is = asks_cq each command (passes refl) region opens is
  applied_cq each command status false passes region opens is = neither _ refl opens

-- ---- the regions of a table history
pub entry_sq : (start : Start) (h : TableHistory) (entry : Sqe) (qid region cqid : ℕ) (class : Class) → (queue_table start h).placing ≡ None → verdict_of start h entry ≡ OpenSq qid region cqid class
    → HasAsked (queue_table start h).sq_regions region (admin_command_of entry)
unfolding effects_of queue_table status_of verdict_of
entry_sq start h entry qid region cqid class by_regions is =
    let e : Effects = effects_of start h in
    let status : StatusCode = status_over (table_in start e) entry in
    applied_sq start e (λ (r : ℕ) (command : AdminCommand). HasAsked (sq_regions_in e) r command) (create_sq start e by_regions) (admin_command_of entry) status (is_success status) (status_over-passes (table_in start e) entry) region (ap opens_sq is) (ap opened_region is)

pub entry_cq : (start : Start) (h : TableHistory) (entry : Sqe) (qid region : ℕ) → (queue_table start h).placing ≡ None → verdict_of start h entry ≡ OpenCq qid region
    → HasAsked (queue_table start h).cq_regions region (admin_command_of entry)
unfolding effects_of queue_table status_of verdict_of
entry_cq start h entry qid region by_regions is =
    let e : Effects = effects_of start h in
    let status : StatusCode = status_over (table_in start e) entry in
    applied_cq start e (λ (r : ℕ) (command : AdminCommand). HasAsked (cq_regions_in e) r command) (create_cq start e by_regions) (admin_command_of entry) status (is_success status) (status_over-passes (table_in start e) entry) region (ap opens_cq is) (ap opened_region is)

-- ---- what a controller keeps
-- a command asks for some slots
some_slots : (n : ℕ) → 0 < min (n + 1) 0xffff
some_slots n = elim (cases_lt n 0xfffe) [
  | inl below ↦ omega arith
  | inr from ↦ omega arith
]

asks_some : (command : AdminCommand) → 0 < slots_asked command
asks_some (CreateSq qid qsize prp1 cqid qprio pc) = some_slots qsize
asks_some (CreateCq qid qsize prp1 pc) = some_slots qsize
asks_some (DeleteSq qid) = omega arith
asks_some (DeleteCq qid) = omega arith
asks_some (Abort sqid cid) = omega arith
asks_some (SetFeatures fid sv cdw11) = omega arith
asks_some (GetFeatures fid) = omega arith
asks_some Other = omega arith

-- so does one whose region the rules have
pub asked_there : (regions : List Region) (region : ℕ) (entry : Sqe)
    → slice_get regions region ≡ Some (record { address = entry.prp1; slots = slots_asked (admin_command_of entry) }) → HasAsked regions region (admin_command_of entry)
asked_there regions region entry is =
    record { slots = slots_get regions region (record { address = entry.prp1; slots = slots_asked (admin_command_of entry) }) is; some = asks_some (admin_command_of entry) }
