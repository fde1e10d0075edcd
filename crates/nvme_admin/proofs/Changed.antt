-- What each step of a history changes.
use Rattle.std.proofs.Common.{◌≡◌, ℕ, ◌<◌, ◌==◌, Bool, true, false, if◌then◌else◌, List, [], ◌∷◌, length, Option, Some, None, refl, sym, ◌∙◌, ap, subst, inl, inr, eq-eqb, unwrap_or, option_map, ◌||◌, eqb-true}
use Rattle.std.proofs.lemmas.Bool.{cases_eq, cases_Bool}
use Rattle.nvme_entry.specs.Status.{StatusCode, success}
use Rattle.nvme_entry.specs.AdminCommand.{admin_command_of}
use Rattle.nvme_entry.specs.declared.admin.AdminCommand.{AdminCommand}
use Rattle.nvme_entry.specs.declared.admin.AdminCommand.TheVariants.{DeleteSq, CreateSq, DeleteCq, CreateCq, Abort, SetFeatures, GetFeatures, Other}
use Rattle.nvme_arbiter.specs.declared.settings.Class.TheVariants.{Admin, Urgent, High, Medium, Low}
use Rattle.nvme_admin.specs.declared.region.Region.{Region}
use Rattle.nvme_admin.specs.declared.verdict.SqEntry.{SqEntry}
use Rattle.nvme_admin.specs.declared.verdict.Verdict.{Verdict}
use Rattle.nvme_admin.specs.declared.verdict.Verdict.TheVariants.{Done, SetArbitration}
use Rattle.nvme_admin.specs.History.{Start, Effects, Accepted, Finished}
use Rattle.nvme_admin.specs.QueueTable.{table_in, arbitration, number_of_queues, class_of, as_closing, unless_closing, number_by, placing_in, sq_in, cq_in, io_sq_in, io_cq_in, sq_regions_in, cq_regions_in, sq_named_in, cq_named_in, settings_in, admin_sq, admin_cq}
use Rattle.nvme_admin.specs.Checks.{rows_of, status_over, is_success, verdict_after, opened_sq, opened_cq, dw0_after}
use Rattle.nvme_admin.specs.Accepted.{effects_of, queue_table, status_of, verdict_of}
use Rattle.nvme_admin.specs.Changes.{IsDue, sq_after, cq_after, settings_after, VerdictsTellChange, FinishTakesOne, RegionOpensAdmin, CqRegionOpensAdmin}
use Rattle.nvme_admin.proofs.Slots.{other, same, admin_sq-append, admin_cq-append}
use Rattle.nvme_admin.proofs.Lives.{Lives, fresh-sqs, fresh-cqs, lives}
use Rattle.nvme_admin.proofs.Reached.{Passes, create_sq-found, create_cq-found, delete_sq-found, delete_cq-found, none-matches, not_false, status_over-passes}

-- what changes the queue of an I/O identifier leaves the admin queue
pub under-admin : {A : Type 0} (f : A → A) (k q : ℕ) (a b : A) → (k ≡ 0 → ⊥)
    → (if q == 0 then a else (if k == q then f b else b)) ≡ (if k == q then f (if q == 0 then a else b) else (if q == 0 then a else b))
under-admin f k q a b io = elim (cases_eq q 0) [
  | inl z ↦
      let zero : (q == 0) ≡ true = eq-eqb q 0 z in
      let apart : (k == q) ≡ false = other k q (λ p. io (p ∙ z)) in
      (λ i. if zero i then a else (if apart i then f b else b))
      ∙ sym (λ i. if apart i then f (if zero i then a else b) else (if zero i then a else b))
  | inr n ↦
      let zero : (q == 0) ≡ false = other q 0 n in
      (λ i. if zero i then a else (if k == q then f b else b))
      ∙ sym (λ i. if k == q then f (if zero i then a else b) else (if zero i then a else b))
]

-- the identifier that was written
pub at-own : {A : Type 0} (k : ℕ) (a x b : A) → (k ≡ 0 → ⊥) → (if k == 0 then a else (if k == k then x else b)) ≡ x
at-own k a x b io =
    let zero : (k == 0) ≡ false = other k 0 io in
    let here : (k == k) ≡ true = same k in
    λ i. if zero i then a else (if here i then x else b)

-- a change, over the steps that took effect
record Tells (start : Start) (e : Effects) (command : AdminCommand) (verdict : Verdict) : Type 0 where
  due : IsDue (table_in start e) verdict
  sqs : (q : ℕ) → sq_in (Accepted command ∷ e) q ≡ sq_after verdict (sq_in e) q
  cqs : (q : ℕ) → cq_in (Accepted command ∷ e) q ≡ cq_after verdict (cq_in e) q
  settings : settings_in start (Accepted command ∷ e) ≡ settings_after verdict (settings_in start e)

class_of-io : (qprio : ℕ) → class_of qprio ≡ Admin → ⊥
class_of-io qprio h =
    elim (cases_Bool (qprio == 0)) [
      | inl z ↦ let p = sym (λ i. if z i then Urgent else (if qprio == 1 then High else (if qprio == 2 then Medium else Low))) ∙ h in cc
      | inr n0 ↦ elim (cases_Bool (qprio == 1)) [
        | inl z ↦ let p = sym (λ i. if n0 i then Urgent else (if z i then High else (if qprio == 2 then Medium else Low))) ∙ h in cc
        | inr n1 ↦ elim (cases_Bool (qprio == 2)) [
          | inl z ↦ let p = sym (λ i. if n0 i then Urgent else (if n1 i then High else (if z i then Medium else Low))) ∙ h in cc
          | inr n2 ↦ let p = sym (λ i. if n0 i then Urgent else (if n1 i then High else (if n2 i then Medium else Low))) ∙ h in cc
        ]
      ]
    ]

module _ (start : Start) (e : Effects) where
  tells-create_sq : (qid qsize prp1 cqid qprio : ℕ) (pc : Bool) → Lives e → Passes (table_in start e) (CreateSq qid qsize prp1 cqid qprio pc)
      → Tells start e (CreateSq qid qsize prp1 cqid qprio pc) (opened_sq qid (sq_in (Accepted (CreateSq qid qsize prp1 cqid qprio pc) ∷ e) qid))
  tells-create_sq qid qsize prp1 cqid qprio pc l h =
      let found = create_sq-found (table_in start e) qid qsize prp1 cqid qprio pc h in
      let region : ℕ = unwrap_or (number_by (placing_in e) (length (sq_named_in e)) (sq_regions_in e) prp1) 0 in
      let is : region ≡ found.region.number = ap (λ (o : Option ℕ). unwrap_or o 0) found.region.found in
      let queue : SqEntry = record { region = region; cqid = cqid; class = class_of qprio; closing = false } in
      let here : sq_in (Accepted (CreateSq qid qsize prp1 cqid qprio pc) ∷ e) qid ≡ Some queue = at-own qid (admin_sq (sq_regions_in e)) (Some queue) (io_sq_in e qid) found.not_admin in
      subst (λ (o : Option SqEntry). Tells start e (CreateSq qid qsize prp1 cqid qprio pc) (opened_sq qid o)) (sym here) (record {
        due = record {
          not_admin = found.not_admin;
          free = found.free;
          cq_not_admin = found.cq_not_admin;
          cq_open = found.cq_open;
          unused = ap (table_in start e).sq_region_used is ∙ found.region.unused (fresh-sqs e l);
          there = λ by_regions. subst (λ (n : ℕ). n < length (sq_regions_in e)) (sym is) (found.region.there by_regions);
          class_of_io = class_of-io qprio;
        };
        sqs = λ q. under-admin (λ _. Some queue) qid q (admin_sq (sq_regions_in e)) (io_sq_in e q) found.not_admin;
        cqs = λ q. refl;
        settings = refl;
      })

  tells-create_cq : (qid qsize prp1 : ℕ) (pc : Bool) → Lives e → Passes (table_in start e) (CreateCq qid qsize prp1 pc)
      → Tells start e (CreateCq qid qsize prp1 pc) (opened_cq qid (cq_in (Accepted (CreateCq qid qsize prp1 pc) ∷ e) qid))
  tells-create_cq qid qsize prp1 pc l h =
      let found = create_cq-found (table_in start e) qid qsize prp1 pc h in
      let region : ℕ = unwrap_or (number_by (placing_in e) (length (cq_named_in e)) (cq_regions_in e) prp1) 0 in
      let is : region ≡ found.region.number = ap (λ (o : Option ℕ). unwrap_or o 0) found.region.found in
      let here : cq_in (Accepted (CreateCq qid qsize prp1 pc) ∷ e) qid ≡ Some region = at-own qid (admin_cq (cq_regions_in e)) (Some region) (io_cq_in e qid) found.not_admin in
      subst (λ (o : Option ℕ). Tells start e (CreateCq qid qsize prp1 pc) (opened_cq qid o)) (sym here) (record {
        due = record {
          not_admin = found.not_admin;
          free = found.free;
          unused = ap (table_in start e).cq_region_used is ∙ found.region.unused (fresh-cqs e l);
          there = λ by_regions. subst (λ (n : ℕ). n < length (cq_regions_in e)) (sym is) (found.region.there by_regions);
        };
        sqs = λ q. refl;
        cqs = λ q. under-admin (λ _. Some region) qid q (admin_cq (cq_regions_in e)) (io_cq_in e q) found.not_admin;
        settings = refl;
      })

  -- a feature is one of the two
  tells-set : (b : Bool) (fid cdw11 dw0 : ℕ) (sv : Bool) → (fid == number_of_queues) ≡ b → (b ≡ false → (fid == arbitration) ≡ true)
      → Tells start e (SetFeatures fid sv cdw11) (if b then Done success dw0 else SetArbitration (settings_in start (Accepted (SetFeatures fid sv cdw11) ∷ e)))
  tells-set true fid cdw11 dw0 sv is one = record {
    due = tt;
    sqs = λ q. refl;
    cqs = λ q. refl;
    settings = subst (λ (f : ℕ). settings_in start (Accepted (SetFeatures f sv cdw11) ∷ e) ≡ settings_in start e) (sym (eqb-true fid number_of_queues is)) refl;
  }
  tells-set false fid cdw11 dw0 sv is one = record { due = tt; sqs = λ q. refl; cqs = λ q. refl; settings = refl }

  tells : (command : AdminCommand) → Lives e → Passes (table_in start e) command → Tells start e command (verdict_after (table_in start (Accepted command ∷ e)) command)
  tells (CreateSq qid qsize prp1 cqid qprio pc) l h = tells-create_sq qid qsize prp1 cqid qprio pc l h
  tells (CreateCq qid qsize prp1 pc) l h = tells-create_cq qid qsize prp1 pc l h
  tells (DeleteSq qid) l h =
      let found = delete_sq-found (table_in start e) qid h in
      record {
        due = record { not_admin = found.0; open_sq = found.1 };
        sqs = λ q. under-admin (option_map as_closing) qid q (admin_sq (sq_regions_in e)) (io_sq_in e q) found.0;
        cqs = λ q. refl;
        settings = refl;
      }
  tells (DeleteCq qid) l h =
      let found = delete_cq-found (table_in start e) qid h in
      record {
        due = record { not_admin = found.0; open_cq = found.1; unattached = found.2 };
        sqs = λ q. refl;
        cqs = λ q. under-admin (λ _. None) qid q (admin_cq (cq_regions_in e)) (io_cq_in e q) found.0;
        settings = refl;
      }
  tells (SetFeatures fid sv cdw11) l h =
      let r = none-matches (rows_of (table_in start e) (SetFeatures fid sv cdw11)) (refl, (refl, (refl, (refl, tt)))) h in
      let known : (fid == arbitration || fid == number_of_queues) ≡ true = not_false (fid == arbitration || fid == number_of_queues) r.0 in
      tells-set (fid == number_of_queues) fid cdw11 (dw0_after (table_in start (Accepted (SetFeatures fid sv cdw11) ∷ e)) (SetFeatures fid sv cdw11)) sv refl
      (λ n. or_true-left (fid == arbitration) (fid == number_of_queues) known n)
    where
      or_true-left : (a b : Bool) → (a || b) ≡ true → b ≡ false → a ≡ true
      or_true-left true b h n = refl
      or_true-left false b h n = sym n ∙ h
  tells (GetFeatures fid) l h = record { due = tt; sqs = λ q. refl; cqs = λ q. refl; settings = refl }
  tells (Abort sqid cid) l h = record { due = tt; sqs = λ q. refl; cqs = λ q. refl; settings = refl }
  tells Other l h = record { due = tt; sqs = λ q. refl; cqs = λ q. refl; settings = refl }

-- an entry that passes its checks, or doesn't
told : (start : Start) (e : Effects) (command : AdminCommand) (status : StatusCode) (b : Bool) → Lives e → (b ≡ true → Passes (table_in start e) command)
    → let after = (if b then Accepted command ∷ e else e) in
    let verdict = (if b then verdict_after (table_in start after) command else Done status 0) in
    IsDue (table_in start e) verdict
    × ((q : ℕ) → sq_in after q ≡ sq_after verdict (sq_in e) q)
    × ((q : ℕ) → cq_in after q ≡ cq_after verdict (cq_in e) q)
    × (settings_in start after ≡ settings_after verdict (settings_in start e))
told start e command status true l passes =
    let t = tells start e command l (passes refl) in
    (t.due, t.sqs, t.cqs, t.settings)
told start e command status false l passes = (tt, (λ q. refl), (λ q. refl), refl)

-- the verdict of an entry tells its change
pub TellsChange-entry : VerdictsTellChange
unfolding effects_of queue_table status_of verdict_of
TellsChange-entry start h entry =
    let e : Effects = effects_of start h in
    let status : StatusCode = status_over (table_in start e) entry in
    let all = told start e (admin_command_of entry) status (is_success status) (lives start h) (status_over-passes (table_in start e) entry) in
    record { due = all.0; sqs = all.1; cqs = all.2; settings = all.3 }

-- ---- the other steps
admin_sq-stays : (rs : List Region) → admin_sq rs ≡ unless_closing (admin_sq rs)
admin_sq-stays [] = refl
admin_sq-stays (r ∷ rs) = refl

zero-finish : (q : ℕ) (a b c : Option SqEntry) → a ≡ unless_closing a → (if q == 0 then a else (if 0 == q then c else b)) ≡ (if 0 == q then unless_closing (if q == 0 then a else b) else (if q == 0 then a else b))
zero-finish q a b c stays = elim (cases_eq q 0) [
  | inl z ↦
      let right : (q == 0) ≡ true = eq-eqb q 0 z in
      let left : (0 == q) ≡ true = eq-eqb 0 q (sym z) in
      (λ i. if right i then a else (if 0 == q then c else b)) ∙ stays
      ∙ sym (λ i. if left i then unless_closing (if right i then a else b) else (if right i then a else b))
  | inr n ↦
      let right : (q == 0) ≡ false = other q 0 n in
      let left : (0 == q) ≡ false = other 0 q (λ p. n (sym p)) in
      (λ i. if right i then a else (if left i then c else b))
      ∙ sym (λ i. if left i then unless_closing (if right i then a else b) else (if right i then a else b))
]

pub finish-takes_one : FinishTakesOne
unfolding effects_of queue_table
finish-takes_one start h qid q =
    let e : Effects = effects_of start h in
    elim (cases_eq qid 0) [
      | inl z ↦
          subst (λ (k : ℕ). sq_in (Finished k ∷ e) q ≡ (if k == q then unless_closing (sq_in e q) else sq_in e q)) (sym z)
          (zero-finish q (admin_sq (sq_regions_in e)) (io_sq_in e q) (unless_closing (io_sq_in e q)) (admin_sq-stays (sq_regions_in e)))
      | inr n ↦ under-admin unless_closing qid q (admin_sq (sq_regions_in e)) (io_sq_in e q) n
    ]

if-inner : {A : Type 0} (b : Bool) (x a y : A) → (if b then x else y) ≡ (if b then x else (if b then a else y))
if-inner true x a y = refl
if-inner false x a y = refl

pub region-opens_admin : RegionOpensAdmin
unfolding effects_of queue_table
region-opens_admin start h address slots q =
    let e : Effects = effects_of start h in
    let r : Region = record { address = address; slots = slots } in
    (λ i. if q == 0 then (admin_sq-append (sq_regions_in e) r r) i else io_sq_in e q)
    ∙ if-inner (q == 0) (admin_sq (r ∷ [])) (admin_sq (sq_regions_in e)) (io_sq_in e q)

pub cq_region-opens_admin : CqRegionOpensAdmin
unfolding effects_of queue_table
cq_region-opens_admin start h address slots q =
    let e : Effects = effects_of start h in
    let r : Region = record { address = address; slots = slots } in
    (λ i. if q == 0 then (admin_cq-append (cq_regions_in e) r) i else io_cq_in e q)
    ∙ if-inner (q == 0) (Some 0) (admin_cq (cq_regions_in e)) (io_cq_in e q)
