-- Laws over table histories.
use Rattle.std.proofs.Common.{◌≡◌, ℕ, zero, suc, ◌<◌, ◌≤◌, ◌==◌, ◌||◌, ◌&&◌, ◌⊎◌, Bool, true, false, if◌then◌else◌, List, [], ◌∷◌, ◌++◌, length, Option, Some, None, is_some, is_none, refl, sym, ◌∙◌, ap, subst, arith, inl, inr, true≢false, eqb-true, option_map, option_to_list, unwrap_or, eq-eqb, le_trans}
use Rattle.std.specs.List.{list_any}
use Rattle.std.proofs.lemmas.Bool.{cases_Bool, cases_eq, eqb-false}
use Rattle.std.proofs.lemmas.Option.{none-some, same_Some}
use Rattle.nvme_entry.specs.AdminCommand.{admin_command_of}
use Rattle.nvme_entry.specs.declared.admin.AdminCommand.{AdminCommand}
use Rattle.nvme_entry.specs.declared.admin.AdminCommand.TheVariants.{DeleteSq, CreateSq, DeleteCq, CreateCq, Abort, SetFeatures, GetFeatures, Other}
use Rattle.nvme_admin.specs.declared.bounds.TheConstants.{MAX_REGIONS}
use Rattle.nvme_admin.specs.declared.region.Region.{Region}
use Rattle.nvme_admin.specs.declared.verdict.SqEntry.{SqEntry}
use Rattle.nvme_admin.specs.History.{Start, TableHistory, RegionAdded, EntryApplied, DeletionFinished, PlacedAnywhere, Effects, Accepted}
use Rattle.nvme_admin.specs.QueueTable.{QueueTable, table_in, is_used, class_of, admin_sq, number_of_queues, number_by, placing_in, as_closing, unless_closing, sq_in, io_sq_in, io_cq_in, sq_regions_in, sq_named_in, cq_named_in, first_request_in, created_in, nsq_by, ncq_by}
use Rattle.nvme_admin.specs.Checks.{rows_of, status_over, is_success, some_below, attaches}
use Rattle.nvme_admin.specs.Accepted.{effects_of, queue_table, status_of}
use Rattle.nvme_admin.specs.Laws.{AttachedStayOpen, NamedOnce, RegionsAreUsedOnce, NoRequestAfterCreate, NumbersStayFixed, RegionsTellQueues, PlacingStays}
use Rattle.nvme_admin.proofs.Slots.{other, same, sq_in-io, cq_in-io}
use Rattle.nvme_admin.proofs.Lives.{Lives, fresh-sqs, fresh-cqs, reached-alive}
use Rattle.nvme_admin.proofs.Reached.{Passes, reached, none-matches, create_sq-found, create_cq-found, delete_cq-found, set_numbers-found, status_over-passes}

-- ---- attached queues stay open
-- what is true of an I/O submission queue
abbrev AttachedAt : Start → Effects → ℕ → SqEntry → Type 0
AttachedAt start e q queue = (q ≡ 0 → ⊥) × (q ≤ start.nsq) × (queue.cqid ≡ 0 → ⊥) × (is_some (io_cq_in e queue.cqid) ≡ true)

pub closing-back : (b : Bool) (o : Option SqEntry) (queue : SqEntry) → (if b then option_map as_closing o else o) ≡ Some queue → (old : SqEntry) × (o ≡ Some old) × (old.cqid ≡ queue.cqid)
closing-back true None queue h = absurd (none-some queue h)
closing-back true (Some x) queue h = (x, refl, ap (λ (r : SqEntry). r.cqid) (same_Some (as_closing x) queue h))
closing-back false o queue h = (queue, h, refl)

created-back : (b : Bool) (x : SqEntry) (o : Option SqEntry) (queue : SqEntry) → (if b then Some x else o) ≡ Some queue → ((b ≡ true) × (x ≡ queue)) ⊎ (o ≡ Some queue)
created-back true x o queue h = inl (refl, same_Some x queue h)
created-back false x o queue h = inr h

open-back : (b : Bool) (x queue : SqEntry) → (if b then None else Some x) ≡ Some queue → Some x ≡ Some queue
open-back true x queue h = absurd (none-some queue h)
open-back false x queue h = h

unless-back : (o : Option SqEntry) (queue : SqEntry) → unless_closing o ≡ Some queue → o ≡ Some queue
unless-back None queue h = h
unless-back (Some x) queue h = open-back x.closing x queue h

pub finished-back : (b : Bool) (o : Option SqEntry) (queue : SqEntry) → (if b then unless_closing o else o) ≡ Some queue → o ≡ Some queue
finished-back true o queue h = unless-back o queue h
finished-back false o queue h = h

some-kept : (b : Bool) (x : ℕ) (o : Option ℕ) → is_some o ≡ true → is_some (if b then Some x else o) ≡ true
some-kept true x o h = refl
some-kept false x o h = h

or-left : (a b : Bool) → (a || b) ≡ false → a ≡ false
or-left true b h = absurd (true≢false h)
or-left false b h = refl

or-right : (a b : Bool) → (a || b) ≡ false → b ≡ false
or-right true b h = absurd (true≢false h)
or-right false b h = h

none-below : (test : ℕ → Bool) (n q : ℕ) → some_below test n ≡ false → q < n → test q ≡ false
unfolding some_below
none-below test zero q h l = absurd (omega arith)
none-below test (suc n) q h l = elim (cases_eq q n) [
  | inl is ↦ ap test is ∙ or-right (some_below test n) (test n) h
  | inr apart ↦ none-below test n q (or-left (some_below test n) (test n) h) (omega arith)
]

pub nsq_by-le : (start : Start) (o : Option ℕ) → nsq_by start o ≤ start.nsq
nsq_by-le start None = omega arith
nsq_by-le start (Some x) = omega arith

attached-step : (start : Start) → start.nsq < MAX_REGIONS → (e : Effects) (command : AdminCommand)
    → ((q : ℕ) (queue : SqEntry) → io_sq_in e q ≡ Some queue → AttachedAt start e q queue)
    → Passes (table_in start e) command
    → (q : ℕ) (queue : SqEntry) → io_sq_in (Accepted command ∷ e) q ≡ Some queue → AttachedAt start (Accepted command ∷ e) q queue
attached-step start small e (CreateSq qid qsize prp1 cqid qprio pc) p passes q queue h =
    let found = create_sq-found (table_in start e) qid qsize prp1 cqid qprio pc passes in
    elim (created-back (qid == q) _ (io_sq_in e q) queue h) [
      | inl is ↦
          let own : qid ≡ q = eqb-true qid q is.0 in
          let to : cqid ≡ queue.cqid = ap (λ (r : SqEntry). r.cqid) is.1 in
          let in_range : qid ≤ nsq_by start (first_request_in e) = found.in_range in
          let bound : nsq_by start (first_request_in e) ≤ start.nsq = nsq_by-le start (first_request_in e) in (
            (λ z. found.not_admin (own ∙ z)),
            subst (λ (n : ℕ). n ≤ start.nsq) own (le_trans in_range bound),
            (λ z. found.cq_not_admin (to ∙ z)),
            subst (λ (n : ℕ). is_some (io_cq_in e n) ≡ true) to (ap (λ (o : Option ℕ). is_some o) (sym (cq_in-io e cqid found.cq_not_admin)) ∙ found.cq_open),
          )
      | inr before ↦ p q queue before
    ]
attached-step start small e (CreateCq qid qsize prp1 pc) p passes q queue h =
    let a = p q queue h in
    (a.0, a.1, a.2, some-kept (qid == queue.cqid) _ (io_cq_in e queue.cqid) a.3)
attached-step start small e (DeleteSq qid) p passes q queue h =
    let back = closing-back (qid == q) (io_sq_in e q) queue h in
    let a = p q back.0 back.1 in
    (a.0, a.1, (λ z. a.2 (back.2 ∙ z)), subst (λ (n : ℕ). is_some (io_cq_in e n) ≡ true) back.2 a.3)
attached-step start small e (DeleteCq qid) p passes q queue h =
    let found = delete_cq-found (table_in start e) qid passes in
    let a = p q queue h in
    let range : q ≤ start.nsq = a.1 in
    let unattached : attaches qid (sq_in e q) ≡ false = none-below (λ k. attaches qid (sq_in e k)) MAX_REGIONS q found.2 (omega arith) in
    let here : sq_in e q ≡ Some queue = sq_in-io e q a.0 ∙ h in
    let differs : (queue.cqid == qid) ≡ false = sym (ap (attaches qid) here) ∙ unattached in
    let apart : (qid == queue.cqid) ≡ false = other qid queue.cqid (λ z. eqb-false queue.cqid qid differs (sym z)) in
    (a.0, a.1, a.2, (λ i. is_some (if apart i then None else io_cq_in e queue.cqid)) ∙ a.3)
attached-step start small e (SetFeatures fid sv cdw11) p passes q queue h = p q queue h
attached-step start small e (GetFeatures fid) p passes q queue h = p q queue h
attached-step start small e (Abort sqid cid) p passes q queue h = p q queue h
attached-step start small e Other p passes q queue h = p q queue h

attached : (start : Start) → start.nsq < MAX_REGIONS → (h : TableHistory) (q : ℕ) (queue : SqEntry) → io_sq_in (effects_of start h) q ≡ Some queue → AttachedAt start (effects_of start h) q queue
attached start small h =
    reached start (λ e. (q : ℕ) (queue : SqEntry) → io_sq_in e q ≡ Some queue → AttachedAt start e q queue)
    (λ q queue none. absurd (none-some queue none))
    (λ e kind address slots p. p)
    (attached-step start small)
    (λ e qid p q queue after. p q queue (finished-back (qid == q) (io_sq_in e q) queue after))
    (λ e placing p. p)
    h

pub attached-stay_open : AttachedStayOpen
unfolding queue_table
attached-stay_open start h q queue small io is =
    let a = attached start small h q queue (sym (sq_in-io (effects_of start h) q io) ∙ is) in
    ap (λ (o : Option ℕ). is_some o) (cq_in-io (effects_of start h) queue.cqid a.2) ∙ a.3

-- ---- a region is used at most once
named-step : (start : Start) (e : Effects) (command : AdminCommand) → Lives e → NamedOnce (sq_named_in e) × NamedOnce (cq_named_in e) → Passes (table_in start e) command
    → NamedOnce (sq_named_in (Accepted command ∷ e)) × NamedOnce (cq_named_in (Accepted command ∷ e))
named-step start e (CreateSq qid qsize prp1 cqid qprio pc) l p passes =
    let found = create_sq-found (table_in start e) qid qsize prp1 cqid qprio pc passes in
    (subst (λ (o : Option ℕ). NamedOnce (option_to_list o ++ sq_named_in e)) (sym found.region.found) (found.region.unused (fresh-sqs e l), p.0), p.1)
named-step start e (CreateCq qid qsize prp1 pc) l p passes =
    let found = create_cq-found (table_in start e) qid qsize prp1 pc passes in
    (p.0, subst (λ (o : Option ℕ). NamedOnce (option_to_list o ++ cq_named_in e)) (sym found.region.found) (found.region.unused (fresh-cqs e l), p.1))
named-step start e (DeleteSq qid) l p passes = p
named-step start e (DeleteCq qid) l p passes = p
named-step start e (SetFeatures fid sv cdw11) l p passes = p
named-step start e (GetFeatures fid) l p passes = p
named-step start e (Abort sqid cid) l p passes = p
named-step start e Other l p passes = p

pub regions-are_used_once : RegionsAreUsedOnce
regions-are_used_once start h =
    reached-alive start (λ e. NamedOnce (sq_named_in e) × NamedOnce (cq_named_in e)) (tt, tt) (λ e kind address slots p. p) (named-step start) (λ e qid p. p) (λ e placing p. p) h

-- ---- Number of Queues
created-step : (e : Effects) (command : AdminCommand) → created_in e ≡ true → created_in (Accepted command ∷ e) ≡ true
created-step e (CreateSq qid qsize prp1 cqid qprio pc) h = refl
created-step e (CreateCq qid qsize prp1 pc) h = refl
created-step e (DeleteSq qid) h = h
created-step e (DeleteCq qid) h = h
created-step e (SetFeatures fid sv cdw11) h = h
created-step e (GetFeatures fid) h = h
created-step e (Abort sqid cid) h = h
created-step e Other h = h

created-entry : (b : Bool) (e : Effects) (command : AdminCommand) → created_in e ≡ true → created_in (if b then Accepted command ∷ e else e) ≡ true
created-entry true e command h = created-step e command h
created-entry false e command h = h

created-stays : (start : Start) (later h : TableHistory) → created_in (effects_of start h) ≡ true → created_in (effects_of start (later ++ h)) ≡ true
unfolding effects_of
created-stays start [] h c = c
created-stays start (RegionAdded kind address slots ∷ later) h c = created-stays start later h c
created-stays start (DeletionFinished qid ∷ later) h c = created-stays start later h c
created-stays start (PlacedAnywhere p ∷ later) h c = created-stays start later h c
created-stays start (EntryApplied entry ∷ later) h c =
    created-entry (is_success (status_over (table_in start (effects_of start (later ++ h))) entry)) (effects_of start (later ++ h)) (admin_command_of entry) (created-stays start later h c)

pub no_request-after_create : NoRequestAfterCreate
unfolding queue_table status_of
no_request-after_create start later h entry sv cdw11 created command =
    let t : QueueTable = table_in start (effects_of start (later ++ h)) in
    let still : t.created ≡ true = created-stays start later h created in
    elim (cases_Bool (is_success (status_over t entry))) [
      | inl passes ↦
          let numbers : Passes t (SetFeatures number_of_queues sv cdw11) = subst (λ (k : AdminCommand). Passes t k) command (status_over-passes t entry passes) in
          absurd (true≢false (sym still ∙ set_numbers-found t sv cdw11 numbers))
      | inr fails ↦ fails
    ]

-- the numbers are fixed after these steps
abbrev pub AreFixed : Effects → Type 0
AreFixed e = (is_some (first_request_in e) ≡ true) ⊎ (created_in e ≡ true)

request-kept : (b : Bool) (o : Option ℕ) (x : ℕ) → is_some o ≡ true → (if b && is_none o then Some x else o) ≡ o
request-kept b None x h = absurd (true≢false (sym h))
request-kept true (Some y) x h = refl
request-kept false (Some y) x h = refl

request-barred : (b c : Bool) (o : Option ℕ) (x : ℕ) → (b && c) ≡ false → c ≡ true → (if b && is_none o then Some x else o) ≡ o
request-barred true c o x h is = absurd (true≢false (sym is ∙ h))
request-barred false c o x h is = refl

pub fixed-step : (start : Start) (e : Effects) (command : AdminCommand) → AreFixed e → Passes (table_in start e) command
    → AreFixed (Accepted command ∷ e) × (first_request_in (Accepted command ∷ e) ≡ first_request_in e)
fixed-step start e (CreateSq qid qsize prp1 cqid qprio pc) f passes = (inr refl, refl)
fixed-step start e (CreateCq qid qsize prp1 pc) f passes = (inr refl, refl)
fixed-step start e (DeleteSq qid) f passes = (f, refl)
fixed-step start e (DeleteCq qid) f passes = (f, refl)
fixed-step start e (GetFeatures fid) f passes = (f, refl)
fixed-step start e (Abort sqid cid) f passes = (f, refl)
fixed-step start e Other f passes = (f, refl)
fixed-step start e (SetFeatures fid sv cdw11) f passes =
    let r = none-matches (rows_of (table_in start e) (SetFeatures fid sv cdw11)) (refl, (refl, (refl, (refl, tt)))) passes in
    elim f [
      | inl some ↦
          let kept = request-kept (fid == number_of_queues) (first_request_in e) cdw11 some in
          (inl (ap (λ (o : Option ℕ). is_some o) kept ∙ some), kept)
      | inr created ↦ (inr created, request-barred (fid == number_of_queues) (created_in e) (first_request_in e) cdw11 r.1.1.0 created)
    ]

fixed-later : (start : Start) (later h : TableHistory) → AreFixed (effects_of start h)
    → AreFixed (effects_of start (later ++ h)) × (first_request_in (effects_of start (later ++ h)) ≡ first_request_in (effects_of start h))
unfolding effects_of
fixed-later start [] h f = (f, refl)
fixed-later start (RegionAdded kind address slots ∷ later) h f = fixed-later start later h f
fixed-later start (DeletionFinished qid ∷ later) h f = fixed-later start later h f
fixed-later start (PlacedAnywhere p ∷ later) h f = fixed-later start later h f
fixed-later start (EntryApplied entry ∷ later) h f =
    let e : Effects = effects_of start (later ++ h) in
    let before = fixed-later start later h f in
    let t : QueueTable = table_in start e in
    elim (cases_Bool (is_success (status_over t entry))) [
      | inl passes ↦
          let step = fixed-step start e (admin_command_of entry) before.0 (status_over-passes t entry passes) in
          subst (λ (b : Bool). AreFixed (if b then Accepted (admin_command_of entry) ∷ e else e) × (first_request_in (if b then Accepted (admin_command_of entry) ∷ e else e) ≡ first_request_in (effects_of start h))) (sym passes)
          (step.0, step.1 ∙ before.1)
      | inr fails ↦
          subst (λ (b : Bool). AreFixed (if b then Accepted (admin_command_of entry) ∷ e else e) × (first_request_in (if b then Accepted (admin_command_of entry) ∷ e else e) ≡ first_request_in (effects_of start h))) (sym fails)
          before
    ]

pub numbers-stay_fixed : NumbersStayFixed
unfolding queue_table
numbers-stay_fixed start later h f =
    let kept = (fixed-later start later h f).1 in
    (ap (nsq_by start) kept, ap (ncq_by start) kept)

-- ---- where queues may lie
placing-entry : (b : Bool) (e : Effects) (command : AdminCommand) → placing_in (if b then Accepted command ∷ e else e) ≡ placing_in e
placing-entry true e command = refl
placing-entry false e command = refl

placing-later : (start : Start) (later h : TableHistory) → created_in (effects_of start h) ≡ true → placing_in (effects_of start (later ++ h)) ≡ placing_in (effects_of start h)
unfolding effects_of
placing-later start [] h c = refl
placing-later start (RegionAdded kind address slots ∷ later) h c = placing-later start later h c
placing-later start (DeletionFinished qid ∷ later) h c = placing-later start later h c
placing-later start (PlacedAnywhere p ∷ later) h c =
    let still = created-stays start later h c in
    (λ i. if still i then placing_in (effects_of start (later ++ h)) else Some p) ∙ placing-later start later h c
placing-later start (EntryApplied entry ∷ later) h c =
    placing-entry (is_success (status_over (table_in start (effects_of start (later ++ h))) entry)) (effects_of start (later ++ h)) (admin_command_of entry) ∙ placing-later start later h c

pub placing-stays : PlacingStays
unfolding queue_table
placing-stays start later h c = placing-later start later h c

-- ---- a region tells its queue
-- a queue's region is used, and isn't the admin queue's
abbrev HasUsed : Effects → Type 0
HasUsed e = (q : ℕ) (a : SqEntry) → io_sq_in e q ≡ Some a → (is_used (sq_named_in e) a.region ≡ true) × (a.region ≡ 0 → ⊥)

-- queues of one region are one queue
abbrev TellsQueue : Effects → Type 0
TellsQueue e = (q r : ℕ) (a b : SqEntry) → io_sq_in e q ≡ Some a → io_sq_in e r ≡ Some b → a.region ≡ b.region → q ≡ r

pub region-back : (b : Bool) (o : Option SqEntry) (queue : SqEntry) → (if b then option_map as_closing o else o) ≡ Some queue → (old : SqEntry) × (o ≡ Some old) × (old.region ≡ queue.region)
region-back true None queue h = absurd (none-some queue h)
region-back true (Some x) queue h = (x, refl, ap (λ (r : SqEntry). r.region) (same_Some (as_closing x) queue h))
region-back false o queue h = (queue, h, refl)

or-more : (a b c : Bool) → (a || c) ≡ true → (a || (b || c)) ≡ true
or-more true b c h = refl
or-more false true c h = refl
or-more false false c h = h

or-here : (a b : Bool) → (a || (true || b)) ≡ true
or-here true b = refl
or-here false b = refl

used-more : (named : List ℕ) (k j : ℕ) → is_used named j ≡ true → is_used (k ∷ named) j ≡ true
used-more named k j h = or-more (j == 0) (k == j) (list_any (λ n. n == j) named) h

used-here : (named : List ℕ) (k : ℕ) → is_used (k ∷ named) k ≡ true
used-here named k = (λ i. (k == 0) || ((same k) i || list_any (λ n. n == k) named)) ∙ or-here (k == 0) (list_any (λ n. n == k) named)

module _ (start : Start) where
  regions-create : (e : Effects) (qid qsize prp1 cqid qprio : ℕ) (pc : Bool) → Lives e → HasUsed e × TellsQueue e → Passes (table_in start e) (CreateSq qid qsize prp1 cqid qprio pc)
      → HasUsed (Accepted (CreateSq qid qsize prp1 cqid qprio pc) ∷ e) × TellsQueue (Accepted (CreateSq qid qsize prp1 cqid qprio pc) ∷ e)
  regions-create e qid qsize prp1 cqid qprio pc l p passes =
      let found = create_sq-found (table_in start e) qid qsize prp1 cqid qprio pc passes in
      let k : ℕ = found.region.number in
      let new : SqEntry = record { region = unwrap_or (number_by (placing_in e) (length (sq_named_in e)) (sq_regions_in e) prp1) 0; cqid = cqid; class = class_of qprio; closing = false } in
      let is : new.region ≡ k = ap (λ (o : Option ℕ). unwrap_or o 0) found.region.found in
      let unused : is_used (sq_named_in e) k ≡ false = found.region.unused (fresh-sqs e l) in
      let not_zero : k ≡ 0 → ⊥ = eqb-false k 0 (or-left (k == 0) (list_any (λ n. n == k) (sq_named_in e)) unused) in
      let apart : (q : ℕ) (b : SqEntry) → io_sq_in e q ≡ Some b → k ≡ b.region → ⊥ =
      λ q b h to. true≢false (sym (ap (is_used (sq_named_in e)) to ∙ (p.0 q b h).0) ∙ unused) in (
        (λ q a h. elim (created-back (qid == q) new (io_sq_in e q) a h) [
          | inl own ↦
              let to : k ≡ a.region = sym is ∙ ap (λ (r : SqEntry). r.region) own.1 in (
                subst (λ (o : Option ℕ). is_used (option_to_list o ++ sq_named_in e) a.region ≡ true) (sym found.region.found)
                    (subst (λ (j : ℕ). is_used (k ∷ sq_named_in e) j ≡ true) to (used-here (sq_named_in e) k)),
                (λ z. not_zero (to ∙ z)),
              )
          | inr before ↦ (
            subst (λ (o : Option ℕ). is_used (option_to_list o ++ sq_named_in e) a.region ≡ true) (sym found.region.found)
                (used-more (sq_named_in e) k a.region (p.0 q a before).0),
            (p.0 q a before).1,
          )
        ]),
        (λ q r a b g h same_region. elim (created-back (qid == q) new (io_sq_in e q) a g) [
          | inl own ↦ elim (created-back (qid == r) new (io_sq_in e r) b h) [
            | inl other_own ↦ sym (eqb-true qid q own.0) ∙ eqb-true qid r other_own.0
            | inr before ↦ absurd (apart r b before (sym is ∙ ap (λ (x : SqEntry). x.region) own.1 ∙ same_region))
          ]
          | inr first ↦ elim (created-back (qid == r) new (io_sq_in e r) b h) [
            | inl own ↦ absurd (apart q a first (sym is ∙ ap (λ (x : SqEntry). x.region) own.1 ∙ sym same_region))
            | inr before ↦ p.1 q r a b first before same_region
          ]
        ]),
      )

  regions-step : (e : Effects) (command : AdminCommand) → Lives e → HasUsed e × TellsQueue e → Passes (table_in start e) command → HasUsed (Accepted command ∷ e) × TellsQueue (Accepted command ∷ e)
  regions-step e (CreateSq qid qsize prp1 cqid qprio pc) l p passes = regions-create e qid qsize prp1 cqid qprio pc l p passes
  regions-step e (CreateCq qid qsize prp1 pc) l p passes = p
  regions-step e (DeleteSq qid) l p passes = (
    (λ q a h.
        let back = region-back (qid == q) (io_sq_in e q) a h in
        let old = p.0 q back.0 back.1 in
        (ap (is_used (sq_named_in e)) (sym back.2) ∙ old.0, (λ z. old.1 (back.2 ∙ z)))),
    (λ q r a b g h same_region.
        let first = region-back (qid == q) (io_sq_in e q) a g in
        let second = region-back (qid == r) (io_sq_in e r) b h in
        p.1 q r first.0 second.0 first.1 second.1 (first.2 ∙ same_region ∙ sym second.2)),
  )
  regions-step e (DeleteCq qid) l p passes = p
  regions-step e (SetFeatures fid sv cdw11) l p passes = p
  regions-step e (GetFeatures fid) l p passes = p
  regions-step e (Abort sqid cid) l p passes = p
  regions-step e Other l p passes = p

  regions-reached : (h : TableHistory) → HasUsed (effects_of start h) × TellsQueue (effects_of start h)
  regions-reached h =
      reached-alive start (λ e. HasUsed e × TellsQueue e)
      ((λ q a none. absurd (none-some a none)), (λ q r a b none. absurd (none-some a none)))
      (λ e kind address slots p. p)
      regions-step
      (λ e qid p. (
        (λ q a after. p.0 q a (finished-back (qid == q) (io_sq_in e q) a after)),
        (λ q r a b g after. p.1 q r a b (finished-back (qid == q) (io_sq_in e q) a g) (finished-back (qid == r) (io_sq_in e r) b after)),
      ))
      (λ e placing p. p)
      h

-- the admin queue's region is region 0
admin-region : (rs : List Region) (a : SqEntry) → admin_sq rs ≡ Some a → a.region ≡ 0
admin-region [] a h = absurd (none-some a h)
admin-region (r ∷ rs) a h = sym (ap (λ (x : SqEntry). x.region) (same_Some _ a h))

zero-of : (start : Start) (e : Effects) (q : ℕ) (a : SqEntry) → q ≡ 0 → sq_in e q ≡ Some a → a.region ≡ 0
zero-of start e q a z h =
    let right : (q == 0) ≡ true = eq-eqb q 0 z in
    admin-region (sq_regions_in e) a (sym (λ i. if right i then admin_sq (sq_regions_in e) else io_sq_in e q) ∙ h)

pub regions-tell_queues : RegionsTellQueues
unfolding queue_table
regions-tell_queues start h q r a b g k same_region =
    let e : Effects = effects_of start h in
    let p = regions-reached start h in
    elim (cases_eq q 0) [
      | inl qz ↦ elim (cases_eq r 0) [
        | inl rz ↦ qz ∙ sym rz
        | inr rn ↦
            let io : io_sq_in e r ≡ Some b = sym (sq_in-io e r rn) ∙ k in
            absurd ((p.0 r b io).1 (sym same_region ∙ zero-of start e q a qz g))
      ]
      | inr qn ↦
          let first : io_sq_in e q ≡ Some a = sym (sq_in-io e q qn) ∙ g in
          elim (cases_eq r 0) [
            | inl rz ↦ absurd ((p.0 q a first).1 (same_region ∙ zero-of start e r b rz k))
            | inr rn ↦ p.1 q r a b first (sym (sq_in-io e r rn) ∙ k) same_region
          ]
    ]
