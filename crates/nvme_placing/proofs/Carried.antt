-- An entry is carried out over a table by tokens.
use Rattle.std.proofs.Common.{◌≡◌, ℕ, ◌+◌, ◌*◌, ◌<◌, ◌≤◌, ◌==◌, ◌||◌, ◌&&◌, Bool, true, false, not, nat_lt, if◌then◌else◌, List, ◌∷◌, ◌++◌, length, set, Option, Some, slice_get, is_some, is_none, get_or, refl, sym, ◌∙◌, ap, subst, arith, inl, inr, true≢false, get_or-set_same, eq-eqb, ltb-false}
use Rattle.std.proofs.lemmas.Bool.{cases_Bool, eqb-false}
use Rattle.std.proofs.lemmas.List.{length-set}
use Rattle.std.proofs.lemmas.Option.{slice_get-get_or}
use Rattle.nvme_entry.specs.Status.{StatusCode, success, invalid_field}
use Rattle.nvme_entry.specs.Checks.{Check, first_failed}
use Rattle.nvme_entry.specs.Submission.{fuse_of}
use Rattle.nvme_entry.specs.AdminCommand.{admin_command_of}
use Rattle.nvme_entry.specs.declared.submission.Sqe.{Sqe}
use Rattle.nvme_entry.specs.declared.admin.AdminCommand.{AdminCommand}
use Rattle.nvme_entry.specs.declared.admin.AdminCommand.TheVariants.{DeleteSq, CreateSq, DeleteCq, CreateCq, Abort, SetFeatures, GetFeatures, Other}
use Rattle.nvme_admin.specs.declared.bounds.TheConstants.{MAX_REGIONS, MAX_QSIZE, MAX_IO_QUEUES}
use Rattle.nvme_admin.specs.declared.region.Region.{Region}
use Rattle.nvme_admin.specs.declared.verdict.Verdict.{Verdict}
use Rattle.nvme_admin.specs.declared.verdict.Verdict.TheVariants.{Done}
use Rattle.nvme_admin.specs.History.{Placing}
use Rattle.nvme_admin.specs.QueueTable.{QueueTable, region_number}
use Rattle.nvme_admin.specs.Checks.{row, rows_of, placing_rows, placing_rows_of, status_over, status_in, is_success, is_free, is_fit, has_slots, verdict_by}
use Rattle.nvme_admin.specs.Steps.{table_after}
use Rattle.nvme_admin.specs.Standing.{TableView, IsSized, Shows, table_of, sq_of, cq_of, used_at, sq_renewed, cq_renewed}
use Rattle.nvme_admin.proofs.PlaceLemmas.{sq-renewed, cq-renewed}
use Rattle.nvme_admin.proofs.Reached.{or_false-parts, not_false}
use Rattle.nvme_placing.specs.Telling.{HasTokens, AreTokens, unplaced_verdict}
use Rattle.nvme_placing.specs.inside.Carrying.{HasQueues, Carries, IsPlaced}
use Rattle.nvme_placing.proofs.TokenLemmas.{token-found, tokens-set}
use Rattle.nvme_placing.proofs.Ladders.{ladder, AllPass, rungs, not-field, all-pass}
use Rattle.nvme_placing.proofs.Alike.{with_prp1, placed-command, is_create, sq-some, cq-none, rows-alike, verdict_by-alike, after-alike}

-- what a table does with an entry, by its own content
pub record Did (old new : TableView) (entry : Sqe) (verdict : Verdict) : Type 0 where
  pub checked : status_in verdict ≡ status_over (table_of old) entry
  pub answered : verdict ≡ verdict_by (status_over (table_of old) entry) (table_of new) (admin_command_of entry)
  pub accepted : is_success (status_in verdict) ≡ true → Shows new (table_after (table_of old) (admin_command_of entry))
  pub refused : is_success (status_in verdict) ≡ false → new ≡ old
  pub sized : IsSized new

-- the tokens stay where the regions do
pub tokens-kept : (v w : TableView) → w.sq_regions ≡ v.sq_regions → w.cq_regions ≡ v.cq_regions → HasTokens v → HasTokens w
tokens-kept v w sqs cqs t = record {
  sqs = ap (λ (rs : List Region). length rs) sqs ∙ t.sqs;
  cqs = ap (λ (rs : List Region). length rs) cqs ∙ t.cqs;
  sq_tokens = subst (AreTokens 0) (sym sqs) t.sq_tokens;
  cq_tokens = subst (AreTokens 1) (sym cqs) t.cq_tokens;
}

-- the status over each queue table of the same queues
abbrev pub SameStatus : TableView → Placing → (placed entry : Sqe) → Type 0
SameStatus v p placed entry = (t : QueueTable) → HasQueues v t → t.placing ≡ Some p → status_over (table_of v) placed ≡ status_over t entry

-- an entry that the table is given under another address
pub carried : (v new : TableView) (p : Placing) (entry : Sqe) (x : ℕ) (verdict : Verdict) → Did v new (record entry { prp1 = x }) verdict → HasTokens v
    → SameStatus v p (record entry { prp1 = x }) entry → Carries v new p entry verdict
carried v new p entry x verdict did tokens same =
    let placed : Sqe = record entry { prp1 = x } in
    let command : AdminCommand = admin_command_of entry in
    let as_asked : admin_command_of placed ≡ with_prp1 x command = placed-command x entry in
    let shows : is_success (status_in verdict) ≡ true → Shows new (table_after (table_of v) (with_prp1 x command)) =
    λ ok. subst (λ (k : AdminCommand). Shows new (table_after (table_of v) k)) as_asked (did.accepted ok) in
    let after : (t : QueueTable) → HasQueues v t → is_success (status_in verdict) ≡ true → HasQueues new (table_after t command) =
    λ t s ok. after-alike v new t s x command (shows ok) in
    record {
      status = λ t s is. did.checked ∙ same t s is;
      told = λ t s is.
          let of_status : verdict ≡ verdict_by (status_over t entry) (table_of new) (with_prp1 x command) =
          did.answered ∙ (λ i. verdict_by ((same t s is) i) (table_of new) (as_asked i)) in
          elim (cases_Bool (is_success (status_in verdict))) [
            | inl ok ↦ ap unplaced_verdict of_status ∙ verdict_by-alike new (table_after t command) (after t s ok) (status_over t entry) x command
            | inr bad ↦
                let fails : is_success (status_over t entry) ≡ false = sym (ap is_success (did.checked ∙ same t s is)) ∙ bad in
                ap unplaced_verdict (of_status ∙ (λ i. refused-by (status_over t entry) (table_of new) (table_after t command) (with_prp1 x command) command fails i))
          ];
      after = λ t s is ok. after t s ok;
      tokens = elim (cases_Bool (is_success (status_in verdict))) [
        | inl ok ↦ tokens-kept v new (shows ok).sq_regions (shows ok).cq_regions tokens
        | inr bad ↦ subst HasTokens (sym (did.refused bad)) tokens
      ];
      sized = did.sized;
    }
  where
    refused-by : (status : StatusCode) (a b : QueueTable) (k l : AdminCommand) → is_success status ≡ false → verdict_by status a k ≡ verdict_by status b l
    refused-by status a b k l fails = rw fails refl

-- ---- an entry that is no Create
status-other : (v : TableView) (t : QueueTable) (p : Placing) (entry : Sqe) (command : AdminCommand) → is_create command ≡ false → HasQueues v t
    → first_failed (row (not (fuse_of entry == 0)) invalid_field ∷ rows_of (table_of v) command)
    ≡ first_failed (row (not (fuse_of entry == 0)) invalid_field ∷ placing_rows_of p entry command ++ rows_of t command)
status-other v t p entry (CreateSq qid qsize prp1 cqid qprio pc) h s = absurd (true≢false h)
status-other v t p entry (CreateCq qid qsize prp1 pc) h s = absurd (true≢false h)
status-other v t p entry (DeleteSq qid) h s = λ i. first_failed (row (not (fuse_of entry == 0)) invalid_field ∷ (rows-alike v t s (DeleteSq qid) h) i)
status-other v t p entry (DeleteCq qid) h s = λ i. first_failed (row (not (fuse_of entry == 0)) invalid_field ∷ (rows-alike v t s (DeleteCq qid) h) i)
status-other v t p entry (SetFeatures fid sv cdw11) h s = λ i. first_failed (row (not (fuse_of entry == 0)) invalid_field ∷ (rows-alike v t s (SetFeatures fid sv cdw11) h) i)
status-other v t p entry (GetFeatures fid) h s = refl
status-other v t p entry (Abort sqid cid) h s = refl
status-other v t p entry Other h s = refl

placing-is : (t : QueueTable) (p : Placing) (entry : Sqe) → t.placing ≡ Some p
    → status_over t entry ≡ first_failed (row (not (fuse_of entry == 0)) invalid_field ∷ placing_rows_of p entry (admin_command_of entry) ++ rows_of t (admin_command_of entry))
placing-is t p entry is = λ i. first_failed (row (not (fuse_of entry == 0)) invalid_field ∷ placing_rows (is i) entry ++ rows_of t (admin_command_of entry))

pub other-carried : (v new : TableView) (p : Placing) (entry : Sqe) (verdict : Verdict) → is_create (admin_command_of entry) ≡ false → Did v new entry verdict → HasTokens v
    → Carries v new p entry verdict
other-carried v new p entry verdict other did tokens =
    carried v new p entry entry.prp1 verdict did tokens
    (λ t s is. status-other v t p entry (admin_command_of entry) other s ∙ sym (placing-is t p entry is))

-- ---- an entry that its placing refuses
pub refused-carried : (v : TableView) (p : Placing) (entry : Sqe) (status : StatusCode) → fuse_of entry ≡ 0 → HasTokens v → IsSized v → is_success status ≡ false
    → ((rows : List Check) → first_failed (placing_rows_of p entry (admin_command_of entry) ++ rows) ≡ status)
    → Carries v v p entry (Done status 0)
refused-carried v p entry status alone tokens sized fails refused =
    let is_status : (t : QueueTable) → t.placing ≡ Some p → status ≡ status_over t entry = λ t is.
    sym (placing-is t p entry is ∙ (λ i. if not (alone i == 0) then invalid_field else refused (rows_of t (admin_command_of entry)) i)) in
    record {
      status = λ t s is. is_status t is;
      told = λ t s is. ap unplaced_verdict (done (status_over t entry) (table_after t (admin_command_of entry)) (admin_command_of entry) (is_status t is));
      after = λ t s is ok. absurd (true≢false (sym ok ∙ fails));
      tokens = tokens;
      sized = sized;
    }
  where
    done : (over : StatusCode) (t : QueueTable) (k : AdminCommand) → status ≡ over → Done status 0 ≡ verdict_by over t k
    done over t k e = sym (subst (λ (s : StatusCode). verdict_by s t k ≡ Done status 0) e (rw fails refl))

-- ---- a Create
small : (qsize : ℕ) → (qsize == 0 || nat_lt MAX_QSIZE qsize) ≡ false → qsize ≤ MAX_QSIZE
small qsize h = ltb-false MAX_QSIZE qsize (or_false-parts (qsize == 0) (nat_lt MAX_QSIZE qsize) h).1

alone-fails : (pc id size cqid cq region : Bool) → AllPass pc id size cqid cq → region ≡ true → ladder pc id size cqid cq region ≡ invalid_field
alone-fails pc id size cqid cq region a is = λ i. ladder (a.pc_set i) (a.id_free i) (a.size_fits i) (a.cqid_allotted i) (a.cq_open i) (is i)

-- a region that is there, with its slots, and unused
fits-now : (rs : List Region) (used : List Bool) (address k qsize : ℕ) (r : Region) → region_number rs address ≡ Some k → slice_get rs k ≡ Some r → r.slots ≡ qsize + 1
    → used_at used k ≡ false → not (is_free rs (used_at used) address (qsize + 1)) ≡ false
fits-now rs used address k qsize r number there slots unused =
    ap (λ (o : Option ℕ). not (is_fit rs (used_at used) (qsize + 1) o)) number
    ∙ (λ i. not (has_slots (there i) (qsize + 1) && not (unused i)))
    ∙ (λ i. not (((eq-eqb r.slots (qsize + 1) slots) i) && true))

-- what is carried out over a table of the same queues
carries-from : (v w new : TableView) (p : Placing) (entry : Sqe) (verdict : Verdict) → ((t : QueueTable) → HasQueues v t → HasQueues w t) → Carries w new p entry verdict
    → Carries v new p entry verdict
carries-from v w new p entry verdict queues c = record {
  status = λ t s is. c.status t (queues t s) is;
  told = λ t s is. c.told t (queues t s) is;
  after = λ t s is ok. c.after t (queues t s) is ok;
  tokens = c.tokens;
  sized = c.sized;
}

-- ---- a Create of a submission queue
-- the rows of the Create, over a queue table, with that of its region last
abbrev sq_ladder : QueueTable → (qid qsize cqid : ℕ) → Bool → Bool → StatusCode
sq_ladder t qid qsize cqid pc region =
    ladder (not pc) (qid == 0 || nat_lt t.nsq qid || is_some (t.sq qid)) (qsize == 0 || nat_lt MAX_QSIZE qsize) (cqid == 0 || nat_lt t.ncq cqid) (is_none (t.cq cqid)) region

-- the region of the identifier doesn't fit
abbrev sq_unfit : TableView → (qid qsize : ℕ) → Bool
sq_unfit v qid qsize = not (is_free v.sq_regions (used_at v.sq_used) (2 * qid) (qsize + 1))

-- a table whose submission region of an identifier is renewed for a number of slots
record IsSqRenewed (v w : TableView) (qid qsize : ℕ) : Type 0 where
  pub tokens : HasTokens w
  pub fits : sq_unfit w qid qsize ≡ false
  pub queues : (t : QueueTable) → HasQueues v t → HasQueues w t
  pub ladder : (cqid : ℕ) (pc : Bool) → sq_ladder (table_of w) qid qsize cqid pc false ≡ sq_ladder (table_of v) qid qsize cqid pc false

sq-renewal : (v : TableView) (qid qsize : ℕ) → HasTokens v → IsSized v → (qid ≡ 0 → ⊥) → qid < MAX_REGIONS → IsSqRenewed v (sq_renewed v qid (qsize + 1)) qid qsize
sq-renewal v qid qsize tokens sized io there =
    let none : Region = record { address = 0; slots = 0 } in
    let r : Region = get_or v.sq_regions qid none in
    let s : Region = record { address = r.address; slots = qsize + 1 } in
    let inside : qid < length v.sq_regions = rw tokens.sqs there in
    let here : slice_get v.sq_regions qid ≡ Some r = slice_get-get_or v.sq_regions qid none inside in
    let rs : List Region = set v.sq_regions qid s in
    let used : List Bool = set v.sq_used qid false in
    let long : length rs ≡ length v.sq_regions = length-set v.sq_regions qid s in
    let now_tokens : AreTokens 0 rs = tokens-set 0 v.sq_regions qid r s tokens.sq_tokens here refl in
    subst (λ (u : TableView). IsSqRenewed v u qid qsize) (sq-renewed v qid (qsize + 1) r io here)
    (record {
      tokens = record { sqs = long ∙ tokens.sqs; cqs = tokens.cqs; sq_tokens = now_tokens; cq_tokens = tokens.cq_tokens };
      fits = fits-now rs used (2 * qid) qid qsize s (token-found (2 * qid) 0 rs qid now_tokens (rw long inside) (omega arith))
          (slice_get-get_or rs qid none (rw long inside) ∙ ap Some (get_or-set_same v.sq_regions qid s none inside)) refl
          (get_or-set_same v.sq_used qid false false (rw sized.sq_used there));
      queues = λ t q. record { sq = q.sq; cq = q.cq; nsq = q.nsq; ncq = q.ncq; numbers_set = q.numbers_set; created = q.created; settings = q.settings };
      ladder = λ cqid pc. refl;
    })

module _ (p : Placing) (entry : Sqe) (qid qsize prp1 cqid qprio : ℕ) (pc : Bool) where
  sq-alike : (v : TableView) (t : QueueTable) (region : Bool) → HasQueues v t → sq_ladder (table_of v) qid qsize cqid pc region ≡ sq_ladder t qid qsize cqid pc region
  sq-alike v t region s = λ i.
      ladder (not pc) (qid == 0 || nat_lt (s.nsq i) qid || (sq-some v t s qid) i) (qsize == 0 || nat_lt MAX_QSIZE qsize) (cqid == 0 || nat_lt (s.ncq i) cqid) ((cq-none v t s cqid) i) region

  -- the status that the table comes to
  sq-checked : (v w : TableView) → IsPlaced v p entry (CreateSq qid qsize prp1 cqid qprio pc)
      → status_over (table_of w) (record entry { prp1 = 2 * qid }) ≡ sq_ladder (table_of w) qid qsize cqid pc (sq_unfit w qid qsize)
  sq-checked v w is = λ i.
      if not (is.alone i == 0) then invalid_field else first_failed (rows_of (table_of w) ((placed-command (2 * qid) entry ∙ ap (with_prp1 (2 * qid)) is.command_is) i))

  -- the status over a queue table of the same queues
  sq-over : (v w : TableView) (t : QueueTable) → IsPlaced v p entry (CreateSq qid qsize prp1 cqid qprio pc) → HasQueues w t → t.placing ≡ Some p
      → sq_ladder (table_of w) qid qsize cqid pc false ≡ status_over t entry
  sq-over v w t is s some =
      sq-alike w t false s
      ∙ sym (
      placing-is t p entry some
      ∙ (λ i. if not (is.alone i == 0) then invalid_field else (is.passes (rows_of t (admin_command_of entry))) i)
      ∙ (λ i. first_failed (rows_of t (is.command_is i)))
      ∙ (λ i. ladder (not pc) (qid == 0 || nat_lt t.nsq qid || is_some (t.sq qid)) (qsize == 0 || nat_lt MAX_QSIZE qsize) (cqid == 0 || nat_lt t.ncq cqid) (is_none (t.cq cqid))
      (is_none (some i) && not (is_free t.sq_regions t.sq_region_used prp1 (qsize + 1)))))

  -- the table is right as it is
  pub sq-at_once : (v new : TableView) (verdict : Verdict) → IsPlaced v p entry (CreateSq qid qsize prp1 cqid qprio pc) → Did v new (record entry { prp1 = 2 * qid }) verdict
      → (pc ≡ true → qsize ≤ MAX_QSIZE → status_in verdict ≡ invalid_field → ⊥) → Carries v new p entry verdict
  sq-at_once v new verdict is did no_field =
      let came : status_in verdict ≡ sq_ladder (table_of v) qid qsize cqid pc (sq_unfit v qid qsize) = did.checked ∙ sq-checked v v is in
      let decides : sq_ladder (table_of v) qid qsize cqid pc (sq_unfit v qid qsize) ≡ sq_ladder (table_of v) qid qsize cqid pc false =
      elim (rungs (not pc) (qid == 0 || nat_lt v.nsq qid || is_some (sq_of v qid)) (qsize == 0 || nat_lt MAX_QSIZE qsize) (cqid == 0 || nat_lt v.ncq cqid) (is_none (cq_of v cqid)) (sq_unfit v qid qsize)) [
        | inl same ↦ same
        | inr alone ↦ absurd (no_field (not_false pc alone.0.pc_set) (small qsize alone.0.size_fits) (came ∙ alone-fails _ _ _ _ _ _ alone.0 alone.1))
      ] in
      carried v new p entry (2 * qid) verdict did is.tokens (λ t s some. sq-checked v v is ∙ decides ∙ sq-over v v t is s some)

  -- the table is right but for the region, which is renewed
  pub sq-after_renewal : (v w new : TableView) (first verdict : Verdict) → IsPlaced v p entry (CreateSq qid qsize prp1 cqid qprio pc) → IsSized v → v.nsq ≤ MAX_IO_QUEUES
      → status_in first ≡ status_over (table_of v) (record entry { prp1 = 2 * qid }) → pc ≡ true → status_in first ≡ invalid_field
      → (qid < MAX_REGIONS → w ≡ sq_renewed v qid (qsize + 1)) → Did w new (record entry { prp1 = 2 * qid }) verdict
      → Carries v new p entry verdict × (status_in verdict ≡ success)
  sq-after_renewal v w new first verdict is sized few checked with_pc field renewed did =
      let came : sq_ladder (table_of v) qid qsize cqid pc (sq_unfit v qid qsize) ≡ invalid_field = sym (sq-checked v v is) ∙ sym checked ∙ field in
      let pass : AllPass (not pc) (qid == 0 || nat_lt v.nsq qid || is_some (sq_of v qid)) (qsize == 0 || nat_lt MAX_QSIZE qsize) (cqid == 0 || nat_lt v.ncq cqid) (is_none (cq_of v cqid)) =
      elim (rungs (not pc) (qid == 0 || nat_lt v.nsq qid || is_some (sq_of v qid)) (qsize == 0 || nat_lt MAX_QSIZE qsize) (cqid == 0 || nat_lt v.ncq cqid) (is_none (cq_of v cqid)) (sq_unfit v qid qsize)) [
        | inl same ↦ absurd (not-field (qid == 0 || nat_lt v.nsq qid || is_some (sq_of v qid)) (qsize == 0 || nat_lt MAX_QSIZE qsize) (cqid == 0 || nat_lt v.ncq cqid) (is_none (cq_of v cqid)) (subst (λ (b : Bool). sq_ladder (table_of v) qid qsize cqid b false ≡ invalid_field) with_pc (sym same ∙ came)))
        | inr alone ↦ alone.0
      ] in
      let ids = or_false-parts (qid == 0 || nat_lt v.nsq qid) (is_some (sq_of v qid)) pass.id_free in
      let range = or_false-parts (qid == 0) (nat_lt v.nsq qid) ids.0 in
      let allotted : qid ≤ v.nsq = ltb-false v.nsq qid range.1 in
      let there : qid < MAX_REGIONS = omega (arith, allotted, few) in
      let new_region : IsSqRenewed v w qid qsize =
      subst (λ (u : TableView). IsSqRenewed v u qid qsize) (sym (renewed there)) (sq-renewal v qid qsize is.tokens sized (eqb-false qid 0 range.0) there) in
      let now_checked : status_over (table_of w) (record entry { prp1 = 2 * qid }) ≡ sq_ladder (table_of w) qid qsize cqid pc false =
      sq-checked v w is ∙ ap (sq_ladder (table_of w) qid qsize cqid pc) new_region.fits in
      let carries : Carries w new p entry verdict =
      carried w new p entry (2 * qid) verdict did new_region.tokens (λ t s some. now_checked ∙ sq-over v w t is s some) in
      let succeeds : sq_ladder (table_of v) qid qsize cqid pc false ≡ success = all-pass (not pc) (qid == 0 || nat_lt v.nsq qid || is_some (sq_of v qid)) (qsize == 0 || nat_lt MAX_QSIZE qsize) (cqid == 0 || nat_lt v.ncq cqid) (is_none (cq_of v cqid)) pass in
      (carries-from v w new p entry verdict new_region.queues carries, did.checked ∙ now_checked ∙ new_region.ladder cqid pc ∙ succeeds)

-- ---- a Create of a completion queue
-- the rows of the Create, over a queue table, with that of its region last
abbrev cq_ladder : QueueTable → (qid qsize : ℕ) → Bool → Bool → StatusCode
cq_ladder t qid qsize pc region =
    ladder (not pc) (qid == 0 || nat_lt t.ncq qid || is_some (t.cq qid)) (qsize == 0 || nat_lt MAX_QSIZE qsize) false false region

-- the region of the identifier doesn't fit
abbrev cq_unfit : TableView → (qid qsize : ℕ) → Bool
cq_unfit v qid qsize = not (is_free v.cq_regions (used_at v.cq_used) (2 * qid + 1) (qsize + 1))

-- a table whose completion region of an identifier is renewed for a number of slots
record IsCqRenewed (v w : TableView) (qid qsize : ℕ) : Type 0 where
  pub tokens : HasTokens w
  pub fits : cq_unfit w qid qsize ≡ false
  pub queues : (t : QueueTable) → HasQueues v t → HasQueues w t
  pub ladder : (pc : Bool) → cq_ladder (table_of w) qid qsize pc false ≡ cq_ladder (table_of v) qid qsize pc false

cq-renewal : (v : TableView) (qid qsize : ℕ) → HasTokens v → IsSized v → (qid ≡ 0 → ⊥) → qid < MAX_REGIONS → IsCqRenewed v (cq_renewed v qid (qsize + 1)) qid qsize
cq-renewal v qid qsize tokens sized io there =
    let none : Region = record { address = 0; slots = 0 } in
    let r : Region = get_or v.cq_regions qid none in
    let s : Region = record { address = r.address; slots = qsize + 1 } in
    let inside : qid < length v.cq_regions = rw tokens.cqs there in
    let here : slice_get v.cq_regions qid ≡ Some r = slice_get-get_or v.cq_regions qid none inside in
    let rs : List Region = set v.cq_regions qid s in
    let used : List Bool = set v.cq_used qid false in
    let long : length rs ≡ length v.cq_regions = length-set v.cq_regions qid s in
    let now_tokens : AreTokens 1 rs = tokens-set 1 v.cq_regions qid r s tokens.cq_tokens here refl in
    subst (λ (u : TableView). IsCqRenewed v u qid qsize) (cq-renewed v qid (qsize + 1) r io here)
    (record {
      tokens = record { sqs = tokens.sqs; cqs = long ∙ tokens.cqs; sq_tokens = tokens.sq_tokens; cq_tokens = now_tokens };
      fits = fits-now rs used (2 * qid + 1) qid qsize s (token-found (2 * qid + 1) 1 rs qid now_tokens (rw long inside) (omega arith))
          (slice_get-get_or rs qid none (rw long inside) ∙ ap Some (get_or-set_same v.cq_regions qid s none inside)) refl
          (get_or-set_same v.cq_used qid false false (rw sized.cq_used there));
      queues = λ t q. record { sq = q.sq; cq = q.cq; nsq = q.nsq; ncq = q.ncq; numbers_set = q.numbers_set; created = q.created; settings = q.settings };
      ladder = λ pc. refl;
    })

module _ (p : Placing) (entry : Sqe) (qid qsize prp1 : ℕ) (pc : Bool) where
  cq-alike : (v : TableView) (t : QueueTable) (region : Bool) → HasQueues v t → cq_ladder (table_of v) qid qsize pc region ≡ cq_ladder t qid qsize pc region
  cq-alike v t region s = λ i.
      ladder (not pc) (qid == 0 || nat_lt (s.ncq i) qid || (s.cq qid) i) (qsize == 0 || nat_lt MAX_QSIZE qsize) false false region

  -- the status that the table comes to
  cq-checked : (v w : TableView) → IsPlaced v p entry (CreateCq qid qsize prp1 pc)
      → status_over (table_of w) (record entry { prp1 = 2 * qid + 1 }) ≡ cq_ladder (table_of w) qid qsize pc (cq_unfit w qid qsize)
  cq-checked v w is = λ i.
      if not (is.alone i == 0) then invalid_field else first_failed (rows_of (table_of w) ((placed-command (2 * qid + 1) entry ∙ ap (with_prp1 (2 * qid + 1)) is.command_is) i))

  -- the status over a queue table of the same queues
  cq-over : (v w : TableView) (t : QueueTable) → IsPlaced v p entry (CreateCq qid qsize prp1 pc) → HasQueues w t → t.placing ≡ Some p
      → cq_ladder (table_of w) qid qsize pc false ≡ status_over t entry
  cq-over v w t is s some =
      cq-alike w t false s
      ∙ sym (
      placing-is t p entry some
      ∙ (λ i. if not (is.alone i == 0) then invalid_field else (is.passes (rows_of t (admin_command_of entry))) i)
      ∙ (λ i. first_failed (rows_of t (is.command_is i)))
      ∙ (λ i. ladder (not pc) (qid == 0 || nat_lt t.ncq qid || is_some (t.cq qid)) (qsize == 0 || nat_lt MAX_QSIZE qsize) false false
      (is_none (some i) && not (is_free t.cq_regions t.cq_region_used prp1 (qsize + 1)))))

  -- the table is right as it is
  pub cq-at_once : (v new : TableView) (verdict : Verdict) → IsPlaced v p entry (CreateCq qid qsize prp1 pc) → Did v new (record entry { prp1 = 2 * qid + 1 }) verdict
      → (pc ≡ true → qsize ≤ MAX_QSIZE → status_in verdict ≡ invalid_field → ⊥) → Carries v new p entry verdict
  cq-at_once v new verdict is did no_field =
      let came : status_in verdict ≡ cq_ladder (table_of v) qid qsize pc (cq_unfit v qid qsize) = did.checked ∙ cq-checked v v is in
      let decides : cq_ladder (table_of v) qid qsize pc (cq_unfit v qid qsize) ≡ cq_ladder (table_of v) qid qsize pc false =
      elim (rungs (not pc) (qid == 0 || nat_lt v.ncq qid || is_some (cq_of v qid)) (qsize == 0 || nat_lt MAX_QSIZE qsize) false false (cq_unfit v qid qsize)) [
        | inl same ↦ same
        | inr alone ↦ absurd (no_field (not_false pc alone.0.pc_set) (small qsize alone.0.size_fits) (came ∙ alone-fails _ _ _ _ _ _ alone.0 alone.1))
      ] in
      carried v new p entry (2 * qid + 1) verdict did is.tokens (λ t s some. cq-checked v v is ∙ decides ∙ cq-over v v t is s some)

  -- the table is right but for the region, which is renewed
  pub cq-after_renewal : (v w new : TableView) (first verdict : Verdict) → IsPlaced v p entry (CreateCq qid qsize prp1 pc) → IsSized v → v.ncq ≤ MAX_IO_QUEUES
      → status_in first ≡ status_over (table_of v) (record entry { prp1 = 2 * qid + 1 }) → pc ≡ true → status_in first ≡ invalid_field
      → (qid < MAX_REGIONS → w ≡ cq_renewed v qid (qsize + 1)) → Did w new (record entry { prp1 = 2 * qid + 1 }) verdict
      → Carries v new p entry verdict × (status_in verdict ≡ success)
  cq-after_renewal v w new first verdict is sized few checked with_pc field renewed did =
      let came : cq_ladder (table_of v) qid qsize pc (cq_unfit v qid qsize) ≡ invalid_field = sym (cq-checked v v is) ∙ sym checked ∙ field in
      let pass : AllPass (not pc) (qid == 0 || nat_lt v.ncq qid || is_some (cq_of v qid)) (qsize == 0 || nat_lt MAX_QSIZE qsize) false false =
      elim (rungs (not pc) (qid == 0 || nat_lt v.ncq qid || is_some (cq_of v qid)) (qsize == 0 || nat_lt MAX_QSIZE qsize) false false (cq_unfit v qid qsize)) [
        | inl same ↦ absurd (not-field (qid == 0 || nat_lt v.ncq qid || is_some (cq_of v qid)) (qsize == 0 || nat_lt MAX_QSIZE qsize) false false (subst (λ (b : Bool). cq_ladder (table_of v) qid qsize b false ≡ invalid_field) with_pc (sym same ∙ came)))
        | inr alone ↦ alone.0
      ] in
      let ids = or_false-parts (qid == 0 || nat_lt v.ncq qid) (is_some (cq_of v qid)) pass.id_free in
      let range = or_false-parts (qid == 0) (nat_lt v.ncq qid) ids.0 in
      let allotted : qid ≤ v.ncq = ltb-false v.ncq qid range.1 in
      let there : qid < MAX_REGIONS = omega (arith, allotted, few) in
      let new_region : IsCqRenewed v w qid qsize =
      subst (λ (u : TableView). IsCqRenewed v u qid qsize) (sym (renewed there)) (cq-renewal v qid qsize is.tokens sized (eqb-false qid 0 range.0) there) in
      let now_checked : status_over (table_of w) (record entry { prp1 = 2 * qid + 1 }) ≡ cq_ladder (table_of w) qid qsize pc false =
      cq-checked v w is ∙ ap (cq_ladder (table_of w) qid qsize pc) new_region.fits in
      let carries : Carries w new p entry verdict =
      carried w new p entry (2 * qid + 1) verdict did new_region.tokens (λ t s some. now_checked ∙ cq-over v w t is s some) in
      let succeeds : cq_ladder (table_of v) qid qsize pc false ≡ success = all-pass (not pc) (qid == 0 || nat_lt v.ncq qid || is_some (cq_of v qid)) (qsize == 0 || nat_lt MAX_QSIZE qsize) false false pass in
      (carries-from v w new p entry verdict new_region.queues carries, did.checked ∙ now_checked ∙ new_region.ladder pc ∙ succeeds)
