-- A queue is created, or its deletion begins.
use Rattle.std.proofs.Common.{◌≡◌, ℕ, ◌<◌, ◌==◌, ◌||◌, Bool, true, false, not, [], ◌∷◌, length, set, Option, Some, None, refl, sym, ◌∙◌, ap, subst, true≢false, get_or-set_same, unwrap_or, option_map, is_none}
use Rattle.nvme_arbiter.specs.declared.settings.Class.{Class}
use Rattle.nvme_entry.specs.Checks.{first_failed}
use Rattle.nvme_entry.specs.Status.{StatusCode, success, invalid_queue_identifier, invalid_queue_deletion}
use Rattle.nvme_entry.specs.declared.admin.AdminCommand.{AdminCommand}
use Rattle.nvme_entry.specs.declared.admin.AdminCommand.TheVariants.{CreateSq, CreateCq, DeleteSq, DeleteCq}
use Rattle.nvme_admin.specs.declared.bounds.TheConstants.{MAX_REGIONS}
use Rattle.nvme_admin.specs.declared.verdict.SqEntry.{SqEntry}
use Rattle.nvme_admin.specs.declared.verdict.Verdict.TheVariants.{OpenSq, OpenCq, BeginDelete, CloseCq}
use Rattle.nvme_admin.specs.QueueTable.{region_number, class_of, as_closing}
use Rattle.nvme_admin.specs.Checks.{row, rows_of, is_success, is_open, is_attached, verdict_by, opened_sq, opened_cq}
use Rattle.nvme_admin.specs.Standing.{TableView, IsSized, Does, table_of, sq_of, cq_of}
use Rattle.nvme_admin.proofs.Slots.{other, within, slot-set, mark-set}
use Rattle.nvme_admin.proofs.Shown.{Shows-create_sq, Shows-create_cq, Shows-delete_sq, Shows-delete_cq}

-- a command that passes isn't refused
passing : (s : StatusCode) → s ≡ success → is_success s ≡ false → ⊥
passing s p h = true≢false (sym (ap is_success p) ∙ h)

module _ (v w : TableView) (opened : v ≡ w) (sized : IsSized v) (qid qsize prp1 : ℕ) (pc : Bool) (k : ℕ) (room : qid < MAX_REGIONS) (place : k < MAX_REGIONS) (io : qid ≡ 0 → ⊥) where
  pub Does-create_cq : (q n : ℕ) → q ≡ qid → n ≡ k
      → first_failed (rows_of (table_of w) (CreateCq qid qsize prp1 pc)) ≡ success → region_number w.cq_regions prp1 ≡ Some k
      → Does w (record v { cqs = set v.cqs q (Some k); cq_used = set v.cq_used n true; created = true }) (CreateCq qid qsize prp1 pc) (OpenCq qid k)
  Does-create_cq q n q_is n_is passed named =
      let command : AdminCommand = CreateCq qid qsize prp1 pc in
      let new : TableView = record v { cqs = set v.cqs qid (Some k); cq_used = set v.cq_used k true; created = true } in
      let passes : first_failed (rows_of (table_of v) command) ≡ success = subst (λ (u : TableView). first_failed (rows_of (table_of u) (CreateCq qid qsize prp1 pc)) ≡ success) (sym opened) passed in
      let region : region_number v.cq_regions prp1 ≡ Some k = subst (λ (u : TableView). region_number u.cq_regions prp1 ≡ Some k) (sym opened) named in
      let within_cqs : qid < length v.cqs = rw sized.cqs room in
      let number : k ≡ unwrap_or (region_number v.cq_regions prp1) 0 = sym (ap (λ (o : Option ℕ). unwrap_or o 0) region) in
      let does : Does v new command (OpenCq qid k) = record {
        verdict_is = sym (ap (λ (s : StatusCode). verdict_by s (table_of new) command) passes ∙ ap (opened_cq qid) (get_or-set_same v.cqs qid (Some k) None within_cqs));
        accepted = λ _ start e s. Shows-create_cq start e v qid qsize prp1 pc k sized io room place region s;
        takes = λ _. record {
          sq = λ q. refl;
          cq = slot-set v.cqs qid (Some k) (λ _. Some (unwrap_or (region_number v.cq_regions prp1) 0)) within_cqs (ap (λ (n : ℕ). Some n) number);
          sq_regions = refl;
          cq_regions = refl;
          sq_used = λ j. refl;
          cq_used = mark-set v.cq_used k (unwrap_or (region_number v.cq_regions prp1) 0) (rw sized.cq_used place) number;
          nsq = refl;
          ncq = refl;
          numbers_set = refl;
          created = refl;
          settings = refl;
          placing = refl;
        };
        refused = λ h. absurd (passing (first_failed (rows_of (table_of v) command)) passes h);
      } in
      subst (λ (u : TableView). Does u (record v { cqs = set v.cqs q (Some k); cq_used = set v.cq_used n true; created = true }) (CreateCq qid qsize prp1 pc) (OpenCq qid k)) opened
      (subst (λ (j : ℕ). Does v (record v { cqs = set v.cqs j (Some k); cq_used = set v.cq_used n true; created = true }) (CreateCq qid qsize prp1 pc) (OpenCq qid k)) (sym q_is)
      (subst (λ (j : ℕ). Does v (record v { cqs = set v.cqs qid (Some k); cq_used = set v.cq_used j true; created = true }) (CreateCq qid qsize prp1 pc) (OpenCq qid k)) (sym n_is) does))

  pub Does-create_sq : (cqid qprio q n : ℕ) (class : Class) → q ≡ qid → n ≡ k → class ≡ class_of qprio
      → first_failed (rows_of (table_of w) (CreateSq qid qsize prp1 cqid qprio pc)) ≡ success → region_number w.sq_regions prp1 ≡ Some k
      → Does w (record v { sqs = set v.sqs q (Some (record { region = k; cqid = cqid; class = class; closing = false })); sq_used = set v.sq_used n true; created = true })
      (CreateSq qid qsize prp1 cqid qprio pc) (OpenSq qid k cqid class)
  Does-create_sq cqid qprio q n class q_is n_is class_is passed named =
      let command : AdminCommand = CreateSq qid qsize prp1 cqid qprio pc in
      let queue : SqEntry = record { region = k; cqid = cqid; class = class_of qprio; closing = false } in
      let new : TableView = record v { sqs = set v.sqs qid (Some queue); sq_used = set v.sq_used k true; created = true } in
      let passes : first_failed (rows_of (table_of v) command) ≡ success = subst (λ (u : TableView). first_failed (rows_of (table_of u) (CreateSq qid qsize prp1 cqid qprio pc)) ≡ success) (sym opened) passed in
      let region : region_number v.sq_regions prp1 ≡ Some k = subst (λ (u : TableView). region_number u.sq_regions prp1 ≡ Some k) (sym opened) named in
      let within_sqs : qid < length v.sqs = rw sized.sqs room in
      let number : k ≡ unwrap_or (region_number v.sq_regions prp1) 0 = sym (ap (λ (o : Option ℕ). unwrap_or o 0) region) in
      let does : Does v new command (OpenSq qid k cqid (class_of qprio)) = record {
        verdict_is = sym (ap (λ (s : StatusCode). verdict_by s (table_of new) command) passes ∙ ap (opened_sq qid) (get_or-set_same v.sqs qid (Some queue) None within_sqs));
        accepted = λ _ start e s. Shows-create_sq start e v qid qsize prp1 cqid qprio pc k sized io room place region s;
        takes = λ _. record {
          sq = slot-set v.sqs qid (Some queue) (λ _. Some (record { region = unwrap_or (region_number v.sq_regions prp1) 0; cqid = cqid; class = class_of qprio; closing = false })) within_sqs
              (ap (λ (n : ℕ). Some (record { region = n; cqid = cqid; class = class_of qprio; closing = false })) number);
          cq = λ q. refl;
          sq_regions = refl;
          cq_regions = refl;
          sq_used = mark-set v.sq_used k (unwrap_or (region_number v.sq_regions prp1) 0) (rw sized.sq_used place) number;
          cq_used = λ j. refl;
          nsq = refl;
          ncq = refl;
          numbers_set = refl;
          created = refl;
          settings = refl;
          placing = refl;
        };
        refused = λ h. absurd (passing (first_failed (rows_of (table_of v) command)) passes h);
      } in
      subst (λ (u : TableView). Does u (record v { sqs = set v.sqs q (Some (record { region = k; cqid = cqid; class = class; closing = false })); sq_used = set v.sq_used n true; created = true }) (CreateSq qid qsize prp1 cqid qprio pc) (OpenSq qid k cqid class)) opened
      (subst (λ (j : ℕ). Does v (record v { sqs = set v.sqs j (Some (record { region = k; cqid = cqid; class = class; closing = false })); sq_used = set v.sq_used n true; created = true }) (CreateSq qid qsize prp1 cqid qprio pc) (OpenSq qid k cqid class)) (sym q_is)
      (subst (λ (j : ℕ). Does v (record v { sqs = set v.sqs qid (Some (record { region = k; cqid = cqid; class = class; closing = false })); sq_used = set v.sq_used j true; created = true }) (CreateSq qid qsize prp1 cqid qprio pc) (OpenSq qid k cqid class)) (sym n_is)
      (subst (λ (c : Class). Does v (record v { sqs = set v.sqs qid (Some (record { region = k; cqid = cqid; class = c; closing = false })); sq_used = set v.sq_used k true; created = true }) (CreateSq qid qsize prp1 cqid qprio pc) (OpenSq qid k cqid c)) (sym class_is) does)))

pub Does-delete_sq : (v w : TableView) (qid q : ℕ) (queue : SqEntry) → v ≡ w → q ≡ qid → (qid ≡ 0 → ⊥) → sq_of w qid ≡ Some queue → queue.closing ≡ false
    → Does w (record v { sqs = set v.sqs q (Some (record queue { closing = true })) }) (DeleteSq qid) (BeginDelete qid)
Does-delete_sq v w qid q queue opened q_is io found closing =
    let command : AdminCommand = DeleteSq qid in
    let new : TableView = record v { sqs = set v.sqs qid (Some (as_closing queue)) } in
    let here : sq_of v qid ≡ Some queue = subst (λ (u : TableView). sq_of u qid ≡ Some queue) (sym opened) found in
    let test : (qid == 0 || not (is_open (sq_of v qid))) ≡ false = (λ i. (other qid 0 io) i || not (is_open (here i))) ∙ (λ i. not (not (closing i))) in
    let passes : first_failed (rows_of (table_of v) command) ≡ success = ap (λ (b : Bool). first_failed (row b invalid_queue_identifier ∷ [])) test in
    let does : Does v new command (BeginDelete qid) = record {
      verdict_is = sym (ap (λ (s : StatusCode). verdict_by s (table_of new) command) passes);
      accepted = λ _ start e s. Shows-delete_sq start e v qid queue io here s;
      takes = λ _. record {
        sq = slot-set v.sqs qid (Some (as_closing queue)) (λ p. option_map as_closing (sq_of v p)) (within v.sqs qid queue here) (sym (ap (option_map as_closing) here));
        cq = λ p. refl;
        sq_regions = refl;
        cq_regions = refl;
        sq_used = λ j. refl;
        cq_used = λ j. refl;
        nsq = refl;
        ncq = refl;
        numbers_set = refl;
        created = refl;
        settings = refl;
        placing = refl;
      };
      refused = λ h. absurd (passing (first_failed (rows_of (table_of v) command)) passes h);
    } in
    subst (λ (u : TableView). Does u (record v { sqs = set v.sqs q (Some (record queue { closing = true })) }) (DeleteSq qid) (BeginDelete qid)) opened
    (subst (λ (j : ℕ). Does v (record v { sqs = set v.sqs j (Some (record queue { closing = true })) }) (DeleteSq qid) (BeginDelete qid)) (sym q_is) does)

pub Does-delete_cq : (v w : TableView) (qid q region : ℕ) → v ≡ w → q ≡ qid → (qid ≡ 0 → ⊥) → cq_of w qid ≡ Some region → is_attached (table_of w) qid ≡ false
    → Does w (record v { cqs = set v.cqs q None }) (DeleteCq qid) (CloseCq qid)
Does-delete_cq v w qid q region opened q_is io found alone =
    let command : AdminCommand = DeleteCq qid in
    let new : TableView = record v { cqs = set v.cqs qid None } in
    let here : cq_of v qid ≡ Some region = subst (λ (u : TableView). cq_of u qid ≡ Some region) (sym opened) found in
    let attached : is_attached (table_of v) qid ≡ false = subst (λ (u : TableView). is_attached (table_of u) qid ≡ false) (sym opened) alone in
    let test : (qid == 0 || is_none (cq_of v qid)) ≡ false = (λ i. (other qid 0 io) i || is_none (here i)) in
    let passes : first_failed (rows_of (table_of v) command) ≡ success =
    (λ i. first_failed (row (test i) invalid_queue_identifier ∷ row (attached i) invalid_queue_deletion ∷ [])) in
    let does : Does v new command (CloseCq qid) = record {
      verdict_is = sym (ap (λ (s : StatusCode). verdict_by s (table_of new) command) passes);
      accepted = λ _ start e s. Shows-delete_cq start e v qid region io here s;
      takes = λ _. record {
        sq = λ p. refl;
        cq = slot-set v.cqs qid None (λ _. None) (within v.cqs qid region here) refl;
        sq_regions = refl;
        cq_regions = refl;
        sq_used = λ j. refl;
        cq_used = λ j. refl;
        nsq = refl;
        ncq = refl;
        numbers_set = refl;
        created = refl;
        settings = refl;
        placing = refl;
      };
      refused = λ h. absurd (passing (first_failed (rows_of (table_of v) command)) passes h);
    } in
    subst (λ (u : TableView). Does u (record v { cqs = set v.cqs q None }) (DeleteCq qid) (CloseCq qid)) opened
    (subst (λ (j : ℕ). Does v (record v { cqs = set v.cqs j None }) (DeleteCq qid) (CloseCq qid)) (sym q_is) does)
