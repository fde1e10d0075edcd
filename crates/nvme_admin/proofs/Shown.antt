-- What a table shows after each step that takes effect.
use Rattle.std.proofs.Common.{◌≡◌, ℕ, ◌<◌, Bool, true, false, if◌then◌else◌, List, [], ◌∷◌, ◌++◌, length, set, Option, Some, None, IsSomeAnd, refl, sym, ◌∙◌, ap, subst, arith, unwrap_or, option_map}
use Rattle.nvme_arbiter.specs.declared.settings.Class.TheVariants.{Admin}
use Rattle.nvme_entry.specs.declared.admin.AdminCommand.TheVariants.{DeleteSq, DeleteCq, CreateSq, CreateCq}
use Rattle.nvme_admin.specs.declared.bounds.TheConstants.{MAX_REGIONS}
use Rattle.nvme_admin.specs.declared.region.Region.{Region}
use Rattle.nvme_admin.specs.declared.verdict.SqEntry.{SqEntry}
use Rattle.nvme_admin.specs.History.{Start, Effects, Submission, Completion, Added, Accepted, Finished}
use Rattle.nvme_admin.specs.QueueTable.{table_in, region_number, number_by, placing_in, class_of, as_closing, unless_closing, io_sq_in, sq_regions_in, cq_regions_in, sq_named_in, cq_named_in}
use Rattle.nvme_admin.specs.Standing.{TableView, IsSized, Shows, sq_of, cq_of}
use Rattle.nvme_admin.proofs.Slots.{other, same, within, closing_some, admin_sq-open, admin_sq-append, admin_cq-append, sq-set, cq-set, sq-set-admin, cq-set-admin, used-set}

module _ (start : Start) (e : Effects) (v : TableView) where
  -- the slot of an I/O identifier holds what looking back gives
  io_sq-shown : Shows v (table_in start e) → (k : ℕ) (o : Option SqEntry) → (k ≡ 0 → ⊥) → sq_of v k ≡ o → io_sq_in e k ≡ o
  io_sq-shown s k o io h = sym (rw (other k 0 io) at (s.sq k)) ∙ h

  pub Shows-delete_sq : (k : ℕ) (queue : SqEntry) → (k ≡ 0 → ⊥) → sq_of v k ≡ Some queue → Shows v (table_in start e)
      → Shows (record v { sqs = set v.sqs k (Some (as_closing queue)) }) (table_in start (Accepted (DeleteSq k) ∷ e))
  Shows-delete_sq k queue io h s = record {
    sq = sq-set e (Accepted (DeleteSq k) ∷ e) v.sqs k (Some (as_closing queue)) (within v.sqs k queue h) io refl
        (rw (same k) (sym (ap (option_map as_closing) (io_sq-shown s k (Some queue) io h))))
        (λ q n. rw (other k q n) refl)
        s.sq;
    cq = s.cq;
    sq_regions = s.sq_regions;
    cq_regions = s.cq_regions;
    sq_used = s.sq_used;
    cq_used = s.cq_used;
    nsq = s.nsq;
    ncq = s.ncq;
    numbers_set = s.numbers_set;
    created = s.created;
    settings = s.settings;
    placing = s.placing;
  }

  pub Shows-delete_cq : (k region : ℕ) → (k ≡ 0 → ⊥) → cq_of v k ≡ Some region → Shows v (table_in start e)
      → Shows (record v { cqs = set v.cqs k None }) (table_in start (Accepted (DeleteCq k) ∷ e))
  Shows-delete_cq k region io h s = record {
    sq = s.sq;
    cq = cq-set e (Accepted (DeleteCq k) ∷ e) v.cqs k None (within v.cqs k region h) io refl
        (rw (same k) refl)
        (λ q n. rw (other k q n) refl)
        s.cq;
    sq_regions = s.sq_regions;
    cq_regions = s.cq_regions;
    sq_used = s.sq_used;
    cq_used = s.cq_used;
    nsq = s.nsq;
    ncq = s.ncq;
    numbers_set = s.numbers_set;
    created = s.created;
    settings = s.settings;
    placing = s.placing;
  }

  pub Shows-finish : (k : ℕ) → IsSomeAnd (sq_of v k) (λ queue. queue.closing ≡ true) → Shows v (table_in start e)
      → Shows (record v { sqs = set v.sqs k None }) (table_in start (Finished k ∷ e))
  Shows-finish k closing s =
      let found = closing_some (sq_of v k) closing in
      let queue : SqEntry = found.0 in
      let h : sq_of v k ≡ Some queue = found.1 in
      let is : queue.closing ≡ true = found.2 in
      let io : k ≡ 0 → ⊥ = λ z.
      let at_zero : sq_of v 0 ≡ Some queue = subst (λ (q : ℕ). sq_of v q ≡ Some queue) z h in
      let open_one : queue.closing ≡ false = admin_sq-open (sq_regions_in e) queue (sym (s.sq 0) ∙ at_zero) in
      cc in
      record {
        sq = sq-set e (Finished k ∷ e) v.sqs k None (within v.sqs k queue h) io refl
            (rw (same k) (sym (ap unless_closing (io_sq-shown s k (Some queue) io h) ∙ (λ i. if is i then None else Some queue))))
            (λ q n. rw (other k q n) refl)
            s.sq;
        cq = s.cq;
        sq_regions = s.sq_regions;
        cq_regions = s.cq_regions;
        sq_used = s.sq_used;
        cq_used = s.cq_used;
        nsq = s.nsq;
        ncq = s.ncq;
        numbers_set = s.numbers_set;
        created = s.created;
        settings = s.settings;
        placing = s.placing;
      }

  pub Shows-create_cq : (qid qsize prp1 : ℕ) (pc : Bool) (k : ℕ) → IsSized v → (qid ≡ 0 → ⊥) → qid < MAX_REGIONS → k < MAX_REGIONS → region_number v.cq_regions prp1 ≡ Some k
      → Shows v (table_in start e)
      → Shows (record v { cqs = set v.cqs qid (Some k); cq_used = set v.cq_used k true; created = true }) (table_in start (Accepted (CreateCq qid qsize prp1 pc) ∷ e))
  Shows-create_cq qid qsize prp1 pc k sized io room place named s =
      let number : Some k ≡ number_by (placing_in e) (length (cq_named_in e)) (cq_regions_in e) prp1 =
      sym named ∙ ap (λ (rs : List Region). region_number rs prp1) s.cq_regions ∙ (λ i. number_by ((sym s.placing) i) (length (cq_named_in e)) (cq_regions_in e) prp1) in
      let within_cqs : qid < length v.cqs = rw sized.cqs room in
      let within_used : k < length v.cq_used = rw sized.cq_used place in
      record {
        sq = s.sq;
        cq = cq-set e (Accepted (CreateCq qid qsize prp1 pc) ∷ e) v.cqs qid (Some k) within_cqs io refl
            (rw (same qid) (ap (λ (o : Option ℕ). Some (unwrap_or o 0)) number))
            (λ q n. rw (other qid q n) refl)
            s.cq;
        sq_regions = s.sq_regions;
        cq_regions = s.cq_regions;
        sq_used = s.sq_used;
        cq_used = used-set v.cq_used (cq_named_in e) k (number_by (placing_in e) (length (cq_named_in e)) (cq_regions_in e) prp1) within_used number s.cq_used;
        nsq = s.nsq;
        ncq = s.ncq;
        numbers_set = s.numbers_set;
        created = refl;
        settings = s.settings;
        placing = s.placing;
      }

  pub Shows-create_sq : (qid qsize prp1 cqid qprio : ℕ) (pc : Bool) (k : ℕ) → IsSized v → (qid ≡ 0 → ⊥) → qid < MAX_REGIONS → k < MAX_REGIONS → region_number v.sq_regions prp1 ≡ Some k
      → Shows v (table_in start e)
      → Shows (record v { sqs = set v.sqs qid (Some (record { region = k; cqid = cqid; class = class_of qprio; closing = false })); sq_used = set v.sq_used k true; created = true })
      (table_in start (Accepted (CreateSq qid qsize prp1 cqid qprio pc) ∷ e))
  Shows-create_sq qid qsize prp1 cqid qprio pc k sized io room place named s =
      let number : Some k ≡ number_by (placing_in e) (length (sq_named_in e)) (sq_regions_in e) prp1 =
      sym named ∙ ap (λ (rs : List Region). region_number rs prp1) s.sq_regions ∙ (λ i. number_by ((sym s.placing) i) (length (sq_named_in e)) (sq_regions_in e) prp1) in
      let within_sqs : qid < length v.sqs = rw sized.sqs room in
      let within_used : k < length v.sq_used = rw sized.sq_used place in
      record {
        sq = sq-set e (Accepted (CreateSq qid qsize prp1 cqid qprio pc) ∷ e) v.sqs qid (Some (record { region = k; cqid = cqid; class = class_of qprio; closing = false })) within_sqs io refl
            (rw (same qid) (ap (λ (o : Option ℕ). Some (record { region = unwrap_or o 0; cqid = cqid; class = class_of qprio; closing = false })) number))
            (λ q n. rw (other qid q n) refl)
            s.sq;
        cq = s.cq;
        sq_regions = s.sq_regions;
        cq_regions = s.cq_regions;
        sq_used = used-set v.sq_used (sq_named_in e) k (number_by (placing_in e) (length (sq_named_in e)) (sq_regions_in e) prp1) within_used number s.sq_used;
        cq_used = s.cq_used;
        nsq = s.nsq;
        ncq = s.ncq;
        numbers_set = s.numbers_set;
        created = refl;
        settings = s.settings;
        placing = s.placing;
      }

  pub Shows-add_sq : (address slots : ℕ) → IsSized v → Shows v (table_in start e)
      → Shows (record v { sq_regions = v.sq_regions ++ record { address = address; slots = slots } ∷ []; sqs = set v.sqs 0 (Some (record { region = 0; cqid = 0; class = Admin; closing = false })) })
      (table_in start (Added Submission address slots ∷ e))
  Shows-add_sq address slots sized s =
      let r : Region = record { address = address; slots = slots } in
      let room : 0 < length v.sqs = rw sized.sqs (omega arith) in
      record {
        sq = sq-set-admin e (Added Submission address slots ∷ e) v.sqs (Some (record { region = 0; cqid = 0; class = Admin; closing = false })) room
            (sym (admin_sq-append (sq_regions_in e) r r)) (λ q. refl) s.sq;
        cq = s.cq;
        sq_regions = ap (λ (rs : List Region). rs ++ record { address = address; slots = slots } ∷ []) s.sq_regions;
        cq_regions = s.cq_regions;
        sq_used = s.sq_used;
        cq_used = s.cq_used;
        nsq = s.nsq;
        ncq = s.ncq;
        numbers_set = s.numbers_set;
        created = s.created;
        settings = s.settings;
        placing = s.placing;
      }

  pub Shows-add_cq : (address slots : ℕ) → IsSized v → Shows v (table_in start e)
      → Shows (record v { cq_regions = v.cq_regions ++ record { address = address; slots = slots } ∷ []; cqs = set v.cqs 0 (Some 0) })
      (table_in start (Added Completion address slots ∷ e))
  Shows-add_cq address slots sized s =
      let r : Region = record { address = address; slots = slots } in
      let room : 0 < length v.cqs = rw sized.cqs (omega arith) in
      record {
        sq = s.sq;
        cq = cq-set-admin e (Added Completion address slots ∷ e) v.cqs (Some 0) room
            (sym (admin_cq-append (cq_regions_in e) r)) (λ q. refl) s.cq;
        sq_regions = s.sq_regions;
        cq_regions = ap (λ (rs : List Region). rs ++ record { address = address; slots = slots } ∷ []) s.cq_regions;
        sq_used = s.sq_used;
        cq_used = s.cq_used;
        nsq = s.nsq;
        ncq = s.ncq;
        numbers_set = s.numbers_set;
        created = s.created;
        settings = s.settings;
        placing = s.placing;
      }
