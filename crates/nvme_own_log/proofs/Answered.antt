-- What a completion of an account says of its command, and which command the judge finds done by it.
use Rattle.std.proofs.Common.{◌≡◌, ℕ, ◌==◌, ◌&&◌, Bool, true, false, if◌then◌else◌, [], ◌∷◌, ◌++◌, length, Option, Some, None, refl, sym, ap, ◌∙◌, subst, ◌⊎◌, inl, inr, eqb-true, ◌%◌}
use Rattle.std.specs.Prelude.{MatchBool, slice_get}
use Rattle.std.proofs.lemmas.Bool.{cases_Bool, and_parts, or_cases, ne_eqb, eq-eqb, false_from_ne_true}
use Rattle.std.proofs.lemmas.Option.{same_Some}
use Rattle.nvme_entry.specs.AdminCommand.{admin_command_of}
use Rattle.nvme_entry.specs.Submission.{fuse_of}
use Rattle.nvme_entry.specs.declared.submission.Sqe.{Sqe}
use Rattle.nvme_entry.specs.declared.completion.Cqe.{Cqe}
use Rattle.nvme_entry.specs.declared.admin.AdminCommand.{AdminCommand}
use Rattle.nvme_entry.specs.declared.admin.AdminCommand.TheVariants.{DeleteSq, CreateSq, DeleteCq, CreateCq, Abort, SetFeatures, GetFeatures, Other}
use Rattle.nvme_admin.specs.History.{Start, TableHistory}
use Rattle.nvme_admin.specs.QueueTable.{QueueTable}
use Rattle.nvme_admin.specs.Checks.{is_success}
use Rattle.nvme_admin.specs.Accepted.{queue_table, status_of}
use Rattle.nvme_admin.proofs.Reached.{Passes, status_over-passes, create_sq-found, create_cq-found, delete_sq-found, delete_cq-found}
use Rattle.nvme_log.specs.declared.event.Event.TheVariants.{Fetch, Post}
use Rattle.nvme_log.specs.Rules.{FrontRules, Each}
use Rattle.nvme_log.specs.Queues.{qid_of_region, cq_region_of}
use Rattle.nvme_log.specs.Places.{fetched, entry_at, fate_of, is_waiting, is_aborted}
use Rattle.nvme_log.specs.Answers.{by_answers}
use Rattle.nvme_log.specs.Completions.{is_posted, posted_to, phase_after, table_before}
use Rattle.nvme_log.specs.Effects.{EffectsAtOnce}
use Rattle.nvme_log.specs.Account.{PostsOwnBy}
use Rattle.nvme_log.proofs.AbortAnswers.{entry-stays}
use Rattle.nvme_log.proofs.Turns.{admin-unaborted}
use Rattle.nvme_ctrl_log.specs.Notes.{Notes, Logged, Passed, EachNote, logged}
use Rattle.nvme_ctrl_log.specs.Doorbells.{sq_slots, cq_slots}
use Rattle.nvme_ctrl_log.specs.Own.{command_may_be_own, names_none, before_pick}
use Rattle.nvme_ctrl_log.specs.Tags.{is_passed, answers}
use Rattle.nvme_ctrl_log.specs.Account.{IsLawful, PostsOwn, PostsAnswer}
use Rattle.nvme_ctrl_log.proofs.Noted.{each-event}
use Rattle.nvme_audit.specs.Lives as lives
use Rattle.nvme_audit.specs.Lives.{turns_sq, asked, done_by, done}
use Rattle.nvme_audit.specs.Queues.{turns_cq}
use Rattle.nvme_own_log.specs.Shown.{completion_of}
use Rattle.nvme_own_log.proofs.OwnRegions.{admin_region}

-- ---- commands that were passed on
-- an admin command that was passed on is of a kind that may be the device's
pub record IsOfDevice (notes : Notes) (i : ℕ) : Type 0 where
  pub entry : Sqe
  pub is_there : entry_at (logged notes) 0 i ≡ Some entry
  pub may_be : command_may_be_own entry (admin_command_of entry) ≡ true

module _ (rules : FrontRules) where
  pub of_device : (notes : Notes) → EachNote (IsLawful rules) notes → (i : ℕ) → is_passed notes i ≡ true → IsOfDevice notes i
  of_device [] h i p = cc p
  of_device (Passed index ∷ notes) h i p = elim (or_cases (index == i) (is_passed notes i) p) [
    | inl here ↦ record {
      entry = h.0.entry;
      is_there = subst (λ (k : ℕ). entry_at (logged notes) 0 k ≡ Some h.0.entry) (eqb-true index i here) h.0.is_there;
      may_be = (and_parts (fuse_of h.0.entry == 0) (command_may_be_own h.0.entry (admin_command_of h.0.entry))
          (and_parts (fuse_of h.0.entry == 0 && command_may_be_own h.0.entry (admin_command_of h.0.entry)) (names_none (before_pick (logged notes)) (admin_command_of h.0.entry)) h.0.may_be).0).1;
    }
    | inr earlier ↦ (let it = of_device notes h.1 i earlier in record { entry = it.entry; is_there = it.is_there; may_be = it.may_be })
  ]
  of_device (Logged (Fetch region index entry) ∷ notes) h i p =
      let it = of_device notes h.1 i p in
      record { entry = it.entry; is_there = by (region == 0) it.entry it.is_there; may_be = it.may_be } where
        by : (b : Bool) (x : Sqe) → slice_get (fetched (logged notes) 0) i ≡ Some x → slice_get (if b then fetched (logged notes) 0 ++ entry ∷ [] else fetched (logged notes) 0) i ≡ Some x
        by true x at = entry-stays (fetched (logged notes) 0) (entry ∷ []) i x at
        by false x at = at
  of_device (note ∷ notes) h i p = let it = of_device notes h.1 i p in record { entry = it.entry; is_there = it.is_there; may_be = it.may_be }

  -- ---- the completion of a place
  pub record IsPosted (notes : Notes) (c r i : ℕ) (cqe : Cqe) : Type 0 where
    pub entry : Sqe
    pub is_there : entry_at (logged notes) r i ≡ Some entry
    pub region : cq_region_of (logged notes) r ≡ Some c
    pub sqid : qid_of_region (logged notes) r ≡ Some cqe.sqid
    pub cid : cqe.cid ≡ entry.cid
    pub no_post : is_posted (logged notes) r i ≡ false
    pub served : is_waiting (fate_of (logged notes) r i) ≡ false
    pub sqhd : cqe.sqhd ≡ length (fetched (logged notes) r) % sq_slots rules r
    pub phase : cqe.phase ≡ phase_after (length (posted_to (logged notes) c)) (cq_slots rules c)
    pub status : r ≡ 0 → (is_passed notes i ≡ true) ⊎ (cqe.status ≡ status_of rules.start (table_before rules (logged notes) i) entry)

  pub posted_so : (notes : Notes) (c r i : ℕ) (cqe : Cqe) → EachNote (IsLawful rules) notes → PostsOwn rules notes (Post c r i cqe) → IsPosted notes c r i cqe
  posted_so notes c r i cqe h = by (r == 0) (is_passed notes i) refl refl where
    effects : Each (EffectsAtOnce rules) (logged notes)
    effects = each-event _ rules (λ past e it. it.effects_at_once) notes h

    own : (r ≡ 0 → ⊥) ⊎ (is_passed notes i ≡ false) → PostsOwnBy rules (by_answers (answers notes)) (logged notes) (Post c r i cqe) → IsPosted notes c r i cqe
    own other it = record {
      entry = it.2.entry;
      is_there = it.2.is_there;
      region = it.2.region;
      sqid = it.2.sqid;
      cid = it.2.cid;
      no_post = it.0;
      served = it.1;
      sqhd = it.2.sqhd;
      phase = it.2.phase;
      status = λ z. inr (let whole : is_aborted (logged notes) r i ≡ false = false_from_ne_true (is_aborted (logged notes) r i) (λ a. admin-unaborted rules (logged notes) effects i (subst (λ (k : ℕ). is_aborted (logged notes) k i ≡ true) z a)) in
          it.2.status ∙ rw (whole, eq-eqb r 0 z) refl);
    }

    by : (a b : Bool) → (r == 0) ≡ a → is_passed notes i ≡ b
        → MatchBool (a && b) (PostsAnswer rules notes c i cqe) (PostsOwnBy rules (by_answers (answers notes)) (logged notes) (Post c r i cqe)) → IsPosted notes c r i cqe
    by true true e p it =
        subst (λ (x : ℕ). IsPosted notes c x i cqe) (sym (eqb-true r 0 e))
        (record {
          entry = it.all_else.2.entry;
          is_there = it.all_else.2.is_there;
          region = it.all_else.2.region;
          sqid = it.all_else.2.sqid;
          cid = it.all_else.2.cid;
          no_post = it.all_else.0;
          served = it.all_else.1;
          sqhd = it.all_else.2.sqhd;
          phase = it.all_else.2.phase;
          status = λ z. inl p;
        })
    by true false e p it = own (inr p) it
    by false b e p it = own (inl (λ z. let yes : (r == 0) ≡ true = eq-eqb r 0 z in cc (yes, e))) it

-- ---- commands that turn no admin queue
pub device_turns : (entry : Sqe) (c : AdminCommand) → command_may_be_own entry c ≡ true → (q : ℕ) → (turns_sq c q ≡ false) × (turns_cq c q ≡ false)
device_turns entry (DeleteSq qid) h q = cc h
device_turns entry (CreateSq qid qsize prp1 cqid qprio pc) h q = cc h
device_turns entry (DeleteCq qid) h q = cc h
device_turns entry (CreateCq qid qsize prp1 pc) h q = cc h
device_turns entry (Abort sqid cid) h q = (refl, refl)
device_turns entry (SetFeatures fid sv cdw11) h q = (refl, refl)
device_turns entry (GetFeatures fid) h q = (refl, refl)
device_turns entry Other h q = (refl, refl)

pub passing_turns : (t : QueueTable) (c : AdminCommand) → Passes t c → (turns_sq c 0 ≡ false) × (turns_cq c 0 ≡ false)
passing_turns t (DeleteSq qid) h = (ne_eqb qid 0 (delete_sq-found t qid h).0, refl)
passing_turns t (CreateSq qid qsize prp1 cqid qprio pc) h = (ne_eqb qid 0 (create_sq-found t qid qsize prp1 cqid qprio pc h).not_admin, refl)
passing_turns t (DeleteCq qid) h = (refl, ne_eqb qid 0 (delete_cq-found t qid h).0)
passing_turns t (CreateCq qid qsize prp1 pc) h = (refl, ne_eqb qid 0 (create_cq-found t qid qsize prp1 pc h).not_admin)
passing_turns t (Abort sqid cid) h = (refl, refl)
passing_turns t (SetFeatures fid sv cdw11) h = (refl, refl)
passing_turns t (GetFeatures fid) h = (refl, refl)
passing_turns t Other h = (refl, refl)

pub passes : (start : Start) (h : TableHistory) (entry : Sqe) → is_success (status_of start h entry) ≡ true → Passes (queue_table start h) (admin_command_of entry)
unfolding status_of
passes start h entry s = status_over-passes (queue_table start h) entry s

-- ---- what is done by a completion
-- the command of an admin place, which was answered with success
pub record IsDoneBy (rules : FrontRules) (log : lives.Past) (notes : Notes) (r i : ℕ) (cqe : Cqe) : Type 0 where
  pub of_admin : r ≡ 0
  pub entry : Sqe
  pub is_there : entry_at (logged notes) 0 i ≡ Some entry
  pub command_is : done log (completion_of cqe) ≡ admin_command_of entry
  pub why : (command_may_be_own entry (admin_command_of entry) ≡ true) ⊎ (is_success (status_of rules.start (table_before rules (logged notes) i) entry) ≡ true)

module _ (rules : FrontRules) (log : lives.Past) (notes : Notes) (h : EachNote (IsLawful rules) notes) where
  -- where the judge finds the commands of the admin queue, it finds one of these done by a completion, or none
  pub what_is_done : (c r i : ℕ) (cqe : Cqe) → IsPosted rules notes c r i cqe
      → ((entry : Sqe) → entry_at (logged notes) 0 i ≡ Some entry → is_posted (logged notes) 0 i ≡ false → asked log 0 entry.cid ≡ Some (admin_command_of entry))
      → (done log (completion_of cqe) ≡ Other) ⊎ IsDoneBy rules log notes r i cqe
  what_is_done c r i cqe it asks = by (asked log 0 cqe.cid) refl where
    effects : Each (EffectsAtOnce rules) (logged notes)
    effects = each-event _ rules (λ past e x. x.effects_at_once) notes h

    done_one : (command : AdminCommand) → asked log 0 cqe.cid ≡ Some command → cqe.sqid ≡ 0 → is_success cqe.status ≡ true → IsDoneBy rules log notes r i cqe
    done_one command is z success =
        let admin : r ≡ 0 = admin_region rules (logged notes) effects r (it.sqid ∙ ap (λ (k : ℕ). Some k) z) in
        let there : entry_at (logged notes) 0 i ≡ Some it.entry = subst (λ (k : ℕ). entry_at (logged notes) k i ≡ Some it.entry) admin it.is_there in
        let unposted : is_posted (logged notes) 0 i ≡ false = subst (λ (k : ℕ). is_posted (logged notes) k i ≡ false) admin it.no_post in
        let wanted : asked log 0 cqe.cid ≡ Some (admin_command_of it.entry) = ap (λ (k : ℕ). asked log 0 k) it.cid ∙ asks it.entry there unposted in
        record {
          of_admin = admin;
          entry = it.entry;
          is_there = there;
          command_is = ap (λ (o : Option AdminCommand). done_by o (completion_of cqe)) wanted ∙ rw (eq-eqb cqe.sqid 0 z, success) refl;
          why = elim (it.status admin) [
            | inl passed ↦
                let device = of_device rules notes h i passed in
                inl (subst (λ (e : Sqe). command_may_be_own e (admin_command_of e) ≡ true) (same_Some device.entry it.entry (sym device.is_there ∙ there)) device.may_be)
            | inr same ↦ inr (ap is_success (sym same) ∙ success)
          ];
        }

    by : (o : Option AdminCommand) → asked log 0 cqe.cid ≡ o → (done_by (asked log 0 cqe.cid) (completion_of cqe) ≡ Other) ⊎ IsDoneBy rules log notes r i cqe
    by None is = inl (ap (λ (o : Option AdminCommand). done_by o (completion_of cqe)) is)
    by (Some command) is = elim (cases_Bool (cqe.sqid == 0 && is_success cqe.status)) [
      | inl both ↦
          let parts = and_parts (cqe.sqid == 0) (is_success cqe.status) both in
          inr (done_one command is (eqb-true cqe.sqid 0 parts.0) parts.1)
      | inr none ↦ inl (ap (λ (o : Option AdminCommand). done_by o (completion_of cqe)) is ∙ rw none refl)
    ]

  -- no such completion turns an admin queue
  pub turns_none : (c r i : ℕ) (cqe : Cqe) → (done log (completion_of cqe) ≡ Other) ⊎ IsDoneBy rules log notes r i cqe
      → (turns_sq (done log (completion_of cqe)) 0 ≡ false) × (turns_cq (done log (completion_of cqe)) 0 ≡ false)
  turns_none c r i cqe (inl none) = (ap (λ (a : AdminCommand). turns_sq a 0) none, ap (λ (a : AdminCommand). turns_cq a 0) none)
  turns_none c r i cqe (inr it) =
      let both : (turns_sq (admin_command_of it.entry) 0 ≡ false) × (turns_cq (admin_command_of it.entry) 0 ≡ false) = elim it.why [
        | inl device ↦ device_turns it.entry (admin_command_of it.entry) device 0
        | inr success ↦ passing_turns (queue_table rules.start (table_before rules (logged notes) i)) (admin_command_of it.entry) (passes rules.start (table_before rules (logged notes) i) it.entry success)
      ] in
      (ap (λ (a : AdminCommand). turns_sq a 0) it.command_is ∙ both.0, ap (λ (a : AdminCommand). turns_cq a 0) it.command_is ∙ both.1)
