-- The whole log of an account keeps the rules of the judge.
use Rattle.std.proofs.Common.{◌≡◌, ℕ, ◌+◌, ◌<◌, ◌&&◌, ◌||◌, nat_lt, Bool, true, false, not, if◌then◌else◌, [], ◌∷◌, Option, Some, None, refl, sym, ap, ◌∙◌, subst, inl, inr}
use Rattle.std.proofs.lemmas.Bool.{cases_Bool}
use Rattle.nvme_entry.specs.declared.completion.Cqe.{Cqe}
use Rattle.nvme_entry.specs.declared.admin.AdminCommand.{AdminCommand}
use Rattle.nvme_entry.specs.declared.admin.AdminCommand.TheVariants.{DeleteSq, CreateSq, DeleteCq, CreateCq, Abort, SetFeatures, GetFeatures, Other}
use Rattle.nvme_admin.specs.declared.bounds.TheConstants.{MAX_REGIONS}
use Rattle.nvme_log.specs.declared.event.Event.TheVariants as event
use Rattle.nvme_log.specs.Rules.{FrontRules}
use Rattle.nvme_log.specs.Laws.{StartsWithAdmin}
use Rattle.nvme_ctrl_log.specs.Notes.{Notes, Logged}
use Rattle.nvme_ctrl_log.specs.Account.{IsAccount}
use Rattle.nvme_ctrl_log.specs.Making.{placing_in}
use Rattle.nvme_audit.specs.declared.event.Event.TheVariants.{Tail, Head, Fetch, Post}
use Rattle.nvme_audit.specs.declared.facts.Start.{Start}
use Rattle.nvme_audit.specs.declared.facts.Sq.{Sq}
use Rattle.nvme_audit.specs.declared.facts.Cq.{Cq}
use Rattle.nvme_audit.specs.declared.verdict.Verdict.{Verdict}
use Rattle.nvme_audit.specs.declared.verdict.Verdict.TheVariants.{Kept}
use Rattle.nvme_audit.specs.Lives as lives
use Rattle.nvme_audit.specs.Host.{is_lost, tail_rules, tail_verdict, head_rules, head_verdict}
use Rattle.nvme_audit.specs.Rings.{qsize_in, advanced}
use Rattle.nvme_audit.specs.Rules.{if_kept}
use Rattle.nvme_audit.specs.Turns.{sq_named, cq_named}
use Rattle.nvme_audit.specs.Facts.{sq_after, cq_after, admin_after, outstanding}
use Rattle.nvme_audit.specs.Answers.{mark_in, answered_in, status_rules}
use Rattle.nvme_audit.specs.Lawful.{is_broken, IsLawfulLog, IsFaultlessLog}
use Rattle.nvme_own_log.specs.Shown.{start_of, completion_of, shown, EachShown}
use Rattle.nvme_own_log.specs.Duties.{KeepsDuties}
use Rattle.nvme_own_log.specs.Laws.{IsDoorbellKept, IsFetchKept, IsPostKept}
use Rattle.nvme_own_log.proofs.Completions.{completions_are_lawful}
use Rattle.nvme_own_log.proofs.Doorbells.{doorbells_are_lawful}
use Rattle.nvme_own_log.proofs.Fetches.{fetches_are_lawful}
use Rattle.nvme_own_statuses.specs.Statuses.{IsAnswerKept, is_set_features, is_delete_sq, is_create_sq, is_delete_cq, is_create_cq, is_given, EachPost, OfGiven, DeviceKeeps, TakesOwn, DeviceTakesOwn}
use Rattle.nvme_own_statuses.specs.Laws.{LogsAreLawful, LogsAreFaultless}
use Rattle.nvme_own_statuses.proofs.Standing.{Stands, each_post}
use Rattle.nvme_own_statuses.proofs.Starts.{no_deletion}
use Rattle.nvme_own_statuses.proofs.Statuses.{sqdel_asked, abort_asked, of_command, standing}
use Rattle.nvme_own_statuses.proofs.TrueAborts.{as_told, true_abort, both_each, second_each}
use Rattle.nvme_own_statuses.proofs.TrueCqDeletes as cq_deletes
use Rattle.nvme_own_statuses.proofs.TrueCreates as cq_creates
use Rattle.nvme_own_statuses.proofs.TrueDeletes as sq_deletes
use Rattle.nvme_own_statuses.proofs.TrueSqCreates as sq_creates
use Rattle.nvme_own_statuses.proofs.TrueFeatures.{true_features}

-- ---- the statuses of completions
-- no part of what is asked is broken
pub all_kept : (e u n t a f : Bool) (v w x y z : Verdict) → u ≡ false → n ≡ false → t ≡ false → a ≡ false → f ≡ false → z ≡ Kept
    → (if e then Kept else (if u then v else (if n then w else (if t || a then x else (if f then y else z))))) ≡ Kept
all_kept true u n t a f v w x y z hu hn ht ha hf hz = refl
all_kept false u n t a f v w x y z hu hn ht ha hf hz = rw (hu, hn, ht, ha, hf) hz

module _ (rules : FrontRules) (starts : StartsWithAdmin rules) (by_regions : placing_in rules ≡ None) (sqs : 0 < rules.start.nsq) (few : rules.start.nsq < MAX_REGIONS) (cqs : 0 < rules.start.ncq) where
  module _ (notes : Notes) (c r i : ℕ) (cqe : Cqe) (s : Stands rules (Logged (event.Post c r i cqe) ∷ notes)) (p : ℕ) where
    abbrev log : lives.Past
    log = shown rules notes

    abbrev answers : AdminCommand
    answers = answered_in (outstanding log cqe.sqid cqe.cid) (completion_of cqe)

    true_status : status_rules (sq_after (start_of rules) log (sq_named answers)) (cq_after (start_of rules) log (cq_named answers)) (admin_after log) (mark_in (outstanding log cqe.sqid cqe.cid)) (completion_of cqe) answers ≡ Kept
    true_status = by answers refl where
      kept : (k : AdminCommand) → answers ≡ k
          → ((sq : Sq) (cq : Cq) → status_rules sq cq (admin_after log) (mark_in (outstanding log cqe.sqid cqe.cid)) (completion_of cqe) k ≡ Kept)
          → status_rules (sq_after (start_of rules) log (sq_named answers)) (cq_after (start_of rules) log (cq_named answers)) (admin_after log) (mark_in (outstanding log cqe.sqid cqe.cid)) (completion_of cqe) answers ≡ Kept
      kept k is any =
          subst (λ (x : AdminCommand). status_rules (sq_after (start_of rules) log (sq_named x)) (cq_after (start_of rules) log (cq_named x)) (admin_after log) (mark_in (outstanding log cqe.sqid cqe.cid)) (completion_of cqe) x ≡ Kept) (sym is)
          (any (sq_after (start_of rules) log (sq_named k)) (cq_after (start_of rules) log (cq_named k)))

      by : (k : AdminCommand) → answers ≡ k
          → status_rules (sq_after (start_of rules) log (sq_named answers)) (cq_after (start_of rules) log (cq_named answers)) (admin_after log) (mark_in (outstanding log cqe.sqid cqe.cid)) (completion_of cqe) answers ≡ Kept
      by (DeleteSq qid) is = sq_deletes.true_deletes rules starts by_regions notes c r i cqe s p (ap is_delete_sq is)
      by (CreateSq qid qsize prp1 cqid qprio pc) is = sq_creates.true_creates rules starts by_regions (no_deletion rules starts few) sqs cqs notes c r i cqe s p (ap is_create_sq is)
      by (DeleteCq qid) is = cq_deletes.true_deletes rules starts by_regions few notes c r i cqe s p (ap is_delete_cq is)
      by (CreateCq qid qsize prp1 pc) is = cq_creates.true_creates rules starts by_regions cqs notes c r i cqe s p (ap is_create_cq is)
      by (Abort sqid cid) is = kept (Abort sqid cid) is (λ sq cq. refl)
      by (SetFeatures fid sv cdw11) is = true_features rules starts by_regions notes c r i cqe s p (ap is_set_features is)
      by (GetFeatures fid) is = kept (GetFeatures fid) is (λ sq cq. refl)
      by Other is = kept Other is (λ sq cq. refl)

    -- where the controller gave the status, or the device keeps the rules
    answer_kept : DeviceTakesOwn (Logged (event.Post c r i cqe) ∷ notes) → (is_given notes r i ≡ true → IsAnswerKept (start_of rules) log p (completion_of cqe)) → IsAnswerKept (start_of rules) log p (completion_of cqe)
    answer_kept d device = elim (cases_Bool (is_given notes r i)) [
      | inl given ↦ device given
      | inr own ↦
          all_kept _ _ _ _ _ _ _ _ _ _ _ (sqdel_asked rules starts by_regions notes c r i cqe s (λ g. cc (g, own))) (abort_asked rules starts by_regions notes c r i cqe s (λ g. cc (g, own)))
          (as_told rules starts by_regions notes c r i cqe s d (λ g. cc (g, own))) (true_abort rules starts by_regions notes c r i cqe s d (λ g. cc (g, own)))
          (of_command rules starts by_regions notes c r i cqe s (λ g. cc (g, own))) true_status
    ]

-- ---- what the host does breaks no rule of the controller
not_broken : (b : Bool) (v : Verdict) → is_broken v ≡ false → is_broken (if b then Kept else v) ≡ false
not_broken true v h = refl
not_broken false v h = h

tail_lawful : (sq : Sq) (slot : ℕ) → is_broken (tail_verdict sq slot) ≡ false
tail_lawful sq slot = not_broken sq.excused (tail_rules (qsize_in sq.ring) sq.submitted sq.fetched slot) (by (qsize_in sq.ring)) where
  first : (a b : Bool) (v w : Verdict) → is_broken v ≡ false → is_broken w ≡ false → is_broken (if a then v else (if b then w else Kept)) ≡ false
  first true b v w h k = h
  first false true v w h k = k
  first false false v w h k = refl

  by : (o : Option ℕ) → is_broken (tail_rules o sq.submitted sq.fetched slot) ≡ false
  by None = refl
  by (Some qsize) = first (nat_lt qsize slot) (nat_lt (sq.fetched + qsize) (advanced qsize sq.submitted slot)) _ _ refl refl

head_lawful : (cq : Cq) (slot : ℕ) → is_broken (head_verdict cq slot) ≡ false
head_lawful cq slot = not_broken cq.excused (head_rules cq.qsize cq.early cq.posted cq.consumed slot) (by cq.qsize) where
  one : (a : Bool) (v : Verdict) → is_broken v ≡ false → is_broken (if a then v else Kept) ≡ false
  one true v h = h
  one false v h = refl

  by : (o : Option ℕ) → is_broken (head_rules o cq.early cq.posted cq.consumed slot) ≡ false
  by None = refl
  by (Some qsize) = one (nat_lt qsize slot || (not cq.early && nat_lt cq.posted (advanced qsize cq.consumed slot))) _ refl

-- ---- all events
both_kept : (v w : Verdict) → v ≡ Kept → w ≡ Kept → if_kept v w ≡ Kept
both_kept v w h k = ap (λ (x : Verdict). if_kept x w) h ∙ k

lawful_log : (start : Start) (log : lives.Past) → EachShown (IsFetchKept start) log → EachShown (IsPostKept start) log → EachPost (IsAnswerKept start) log → IsLawfulLog start log
lawful_log start [] f p a = tt
lawful_log start (Tail sq slot ∷ log) f p a = (not_broken (is_lost log) _ (tail_lawful (sq_after start log sq) slot), lawful_log start log f.1 p.1 a.1)
lawful_log start (Head cq slot ∷ log) f p a = (not_broken (is_lost log) _ (head_lawful (cq_after start log cq) slot), lawful_log start log f.1 p.1 a.1)
lawful_log start (Fetch sq slot cid command ∷ log) f p a = (not_broken (is_lost log) _ (ap is_broken f.0), lawful_log start log f.1 p.1 a.1)
lawful_log start (Post cq slot completion ∷ log) f p a = (not_broken (is_lost log) _ (ap is_broken (both_kept _ _ p.0 a.0)), lawful_log start log f.1 p.1 a.1)

kept_unless_lost : (b : Bool) (v : Verdict) → v ≡ Kept → (if b then Kept else v) ≡ Kept
kept_unless_lost true v h = refl
kept_unless_lost false v h = h

-- neither the controller nor the host breaks a rule, where doorbells keep theirs too
faultless_log : (start : Start) (log : lives.Past) → EachShown (IsDoorbellKept start) log → EachShown (IsFetchKept start) log → EachShown (IsPostKept start) log → EachPost (IsAnswerKept start) log → IsFaultlessLog start log
faultless_log start [] d f p a = tt
faultless_log start (Tail sq slot ∷ log) d f p a = (kept_unless_lost (is_lost log) _ d.0, faultless_log start log d.1 f.1 p.1 a.1)
faultless_log start (Head cq slot ∷ log) d f p a = (kept_unless_lost (is_lost log) _ d.0, faultless_log start log d.1 f.1 p.1 a.1)
faultless_log start (Fetch sq slot cid command ∷ log) d f p a = (kept_unless_lost (is_lost log) _ f.0, faultless_log start log d.1 f.1 p.1 a.1)
faultless_log start (Post cq slot completion ∷ log) d f p a = (kept_unless_lost (is_lost log) _ (both_kept _ _ p.0 a.0), faultless_log start log d.1 f.1 p.1 a.1)

-- each status breaks no rule
answers_are_kept : (rules : FrontRules) (notes : Notes) → StartsWithAdmin rules → placing_in rules ≡ None → IsAccount rules notes → KeepsDuties (start_of rules) (shown rules notes) → 0 < rules.start.nsq → rules.start.nsq < MAX_REGIONS → 0 < rules.start.ncq
    → DeviceTakesOwn notes → DeviceKeeps rules (IsAnswerKept (start_of rules)) notes → EachPost (IsAnswerKept (start_of rules)) (shown rules notes)
answers_are_kept rules notes starts by_regions h duties sqs few cqs own device =
    each_post rules (IsAnswerKept (start_of rules)) (λ past note. OfGiven rules (IsAnswerKept (start_of rules)) past note × TakesOwn past note)
    (λ past c r i q cqe s d into. answer_kept rules starts by_regions sqs few cqs past c r i cqe s q (second_each (OfGiven rules (IsAnswerKept (start_of rules))) TakesOwn (Logged (event.Post c r i cqe) ∷ past) d) (λ g. d.0.0 g q into))
    notes (standing rules notes h duties) (both_each (OfGiven rules (IsAnswerKept (start_of rules))) TakesOwn notes device own)

pub logs_are_lawful : LogsAreLawful
logs_are_lawful rules notes starts by_regions h duties turns sqs few cqs own device =
    lawful_log (start_of rules) (shown rules notes) (fetches_are_lawful rules notes starts by_regions h duties) (completions_are_lawful rules notes starts by_regions h duties turns)
    (answers_are_kept rules notes starts by_regions h duties sqs few cqs own device)

pub logs_are_faultless : LogsAreFaultless
logs_are_faultless rules notes starts by_regions h duties turns heads sqs few cqs own device =
    faultless_log (start_of rules) (shown rules notes) (doorbells_are_lawful rules notes starts by_regions h duties turns heads) (fetches_are_lawful rules notes starts by_regions h duties)
    (completions_are_lawful rules notes starts by_regions h duties turns) (answers_are_kept rules notes starts by_regions h duties sqs few cqs own device)
