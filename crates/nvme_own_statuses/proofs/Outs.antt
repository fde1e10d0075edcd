-- The commands that aren't posted yet are outstanding in what shows.
use Rattle.std.proofs.Common.{◌≡◌, ℕ, Bool, true, false, List, Option, Some, None, refl, sym, ap, ◌∙◌, subst, inl, inr}
use Rattle.std.specs.Prelude.{slice_get}
use Rattle.std.proofs.lemmas.Bool.{cases_eq}
use Rattle.std.proofs.lemmas.Option.{none-some}
use Rattle.nvme_entry.specs.AdminCommand.{admin_command_of}
use Rattle.nvme_entry.specs.declared.submission.Sqe.{Sqe}
use Rattle.nvme_entry.specs.declared.completion.Cqe.{Cqe}
use Rattle.nvme_entry.specs.declared.admin.AdminCommand.{AdminCommand}
use Rattle.nvme_log.specs.Rules.{FrontRules, Past}
use Rattle.nvme_log.specs.Queues.{qid_of_region}
use Rattle.nvme_log.specs.Places.{fetched, entry_at}
use Rattle.nvme_log.specs.Completions.{is_posted}
use Rattle.nvme_log.specs.Laws.{StartsWithAdmin}
use Rattle.nvme_ctrl_log.specs.Notes.{Notes, logged}
use Rattle.nvme_ctrl_log.specs.Doorbells.{sq_slots, submitted}
use Rattle.nvme_ctrl_log.specs.Making.{placing_in}
use Rattle.nvme_audit.specs.Lives.{asked}
use Rattle.nvme_audit.specs.Facts.{command_with}
use Rattle.nvme_audit.specs.Answers.{command_in}
use Rattle.nvme_own_log.specs.Shown.{start_of, shown}
use Rattle.nvme_own_log.proofs.Agreeing.{sq_names}
use Rattle.nvme_own_log.proofs.AdminQueues.{admin_asks, effects_of}
use Rattle.nvme_own_log.proofs.Answered.{IsPosted}
use Rattle.nvme_own_log.proofs.OwnRegions.{admin_region}
use Rattle.nvme_own_log.proofs.Phases.{Stage, untold, told_on, Phase, closed, creating, made}
use Rattle.nvme_own_log.proofs.Queues.{QueueAt, Seen, posted_region}
use Rattle.nvme_own_log.proofs.Steps.{SqAt}
use Rattle.nvme_own_statuses.proofs.Standing.{Stands, admin_at, io_at}

module _ (rules : FrontRules) where
  -- a command of a queue was fetched, and its completion isn't posted
  pub record IsOut (past : Past) (r i q : ℕ) (entry : Sqe) : Type 0 where
    pub own : qid_of_region past r ≡ Some q
    pub is_there : entry_at past r i ≡ Some entry
    pub unposted : is_posted past r i ≡ false

  module _ (starts : StartsWithAdmin rules) (by_regions : placing_in rules ≡ None) (notes : Notes) (s : Stands rules notes) where
    -- none is outstanding of a queue that the host isn't told of
    none_out : (r i q : ℕ) (entry : Sqe) → IsOut (logged notes) r i q entry → Phase rules (logged notes) q untold → Seen rules notes q untold → ⊥
    none_out r i q entry o (closed n served none y) seen = let done : is_posted (logged notes) r i ≡ true = served r o.own i entry o.is_there in cc (done, o.unposted)
    none_out r i q entry o (creating k e t cqid class is p a n none made_is f served) seen = let done : is_posted (logged notes) r i ≡ true = served r o.own i entry o.is_there in cc (done, o.unposted)
    none_out r i q entry o (made k e queue is p a open_it served y) seen = elim (cases_eq r queue.region) [
      | inl same ↦ none-some entry (ap (λ (xs : List Sqe). slice_get xs i) (sym (seen.1 queue open_it).1) ∙ ap (λ (z : ℕ). entry_at (logged notes) z i) (sym same) ∙ o.is_there)
      | inr other ↦ (let done : is_posted (logged notes) r i ≡ true = served r o.own other i entry o.is_there in cc (done, o.unposted))
    ]

    io_asked : (r i q : ℕ) (entry : Sqe) → IsOut (logged notes) r i q entry → QueueAt rules notes q → asked (shown rules notes) q entry.cid ≡ Some (admin_command_of entry)
    io_asked r i q entry o x = by x.stage x.phase x.seen where
      by : (st : Stage) → Phase rules (logged notes) q st → Seen rules notes q st → asked (shown rules notes) q entry.cid ≡ Some (admin_command_of entry)
      by (told_on t cqid) phase seen =
          let same : r ≡ t = posted_region rules (logged notes) q r i entry (told_on t cqid) o.own o.is_there o.unposted phase in
          (seen.outs i entry (subst (λ (z : ℕ). entry_at (logged notes) z i ≡ Some entry) same o.is_there) (subst (λ (z : ℕ). is_posted (logged notes) z i ≡ false) same o.unposted)).asks
      by untold phase seen = absurd (none_out r i q entry o phase seen)

    pub out_asked : (r i q : ℕ) (entry : Sqe) → IsOut (logged notes) r i q entry → asked (shown rules notes) q entry.cid ≡ Some (admin_command_of entry)
    out_asked r i q entry o = elim (cases_eq q 0) [
      | inl z ↦
          let region : r ≡ 0 = admin_region rules (logged notes) (effects_of rules notes s.each) r (o.own ∙ ap (λ (k : ℕ). Some k) z) in
          ap (λ (k : ℕ). asked (shown rules notes) k entry.cid) z
          ∙ admin_asks rules notes (admin_at rules notes s) i entry (subst (λ (k : ℕ). entry_at (logged notes) k i ≡ Some entry) region o.is_there) (subst (λ (k : ℕ). is_posted (logged notes) k i ≡ false) region o.unposted)
      | inr io ↦ io_asked r i q entry o ((io_at rules starts by_regions notes s).queue q io)
    ]

    -- no two commands of one queue have one name
    apart : (r i t k q v cqid : ℕ) (one other : Sqe) → IsOut (logged notes) r i q one → IsOut (logged notes) t k q other → one.cid ≡ other.cid → r ≡ v → t ≡ v → SqAt rules notes q v cqid → (r ≡ t) × (i ≡ k)
    apart r i t k q v cqid one other o u same rv tv a = (
      rv ∙ sym tv,
      sq_names (start_of rules) (shown rules notes) q (sq_slots rules v) cqid (submitted rules notes v) (fetched (logged notes) v) (λ n. is_posted (logged notes) v n) i k one other
          (subst (λ (z : ℕ). entry_at (logged notes) z i ≡ Some one) rv o.is_there) (subst (λ (z : ℕ). entry_at (logged notes) z k ≡ Some other) tv u.is_there)
          (subst (λ (z : ℕ). is_posted (logged notes) z i ≡ false) rv o.unposted) (subst (λ (z : ℕ). is_posted (logged notes) z k ≡ false) tv u.unposted) same a,
    )

    io_same : (r i t k q : ℕ) (one other : Sqe) → IsOut (logged notes) r i q one → IsOut (logged notes) t k q other → one.cid ≡ other.cid → QueueAt rules notes q → (r ≡ t) × (i ≡ k)
    io_same r i t k q one other o u same x = by x.stage x.phase x.seen where
      by : (st : Stage) → Phase rules (logged notes) q st → Seen rules notes q st → (r ≡ t) × (i ≡ k)
      by (told_on v cqid) phase seen =
          apart r i t k q v cqid one other o u same (posted_region rules (logged notes) q r i one (told_on v cqid) o.own o.is_there o.unposted phase)
          (posted_region rules (logged notes) q t k other (told_on v cqid) u.own u.is_there u.unposted phase) seen
      by untold phase seen = absurd (none_out r i q one o phase seen)

    pub out_same : (r i t k q : ℕ) (one other : Sqe) → IsOut (logged notes) r i q one → IsOut (logged notes) t k q other → one.cid ≡ other.cid → (r ≡ t) × (i ≡ k)
    out_same r i t k q one other o u same = elim (cases_eq q 0) [
      | inl z ↦
          let region : (v : ℕ) → qid_of_region (logged notes) v ≡ Some q → v ≡ 0 = λ v own. admin_region rules (logged notes) (effects_of rules notes s.each) v (own ∙ ap (λ (n : ℕ). Some n) z) in
          apart r i t k q 0 0 one other o u same (region r o.own) (region t u.own) (subst (λ (n : ℕ). SqAt rules notes n 0 0) (sym z) (admin_at rules notes s).sq)
      | inr io ↦ io_same r i t k q one other o u same ((io_at rules starts by_regions notes s).queue q io)
    ]

    -- the posted command of an admin place is that which its completion answers
    pub posted_out : (c r i : ℕ) (cqe : Cqe) (p : IsPosted rules notes c r i cqe) → IsOut (logged notes) r i cqe.sqid p.entry
    posted_out c r i cqe p = record { own = p.sqid; is_there = p.is_there; unposted = p.no_post }

    pub posted_asked : (c r i : ℕ) (cqe : Cqe) (p : IsPosted rules notes c r i cqe) → asked (shown rules notes) cqe.sqid cqe.cid ≡ Some (admin_command_of p.entry)
    posted_asked c r i cqe p = ap (asked (shown rules notes) cqe.sqid) p.cid ∙ out_asked r i cqe.sqid p.entry (posted_out c r i cqe p)

-- ---- what the judge finds
pub command_is : (o : Option AdminCommand) (number mark : ℕ) (named owed : Bool) → command_in (command_with o number mark named owed) ≡ o
command_is None number mark named owed = refl
command_is (Some command) number mark named owed = refl
