-- What completions of Aborts say of other commands: each that one says was aborted ends so.
use Rattle.std.proofs.Common.{◌≡◌, ℕ, ◌+◌, ◌<◌, ◌≤◌, ◌==◌, ◌&&◌, Bool, true, false, if◌then◌else◌, List, [], ◌∷◌, length, Option, Some, sym, ◌∙◌, subst, arith, ◌⊎◌, inl, inr, refl, eqb-true}
use Rattle.std.specs.Prelude.{slice_get}
use Rattle.std.proofs.lemmas.Bool.{eq-eqb, and_parts}
use Rattle.nvme_entry.specs.AdminCommand.{admin_command_of}
use Rattle.nvme_entry.specs.declared.submission.Sqe.{Sqe}
use Rattle.nvme_entry.specs.declared.admin.AdminCommand.{AdminCommand}
use Rattle.nvme_entry.specs.declared.admin.AdminCommand.TheVariants.{DeleteSq, CreateSq, DeleteCq, CreateCq, Abort, SetFeatures, GetFeatures, Other}
use Rattle.nvme_log.specs.Rules.{FrontRules, Past}
use Rattle.nvme_log.specs.Places.{fetched, fate_of, is_waiting, is_aborted}
use Rattle.nvme_log.specs.Aborts.{has_aborted, is_abort_requested}
use Rattle.nvme_log.specs.Completions.{is_posted}
use Rattle.nvme_ctrl_log.specs.Notes.{Notes, Passed}
use Rattle.nvme_ctrl_log.specs.Tags.{is_passed, is_of_device}
use Rattle.nvme_audit.specs.declared.event.Completion.{Completion}
use Rattle.nvme_audit.specs.declared.event.Event.TheVariants.{Tail, Head, Post}
use Rattle.nvme_audit.specs.Lives as lives
use Rattle.nvme_audit.specs.Lives.{asked, turns_sq, done, is_success}
use Rattle.nvme_audit.specs.Aborts as aborts
use Rattle.nvme_audit.specs.Aborts.{names, stirred, told_of}
use Rattle.nvme_audit.specs.Marks.{mark_of, owes}
use Rattle.nvme_own_statuses.proofs.Caused.{IsDue}
use Rattle.nvme_own_statuses.proofs.Outs.{IsOut}
use Rattle.nvme_own_log.proofs.Phases.{IsPending}

-- an admin command was passed on
abbrev pub has_passed : Notes → Bool
has_passed [] = false
has_passed (Passed i ∷ notes) = true
has_passed (note ∷ notes) = has_passed notes

pub passed_some : (notes : Notes) (i : ℕ) → is_passed notes i ≡ true → has_passed notes ≡ true
passed_some [] i h = cc h
passed_some (Passed index ∷ notes) i h = refl
passed_some (note ∷ notes) i h = passed_some notes i h

-- the device has the command of a place, and may say of others that it aborted them: admin commands were passed on
abbrev pub had_by : Notes → (r i : ℕ) → Bool
had_by notes r i = is_of_device notes r i && has_passed notes

module _ (rules : FrontRules) where
  -- a command of the queue with this identifier was taken by an Abort command, and isn't posted
  pub record IsTaken (past : Past) (q cid : ℕ) : Type 0 where
    pub region : ℕ
    pub index : ℕ
    pub entry : Sqe
    pub out : IsOut rules past region index q entry
    pub cid_is : entry.cid ≡ cid
    pub requested : is_abort_requested past region index ≡ true

  -- the device has the command of a place, and no abort will take it
  pub record IsHeld (past : Past) (had : ℕ → ℕ → Bool) (r i : ℕ) : Type 0 where
    pub of_device : had r i ≡ true
    pub waits_not : is_waiting (fate_of past r i) ≡ false
    pub unaborted : is_aborted past r i ≡ false
    pub none_due : IsDue rules past r i → ⊥

  pub record TellsAt (log : lives.Past) (past : Past) (had : ℕ → ℕ → Bool) : Type 0 where
    pub there : (k : ℕ) → has_aborted past k ≡ true → k < length (fetched past 0)
    pub low : (k q cid : ℕ) (a : Sqe) → IsPending rules past k a → admin_command_of a ≡ Abort q cid → mark_of log 0 a.cid ≤ stirred log q
    pub told : (k q cid : ℕ) (a : Sqe) → IsPending rules past k a → admin_command_of a ≡ Abort q cid → has_aborted past k ≡ true → IsTaken past q cid ⊎ (mark_of log 0 a.cid < stirred log q)
    pub owed : (r i q : ℕ) (x : Sqe) → IsOut rules past r i q x → owes log q x.cid ≡ true → (is_abort_requested past r i ≡ true) ⊎ IsHeld past had r i

  -- ---- doorbells, and notes of the device
  pub tells_tail : (log : lives.Past) (past : Past) (had : ℕ → ℕ → Bool) (sq slot : ℕ) → TellsAt log past had → TellsAt (Tail sq slot ∷ log) past had
  tells_tail log past had sq slot t = record { there = t.there; low = t.low; told = t.told; owed = t.owed }

  pub tells_head : (log : lives.Past) (past : Past) (had : ℕ → ℕ → Bool) (cq slot : ℕ) → TellsAt log past had → TellsAt (Head cq slot ∷ log) past had
  tells_head log past had cq slot t = record { there = t.there; low = t.low; told = t.told; owed = t.owed }

  pub tells_more : (log : lives.Past) (past : Past) (had more : ℕ → ℕ → Bool) → ((r i : ℕ) → had r i ≡ true → more r i ≡ true) → TellsAt log past had → TellsAt log past more
  tells_more log past had more grows t = record {
    there = t.there;
    low = t.low;
    told = t.told;
    owed = λ r i q x o w. elim (t.owed r i q x o w) [
      | inl ok ↦ inl ok
      | inr h ↦ inr (record { of_device = grows r i h.of_device; waits_not = h.waits_not; unaborted = h.unaborted; none_due = h.none_due })
    ];
  }

  -- ---- events that don't show
  -- what they leave and make
  pub record Leaves (past later : Past) : Type 0 where
    pub fetched_same : fetched later 0 ≡ fetched past 0
    pub posted_same : (r i : ℕ) → is_posted later r i ≡ is_posted past r i
    pub outs_before : (r i q : ℕ) (x : Sqe) → IsOut rules later r i q x → IsOut rules past r i q x
    pub outs_after : (r i q : ℕ) (x : Sqe) → IsOut rules past r i q x → IsOut rules later r i q x
    pub requested : (r i : ℕ) → is_abort_requested past r i ≡ true → is_abort_requested later r i ≡ true
    pub held : (had : ℕ → ℕ → Bool) (r i : ℕ) → IsHeld past had r i → IsHeld later had r i
    pub found : (k : ℕ) → has_aborted later k ≡ true
        → (has_aborted past k ≡ true) ⊎ ((k < length (fetched past 0)) × ((q cid : ℕ) (a : Sqe) → IsPending rules past k a → admin_command_of a ≡ Abort q cid → IsTaken later q cid))

  pub tells_later : (log : lives.Past) (past later : Past) (had : ℕ → ℕ → Bool) → Leaves past later → TellsAt log past had → TellsAt log later had
  tells_later log past later had l t = record {
    there = λ k h. elim (l.found k h) [
      | inl earlier ↦ subst (λ (xs : List Sqe). k < length xs) (sym l.fetched_same) (t.there k earlier)
      | inr now ↦ subst (λ (xs : List Sqe). k < length xs) (sym l.fetched_same) now.0
    ];
    low = λ k q cid a p is. t.low k q cid a (before k a p) is;
    told = λ k q cid a p is h. elim (l.found k h) [
      | inr now ↦ inl (now.1 q cid a (before k a p) is)
      | inl earlier ↦ elim (t.told k q cid a (before k a p) is earlier) [
        | inr less ↦ inr less
        | inl x ↦ inl (record { region = x.region; index = x.index; entry = x.entry; out = l.outs_after x.region x.index q x.entry x.out; cid_is = x.cid_is; requested = l.requested x.region x.index x.requested })
      ]
    ];
    owed = λ r i q x o w. elim (t.owed r i q x (l.outs_before r i q x o) w) [
      | inl ok ↦ inl (l.requested r i ok)
      | inr h ↦ inr (l.held had r i h)
    ];
  } where
    before : (k : ℕ) (a : Sqe) → IsPending rules later k a → IsPending rules past k a
    before k a p = (subst (λ (xs : List Sqe). slice_get xs k ≡ Some a) l.fetched_same p.0, sym (l.posted_same 0 k) ∙ p.1)

-- ---- an Abort by its name
pub names_is : (command : AdminCommand) (q cid : ℕ) → names command q cid ≡ true → command ≡ Abort q cid
names_is (DeleteSq qid) q cid h = cc h
names_is (CreateSq qid qsize prp1 cqid qprio pc) q cid h = cc h
names_is (DeleteCq qid) q cid h = cc h
names_is (CreateCq qid qsize prp1 pc) q cid h = cc h
names_is (Abort sqid c) q cid h =
    let parts = and_parts (sqid == q) (c == cid) h in
    let one : sqid ≡ q = eqb-true sqid q parts.0 in
    let other : c ≡ cid = eqb-true c cid parts.1 in
    λ t. Abort (one t) (other t)
names_is (SetFeatures fid sv cdw11) q cid h = cc h
names_is (GetFeatures fid) q cid h = cc h
names_is Other q cid h = cc h

-- ---- how often a queue was stirred
pub stirred_grows : (log : lives.Past) (cq : ℕ) (slot : Option ℕ) (completion : Completion) (q : ℕ) → stirred log q ≤ stirred (Post cq slot completion ∷ log) q
stirred_grows log cq slot completion q = by (turns_sq (done log completion) q) (completion.sq == q && aborts.is_aborted completion.status) where
  by : (b c : Bool) → stirred log q ≤ (if b then (if c then stirred log q + 1 else stirred log q) + 1 else (if c then stirred log q + 1 else stirred log q))
  by true true = omega arith
  by true false = omega arith
  by false true = omega arith
  by false false = omega arith

pub stirred_more : (log : lives.Past) (cq : ℕ) (slot : Option ℕ) (completion : Completion) (q : ℕ) → completion.sq ≡ q → aborts.is_aborted completion.status ≡ true
    → stirred log q < stirred (Post cq slot completion ∷ log) q
stirred_more log cq slot completion q own is = rw (eq-eqb completion.sq q own, is) (by (turns_sq (done log completion) q)) where
  by : (b : Bool) → stirred log q < (if b then stirred log q + 1 + 1 else stirred log q + 1)
  by true = omega arith
  by false = omega arith
