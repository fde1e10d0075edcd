-- A completion that breaks no rule breaks none where the rules read nothing worse of it.
use Rattle.std.proofs.Common.{◌≡◌, ℕ, ◌≤◌, ◌&&◌, ◌||◌, not, ◌==◌, Bool, true, false, Option, None, Some, is_some, is_none, refl, sym, ◌∙◌}
use Rattle.nvme_entry.specs.declared.admin.AdminCommand.{AdminCommand}
use Rattle.nvme_audit.specs.declared.event.Completion.{Completion}
use Rattle.nvme_audit.specs.declared.facts.Tells.{Tells}
use Rattle.nvme_audit.specs.declared.facts.Sq.{Sq}
use Rattle.nvme_audit.specs.declared.facts.Cq.{Cq}
use Rattle.nvme_audit.specs.declared.facts.Admin.{Admin}
use Rattle.nvme_audit.specs.declared.facts.Command.{Command}
use Rattle.nvme_audit.specs.declared.verdict.Verdict.TheVariants.{Kept}
use Rattle.nvme_audit.specs.declared.verdict.Rule.TheVariants as rule
use Rattle.nvme_audit.specs.Turns.{answered_by}
use Rattle.nvme_audit.specs.Aborts.{is_abort, is_aborted, told_of}
use Rattle.nvme_audit.specs.Marks.{mark_if}
use Rattle.nvme_audit.specs.Facts.{command_with}
use Rattle.nvme_audit.specs.Answers.{is_foreign, is_undoomed, is_unnamed, is_not_as_told, is_untrue_abort, own_rules, answered_in, mark_in}
use Rattle.nvme_audit.specs.Shows.{IsShown, with_fields}
use Rattle.nvme_audit.proofs.KeptLemmas.{both, join, still, pass, passes, slot_still, name_still, IsAnswered, IsPosted, IsMoreOpen, status_still, reply_is, mark_is, none_is, mark_least, other_head_still, unnamed_still, as_told_still}

-- what the rules read of a completion, here and where another sees it: `cq`, `sq`, `admin` and the notes of its command
pub record IsMilder (tells less : Tells) (cq cq_now own_cq own_cq_now : Cq) (sq sq_now own_sq own_sq_now : Sq) (admin now : Admin) (out : Option AdminCommand) (mark noted : ℕ) (named names owed owes : Bool) (target target_now : Option Command) (completion seen : Completion) : Type 0 where
  pub consumed : less.heads ≡ true → (tells.heads ≡ true) × (cq.consumed ≤ cq_now.consumed)
  pub posted_is : cq_now.posted ≡ cq.posted
  pub qsize_is : cq_now.qsize ≡ cq.qsize
  pub posts : less.posts ≡ true → tells.posts ≡ true
  pub answered : cq_now.answered ≤ cq.answered
  pub asked : cq.asked ≤ cq_now.asked
  pub early : cq.early ≡ true → cq_now.early ≡ true
  pub skips : (not tells.posts && sq.deleted) ≡ true → (not less.posts && sq_now.deleted) ≡ true
  pub skips_own : (not tells.posts && own_sq.deleted) ≡ true → (not less.posts && own_sq_now.deleted) ≡ true
  pub judged : sq_now.excused ≡ false
  pub own_judged : own_sq.excused ≡ false
  pub ring_is : (not less.posts && sq_now.deleted) ≡ false → sq_now.ring ≡ sq.ring
  pub fetched : (not less.posts && sq_now.deleted) ≡ false → sq.fetched ≤ sq_now.fetched
  pub doomed : sq.doomed ≡ true → sq_now.doomed ≡ true
  pub named_is : named ≡ true → names ≡ true
  pub marked : noted ≤ mark
  pub owed_is : (not less.posts && sq_now.deleted) ≡ false → is_some out ≡ true → owes ≡ true → is_aborted completion.status ≡ false → owed ≡ true
  pub says : (not less.posts && sq_now.deleted) ≡ false → (not less.posts && own_sq_now.deleted) ≡ false → is_abort (answered_by out completion) ≡ true → is_none target_now ≡ true
      → told_of own_sq_now.stirred (mark_if out noted) seen ≡ true → (is_none target ≡ true) × (told_of own_sq.stirred (mark_if out mark) completion ≡ true)
  pub more : IsMoreOpen own_sq own_sq_now own_cq own_cq_now admin now

not_true : (b : Bool) → not b ≡ true → b ≡ false
not_true true h = cc
not_true false h = refl

not_either : (a b : Bool) → not (a || b) ≡ true → (a ≡ false) × (b ≡ false)
not_either true b h = cc
not_either false true h = cc
not_either false false h = (refl, refl)

pub neither : (a b : Bool) → a ≡ false → b ≡ false → not (a || b) ≡ true
neither true b h g = cc
neither false true h g = cc
neither false false h g = refl

undoomed_still : (doomed now a : Bool) → (doomed ≡ true → now ≡ true) → (a && not now) ≡ true → (a && not doomed) ≡ true
undoomed_still true now a f h = let t : now ≡ true = f refl in let u = not_true now (both a (not now) h).1 in let z : true ≡ false = sym t ∙ u in cc
undoomed_still false now a f h = join a true (both a (not now) h).0 refl

same_reply : (out : Option AdminCommand) (completion : Completion) (sqhd dw0 : Option ℕ) (phase : Option Bool) → answered_by out (with_fields completion sqhd phase dw0) ≡ answered_by out completion
same_reply None completion sqhd dw0 phase = refl
same_reply (Some command) completion sqhd dw0 phase = refl

still_back : (a b : Bool) → (a ≡ true → b ≡ true) → b ≡ false → a ≡ false
still_back true b f h = let t : true ≡ false = sym (f refl) ∙ h in cc
still_back false b f h = refl

pub reply_seen : (out : Option AdminCommand) (n noted : ℕ) (names owes : Bool) (completion : Completion) (sqhd dw0 : Option ℕ) (phase : Option Bool) → answered_in (command_with out n noted names owes) (with_fields completion sqhd phase dw0) ≡ answered_by out completion
reply_seen out n noted names owes completion sqhd dw0 phase = reply_is out n noted names owes (with_fields completion sqhd phase dw0) ∙ same_reply out completion sqhd dw0 phase

answered_still : (tells less : Tells) (cq cq_now own_cq own_cq_now : Cq) (sq sq_now own_sq own_sq_now : Sq) (admin now : Admin) (out : Option AdminCommand) (n mark noted : ℕ) (named names owed owes : Bool) (target target_now : Option Command) (completion : Completion) (sqhd dw0 : Option ℕ) (phase : Option Bool)
    → IsShown completion.dw0 dw0
    → IsMilder tells less cq cq_now own_cq own_cq_now sq sq_now own_sq own_sq_now admin now out mark noted named names owed owes target target_now completion (with_fields completion sqhd phase dw0)
    → (not less.posts && sq_now.deleted) ≡ false
    → IsAnswered tells own_cq sq own_sq admin (command_with out n mark named owed) target completion
    → IsAnswered less own_cq_now sq_now own_sq_now now (command_with out n noted names owes) target_now (with_fields completion sqhd phase dw0)
answered_still tells less cq cq_now own_cq own_cq_now sq sq_now own_sq own_sq_now admin now out n mark noted named names owed owes target target_now completion sqhd dw0 phase at_dw0 m k a = record {
  doomed = still (is_undoomed sq completion.status) _ (undoomed_still sq.doomed sq_now.doomed ((completion.status.sct == 0) && (completion.status.sc == 0x08)) m.doomed) a.doomed;
  named = still (is_unnamed (command_with out n mark named owed) completion.status) _ (unnamed_still out n mark noted named names owed owes completion.status m.named_is) a.named;
  as_told = still (is_not_as_told (command_with out n mark named owed) completion.status) _ (as_told_still out n mark noted named names owed owes completion.status (m.owed_is k)) a.as_told;
  abort = still (is_untrue_abort tells own_sq target (mark_in (command_with out n mark named owed)) completion (answered_in (command_with out n mark named owed) completion)) _
      (λ e.
      let f : (is_abort (answered_by out completion) && is_none target_now && told_of own_sq_now.stirred (mark_if out noted) (with_fields completion sqhd phase dw0) && not (own_sq_now.excused || (not less.posts && own_sq_now.deleted))) ≡ true =
      rw (reply_seen out n noted names owes completion sqhd dw0 phase, mark_is out n noted names owes) at e in
      let t = both (is_abort (answered_by out completion) && is_none target_now && told_of own_sq_now.stirred (mark_if out noted) (with_fields completion sqhd phase dw0)) _ f in
      let u = both (is_abort (answered_by out completion) && is_none target_now) _ t.0 in
      let v = both (is_abort (answered_by out completion)) (is_none target_now) u.0 in
      let w = not_either own_sq_now.excused (not less.posts && own_sq_now.deleted) t.1 in
      let x = m.says k w.1 v.0 v.1 u.1 in
      rw (reply_is out n mark named owed completion, mark_is out n mark named owed) (join _ _ (join _ _ (join _ _ v.0 x.0) x.1) (neither own_sq.excused _ m.own_judged (still_back (not tells.posts && own_sq.deleted) (not less.posts && own_sq_now.deleted) m.skips_own w.1)))
      )
      a.abort;
  own =
      let p : own_rules own_sq own_cq admin (mark_if out mark) completion (answered_by out completion) ≡ Kept = rw (reply_is out n mark named owed completion, mark_is out n mark named owed) at a.own in
      let q = passes (is_foreign (answered_by out completion) completion.status) rule.StatusForeign _ p in
      rw (reply_seen out n noted names owes completion sqhd dw0 phase, mark_is out n noted names owes)
      (pass _ rule.StatusForeign _ q.0 (status_still own_sq own_sq_now own_cq own_cq_now admin now (mark_if out mark) (mark_if out noted) completion (with_fields completion sqhd phase dw0) (answered_by out completion) m.more (mark_least out noted mark m.marked) refl at_dw0 q.1));
}

pub posted_still : (tells less : Tells) (cqid : ℕ) (cq cq_now own_cq own_cq_now : Cq) (sq sq_now own_sq own_sq_now : Sq) (admin now : Admin) (out : Option AdminCommand) (n mark noted : ℕ) (named names owed owes : Bool) (target target_now : Option Command) (slot shown : Option ℕ) (completion : Completion) (sqhd dw0 : Option ℕ) (phase : Option Bool)
    → IsShown slot shown → IsShown completion.sqhd sqhd → IsShown completion.phase phase → IsShown completion.dw0 dw0
    → IsMilder tells less cq cq_now own_cq own_cq_now sq sq_now own_sq own_sq_now admin now out mark noted named names owed owes target target_now completion (with_fields completion sqhd phase dw0)
    → IsPosted tells cqid cq own_cq sq own_sq admin (command_with out n mark named owed) target slot completion
    → IsPosted less cqid cq_now own_cq_now sq_now own_sq_now now (command_with out n noted names owes) target_now shown (with_fields completion sqhd phase dw0)
posted_still tells less cqid cq cq_now own_cq own_cq_now sq sq_now own_sq own_sq_now admin now out n mark noted named names owed owes target target_now slot shown completion sqhd dw0 phase at_slot at_head at_phase at_dw0 m h = record {
  placed = rw m.qsize_is (slot_still tells less cq cq_now cq.qsize slot shown completion.phase phase m.consumed m.posted_is at_slot at_phase m.posts m.answered m.asked m.early h.placed);
  named = λ k. rw (m.ring_is k) (name_still cqid sq sq_now sq.ring (command_with out n mark named owed) (command_with out n noted names owes) completion.sqhd sqhd
      (λ e. none_is out n mark named owed ∙ sym (none_is out n noted names owes) ∙ e)
      (λ qsize e. other_head_still qsize out n mark noted named names owed owes sq.fetched sq_now.fetched completion.sqhd sqhd (m.fetched k) at_head e)
      (h.named (still_back (not tells.posts && sq.deleted) _ m.skips k)));
  answered = λ k. answered_still tells less cq cq_now own_cq own_cq_now sq sq_now own_sq own_sq_now admin now out n mark noted named names owed owes target target_now completion sqhd dw0 phase at_dw0 m k (h.answered (still_back (not tells.posts && sq.deleted) _ m.skips k));
}
