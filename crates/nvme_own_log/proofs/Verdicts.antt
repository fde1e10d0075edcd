-- Where a log agrees with a queue's own side, the rules of rings and of names are kept.
use Rattle.std.proofs.Common.{◌≡◌, ℕ, ◌+◌, ◌%◌, ◌<◌, ◌≤◌, ◌==◌, ◌&&◌, nat_le, nat_lt, Bool, true, false, not, if◌then◌else◌, List, length, Option, Some, None, is_some, refl, sym, ap, ◌∙◌, arith, inl, inr}
use Rattle.std.specs.Prelude.{slice_get}
use Rattle.std.proofs.lemmas.Bool.{eq-eqb, le-ltb, lt-leb}
use Rattle.std.proofs.lemmas.Option.{slice_get_within}
use Rattle.nvme_entry.specs.AdminCommand.{admin_command_of}
use Rattle.nvme_entry.specs.declared.submission.Sqe.{Sqe}
use Rattle.nvme_entry.specs.declared.admin.AdminCommand.{AdminCommand}
use Rattle.nvme_log.specs.Completions.{phase_after}
use Rattle.nvme_audit.specs.declared.event.Completion.{Completion}
use Rattle.nvme_audit.specs.declared.facts.Start.{Start}
use Rattle.nvme_audit.specs.declared.facts.Ring.{Ring}
use Rattle.nvme_audit.specs.declared.facts.Command.{Command}
use Rattle.nvme_audit.specs.declared.verdict.Verdict.{Verdict}
use Rattle.nvme_audit.specs.declared.verdict.Verdict.TheVariants.{Kept}
use Rattle.nvme_audit.specs.Lives.{Past, asked}
use Rattle.nvme_audit.specs.Queues.{ring_of, qsize_of}
use Rattle.nvme_audit.specs.Rings.{slots_of, gap, advanced, qsize_in, submitted, fetched, posted, consumed, number_of, phase_of}
use Rattle.nvme_audit.specs.Aborts.{was_named}
use Rattle.nvme_audit.specs.Marks.{mark_of, owes}
use Rattle.nvme_audit.specs.Early.{is_early}
use Rattle.nvme_audit.specs.Facts.{sq_after, cq_after, command_with, outstanding}
use Rattle.nvme_audit.specs.Host.{tail_rules, tail_verdict, head_rules, head_verdict}
use Rattle.nvme_audit.specs.Rules.{is_other, is_other_phase, is_head_of, fetch_rules, fetch_verdict, name_rules, name_verdict, slot_rules, if_kept, post_verdict}
use Rattle.nvme_audit.proofs.HeadLemmas.{heads}
use Rattle.nvme_audit.proofs.StepLemmas.{same_out}
use Rattle.nvme_own_log.proofs.Agreeing.{SqAgrees, CqAgrees, IsOut}

kept_if : (b : Bool) (v : Verdict) → v ≡ Kept → (if b then Kept else v) ≡ Kept
kept_if true v h = refl
kept_if false v h = h

both_kept : (v w : Verdict) → v ≡ Kept → w ≡ Kept → if_kept v w ≡ Kept
both_kept v w h k = ap (λ (x : Verdict). if_kept x w) h ∙ k

and_false : (a b : Bool) → b ≡ false → (a && b) ≡ false
and_false true b h = h
and_false false b h = refl

same_number : (told wanted : ℕ) → told ≡ wanted → is_other (Some told) wanted ≡ false
same_number told wanted e = rw (eq-eqb told wanted e) refl

same_phase : (told wanted : Bool) → told ≡ wanted → is_other_phase (Some told) wanted ≡ false
same_phase true true e = refl
same_phase true false e = cc e
same_phase false true e = cc e
same_phase false false e = refl

-- ---- submission queues
module _ (start : Start) (log : Past) (q slots cqid many : ℕ) (entries : List Sqe) (is_answered : ℕ → Bool) (a : SqAgrees start log q slots cqid many entries is_answered) where
  -- a fetch of the next command, which was submitted, under a free name
  pub fetch_kept : (slot cid : ℕ) → length entries < many → slot ≡ length entries % slots → is_some (asked log q cid) ≡ false
      → fetch_verdict start.tells (sq_after start log q) (Some slot) (is_some (outstanding log q cid)) ≡ Kept
  fetch_kept slot cid more next free =
      let same : slots_of a.ring.qsize ≡ slots = a.slots_are (a.some_slots (inl (omega (arith, more)))) in
      let beyond : (start.tells.tails && nat_le (sq_after start log q).submitted (sq_after start log q).fetched) ≡ false =
      and_false start.tells.tails _ (lt-leb (sq_after start log q).submitted (sq_after start log q).fetched (omega (arith, a.submitted_is, a.fetched_is, more))) in
      let slot_is : slot ≡ (sq_after start log q).fetched % slots_of a.ring.qsize = next ∙ ap (λ (n : ℕ). length entries % n) (sym same) ∙ ap (λ (n : ℕ). n % slots_of a.ring.qsize) (sym a.fetched_is) in
      let none : is_some (outstanding log q cid) ≡ false = same_out (asked log q cid) (number_of log q cid) (mark_of log q cid) (was_named log q cid) (owes log q cid) ∙ free in
      kept_if (sq_after start log q).excused (fetch_rules start.tells (sq_after start log q) (ring_of start log q) (Some slot) (is_some (outstanding log q cid)))
      (ap (λ (o : Option Ring). fetch_rules start.tells (sq_after start log q) o (Some slot) (is_some (outstanding log q cid))) a.ring_is
      ∙ rw (beyond, same_number slot _ slot_is, none) refl)

  -- a completion of an outstanding command, into the completion queue of the queue, with the head after all that were fetched
  pub name_kept : (i : ℕ) (entry : Sqe) (cq cid head : ℕ) → slice_get entries i ≡ Some entry → is_answered i ≡ false → cqid ≡ cq → cid ≡ entry.cid → head ≡ length entries % slots
      → name_verdict start.tells cq (sq_after start log q) (outstanding log q cid) (Some head) ≡ Kept
  name_kept i entry cq cid head at unanswered into named after =
      let within : i < length entries = slice_get_within entries i entry at in
      let same : slots_of a.ring.qsize ≡ slots = a.slots_are (a.some_slots (inr (omega (arith, within)))) in
      let out : IsOut log q i entry = a.outs i entry at unanswered in
      let asks : asked log q cid ≡ Some (admin_command_of entry) = ap (λ (c : ℕ). asked log q c) named ∙ out.asks in
      let number_is : number_of log q cid ≡ i = ap (λ (c : ℕ). number_of log q c) named ∙ out.number_is in
      let there : outstanding log q cid ≡ Some (record { number = number_of log q cid; command = admin_command_of entry; mark = mark_of log q cid; named = was_named log q cid; owed = owes log q cid }) =
      ap (λ (o : Option AdminCommand). command_with o (number_of log q cid) (mark_of log q cid) (was_named log q cid) (owes log q cid)) asks in
      let head_is : is_head_of a.ring.qsize (number_of log q cid) (sq_after start log q).fetched head ≡ true =
      (heads a.ring.qsize (number_of log q cid) (sq_after start log q).fetched head).1
      (record {
        count = length entries;
        after_own = omega (arith, number_is, within);
        was_fetched = omega (arith, a.fetched_is);
        head_is = after ∙ ap (λ (n : ℕ). length entries % n) (sym same);
      }) in
      let own_cq : (a.ring.cqid == cq) ≡ true = eq-eqb a.ring.cqid cq (a.cqid_is ∙ into) in
      kept_if _ (name_rules cq (sq_after start log q) (ring_of start log q) (outstanding log q cid) (Some head))
      (ap (λ (o : Option Ring). name_rules cq (sq_after start log q) o (outstanding log q cid) (Some head)) a.ring_is
      ∙ ap (λ (o : Option Command). name_rules cq (sq_after start log q) (Some a.ring) o (Some head)) there
      ∙ rw (own_cq, head_is) refl)

  -- its own tail: a slot, no further on than where the ring is full
  pub tail_kept : (slot : ℕ) → slot < slots → many + gap slots (many % slots) slot < length entries + slots → tail_verdict (sq_after start log q) slot ≡ Kept
  tail_kept slot below fits =
      let same : slots_of a.ring.qsize ≡ slots = a.slots_are (omega (arith, below)) in
      let further : advanced a.ring.qsize (submitted start log q) slot ≡ many + gap slots (many % slots) slot =
      ap (λ (n : ℕ). advanced a.ring.qsize n slot) a.submitted_is ∙ ap (λ (k : ℕ). many + gap k (many % k) slot) same in
      let is_slot : nat_lt a.ring.qsize slot ≡ false = le-ltb a.ring.qsize slot (omega (arith, same, below)) in
      let few : nat_lt (fetched log q + a.ring.qsize) (advanced a.ring.qsize (submitted start log q) slot) ≡ false =
      le-ltb (fetched log q + a.ring.qsize) (advanced a.ring.qsize (submitted start log q) slot) (omega (arith, same, further, fits, a.fetched_is)) in
      kept_if (sq_after start log q).excused _ (ap (λ (o : Option Ring). tail_rules (qsize_in o) (submitted start log q) (fetched log q) slot) a.ring_is ∙ rw (is_slot, few) refl)

-- ---- completion queues
module _ (start : Start) (log : Past) (q slots many taken : ℕ) (a : CqAgrees start log q slots many taken) where
  -- its own head: a slot, no further on than the completions
  pub head_kept : (slot : ℕ) → slot < slots → taken + gap slots (taken % slots) slot ≤ many → head_verdict (cq_after start log q) slot ≡ Kept
  head_kept slot below fits =
      let same : slots_of a.qsize ≡ slots = a.slots_are (omega (arith, below)) in
      let further : advanced a.qsize (consumed start log q) slot ≡ taken + gap slots (taken % slots) slot =
      ap (λ (n : ℕ). advanced a.qsize n slot) a.consumed_is ∙ ap (λ (k : ℕ). taken + gap k (taken % k) slot) same in
      let is_slot : nat_lt a.qsize slot ≡ false = le-ltb a.qsize slot (omega (arith, same, below)) in
      let posted_so : (not (is_early start log q) && nat_lt (posted log q) (advanced a.qsize (consumed start log q) slot)) ≡ false =
      and_false (not (is_early start log q)) _ (le-ltb (posted log q) (advanced a.qsize (consumed start log q) slot) (omega (arith, further, fits, a.posted_is))) in
      kept_if (cq_after start log q).excused _ (ap (λ (o : Option ℕ). head_rules o (is_early start log q) (posted log q) (consumed start log q) slot) a.qsize_is ∙ rw (is_slot, posted_so) refl)

  -- a post into the next slot, with the phase tag of its pass, where one more slot is free
  pub slot_kept : (slot : ℕ) (phase : Bool) → many + 1 < taken + slots → slot ≡ many % slots → phase ≡ phase_after many slots
      → slot_rules start.tells (cq_after start log q) (qsize_of start log q) (Some slot) (Some phase) ≡ Kept
  slot_kept slot phase room next tag =
      let few : taken ≤ many = a.fits in
      let same : slots_of a.qsize ≡ slots = a.slots_are (omega (arith, few, room)) in
      let slot_is : slot ≡ (cq_after start log q).posted % slots_of a.qsize = next ∙ ap (λ (n : ℕ). many % n) (sym same) ∙ ap (λ (n : ℕ). n % slots_of a.qsize) (sym a.posted_is) in
      let phase_is : phase ≡ phase_of a.qsize (cq_after start log q).posted = tag ∙ ap (λ (n : ℕ). phase_after many n) (sym same) ∙ ap (λ (n : ℕ). phase_after n (slots_of a.qsize)) (sym a.posted_is) in
      let free : (start.tells.heads && nat_le ((cq_after start log q).consumed + a.qsize) (cq_after start log q).posted) ≡ false =
      and_false start.tells.heads _ (lt-leb ((cq_after start log q).consumed + a.qsize) (cq_after start log q).posted (omega (arith, a.posted_is, a.consumed_is, same, room))) in
      ap (λ (o : Option ℕ). slot_rules start.tells (cq_after start log q) o (Some slot) (Some phase)) a.qsize_is
      ∙ kept_if (cq_after start log q).early _ (rw (same_number slot _ slot_is, same_phase phase _ phase_is, free) refl)

-- a post into a queue of which completions came before the host was told
pub early_slot : (start : Start) (log : Past) (q : ℕ) (slot : Option ℕ) (phase : Option Bool) (qsize : Option ℕ) → is_some qsize ≡ true → is_early start log q ≡ true → slot_rules start.tells (cq_after start log q) qsize slot phase ≡ Kept
early_slot start log q slot phase None some early = cc some
early_slot start log q slot phase (Some n) some early = rw early refl

-- both
pub post_kept : (start : Start) (log : Past) (cq : ℕ) (slot : Option ℕ) (completion : Completion)
    → slot_rules start.tells (cq_after start log cq) (qsize_of start log cq) slot completion.phase ≡ Kept
    → name_verdict start.tells cq (sq_after start log completion.sq) (outstanding log completion.sq completion.cid) completion.sqhd ≡ Kept
    → post_verdict start.tells cq (cq_after start log cq) (sq_after start log completion.sq) (outstanding log completion.sq completion.cid) slot completion ≡ Kept
post_kept start log cq slot completion slots names =
    kept_if (cq_after start log cq).excused _ (both_kept _ _ slots names)
