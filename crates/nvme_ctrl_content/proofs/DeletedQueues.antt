-- The queues that are being deleted, and the places of the commands that delete them, at a log.
use Rattle.std.proofs.Common.{◌≡◌, ℕ, ◌+◌, ◌<◌, ◌≤◌, ◌==◌, ◌&&◌, not, nat_lt, Bool, true, false, length, Option, Some, None, refl, sym, ap, ◌∙◌, subst, arith, eq-eqb, eqb-true}
use Rattle.std.specs.Prelude.{option_map, is_some}
use Rattle.std.proofs.lemmas.Bool.{and_parts, false_from_ne_true, not-true}
use Rattle.std.proofs.lemmas.Option.{same_Some}
use Rattle.std.proofs.lemmas.List.Sums.{sum_by-append}
use Rattle.nvme_admin.specs.declared.verdict.SqEntry.{SqEntry}
use Rattle.nvme_log.specs.Rules.{FrontRules, Past}
use Rattle.nvme_log.specs.Queues.{Queue, open_sq}
use Rattle.nvme_log.specs.Places.{fetched, fate_of, is_waiting, is_served, one_if}
use Rattle.nvme_log.specs.declared.place.Place.{Place}
use Rattle.nvme_log.specs.Aborts.{is_index}
use Rattle.nvme_log.specs.Laws.{as_open}
use Rattle.nvme_ctrl_log.specs.Deletions.{deleting, is_deleted_queue}
use Rattle.nvme_ctrl_content.specs.Content.{PendingDelete, Attachment, Content}
use Rattle.nvme_ctrl_content.specs.Standing.{Holds, hand_of, held_upto, times_held}
use Rattle.nvme_ctrl_content.proofs.DeletingRegions.{held-one}

-- a queue that is closing isn't open
pub closing_not_open : (closing : SqEntry) → closing.closing ≡ true → as_open (Some closing) ≡ None
closing_not_open closing e = rw e refl

-- a place is itself
itself : (p : Place) → one_if (p.region == p.region && p.index == p.index) ≡ 1
itself p = rw (eq-eqb p.region p.region refl, eq-eqb p.index p.index refl) refl

-- a place that stands among those in hand was served
served_in : (b : Bool) (x y z : ℕ) → x + y + z ≡ one_if b → 1 ≤ z → b ≡ true
served_in true x y z e l = refl
served_in false x y z e l = absurd (omega arith)

module _ (rules : FrontRules) (late : Bool) (past : Past) (k : Content) (s : Holds rules late past k) where
  -- the region of a deletion is there
  pub deletion_within : (r : ℕ) (d : PendingDelete) → k.deletion r ≡ Some d → r < k.nsq
  deletion_within r d is =
      let p = s.deletion.stands r d is in
      let o = s.queues.deleting r d is in
      let below = s.queues.sq_there d.region (record { qid = d.qid; cq_region = o.cq_region }) o.opened in
      let at = p.at in
      omega (arith, below, at)

  -- the region of an open queue has none
  pub open_undeleted : (q : ℕ) (queue : Queue) → open_sq past q ≡ Some queue → k.deletion queue.region ≡ None
  open_undeleted q queue is = by (k.deletion queue.region) refl where
    by : (o : Option PendingDelete) → k.deletion queue.region ≡ o → o ≡ None
    by None e = refl
    by (Some d) e =
        let p = s.deletion.stands queue.region d e in
        let o = s.queues.deleting queue.region d e in
        let a = s.queues.attached q queue is in
        let here : (k.sq queue.region).queue ≡ Some (record { qid = d.qid; cq_region = o.cq_region }) =
        subst (λ (r : ℕ). (k.sq r).queue ≡ Some (record { qid = d.qid; cq_region = o.cq_region })) p.at o.opened in
        let same : q ≡ d.qid = ap (λ (x : Attachment). x.qid)
        (same_Some (record { qid = q; cq_region = a.cq_region }) (record { qid = d.qid; cq_region = o.cq_region }) (sym a.attached ∙ here)) in
        let closed : open_sq past d.qid ≡ None = s.queues.sqs d.qid ∙ ap as_open p.in_table ∙ closing_not_open p.closing p.is_closing in
        let moved : open_sq past q ≡ None = subst (λ (z : ℕ). open_sq past z ≡ None) (sym same) closed in
        absurd (cc (moved, is))

  -- so it isn't being deleted in the log
  pub undeleted_region : (q : ℕ) (queue : Queue) → open_sq past q ≡ Some queue → deleting past queue.region ≡ None
  undeleted_region q queue is =
      s.deletion.place_is queue.region ∙ ap (option_map (λ (d : PendingDelete). d.place.index)) (open_undeleted q queue is)

  pub undeleted_queue : (q : ℕ) (queue : Queue) → open_sq past q ≡ Some queue → is_deleted_queue past (open_sq past q) ≡ false
  undeleted_queue q queue is = ap (is_deleted_queue past) is ∙ ap (λ (o : Option ℕ). is_some o) (undeleted_region q queue is)

  -- another deletion is of another region
  pub undeleted_apart : (q : ℕ) (queue : Queue) (r : ℕ) (d : PendingDelete) → open_sq past q ≡ Some queue → k.deletion r ≡ Some d → d.region ≡ queue.region → ⊥
  undeleted_apart q queue r d is e same =
      let p = s.deletion.stands r d e in
      let none : k.deletion r ≡ None = subst (λ (z : ℕ). k.deletion z ≡ None) (sym same ∙ p.at) (open_undeleted q queue is) in
      cc (none, e)

  -- ---- the places of the commands
  -- the place of the command of a deletion is in hand
  pub deletion_held : (r : ℕ) (d : PendingDelete) → k.deletion r ≡ Some d → 1 ≤ times_held d.place.region d.place.index (hand_of k)
  deletion_held r d is =
      let one = held-one d.place.region d.place.index k.deletion r d k.nsq (deletion_within r d is) is in
      let all = sum_by-append (λ (p : Place). one_if (p.region == d.place.region && p.index == d.place.index)) k.hand (held_upto k.deletion k.nsq) in
      omega (arith, one, all, itself d.place)

  -- so it doesn't wait
  pub deletion_done : (r : ℕ) (d : PendingDelete) → k.deletion r ≡ Some d → is_waiting (fate_of past d.place.region d.place.index) ≡ false
  deletion_done r d is =
      let served = served_in (is_served past d.place.region d.place.index) _ _ _ (s.ready.once d.place.region d.place.index) (deletion_held r d is) in
      not-true (is_waiting (fate_of past d.place.region d.place.index))
      (and_parts (nat_lt d.place.index (length (fetched past d.place.region))) (not (is_waiting (fate_of past d.place.region d.place.index))) served).1

  -- a place that isn't in hand isn't that of a deletion's command
  pub unheld_apart : (i : ℕ) → times_held 0 i (hand_of k) ≡ 0 → (r : ℕ) (d : PendingDelete) → k.deletion r ≡ Some d → d.place.index ≡ i → ⊥
  unheld_apart i none r d is same =
      let p = s.deletion.stands r d is in
      let first : times_held d.place.region d.place.index (hand_of k) ≡ times_held 0 d.place.index (hand_of k) = ap (λ (x : ℕ). times_held x d.place.index (hand_of k)) p.of_admin in
      let second : times_held 0 d.place.index (hand_of k) ≡ times_held 0 i (hand_of k) = ap (λ (x : ℕ). times_held 0 x (hand_of k)) same in
      absurd (omega (arith, deletion_held r d is, first, second, none))

  pub unheld_undeleting : (r i : ℕ) → times_held r i (hand_of k) ≡ 0 → (x : ℕ) → (r == 0 && is_index i (deleting past x)) ≡ false
  unheld_undeleting r i none x = false_from_ne_true (r == 0 && is_index i (deleting past x)) (λ e.
      let parts = and_parts (r == 0) (is_index i (deleting past x)) e in
      let here : times_held 0 i (hand_of k) ≡ 0 = subst (λ (z : ℕ). times_held z i (hand_of k) ≡ 0) (eqb-true r 0 parts.0) none in
      by here (k.deletion x) refl (ap (is_index i) (sym (s.deletion.place_is x)) ∙ parts.1)) where
        by : times_held 0 i (hand_of k) ≡ 0 → (o : Option PendingDelete) → k.deletion x ≡ o → is_index i (option_map (λ (d : PendingDelete). d.place.index) (k.deletion x)) ≡ true → ⊥
        by here None is e = (let no : is_index i (option_map (λ (d : PendingDelete). d.place.index) (k.deletion x)) ≡ false = ap (λ (o : Option PendingDelete). is_index i (option_map (λ (d : PendingDelete). d.place.index) o)) is in cc (no, e))
        by here (Some d) is e =
            let yes : (d.place.index == i) ≡ true = sym (ap (λ (o : Option PendingDelete). is_index i (option_map (λ (d : PendingDelete). d.place.index) o)) is) ∙ e in
            unheld_apart i here x d is (eqb-true d.place.index i yes)
