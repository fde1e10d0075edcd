-- What an Abort command makes ready: the completion of the candidate that it aborts, and its own answer.
use Rattle.std.proofs.Common.{◌≡◌, ℕ, ◌+◌, ◌<◌, ◌==◌, ◌&&◌, true, false, List, [], ◌∷◌, Some, refl, sym, ◌∙◌, arith}
use Rattle.std.proofs.lemmas.Bool.{eq-eqb, ne_eqb}
use Rattle.std.proofs.lemmas.List.Sums.{sum_by-cons}
use Rattle.std.proofs.lemmas.List.Elements.{All-nil, All-cons}
use Rattle.nvme_arbiter.specs.Board.{BoardView}
use Rattle.nvme_arbiter.specs.declared.pick.Pick.{Pick}
use Rattle.nvme_arbiter.specs.declared.pick.Seen.{Seen}
use Rattle.nvme_admin.specs.QueueTable.{QueueTable}
use Rattle.nvme_log.specs.declared.event.Event.TheVariants.{Abort}
use Rattle.nvme_log.specs.declared.event.Event.TheVariants as event
use Rattle.nvme_ctrl_content.specs.Content.{Candidate, SqContent, Content, put_sq}
use Rattle.nvme_log.specs.Rules.{Past}
use Rattle.nvme_log.specs.Queues.{cq_region_of, qid_of_region}
use Rattle.nvme_log.specs.Places.{entry_at, is_aborted, one_if}
use Rattle.nvme_log.specs.declared.place.Place.{Place}
use Rattle.nvme_log.specs.Aborts.{took_abort, is_aborted_with_queue}
use Rattle.nvme_ctrl_content.specs.Standing.{HoldsSq, HoldsReady, IsReady, times_in, hand_of}
use Rattle.nvme_ctrl_content.specs.Steps.{applied_to, requested, without_oldest}
use Rattle.nvme_ctrl_content.proofs.AfterSteps.{place_of, told_abort, with_requested, aborting_in}
use Rattle.nvme_ctrl_log.proofs.AbortRequests.{not_with_queue, with_queue-request}
use Rattle.nvme_ctrl_content.proofs.Windows.{times_in_window}
use Rattle.nvme_ctrl_content.proofs.Readying.{Moves, served-moves, at_put, put-grows, waiting-unaborted}
use Rattle.nvme_ctrl_content.proofs.ReadyChange.{becomes-ready}
use Rattle.nvme_ctrl_content.proofs.ReadyAdmin.{at_oldest, oldest-moves}

-- a candidate that is taken out of a region is none of its candidates any more
taken-moves : (sq : ℕ → SqContent) (sqid region i r : ℕ) (s : SqContent) (found : Candidate) → s.got ≡ (sq region).got
    → times_in_window i (sq region).window ≡ one_if (found.index == i) + times_in_window i s.window
    → Moves i (times_in r i (requested sqid region found ∷ [])) (sq r) (put_sq sq region s r)
taken-moves sq sqid region i r s found got left =
    at_put (λ (x : ℕ) (u v : SqContent). Moves i (times_in x i (requested sqid region found ∷ [])) u v) sq region s
    (rw (got, eq-eqb region region refl) (omega (arith, left)))
    (λ x d. rw (ne_eqb region x (λ e. d (sym e))) (omega arith)) r

module _ (past : Past) (k : Content) (candidate : Candidate) (rest : List Candidate) (seen : List Seen) (pick : Pick) (picked board : BoardView) (table : QueueTable)
    (sqid region c cid : ℕ) (found : Candidate) where
  -- the log with the abort
  abbrev later : Past
  later = Abort region found.index ∷ event.Pick seen pick ∷ past

  -- what is kept after the pick, the region without the candidate, and what is kept where its completion is ready
  abbrev now : Content
  now = applied_to k picked table

  abbrev less : SqContent
  less = record (now.sq region) { window = without_oldest cid (now.sq region).window; unposted = (now.sq region).unposted + 1 }

  abbrev gone : Content
  gone = with_requested now sqid region c cid board found

  -- the abort leaves which places were aborted with their queue
  same : took_abort (event.Pick seen pick ∷ past) ≡ true → is_aborted past region found.index ≡ false → (r i : ℕ)
      → is_aborted_with_queue later r i ≡ is_aborted_with_queue past r i
  same took fresh r i = with_queue-request (event.Pick seen pick ∷ past) region found.index took fresh r i

  -- the completion of the aborted candidate is ready, and the place of the Abort command is in hand
  request-ready : HoldsReady past k (hand_of k) → ((r : ℕ) → HoldsSq past r (k.sq r)) → (k.sq 0).window ≡ candidate ∷ rest
      → c < k.ncq → cq_region_of past region ≡ Some c → qid_of_region past region ≡ Some sqid → took_abort (event.Pick seen pick ∷ past) ≡ true
      → entry_at past region found.index ≡ Some found.entry → is_aborted past region found.index ≡ false
      → ((i : ℕ) → times_in_window i (now.sq region).window ≡ one_if (found.index == i) + times_in_window i less.window)
      → ((r : ℕ) → HoldsSq later r (gone.sq r)) → HoldsReady later gone (place_of 0 candidate ∷ hand_of k)
  request-ready ready before oldest small attached named took entry fresh left regions =
      becomes-ready past later k gone (hand_of k) (place_of 0 candidate ∷ hand_of k) c (requested sqid region found ∷ []) ready (record {
        small = small;
        ncq = refl;
        grows = put-grows k.cq c (requested sqid region found ∷ []);
        posts = λ r i. refl;
        served = λ r i.
            let first = oldest-moves k candidate rest oldest r i in
            let second = taken-moves now.sq sqid region i r less found refl (left i) in
            omega (
              arith,
              served-moves past later r i (one_if (0 == r && candidate.index == i) + times_in r i (requested sqid region found ∷ [])) (k.sq r) (gone.sq r) (before r) (regions r) (omega arith),
              sum_by-cons (λ (p : Place). one_if (p.region == r && p.index == i)) (place_of 0 candidate) (hand_of k),
            );
        stay = λ x t served h. record { region = h.region; queue = h.queue; entry = h.entry; is_there = h.is_there; cid = h.cid; with_queue = h.with_queue ∙ sym (same took fresh t.place.region t.place.index); deleting = h.deleting };
        new = All-cons (IsReady later gone.deletion c) (requested sqid region found) [] (record {
          region = attached;
          queue = named;
          entry = found.entry;
          is_there = entry;
          cid = refl;
          with_queue = sym (same took fresh region found.index ∙ not_with_queue past region found.index fresh);
          deleting = λ e. cc;
        }) (All-nil (IsReady later gone.deletion c));
        taken = omega arith;
        admin_qid = ready.admin_qid;
        admin_region = ready.admin_region;
      })

  -- then its answer is ready, too
  pub aborts-ready : HoldsReady past k (hand_of k) → ((r : ℕ) → HoldsSq past r (k.sq r)) → (k.sq 0).window ≡ candidate ∷ rest
      → c < k.ncq → cq_region_of past region ≡ Some c → qid_of_region past region ≡ Some sqid → took_abort (event.Pick seen pick ∷ past) ≡ true
      → entry_at past region found.index ≡ Some found.entry → is_aborted past region found.index ≡ false
      → ((i : ℕ) → times_in_window i (now.sq region).window ≡ one_if (found.index == i) + times_in_window i less.window)
      → ((r : ℕ) → HoldsSq later r (gone.sq r))
      → HoldsReady later (aborting_in now candidate sqid region c cid board (Some found)) (hand_of (aborting_in now candidate sqid region c cid board (Some found)))
  aborts-ready ready before oldest small attached named took entry fresh left regions =
      let middle = request-ready ready before oldest small attached named took entry fresh left regions in
      becomes-ready later later gone (aborting_in now candidate sqid region c cid board (Some found)) (place_of 0 candidate ∷ hand_of k) (hand_of k) 0 (told_abort candidate 0 ∷ []) middle (record {
        small = omega (arith, small);
        ncq = refl;
        grows = put-grows gone.cq 0 (told_abort candidate 0 ∷ []);
        posts = λ r i. refl;
        served = λ r i. omega (arith, sum_by-cons (λ (p : Place). one_if (p.region == r && p.index == i)) (place_of 0 candidate) (hand_of k));
        stay = λ x t served h. h;
        new = All-cons (IsReady later gone.deletion 0) (told_abort candidate 0) [] (record {
          region = ready.admin_region;
          queue = ready.admin_qid;
          entry = candidate.entry;
          is_there = at_oldest (λ (x : Candidate). entry_at past 0 x.index ≡ Some x.entry) (k.sq 0).window candidate rest oldest (before 0).entries;
          cid = refl;
          with_queue = sym (same took fresh 0 candidate.index ∙ not_with_queue past 0 candidate.index
              (at_oldest (λ (x : Candidate). is_aborted past 0 x.index ≡ false) (k.sq 0).window candidate rest oldest (waiting-unaborted past 0 (k.sq 0) (before 0))));
          deleting = λ e. cc;
        }) (All-nil (IsReady later gone.deletion 0));
        taken = omega arith;
        admin_qid = ready.admin_qid;
        admin_region = ready.admin_region;
      })
