-- What is ready keeps the own status of its place, through a fetch, an I/O pick, an answer, a post and the end of a deletion.
use Rattle.std.proofs.Common.{◌≡◌, ℕ, ◌==◌, false, [], ◌∷◌, ◌++◌, None, refl, sym, ◌∙◌, get_or}
use Rattle.std.specs.Prelude.{All}
use Rattle.std.proofs.lemmas.List.Elements.{All-nil, All-cons, All-tail, All-weaker, All-same}
use Rattle.nvme_log.specs.declared.event.Event.TheVariants as event
use Rattle.nvme_ctrl_content.specs.Content.{Ready, PendingDelete, Content, put_deletion}
use Rattle.nvme_log.specs.Rules.{Past, FrontRules}
use Rattle.nvme_log.specs.declared.place.Place.{Place}
use Rattle.nvme_ctrl_content.specs.Standing.{HasOwnStatus, IsOwnDeletion, IsInHand, deleted_answer, hand_of}
use Rattle.nvme_ctrl_content.specs.Steps.{done}
use Rattle.nvme_ctrl_log.proofs.Handing.{handed_makes_none, handed_stays}
use Rattle.nvme_ctrl_content.proofs.ReadyHand.{All-taken}
use Rattle.nvme_ctrl_content.proofs.AfterSteps.{fetch_event, posted_cq, post_event, closed_event, deleted}
use Rattle.nvme_ctrl_content.proofs.StepKeeps.{KeepsFetch, KeepsIo, KeepsAnswer, KeepsPost, KeepsClose, Own}
use Rattle.nvme_ctrl_log.proofs.ServedPlaces.{entry_stays}
use Rattle.nvme_ctrl_content.proofs.DeletedQueues.{deletion_done}
use Rattle.nvme_ctrl_content.proofs.DeletingRegions.{Here, Elsewhere, is_put}
use Rattle.nvme_log.specs.Places.{fate_of, is_waiting}
use Rattle.nvme_ctrl_content.proofs.OwnStatus.{IsAnswerable, ready_is_answerable, answerable_is_done, own_status-stays, own_dw0-stays, HasOwnStatus-stays, all_with_readies, all_chosen}
use Rattle.nvme_ctrl_log.proofs.AbortsLeave.{Stays}

-- ---- what is answered stays so
-- the ready completions keep their status in a later log
pub statuses_stay : (rules : FrontRules) (past later : Past) (k : Content)
    → ((c : ℕ) → All (λ (t : Ready). Stays rules past later t.place.region t.place.index) (k.cq c).ready)
    → ((c : ℕ) → All (HasOwnStatus rules past) (k.cq c).ready) → (c : ℕ) → All (HasOwnStatus rules later) (k.cq c).ready
statuses_stay rules past later k stay own c j d lt = HasOwnStatus-stays rules past later (get_or (k.cq c).ready j d) (stay c j d lt) (own c j d lt)

-- a deletion that is pending is still answered with success
pub deletion_stays : (rules : FrontRules) (past later : Past) (d : PendingDelete) → Stays rules past later d.place.region d.place.index
    → IsOwnDeletion rules past d → IsOwnDeletion rules later d
deletion_stays rules past later d s h = record {
  entry = h.entry;
  is_there = s.there h.entry h.is_there;
  status = own_status-stays rules deleted_answer past later d.place.region d.place.index h.entry s ∙ h.status;
  dw0 = own_dw0-stays rules deleted_answer past later d.place.region d.place.index h.entry s ∙ h.dw0;
}

-- ---- steps
-- a fetch leaves it
pub own-fetch : KeepsFetch Own
own-fetch rules late past k q queue entry s can regions on_time =
    let a = s.own on_time in
    let r : ℕ = queue.region in
    let stays : (p : Place) → Stays rules past (fetch_event k queue entry ∷ past) p.region p.index = λ p. record {
      there = λ e h. entry_stays past r (k.sq r).fetched p.region p.index entry e h;
      aborted = refl;
      requested = refl;
      table = λ z. refl;
      told = λ z. refl;
    } in
    record {
      effects_whole = a.effects_whole;
      own_statuses = statuses_stay rules past (fetch_event k queue entry ∷ past) k (λ c j d lt. stays (get_or (k.cq c).ready j d).place) a.own_statuses;
      own_deletion = λ r d is. deletion_stays rules past (fetch_event k queue entry ∷ past) d (stays d.place) (a.own_deletion r d is);
    }

-- an I/O pick leaves it: it makes nothing ready
pub own-io : KeepsIo Own
own-io rules late past k queue seen pick board c s can saw io attached regions on_time =
    let a = s.own on_time in
    let later : Past = event.Pick seen pick ∷ past in
    let ready : (c : ℕ) → All (λ (t : Ready). is_waiting (fate_of past t.place.region t.place.index) ≡ false) (k.cq c).ready =
    λ c. All-weaker (λ (t : Ready). IsAnswerable past (hand_of k) t.place.region t.place.index) (λ (t : Ready). is_waiting (fate_of past t.place.region t.place.index) ≡ false)
    (λ t is. answerable_is_done past (hand_of k) t.place.region t.place.index is) (k.cq c).ready (ready_is_answerable past k (hand_of k) s.ready c) in
    record {
      effects_whole = handed_makes_none rules past seen pick io;
      own_statuses = statuses_stay rules past later k (λ c j d lt. handed_stays rules past seen pick io (get_or (k.cq c).ready j d).place.region (get_or (k.cq c).ready j d).place.index (ready c j d lt)) a.own_statuses;
      own_deletion = λ r d is. deletion_stays rules past later d (handed_stays rules past seen pick io d.place.region d.place.index (deletion_done rules late past k s r d is)) (a.own_deletion r d is);
    }

-- an answer is the own status of its place
pub own-answer : KeepsAnswer Own
own-answer rules late past k p before after sqid c cid answer entry s can there names regions on_time =
    let a = s.own on_time in
    let at : IsInHand past p = (All-taken (IsInHand past) before p after (All-same (IsInHand past) (before ++ p ∷ after) k.hand (sym can.in_hand) s.hand.each)).0 in
    record {
      effects_whole = a.effects_whole;
      own_statuses = all_with_readies (HasOwnStatus rules past) (record k { hand = before ++ after }) c (done sqid p cid answer ∷ []) a.own_statuses
          (All-cons (HasOwnStatus rules past) (done sqid p cid answer) [] (λ io. record {
            entry = entry;
            is_there = there;
            status = rw (at.not_aborted, io) refl;
            dw0 = rw (at.not_aborted, io) refl;
          }) (All-nil (HasOwnStatus rules past)));
      own_deletion = a.own_deletion;
    }

-- a post leaves what stays ready
pub own-post : KeepsPost Own
own-post rules late past k c t rest cqe s can regions on_time =
    let a = s.own on_time in
    let later : Past = post_event c t cqe ∷ past in
    let owns : All (HasOwnStatus rules past) (t ∷ rest) =
    All-same (HasOwnStatus rules past) (t ∷ rest) (k.cq c).ready (sym can.oldest) (a.own_statuses c) in
    record {
      effects_whole = a.effects_whole;
      own_statuses = λ x. all_chosen (HasOwnStatus rules later) (x == c) (posted_cq (k.cq c) rest cqe) (k.cq x)
          (All-weaker (HasOwnStatus rules past) (HasOwnStatus rules later) (λ y h. HasOwnStatus-stays rules past later y (record { there = λ e h. h; aborted = refl; requested = refl; table = λ z. refl; told = λ z. refl }) h) rest (All-tail (HasOwnStatus rules past) t rest owns))
          (statuses_stay rules past later k (λ c j d lt. record { there = λ e h. h; aborted = refl; requested = refl; table = λ z. refl; told = λ z. refl }) a.own_statuses x);
      own_deletion = λ r d is. deletion_stays rules past later d (record { there = λ e h. h; aborted = refl; requested = refl; table = λ z. refl; told = λ z. refl }) (a.own_deletion r d is);
    }

-- the command of a deletion is answered with success at its end
pub own-close : KeepsClose Own
own-close rules late past k d table s can regions on_time =
    let a = s.own on_time in
    let later : Past = closed_event d ∷ past in
    let own = a.own_deletion d.region d can.pending in
    record {
      effects_whole = a.effects_whole;
      own_statuses =
          all_with_readies (HasOwnStatus rules later) (record k { deletion = put_deletion k.deletion d.region None; table = table }) 0 (deleted d ∷ [])
          (statuses_stay rules past later k (λ c j x lt. record { there = λ e h. h; aborted = refl; requested = refl; table = λ z. refl; told = λ z. refl }) a.own_statuses)
          (All-cons (HasOwnStatus rules later) (deleted d) [] (λ carried. record { entry = own.entry; is_there = own.is_there; status = sym own.status; dw0 = sym own.dw0 }) (All-nil (HasOwnStatus rules later)));
      own_deletion = λ r x is. elim (is_put k.deletion d.region None r x is) [
        | Here e none ↦ cc none
        | Elsewhere differs there ↦ deletion_stays rules past later x (record { there = λ e h. h; aborted = refl; requested = refl; table = λ z. refl; told = λ z. refl }) (a.own_deletion r x there)
      ];
    }
