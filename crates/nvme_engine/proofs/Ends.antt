-- The pending deletion, and its end.
use Rattle.std.proofs.Common.{◌≡◌, ℕ, ◌==◌, ◌&&◌, ◌||◌, not, Bool, true, false, if◌then◌else◌, List, [], ◌∷◌, length, map, filter, Option, Some, None, refl, sym, ap, ◌∙◌, subst, arith}
use Rattle.std.specs.Prelude.{option_map}
use Rattle.std.specs.List.{list_all}
use Rattle.std.proofs.lemmas.Bool.{ne_eqb, eqb-false}
use Rattle.std.proofs.lemmas.Option.{same_Some}
use Rattle.nvme_entry.specs.Status.{success}
use Rattle.nvme_log.specs.declared.event.Event.TheVariants as event
use Rattle.nvme_log.specs.Rules.{FrontRules, Past}
use Rattle.nvme_log.specs.Queues.{Deletion, pending, is_deleted_region, is_open_region, is_closed_region, qid_of_region}
use Rattle.nvme_log.specs.Places.{fate_of, is_waiting, places, waiting}
use Rattle.nvme_log.specs.Completions.{is_posted, unposted_of}
use Rattle.nvme_log.specs.Answers as log
use Rattle.nvme_ctrl_log.specs.Notes.{Notes, Logged, Answered, logged}
use Rattle.nvme_ctrl_log.specs.Tags.{answer_of}
use Rattle.nvme_ctrl_log.specs.Deletions.{deleting}
use Rattle.nvme_ctrl.specs.Standing as ctrl
use Rattle.nvme_ctrl_content.specs.Content.{Candidate, PendingDelete}
use Rattle.nvme_slots.specs.declared.slot.Slot.{Slot}
use Rattle.nvme_ctrl.specs.declared.state.Controller.{Controller}
use Rattle.nvme_engine.proofs.Places.{places_closed}
use Rattle.nvme_engine.specs.Standing.{StandsAt, AnswersByOutcome, ServesItsQueues}
use Rattle.nvme_engine.specs.Calls.{HasFinished}
use Rattle.nvme_engine.specs.declared.engine.Engine.{Engine}
use Rattle.nvme_engine.proofs.OneDeletion.{deleting_is_pending}
use Rattle.nvme_engine.proofs.Calls.{Leaves, same_pool, same_few}

-- ---- a deletion in the log of a controller
-- its queue has no command that waits, and isn't closed
pub record IsUnfinished (past : Past) (r : ℕ) : Type 0 where
  pub none_waits : waiting past r ≡ []
  pub not_closed : is_closed_region past r ≡ false

pub unfinished : (rules : FrontRules) (late : Bool) (notes : Notes) (c : Controller) (slots : List Slot) → ctrl.Stands rules late notes c slots
    → (r i : ℕ) → deleting (logged notes) r ≡ Some i → IsUnfinished (logged notes) r
unfinished rules late notes c slots s r i is = by (s.content.deletion r) refl where
  by : (o : Option PendingDelete) → s.content.deletion r ≡ o → IsUnfinished (logged notes) r
  by None none = absurd (
      let no : deleting (logged notes) r ≡ None = s.holds.deletion.place_is r ∙ ap (option_map (λ (d : PendingDelete). d.place.index)) none in
      cc (no, is))
  by (Some d) some =
      let p = s.holds.deletion.stands r d some in
      let empty : (s.content.sq r).window ≡ [] = subst (λ (x : ℕ). (s.content.sq x).window ≡ []) p.at p.none_waits in
      record {
        none_waits = (s.holds.regions r).waiting_is ∙ ap (map (λ (x : Candidate). x.index)) empty;
        not_closed = subst (λ (x : ℕ). is_closed_region (logged notes) x ≡ false) p.at p.not_closed;
      }

-- ---- where none waits and none that doesn't wait lacks a post, all are posted
posted-cons : (waits posted : Bool) (i : ℕ) (unposted candidates : List ℕ) (others : Bool)
    → length (if not waits && not posted then i ∷ unposted else unposted) ≡ 0 → (if waits then i ∷ candidates else candidates) ≡ []
    → (length unposted ≡ 0 → candidates ≡ [] → others ≡ true) → (posted && others) ≡ true
posted-cons true posted i unposted candidates others n w h = cc w
posted-cons false true i unposted candidates others n w h = h n w
posted-cons false false i unposted candidates others n w h = absurd (omega (arith, n))

pub all_are_posted : (waits posted : ℕ → Bool) (is : List ℕ) → length (filter (λ (i : ℕ). not (waits i) && not (posted i)) is) ≡ 0 → filter waits is ≡ []
    → list_all posted is ≡ true
all_are_posted waits posted [] n w = refl
all_are_posted waits posted (i ∷ is) n w =
    posted-cons (waits i) (posted i) i (filter (λ (x : ℕ). not (waits x) && not (posted x)) is) (filter waits is) (list_all posted is) n w
    (λ m v. all_are_posted waits posted is m v)

-- ---- what a finished deletion leaves
-- the queues of the other regions are served as before
still_served : (past : Past) → ServesItsQueues past → (d : Deletion) → pending past ≡ Some d → ServesItsQueues (event.ClosedSq d.qid d.region ∷ past)
still_served past h d is r q named still = by (d.region == r) refl (is_open_region past r) refl where
  by : (b : Bool) → (d.region == r) ≡ b → (o : Bool) → is_open_region past r ≡ o → (is_open_region past r || false) ≡ true
  by true here o e = (
      let no : true ≡ false = sym (ap (λ (x : Bool). x || is_closed_region past r) here) ∙ still in
      cc no)
  by false other true e = ap (λ (x : Bool). x || false) e
  by false other false e = (
      let unclosed : is_closed_region past r ≡ false = sym (ap (λ (x : Bool). x || is_closed_region past r) other) ∙ still in
      let no : false ≡ true = sym other ∙ sym (λ j. e j || is_deleted_region (is j) r) ∙ h r q named unclosed in
      cc no)

-- the answer of an admin command leaves those of I/O commands
admin_answered : (rules : FrontRules) (notes : Notes) (qid region index : ℕ) (a : log.Answer) → AnswersByOutcome rules notes
    → AnswersByOutcome rules (Answered 0 index a ∷ Logged (event.ClosedSq qid region) ∷ notes)
admin_answered rules notes qid region index a were r i entry answer io there given =
    were r i entry answer io there
    (sym (ap (λ (b : Bool). if b && index == i then Some a else answer_of notes r i) (ne_eqb 0 r (λ e. eqb-false r 0 io (sym e)))) ∙ given)

module _ (rules : FrontRules) (late : Bool) (notes : Notes) (e : Engine) (s : StandsAt rules late notes e) (d : Deletion) (is : pending (logged notes) ≡ Some d)
    (posted : unposted_of (logged notes) d.region ≡ 0) (f : Engine) (left : Leaves e f) where
  abbrev past : Past
  past = logged notes

  abbrev done : log.Answer
  done = record { status = success; dw0 = 0 }

  all_posted : (i : ℕ) → deleting past d.region ≡ Some i → list_all (λ (j : ℕ). is_posted past d.region j) (places past d.region) ≡ true
  all_posted i deletes =
      all_are_posted (λ (j : ℕ). is_waiting (fate_of past d.region j)) (λ (j : ℕ). is_posted past d.region j) (places past d.region) posted
      (unfinished s.their s.their_late notes e.controller e.slots.items s.stands d.region i deletes).none_waits

  stands_finished : (index : ℕ) → deleting past d.region ≡ Some index
      → ctrl.Stands s.their s.their_late (Answered 0 index done ∷ Logged (event.ClosedSq d.qid d.region) ∷ notes) f.controller f.slots.items
      → StandsAt rules late (Answered 0 index done ∷ Logged (event.ClosedSq d.qid d.region) ∷ notes) f
  stands_finished index deletes t = record {
    their = s.their;
    their_late = s.their_late;
    alike = s.alike;
    in_time = s.in_time;
    stands = t;
    plain = record { none_passed = s.plain.none_passed; none_arranged = s.plain.none_arranged; deletes = ((is, all_posted index deletes), s.plain.deletes); alone = (tt, s.plain.alone) };
    sq_rings = s.sq_rings;
    cq_rings = s.cq_rings;
    served = still_served past s.served d is;
    named = λ x none. absurd (cc none);
    few = same_few e f past left s.few;
    begun = λ none. absurd (cc none);
    rung = s.rung;
    read = s.read;
    cookies = s.cookies;
    answers = admin_answered rules notes d.qid d.region index done s.answers;
    untaken = s.untaken;
    lawful = s.lawful;
    places = places_closed s.their past d.qid d.region s.places;
    pool = same_pool e f left s.pool;
    depths = left.depths ∙ s.depths;
    own = left.own ∙ s.own;
  }

  -- what was finished is the pending deletion
  pub has_finished : (qid region index : ℕ) → deleting past region ≡ Some index → qid_of_region past region ≡ Some qid
      → ctrl.Stands s.their s.their_late (Answered 0 index done ∷ Logged (event.ClosedSq qid region) ∷ notes) f.controller f.slots.items
      → HasFinished rules late notes d f
  has_finished qid region index deletes named t =
      let p = deleting_is_pending past s.plain.deletes s.plain.alone region index deletes in
      let same : region ≡ d.region = sym p.region ∙ ap (λ (x : Deletion). x.region) (same_Some p.deletion d (sym p.is_pending ∙ is)) in
      let queue : qid ≡ d.qid = same_Some qid d.qid (sym named ∙ ap (qid_of_region past) same ∙ s.named d is) in
      record {
        index = index;
        stands = stands_finished index (subst (λ (r : ℕ). deleting past r ≡ Some index) same deletes)
            (subst (λ (r : ℕ). ctrl.Stands s.their s.their_late (Answered 0 index done ∷ Logged (event.ClosedSq d.qid r) ∷ notes) f.controller f.slots.items) same
            (subst (λ (q : ℕ). ctrl.Stands s.their s.their_late (Answered 0 index done ∷ Logged (event.ClosedSq q region) ∷ notes) f.controller f.slots.items) queue t));
      }
