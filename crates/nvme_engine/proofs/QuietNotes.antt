-- Notes that neither fetch nor post nor hand over, and what they leave of what an engine says of its notes.
use Rattle.std.proofs.Common.{◌≡◌, ℕ, ◌<◌, ◌==◌, ◌&&◌, Bool, true, false, if◌then◌else◌, List, [], ◌∷◌, ◌++◌, length, Option, Some, None, refl, sym, ap, ◌∙◌, subst, append-nil}
use Rattle.std.specs.Prelude.{slice_get}
use Rattle.std.specs.List.{list_any}
use Rattle.std.proofs.lemmas.Bool.{eq-eqb, ne_eqb, true≢false}
use Rattle.nvme_entry.specs.declared.submission.Sqe.{Sqe}
use Rattle.nvme_arbiter.specs.Lawful.{IsLawfulRun}
use Rattle.nvme_arbiter.specs.declared.pick.Pick.{Pick}
use Rattle.nvme_arbiter.specs.declared.pick.Seen.{Seen}
use Rattle.nvme_log.specs.declared.event.Event.{Event}
use Rattle.nvme_log.specs.declared.event.Event.TheVariants as event
use Rattle.nvme_log.specs.Rules.{FrontRules, Each}
use Rattle.nvme_log.specs.Queues.{Queue, open_sq}
use Rattle.nvme_log.specs.Places.{fetched}
use Rattle.nvme_log.specs.Dispatches.{dispatched_by}
use Rattle.nvme_log.specs.Completions.{posted_to}
use Rattle.nvme_log.specs.Histories.{arbitration_of}
use Rattle.nvme_log.specs.Answers.{Answer}
use Rattle.nvme_log.specs.Effects.{is_effect}
use Rattle.nvme_log.specs.Account.{Deletes}
use Rattle.nvme_log.specs.declared.place.Place.{Place}
use Rattle.nvme_ctrl_log.specs.Notes.{Notes, Logged, logged}
use Rattle.nvme_ctrl_log.specs.Doorbells.{submitted, consumed}
use Rattle.nvme_ctrl_log.specs.Tags.{handed, taken, is_passed, answer_of, cookie_of}
use Rattle.nvme_ctrl_log.specs.Observation.{is_arrangement}
use Rattle.nvme_ctrl_log.specs.Steps.{with_logged, with_answer}
use Rattle.nvme_ctrl.specs.Standing as ctrl
use Rattle.nvme_ctrl_log.proofs.EffectEvents.{AreEffects}
use Rattle.nvme_engine.specs.Standing.{OpensBelow, StandsBut, HasPlaces, IsPlain, BeginsAlone, ServesItsQueues, DeletesItsQueue}
use Rattle.nvme_engine.specs.declared.engine.Engine.{Engine}
use Rattle.nvme_engine.proofs.Calls.{Leaves, same_pool}

-- later notes with the same fetches, posts and doorbells, with the same commands handed over, taken and answered by the device, and with nothing
-- passed on or arranged that wasn't before
pub record IsQuiet (rules : FrontRules) (notes later : Notes) : Type 0 where
  pub fetches : (r : ℕ) → fetched (logged later) r ≡ fetched (logged notes) r
  pub posts : (c : ℕ) → posted_to (logged later) c ≡ posted_to (logged notes) c
  pub tails : (r : ℕ) → submitted rules later r ≡ submitted rules notes r
  pub heads : (c : ℕ) → consumed rules later c ≡ consumed rules notes c
  pub kept : (r i : ℕ) → cookie_of later r i ≡ cookie_of notes r i
  pub answered : (r i : ℕ) → (r == 0) ≡ false → answer_of later r i ≡ answer_of notes r i
  pub passed : (i : ℕ) → is_passed later i ≡ is_passed notes i
  pub arranged : list_any is_arrangement later ≡ list_any is_arrangement notes
  pub same_handed : handed later ≡ handed notes
  pub same_taken : taken later ≡ taken notes
  pub longer : (logged later ≡ [] → logged notes ≡ []) × ((logged notes ≡ [] → notes ≡ []) → logged later ≡ [] → later ≡ [])

-- ---- which notes are quiet
pub quiet_none : (rules : FrontRules) (notes : Notes) → IsQuiet rules notes notes
quiet_none rules notes = record {
  fetches = λ r. refl;
  posts = λ c. refl;
  tails = λ r. refl;
  heads = λ c. refl;
  kept = λ r i. refl;
  answered = λ r i io. refl;
  passed = λ i. refl;
  arranged = refl;
  same_handed = refl;
  same_taken = refl;
  longer = (λ none. none, λ begun none. begun none);
}

pub quiet_more : (rules : FrontRules) (notes mid later : Notes) → IsQuiet rules notes mid → IsQuiet rules mid later → IsQuiet rules notes later
quiet_more rules notes mid later a b = record {
  fetches = λ r. b.fetches r ∙ a.fetches r;
  posts = λ c. b.posts c ∙ a.posts c;
  tails = λ r. b.tails r ∙ a.tails r;
  heads = λ c. b.heads c ∙ a.heads c;
  kept = λ r i. b.kept r i ∙ a.kept r i;
  answered = λ r i io. b.answered r i io ∙ a.answered r i io;
  passed = λ i. b.passed i ∙ a.passed i;
  arranged = b.arranged ∙ a.arranged;
  same_handed = b.same_handed ∙ a.same_handed;
  same_taken = b.same_taken ∙ a.same_taken;
  longer = (λ none. a.longer.0 (b.longer.0 none), λ begun none. b.longer.1 (a.longer.1 begun) none);
}

-- what an admin command makes
quiet_effect : (rules : FrontRules) (notes : Notes) (e : Event) → is_effect e ≡ true → IsQuiet rules notes (Logged e ∷ notes)
quiet_effect rules notes (event.Fetch r i entry) is = absurd (cc is)
quiet_effect rules notes (event.Pick seen pick) is = absurd (cc is)
quiet_effect rules notes (event.Post c r i cqe) is = absurd (cc is)
quiet_effect rules notes (event.ClosedSq qid r) is = absurd (cc is)
quiet_effect rules notes e is = record {
  fetches = λ r. refl;
  posts = λ c. refl;
  tails = λ r. refl;
  heads = λ c. refl;
  kept = λ r i. refl;
  answered = λ r i io. refl;
  passed = λ i. refl;
  arranged = refl;
  same_handed = refl;
  same_taken = refl;
  longer = (λ none. absurd (cc none), λ begun none. absurd (cc none));
}

pub quiet_effects : (rules : FrontRules) (es : List Event) (notes : Notes) → AreEffects es → IsQuiet rules notes (with_logged es notes)
quiet_effects rules [] notes are = quiet_none rules notes
quiet_effects rules (e ∷ es) notes are =
    quiet_more rules notes (Logged e ∷ notes) (with_logged es (Logged e ∷ notes)) (quiet_effect rules notes e are.0) (quiet_effects rules es (Logged e ∷ notes) are.1)

-- a pick of the admin queue hands over nothing
none_handed : (notes : Notes) (pick : Pick) → pick.qid ≡ 0 → (o : Option Queue) → dispatched_by (logged notes) pick o ≡ []
none_handed notes pick admin None = refl
none_handed notes pick admin (Some queue) = rw (eq-eqb pick.qid 0 admin) refl

pub quiet_pick : (rules : FrontRules) (notes : Notes) (seen : List Seen) (pick : Pick) → pick.qid ≡ 0 → IsQuiet rules notes (Logged (event.Pick seen pick) ∷ notes)
quiet_pick rules notes seen pick admin = record {
  fetches = λ r. refl;
  posts = λ c. refl;
  tails = λ r. refl;
  heads = λ c. refl;
  kept = λ r i. refl;
  answered = λ r i io. refl;
  passed = λ i. refl;
  arranged = refl;
  same_handed = ap (λ (ps : List Place). handed notes ++ ps) (none_handed notes pick admin (open_sq (logged notes) pick.qid)) ∙ append-nil (handed notes);
  same_taken = refl;
  longer = (λ none. absurd (cc none), λ begun none. absurd (cc none));
}

-- an answer of an admin command. It isn't the first note
pub quiet_answer : (rules : FrontRules) (notes : Notes) (i : ℕ) (o : Option Answer) → (logged notes ≡ [] → ⊥) → IsQuiet rules notes (with_answer i o notes)
quiet_answer rules notes i None some = quiet_none rules notes
quiet_answer rules notes i (Some answer) some = record {
  fetches = λ r. refl;
  posts = λ c. refl;
  tails = λ r. refl;
  heads = λ c. refl;
  kept = λ r j. refl;
  answered = λ r j io. ap (λ (b : Bool). if b && i == j then Some answer else answer_of notes r j) (other r io);
  passed = λ j. refl;
  arranged = refl;
  same_handed = refl;
  same_taken = refl;
  longer = (λ none. none, λ begun none. absurd (some none));
} where
  other : (r : ℕ) → (r == 0) ≡ false → (0 == r) ≡ false
  other r io = ne_eqb 0 r (λ same. true≢false (sym (eq-eqb r 0 (sym same)) ∙ io))

-- ---- what they leave
module _ (rules : FrontRules) (late : Bool) (notes later : Notes) (rest : List Place) (e now : Engine) (s : StandsBut rules late notes rest e)
    (quiet : IsQuiet s.their notes later) where
  plain_quiet : Each Deletes (logged later) → Each BeginsAlone (logged later) → IsPlain later
  plain_quiet deletes alone = record {
    none_passed = λ i. quiet.passed i ∙ s.plain.none_passed i;
    none_arranged = quiet.arranged ∙ s.plain.none_arranged;
    deletes = deletes;
    alone = alone;
  }

  -- an engine whose controller stands at later notes that are quiet stands at them, with a bound on the queues that are open then
  pub stands_quiet : (n : ℕ) → OpensBelow (logged later) n → Each Deletes (logged later) → Each BeginsAlone (logged later) → ServesItsQueues (logged later) → DeletesItsQueue (logged later)
      → IsLawfulRun s.their.mechanism s.their.start.settings (arbitration_of (logged later)) → HasPlaces s.their (logged later) → ctrl.Stands s.their s.their_late later now.controller now.slots.items → Leaves e now → StandsBut rules late later rest (record now { queues = n })
  stands_quiet n few deletes alone served named lawful places stands left = record {
    their = s.their;
    their_late = s.their_late;
    alike = s.alike;
    in_time = s.in_time;
    stands = stands;
    plain = plain_quiet deletes alone;
    sq_rings = s.sq_rings;
    cq_rings = s.cq_rings;
    served = served;
    named = named;
    few = few;
    begun = quiet.longer.1 s.begun;
    rung = λ r. quiet.tails r ∙ s.rung r ∙ sym (ap length (quiet.fetches r));
    read = λ c. quiet.heads c ∙ s.read c ∙ sym (ap length (quiet.posts c));
    cookies = λ r i lt. quiet.kept r i ∙ s.cookies r i (subst (λ (xs : List Sqe). i < length xs) (quiet.fetches r) lt);
    answers = λ r i entry answer io there is. s.answers r i entry answer io
        (ap (λ (xs : List Sqe). slice_get xs i) (sym (quiet.fetches r)) ∙ there) (sym (quiet.answered r i io) ∙ is);
    untaken = quiet.same_handed ∙ s.untaken ∙ ap (λ (ps : List Place). ps ++ rest) (sym quiet.same_taken);
    lawful = lawful;
    places = places;
    pool = same_pool e now left s.pool;
    depths = left.depths ∙ s.depths;
    own = left.own ∙ s.own;
  }
