-- What notes leave of what a controller keeps: the pick of an admin command, what it makes, and its answer.
use Rattle.std.proofs.Common.{◌≡◌, ℕ, ◌<◌, ◌≤◌, ◌==◌, ◌&&◌, Bool, true, false, if◌then◌else◌, List, [], ◌∷◌, ◌++◌, ◌+◌, length, Option, Some, None, refl, sym, ap, ◌∙◌, subst, arith, inl, inr, eq-eqb, eqb-true, append-nil}
use Rattle.std.specs.Prelude.{slice_get, All}
use Rattle.std.proofs.lemmas.Bool.{or_right, or_parts, and_parts, false_from_ne_true}
use Rattle.std.proofs.lemmas.List.Elements.{All-weaker}
use Rattle.nvme_arbiter.specs.declared.pick.Pick.{Pick}
use Rattle.nvme_arbiter.specs.declared.pick.Seen.{Seen}
use Rattle.nvme_entry.specs.declared.submission.Sqe.{Sqe}
use Rattle.nvme_entry.specs.declared.completion.Cqe.{Cqe}
use Rattle.nvme_log.specs.declared.event.Event.{Event}
use Rattle.nvme_log.specs.declared.event.Event.TheVariants as event
use Rattle.nvme_log.specs.declared.place.Place.{Place}
use Rattle.nvme_log.specs.Rules.{FrontRules, Past}
use Rattle.nvme_log.specs.Queues.{Queue, open_sq}
use Rattle.nvme_log.specs.Places.{fetched, is_aborted}
use Rattle.nvme_log.specs.Completions.{posted_to, phase_after}
use Rattle.nvme_log.specs.Dispatches.{place_at, dispatched_by}
use Rattle.nvme_log.specs.Answers.{Answer}
use Rattle.nvme_log.specs.Effects.{is_effect}
use Rattle.nvme_ctrl_log.specs.Notes.{Notes, Logged, Answered, logged}
use Rattle.nvme_ctrl_log.specs.Doorbells.{submitted, consumed}
use Rattle.nvme_slots.specs.Rings.{HasCounts}
use Rattle.nvme_ctrl_log.specs.Tags.{holder, answer_of, cookie_of, flags_of, all_fetches, all_posts, is_passed, handed}
use Rattle.nvme_ctrl_log.specs.Steps.{with_logged}
use Rattle.nvme_slots.specs.declared.slot.Slot.{Slot}
use Rattle.nvme_ctrl.specs.declared.state.Controller.{Controller}
use Rattle.nvme_ctrl_content.specs.Content.{Ready, Content}
use Rattle.nvme_ctrl_content.specs.Standing.{answer_in}
use Rattle.nvme_ctrl_log.specs.Regions.{is_opened_cq}
use Rattle.nvme_ctrl.specs.kept.State.{sq_at, cq_at}
use Rattle.nvme_ctrl.specs.kept.Kept.{Item, ReadyItem, DeleteItem, Items, IsThrough, HasEntry, untaken}
use Rattle.nvme_ctrl.specs.inside.Loose.{Keeps}
use Rattle.nvme_ctrl_log.proofs.LaterEvents.{with_events}
use Rattle.nvme_ctrl.proofs.Cookies.{cookies_later}
use Rattle.nvme_ctrl.proofs.Passed.{passed_later}
use Rattle.nvme_log.proofs.Turns.{stays}
use Rattle.nvme_ctrl_log.proofs.EffectEvents.{AreEffects}
use Rattle.nvme_ctrl_log.proofs.OutTags.{still_not_out-logged, still_not_out-answered}

-- the log of notes with events more
pub logged-with : (es : List Event) (notes : Notes) → logged (with_logged es notes) ≡ with_events es (logged notes)
logged-with [] notes = refl
logged-with (e ∷ rest) notes = logged-with rest (Logged e ∷ notes)

-- answers stay
pub answer_of-logged : (es : List Event) (notes : Notes) (r i : ℕ) → answer_of (with_logged es notes) r i ≡ answer_of notes r i
answer_of-logged [] notes r i = refl
answer_of-logged (e ∷ rest) notes r i = answer_of-logged rest (Logged e ∷ notes) r i

-- and which admin commands were passed on
pub is_passed-logged : (es : List Event) (notes : Notes) (i : ℕ) → is_passed (with_logged es notes) i ≡ is_passed notes i
is_passed-logged [] notes i = refl
is_passed-logged (e ∷ rest) notes i = is_passed-logged rest (Logged e ∷ notes) i

-- and what the caller keeps
pub cookie_of-logged : (es : List Event) (notes : Notes) (r i : ℕ) → cookie_of (with_logged es notes) r i ≡ cookie_of notes r i
cookie_of-logged [] notes r i = refl
cookie_of-logged (e ∷ rest) notes r i = cookie_of-logged rest (Logged e ∷ notes) r i

-- what an event leaves that neither fetches nor dispatches nor posts
record IsQuiet (notes : Notes) (e : Event) : Type 0 where
  holders : (t : ℕ) → holder (Logged e ∷ notes) t ≡ holder notes t
  dispatches : handed (Logged e ∷ notes) ≡ handed notes
  fetches : (r : ℕ) → fetched (e ∷ logged notes) r ≡ fetched (logged notes) r
  posts : (c : ℕ) → posted_to (e ∷ logged notes) c ≡ posted_to (logged notes) c
  fetch_count : all_fetches (e ∷ logged notes) ≡ all_fetches (logged notes)
  post_count : all_posts (e ∷ logged notes) ≡ all_posts (logged notes)

-- so is an effect
effect_is_quiet : (notes : Notes) (e : Event) → is_effect e ≡ true → IsQuiet notes e
effect_is_quiet notes (event.Fetch region index entry) h = cc h
effect_is_quiet notes (event.Pick seen pick) h = cc h
effect_is_quiet notes (event.Post cq_region region index cqe) h = cc h
effect_is_quiet notes (event.ClosedSq qid region) h = cc h
effect_is_quiet notes e h = record { holders = λ t. refl; dispatches = refl; fetches = λ r. refl; posts = λ c. refl; fetch_count = refl; post_count = refl }

-- and a pick of the admin queue
pick_is_quiet : (notes : Notes) (seen : List Seen) (pick : Pick) → pick.qid ≡ 0 → IsQuiet notes (event.Pick seen pick)
pick_is_quiet notes seen pick first = record {
  holders = λ t. refl;
  dispatches = ap (λ (ps : List Place). handed notes ++ ps) (none (open_sq (logged notes) pick.qid)) ∙ append-nil (handed notes);
  fetches = λ r. refl;
  posts = λ c. refl;
  fetch_count = refl;
  post_count = refl;
} where
  none : (o : Option Queue) → dispatched_by (logged notes) pick o ≡ []
  none None = refl
  none (Some queue) = rw (eq-eqb pick.qid 0 first) refl

-- an aborted place stays aborted
aborted-event : (e : Event) (past : Past) (r i : ℕ) → is_aborted past r i ≡ true → is_aborted (e ∷ past) r i ≡ true
aborted-event (event.Abort region index) past r i h = or_right (region == r && index == i) (is_aborted past r i) h
aborted-event e past r i h = h

-- what is through stays so
through-event : (notes : Notes) (e : Event) (t : Ready) → IsThrough notes t → IsThrough (Logged e ∷ notes) t
through-event notes e t h = elim h [
  | inl aborts ↦ inl (aborted-event e (logged notes) t.place.region t.place.index aborts)
  | inr answers ↦ inr answers
]

-- a completion region on which no queue was opened yet
pub unopened_before : (e : Event) (past : Past) (x : ℕ) → is_opened_cq (e ∷ past) x ≡ false → is_opened_cq past x ≡ false
unopened_before (event.OpenCq qid region) past x none = (or_parts (region == x) (is_opened_cq past x) none).1
unopened_before e past x none = none

-- a quiet event leaves what is kept
keeps-quiet : (rules : FrontRules) (notes : Notes) (e : Event) (c : Controller) (slots : List Slot) (k : Content) (g : Items) → IsQuiet notes e
    → Keeps rules notes c slots k g → Keeps rules (Logged e ∷ notes) c slots k g
keeps-quiet rules notes e c slots k g quiet h = record {
  numbers = h.numbers;
  has = h.has;
  doorbells = (let d = h.doorbells in record {
    sqs = record {
      each = λ q r life. subst (λ (xs : List Sqe). HasCounts (sq_at c.sqs q).ring (length xs) (submitted rules notes r)) (sym (quiet.fetches r)) (d.sqs.each q r life);
      no_tails = d.sqs.no_tails;
    };
    cqs = record {
      each = λ q x life. subst (λ (xs : List Cqe). HasCounts (cq_at c.cqs q).ring (consumed rules notes x) (length xs)) (sym (quiet.posts x)) (d.cqs.each q x life);
      phases = λ q x life. d.cqs.phases q x life ∙ ap (λ (xs : List Cqe). phase_after (length xs) (cq_at c.cqs q).ring.slots) (sym (quiet.posts x));
      no_heads = λ x none. d.cqs.no_heads x (unopened_before e (logged notes) x none);
      no_posts = λ x none. quiet.posts x ∙ d.cqs.no_posts x (unopened_before e (logged notes) x none);
    };
  });
  tags = (let m = h.tags in record {
    untaken_are = quiet.dispatches ∙ m.untaken_are;
    held = record {
      outs = All-weaker (λ (it : Item). holder notes it.tag ≡ Some it.place) (λ (it : Item). holder (Logged e ∷ notes) it.tag ≡ Some it.place) (λ it is. quiet.holders it.tag ∙ is) g.outs m.held.outs;
      readies = λ x. All-weaker (λ (y : ReadyItem). y.was_out ≡ true → holder notes y.tag ≡ Some y.ready.place) (λ (y : ReadyItem). y.was_out ≡ true → holder (Logged e ∷ notes) y.tag ≡ Some y.ready.place)
          (λ y is was. quiet.holders y.tag ∙ is was) (g.readies x) (m.held.readies x);
      none = λ t a b. quiet.holders t ∙ m.held.none t a b;
      answered = λ t is. still_not_out-logged e notes t (m.held.answered t is);
    };
    through = λ x. All-weaker (λ (y : ReadyItem). IsThrough notes y.ready) (λ (y : ReadyItem). IsThrough (Logged e ∷ notes) y.ready) (λ y is. through-event notes e y.ready is) (g.readies x) (m.through x);
    unanswered = record {
      windows = m.unanswered.windows;
      outs = m.unanswered.outs;
      deletes = m.unanswered.deletes;
      none = λ r i past. m.unanswered.none r i (subst (λ (xs : List Sqe). length xs ≤ i) (quiet.fetches r) past);
    };
    hand_entries = All-weaker (HasEntry (logged notes)) (HasEntry (e ∷ logged notes)) (λ it is. ap (λ (xs : List Sqe). slice_get xs it.place.index) (quiet.fetches it.place.region) ∙ is)
        (g.outs ++ untaken c k g) m.hand_entries;
    free_count = ap (λ (n : ℕ). c.free.len + n) quiet.fetch_count ∙ m.free_count ∙ ap (λ (n : ℕ). length slots + n) (sym quiet.post_count);
    cookies = cookies_later notes (Logged e ∷ notes) slots g (λ r i. refl) quiet.fetches m.cookies;
    passed = passed_later notes (Logged e ∷ notes) g (λ i. refl) quiet.dispatches (λ i waits. stays e (logged notes) 0 i waits) m.passed;
    flagged = m.flagged;
  });
  apart = h.apart;
}

-- so do the effects of an admin command
keeps-effects : (rules : FrontRules) (es : List Event) (notes : Notes) (c : Controller) (slots : List Slot) (k : Content) (g : Items) → AreEffects es
    → Keeps rules notes c slots k g → Keeps rules (with_logged es notes) c slots k g
keeps-effects rules [] notes c slots k g are h = h
keeps-effects rules (e ∷ rest) notes c slots k g are h =
    keeps-effects rules rest (Logged e ∷ notes) c slots k g are.1 (keeps-quiet rules notes e c slots k g (effect_is_quiet notes e are.0) h)

-- after its pick
pub keeps-picked : (rules : FrontRules) (es : List Event) (notes : Notes) (seen : List Seen) (pick : Pick) (c : Controller) (slots : List Slot) (k : Content) (g : Items)
    → AreEffects es → pick.qid ≡ 0 → Keeps rules notes c slots k g → Keeps rules (with_logged es (Logged (event.Pick seen pick) ∷ notes)) c slots k g
keeps-picked rules es notes seen pick c slots k g are first h =
    keeps-effects rules es (Logged (event.Pick seen pick) ∷ notes) c slots k g are
    (keeps-quiet rules notes (event.Pick seen pick) c slots k g (pick_is_quiet notes seen pick first) h)

-- and the end of a deletion
pub keeps-closed : (rules : FrontRules) (notes : Notes) (qid region : ℕ) (c : Controller) (slots : List Slot) (k : Content) (g : Items)
    → Keeps rules notes c slots k g → Keeps rules (Logged (event.ClosedSq qid region) ∷ notes) c slots k g
keeps-closed rules notes qid region c slots k g h =
    keeps-quiet rules notes (event.ClosedSq qid region) c slots k g
    (record { holders = λ t. refl; dispatches = refl; fetches = λ r. refl; posts = λ c. refl; fetch_count = refl; post_count = refl }) h

-- ---- an answer
-- a place isn't this one of the admin queue
abbrev pub IsOther : ℕ → Place → Type 0
IsOther i p = (0 == p.region && i == p.index) ≡ false

-- the answer of another command is left
other_answer : (notes : Notes) (i : ℕ) (answer : Answer) (p : Place) → IsOther i p → answer_of (Answered 0 i answer ∷ notes) p.region p.index ≡ answer_of notes p.region p.index
other_answer notes i answer p other = ap (λ (b : Bool). if b then Some answer else answer_of notes p.region p.index) other

-- an answer that is there is of another
answer_is_other : (notes : Notes) (i : ℕ) (p : Place) (a : Answer) → answer_of notes 0 i ≡ None → answer_of notes p.region p.index ≡ Some a → IsOther i p
answer_is_other notes i p a none some = false_from_ne_true (0 == p.region && i == p.index) (λ same.
    let parts = and_parts (0 == p.region) (i == p.index) same in
    let region : 0 ≡ p.region = eqb-true 0 p.region parts.0 in
    let index : i ≡ p.index = eqb-true i p.index parts.1 in
    let moved : answer_of notes p.region p.index ≡ None = subst (λ (r : ℕ). answer_of notes r p.index ≡ None) region (subst (λ (j : ℕ). answer_of notes 0 j ≡ None) index none) in
    cc (moved, some))

-- the answer of an admin command leaves what is kept
pub keeps-answered : (rules : FrontRules) (notes : Notes) (i : ℕ) (answer : Answer) (c : Controller) (slots : List Slot) (k : Content) (g : Items)
    → answer_of notes 0 i ≡ None → i < length (fetched (logged notes) 0)
    → ((r : ℕ) → All (λ (it : Item). IsOther i it.place) (g.windows r)) → All (λ (it : Item). IsOther i it.place) g.outs
    → ((r : ℕ) (it : DeleteItem) → g.deletes r ≡ Some it → IsOther i (place_at 0 it.index))
    → Keeps rules notes c slots k g → Keeps rules (Answered 0 i answer ∷ notes) c slots k g
keeps-answered rules notes i answer c slots k g none there windows outs deletes h = record {
  numbers = h.numbers;
  has = h.has;
  doorbells = (let d = h.doorbells in record { sqs = d.sqs; cqs = d.cqs });
  tags = (let m = h.tags in record {
    untaken_are = m.untaken_are;
    held = record {
      outs = m.held.outs;
      readies = m.held.readies;
      none = m.held.none;
      answered = λ t is. still_not_out-answered 0 i answer notes t (m.held.answered t is);
    };
    through = λ x. All-weaker (λ (y : ReadyItem). IsThrough notes y.ready) (λ (y : ReadyItem). IsThrough (Answered 0 i answer ∷ notes) y.ready) (λ y is. still y.ready is) (g.readies x) (m.through x);
    unanswered = record {
      windows = λ r k d lt. other_answer notes i answer _ (windows r k d lt) ∙ m.unanswered.windows r k d lt;
      outs = λ k d lt. other_answer notes i answer _ (outs k d lt) ∙ m.unanswered.outs k d lt;
      deletes = λ r it is. other_answer notes i answer (place_at 0 it.index) (deletes r it is) ∙ m.unanswered.deletes r it is;
      none = λ r j past. other_answer notes i answer (record { region = r; index = j }) (beyond r j past) ∙ m.unanswered.none r j past;
    };
    hand_entries = m.hand_entries;
    free_count = m.free_count;
    cookies = cookies_later notes (Answered 0 i answer ∷ notes) slots g (λ r j. refl) (λ r. refl) m.cookies;
    passed = passed_later notes (Answered 0 i answer ∷ notes) g (λ j. refl) refl (λ j waits. waits) m.passed;
    flagged = record {
      none = λ r j none_there. unflagged r j (0 == r && i == j) none_there;
      readies = m.flagged.readies;
    };
  });
  apart = h.apart;
} where
  unflagged : (r j : ℕ) (b : Bool) → (if b then Some answer else answer_of notes r j) ≡ None → flags_of notes r j ≡ None
  unflagged r j true lost = absurd (cc lost)
  unflagged r j false is = h.tags.flagged.none r j is

  still : (t : Ready) → IsThrough notes t → IsThrough (Answered 0 i answer ∷ notes) t
  still t is = elim is [
    | inl aborts ↦ inl aborts
    | inr answers ↦ inr (other_answer notes i answer t.place (answer_is_other notes i t.place (answer_in t) none answers) ∙ answers)
  ]

  beyond : (r j : ℕ) → length (fetched (logged notes) r) ≤ j → (0 == r && i == j) ≡ false
  beyond r j past = false_from_ne_true (0 == r && i == j) (λ same.
      let parts = and_parts (0 == r) (i == j) same in
      let index : i ≡ j = eqb-true i j parts.1 in
      let here : length (fetched (logged notes) 0) ≤ j = subst (λ (x : ℕ). length (fetched (logged notes) x) ≤ j) (sym (eqb-true 0 r parts.0)) past in
      absurd (omega (arith, here, index, there)))
