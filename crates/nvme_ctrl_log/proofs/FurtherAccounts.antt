-- A log that is an account stays one at the rules with a region more, where no entry that was applied names its address, and where queues may lie anywhere.
use Rattle.std.proofs.Common.{◌≡◌, ℕ, ◌<◌, ◌%◌, ◌==◌, ◌&&◌, Bool, true, false, if◌then◌else◌, List, [], ◌∷◌, ◌++◌, length, Some, refl, sym, ap, ◌∙◌, subst, arith, inl, inr, MatchBool}
use Rattle.std.specs.Prelude.{slice_get, nat_le}
use mathlib.Core.List.{IsPrefix}
use Rattle.std.proofs.lemmas.Bool.{cases_lt, eq-eqb}
use Rattle.std.proofs.lemmas.List.{length_push}
use Rattle.nvme_entry.specs.declared.submission.Sqe.{Sqe}
use Rattle.nvme_entry.specs.declared.completion.Cqe.{Cqe}
use Rattle.nvme_admin.specs.History.{Kind}
use Rattle.nvme_log.specs.declared.event.Event.{Event}
use Rattle.nvme_log.specs.declared.event.Event.TheVariants.{Fetch, Post}
use Rattle.nvme_log.specs.declared.event.Event.TheVariants as event
use Rattle.nvme_log.specs.Limits.{window_of}
use Rattle.nvme_log.specs.Rules.{FrontRules, Past, sq_regions_of, cq_regions_of}
use Rattle.nvme_log.specs.Places.{Fate, WasAborted, WasPicked, Waits, fetched, waiting, entry_at, fate_of, is_waiting, is_picked}
use Rattle.nvme_log.specs.Histories.{arbitration_of}
use Rattle.nvme_log.specs.Effects.{is_effect, effects_since, EffectsAtOnce}
use Rattle.nvme_log.specs.Answers.{Answer, Executor, by_answers, outcome_answer}
use Rattle.nvme_log.specs.Completions.{posted_to, phase_after}
use Rattle.nvme_log.specs.Dispatches.{place_at}
use Rattle.nvme_log.specs.Account.{ServedWhileOpen, PostsOwnBy}
use Rattle.nvme_log.proofs.Waiting.{fetched-fetch}
use Rattle.nvme_arbiter.specs.Lawful.{IsLimitedRun}
use Rattle.nvme_ctrl_log.specs.Notes.{Notes, Note, Logged, Tail, Head, Kept, Passed, Taken, Answered, Flagged, Held, Classed, EachNote, logged}
use Rattle.nvme_ctrl_log.specs.Doorbells.{sq_slots, cq_slots}
use Rattle.nvme_ctrl_log.specs.Making.{with_region}
use Rattle.nvme_ctrl_log.specs.Tags.{is_passed, is_of_device, answers}
use Rattle.nvme_ctrl_log.specs.Account.{FetchesSubmitted, PostsOnFreeSlot, PostsAnswer, PostsOwn, IsLawfulEvent, IsCarriedOut, HasTag, IsAnswer, IsLawful, IsAccount}
use Rattle.nvme_ctrl_log.proofs.AddedTables.{slots_past}
use Rattle.nvme_ctrl_log.proofs.DoorbellCounts.{submitted_same, consumed_same}
use Rattle.nvme_ctrl_log.proofs.FurtherHistories.{IsPassedBy, passed-before, made_last-further}
use Rattle.nvme_ctrl_log.proofs.FurtherAnswers.{status-stays, dw0-stays}
use Rattle.nvme_ctrl_log.proofs.Noted.{each-event}
use Rattle.nvme_ctrl_log.proofs.NotedRegions.{LeavesRegions, leaves_regions}
use Rattle.nvme_ctrl_log.proofs.TakenCommands.{IsSound, lawful-before}
use Rattle.nvme_ctrl_log.proofs.ShownPicks.{picks-take}

-- a list with an item more isn't empty
pub not_empty : {A : Type 0} (xs : List A) (x : A) → xs ++ x ∷ [] ≡ [] → ⊥
not_empty {A = A} xs x e = let none : length (xs ++ x ∷ []) ≡ 0 = ap (λ (ys : List A). length ys) e in absurd (omega (arith, none, length_push xs x))

-- what was fetched and posted of a region before an event
pub fetched-before : (e : Event) (past : Past) (r : ℕ) → fetched (e ∷ past) r ≡ [] → fetched past r ≡ []
fetched-before (Fetch region index entry) past r h = by (region == r) h where
  by : (b : Bool) → (if b then fetched past r ++ entry ∷ [] else fetched past r) ≡ [] → fetched past r ≡ []
  by true k = absurd (not_empty (fetched past r) entry k)
  by false k = k
fetched-before e past r h = h

posted-before : (e : Event) (past : Past) (c : ℕ) → posted_to (e ∷ past) c ≡ [] → posted_to past c ≡ []
posted-before (Post region r i cqe) past c h = by (region == c) h where
  by : (b : Bool) → (if b then posted_to past c ++ cqe ∷ [] else posted_to past c) ≡ [] → posted_to past c ≡ []
  by true k = absurd (not_empty (posted_to past c) cqe k)
  by false k = k
posted-before e past c h = h

leaves-before : (rules others : FrontRules) (e : Event) (past : Past) → LeavesRegions rules others (e ∷ past) → LeavesRegions rules others past
leaves-before rules others e past h = record {
  sqs = h.sqs;
  sq_left = h.sq_left;
  cq_left = h.cq_left;
  none_fetched = λ r beyond. fetched-before e past r (h.none_fetched r beyond);
  none_posted = λ c beyond. posted-before e past c (h.none_posted c beyond);
}

-- a picked place doesn't wait
picked_done : (f : Fate) → is_picked f ≡ true → is_waiting f ≡ false
picked_done WasPicked h = refl
picked_done WasAborted h = cc
picked_done Waits h = cc

module _ (rules : FrontRules) (kind : Kind) (a n : ℕ) (some_sqs : 0 < length (sq_regions_of rules)) (some_cqs : 0 < length (cq_regions_of rules)) where
  abbrev others : FrontRules
  others = with_region kind a n rules

  -- ---- regions that are there
  -- a region of which something was fetched
  fetched-there : (past : Past) (r i : ℕ) (entry : Sqe) → LeavesRegions rules others past → entry_at past r i ≡ Some entry → sq_slots others r ≡ sq_slots rules r
  fetched-there past r i entry left there = elim (cases_lt r (length (sq_regions_of rules))) [
    | inl below ↦ left.sq_left r below
    | inr beyond ↦ (let none : slice_get [] i ≡ Some entry = subst (λ (xs : List Sqe). slice_get xs i ≡ Some entry) (left.none_fetched r beyond) there in absurd (cc none))
  ]

  fetch-there : (past : Past) (r i : ℕ) (entry : Sqe) → LeavesRegions rules others (Fetch r i entry ∷ past) → sq_slots others r ≡ sq_slots rules r
  fetch-there past r i entry left = elim (cases_lt r (length (sq_regions_of rules))) [
    | inl below ↦ left.sq_left r below
    | inr beyond ↦ absurd (not_empty (fetched past r) entry (sym (fetched-fetch past r i entry) ∙ left.none_fetched r beyond))
  ]

  -- a region to which something is posted
  post-there : (past : Past) (c r i : ℕ) (cqe : Cqe) → LeavesRegions rules others (Post c r i cqe ∷ past) → cq_slots others c ≡ cq_slots rules c
  post-there past c r i cqe left = elim (cases_lt c (length (cq_regions_of rules))) [
    | inl below ↦ left.cq_left c below
    | inr beyond ↦ absurd (not_empty (posted_to past c) cqe (rw (eq-eqb c c refl) at (left.none_posted c beyond)))
  ]

  -- a region that has a slot
  sq_slot-there : (past : Past) (r slot : ℕ) → LeavesRegions rules others past → slot < sq_slots rules r → sq_slots others r ≡ sq_slots rules r
  sq_slot-there past r slot left is_slot = elim (cases_lt r (length (sq_regions_of rules))) [
    | inl below ↦ left.sq_left r below
    | inr beyond ↦ (let none = slots_past (sq_regions_of rules) r beyond in absurd (omega (arith, none, is_slot)))
  ]

  cq_slot-there : (past : Past) (c slot : ℕ) → LeavesRegions rules others past → slot < cq_slots rules c → cq_slots others c ≡ cq_slots rules c
  cq_slot-there past c slot left is_slot = elim (cases_lt c (length (cq_regions_of rules))) [
    | inl below ↦ left.cq_left c below
    | inr beyond ↦ (let none = slots_past (cq_regions_of rules) c beyond in absurd (omega (arith, none, is_slot)))
  ]

  -- ---- an event
  module _ (notes : Notes) (sound : IsSound rules (logged notes)) (passed : IsPassedBy rules a (logged notes)) where
    served-stays : (e : Event) → LeavesRegions rules others (e ∷ logged notes) → ServedWhileOpen rules (logged notes) e → ServedWhileOpen others (logged notes) e
    served-stays (Fetch r i entry) left h =
        (h.0, subst (λ (slots : ℕ). nat_le (length (waiting (Fetch r i entry ∷ logged notes) r)) (window_of slots) ≡ true) (sym (fetch-there (logged notes) r i entry left)) h.1)
    served-stays (event.Pick seen pick) left h = h
    served-stays e left h = h

    effects-stay : (e : Event) → EffectsAtOnce rules (logged notes) e → EffectsAtOnce others (logged notes) e
    effects-stay e h =
        subst (λ (made : List Event). MatchBool (is_effect e) (IsPrefix (effects_since (logged notes) ++ e ∷ []) made) (effects_since (logged notes) ≡ made))
        (sym (made_last-further rules kind a n some_sqs some_cqs (logged notes) passed)) h

    own-stays : (executor : Executor) (c r i : ℕ) (cqe : Cqe) → LeavesRegions rules others (logged notes) → cq_slots others c ≡ cq_slots rules c
        → PostsOwnBy rules executor (logged notes) (Post c r i cqe) → PostsOwnBy others executor (logged notes) (Post c r i cqe)
    own-stays executor c r i cqe left same h =
        let own = h.2 in
        let answer : Answer = executor (place_at r i) own.entry in (
          h.0,
          h.1,
          record {
            entry = own.entry;
            is_there = own.is_there;
            region = own.region;
            sqid = own.sqid;
            cid = own.cid;
            status = own.status ∙ sym (status-stays rules kind a n some_sqs some_cqs (logged notes) sound passed r i own.entry own.is_there h.1 answer);
            dw0 = own.dw0 ∙ sym (dw0-stays rules kind a n some_sqs some_cqs (logged notes) sound passed r i own.entry own.is_there h.1 answer);
            sqhd = own.sqhd ∙ ap (λ (m : ℕ). length (fetched (logged notes) r) % m) (sym (fetched-there (logged notes) r i own.entry left own.is_there));
            phase = own.phase ∙ ap (λ (m : ℕ). phase_after (length (posted_to (logged notes) c)) m) (sym same);
          },
        )

    posts-stay : (e : Event) → LeavesRegions rules others (e ∷ logged notes) → PostsOwn rules notes e → PostsOwn others notes e
    posts-stay (Post c r i cqe) left h = by (r == 0 && is_passed notes i) h where
      before : LeavesRegions rules others (logged notes)
      before = leaves-before rules others (Post c r i cqe) (logged notes) left

      same : cq_slots others c ≡ cq_slots rules c
      same = post-there (logged notes) c r i cqe left

      by : (b : Bool) → MatchBool b (PostsAnswer rules notes c i cqe) (PostsOwnBy rules (by_answers (answers notes)) (logged notes) (Post c r i cqe))
          → MatchBool b (PostsAnswer others notes c i cqe) (PostsOwnBy others (by_answers (answers notes)) (logged notes) (Post c r i cqe))
      by true own = record {
        answer = own.answer;
        answered = own.answered;
        status_is = own.status_is;
        dw0_is = own.dw0_is;
        other_status = own.other_status;
        other_dw0 = own.other_dw0;
        all_else = own-stays (by_answers (answers notes)) c 0 i (record cqe { status = own.other_status; dw0 = own.other_dw0 }) before same own.all_else;
      }
      by false own = own-stays (by_answers (answers notes)) c r i cqe before same own
    posts-stay e left h = tt

    fetch-stays : (e : Event) → LeavesRegions rules others (e ∷ logged notes) → FetchesSubmitted rules notes e → FetchesSubmitted others notes e
    fetch-stays (Fetch r i entry) left h =
        subst (λ (m : ℕ). length (fetched (logged notes) r) < m) (sym (submitted_same rules others notes r (fetch-there (logged notes) r i entry left))) h
    fetch-stays e left h = h

    slot-stays : (e : Event) → LeavesRegions rules others (e ∷ logged notes) → PostsOnFreeSlot rules notes e → PostsOnFreeSlot others notes e
    slot-stays (Post c r i cqe) left h =
        let same = post-there (logged notes) c r i cqe left in
        let consumes = consumed_same rules others notes c same in
        omega (arith, h, same, consumes)
    slot-stays e left h = h

    event-stays : (e : Event) → LeavesRegions rules others (e ∷ logged notes) → IsLawfulEvent rules notes e → IsLawfulEvent others notes e
    event-stays e left h = record {
      index_counts = h.index_counts;
      served_while_open = served-stays e left h.served_while_open;
      observed = h.observed;
      effects_at_once = effects-stay e h.effects_at_once;
      deletes = h.deletes;
      posts_own = posts-stay e left h.posts_own;
      fetches_submitted = fetch-stays e left h.fetches_submitted;
      posts_on_free_slot = slot-stays e left h.posts_on_free_slot;
      posts_what_is_through = h.posts_what_is_through;
      posts_in_order = h.posts_in_order;
    }

    -- ---- an answer
    carried-stays : (i : ℕ) (answer : Answer) → IsCarriedOut rules notes i answer → IsCarriedOut others notes i answer
    carried-stays i answer h =
        let done = picked_done (fate_of (logged notes) 0 i) h.picked in
        record {
          entry = h.entry;
          is_there = h.is_there;
          picked = h.picked;
          whole = h.whole ∙ sym (made_last-further rules kind a n some_sqs some_cqs (logged notes) passed);
          finished = h.finished;
          status = h.status ∙ sym (status-stays rules kind a n some_sqs some_cqs (logged notes) sound passed 0 i h.entry h.is_there done (outcome_answer rules h.entry));
          dw0 = h.dw0 ∙ sym (dw0-stays rules kind a n some_sqs some_cqs (logged notes) sound passed 0 i h.entry h.is_there done (outcome_answer rules h.entry));
        }

    answer-stays : (r i : ℕ) (answer : Answer) → IsAnswer rules notes r i answer → IsAnswer others notes r i answer
    answer-stays r i answer h = record { first = h.first; executed = by (is_of_device notes r i) h.executed } where
      by : (b : Bool) → MatchBool b (HasTag notes r i) (IsCarriedOut rules notes i answer) → MatchBool b (HasTag notes r i) (IsCarriedOut others notes i answer)
      by true k = k
      by false k = carried-stays i answer k

    -- ---- a note
    note-stays : (note : Note) → LeavesRegions rules others (logged (note ∷ notes)) → IsLawful rules notes note → IsLawful others notes note
    note-stays (Logged e) left h = event-stays e left h
    note-stays (Tail r slot) left h =
        let same = sq_slot-there (logged notes) r slot left h.is_slot in
        record {
          is_open = h.is_open;
          is_slot = subst (λ (m : ℕ). slot < m) (sym same) h.is_slot;
          fits = (let submits = submitted_same rules others (Tail r slot ∷ notes) r same in let before = h.fits in omega (arith, before, submits, same));
        }
    note-stays (Head c slot) left h =
        let same = cq_slot-there (logged notes) c slot left h.is_slot in
        record {
          is_open = h.is_open;
          is_slot = subst (λ (m : ℕ). slot < m) (sym same) h.is_slot;
          posted = (let consumes = consumed_same rules others (Head c slot ∷ notes) c same in let before = h.posted in omega (arith, before, consumes));
        }
    note-stays (Kept r i cookie) left h = h
    note-stays (Passed i) left h = h
    note-stays (Taken tag r i) left h = h
    note-stays (Answered r i answer) left h = answer-stays r i answer h
    note-stays (Flagged r i flags) left h = h
    note-stays (Held q on) left h = h
    note-stays (Classed q class) left h = h

  -- ---- all notes
  -- a log is sound where its notes are lawful
  pub sound-notes : (notes : Notes) → EachNote (IsLawful rules) notes → IsLimitedRun rules.mechanism rules.start.settings (arbitration_of (logged notes)) → IsSound rules (logged notes)
  sound-notes notes h l = record {
    effects = each-event _ rules (λ past e it. it.effects_at_once) notes h;
    served = each-event _ rules (λ past e it. it.served_while_open) notes h;
    takes = picks-take rules notes h l;
    lawful = l;
  }

  notes-stay : (notes : Notes) → EachNote (IsLawful rules) notes → IsLimitedRun rules.mechanism rules.start.settings (arbitration_of (logged notes)) → IsPassedBy rules a (logged notes)
      → LeavesRegions rules others (logged notes) → EachNote (IsLawful others) notes
  notes-stay [] h l u left = tt
  notes-stay (Logged e ∷ notes) h l u left =
      let lawful = lawful-before rules e (logged notes) l in
      let passed = passed-before rules a e (logged notes) u in (
        note-stays notes (sound-notes notes h.1 lawful) passed (Logged e) left h.0,
        notes-stay notes h.1 lawful passed (leaves-before rules others e (logged notes) left),
      )
  notes-stay (note ∷ notes) h l u left = (note-stays notes (sound-notes notes h.1 l) u note left h.0, notes-stay notes h.1 l u left)

  -- the log stays an account
  pub account-stays : (notes : Notes) → IsAccount rules notes → IsPassedBy rules a (logged notes) → IsAccount others notes
  account-stays notes h passed = record {
    each = notes-stay notes h.each h.lawful passed (leaves_regions rules kind a n notes h.each);
    lawful = h.lawful;
    effects_whole = h.effects_whole ∙ sym (made_last-further rules kind a n some_sqs some_cqs (logged notes) passed);
  }
