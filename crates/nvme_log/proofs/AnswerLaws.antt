-- Accounts whose answers are the outcomes are those of a front that executes by itself, and the laws of accounts hold whatever executes.
use Rattle.std.proofs.Common.{◌≡◌, ℕ, ◌==◌, ◌&&◌, ◌||◌, nat_lt, Bool, true, false, if◌then◌else◌, [], ◌∷◌, ◌++◌, refl, sym, ap, ◌∙◌, subst, append_assoc, inl, inr}
use Rattle.std.proofs.lemmas.Bool.{eq-eqb, cases_Bool}
use Rattle.std.proofs.lemmas.List.{append-nil}
use Rattle.nvme_entry.specs.declared.submission.Sqe.{Sqe}
use Rattle.nvme_entry.specs.declared.completion.Cqe.{Cqe}
use Rattle.nvme_log.specs.declared.event.Event.TheVariants.{Post}
use Rattle.nvme_log.specs.Rules.{Past, FrontRules, Each}
use Rattle.nvme_log.specs.Places.{WasAborted, WasPicked, Waits, picked, unaborted_below, fate_of, is_waiting, is_picked, is_aborted, entry_at}
use Rattle.nvme_log.specs.Answers.{Answer, Executor, by_outcome, by_answers, outcome_at, outcomes}
use Rattle.nvme_log.specs.Completions.{is_posted, own_status_by, own_dw0_by}
use Rattle.nvme_log.specs.Dispatches.{place_at}
use Rattle.nvme_log.specs.Effects.{effects_since, EffectsAtOnce}
use Rattle.nvme_log.specs.Account.{PostsOwnBy}
use Rattle.nvme_log.specs.AnswerLaws.{AnswerAlike, AccountsAnswerAlike, AccountsAnswerByOutcome, AnswersByOutcomeAreAccounted, AccountsKeepTheLaws}
use Rattle.nvme_log.proofs.Posts.{one_post}
use Rattle.nvme_log.proofs.Tables.{sync}
use Rattle.nvme_log.proofs.Turns.{admin-unaborted}
use Rattle.nvme_log.proofs.AbortLaws.{aborted-not_dispatched, aborted_are_told_by, aborts_take_the_oldest_by}
use Rattle.nvme_log.proofs.AbortAnswers.{entry-later, aborts_are_told_by}
use Rattle.nvme_log.proofs.OwnStays.{over-posted}
use Rattle.nvme_log.proofs.PickedOnce.{aborted_unpicked, completed_after}
use Rattle.nvme_log.proofs.Promise.{none_after_deletion, answered_over, none_after_delete}
use Rattle.nvme_log.proofs.LogLengths.{logs_are_short_by}
use Rattle.nvme_log.proofs.Foreseen.{answers_are_foreseen_by}

-- ---- executors that answer alike
-- what was posted is posted later
posted-later : (later past : Past) (r i : ℕ) → is_posted past r i ≡ true → is_posted (later ++ past) r i ≡ true
posted-later [] past r i h = h
posted-later (Post c region index cqe ∷ later) past r i h = or_so (region == r && index == i) (posted-later later past r i h) where
  or_so : (b : Bool) → is_posted (later ++ past) r i ≡ true → (b || is_posted (later ++ past) r i) ≡ true
  or_so true k = refl
  or_so false k = k
posted-later (e ∷ later) past r i h = posted-later later past r i h

-- what neither waits nor was aborted was picked
picked-else : (past : Past) (r i : ℕ) → is_aborted past r i ≡ false → is_waiting (fate_of past r i) ≡ false → is_picked (fate_of past r i) ≡ true
picked-else past r i = by (is_aborted past r i) (nat_lt (unaborted_below past r i) (picked past r)) where
  by : (a b : Bool) → a ≡ false → is_waiting (if a then WasAborted else (if b then WasPicked else Waits)) ≡ false
      → is_picked (if a then WasAborted else (if b then WasPicked else Waits)) ≡ true
  by true b e h = cc e
  by false true e h = refl
  by false false e h = cc h

-- the status and Dword 0 of a place are by the answer only where it is an I/O place that isn't aborted
record OwnAlike (rules : FrontRules) (one other : Answer) (past : Past) (r i : ℕ) (entry : Sqe) : Type 0 where
  pub status : own_status_by rules one past r i entry ≡ own_status_by rules other past r i entry
  pub dw0 : own_dw0_by rules one past r i entry ≡ own_dw0_by rules other past r i entry

own-alike : (rules : FrontRules) (one other : Answer) (past : Past) (r i : ℕ) (entry : Sqe)
    → (is_aborted past r i ≡ false → (r ≡ 0 → ⊥) → one ≡ other) → OwnAlike rules one other past r i entry
own-alike rules one other past r i entry h = elim (cases_Bool (is_aborted past r i)) [
  | inl aborted ↦ record { status = rw aborted refl; dw0 = rw aborted refl }
  | inr unaborted ↦ elim (cases_Bool (r == 0)) [
    | inl admin ↦ record { status = rw (unaborted, admin) refl; dw0 = rw (unaborted, admin) refl }
    | inr io ↦
        let same : one ≡ other = h unaborted (λ z. let yes = eq-eqb r 0 z in cc) in
        record { status = λ t. own_status_by rules (same t) past r i entry; dw0 = λ t. own_dw0_by rules (same t) past r i entry }
  ]
]

module _ (rules : FrontRules) (one other : Executor) (now : Past) (alike : AnswerAlike now one other) (effects : Each (EffectsAtOnce rules) now) where
  -- a completion of the log is own by either
  own-too : (later before : Past) (c r i : ℕ) (cqe : Cqe) → now ≡ later ++ Post c r i cqe ∷ before → PostsOwnBy rules one before (Post c r i cqe)
      → PostsOwnBy rules other before (Post c r i cqe)
  own-too later before c r i cqe is own =
      let it = own.2 in
      let over = over-posted rules later before c r i cqe (subst (Each (EffectsAtOnce rules)) is effects) own.1 in
      let same = own-alike rules (one (place_at r i) it.entry) (other (place_at r i) it.entry) before r i it.entry (λ unaborted io. alike r i it.entry
      (record {
        of_io = io;
        picked = picked-else now r i (ap (λ (z : Past). is_aborted z r i) is ∙ over.aborted ∙ unaborted) (ap (λ (z : Past). is_waiting (fate_of z r i)) is ∙ over.over.waits_not);
        posted = ap (λ (z : Past). is_posted z r i) is ∙ posted-later later (Post c r i cqe ∷ before) r i (rw (eq-eqb r r refl, eq-eqb i i refl) refl);
      })
      (ap (λ (z : Past). entry_at z r i) is ∙ entry-later later (Post c r i cqe ∷ before) r i it.entry it.is_there)) in (
        own.0,
        own.1,
        record {
          entry = it.entry;
          is_there = it.is_there;
          region = it.region;
          sqid = it.sqid;
          cid = it.cid;
          status = it.status ∙ same.status;
          dw0 = it.dw0 ∙ same.dw0;
          sqhd = it.sqhd;
          phase = it.phase;
        },
      )

  -- so are those of its beginnings
  posts-too : (later past : Past) → now ≡ later ++ past → Each (PostsOwnBy rules one) past → Each (PostsOwnBy rules other) past
  posts-too later [] is h = tt
  posts-too later (Post c r i cqe ∷ past) is h =
      (own-too later past c r i cqe is h.0, posts-too (later ++ Post c r i cqe ∷ []) past (is ∙ sym (append_assoc later (Post c r i cqe ∷ []) past)) h.1)
  posts-too later (e ∷ past) is h = (tt, posts-too (later ++ e ∷ []) past (is ∙ sym (append_assoc later (e ∷ []) past)) h.1)

pub posts-alike : (rules : FrontRules) (one other : Executor) (past : Past) → AnswerAlike past one other → Each (EffectsAtOnce rules) past
    → Each (PostsOwnBy rules one) past → Each (PostsOwnBy rules other) past
posts-alike rules one other past alike effects = posts-too rules one other past alike effects [] past refl

pub accounts_answer_alike : AccountsAnswerAlike
accounts_answer_alike rules one other sent past collected alike h = record {
  fetched_in_order = h.fetched_in_order;
  indexes_count = h.indexes_count;
  served_while_open = h.served_while_open;
  observed = h.observed;
  effects_at_once = h.effects_at_once;
  effects_whole = h.effects_whole;
  deletes = h.deletes;
  posts_own = posts-alike rules one other past alike h.effects_at_once h.posts_own;
  leaves_places = h.leaves_places;
  lawful = h.lawful;
  collected_in_order = h.collected_in_order;
}

-- ---- outcomes
pub accounts_answer_by_outcome : AccountsAnswerByOutcome
accounts_answer_by_outcome rules sent past collected = (
  accounts_answer_alike rules (by_outcome rules) (by_answers (outcomes rules past)) sent past collected (λ r i entry it there. ap (outcome_at rules) (sym there)),
  accounts_answer_alike rules (by_answers (outcomes rules past)) (by_outcome rules) sent past collected (λ r i entry it there. ap (outcome_at rules) there),
)

pub answers_by_outcome_are_accounted : AnswersByOutcomeAreAccounted
answers_by_outcome_are_accounted rules answers sent past collected same h =
    accounts_answer_alike rules (by_answers answers) (by_outcome rules) sent past collected (λ r i entry it there. same r i it ∙ ap (outcome_at rules) there) h

-- ---- laws
pub accounts_keep_the_laws : AccountsKeepTheLaws
accounts_keep_the_laws rules executor sent past collected h = record {
  one_post_each = one_post rules executor past h.posts_own;
  completed_after = completed_after rules executor sent past collected h;
  aborted_unpicked = aborted_unpicked rules past h.effects_at_once;
  none_after_deletion = none_after_deletion rules past h.effects_at_once h.deletes;
  none_after_answer = λ later middle before qid r c i cqe is _.
      answered_over rules past later middle before (Post c 0 i cqe) qid r is h.effects_at_once h.deletes;
  none_after_delete = none_after_delete rules executor past h.effects_at_once h.deletes h.posts_own;
  short = logs_are_short_by rules executor sent past collected h;
  queues = λ starts. sync rules starts past h.effects_at_once [] (append-nil (effects_since past) ∙ h.effects_whole);
  statuses_foreseen = λ starts. answers_are_foreseen_by rules executor sent past collected starts h;
  aborted_not_dispatched = aborted-not_dispatched rules past h.effects_at_once;
  admin_not_aborted = admin-unaborted rules past h.effects_at_once;
  aborted_told = aborted_are_told_by rules executor past h.effects_at_once h.posts_own;
  aborts_take = aborts_take_the_oldest_by rules past h.effects_at_once h.effects_whole;
  aborts_told = aborts_are_told_by rules executor sent past collected h;
}
