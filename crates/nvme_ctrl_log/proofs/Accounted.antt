-- The events of a controller's log are accounted, with the answers of its notes.
use Rattle.nvme_ctrl_log.specs.Notes.{Passed, Held, Classed, Notes, Logged, Answered, EachNote, logged}
use Rattle.nvme_log.specs.declared.event.Event.{Event}
use Rattle.std.proofs.Common.{◌≡◌, ℕ, ◌==◌, ◌&&◌, Bool, true, false, [], ◌∷◌, Option, None, refl, sym, ap, ◌∙◌, subst, inl, inr, not, ◌≤◌, ◌||◌, if◌then◌else◌, ◌+◌, MatchBool, arith}
use Rattle.std.proofs.lemmas.Bool.{cases_Bool, eq-eqb, eqb-true, MatchBool-at_true, MatchBool-at_false, and_right, or_left}
use Rattle.nvme_entry.specs.declared.submission.Sqe.{Sqe}
use Rattle.nvme_log.specs.declared.event.Event.TheVariants.{Pick, Post}
use Rattle.nvme_log.specs.Rules.{Past, FrontRules, Each}
use Rattle.nvme_log.specs.Places.{is_aborted, is_picked, fate_of}
use Rattle.nvme_log.specs.Answers.{Answer, Executor, by_answers}
use Rattle.nvme_log.specs.Completions.{is_posted, IsOwnBy, posts_of}
use Rattle.nvme_log.specs.Dispatches.{place_at}
use Rattle.nvme_log.specs.Account.{Observed, PostsOwnBy}
use Rattle.nvme_log.proofs.Posts.{posts_of-none}
use Rattle.nvme_ctrl_log.specs.Tags.{answer_of, answer_or, answers, is_of_device, is_passed}
use Rattle.nvme_ctrl_log.specs.Account.{IsLawful, IsCarriedOut, HasTag, PostsOwn, PostsAnswer, PicksOnObservation}
use Rattle.nvme_ctrl_log.specs.Observation.{NoneArranged}
use Rattle.nvme_ctrl_log.proofs.Arranged.{observed_as_in_the_log}
use Rattle.nvme_ctrl_log.specs.Laws.{EventsAreAccounted, CompletionsFollowAnswers, OneCompletionEach, NonePassed}
use Rattle.nvme_ctrl_log.proofs.Posting.{posts_told, posts_answer}
use Rattle.nvme_ctrl_log.proofs.Noted.{EachNote-after, each-event}
use Rattle.nvme_ctrl_log.proofs.Served.{both, or-right, through-served, posted-served}
use Rattle.nvme_ctrl_log.proofs.TagLaws.{holder-unaborted}

-- a picked place is not aborted
picked-unaborted : (past : Past) (r i : ℕ) → is_picked (fate_of past r i) ≡ true → is_aborted past r i ≡ false
picked-unaborted past r i h = elim (cases_Bool (is_aborted past r i)) [
  | inl aborted ↦ (let no : is_picked (fate_of past r i) ≡ false = rw aborted refl in cc)
  | inr unaborted ↦ unaborted
]

-- a command that is answered was not aborted
answered-unaborted : (rules : FrontRules) (notes : Notes) (r i : ℕ) (answer : Answer) → EachNote (IsLawful rules) notes → IsLawful rules notes (Answered r i answer)
    → is_aborted (logged notes) r i ≡ false
answered-unaborted rules notes r i answer h it = elim (cases_Bool (is_of_device notes r i)) [
  | inl of_device ↦
      let tagged : HasTag notes r i = MatchBool-at_true (HasTag notes r i) (IsCarriedOut rules notes i answer) of_device it.executed in
      holder-unaborted rules notes h tagged.tag r i tagged.stands
  | inr within ↦
      let done : IsCarriedOut rules notes i answer = MatchBool-at_false (HasTag notes r i) (IsCarriedOut rules notes i answer) within it.executed in
      subst (λ (x : ℕ). is_aborted (logged notes) x i ≡ false) (sym (of_admin (r == 0) (is_passed notes i) refl within)) (picked-unaborted (logged notes) 0 i done.picked)
] where
  of_admin : (a b : Bool) → (r == 0) ≡ a → (not a || b) ≡ false → r ≡ 0
  of_admin true b e other = eqb-true r 0 e
  of_admin false b e other = cc other

-- two executors that answer alike where something was posted
posts-alike : (rules : FrontRules) (one other : Executor) (past : Past) → ((r i : ℕ) → is_posted past r i ≡ true → one (place_at r i) ≡ other (place_at r i))
    → Each (PostsOwnBy rules one) past → Each (PostsOwnBy rules other) past
posts-alike rules one other [] same h = tt
posts-alike rules one other (Post c r i cqe ∷ past) same h =
    let here : one (place_at r i) ≡ other (place_at r i) = same r i (rw (eq-eqb r r refl, eq-eqb i i refl) refl) in (
      (h.0.0, h.0.1, subst (λ (answer : Sqe → Answer). IsOwnBy rules answer past c r i cqe) here h.0.2),
      posts-alike rules one other past (λ x k posted. same x k (or-right (r == x && i == k) (is_posted past x k) posted)) h.1,
    )
posts-alike rules one other (e ∷ past) same h = (tt, posts-alike rules one other past same h.1)

pub posts-own : (rules : FrontRules) (notes : Notes) → NonePassed notes → EachNote (IsLawful rules) notes → Each (PostsOwnBy rules (by_answers (answers notes))) (logged notes)
posts-own rules [] none h = tt
posts-own rules (Answered r i answer ∷ notes) none h =
    posts-alike rules (by_answers (answers notes)) (by_answers (answers (Answered r i answer ∷ notes))) (logged notes) same (posts-own rules notes none h.1)
  where
    same : (x k : ℕ) → is_posted (logged notes) x k ≡ true → by_answers (answers notes) (place_at x k) ≡ by_answers (answers (Answered r i answer ∷ notes)) (place_at x k)
    same x k posted = by (r == x && i == k) refl where
      by : (b : Bool) → (r == x && i == k) ≡ b → by_answers (answers notes) (place_at x k) ≡ by_answers (answers (Answered r i answer ∷ notes)) (place_at x k)
      by false e =
          let stays : answer_of notes x k ≡ answer_of (Answered r i answer ∷ notes) x k = rw e refl in
          let answered : Option Answer → Sqe → Answer = λ o entry. answer_or o in
          ap answered stays
      by true e =
          let there = both (r == x) (i == k) e in
          let none : answer_of notes x k ≡ None = subst (λ (z : ℕ). answer_of notes x z ≡ None) (eqb-true i k there.1) (subst (λ (z : ℕ). answer_of notes z i ≡ None) (eqb-true r x there.0) h.0.first) in
          let unaborted : is_aborted (logged notes) x k ≡ false =
          subst (λ (z : ℕ). is_aborted (logged notes) x z ≡ false) (eqb-true i k there.1)
          (subst (λ (z : ℕ). is_aborted (logged notes) z i ≡ false) (eqb-true r x there.0) (answered-unaborted rules notes r i answer h.1 h.0)) in
          absurd (elim (posted-served rules notes h.1 x k posted) [
            | inl aborted ↦ cc
            | inr a ↦ (let some = a.answered in cc)
          ])
posts-own rules (Logged e ∷ notes) none h = (here e h.0.posts_own, posts-own rules notes none h.1) where
  here : (e : Event) → PostsOwn rules notes e → PostsOwnBy rules (by_answers (answers notes)) (logged notes) e
  here (Post c r i cqe) own =
      subst (λ (b : Bool). MatchBool b (PostsAnswer rules notes c i cqe) (PostsOwnBy rules (by_answers (answers notes)) (logged notes) (Post c r i cqe)))
      (ap (λ (b : Bool). r == 0 && b) (none i) ∙ and_right (r == 0) false refl) own
  here e own = tt
posts-own rules (Passed i ∷ notes) none h = absurd (let one = none i in let yes : (i == i || is_passed notes i) ≡ true = or_left (i == i) (is_passed notes i) (eq-eqb i i refl) in cc (one, yes))
posts-own rules (note ∷ notes) none h = posts-own rules notes none h.1

-- where no queue was held and no class was set, picks are made on what the log shows
observed : (rules : FrontRules) (notes : Notes) → NoneArranged notes → EachNote (IsLawful rules) notes → Each Observed (logged notes)
observed rules [] none h = tt
observed rules (Logged e ∷ notes) none h = (here e h.0.observed, observed rules notes none h.1) where
  here : (e : Event) → PicksOnObservation notes e → Observed (logged notes) e
  here (Pick seen pick) is = is ∙ observed_as_in_the_log notes none
  here e is = tt
observed rules (Held q on ∷ notes) none h = absurd (cc none)
observed rules (Classed q class ∷ notes) none h = absurd (cc none)
observed rules (note ∷ notes) none h = observed rules notes none h.1

pub events_are_accounted : EventsAreAccounted
events_are_accounted rules notes sent collected none none_arranged order places h whole fetched_in_order collected_in_order = record {
  fetched_in_order = fetched_in_order;
  indexes_count = each-event _ rules (λ past e it. it.index_counts) notes h.each;
  served_while_open = each-event _ rules (λ past e it. it.served_while_open) notes h.each;
  observed = observed rules notes none_arranged h.each;
  effects_at_once = each-event _ rules (λ past e it. it.effects_at_once) notes h.each;
  effects_whole = h.effects_whole;
  deletes = order;
  posts_own = posts-own rules notes none h.each;
  leaves_places = places;
  lawful = whole;
  collected_in_order = collected_in_order;
}

pub one_completion_each : OneCompletionEach
one_completion_each rules notes h r i = at_most rules notes h.each r i where
  one_more : (here : Bool) (posts : ℕ) → posts ≤ 1 → (here ≡ true → posts ≡ 0) → (if here then posts + 1 else posts) ≤ 1
  one_more true posts few none = let zero = none refl in omega (arith, zero)
  one_more false posts few none = few

  at_most : (rules : FrontRules) (notes : Notes) → EachNote (IsLawful rules) notes → (r i : ℕ) → posts_of (logged notes) r i ≤ 1
  at_most rules [] h r i = omega arith
  at_most rules (Logged (Post c region index cqe) ∷ notes) h r i =
      one_more (region == r && index == i) (posts_of (logged notes) r i) (at_most rules notes h.1 r i)
      (λ same. let parts = both (region == r) (index == i) same in
      posts_of-none (logged notes) r i (subst (λ (x : ℕ). is_posted (logged notes) r x ≡ false) (eqb-true index i parts.1)
      (subst (λ (x : ℕ). is_posted (logged notes) x index ≡ false) (eqb-true region r parts.0) (posts_told rules notes c region index cqe h.0.posts_own).no_post)))
  at_most rules (note ∷ notes) h r i = at_most rules notes h.1 r i

pub completions_follow_answers : CompletionsFollowAnswers
completions_follow_answers rules later before c r i cqe h =
    let notes : Notes = Logged (Post c r i cqe) ∷ before in
    let here = (EachNote-after (IsLawful rules) later notes h.each).0 in
    elim (cases_Bool (is_aborted (logged before) r i)) [
      | inl aborted ↦ inl aborted
      | inr unaborted ↦ elim (through-served before r i here.posts_what_is_through) [
        | inl aborted ↦ inl aborted
        | inr it ↦ inr (record {
          answer = it.answer;
          answered = it.answered;
          status = λ of_device. (posts_answer rules before c r i cqe it.answer of_device unaborted it.answered here.posts_own).0;
          dw0 = λ of_device. (posts_answer rules before c r i cqe it.answer of_device unaborted it.answered here.posts_own).1;
        })
      ]
    ]
