-- After the deletion of a queue began nothing is fetched from its region, and so a whole account keeps the promise of a run.
use Rattle.std.proofs.Common.{◌≡◌, ℕ, ◌==◌, ◌||◌, Bool, true, false, List, [], ◌∷◌, ◌++◌, map, Option, Some, None, refl, sym, ap, ◌∙◌, subst, append_assoc, ◌⊎◌, inl, inr, All, if◌then◌else◌}
use Rattle.std.proofs.lemmas.List.Elements.{All-head, All-tail, All-nil, All-cons}
use Rattle.std.specs.Prelude.{slice_get}
use Rattle.std.proofs.lemmas.Bool.{cases_Bool, eq-eqb, eqb-true, MatchBool-at_true, MatchBool-at_false}
use Rattle.std.proofs.lemmas.Option.{same_Some}
use mathlib.Core.List.{IsPrefix}
use Rattle.nvme_entry.specs.declared.submission.Sqe.{Sqe}
use Rattle.nvme_entry.specs.declared.completion.Cqe.{Cqe}
use Rattle.nvme_admin.specs.Accepted.{verdict_of}
use Rattle.nvme_admin.specs.declared.verdict.Verdict.{Verdict}
use Rattle.nvme_admin.specs.declared.verdict.Verdict.TheVariants.{Done, BeginDelete, CloseCq}
use Rattle.nvme_admin.specs.declared.verdict.Verdict.TheVariants as verdict
use Rattle.nvme_log.specs.declared.event.Event.{Event}
use Rattle.nvme_log.specs.declared.event.Event.TheVariants.{Fetch, Pick, SetArbitration, OpenSq, OpenCq, Closing, Abort, Post, ClosedSq, ClosedCq}
use Rattle.nvme_log.specs.Rules.{Past, FrontRules, Each}
use Rattle.nvme_log.specs.Queues.{Queue, open_sq, open_cq, Deletion, pending, is_closed_region}
use Rattle.nvme_log.specs.Places.{fetched, waiting, fate_of, is_waiting}
use Rattle.nvme_log.specs.Histories.{table_history, admin_entry}
use Rattle.nvme_log.specs.Effects.{is_effect, abort_of, closing_of, closed_cq_of, made_by, made_of, made_last, effects_since, EffectsAtOnce}
use Rattle.nvme_log.specs.Answers.{Executor, by_outcome}
use Rattle.nvme_log.specs.Account.{Deletes, PostsOwnBy}
use Rattle.nvme_log.specs.Laws.{NoneAfterDelete, WholeAccountsKeepThePromise}
use Rattle.nvme_log.specs.AnswerLaws.{WholeAccountsKeepThePromiseBy}
use Rattle.nvme_log.proofs.Aborting.{makes_aborts}
use Rattle.nvme_log.proofs.Prefixes.{Each-after}
use Rattle.nvme_log.proofs.Posts.{whole_answers_by}
use Rattle.nvme_log.proofs.AbortLaws.{made-pick, ends-with}
use Rattle.nvme_log.proofs.Members.{in-first, cuts}
use Rattle.nvme_log.proofs.Turns.{in-waits, stays, stays_on}
use Rattle.nvme_log.proofs.PickedOnce.{picked_once, aborted_unpicked, completed_after}

-- ---- a command makes a Closing only as its first effect
-- at an event the deletion of a submission queue begins
abbrev pub is_closing : Event → Bool
is_closing (Closing qid region) = true
is_closing e = false

-- an event is no Closing
abbrev pub IsOther : Event → Type 0
IsOther e = is_closing e ≡ false

-- none of some events is a Closing
abbrev pub NoClosing : List Event → Type 0
NoClosing es = All IsOther es

-- all but the first of some events
abbrev pub all_but_first : List Event → List Event
all_but_first [] = []
all_but_first (e ∷ es) = es

-- a Closing stands in each list that it was appended to, whatever follows
closing_among : (es rest : List Event) (qid r : ℕ) → NoClosing ((es ++ Closing qid r ∷ []) ++ rest) → ⊥
closing_among [] rest qid r h = let here = All-head IsOther (Closing qid r) rest h in cc
closing_among (e ∷ es) rest qid r h = closing_among es rest qid r (All-tail IsOther e ((es ++ Closing qid r ∷ []) ++ rest) h)

-- Aborts are no Closings
aborts_close_none : (r : ℕ) (is : List ℕ) → NoClosing (map (λ (i : ℕ). Abort r i) is)
aborts_close_none r [] = All-nil IsOther
aborts_close_none r (i ∷ is) = All-cons IsOther (Abort r i) (map (λ (k : ℕ). Abort r k) is) refl (aborts_close_none r is)

-- where none is a Closing, none but the first is one
others_stay : (es : List Event) → NoClosing es → NoClosing (all_but_first es)
others_stay [] h = h
others_stay (e ∷ es) h = All-tail IsOther e es h

-- a deletion makes a Closing only as its first effect
closing_once : (past : Past) (qid : ℕ) (o : Option Queue) → NoClosing (all_but_first (closing_of past qid o))
closing_once past qid None = All-nil IsOther
closing_once past qid (Some queue) = aborts_close_none queue.region (waiting past queue.region)

-- the deletion of a completion queue makes one effect
closed_cq_once : (qid : ℕ) (o : Option ℕ) → NoClosing (all_but_first (closed_cq_of qid o))
closed_cq_once qid None = All-nil IsOther
closed_cq_once qid (Some region) = All-nil IsOther

-- a verdict makes a Closing only as its first effect
made_once : (past : Past) (v : Verdict) → NoClosing (all_but_first (made_by past v))
made_once past (Done status dw0) = All-nil IsOther
made_once past (verdict.OpenSq qid region cqid class) = All-nil IsOther
made_once past (verdict.OpenCq qid region) = All-nil IsOther
made_once past (BeginDelete qid) = closing_once past qid (open_sq past qid)
made_once past (CloseCq qid) = closed_cq_once qid (open_cq past qid)
made_once past (verdict.Abort sqid cid) =
    let aborts = makes_aborts past sqid cid in
    others_stay (abort_of past sqid cid) (subst NoClosing (sym aborts.are) (aborts_close_none aborts.region aborts.indices))
made_once past (verdict.SetArbitration settings) = All-nil IsOther

-- an admin entry makes a Closing only as its first effect
entry_once : (rules : FrontRules) (past : Past) (o : Option Sqe) → NoClosing (all_but_first (made_of rules past o))
entry_once rules past None = All-nil IsOther
entry_once rules past (Some entry) = made_once past (verdict_of rules.start (table_history rules past) entry)

-- the latest picked command makes a Closing only as its first effect
pub last_once : (rules : FrontRules) (past : Past) → NoClosing (all_but_first (made_last rules past))
last_once rules [] = All-nil IsOther
last_once rules (Pick seen pick ∷ past) = of_admin (pick.qid == 0) where
  -- an I/O command makes nothing
  of_admin : (admin : Bool) → NoClosing (all_but_first (if admin then made_of rules past (admin_entry past) else []))
  of_admin true = entry_once rules past (admin_entry past)
  of_admin false = All-nil IsOther
last_once rules (e ∷ past) = last_once rules past

-- no Closing comes after another effect of one command
pub closing_is_first : (es rest made : List Event) (qid r : ℕ) → (es ≡ [] → ⊥) → (es ++ Closing qid r ∷ []) ++ rest ≡ made → NoClosing (all_but_first made) → ⊥
closing_is_first [] rest made qid r some is none = some refl
closing_is_first (e ∷ es) rest made qid r some is none = closing_among es rest qid r (subst (λ (xs : List Event). NoClosing (all_but_first xs)) (sym is) none)

-- ---- what stays so after a deletion began
-- the deletion of a region's queue is pending, and the latest picked command made something
record IsBegun (past : Past) (qid r : ℕ) : Type 0 where
  pub pending_is : pending past ≡ Some (record { qid = qid; region = r })
  pub has_effects : effects_since past ≡ [] → ⊥

-- the deletion of a region's queue is pending, or was finished
abbrev IsEnding : Past → ℕ → ℕ → Type 0
IsEnding past qid r = IsBegun past qid r ⊎ (is_closed_region past r ≡ true)

-- a list that ends with an event isn't empty
pub pushed_some : (es : List Event) (e : Event) → es ++ e ∷ [] ≡ [] → ⊥
pushed_some [] e h = cc h
pushed_some (x ∷ es) e h = cc h

-- after the next event the deletion is still pending or was finished, and the event fetched nothing from the region
record StaysEnding (past : Past) (e : Event) (qid r : ℕ) : Type 0 where
  pub ending : IsEnding (e ∷ past) qid r
  pub same : fetched (e ∷ past) r ≡ fetched past r

-- an event that fetches nothing from the region and leaves the deletion pending
begun_on : (past : Past) (e : Event) (qid r : ℕ) → pending (e ∷ past) ≡ Some (record { qid = qid; region = r }) → (effects_since (e ∷ past) ≡ [] → ⊥)
    → fetched (e ∷ past) r ≡ fetched past r → StaysEnding past e qid r
begun_on past e qid r is some same = record { ending = inl (record { pending_is = is; has_effects = some }); same = same }

-- at each event that comes while the deletion is pending
from_begun : (rules : FrontRules) (past : Past) (e : Event) (qid r : ℕ) → EffectsAtOnce rules past e → Deletes past e → IsBegun past qid r → StaysEnding past e qid r
from_begun rules past (Fetch region index entry) qid r at_once deletes h = absurd (let a = deletes.0 in let b = h.pending_is in cc)
from_begun rules past (Pick seen pick) qid r at_once deletes h = absurd (let b = h.pending_is in cc)
from_begun rules past (SetArbitration settings) qid r at_once deletes h = begun_on past _ qid r h.pending_is (pushed_some _ _) refl
from_begun rules past (OpenSq q region cqid class) qid r at_once deletes h = begun_on past _ qid r h.pending_is (pushed_some _ _) refl
from_begun rules past (OpenCq q region) qid r at_once deletes h = begun_on past _ qid r h.pending_is (pushed_some _ _) refl
from_begun rules past (Closing q region) qid r at_once deletes h =
    absurd (closing_is_first (effects_since past) at_once.0 (made_last rules past) q region h.has_effects at_once.1 (last_once rules past))
from_begun rules past (Abort region index) qid r at_once deletes h = begun_on past _ qid r h.pending_is (pushed_some _ _) refl
from_begun rules past (Post cq_region region index cqe) qid r at_once deletes h = begun_on past _ qid r h.pending_is h.has_effects refl
from_begun rules past (ClosedSq q region) qid r at_once deletes h =
    let same : region ≡ r = ap (λ (d : Deletion). d.region) (same_Some _ _ (sym deletes.0 ∙ h.pending_is)) in
    record { ending = inr (rw (eq-eqb region r same) refl); same = refl }
from_begun rules past (ClosedCq q region) qid r at_once deletes h = begun_on past _ qid r h.pending_is (pushed_some _ _) refl

-- at each event that comes after the deletion was finished: a Fetch is of another region
from_closed : (past : Past) (e : Event) (qid r : ℕ) → Deletes past e → is_closed_region past r ≡ true → StaysEnding past e qid r
from_closed past (Fetch region index entry) qid r deletes h = elim (cases_Bool (region == r)) [
  | inl here ↦ absurd (let a = deletes.1 in let b = ap (is_closed_region past) (eqb-true region r here) in cc)
  | inr other ↦ record { ending = inr h; same = rw other refl }
]
from_closed past (ClosedSq q region) qid r deletes h = record { ending = inr (closed_too (region == r)); same = refl } where
  -- one more closed region leaves it closed
  closed_too : (here : Bool) → (here || is_closed_region past r) ≡ true
  closed_too true = refl
  closed_too false = h
from_closed past e qid r deletes h = record { ending = inr h; same = refl }

-- after the deletion of a region's queue began it is pending or was finished, and nothing more is fetched from the region
record IsOver (later before : Past) (qid r : ℕ) : Type 0 where
  pub ending : IsEnding (later ++ Closing qid r ∷ before) qid r
  pub same : fetched (later ++ Closing qid r ∷ before) r ≡ fetched before r

-- it is so after any number of events
fetches_over : (rules : FrontRules) (later before : Past) (qid r : ℕ) → Each (EffectsAtOnce rules) (later ++ Closing qid r ∷ before) → Each Deletes (later ++ Closing qid r ∷ before)
    → IsOver later before qid r
fetches_over rules [] before qid r at_once deletes =
    record { ending = inl (record { pending_is = refl; has_effects = pushed_some (effects_since before) (Closing qid r) }); same = refl }
fetches_over rules (e ∷ later) before qid r at_once deletes =
    let past : Past = later ++ Closing qid r ∷ before in
    let earlier = fetches_over rules later before qid r at_once.1 deletes.1 in
    let next : StaysEnding past e qid r = elim earlier.ending [
      | inl begun ↦ from_begun rules past e qid r at_once.0 deletes.0 begun
      | inr closed ↦ from_closed past e qid r deletes.0 closed
    ] in
    record { ending = next.ending; same = next.same ∙ earlier.same }

pub none_after_deletion : (rules : FrontRules) (past : Past) → Each (EffectsAtOnce rules) past → Each Deletes past
    → (later before : Past) (qid r : ℕ) → past ≡ later ++ Closing qid r ∷ before → fetched past r ≡ fetched before r
none_after_deletion rules past at_once deletes later before qid r is =
    ap (λ (p : Past). fetched p r) is
    ∙ (fetches_over rules later before qid r (subst (Each (EffectsAtOnce rules)) is at_once) (subst (Each Deletes) is deletes)).same

-- after the answer of the command that began a deletion nothing is fetched from its region, since nothing is from the beginning on
pub answered_over : (rules : FrontRules) (past later middle before : Past) (e : Event) (qid r : ℕ) → past ≡ later ++ e ∷ (middle ++ Closing qid r ∷ before)
    → Each (EffectsAtOnce rules) past → Each Deletes past → fetched past r ≡ fetched (middle ++ Closing qid r ∷ before) r
answered_over rules past later middle before e qid r is at_once deletes =
    let all : past ≡ (later ++ e ∷ middle) ++ Closing qid r ∷ before = is ∙ sym (append_assoc later (e ∷ middle) (Closing qid r ∷ before)) in
    let first : past ≡ (later ++ e ∷ []) ++ (middle ++ Closing qid r ∷ before) = is ∙ sym (append_assoc later (e ∷ []) (middle ++ Closing qid r ∷ before)) in
    let whole = fetches_over rules (later ++ e ∷ middle) before qid r (subst (Each (EffectsAtOnce rules)) all at_once) (subst (Each Deletes) all deletes) in
    let part = fetches_over rules middle before qid r
    (Each-after (EffectsAtOnce rules) (later ++ e ∷ []) _ (subst (Each (EffectsAtOnce rules)) first at_once))
    (Each-after Deletes (later ++ e ∷ []) _ (subst (Each Deletes) first deletes)) in
    ap (λ (p : Past). fetched p r) all ∙ whole.same ∙ sym part.same

-- ---- the command that begins a deletion
-- the first event after a pick whose command makes something is the first of what it makes
pub first-is_made : (rules : FrontRules) (past : Past) (e one : Event) (more : List Event) → EffectsAtOnce rules past e → effects_since past ≡ [] → made_last rules past ≡ one ∷ more → e ≡ one
first-is_made rules past e one more h none made = by (is_effect e) refl where
  by : (b : Bool) → is_effect e ≡ b → e ≡ one
  by true eff =
      let p = MatchBool-at_true (IsPrefix (effects_since past ++ e ∷ []) (made_last rules past)) (effects_since past ≡ made_last rules past) eff h in
      let all : e ∷ p.0 ≡ one ∷ more = ap (λ (z : List Event). (z ++ e ∷ []) ++ p.0) (sym none) ∙ p.1 ∙ made in
      cc
  by false eff =
      let all = MatchBool-at_false (IsPrefix (effects_since past ++ e ∷ []) (made_last rules past)) (effects_since past ≡ made_last rules past) eff h in
      let no : [] ≡ one ∷ more = sym none ∙ all ∙ made in
      cc

-- after the pick of a command that deletes a queue its deletion began, before anything else
record Begins (between : Past) (qid r : ℕ) : Type 0 where
  pub rest : Past
  pub is : between ≡ rest ++ Closing qid r ∷ []

begins : (rules : FrontRules) (between after : Past) (e : Event) (qid r : ℕ) (more : List Event) → is_effect e ≡ false → effects_since after ≡ [] → made_last rules after ≡ Closing qid r ∷ more
    → Each (EffectsAtOnce rules) (e ∷ (between ++ after)) → Begins between qid r
begins rules [] after e qid r more other none made h = absurd (let same : e ≡ Closing qid r = first-is_made rules after e (Closing qid r) more h.0 none made in let yes : is_effect e ≡ true = ap is_effect same in cc)
begins rules (x ∷ between) after e qid r more other none made h =
    let it = ends-with x between in
    let split : (x ∷ between) ++ after ≡ it.rest ++ it.last ∷ after = ap (λ (z : Past). z ++ after) it.is ∙ append_assoc it.rest (it.last ∷ []) after in
    let here : Each (EffectsAtOnce rules) (it.last ∷ after) = Each-after (EffectsAtOnce rules) it.rest (it.last ∷ after) (subst (Each (EffectsAtOnce rules)) split h.1) in
    let same : it.last ≡ Closing qid r = first-is_made rules after it.last (Closing qid r) more here.0 none made in
    record { rest = it.rest; is = it.is ∙ ap (λ (z : Event). it.rest ++ z ∷ []) same }

-- a place that was posted never waits again, so its command isn't picked later
never-later : (between before : Past) (c i : ℕ) (cqe : Cqe) → is_waiting (fate_of before 0 i) ≡ false
    → slice_get (waiting (between ++ Post c 0 i cqe ∷ before) 0) 0 ≡ Some i → ⊥
never-later between before c i cqe served oldest =
    let now : Past = between ++ Post c 0 i cqe ∷ before in
    let none : is_waiting (fate_of now 0 i) ≡ false = stays_on between (Post c 0 i cqe ∷ before) 0 i (stays (Post c 0 i cqe) before 0 i served) in
    let waits : is_waiting (fate_of now 0 i) ≡ true = (in-waits now 0 i (in-first i (waiting now 0) oldest)).1 in
    cc

-- nothing is fetched from a queue after the command that deletes it was answered
pub none_after_delete : (rules : FrontRules) (executor : Executor) (past : Past) → Each (EffectsAtOnce rules) past → Each Deletes past → Each (PostsOwnBy rules executor) past
    → NoneAfterDelete rules past
none_after_delete rules executor past at_once deletes own i qid r d later before c cqe posted =
    elim (cuts d.later d.before later before (Pick d.seen d.pick) (Post c 0 i cqe) (sym d.stands ∙ posted)) [
      | inl it ↦
          let after : Past = Pick d.seen d.pick ∷ d.before in
          let at : Each (EffectsAtOnce rules) (Post c 0 i cqe ∷ before) = Each-after (EffectsAtOnce rules) later (Post c 0 i cqe ∷ before) (subst (Each (EffectsAtOnce rules)) posted at_once) in
          let made : made_last rules after ≡ closing_of d.before qid (open_sq d.before qid) = made-pick rules d.before d.seen d.pick i (BeginDelete qid) d.taken in
          let closes : made_last rules after ≡ Closing qid r ∷ map (λ (k : ℕ). Abort d.queue.region k) (waiting d.before d.queue.region) =
          made ∙ ap (closing_of d.before qid) d.is_open ∙ ap (λ (z : ℕ). Closing qid z ∷ map (λ (k : ℕ). Abort d.queue.region k) (waiting d.before d.queue.region)) d.region in
          let first = begins rules it.between after (Post c 0 i cqe) qid r _ refl refl closes (subst (λ (z : Past). Each (EffectsAtOnce rules) (Post c 0 i cqe ∷ z)) it.right at) in
          let is : before ≡ first.rest ++ Closing qid r ∷ after = it.right ∙ ap (λ (z : Past). z ++ after) first.is ∙ append_assoc first.rest (Closing qid r ∷ []) after in
          answered_over rules past later first.rest after (Post c 0 i cqe) qid r (posted ∙ ap (λ (z : Past). later ++ Post c 0 i cqe ∷ z) is) at_once deletes
          ∙ sym (ap (λ (z : Past). fetched z r) is)
      | inr (inl e) ↦ absurd (cc e)
      | inr (inr it) ↦
          let here : Each (PostsOwnBy rules executor) (Post c 0 i cqe ∷ before) = Each-after (PostsOwnBy rules executor) later (Post c 0 i cqe ∷ before) (subst (Each (PostsOwnBy rules executor)) posted own) in
          absurd (never-later it.between before c i cqe here.0.1 (subst (λ (z : Past). slice_get (waiting z 0) 0 ≡ Some i) it.right d.taken.oldest))
    ]

-- a whole account keeps the promise of a run
pub whole_promise_by : WholeAccountsKeepThePromiseBy
whole_promise_by rules executor loaded scripts sent past collected h =
    let answers = whole_answers_by rules executor loaded scripts sent past collected h in
    record {
      fetched_in_order = h.account.fetched_in_order;
      none_after_deletion = none_after_deletion rules past h.account.effects_at_once h.account.deletes;
      none_after_answer = λ later middle before qid r c i cqe is _.
          answered_over rules past later middle before (Post c 0 i cqe) qid r is h.account.effects_at_once h.account.deletes;
      one_completion = answers.one_completion;
      lawful = h.account.lawful;
      observed = h.account.observed;
      effects_at_once = h.account.effects_at_once;
      effects_whole = h.account.effects_whole;
      none_after_delete = none_after_delete rules executor past h.account.effects_at_once h.account.deletes h.account.posts_own;
      nothing_else = h.all_collected;
      picked_once = picked_once past;
      aborted_unpicked = aborted_unpicked rules past h.account.effects_at_once;
      completed_after = completed_after rules executor sent past collected h.account;
    }

pub whole_promise : WholeAccountsKeepThePromise
whole_promise rules = whole_promise_by rules (by_outcome rules)
