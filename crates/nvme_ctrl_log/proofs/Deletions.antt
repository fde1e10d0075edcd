-- Deletions and picks in a controller's log.
use Rattle.std.proofs.Common.{◌≡◌, ℕ, zero, suc, ◌==◌, ◌&&◌, ◌||◌, ◌⊎◌, Bool, true, false, List, [], ◌∷◌, ◌++◌, length, Option, Some, None, refl, sym, ap, ◌∙◌, subst, inl, inr, if◌then◌else◌}
use Rattle.std.specs.Prelude.{slice_get, is_some}
use Rattle.std.specs.List.{list_all}
use Rattle.std.proofs.lemmas.Bool.{cases_Bool, cases_eq, eq-eqb, eqb-true, ne_eqb}
use Rattle.std.proofs.lemmas.List.Folds.{list_all-append}
use Rattle.std.proofs.lemmas.Option.{same_Some}
use Rattle.nvme_arbiter.specs.Lawful.{IsLimitedRun}
use Rattle.nvme_arbiter.proofs.PickLaws.{limited_prefixes}
use Rattle.nvme_log.specs.declared.event.Event.{Event}
use Rattle.nvme_log.specs.declared.event.Event.TheVariants.{Fetch, Pick, Closing, Post, ClosedSq}
use Rattle.nvme_log.specs.declared.event.Event.TheVariants as event
use Rattle.nvme_log.specs.Rules.{Past, FrontRules, Each, upto}
use Rattle.nvme_log.specs.Queues.{open_sq, is_closed_region}
use Rattle.nvme_log.specs.Places.{fetched, places, waiting, fate_of, is_waiting}
use Rattle.nvme_log.specs.Histories.{arbitration_of, admin_entry}
use Rattle.nvme_log.specs.Aborts.{is_index}
use Rattle.nvme_log.specs.Completions.{is_posted}
use Rattle.nvme_log.specs.Effects.{made_of, made_last, effects_since, EffectsAtOnce}
use Rattle.nvme_log.specs.Account.{latest_admin_place}
use Rattle.nvme_log.proofs.Members.{IsIn}
use Rattle.nvme_log.proofs.Posts.{all_below}
use Rattle.nvme_log.proofs.Prefixes.{arbitration_of-append}
use Rattle.nvme_log.proofs.Turns.{in-waits}
use Rattle.nvme_ctrl_log.specs.Deletions.{deleting, is_deleted_queue, FollowsDeletions}
use Rattle.nvme_ctrl_log.specs.Notes.{Notes, Logged, logged}
use Rattle.nvme_ctrl_log.specs.Account.{IsLawful}
use Rattle.nvme_ctrl_log.specs.Laws.{DeletesAreAnsweredLast, PicksAreLawful, NoneFetchedAfterDeletion, NonePickedAfterDeletion}
use Rattle.nvme_ctrl_log.proofs.Noted.{EachNote-after, logged-append, each-event}
use Rattle.nvme_ctrl_log.proofs.Posting.{posted_done}

-- ---- after a deletion
-- what holds of the numbers below n holds where it is weakened
all-weaker : (p q : ℕ → Bool) → ((i : ℕ) → p i ≡ true → q i ≡ true) → (n : ℕ) → list_all p (upto n) ≡ true → list_all q (upto n) ≡ true
all-weaker p q h zero a = refl
all-weaker p q h (suc n) a =
    let split = both (list_all p (upto n)) (list_all p (n ∷ [])) (sym (list_all-append p (upto n) (n ∷ [])) ∙ a) in
    list_all-append q (upto n) (n ∷ []) ∙ join (list_all q (upto n)) (list_all q (n ∷ [])) (all-weaker p q h n split.0) (last (p n) (q n) (h n) split.1)
  where
    both : (a b : Bool) → (a && b) ≡ true → (a ≡ true) × (b ≡ true)
    both true true e = (refl, refl)
    both true false e = cc e
    both false b e = cc e

    join : (a b : Bool) → a ≡ true → b ≡ true → (a && b) ≡ true
    join a b e f = rw (e, f) refl

    last : (a b : Bool) → (a ≡ true → b ≡ true) → (a && true) ≡ true → (b && true) ≡ true
    last true b k e = rw (k refl) refl
    last false b k e = cc e

-- all places of a region are posted
abbrev AllPosted : Past → ℕ → Type 0
AllPosted past r = list_all (λ (i : ℕ). is_posted past r i) (places past r) ≡ true

-- it stays so of a region whose queue's deletion was finished
closed-all_posted : (past : Past) → Each FollowsDeletions past → (r : ℕ) → is_closed_region past r ≡ true → AllPosted past r
closed-all_posted [] h r closed = cc closed
closed-all_posted (Fetch region index entry ∷ past) h r closed = elim (cases_Bool (region == r)) [
  | inl here ↦ absurd (let a = h.0.1 in let b = ap (is_closed_region past) (eqb-true region r here) in cc)
  | inr other ↦ rw other (closed-all_posted past h.1 r closed)
]
closed-all_posted (Post c region index cqe ∷ past) h r closed =
    all-weaker (λ (i : ℕ). is_posted past r i) (λ (i : ℕ). is_posted (Post c region index cqe ∷ past) r i) (λ i. more (region == r && index == i) (is_posted past r i))
    (length (fetched past r)) (closed-all_posted past h.1 r closed)
  where
    more : (a b : Bool) → b ≡ true → (a || b) ≡ true
    more true b e = refl
    more false b e = e
closed-all_posted (ClosedSq qid region ∷ past) h r closed = elim (cases_Bool (region == r)) [
  | inl here ↦ subst (AllPosted past) (eqb-true region r here) h.0.2
  | inr other ↦ closed-all_posted past h.1 r (earlier (region == r) (is_closed_region past r) other closed)
]
  where
    earlier : (a b : Bool) → a ≡ false → (a || b) ≡ true → b ≡ true
    earlier a b e k = rw e at k
closed-all_posted (e ∷ past) h r closed = closed-all_posted past h.1 r closed

-- the deletion of a region's queue is pending, begun by the command of this place, or it is finished
abbrev IsDeletedBy : Past → ℕ → ℕ → Type 0
IsDeletedBy past r i = (deleting past r ≡ Some i) ⊎ (is_closed_region past r ≡ true)

-- it stays so
next : (past : Past) (e : Event) (r i : ℕ) → FollowsDeletions past e → deleting past r ≡ Some i → IsDeletedBy (e ∷ past) r i
next past (Closing q region) r i follows h = elim (cases_eq region r) [
  | inl same ↦ absurd (let none : deleting past r ≡ None = ap (deleting past) (sym same) ∙ follows.0 in cc (none, h))
  | inr other ↦ inl (ap (λ (b : Bool). if b then latest_admin_place past else deleting past r) (ne_eqb region r other) ∙ h)
]
next past (ClosedSq q region) r i follows h = elim (cases_eq region r) [
  | inl same ↦ inr (ap (λ (b : Bool). b || is_closed_region past r) (eq-eqb region r same))
  | inr other ↦ inl (ap (λ (b : Bool). if b then None else deleting past r) (ne_eqb region r other) ∙ h)
]
next past e r i follows h = inl h

still : (past : Past) (e : Event) (r : ℕ) → is_closed_region past r ≡ true → is_closed_region (e ∷ past) r ≡ true
still past (ClosedSq q region) r h = too (region == r) where
  too : (a : Bool) → (a || is_closed_region past r) ≡ true
  too true = refl
  too false = h
still past e r h = h

since : (later before : Past) (qid r i : ℕ) → Each FollowsDeletions (later ++ Closing qid r ∷ before) → latest_admin_place before ≡ Some i
    → IsDeletedBy (later ++ Closing qid r ∷ before) r i
since [] before qid r i follows place = inl (ap (λ (b : Bool). if b then latest_admin_place before else deleting before r) (eq-eqb r r refl) ∙ place)
since (e ∷ later) before qid r i follows place =
    let past : Past = later ++ Closing qid r ∷ before in
    elim (since later before qid r i follows.1 place) [
      | inl begun ↦ next past e r i follows.0 begun
      | inr closed ↦ inr (still past e r closed)
    ]

-- nothing is fetched from the region
none_fetched : (later before : Past) (qid r i : ℕ) → Each FollowsDeletions (later ++ Closing qid r ∷ before) → latest_admin_place before ≡ Some i
    → fetched (later ++ Closing qid r ∷ before) r ≡ fetched before r
none_fetched [] before qid r i follows place = refl
none_fetched (Fetch region index entry ∷ later) before qid r i follows place =
    let past : Past = later ++ Closing qid r ∷ before in
    elim (cases_eq region r) [
      | inl same ↦ absurd (
          let none : deleting past r ≡ None = ap (deleting past) (sym same) ∙ follows.0.0 in
          let unclosed : is_closed_region past r ≡ false = ap (is_closed_region past) (sym same) ∙ follows.0.1 in
          elim (since later before qid r i follows.1 place) [
            | inl begun ↦ cc (none, begun)
            | inr closed ↦ cc (unclosed, closed)
          ])
      | inr other ↦ ap (λ (b : Bool). if b then fetched past r ++ entry ∷ [] else fetched past r) (ne_eqb region r other) ∙ none_fetched later before qid r i follows.1 place
    ]
none_fetched (e ∷ later) before qid r i follows place = none_fetched later before qid r i follows.1 place

-- ---- the command of a deletion
-- a deletion begins after the pick of an admin command
pub record HasPlace (past : Past) : Type 0 where
  pub index : ℕ
  pub is : latest_admin_place past ≡ Some index

-- where the latest pick makes something
made_has_place : (rules : FrontRules) (past : Past) → (made_last rules past ≡ [] → ⊥) → HasPlace past
made_has_place rules [] some = absurd (some refl)
made_has_place rules (Pick seen pick ∷ past) some = by (pick.qid == 0) refl some where
  place : (o : Option ℕ) → slice_get (waiting past 0) 0 ≡ o → latest_admin_place (Pick seen pick ∷ past) ≡ slice_get (waiting past 0) 0 → (made_of rules past (admin_entry past) ≡ [] → ⊥) → HasPlace (Pick seen pick ∷ past)
  place None none is made = absurd (made (none_made none)) where
    none_made : slice_get (waiting past 0) 0 ≡ None → made_of rules past (admin_entry past) ≡ []
    none_made e = rw e refl
  place (Some i) first is made = record { index = i; is = is ∙ first }

  by : (b : Bool) → (pick.qid == 0) ≡ b → ((if b then made_of rules past (admin_entry past) else []) ≡ [] → ⊥) → HasPlace (Pick seen pick ∷ past)
  by false e made = absurd (made refl)
  by true e made = place (slice_get (waiting past 0) 0) refl (ap (λ (b : Bool). if b then slice_get (waiting past 0) 0 else latest_admin_place past) e) made
made_has_place rules (e ∷ past) some =
    let rest = made_has_place rules past some in
    record { index = rest.index; is = rest.is }

pub closing_has_place : (rules : FrontRules) (past : Past) (qid r : ℕ) → EffectsAtOnce rules past (Closing qid r) → HasPlace past
closing_has_place rules past qid r at_once = made_has_place rules past (λ none. absurd (
    let whole : (effects_since past ++ Closing qid r ∷ []) ++ at_once.0 ≡ [] = at_once.1 ∙ none in
    nothing (effects_since past) at_once.0 whole)) where
      nothing : (xs rest : List Event) → (xs ++ Closing qid r ∷ []) ++ rest ≡ [] → ⊥
      nothing [] rest e = cc e
      nothing (x ∷ xs) rest e = cc e

-- ---- the laws
pub deletes_are_answered_last : DeletesAreAnsweredLast
deletes_are_answered_last rules later middle before qid r c i cqe h place =
    let notes : Notes = middle ++ Logged (event.Closing qid r) ∷ before in
    let past : Past = logged middle ++ event.Closing qid r ∷ logged before in
    let all = EachNote-after (IsLawful rules) later (Logged (event.Post c 0 i cqe) ∷ notes) h.each in
    let split : logged notes ≡ past = logged-append middle (Logged (event.Closing qid r) ∷ before) in
    let follows : Each FollowsDeletions past = subst (Each FollowsDeletions) split (each-event _ rules (λ past e it. it.deletes) notes all.1) in
    let post : FollowsDeletions past (event.Post c 0 i cqe) = subst (λ (p : Past). FollowsDeletions p (event.Post c 0 i cqe)) split all.0.deletes in
    let last : AllPosted past r = elim (since (logged middle) (logged before) qid r i follows place) [
      | inl begun ↦ absurd (
          let yes : is_index i (deleting past r) ≡ true = ap (is_index i) begun ∙ eq-eqb i i refl in
          let no : is_index i (deleting past r) ≡ false = post.1 r in
          cc (yes, no))
      | inr closed ↦ closed-all_posted past follows r closed
    ] in
    subst (λ (p : Past). list_all (λ (k : ℕ). is_posted p r k) (places p r) ≡ true) (sym split) last

pub picks_are_lawful : PicksAreLawful
picks_are_lawful rules later before seen pick h =
    let notes : Notes = Logged (event.Pick seen pick) ∷ before in
    let here = (EachNote-after (IsLawful rules) later notes h.each).0 in
    let split : arbitration_of (logged (later ++ notes)) ≡ arbitration_of (logged later) ++ arbitration_of (logged notes) =
    ap arbitration_of (logged-append later notes) ∙ arbitration_of-append (logged later) (logged notes) in
    let run : IsLimitedRun rules.mechanism rules.start.settings (arbitration_of (logged notes)) =
    limited_prefixes rules.mechanism rules.start.settings (arbitration_of (logged later)) (arbitration_of (logged notes)) (rw split at h.lawful) in
    (here.observed, run.1)

pub none_fetched_after_deletion : NoneFetchedAfterDeletion
none_fetched_after_deletion rules later before qid r h =
    let notes : Notes = later ++ Logged (event.Closing qid r) ∷ before in
    let split : logged notes ≡ logged later ++ event.Closing qid r ∷ logged before = logged-append later (Logged (event.Closing qid r) ∷ before) in
    let here = (EachNote-after (IsLawful rules) later (Logged (event.Closing qid r) ∷ before) h.each).0 in
    let place = closing_has_place rules (logged before) qid r here.effects_at_once in
    let follows = subst (Each FollowsDeletions) split (each-event _ rules (λ past e it. it.deletes) notes h.each) in
    ap (λ (p : Past). fetched p r) split ∙ none_fetched (logged later) (logged before) qid r place.index follows place.is

pub none_picked_after_deletion : NonePickedAfterDeletion
none_picked_after_deletion rules later middle before seen pick qid r i h takes =
    let notes : Notes = middle ++ Logged (event.Closing qid r) ∷ before in
    let past : Past = logged middle ++ event.Closing qid r ∷ logged before in
    let all = EachNote-after (IsLawful rules) later (Logged (event.Pick seen pick) ∷ notes) h.each in
    let begun = (EachNote-after (IsLawful rules) middle (Logged (event.Closing qid r) ∷ before) all.1).0 in
    let place = closing_has_place rules (logged before) qid r begun.effects_at_once in
    let split : logged notes ≡ past = logged-append middle (Logged (event.Closing qid r) ∷ before) in
    let follows : Each FollowsDeletions past = subst (Each FollowsDeletions) split (each-event _ rules (λ past e it. it.deletes) notes all.1) in
    let opened : open_sq past pick.qid ≡ Some takes.queue = subst (λ (p : Past). open_sq p pick.qid ≡ Some takes.queue) split takes.is_open in
    let waits : IsIn i (waiting past r) = subst (λ (p : Past). IsIn i (waiting p r)) split (in-at i takes.position (waiting (logged notes) r) takes.stands) in
    let done : is_posted past r i ≡ true → is_waiting (fate_of past r i) ≡ false =
    subst (λ (p : Past). is_posted p r i ≡ true → is_waiting (fate_of p r i) ≡ false) split (posted_done rules notes all.1 r i) in
    elim (since (logged middle) (logged before) qid r place.index follows place.is) [
      | inl deleted ↦
          let no : is_some (deleting past r) ≡ false =
          ap (λ (x : ℕ). is_some (deleting past x)) (sym takes.region) ∙ ap (is_deleted_queue past) (sym opened)
          ∙ subst (λ (p : Past). is_deleted_queue p (open_sq p pick.qid) ≡ false) split all.0.deletes in
          let yes : is_some (deleting past r) ≡ true = ap (λ (o : Option ℕ). is_some o) deleted in
          cc (no, yes)
      | inr closed ↦
          let it = in-waits past r i waits in
          let posted : is_posted past r i ≡ true = all_below (λ (k : ℕ). is_posted past r k) (length (fetched past r)) (closed-all_posted past follows r closed) i it.0 in
          let not : is_waiting (fate_of past r i) ≡ false = done posted in
          let yes = it.1 in
          cc (not, yes)
    ]
  where
    in-at : (x k : ℕ) (xs : List ℕ) → slice_get xs k ≡ Some x → IsIn x xs
    in-at x k [] e = cc e
    in-at x zero (y ∷ xs) e = inl (same_Some _ _ e)
    in-at x (suc k) (y ∷ xs) e = inr (in-at x k xs e)
