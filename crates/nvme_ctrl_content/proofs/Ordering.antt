-- Ready completions stay in the order in which they became ready, when a command is answered or aborted and when a completion is posted.
use Rattle.std.proofs.Common.{◌≡◌, ℕ, ◌==◌, Bool, true, false, if◌then◌else◌, List, [], ◌∷◌, ◌++◌, map, take, length, Option, Some, None, refl, sym, ap, ◌∙◌, subst, arith, inl, inr}
use Rattle.std.specs.Prelude.{option_to_list, slice_get}
use Rattle.std.proofs.lemmas.Bool.{cases_eq, eq-eqb, ne_eqb}
use Rattle.std.proofs.lemmas.List.{append_assoc, append-nil, map-append, length-append}
use Rattle.nvme_arbiter.specs.Board.{BoardView}
use Rattle.nvme_entry.specs.declared.completion.Cqe.{Cqe}
use Rattle.nvme_admin.specs.declared.verdict.Verdict.{Verdict}
use Rattle.nvme_admin.specs.declared.verdict.Verdict.TheVariants.{Done, BeginDelete, CloseCq}
use Rattle.nvme_admin.specs.declared.verdict.Verdict.TheVariants as verdict
use Rattle.nvme_log.specs.declared.event.Event.{Event}
use Rattle.nvme_log.specs.declared.event.Event.TheVariants as event
use Rattle.nvme_log.specs.declared.place.Place.{Place}
use Rattle.nvme_log.specs.Dispatches.{place_at}
use Rattle.nvme_log.specs.Rules.{Past}
use Rattle.nvme_log.specs.Queues.{Queue, open_cq, cq_region_of}
use Rattle.nvme_log.specs.Places.{waiting}
use Rattle.nvme_log.specs.Completions.{posted_to}
use Rattle.nvme_log.specs.Effects.{abort_in, closing_of, closed_cq_of, made_by, named, target_of}
use Rattle.nvme_log.specs.Answers.{Answer}
use Rattle.nvme_ctrl_log.specs.Notes.{Notes, Logged, Answered, logged}
use Rattle.nvme_ctrl_log.specs.Ready.{posts_to, ready_in, PostsInOrder}
use Rattle.nvme_ctrl_log.specs.Steps.{with_logged}
use Rattle.nvme_ctrl_log.proofs.QueueWords.{at_same, at_other}
use Rattle.nvme_ctrl_content.specs.Content.{Candidate, Ready, Content, with_ready}
use Rattle.nvme_ctrl_content.specs.Order.{posted_places, ready_places, AreInOrder, HoldsOrder}
use Rattle.nvme_ctrl_content.specs.Carrying.{opening_cq}
use Rattle.nvme_ctrl_content.specs.Steps.{aborted, oldest_named, requested}
use Rattle.nvme_ctrl_content.proofs.AfterSteps.{after_admin, deleting_from, aborting_from, aborting_in, answered, told_abort, with_opened, with_requested, after_post, closing_from}
use Rattle.nvme_ctrl_content.proofs.Readying.{GrowsBy, put-grows}

-- ---- completions become ready
-- those of these places, of a region that posts to a completion region
record Readied (notes new : Notes) (a : ℕ) (ps : List Place) : Type 0 where
  pub ready : (x : ℕ) → ready_in new x ≡ (if a == x then ready_in notes x ++ ps else ready_in notes x)
  pub posted : (x : ℕ) → posted_places (logged new) x ≡ posted_places (logged notes) x

order_grows : (notes new : Notes) (before after : ℕ → List Ready) (a : ℕ) (ts : List Ready) → Readied notes new a (ready_places ts) → GrowsBy before after a ts
    → AreInOrder notes before → AreInOrder new after
order_grows notes new before after a ts n g h x = elim (cases_eq a x) [
  | inl same ↦ (let here : after x ≡ before x ++ ts = subst (λ (z : ℕ). after z ≡ before z ++ ts) same g.here in
      n.ready x ∙ at_same a x (ready_in notes x ++ ready_places ts) (ready_in notes x) same
      ∙ ap (λ (ps : List Place). ps ++ ready_places ts) (h x)
      ∙ append_assoc (posted_places (logged notes) x) (ready_places (before x)) (ready_places ts)
      ∙ ap (λ (ps : List Place). posted_places (logged notes) x ++ ps) (sym (ap ready_places here ∙ map-append (λ (t : Ready). t.place) (before x) ts))
      ∙ ap (λ (ps : List Place). ps ++ ready_places (after x)) (sym (n.posted x)))
  | inr other ↦ n.ready x ∙ at_other a x (ready_in notes x ++ ready_places ts) (ready_in notes x) other
      ∙ h x ∙ ap (λ (ts : List Ready). posted_places (logged notes) x ++ ready_places ts) (sym (g.elsewhere x (λ e. other (sym e))))
      ∙ ap (λ (ps : List Place). ps ++ ready_places (after x)) (sym (n.posted x))
]

-- where a command of a region is answered, or aborted
by_region : (past : Past) (r a x : ℕ) (ps qs : List Place) → cq_region_of past r ≡ Some a → (if posts_to past r x then qs ++ ps else qs) ≡ (if a == x then qs ++ ps else qs)
by_region past r a x ps qs is = rw is refl

answered-readies : (notes : Notes) (r i a : ℕ) (answer : Answer) → cq_region_of (logged notes) r ≡ Some a → Readied notes (Answered r i answer ∷ notes) a (place_at r i ∷ [])
answered-readies notes r i a answer is = record { ready = λ x. by_region (logged notes) r a x (place_at r i ∷ []) (ready_in notes x) is; posted = λ x. refl }

-- where a command is answered, its completion is ready
pub order_answered : (notes : Notes) (k : Content) (r i a : ℕ) (answer : Answer) (t : Ready) → cq_region_of (logged notes) r ≡ Some a → t.place ≡ place_at r i
    → HoldsOrder notes k → HoldsOrder (Answered r i answer ∷ notes) (with_ready k a t)
order_answered notes k r i a answer t is place h =
    order_grows notes (Answered r i answer ∷ notes) _ _ a (t ∷ [])
    (subst (λ (p : Place). Readied notes (Answered r i answer ∷ notes) a (p ∷ [])) (sym place) (answered-readies notes r i a answer is))
    (put-grows k.cq a (t ∷ [])) h

-- where commands of a region are aborted, theirs are
aborts-ready : (is : List ℕ) (notes : Notes) (r a : ℕ) → cq_region_of (logged notes) r ≡ Some a
    → Readied notes (with_logged (map (λ (i : ℕ). event.Abort r i) is) notes) a (map (place_at r) is)
aborts-ready [] notes r a goes = record { ready = λ x. none (a == x) x; posted = λ x. refl } where
  none : (b : Bool) (x : ℕ) → ready_in notes x ≡ (if b then ready_in notes x ++ [] else ready_in notes x)
  none true x = sym (append-nil (ready_in notes x))
  none false x = refl
aborts-ready (i ∷ is) notes r a goes =
    let later = aborts-ready is (Logged (event.Abort r i) ∷ notes) r a goes in
    record { ready = λ x. later.ready x ∙ more x; posted = λ x. later.posted x }
  where
    more : (x : ℕ) → (if a == x then ready_in (Logged (event.Abort r i) ∷ notes) x ++ map (place_at r) is else ready_in (Logged (event.Abort r i) ∷ notes) x)
        ≡ (if a == x then ready_in notes x ++ place_at r i ∷ map (place_at r) is else ready_in notes x)
    more x = ap (λ (qs : List Place). if a == x then qs ++ map (place_at r) is else qs) (by_region (logged notes) r a x (place_at r i ∷ []) (ready_in notes x) goes) ∙ joined (a == x) where
      joined : (b : Bool) → (if b then (if b then ready_in notes x ++ place_at r i ∷ [] else ready_in notes x) ++ map (place_at r) is else (if b then ready_in notes x ++ place_at r i ∷ [] else ready_in notes x))
          ≡ (if b then ready_in notes x ++ place_at r i ∷ map (place_at r) is else ready_in notes x)
      joined true = append_assoc (ready_in notes x) (place_at r i ∷ []) (map (place_at r) is)
      joined false = refl

-- ---- what an admin command makes
-- the oldest candidate of a queue with a command identifier is aborted, whose completion goes to c
pub record FindsOldest (past : Past) (k : Content) (c : ℕ) (goes_to : Past) (queue : Queue) (cid : ℕ) : Type 0 where
  pub oldest : take 1 (named past queue.region cid) ≡ map (λ (x : Candidate). x.index) (option_to_list (oldest_named cid (k.sq queue.region).window))
  pub goes : (found : Candidate) → oldest_named cid (k.sq queue.region).window ≡ Some found → cq_region_of goes_to queue.region ≡ Some c

module _ (past : Past) (notes : Notes) (k : Content) (candidate : Candidate) (c : ℕ) (board : BoardView) (h : HoldsOrder notes k) where
  abbrev FindsIn : Queue → ℕ → Type 0
  FindsIn queue cid = FindsOldest past k c (logged notes) queue cid

  -- an Abort command that finds a candidate
  order_found : (queue : Queue) (sqid cid : ℕ) (found : Candidate) → cq_region_of (logged notes) queue.region ≡ Some c
      → HoldsOrder (Logged (event.Abort queue.region found.index) ∷ notes) (with_requested k sqid queue.region c cid board found)
  order_found queue sqid cid found goes =
      order_grows notes (Logged (event.Abort queue.region found.index) ∷ notes) _ _ c (requested sqid queue.region found ∷ [])
      (aborts-ready (found.index ∷ []) notes queue.region c goes) (put-grows k.cq c (requested sqid queue.region found ∷ [])) h

  -- an Abort command by the queue that it names
  order_aborting : (sqid cid : ℕ) (answer : Answer) (o : Option Queue) → cq_region_of (logged (with_logged (abort_in past cid o) notes)) 0 ≡ Some 0
      → ((queue : Queue) → o ≡ Some queue → FindsIn queue cid)
      → HoldsOrder (Answered 0 candidate.index answer ∷ with_logged (abort_in past cid o) notes) (aborting_from k candidate sqid c cid board o)
  order_aborting sqid cid answer None admin finds = order_answered notes k 0 candidate.index 0 answer (told_abort candidate 1) admin refl h
  order_aborting sqid cid answer (Some queue) admin finds = by (oldest_named cid (k.sq queue.region).window) refl where
    made : (x : Option Candidate) → oldest_named cid (k.sq queue.region).window ≡ x
        → abort_in past cid (Some queue) ≡ map (λ (i : ℕ). event.Abort queue.region i) (map (λ (y : Candidate). y.index) (option_to_list x))
    made x e = ap (λ (is : List ℕ). map (λ (i : ℕ). event.Abort queue.region i) is)
        ((finds queue refl).oldest ∙ ap (λ (y : Option Candidate). map (λ (z : Candidate). z.index) (option_to_list y)) e)

    by : (x : Option Candidate) → oldest_named cid (k.sq queue.region).window ≡ x
        → HoldsOrder (Answered 0 candidate.index answer ∷ with_logged (abort_in past cid (Some queue)) notes) (aborting_in k candidate sqid queue.region c cid board x)
    by None e =
        let made_admin = subst (λ (es : List Event). cq_region_of (logged (with_logged es notes)) 0 ≡ Some 0) (made None e) admin in
        subst (λ (es : List Event). HoldsOrder (Answered 0 candidate.index answer ∷ with_logged es notes) (with_ready k 0 (told_abort candidate 1))) (sym (made None e))
        (order_answered notes k 0 candidate.index 0 answer (told_abort candidate 1) made_admin refl h)
    by (Some found) e =
        let made_admin = subst (λ (es : List Event). cq_region_of (logged (with_logged es notes)) 0 ≡ Some 0) (made (Some found) e) admin in
        subst (λ (es : List Event). HoldsOrder (Answered 0 candidate.index answer ∷ with_logged es notes) (with_ready (with_requested k sqid queue.region c cid board found) 0 (told_abort candidate 0)))
        (sym (made (Some found) e))
        (order_answered (Logged (event.Abort queue.region found.index) ∷ notes) (with_requested k sqid queue.region c cid board found) 0 candidate.index 0 answer
        (told_abort candidate 0) made_admin refl (order_found queue sqid cid found ((finds queue refl).goes found e)))

  -- a command that is answered at once
  abbrev pub IsToldAtOnce : Verdict → Type 0
  IsToldAtOnce (BeginDelete qid) = ⊥
  IsToldAtOnce (verdict.Abort sqid cid) = (queue : Queue) → target_of past sqid ≡ Some queue → FindsIn queue cid
  IsToldAtOnce v = Unit {0}

  order_closed_cq : (qid : ℕ) (answer : Answer) (o : Option ℕ) → cq_region_of (logged (with_logged (closed_cq_of qid o) notes)) 0 ≡ Some 0
      → HoldsOrder (Answered 0 candidate.index answer ∷ with_logged (closed_cq_of qid o) notes) (with_ready (closing_from k qid o) 0 (answered candidate (CloseCq qid)))
  order_closed_cq qid answer None admin = order_answered notes (closing_from k qid None) 0 candidate.index 0 answer (answered candidate (CloseCq qid)) admin refl h
  order_closed_cq qid answer (Some region) admin =
      order_answered (Logged (event.ClosedCq qid region) ∷ notes) (closing_from k qid (Some region)) 0 candidate.index 0 answer (answered candidate (CloseCq qid)) admin refl h

  -- what it makes, and its answer
  pub order_told : (v : Verdict) (answer : Answer) → IsToldAtOnce v → cq_region_of (logged (with_logged (made_by past v) notes)) 0 ≡ Some 0
      → HoldsOrder (Answered 0 candidate.index answer ∷ with_logged (made_by past v) notes) (after_admin past k candidate c board v)
  order_told (Done status dw0) answer now admin = order_answered notes k 0 candidate.index 0 answer (answered candidate (Done status dw0)) admin refl h
  order_told (verdict.OpenSq qid region cqid class) answer now admin =
      order_answered (Logged (event.OpenSq qid region cqid class) ∷ notes) (with_opened k qid region c class) 0 candidate.index 0 answer (answered candidate (verdict.OpenSq qid region cqid class)) admin refl h
  order_told (verdict.OpenCq qid region) answer now admin =
      order_answered (Logged (event.OpenCq qid region) ∷ notes) (opening_cq k qid region) 0 candidate.index 0 answer (answered candidate (verdict.OpenCq qid region)) admin refl h
  order_told (BeginDelete qid) answer now admin = absurd now
  order_told (CloseCq qid) answer now admin = order_closed_cq qid answer (open_cq past qid) admin
  order_told (verdict.Abort sqid cid) answer now admin = order_aborting sqid cid answer (target_of past sqid) admin now
  order_told (verdict.SetArbitration settings) answer now admin =
      order_answered (Logged (event.SetArbitration settings) ∷ notes) (record k { board = board }) 0 candidate.index 0 answer (answered candidate (verdict.SetArbitration settings)) admin refl h

  -- the deletion of a queue begins
  pub order_begun : (qid : ℕ) (queue : Queue) → waiting past queue.region ≡ map (λ (x : Candidate). x.index) (k.sq queue.region).window → cq_region_of (logged notes) queue.region ≡ Some c
      → HoldsOrder (with_logged (closing_of past qid (Some queue)) notes) (deleting_from k qid c candidate (Some queue))
  order_begun qid queue waits goes =
      subst (λ (is : List ℕ). HoldsOrder (with_logged (map (λ (i : ℕ). event.Abort queue.region i) is) (Logged (event.Closing qid queue.region) ∷ notes)) (deleting_from k qid c candidate (Some queue))) (sym waits)
      (order_grows (Logged (event.Closing qid queue.region) ∷ notes) _ _ _ c (map (aborted qid queue.region) (k.sq queue.region).window)
      (subst (Readied (Logged (event.Closing qid queue.region) ∷ notes) _ c) (sym (places_are (k.sq queue.region).window))
      (aborts-ready (map (λ (x : Candidate). x.index) (k.sq queue.region).window) (Logged (event.Closing qid queue.region) ∷ notes) queue.region c goes))
      (put-grows k.cq c (map (aborted qid queue.region) (k.sq queue.region).window)) h) where
        places_are : (ws : List Candidate) → ready_places (map (aborted qid queue.region) ws) ≡ map (place_at queue.region) (map (λ (x : Candidate). x.index) ws)
        places_are [] = refl
        places_are (x ∷ ws) = ap (λ (ps : List Place). place_at queue.region x.index ∷ ps) (places_are ws)

-- ---- a completion is posted
-- as many places as completions
as_many : (past : Past) (c : ℕ) → length (posted_places past c) ≡ length (posted_to past c)
as_many [] c = refl
as_many (event.Post x r i cqe ∷ past) c = by (as_many past c) (x == c) where
  by : length (posted_places past c) ≡ length (posted_to past c) → (b : Bool) → length (if b then posted_places past c ++ place_at r i ∷ [] else posted_places past c) ≡ length (if b then posted_to past c ++ cqe ∷ [] else posted_to past c)
  by before true =
      let places = length-append (posted_places past c) (place_at r i ∷ []) in
      let completions = length-append (posted_to past c) (cqe ∷ []) in
      omega (arith, places, completions, before)
  by before false = before
as_many (e ∷ past) c = as_many past c

slice_get-behind : {X : Type 0} (xs : List X) (x : X) (ys : List X) → slice_get (xs ++ x ∷ ys) (length xs) ≡ Some x
slice_get-behind [] x ys = refl
slice_get-behind (y ∷ xs) x ys = slice_get-behind xs x ys

module _ (notes : Notes) (k : Content) (h : HoldsOrder notes k) (c : ℕ) (t : Ready) (rest : List Ready) (cqe : Cqe) (oldest : (k.cq c).ready ≡ t ∷ rest) where
  order_here : ready_in notes c ≡ posted_places (logged notes) c ++ t.place ∷ ready_places rest
  order_here = h c ∙ ap (λ (ts : List Ready). posted_places (logged notes) c ++ ready_places ts) oldest

  -- it is the oldest that is ready
  pub first_is_next : PostsInOrder notes (event.Post c t.place.region t.place.index cqe)
  first_is_next =
      subst (λ (n : ℕ). slice_get (ready_in notes c) n ≡ Some t.place) (as_many (logged notes) c)
      (subst (λ (ps : List Place). slice_get ps (length (posted_places (logged notes) c)) ≡ Some t.place) (sym order_here)
      (slice_get-behind (posted_places (logged notes) c) t.place (ready_places rest)))

  pub order_posted : HoldsOrder (Logged (event.Post c t.place.region t.place.index cqe) ∷ notes) (after_post k c t rest cqe)
  order_posted x = elim (cases_eq c x) [
    | inl same ↦ (let here : ready_in notes x ≡ posted_places (logged notes) x ++ t.place ∷ ready_places rest =
        subst (λ (z : ℕ). ready_in notes z ≡ posted_places (logged notes) z ++ t.place ∷ ready_places rest) same order_here in
        here ∙ sym (append_assoc (posted_places (logged notes) x) (t.place ∷ []) (ready_places rest))
        ∙ rw (eq-eqb c x same, eq-eqb x c (sym same)) refl)
    | inr other ↦ h x ∙ rw (ne_eqb c x other, ne_eqb x c (λ e. other (sym e))) refl
  ]
