-- The commands of a pick, taken one after another.
use Rattle.std.proofs.Common.{◌≡◌, ℕ, ◌+◌, Bool, List, [], ◌∷◌, ◌++◌, length, map, Option, Some, None, refl, sym, ap, ◌∙◌, subst, arith, append_assoc, append-nil}
use Rattle.std.specs.Prelude.{IfSome, IsSome}
use Rattle.std.proofs.lemmas.List.{length_push}
use Rattle.nvme_log.specs.Rules.{FrontRules, Past}
use Rattle.nvme_log.specs.Places.{entry_at}
use Rattle.nvme_log.specs.Dispatches.{place_at}
use Rattle.nvme_log.specs.declared.place.Place.{Place}
use Rattle.nvme_ctrl_log.specs.Notes.{Notes, Taken, logged}
use Rattle.nvme_ctrl_log.specs.Tags.{holder, answer_of}
use Rattle.nvme_engine.specs.Calls.{HasTaken}
use Rattle.nvme_engine.specs.Standing.{StandsAt, StandsBut, IsEngine}
use Rattle.nvme_engine.specs.declared.answers.Taking.{Taking}
use Rattle.nvme_engine.specs.declared.engine.Engine.{Engine}
use Rattle.nvme_jobs.specs.declared.dispatched.Dispatched.{Dispatched}
use Rattle.nvme_jobs.specs.inside.Jobs.{JobsView, with_job, next_job}
use Rattle.nvme_front.specs.inside.Dispatching.{taken_notes, with_jobs, AreDispatched, HasDispatched}

-- ---- lists of commands
-- what is taken is not logged
pub logged-taken : (ds : List Dispatched) (notes : Notes) → logged (taken_notes ds notes) ≡ logged notes
logged-taken [] notes = refl
logged-taken (d ∷ ds) notes = logged-taken ds (Taken d.tag d.place.region d.place.index ∷ notes)

-- one more is taken
pub taken-push : (ds : List Dispatched) (d : Dispatched) (notes : Notes) → taken_notes (ds ++ d ∷ []) notes ≡ Taken d.tag d.place.region d.place.index ∷ taken_notes ds notes
taken-push [] d notes = refl
taken-push (x ∷ ds) d notes = taken-push ds d (Taken x.tag x.place.region x.place.index ∷ notes)

-- as many commands as places
pub length-are : (notes : Notes) (region ticket : ℕ) (is : List ℕ) (ds : List Dispatched) → AreDispatched notes region ticket is ds → length ds ≡ length is
length-are notes region ticket [] [] are = refl
length-are notes region ticket (i ∷ is) (d ∷ ds) are =
    let rest = length-are (Taken d.tag region i ∷ notes) region (ticket + 1) is ds are.5 in
    omega (arith, rest)
length-are notes region ticket [] (d ∷ ds) are = absurd are
length-are notes region ticket (i ∷ is) [] are = absurd are

-- a command more, under a tag that stands for none
pub are-push : (notes : Notes) (region ticket : ℕ) (is : List ℕ) (ds : List Dispatched) → AreDispatched notes region ticket is ds → (i : ℕ) (d : Dispatched)
    → d.ticket ≡ ticket + length is → d.place ≡ place_at region i → entry_at (logged notes) region i ≡ Some d.entry
    → holder (taken_notes ds notes) d.tag ≡ None → answer_of (taken_notes ds notes) region i ≡ None → AreDispatched notes region ticket (is ++ i ∷ []) (ds ++ d ∷ [])
are-push notes region ticket [] [] are i d counts place entry free unanswered = (omega (arith, counts), place, entry, free, unanswered, tt)
are-push notes region ticket (x ∷ is) (c ∷ ds) are i d counts place entry free unanswered =
    let same : Taken c.tag c.place.region c.place.index ∷ notes ≡ Taken c.tag region x ∷ notes =
    ap (λ (p : Place). Taken c.tag p.region p.index ∷ notes) are.1 in
    let after : taken_notes (c ∷ ds) notes ≡ taken_notes ds (Taken c.tag region x ∷ notes) = ap (taken_notes ds) same in (
      are.0,
      are.1,
      are.2,
      are.3,
      are.4,
      are-push (Taken c.tag region x ∷ notes) region (ticket + 1) is ds are.5 i d (omega (arith, counts)) place entry
          (ap (λ (n : Notes). holder n d.tag) (sym after) ∙ free) (ap (λ (n : Notes). answer_of n region i) (sym after) ∙ unanswered),
    )
are-push notes region ticket [] (c ∷ ds) are i d counts place entry free unanswered = absurd are
are-push notes region ticket (x ∷ is) [] are i d counts place entry free unanswered = absurd are

-- the jobs with one more behind them
pub jobs-push : (j : JobsView) (ds : List Dispatched) (d : Dispatched) → with_job (with_jobs j ds) d ≡ with_jobs j (ds ++ d ∷ [])
jobs-push j ds d =
    let unhanded : (j.hands.unhanded ++ ds) ++ d ∷ [] ≡ j.hands.unhanded ++ (ds ++ d ∷ []) = append_assoc j.hands.unhanded ds (d ∷ []) in
    let tickets : j.tickets + length ds + 1 ≡ j.tickets + length (ds ++ d ∷ []) = omega (arith, length_push ds d) in
    λ t. record j { hands = record j.hands { unhanded = unhanded t }; tickets = tickets t }

-- no job more
pub with-none : (j : JobsView) → j ≡ with_jobs j []
with-none j =
    let unhanded : j.hands.unhanded ≡ j.hands.unhanded ++ [] = sym (append-nil j.hands.unhanded) in
    let tickets : j.tickets ≡ j.tickets + 0 = omega arith in
    λ t. record j { hands = record j.hands { unhanded = unhanded t }; tickets = tickets t }

-- the last of some
last-split : (xs : List ℕ) (n : ℕ) → length xs ≡ n + 1 → (init : List ℕ) × (x : ℕ) × (xs ≡ init ++ x ∷ []) × (length init ≡ n)
last-split [] n e = absurd (omega (arith, e))
last-split (x ∷ []) n e = ([], x, refl, omega (arith, e))
last-split (x ∷ y ∷ ys) n e =
    let rest = last-split (y ∷ ys) (length ys) (omega arith) in
    (x ∷ rest.0, rest.1, ap (λ (zs : List ℕ). x ∷ zs) rest.2, omega (arith, e, rest.3))

-- ---- the loop
-- the first commands of a pick were taken, and the others are still to be taken
pub record HasTakenSome (rules : FrontRules) (late : Bool) (notes : Notes) (region : ℕ) (first left : List ℕ) (old new : JobsView) (e : Engine) : Type 0 where
  pub ds : List Dispatched
  pub are : AreDispatched notes region old.tickets first ds
  pub jobs : new ≡ with_jobs old ds
  pub stands : StandsBut rules late (taken_notes ds notes) (map (place_at region) left) e

-- so many of them were taken
abbrev pub TakesSome : (region count : ℕ) → JobsView → Engine → JobsView → Engine → Type 0
TakesSome region count old e j now =
    (rules : FrontRules) (late : Bool) (notes : Notes) (first left : List ℕ) → StandsBut rules late notes (map (place_at region) (first ++ left)) e → length first ≡ count
    → HasTakenSome rules late notes region first left old j now

-- none
pub takes-none : (region : ℕ) (j : JobsView) (e : Engine) → TakesSome region 0 j e j e
takes-none region j e rules late notes [] left stands counts =
    record { ds = []; are = tt; jobs = with-none j; stands = stands }
takes-none region j e rules late notes (i ∷ first) left stands counts = absurd (omega (arith, counts))

module _ (region count : ℕ) (old : JobsView) (e : Engine) (j : JobsView) (now : Engine) (some : TakesSome region count old e j now) where
  -- the next one is still to be taken
  before : (rules : FrontRules) (late : Bool) (notes : Notes) (first left init : List ℕ) (i : ℕ) → StandsBut rules late notes (map (place_at region) (first ++ left)) e
      → first ≡ init ++ i ∷ [] → length init ≡ count → HasTakenSome rules late notes region init (i ∷ left) old j now
  before rules late notes first left init i stands split counts =
      let same : first ++ left ≡ init ++ i ∷ left = ap (λ (xs : List ℕ). xs ++ left) split ∙ append_assoc init (i ∷ []) left in
      some rules late notes init (i ∷ left) (subst (λ (xs : List ℕ). StandsBut rules late notes (map (place_at region) xs) e) same stands) counts

  -- it was taken, and its job added
  module _ (t : Taking) (after : Engine) (takes : (rules : FrontRules) (late : Bool) (notes : Notes) (p : Place) (rest : List Place)
      → StandsBut rules late notes (p ∷ rest) now → HasTaken rules late notes p rest t after) where
    abbrev its_job : Dispatched
    its_job = next_job j t.tag (place_at region t.index) t.entry

    pub takes-more : TakesSome region (count + 1) old e (with_job j its_job) after
    takes-more rules late notes first left stands counts =
        let cut = last-split first count counts in
        let b = before rules late notes first left cut.0 cut.1 stands cut.2 cut.3 in
        let i : ℕ = cut.1 in
        let taken = takes rules late (taken_notes b.ds notes) (place_at region i) (map (place_at region) left) b.stands in
        let here : place_at region t.index ≡ place_at region i = ap (place_at region) taken.index_is in
        let ticket : j.tickets ≡ old.tickets + length cut.0 = omega (arith, ap (λ (x : JobsView). x.tickets) b.jobs, length-are notes region old.tickets cut.0 b.ds b.are) in
        let entry : entry_at (logged notes) region i ≡ Some t.entry = ap (λ (p : Past). entry_at p region i) (sym (logged-taken b.ds notes)) ∙ taken.entry_is in
        record {
          ds = b.ds ++ its_job ∷ [];
          are = subst (λ (xs : List ℕ). AreDispatched notes region old.tickets xs (b.ds ++ its_job ∷ [])) (sym cut.2)
              (are-push notes region old.tickets cut.0 b.ds b.are i its_job ticket here entry taken.free taken.unanswered);
          jobs = ap (λ (x : JobsView). with_job x its_job) b.jobs ∙ jobs-push old b.ds its_job;
          stands = subst (λ (n : Notes). StandsBut rules late n (map (place_at region) left) after)
              (ap (λ (p : Place). Taken t.tag p.region p.index ∷ taken_notes b.ds notes) (sym here) ∙ sym (taken-push b.ds its_job notes)) taken.stands;
        }

  -- or none was to be taken
  pub takes-never : (after : Engine) → ((rules : FrontRules) (late : Bool) (notes : Notes) (p : Place) (rest : List Place) → StandsBut rules late notes (p ∷ rest) now → ⊥)
      → TakesSome region (count + 1) old e j after
  takes-never after never rules late notes first left stands counts =
      let cut = last-split first count counts in
      let b = before rules late notes first left cut.0 cut.1 stands cut.2 cut.3 in
      absurd (never rules late (taken_notes b.ds notes) (place_at region cut.1) (map (place_at region) left) b.stands)

  -- at the end all were taken
  pub takes-all : (rules : FrontRules) (late : Bool) (notes : Notes) (indexes : List ℕ) → StandsBut rules late notes (map (place_at region) indexes) e → length indexes ≡ count
      → HasDispatched rules late notes region indexes old j now
  takes-all rules late notes indexes stands counts =
      let all = some rules late notes indexes []
      (subst (λ (xs : List ℕ). StandsBut rules late notes (map (place_at region) xs) e) (sym (append-nil indexes)) stands) counts in
      record { ds = all.ds; are = all.are; jobs = all.jobs; stands = all.stands }

-- ---- the engine
-- an engine stands at some log after a look for the next command
pub engine_takes : (e after : Engine) (o : Option Taking)
    → ((rules : FrontRules) (late : Bool) (notes : Notes) → StandsAt rules late notes e → (o ≡ None) × (after ≡ e))
    → ((rules : FrontRules) (late : Bool) (notes : Notes) (p : Place) (rest : List Place) → StandsBut rules late notes (p ∷ rest) e → IsSome o)
    → ((rules : FrontRules) (late : Bool) (notes : Notes) (p : Place) (rest : List Place) → StandsBut rules late notes (p ∷ rest) e
    → IfSome o (λ t. HasTaken rules late notes p rest t after)) → IsEngine e → IsEngine after
engine_takes e after o none some stands is = by is.rest is.stands where
  took : (o : Option Taking) (p : Place) (rest : List Place) → IsSome o → IfSome o (λ t. HasTaken is.rules is.late is.notes p rest t after) → IsEngine after
  took None p rest there taken = absurd (cc there)
  took (Some t) p rest there taken = record { rules = is.rules; late = is.late; notes = Taken t.tag p.region p.index ∷ is.notes; rest = rest; stands = taken.stands }

  by : (rest : List Place) → StandsBut is.rules is.late is.notes rest e → IsEngine after
  by [] at = subst (λ (x : Engine). IsEngine x) (sym (none is.rules is.late is.notes at).1) is
  by (p ∷ rest) at = took o p rest (some is.rules is.late is.notes p rest at) (stands is.rules is.late is.notes p rest at)
