-- The posts of an accounted log.
use Rattle.std.proofs.Common.{◌≡◌, ℕ, zero, suc, ◌+◌, ◌<◌, ◌≤◌, ◌==◌, ◌&&◌, ◌||◌, Bool, true, false, List, [], ◌∷◌, ◌++◌, length, refl, sym, ap, ◌∙◌, subst, arith, if◌then◌else◌, Some, ◌⊎◌, inl, inr, ⊎_elim}
use Rattle.std.specs.Prelude.{slice_get}
use Rattle.std.specs.List.{list_all}
use Rattle.std.proofs.lemmas.List.Folds.{list_all-append}
use Rattle.std.proofs.lemmas.Bool.{cases_lt, eqb-true, eq-eqb}
use Rattle.nvme_entry.specs.declared.completion.Cqe.{Cqe}
use Rattle.nvme_log.specs.declared.event.Event.{Event}
use Rattle.nvme_log.specs.declared.event.Event.TheVariants.{Post}
use Rattle.nvme_log.specs.Rules.{Past, FrontRules, Each, upto}
use Rattle.nvme_log.specs.Places.{fetched}
use Rattle.nvme_log.specs.Answers.{Executor, by_outcome}
use Rattle.nvme_log.specs.Completions.{is_posted, posts_of, posted_to, IsOwnBy}
use Rattle.nvme_log.specs.Dispatches.{place_at}
use Rattle.nvme_log.specs.Account.{PostsOwnBy}
use Rattle.nvme_log.specs.Laws.{OnePostEach, WholeAccountsAnswer}
use Rattle.nvme_log.specs.AnswerLaws.{WholeAccountsAnswerBy}
use Rattle.nvme_log.proofs.Prefixes.{posted_to-after}

-- a place of which nothing is posted has no post
pub posts_of-none : (past : Past) (r i : ℕ) → is_posted past r i ≡ false → posts_of past r i ≡ 0
posts_of-none [] r i h = refl
posts_of-none (Post cq_region region index cqe ∷ past) r i h = none_here (region == r && index == i) (is_posted past r i) (posts_of past r i) h (posts_of-none past r i) where
  none_here : (here posted : Bool) (posts : ℕ) → (here || posted) ≡ false → (posted ≡ false → posts ≡ 0) → (if here then posts + 1 else posts) ≡ 0
  none_here true posted posts e k = cc e
  none_here false posted posts e k = k e
posts_of-none (e ∷ past) r i h = posts_of-none past r i h

-- one more post of a place, where it is one of it: then nothing was posted before
at_most_one : (here : Bool) (posts : ℕ) → posts ≤ 1 → (here ≡ true → posts ≡ 0) → (if here then posts + 1 else posts) ≤ 1
at_most_one true posts h k = omega (arith, k refl)
at_most_one false posts h k = h

both_true : (a b : Bool) → (a && b) ≡ true → (a ≡ true) × (b ≡ true)
both_true true true h = (refl, refl)
both_true true false h = cc h
both_true false b h = cc h

pub one_post : (rules : FrontRules) (executor : Executor) (past : Past) → Each (PostsOwnBy rules executor) past → (r i : ℕ) → posts_of past r i ≤ 1
one_post rules executor [] h r i = omega arith
one_post rules executor (Post cq_region region index cqe ∷ past) h r i =
    at_most_one (region == r && index == i) (posts_of past r i) (one_post rules executor past h.1 r i)
    (λ here. let same = both_true (region == r) (index == i) here in
    let fresh : is_posted past region index ≡ false = h.0.0 in
    let at_r : is_posted past r index ≡ false = subst (λ (z : ℕ). is_posted past z index ≡ false) (eqb-true region r same.0) fresh in
    posts_of-none past r i (subst (λ (z : ℕ). is_posted past r z ≡ false) (eqb-true index i same.1) at_r))
one_post rules executor (e ∷ past) h r i = one_post rules executor past h.1 r i

pub one_post_each : OnePostEach
one_post_each rules sent past collected h r i = one_post rules (by_outcome rules) past h.posts_own r i

-- a place of which something is posted has a post
pub posts_of-some : (past : Past) (r i : ℕ) → is_posted past r i ≡ true → 1 ≤ posts_of past r i
posts_of-some [] r i h = cc h
posts_of-some (Post cq_region region index cqe ∷ past) r i h = some_here (region == r && index == i) (is_posted past r i) (posts_of past r i) h (posts_of-some past r i) where
  some_here : (here posted : Bool) (posts : ℕ) → (here || posted) ≡ true → (posted ≡ true → 1 ≤ posts) → 1 ≤ (if here then posts + 1 else posts)
  some_here true posted posts e k = omega arith
  some_here false posted posts e k = k e
posts_of-some (e ∷ past) r i h = posts_of-some past r i h

-- where the completion of a place stands in a log
pub record StandsIn (rules : FrontRules) (executor : Executor) (past : Past) (r i : ℕ) : Type 0 where
  pub region : ℕ
  pub cqe : Cqe
  pub before : Past
  pub later : Past
  pub stands : later ++ Post region r i cqe ∷ before ≡ past
  pub own : IsOwnBy rules (executor (place_at r i)) before region r i cqe

-- one event further on
one_on : (rules : FrontRules) (executor : Executor) (e : Event) (past : Past) (r i : ℕ) → StandsIn rules executor past r i → StandsIn rules executor (e ∷ past) r i
one_on rules executor e past r i h = record { region = h.region; cqe = h.cqe; before = h.before; later = e ∷ h.later; stands = ap (λ (z : Past). e ∷ z) h.stands; own = h.own }

-- the post of a region and index is one of the place that equals them
here_it_is : (rules : FrontRules) (executor : Executor) (past : Past) (c region index r i : ℕ) (cqe : Cqe) → region ≡ r → index ≡ i
    → IsOwnBy rules (executor (place_at region index)) past c region index cqe → StandsIn rules executor (Post c region index cqe ∷ past) r i
here_it_is rules executor past c region index r i cqe er ei own = record {
  region = c;
  cqe = cqe;
  before = past;
  later = [];
  stands = ap (λ (z : ℕ). Post c z i cqe ∷ past) (sym er) ∙ ap (λ (z : ℕ). Post c region z cqe ∷ past) (sym ei);
  own = subst (λ (z : ℕ). IsOwnBy rules (executor (place_at z i)) past c z i cqe) er
      (subst (λ (z : ℕ). IsOwnBy rules (executor (place_at region z)) past c region z cqe) ei own);
}

-- either a test passes, or what it was joined with
either_true : (a b : Bool) → (a || b) ≡ true → (a ≡ true) ⊎ (b ≡ true)
either_true true b h = inl refl
either_true false b h = inr h

-- a place of which something is posted has a post of its own
pub found : (rules : FrontRules) (executor : Executor) (past : Past) → Each (PostsOwnBy rules executor) past → (r i : ℕ) → is_posted past r i ≡ true
    → StandsIn rules executor past r i
found rules executor [] h r i p = cc p
found rules executor (Post c region index cqe ∷ past) h r i p =
    ⊎_elim
    (λ (here : (region == r && index == i) ≡ true). let same = both_true (region == r) (index == i) here in
    here_it_is rules executor past c region index r i cqe (eqb-true region r same.0) (eqb-true index i same.1) h.0.2)
    (λ (earlier : is_posted past r i ≡ true). one_on rules executor (Post c region index cqe) past r i (found rules executor past h.1 r i earlier))
    (either_true (region == r && index == i) (is_posted past r i) p)
found rules executor (e ∷ past) h r i p = one_on rules executor e past r i (found rules executor past h.1 r i p)

-- a test that all numbers below n pass
pub all_below : (test : ℕ → Bool) (n : ℕ) → list_all test (upto n) ≡ true → (i : ℕ) → i < n → test i ≡ true
all_below test zero h i lt = absurd (omega arith)
all_below test (suc n) h i lt =
    let split = both_true (list_all test (upto n)) (list_all test (n ∷ [])) (sym (list_all-append test (upto n) (n ∷ [])) ∙ h) in
    ⊎_elim (λ (below : i < n). all_below test n split.0 i below)
    (λ (from : n ≤ i). let same : i ≡ n = omega arith in rw same (both_true (test n) true split.1).0)
    (cases_lt i n)

-- the next item of a list that begins with another
pub slice_get-next : {T : Type 0} (xs rest : List T) (x : T) → slice_get ((xs ++ x ∷ []) ++ rest) (length xs) ≡ Some x
slice_get-next [] rest x = refl
slice_get-next (y ∷ xs) rest x = slice_get-next xs rest x

-- a post is the next of its completion region
post_is_next : (before later : Past) (c r i : ℕ) (cqe : Cqe) → slice_get (posted_to (later ++ Post c r i cqe ∷ before) c) (length (posted_to before c)) ≡ Some cqe
post_is_next before later c r i cqe =
    let longer = posted_to-after later (Post c r i cqe ∷ before) c in
    let here : posted_to (Post c r i cqe ∷ before) c ≡ posted_to before c ++ cqe ∷ [] = rw (eq-eqb c c refl) refl in
    rw (← longer.1, here) (slice_get-next (posted_to before c) longer.0 cqe)

pub whole_answers_by : WholeAccountsAnswerBy
whole_answers_by rules executor loaded scripts sent past collected h = record {
  in_order = h.account.fetched_in_order;
  one_completion = λ r i lt.
      let posted = all_below (λ (k : ℕ). is_posted past r k) (length (fetched past r)) (h.all_posted r) i lt in
      let it = found rules executor past h.account.posts_own r i posted in
      record {
        region = it.region;
        cqe = it.cqe;
        before = it.before;
        later = it.later;
        stands = it.stands;
        own = it.own;
        was_collected = rw (h.all_collected it.region) (subst (λ (z : Past). slice_get (posted_to z it.region) (length (posted_to it.before it.region)) ≡ Some it.cqe) it.stands (post_is_next it.before it.later it.region r i it.cqe));
        only = omega (arith, one_post rules executor past h.account.posts_own r i, posts_of-some past r i posted);
      };
}

pub whole_answers : WholeAccountsAnswer
whole_answers rules = whole_answers_by rules (by_outcome rules)
