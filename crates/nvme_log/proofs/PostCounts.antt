-- How many completions are posted to a completion region: as many as places were fetched whose queue goes to it.
use Rattle.std.proofs.Common.{◌≡◌, ℕ, ◌+◌, ◌<◌, ◌≤◌, ◌==◌, ◌&&◌, nat_lt, Bool, true, false, if◌then◌else◌, List, [], ◌∷◌, ◌++◌, length, sum_by, Option, Some, refl, sym, ap, ◌∙◌, arith, length-append, inl, inr}
use Rattle.std.specs.List.{list_all}
use Rattle.std.proofs.lemmas.Bool.{eqb-true, eq-eqb, ne_eqb, and_parts, false_from_ne_true, cases_lt, lt-ltb, le-ltb}
use Rattle.std.proofs.lemmas.Bool.Decides.{eqb_tells}
use Rattle.std.proofs.lemmas.List.Sums.{sum_by-cons}
use Rattle.std.proofs.lemmas.Option.{slice_get_within}
use Rattle.nvme_entry.specs.declared.submission.Sqe.{Sqe}
use Rattle.nvme_entry.specs.declared.completion.Cqe.{Cqe}
use Rattle.nvme_log.specs.declared.event.Event.{Event}
use Rattle.nvme_log.specs.declared.event.Event.TheVariants.{Fetch, Post}
use Rattle.nvme_log.specs.Rules.{Past, FrontRules, Each}
use Rattle.nvme_log.specs.Queues.{cq_region_of}
use Rattle.nvme_log.specs.Places.{fetched, places, one_if}
use Rattle.nvme_log.specs.declared.place.Place.{Place}
use Rattle.nvme_log.specs.Dispatches.{place_at}
use Rattle.nvme_log.specs.Aborts.{is_index}
use Rattle.nvme_log.specs.Answers.{Executor, by_outcome}
use Rattle.nvme_log.specs.Completions.{is_posted, posts_of, posted_to}
use Rattle.nvme_log.specs.Effects.{EffectsAtOnce}
use Rattle.nvme_log.specs.Account.{IndexCounts, PostsOwnBy, IsWholeAccountBy, IsWholeAccount}
use Rattle.nvme_log.specs.Loaded.{without_posts}
use Rattle.nvme_log.proofs.Prefixes.{fetched-after}
use Rattle.nvme_log.proofs.Posts.{posts_of-none, posts_of-some, one_post, found, all_below}
use Rattle.nvme_log.proofs.PostsApart.{cq_region_of-posts}
use Rattle.nvme_log.proofs.OwnStays.{IsTaken, taken-next, served-next, taken-posted}

-- ---- lists of places
-- how often a place with this region and index stands in a list
abbrev pub times_at : ℕ → ℕ → List Place → ℕ
times_at r i ps = sum_by (λ (p : Place). one_if (p.region == r && p.index == i)) ps

-- a place is taken out of a list in which it stands
pub record TakesOut (x : Place) (ys : List Place) : Type 0 where
  pub left : List Place
  pub weighs : (w : Place → ℕ) → sum_by w ys ≡ w x + sum_by w left

pub taken-out : (x : Place) (ys : List Place) → 1 ≤ times_at x.region x.index ys → TakesOut x ys
taken-out x [] h = absurd (omega (arith, h))
taken-out x (y ∷ ys) h = by (y.region == x.region && y.index == x.index) refl (λ k. taken-out x ys k) where
  by : (b : Bool) → (y.region == x.region && y.index == x.index) ≡ b → (1 ≤ times_at x.region x.index ys → TakesOut x ys) → TakesOut x (y ∷ ys)
  by true e f =
      let same = and_parts (y.region == x.region) (y.index == x.index) e in
      let is : y ≡ x = λ t. record { region = (eqb-true y.region x.region same.0) t; index = (eqb-true y.index x.index same.1) t } in
      record { left = ys; weighs = λ w. sum_by-cons w y ys ∙ ap (λ (p : Place). w p + sum_by w ys) is }
  by false e f =
      let test : Place → ℕ = λ p. one_if (p.region == x.region && p.index == x.index) in
      let more : sum_by test (y ∷ ys) ≡ test y + sum_by test ys = sum_by-cons test y ys in
      let none : test y ≡ 0 = ap one_if e in
      let it = f (omega (arith, h, more, none)) in
      record { left = y ∷ it.left; weighs = λ w. omega (arith, sum_by-cons w y ys, it.weighs w, sum_by-cons w y it.left) }

-- a place stands where its region and index are
pub own-place : (x : Place) → one_if (x.region == x.region && x.index == x.index) ≡ 1
own-place x = rw (eq-eqb x.region x.region refl, eq-eqb x.index x.index refl) refl

-- two lists in which each place stands as often weigh the same, whatever a place weighs
pub same-weight : (xs ys : List Place) → ((r i : ℕ) → times_at r i xs ≡ times_at r i ys) → (w : Place → ℕ) → sum_by w xs ≡ sum_by w ys
same-weight [] [] same w = refl
same-weight [] (y ∷ ys) same w =
    let test : Place → ℕ = λ p. one_if (p.region == y.region && p.index == y.index) in
    absurd (omega (arith, same y.region y.index, sum_by-cons test y ys, own-place y))
same-weight (x ∷ xs) ys same w =
    let test : ℕ → ℕ → Place → ℕ = λ r i p. one_if (p.region == r && p.index == i) in
    let it = taken-out x ys (omega (arith, same x.region x.index, sum_by-cons (test x.region x.index) x xs, own-place x)) in
    let rest = same-weight xs it.left (λ r i. omega (arith, same r i, sum_by-cons (test r i) x xs, it.weighs (test r i))) w in
    sum_by-cons w x xs ∙ ap (λ (n : ℕ). w x + n) rest ∙ sym (it.weighs w)

-- ---- the places of a log
-- those fetched, and those of which a completion is posted
abbrev pub fetched_places : Past → List Place
fetched_places [] = []
fetched_places (Fetch r i entry ∷ past) = place_at r i ∷ fetched_places past
fetched_places (e ∷ past) = fetched_places past

abbrev pub posted_places : Past → List Place
posted_places [] = []
posted_places (Post c r i cqe ∷ past) = place_at r i ∷ posted_places past
posted_places (e ∷ past) = posted_places past

-- the fetched ones are the same without posts
pub fetched_places-posts : (past : Past) → fetched_places (without_posts past) ≡ fetched_places past
fetched_places-posts [] = refl
fetched_places-posts (Fetch r i entry ∷ past) = ap (λ (ps : List Place). place_at r i ∷ ps) (fetched_places-posts past)
fetched_places-posts (e ∷ past) = fetched_places-posts past

-- one more, or not
one-more : (b : Bool) (n : ℕ) → one_if b + n ≡ (if b then n + 1 else n)
one-more true n = omega arith
one-more false n = omega arith

-- a place was posted as often as it stands among those posted
pub posted-times : (past : Past) (r i : ℕ) → times_at r i (posted_places past) ≡ posts_of past r i
posted-times [] r i = refl
posted-times (Post c region index cqe ∷ past) r i =
    sum_by-cons (λ (p : Place). one_if (p.region == r && p.index == i)) (place_at region index) (posted_places past)
    ∙ ap (λ (n : ℕ). one_if (region == r && index == i) + n) (posted-times past r i)
    ∙ one-more (region == r && index == i) (posts_of past r i)
posted-times (e ∷ past) r i = posted-times past r i

-- one number more is below
below-more : (i n : ℕ) → one_if (n == i) + one_if (nat_lt i n) ≡ one_if (nat_lt i (n + 1))
below-more i n = elim (cases_lt i n) [
  | inl below ↦ rw (ne_eqb n i (λ e. omega (arith, below, e)), lt-ltb i n below, lt-ltb i (n + 1) (omega (arith, below))) refl
  | inr from ↦ elim (eqb_tells n i) [
    | inl (t, e) ↦ rw (t, le-ltb i n from, lt-ltb i (n + 1) (omega (arith, e))) refl
    | inr (t, other) ↦ rw (t, le-ltb i n from, le-ltb i (n + 1) (omega (arith, from, other))) refl
  ]
]

-- each fetched place stands once among those fetched
pub fetched-times : (past : Past) → Each IndexCounts past → (r i : ℕ) → times_at r i (fetched_places past) ≡ one_if (nat_lt i (length (fetched past r)))
fetched-times [] h r i = sym (ap one_if (le-ltb i 0 (omega arith)))
fetched-times (Fetch region index entry ∷ past) h r i =
    sum_by-cons (λ (p : Place). one_if (p.region == r && p.index == i)) (place_at region index) (fetched_places past)
    ∙ ap (λ (n : ℕ). one_if (region == r && index == i) + n) (fetched-times past h.1 r i)
    ∙ by (region == r) refl where
      by : (b : Bool) → (region == r) ≡ b
          → one_if (b && index == i) + one_if (nat_lt i (length (fetched past r))) ≡ one_if (nat_lt i (length (if b then fetched past r ++ entry ∷ [] else fetched past r)))
      by true e =
          let at : index ≡ length (fetched past r) = h.0 ∙ ap (λ (z : ℕ). length (fetched past z)) (eqb-true region r e) in
          ap (λ (z : ℕ). one_if (z == i) + one_if (nat_lt i (length (fetched past r)))) at
          ∙ below-more i (length (fetched past r))
          ∙ ap (λ (z : ℕ). one_if (nat_lt i z)) (sym (length-append (fetched past r) (entry ∷ [])))
      by false e = omega arith
fetched-times (e ∷ past) h r i = fetched-times past h.1 r i

-- a place that is posted was fetched
pub posted-below : (rules : FrontRules) (executor : Executor) (past : Past) → Each (PostsOwnBy rules executor) past → (r i : ℕ) → is_posted past r i ≡ true → i < length (fetched past r)
posted-below rules executor past h r i p =
    let it = found rules executor past h r i p in
    let within = slice_get_within (fetched it.before r) i it.own.entry it.own.is_there in
    let more = fetched-after it.later (Post it.region r i it.cqe ∷ it.before) r in
    let whole : length (fetched (it.later ++ Post it.region r i it.cqe ∷ it.before) r) ≡ length (fetched past r) = ap (λ (z : Past). length (fetched z r)) it.stands in
    omega (arith, within, ap length more.1, length-append (fetched it.before r) more.0, whole)

-- where each fetched place is posted, a place is posted once where it was fetched, and never otherwise
posted-once : (rules : FrontRules) (executor : Executor) (past : Past) → Each (PostsOwnBy rules executor) past → ((r : ℕ) → list_all (λ (i : ℕ). is_posted past r i) (places past r) ≡ true)
    → (r i : ℕ) → posts_of past r i ≡ one_if (nat_lt i (length (fetched past r)))
posted-once rules executor past h all r i = elim (cases_lt i (length (fetched past r))) [
  | inl below ↦
      let posted = all_below (λ (k : ℕ). is_posted past r k) (length (fetched past r)) (all r) i below in
      let once : posts_of past r i ≡ 1 = omega (arith, one_post rules executor past h r i, posts_of-some past r i posted) in
      once ∙ sym (ap one_if (lt-ltb i (length (fetched past r)) below))
  | inr from ↦
      let none : is_posted past r i ≡ false = false_from_ne_true (is_posted past r i) (λ p. omega (arith, posted-below rules executor past h r i p, from)) in
      posts_of-none past r i none ∙ sym (ap one_if (le-ltb i (length (fetched past r)) from))
]

-- ---- completion regions
-- a post goes where the queue of its region goes at the end
abbrev GoesThere : FrontRules → Past → Past → Event → Type 0
GoesThere rules now past (Post c r i cqe) = (cq_region_of now r ≡ Some c) × IsTaken rules now r
GoesThere rules now past e = Unit {0}

-- what holds of each event holds of it in a weaker form
each-weaker : (P Q : Past → Event → Type 0) → ((past : Past) (e : Event) → P past e → Q past e) → (past : Past) → Each P past → Each Q past
each-weaker P Q f [] h = tt
each-weaker P Q f (e ∷ past) h = (f past e h.0, each-weaker P Q f past h.1)

-- one event further on
goes-next : (rules : FrontRules) (x : Event) (now : Past) → EffectsAtOnce rules now x → (past : Past) (e : Event) → GoesThere rules now past e → GoesThere rules (x ∷ now) past e
goes-next rules x now h past (Post c r i cqe) g = (served-next rules x now r h g.1 ∙ g.0, taken-next rules x now r h g.1)
goes-next rules x now h past e g = tt

goes-there : (rules : FrontRules) (executor : Executor) (past : Past) → Each (EffectsAtOnce rules) past → Each (PostsOwnBy rules executor) past → Each (GoesThere rules past) past
goes-there rules executor [] effects own = tt
goes-there rules executor (Post c r i cqe ∷ past) effects own = (
  (own.0.2.region, taken-posted rules executor past c r i cqe effects own.0),
  each-weaker (GoesThere rules past) (GoesThere rules (Post c r i cqe ∷ past)) (goes-next rules (Post c r i cqe) past effects.0) past (goes-there rules executor past effects.1 own.1),
)
goes-there rules executor (e ∷ past) effects own = (
  tt,
  each-weaker (GoesThere rules past) (GoesThere rules (e ∷ past)) (goes-next rules e past effects.0) past (goes-there rules executor past effects.1 own.1),
)

-- 1 where the queue of a place goes to a completion region
abbrev pub goes_to : Past → ℕ → Place → ℕ
goes_to now c p = one_if (is_index c (cq_region_of now p.region))

-- the completions of a region are those of the posted places that go there
posted-weight : (rules : FrontRules) (now past : Past) → Each (GoesThere rules now) past → (c : ℕ) → length (posted_to past c) ≡ sum_by (goes_to now c) (posted_places past)
posted-weight rules now [] h c = refl
posted-weight rules now (Post there r i cqe ∷ past) h c =
    by (there == c)
    ∙ ap (λ (n : ℕ). one_if (there == c) + n) (posted-weight rules now past h.1 c)
    ∙ ap (λ (o : Option ℕ). one_if (is_index c o) + sum_by (goes_to now c) (posted_places past)) (sym h.0.0)
    ∙ sym (sum_by-cons (goes_to now c) (place_at r i) (posted_places past)) where
      by : (b : Bool) → length (if b then posted_to past c ++ cqe ∷ [] else posted_to past c) ≡ one_if b + length (posted_to past c)
      by true = length-append (posted_to past c) (cqe ∷ []) ∙ omega arith
      by false = omega arith
posted-weight rules now (e ∷ past) h c = posted-weight rules now past h.1 c

-- how many fetched places go to a completion region
abbrev pub places_to : Past → ℕ → ℕ
places_to past c = sum_by (goes_to past c) (fetched_places past)

-- it is the same without posts
places_to-posts : (past : Past) (c : ℕ) → places_to (without_posts past) c ≡ places_to past c
places_to-posts past c = λ t. sum_by (λ (p : Place). one_if (is_index c (cq_region_of-posts past p.region t))) (fetched_places-posts past t)

-- in a whole account as many completions are posted to a region as fetched places go there
pub posted-places_by : (rules : FrontRules) (executor : Executor) (loaded : Bool) (scripts sent : ℕ → List Sqe) (past : Past) (collected : ℕ → List Cqe)
    → IsWholeAccountBy rules executor loaded scripts sent past collected → (c : ℕ) → length (posted_to past c) ≡ places_to (without_posts past) c
posted-places_by rules executor loaded scripts sent past collected h c =
    posted-weight rules past past (goes-there rules executor past h.account.effects_at_once h.account.posts_own) c
    ∙ same-weight (posted_places past) (fetched_places past)
    (λ r i. posted-times past r i ∙ posted-once rules executor past h.account.posts_own h.all_posted r i ∙ sym (fetched-times past h.account.indexes_count r i))
    (goes_to past c)
    ∙ sym (places_to-posts past c)

-- where commands are answered by their outcomes
pub posted-places : (rules : FrontRules) (loaded : Bool) (scripts sent : ℕ → List Sqe) (past : Past) (collected : ℕ → List Cqe)
    → IsWholeAccount rules loaded scripts sent past collected → (c : ℕ) → length (posted_to past c) ≡ places_to (without_posts past) c
posted-places rules = posted-places_by rules (by_outcome rules)
