-- No more than six calls do something for each command that was fetched.
use Rattle.std.proofs.Common.{◌≡◌, ℕ, ◌+◌, ◌<◌, ◌≤◌, ◌==◌, ◌&&◌, ◌||◌, nat_lt, Bool, true, false, if◌then◌else◌, List, [], ◌∷◌, length, Option, Some, None, refl, sym, ap, ◌∙◌, subst, arith, inl, inr, length-append}
use Rattle.std.specs.Prelude.{is_some, MatchBool}
use Rattle.std.proofs.lemmas.Bool.{cases_Bool, cases_lt, eqb-true, and_parts, lt-ltb}
use Rattle.std.proofs.lemmas.List.{append-nil}
use Rattle.std.proofs.lemmas.List.Sums.{sum_by-cons}
use Rattle.std.proofs.lemmas.Option.{slice_get_within}
use Rattle.nvme_entry.specs.declared.completion.Cqe.{Cqe}
use Rattle.nvme_log.specs.declared.event.Event.TheVariants.{Fetch, Closing, Post, ClosedSq}
use Rattle.nvme_log.specs.declared.event.Event.TheVariants as event
use Rattle.nvme_log.specs.Rules.{Past, FrontRules, Each}
use Rattle.nvme_log.specs.Places.{fetched, one_if}
use Rattle.nvme_log.specs.Histories.{picks_in}
use Rattle.nvme_log.specs.Completions.{is_posted, posts_of}
use Rattle.nvme_log.specs.Effects.{effects_since}
use Rattle.nvme_log.specs.Account.{IndexCounts, PostsOwnBy}
use Rattle.nvme_log.specs.Answers.{by_answers}
use Rattle.nvme_log.specs.Dispatches.{place_at}
use Rattle.nvme_log.specs.declared.place.Place.{Place}
use Rattle.nvme_log.proofs.LogLengths.{fewer, taken_places, taken-served, picks-few, changes, changes-few, ends, served-few}
use Rattle.nvme_log.proofs.Members.{IsIn, in-append_left}
use Rattle.nvme_log.proofs.PostCounts.{times_at, own-place, fetched_places, posted_places, fetched-times, posted-times}
use Rattle.nvme_log.proofs.Posts.{posts_of-none}
use Rattle.nvme_log.proofs.Prefixes.{fetched-after}
use Rattle.nvme_ctrl_log.specs.Notes.{Notes, Logged, Taken, Flagged, EachNote, logged}
use Rattle.nvme_ctrl_log.specs.Tags.{all_fetches, all_posts, handed, taken, flags_of, is_passed, answers}
use Rattle.nvme_ctrl_log.specs.Account.{IsLawful, IsAccount, PostsAnswer}
use Rattle.nvme_ctrl_log.specs.Deletions.{deleting, FollowsDeletions}
use Rattle.nvme_ctrl_log.specs.StepCounts.{steps, StepsAreFew}
use Rattle.nvme_ctrl_log.specs.declared.status_flags.StatusFlags.{StatusFlags}
use Rattle.nvme_ctrl_log.proofs.Accounted.{one_completion_each}
use Rattle.nvme_ctrl_log.proofs.Noted.{each-event}
use Rattle.nvme_ctrl_log.proofs.ShownPicks.{picks-take}
use Rattle.nvme_ctrl_log.proofs.TagLaws.{IsApart, handed-apart, handed-fetched, taken-first, holder-taken}

-- ---- lists of places
-- the test by which a place is counted
abbrev test : ℕ → ℕ → Place → ℕ
test r i p = one_if (p.region == r && p.index == i)

place-is : (p : Place) (r i : ℕ) → (p.region == r && p.index == i) ≡ true → p ≡ place_at r i
place-is p r i here =
    let same = and_parts (p.region == r) (p.index == i) here in
    λ t. record { region = (eqb-true p.region r same.0) t; index = (eqb-true p.index i same.1) t }

-- a place that isn't in a list doesn't count there
times-none : (r i : ℕ) (ps : List Place) → (IsIn (place_at r i) ps → ⊥) → times_at r i ps ≡ 0
times-none r i [] none = refl
times-none r i (p ∷ ps) none = elim (cases_Bool (p.region == r && p.index == i)) [
  | inl here ↦ absurd (none (inl (place-is p r i here)))
  | inr other ↦
      let cons = sum_by-cons (test r i) p ps in
      let no : test r i p ≡ 0 = ap one_if other in
      let rest = times-none r i ps (λ k. none (inr k)) in
      omega (arith, cons, no, rest)
]

-- one that is counts
times-some : (r i : ℕ) (ps : List Place) → IsIn (place_at r i) ps → 1 ≤ times_at r i ps
times-some r i [] is = absurd is
times-some r i (p ∷ ps) (inl e) =
    let cons = sum_by-cons (test r i) p ps in
    let here : test r i p ≡ 1 = ap (test r i) e ∙ own-place (place_at r i) in
    omega (arith, cons, here)
times-some r i (p ∷ ps) (inr k) =
    let cons = sum_by-cons (test r i) p ps in
    let rest = times-some r i ps k in
    omega (arith, cons, rest)

-- once, where places are apart
times-apart : (r i : ℕ) (ps : List Place) → IsApart ps → times_at r i ps ≤ 1
times-apart r i [] a = omega arith
times-apart r i (p ∷ ps) a = elim (cases_Bool (p.region == r && p.index == i)) [
  | inl here ↦
      let cons = sum_by-cons (test r i) p ps in
      let one : test r i p ≡ 1 = ap one_if here in
      let none = times-none r i ps (λ k. a.0 (place_at r i) k (place-is p r i here)) in
      omega (arith, cons, one, none)
  | inr other ↦
      let cons = sum_by-cons (test r i) p ps in
      let no : test r i p ≡ 0 = ap one_if other in
      let rest = times-apart r i ps a.1 in
      omega (arith, cons, no, rest)
]

-- ---- no more than what was fetched
fetches-length : (past : Past) → length (fetched_places past) ≡ all_fetches past
fetches-length [] = refl
fetches-length (Fetch r i entry ∷ past) = let rest = fetches-length past in omega (arith, rest)
fetches-length (e ∷ past) = fetches-length past

few-places : (past : Past) → Each IndexCounts past → (ps : List Place) → ((r i : ℕ) → times_at r i ps ≤ one_if (nat_lt i (length (fetched past r)))) → length ps ≤ all_fetches past
few-places past counts ps h =
    let few = fewer ps (fetched_places past) (λ r i. let a = h r i in let b = fetched-times past counts r i in omega (arith, a, b)) in
    let all = fetches-length past in
    omega (arith, few, all)

-- what counts once at most, and only where it was fetched
once-fetched : (past : Past) (n r i : ℕ) → n ≤ 1 → (1 ≤ n → i < length (fetched past r)) → n ≤ one_if (nat_lt i (length (fetched past r)))
once-fetched past n r i few there = elim (cases_lt i (length (fetched past r))) [
  | inl lt ↦ let one : one_if (nat_lt i (length (fetched past r))) ≡ 1 = ap one_if (lt-ltb i (length (fetched past r)) lt) in omega (arith, one, few)
  | inr le ↦ elim (cases_lt 0 n) [
    | inl some ↦ let lt = there (omega (arith, some)) in absurd (omega (arith, lt, le))
    | inr none ↦ omega (arith, none)
  ]
]

-- ---- picks
picks-are_few : (rules : FrontRules) (notes : Notes) → IsAccount rules notes → picks_in (logged notes) ≤ all_fetches (logged notes)
picks-are_few rules notes h =
    let past = logged notes in
    let takes = picks-take rules notes h.each h.lawful in
    let at_once = each-event _ rules (λ past e it. it.effects_at_once) notes h.each in
    let counts = each-event _ rules (λ past e it. it.index_counts) notes h.each in
    let picks = picks-few past takes in
    let few = few-places past counts (taken_places past) (λ r i. let a = taken-served rules past at_once takes r i in let b = served-few past r i in omega (arith, a, b)) in
    omega (arith, picks, few)

-- ---- posts
posts-length : (past : Past) → length (posted_places past) ≡ all_posts past
posts-length [] = refl
posts-length (Post c r i cqe ∷ past) = let rest = posts-length past in omega (arith, rest)
posts-length (e ∷ past) = posts-length past

own-fetched : (rules : FrontRules) (notes : Notes) (c r i : ℕ) (cqe : Cqe) → IsLawful rules notes (Logged (Post c r i cqe)) → i < length (fetched (logged notes) r)
own-fetched rules notes c r i cqe h = by (r == 0 && is_passed notes i) refl h.posts_own where
  by : (b : Bool) → (r == 0 && is_passed notes i) ≡ b → MatchBool b (PostsAnswer rules notes c i cqe) (PostsOwnBy rules (by_answers (answers notes)) (logged notes) (Post c r i cqe))
      → i < length (fetched (logged notes) r)
  by true e own =
      let of_admin : r ≡ 0 = eqb-true r 0 (and_parts (r == 0) (is_passed notes i) e).0 in
      subst (λ (z : ℕ). i < length (fetched (logged notes) z)) (sym of_admin) (slice_get_within (fetched (logged notes) 0) i own.all_else.2.entry own.all_else.2.is_there)
  by false e own = slice_get_within (fetched (logged notes) r) i own.2.entry own.2.is_there

-- what was posted was fetched
posted-fetched : (rules : FrontRules) (notes : Notes) → EachNote (IsLawful rules) notes → (r i : ℕ) → is_posted (logged notes) r i ≡ true → i < length (fetched (logged notes) r)
posted-fetched rules [] h r i is = cc is
posted-fetched rules (Logged (Post c region index cqe) ∷ notes) h r i is = by (region == r && index == i) refl is (posted-fetched rules notes h.1 r i) where
  by : (b : Bool) → (region == r && index == i) ≡ b → (b || is_posted (logged notes) r i) ≡ true → (is_posted (logged notes) r i ≡ true → i < length (fetched (logged notes) r))
      → i < length (fetched (logged notes) r)
  by true e k earlier =
      subst (λ (p : Place). p.index < length (fetched (logged notes) p.region)) (place-is (place_at region index) r i e) (own-fetched rules notes c region index cqe h.0)
  by false e k earlier = earlier k
posted-fetched rules (Logged e ∷ notes) h r i is =
    let before = posted-fetched rules notes h.1 r i is in
    let more = fetched-after (e ∷ []) (logged notes) r in
    let longer = ap length more.1 in
    let sum = length-append (fetched (logged notes) r) more.0 in
    omega (arith, before, longer, sum)
posted-fetched rules (note ∷ notes) h r i is = posted-fetched rules notes h.1 r i is

posts-are_few : (rules : FrontRules) (notes : Notes) → IsAccount rules notes → all_posts (logged notes) ≤ all_fetches (logged notes)
posts-are_few rules notes h =
    let past = logged notes in
    let counts = each-event _ rules (λ past e it. it.index_counts) notes h.each in
    let few = few-places past counts (posted_places past) (λ r i.
    let times = posted-times past r i in
    let once = one_completion_each rules notes h r i in
    let fits = once-fetched past (posts_of past r i) r i once (λ some. elim (cases_Bool (is_posted past r i)) [
      | inl is ↦ posted-fetched rules notes h.each r i is
      | inr isnt ↦ let none = posts_of-none past r i isnt in absurd (omega (arith, none, some))
    ]) in
    omega (arith, times, fits)) in
    let all = posts-length past in
    omega (arith, few, all)

-- ---- what the device takes
takes-are_few : (rules : FrontRules) (notes : Notes) → IsAccount rules notes → length (taken notes) ≤ all_fetches (logged notes)
takes-are_few rules notes h =
    let past = logged notes in
    let counts = each-event _ rules (λ past e it. it.index_counts) notes h.each in
    let first = taken-first rules notes h.each in
    let few = few-places past counts (handed notes) (λ r i.
    once-fetched past (times_at r i (handed notes)) r i (times-apart r i (handed notes) (handed-apart rules notes h.each)) (λ some. elim (cases_lt i (length (fetched past r))) [
      | inl lt ↦ lt
      | inr le ↦
          let none = times-none r i (handed notes) (λ is. let lt = handed-fetched rules notes h.each (place_at r i) is in omega (arith, lt, le)) in
          absurd (omega (arith, none, some))
    ])) in
    let whole = ap length first.1 in
    let sum = length-append (taken notes) first.0 in
    omega (arith, few, whole, sum)

-- ---- what the device answers
-- the places that it flagged
abbrev flagged : Notes → List Place
flagged [] = []
flagged (Flagged r i flags ∷ notes) = place_at r i ∷ flagged notes
flagged (note ∷ notes) = flagged notes

flagged-times : (rules : FrontRules) (notes : Notes) → EachNote (IsLawful rules) notes → (r i : ℕ) → times_at r i (flagged notes) ≤ one_if (is_some (flags_of notes r i))
flagged-times rules [] h r i = omega arith
flagged-times rules (Flagged region index flags ∷ notes) h r i =
    let before = flagged-times rules notes h.1 r i in
    let cons = sum_by-cons (test r i) (place_at region index) (flagged notes) in
    elim (cases_Bool (region == r && index == i)) [
      | inl here ↦
          let none : flags_of notes r i ≡ None = subst (λ (p : Place). flags_of notes p.region p.index ≡ None) (place-is (place_at region index) r i here) h.0.first in
          let was : one_if (is_some (flags_of notes r i)) ≡ 0 = ap (λ (o : Option StatusFlags). one_if (is_some o)) none in
          let now : one_if (is_some (flags_of (Flagged region index flags ∷ notes) r i)) ≡ 1 = rw here refl in
          let one : test r i (place_at region index) ≡ 1 = ap one_if here in
          omega (arith, before, cons, was, now, one)
      | inr other ↦
          let now : one_if (is_some (flags_of (Flagged region index flags ∷ notes) r i)) ≡ one_if (is_some (flags_of notes r i)) = rw other refl in
          let no : test r i (place_at region index) ≡ 0 = ap one_if other in
          omega (arith, before, cons, now, no)
    ]
flagged-times rules (note ∷ notes) h r i = flagged-times rules notes h.1 r i

-- it took them before
flagged-taken : (rules : FrontRules) (notes : Notes) → EachNote (IsLawful rules) notes → (r i : ℕ) → is_some (flags_of notes r i) ≡ true → IsIn (place_at r i) (taken notes)
flagged-taken rules [] h r i is = cc is
flagged-taken rules (Flagged region index flags ∷ notes) h r i is = by (region == r && index == i) refl is (flagged-taken rules notes h.1 r i) where
  by : (b : Bool) → (region == r && index == i) ≡ b → is_some (if b then Some flags else flags_of notes r i) ≡ true → (is_some (flags_of notes r i) ≡ true → IsIn (place_at r i) (taken notes))
      → IsIn (place_at r i) (taken notes)
  by true e k earlier =
      subst (λ (p : Place). IsIn p (taken notes)) (place-is (place_at region index) r i e) (holder-taken notes h.0.by_device.tag (place_at region index) h.0.by_device.stands)
  by false e k earlier = earlier k
flagged-taken rules (Taken tag region index ∷ notes) h r i is = in-append_left (place_at r i) (taken notes) (place_at region index ∷ []) (flagged-taken rules notes h.1 r i is)
flagged-taken rules (note ∷ notes) h r i is = flagged-taken rules notes h.1 r i is

answers-are_few : (rules : FrontRules) (notes : Notes) → IsAccount rules notes → length (flagged notes) ≤ length (taken notes)
answers-are_few rules notes h = fewer (flagged notes) (taken notes) (λ r i.
    let few = flagged-times rules notes h.each r i in
    elim (cases_Bool (is_some (flags_of notes r i))) [
      | inl is ↦
          let some = times-some r i (taken notes) (flagged-taken rules notes h.each r i is) in
          let one : one_if (is_some (flags_of notes r i)) ≡ 1 = ap one_if is in
          omega (arith, few, some, one)
      | inr isnt ↦
          let none : one_if (is_some (flags_of notes r i)) ≡ 0 = ap one_if isnt in
          omega (arith, few, none)
    ])

-- ---- ends of deletions
-- the regions whose queue's deletion began, and those where it ended, each as a place 0
abbrev began : Past → List Place
began [] = []
began (Closing q r ∷ past) = place_at r 0 ∷ began past
began (e ∷ past) = began past

abbrev ended : Past → List Place
ended [] = []
ended (ClosedSq q r ∷ past) = place_at r 0 ∷ ended past
ended (e ∷ past) = ended past

-- no deletion ends that didn't begin
ends-began : (past : Past) → Each FollowsDeletions past → (r : ℕ) → times_at r 0 (ended past) + one_if (is_some (deleting past r)) ≤ times_at r 0 (began past)
ends-began [] h r = omega arith
ends-began (Closing q region ∷ past) h r =
    let before = ends-began past h.1 r in
    let cons = sum_by-cons (test r 0) (place_at region 0) (began past) in
    elim (cases_Bool (region == r)) [
      | inl here ↦
          let one : test r 0 (place_at region 0) ≡ 1 = rw here refl in
          let few : one_if (is_some (deleting (Closing q region ∷ past) r)) ≤ 1 = at_most (is_some (deleting (Closing q region ∷ past) r)) in
          omega (arith, before, cons, one, few)
      | inr other ↦
          let same : one_if (is_some (deleting (Closing q region ∷ past) r)) ≡ one_if (is_some (deleting past r)) = rw other refl in
          omega (arith, before, cons, same)
    ] where
      at_most : (b : Bool) → one_if b ≤ 1
      at_most true = omega arith
      at_most false = omega arith
ends-began (ClosedSq q region ∷ past) h r =
    let before = ends-began past h.1 r in
    let cons = sum_by-cons (test r 0) (place_at region 0) (ended past) in
    elim (cases_Bool (region == r)) [
      | inl here ↦
          let was : one_if (is_some (deleting past r)) ≡ 1 = ap one_if (subst (λ (z : ℕ). is_some (deleting past z) ≡ true) (eqb-true region r here) h.0.0) in
          let now : one_if (is_some (deleting (ClosedSq q region ∷ past) r)) ≡ 0 = rw here refl in
          let one : test r 0 (place_at region 0) ≡ 1 = rw here refl in
          omega (arith, before, cons, was, now, one)
      | inr other ↦
          let same : one_if (is_some (deleting (ClosedSq q region ∷ past) r)) ≡ one_if (is_some (deleting past r)) = rw other refl in
          let no : test r 0 (place_at region 0) ≡ 0 = rw other refl in
          omega (arith, before, cons, same, no)
    ]
ends-began (e ∷ past) h r = ends-began past h.1 r

-- nothing else is in these lists
ends-at_none : (past : Past) (r i : ℕ) → (0 == i) ≡ false → times_at r i (ended past) ≡ 0
ends-at_none [] r i other = refl
ends-at_none (ClosedSq q region ∷ past) r i other =
    let cons = sum_by-cons (test r i) (place_at region 0) (ended past) in
    let no : test r i (place_at region 0) ≡ 0 = rw other (none (region == r)) in
    let rest = ends-at_none past r i other in
    omega (arith, cons, no, rest) where
      none : (b : Bool) → one_if (b && false) ≡ 0
      none true = refl
      none false = refl
ends-at_none (e ∷ past) r i other = ends-at_none past r i other

ends-length : (past : Past) → length (ended past) ≡ ends past
ends-length [] = refl
ends-length (ClosedSq q r ∷ past) = let rest = ends-length past in omega (arith, rest)
ends-length (e ∷ past) = ends-length past

-- each beginning is a change
began-few : (past : Past) → length (began past) ≤ changes past
began-few [] = omega arith
began-few (Closing q r ∷ past) = let rest = began-few past in omega (arith, rest)
began-few (e ∷ past) = let rest = began-few past in omega (arith, rest)

ends-are_few : (rules : FrontRules) (notes : Notes) → IsAccount rules notes → ends (logged notes) ≤ picks_in (logged notes)
ends-are_few rules notes h =
    let past = logged notes in
    let at_once = each-event _ rules (λ past e it. it.effects_at_once) notes h.each in
    let follows = each-event _ rules (λ past e it. it.deletes) notes h.each in
    let changed = changes-few rules past at_once [] (append-nil (effects_since past) ∙ h.effects_whole) in
    let few = fewer (ended past) (began past) (λ r i. elim (cases_Bool (0 == i)) [
      | inl first ↦ subst (λ (z : ℕ). times_at r z (ended past) ≤ times_at r z (began past)) (eqb-true 0 i first) (let it = ends-began past follows r in omega (arith, it))
      | inr other ↦ let none = ends-at_none past r i other in omega (arith, none)
    ]) in
    let all = ends-length past in
    let begun = began-few past in
    omega (arith, few, all, begun, changed)

-- ---- all of them
steps-are : (notes : Notes) → steps notes ≡ all_fetches (logged notes) + picks_in (logged notes) + all_posts (logged notes) + ends (logged notes) + length (taken notes) + length (flagged notes)
steps-are [] = refl
steps-are (Logged (Fetch r i entry) ∷ notes) = let rest = steps-are notes in omega (arith, rest)
steps-are (Logged (event.Pick seen pick) ∷ notes) = let rest = steps-are notes in omega (arith, rest)
steps-are (Logged (Post c r i cqe) ∷ notes) = let rest = steps-are notes in omega (arith, rest)
steps-are (Logged (ClosedSq q r) ∷ notes) = let rest = steps-are notes in omega (arith, rest)
steps-are (Taken tag r i ∷ notes) = let rest = steps-are notes in let more = length-append (taken notes) (place_at r i ∷ []) in omega (arith, rest, more)
steps-are (Flagged r i flags ∷ notes) = let rest = steps-are notes in omega (arith, rest)
steps-are (note ∷ notes) = steps-are notes

pub steps_are_few : StepsAreFew
steps_are_few rules notes h =
    let all = steps-are notes in
    let picks = picks-are_few rules notes h in
    let posts = posts-are_few rules notes h in
    let takes = takes-are_few rules notes h in
    let answers = answers-are_few rules notes h in
    let over = ends-are_few rules notes h in
    omega (arith, all, picks, posts, takes, answers, over)
