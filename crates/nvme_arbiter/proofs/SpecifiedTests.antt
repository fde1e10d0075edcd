-- The rules of the specification, by tests that compute.
use Rattle.std.proofs.Common.{◌≡◌, ℕ, ◌+◌, ◌<◌, ◌≤◌, ◌==◌, inl, inr, ◌&&◌, ◌||◌, not, Bool, true, false, nat_le, List, [], ◌∷◌, find, refl, sym, ap, ◌∙◌, arith}
use Rattle.std.specs.Prelude.{Option, Some, None, All, IfSome, IsFalse, ◌↔◌}
use Rattle.std.specs.List.{list_all}
use Rattle.std.proofs.lemmas.Bool.{leb-true, le-leb, cases_lt, and_parts, and_from, or_cases, true≢false, not-true}
use Rattle.std.proofs.lemmas.List.Elements.{All-head, All-tail, All-nil, All-cons}
use Rattle.nvme_arbiter.specs.Settings.{ArbitrationFields, burst_of, weight_of, IsLevel}
use Rattle.nvme_arbiter.specs.declared.settings.Class.{Class}
use Rattle.nvme_arbiter.specs.declared.settings.Class.TheVariants.{Admin, Urgent, High, Medium, Low}
use Rattle.nvme_arbiter.specs.declared.settings.Mechanism.{Mechanism}
use Rattle.nvme_arbiter.specs.declared.settings.Mechanism.TheVariants.{RoundRobin, Weighted}
use Rattle.nvme_arbiter.specs.declared.kept.Used.{Used}
use Rattle.nvme_arbiter.specs.declared.pick.Seen.{Seen}
use Rattle.nvme_arbiter.specs.declared.pick.Pick.{Pick}
use Rattle.nvme_arbiter.specs.declared.specified.Rule.{Rule}
use Rattle.nvme_arbiter.specs.declared.specified.Rule.TheVariants as rule
use Rattle.nvme_arbiter.specs.Observation.{class_in, is_observation_from}
use Rattle.nvme_arbiter.specs.History.{Picked, Changed, History, settings_after}
use Rattle.nvme_arbiter.specs.Standing.{used_of}
use Rattle.nvme_arbiter.specs.Specified.{waiting, TakesCandidates, IsWithinBurst, strict_class, IsOfHighestPriority, round_used, IsWithinCredit, ready_in, has_waited, NoneHasWaited, IsInTurn, Keeps, IsSpecifiedPick, IsSpecifiedRun}
use Rattle.nvme_arbiter.specs.SpecifiedExamples.{BreaksAlone}
use Rattle.nvme_arbiter.specs.Lawful.{lawful_pick, IsLawfulRun}
use Rattle.nvme_arbiter.proofs.Observations.{observation_by_test, tested}
use Rattle.nvme_arbiter.proofs.ExampleRuns.{is_pick, is_lawful_run, picks_itself}

-- ---- each element, by a test
All-by : (P : Seen → Type 0) (test : Seen → Bool) (xs : List Seen) → ((s : Seen) → (test s ≡ true) ↔ P s) → (list_all test xs ≡ true) ↔ All P xs
All-by P test [] f = (λ h. All-nil P, λ a. refl)
All-by P test (x ∷ xs) f =
    let rest = All-by P test xs f in (
      λ h. (let a = and_parts (test x) (list_all test xs) h in All-cons P x xs ((f x).0 a.0) (rest.0 a.1)),
      λ a. and_from (test x) (list_all test xs) ((f x).1 (All-head P x xs a)) (rest.1 (All-tail P x xs a)),
    )

unfoldable pub if_test : {T : Type 0} → Option T → (T → Bool) → Bool
if_test None test = true
if_test (Some x) test = test x

if_by : {T : Type 0} (P : T → Type 0) (test : T → Bool) (o : Option T) → ((x : T) → (test x ≡ true) ↔ P x) → (if_test o test ≡ true) ↔ IfSome o P
unfolding if_test
if_by P test None f = (λ h. tt, λ h. refl)
if_by P test (Some x) f = f x

le_by : (a b : ℕ) → (nat_le a b ≡ true) ↔ (a ≤ b)
le_by a b = (leb-true a b, le-leb a b)

-- ---- the tests
unfoldable pub takes_candidates : List Seen → Pick → Bool
takes_candidates seen p = nat_le 1 p.n && nat_le p.n (waiting (find (λ s. s.qid == p.qid) seen))

unfoldable pub within_burst_test : ArbitrationFields → Pick → Bool
within_burst_test settings p = if_test (burst_of settings) (λ burst. nat_le p.n burst)

unfoldable pub priority_test : Mechanism → List Seen → Pick → Bool
priority_test RoundRobin seen p = true
priority_test Weighted seen p = if_test (class_in seen p.qid) (λ class. list_all (λ s. nat_le s.count 0 || nat_le (strict_class class) (strict_class s.class)) seen)

unfoldable pub within_weights : ArbitrationFields → Used → Bool
within_weights settings used = nat_le used.high (settings.high + 1) && (nat_le used.medium (settings.medium + 1) && nat_le used.low (settings.low + 1))

unfoldable pub credit_test : Mechanism → ArbitrationFields → History → List Seen → Pick → Bool
credit_test RoundRobin first past seen p = true
credit_test Weighted first past seen p = within_weights (settings_after first past) (round_used first (Picked seen p ∷ past))

unfoldable pub none_has_waited : Option Class → History → List Seen → Pick → Bool
none_has_waited class past seen p = list_all (λ s. not (has_waited class p.qid s.qid past)) (ready_in class seen)

unfoldable pub turn_test : Mechanism → History → List Seen → Pick → Bool
turn_test RoundRobin past seen p = none_has_waited None past seen p
turn_test Weighted past seen p = if_test (class_in seen p.qid) (λ class. none_has_waited (Some class) past seen p)

unfoldable pub keeps : Rule → Mechanism → ArbitrationFields → History → List Seen → Pick → Bool
keeps rule.Candidates m first past seen p = takes_candidates seen p
keeps rule.Burst m first past seen p = within_burst_test (settings_after first past) p
keeps rule.Priority m first past seen p = priority_test m seen p
keeps rule.Credit m first past seen p = credit_test m first past seen p
keeps rule.Turn m first past seen p = turn_test m past seen p

-- ---- they say what the rules say
candidates_by : (seen : List Seen) (p : Pick) → (takes_candidates seen p ≡ true) ↔ TakesCandidates seen p
unfolding takes_candidates
candidates_by seen p =
    let most : ℕ = waiting (find (λ s. s.qid == p.qid) seen) in (
      λ h. (let a = and_parts (nat_le 1 p.n) (nat_le p.n most) h in record { at_least_one = leb-true 1 p.n a.0; that_wait = leb-true p.n most a.1 }),
      λ t. and_from (nat_le 1 p.n) (nat_le p.n most) (le-leb 1 p.n t.at_least_one) (le-leb p.n most t.that_wait),
    )

burst_by : (s : ArbitrationFields) (p : Pick) → (within_burst_test s p ≡ true) ↔ IsWithinBurst s p
unfolding within_burst_test
burst_by s p = if_by (λ burst. p.n ≤ burst) (λ burst. nat_le p.n burst) (burst_of s) (λ b. le_by p.n b)

or_true : (a b : Bool) → b ≡ true → (a || b) ≡ true
or_true true b h = refl
or_true false b h = h

where_ready : (count a b : ℕ) → ((nat_le count 0 || nat_le a b) ≡ true) ↔ (0 < count → a ≤ b)
where_ready count a b = (
  λ h w. elim (or_cases (nat_le count 0) (nat_le a b) h) [
    | inl z ↦ (let none : count ≤ 0 = leb-true count 0 z in absurd (omega arith))
    | inr t ↦ leb-true a b t
  ],
  λ f. elim (cases_lt 0 count) [
    | inl w ↦ or_true (nat_le count 0) (nat_le a b) (le-leb a b (f w))
    | inr z ↦ ap (λ x. x || nat_le a b) (le-leb count 0 z)
  ],
)

priority_by : (m : Mechanism) (seen : List Seen) (p : Pick) → (priority_test m seen p ≡ true) ↔ IsOfHighestPriority m seen p
unfolding priority_test
priority_by RoundRobin seen p = (λ h. tt, λ h. refl)
priority_by Weighted seen p =
    if_by (λ class. All (λ s. 0 < s.count → strict_class class ≤ strict_class s.class) seen) (λ class. list_all (λ s. nat_le s.count 0 || nat_le (strict_class class) (strict_class s.class)) seen) (class_in seen p.qid)
    (λ class. All-by (λ s. 0 < s.count → strict_class class ≤ strict_class s.class) (λ s. nat_le s.count 0 || nat_le (strict_class class) (strict_class s.class)) seen (λ s. where_ready s.count (strict_class class) (strict_class s.class)))

three_levels : (s : ArbitrationFields) (used : Used) → used.high ≤ s.high + 1 → used.medium ≤ s.medium + 1 → used.low ≤ s.low + 1 → (level : Class) → IsLevel level → used_of used level ≤ weight_of s level
three_levels s used h m l Admin is = absurd is
three_levels s used h m l Urgent is = absurd is
three_levels s used h m l High is = h
three_levels s used h m l Medium is = m
three_levels s used h m l Low is = l

pub weights_by : (s : ArbitrationFields) (used : Used) → (within_weights s used ≡ true) ↔ ((level : Class) → IsLevel level → used_of used level ≤ weight_of s level)
unfolding within_weights
weights_by s used = (
  λ h. (let a = and_parts (nat_le used.high (s.high + 1)) (nat_le used.medium (s.medium + 1) && nat_le used.low (s.low + 1)) h in
      let b = and_parts (nat_le used.medium (s.medium + 1)) (nat_le used.low (s.low + 1)) a.1 in
      three_levels s used (leb-true used.high (s.high + 1) a.0) (leb-true used.medium (s.medium + 1) b.0) (leb-true used.low (s.low + 1) b.1)),
  λ f. and_from (nat_le used.high (s.high + 1)) (nat_le used.medium (s.medium + 1) && nat_le used.low (s.low + 1)) (le-leb used.high (s.high + 1) (f High tt))
      (and_from (nat_le used.medium (s.medium + 1)) (nat_le used.low (s.low + 1)) (le-leb used.medium (s.medium + 1) (f Medium tt)) (le-leb used.low (s.low + 1) (f Low tt))),
)

credit_by : (m : Mechanism) (first : ArbitrationFields) (past : History) (seen : List Seen) (p : Pick) → (credit_test m first past seen p ≡ true) ↔ IsWithinCredit m first past seen p
unfolding credit_test
credit_by RoundRobin first past seen p = (λ h. tt, λ h. refl)
credit_by Weighted first past seen p = weights_by (settings_after first past) (round_used first (Picked seen p ∷ past))

not_by : (b : Bool) → (not b ≡ true) ↔ IsFalse b
not_by b = (not-true b, λ f. ap not f)

waited_by : (class : Option Class) (past : History) (seen : List Seen) (p : Pick) → (none_has_waited class past seen p ≡ true) ↔ NoneHasWaited class past seen p
unfolding none_has_waited
waited_by class past seen p = All-by (λ s. IsFalse (has_waited class p.qid s.qid past)) (λ s. not (has_waited class p.qid s.qid past)) (ready_in class seen) (λ s. not_by (has_waited class p.qid s.qid past))

turn_by : (m : Mechanism) (past : History) (seen : List Seen) (p : Pick) → (turn_test m past seen p ≡ true) ↔ IsInTurn m past seen p
unfolding turn_test
turn_by RoundRobin past seen p = waited_by None past seen p
turn_by Weighted past seen p = if_by (λ class. NoneHasWaited (Some class) past seen p) (λ class. none_has_waited (Some class) past seen p) (class_in seen p.qid) (λ class. waited_by (Some class) past seen p)

pub keeps_by : (r : Rule) (m : Mechanism) (first : ArbitrationFields) (past : History) (seen : List Seen) (p : Pick) → (keeps r m first past seen p ≡ true) ↔ Keeps r m first past seen p
unfolding keeps
keeps_by rule.Candidates m first past seen p = candidates_by seen p
keeps_by rule.Burst m first past seen p = burst_by (settings_after first past) p
keeps_by rule.Priority m first past seen p = priority_by m seen p
keeps_by rule.Credit m first past seen p = credit_by m first past seen p
keeps_by rule.Turn m first past seen p = turn_by m past seen p

-- ---- runs
unfoldable pub keeps_each : Mechanism → ArbitrationFields → History → List Seen → Pick → Bool
keeps_each m first past seen p = keeps rule.Candidates m first past seen p && (keeps rule.Burst m first past seen p && (keeps rule.Priority m first past seen p && (keeps rule.Credit m first past seen p && keeps rule.Turn m first past seen p)))

unfoldable pub is_specified_run : Mechanism → ArbitrationFields → History → Bool
is_specified_run m first [] = true
is_specified_run m first (Changed s ∷ past) = is_specified_run m first past
is_specified_run m first (Picked seen p ∷ past) = is_observation_from 0 seen && (keeps_each m first past seen p && is_specified_run m first past)

pick_by_test : (m : Mechanism) (first : ArbitrationFields) (past : History) (seen : List Seen) (p : Pick) → keeps_each m first past seen p ≡ true → IsSpecifiedPick m first past seen p
unfolding keeps_each
pick_by_test m first past seen p h r =
    let a = and_parts (keeps rule.Candidates m first past seen p) (keeps rule.Burst m first past seen p && (keeps rule.Priority m first past seen p && (keeps rule.Credit m first past seen p && keeps rule.Turn m first past seen p))) h in
    let b = and_parts (keeps rule.Burst m first past seen p) (keeps rule.Priority m first past seen p && (keeps rule.Credit m first past seen p && keeps rule.Turn m first past seen p)) a.1 in
    let c = and_parts (keeps rule.Priority m first past seen p) (keeps rule.Credit m first past seen p && keeps rule.Turn m first past seen p) b.1 in
    let d = and_parts (keeps rule.Credit m first past seen p) (keeps rule.Turn m first past seen p) c.1 in
    (keeps_by r m first past seen p).0 (elim r as (λ r. keeps r m first past seen p ≡ true) [
      | rule.Candidates ↦ a.0
      | rule.Burst ↦ b.0
      | rule.Priority ↦ c.0
      | rule.Credit ↦ d.0
      | rule.Turn ↦ d.1
    ])

-- a run that passes the test is one that the specification allows
pub run_by_test : (m : Mechanism) (first : ArbitrationFields) (past : History) → is_specified_run m first past ≡ true → IsSpecifiedRun m first past
unfolding is_specified_run
run_by_test m first [] h = tt
run_by_test m first (Changed s ∷ past) h = run_by_test m first past h
run_by_test m first (Picked seen p ∷ past) h =
    let a = and_parts (is_observation_from 0 seen) (keeps_each m first past seen p && is_specified_run m first past) h in
    let b = and_parts (keeps_each m first past seen p) (is_specified_run m first past) a.1 in
    (observation_by_test seen a.0, pick_by_test m first past seen p b.0, run_by_test m first past b.1)

-- a pick that fails the test of a rule breaks it
pub breaks_by_test : (r : Rule) (m : Mechanism) (first : ArbitrationFields) (past : History) (seen : List Seen) (p : Pick) → keeps r m first past seen p ≡ false → Keeps r m first past seen p → ⊥
breaks_by_test r m first past seen p f h = true≢false (sym ((keeps_by r m first past seen p).1 h) ∙ f)

-- ---- one rule alone
unfoldable pub is_rule : Rule → Rule → Bool
is_rule rule.Candidates rule.Candidates = true
is_rule rule.Burst rule.Burst = true
is_rule rule.Priority rule.Priority = true
is_rule rule.Credit rule.Credit = true
is_rule rule.Turn rule.Turn = true
is_rule _ _ = false

same_rule : (a b : Rule) → is_rule a b ≡ true → a ≡ b
unfolding is_rule
same_rule rule.Candidates rule.Candidates h = refl
same_rule rule.Burst rule.Burst h = refl
same_rule rule.Priority rule.Priority h = refl
same_rule rule.Credit rule.Credit h = refl
same_rule rule.Turn rule.Turn h = refl
same_rule _ _ h = absurd (cc)

-- each rule is this one, or is kept
unfoldable pub breaks_alone : Rule → Mechanism → ArbitrationFields → History → List Seen → Pick → Rule → Bool
breaks_alone broken m first past seen p other = is_rule other broken || keeps other m first past seen p

pub alone_by_test : (r : Rule) (m : Mechanism) (first : ArbitrationFields) (past : History) (seen : List Seen) (p : Pick) → is_specified_run m first past ≡ true → is_observation_from 0 seen ≡ true → keeps r m first past seen p ≡ false
    → breaks_alone r m first past seen p rule.Candidates ≡ true → breaks_alone r m first past seen p rule.Burst ≡ true → breaks_alone r m first past seen p rule.Priority ≡ true → breaks_alone r m first past seen p rule.Credit ≡ true → breaks_alone r m first past seen p rule.Turn ≡ true
    → BreaksAlone r m first past seen p
unfolding breaks_alone
alone_by_test r m first past seen p so o f a b c d e = record {
  so_far = run_by_test m first past so;
  observed = observation_by_test seen o;
  breaks = breaks_by_test r m first past seen p f;
  keeps_others = λ other n. elim (or_cases (is_rule other r) (keeps other m first past seen p)
      (elim other as (λ other. (is_rule other r || keeps other m first past seen p) ≡ true) [
        | rule.Candidates ↦ a
        | rule.Burst ↦ b
        | rule.Priority ↦ c
        | rule.Credit ↦ d
        | rule.Turn ↦ e
      ])) [
        | inl same ↦ absurd (n (same_rule other r same))
        | inr k ↦ (keeps_by other m first past seen p).0 k
      ];
}

-- ---- runs that are not lawful by the profile
lawful_pick_is : (p : Pick) (o : Option Pick) → o ≡ Some p → is_pick p o ≡ true
lawful_pick_is p o e = ap (is_pick p) e ∙ picks_itself p

lawful_to_test : (m : Mechanism) (first : ArbitrationFields) (past : History) → IsLawfulRun m first past → is_lawful_run m first past ≡ true
unfolding is_lawful_run
lawful_to_test m first [] r = refl
lawful_to_test m first (Changed s ∷ past) r = lawful_to_test m first past r
lawful_to_test m first (Picked seen p ∷ past) r =
    and_from (is_observation_from 0 seen) (is_pick p (lawful_pick m first past seen) && is_lawful_run m first past) ((tested seen).1 r.0)
    (and_from (is_pick p (lawful_pick m first past seen)) (is_lawful_run m first past) (lawful_pick_is p (lawful_pick m first past seen) r.1) (lawful_to_test m first past r.2))

-- a run that fails the test is not lawful
pub unlawful_by_test : (m : Mechanism) (first : ArbitrationFields) (past : History) → is_lawful_run m first past ≡ false → IsLawfulRun m first past → ⊥
unlawful_by_test m first past f r = true≢false (sym (lawful_to_test m first past r) ∙ f)
