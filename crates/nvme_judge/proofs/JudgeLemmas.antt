-- A judge stands at a history, and at one event more.
use Rattle.std.proofs.Common.{◌≡◌, ◌≢◌, ℕ, ◌+◌, ◌<◌, ◌≤◌, ◌==◌, ◌&&◌, ◌||◌, not, Bool, true, false, List, [], ◌∷◌, ◌++◌, find, inl, inr, refl, sym, ap, subst, ◌∙◌, arith}
use Rattle.std.specs.Prelude.{Option, Some, None, All, IsTrue, IsFalse, ◌↔◌, filter, option_map, if◌then◌else◌}
use Rattle.std.proofs.lemmas.Bool.{cases_Bool, eqb-true, cond-false}
use Rattle.std.proofs.lemmas.List.Elements.{All-head, All-tail, All-nil, All-cons}
use Rattle.nvme_arbiter.specs.Limits.{queue_limit}
use Rattle.nvme_arbiter.specs.Settings.{ArbitrationFields}
use Rattle.nvme_arbiter.specs.Observation.{is_wanted, class_in, IsObservation}
use Rattle.nvme_arbiter.specs.History.{Picked, Changed, History, is_in_class, settings_after}
use Rattle.nvme_arbiter.specs.Specified.{waiting, TakesCandidates, is_pick_in, has_waited, NoneHasWaited, IsInTurn}
use Rattle.nvme_arbiter.proofs.Choices.{same_class, class_itself}
use Rattle.nvme_arbiter.specs.declared.settings.Class.{Class}
use Rattle.nvme_arbiter.specs.declared.settings.Mechanism.{Mechanism}
use Rattle.nvme_arbiter.specs.declared.settings.Mechanism.TheVariants.{RoundRobin, Weighted}
use Rattle.nvme_arbiter.specs.declared.pick.Seen.{Seen}
use Rattle.nvme_arbiter.specs.declared.pick.Pick.{Pick}
use Rattle.nvme_judge.specs.declared.turns.Turn.{Turn}
use Rattle.nvme_judge.specs.declared.turns.Turns.{Turns}
use Rattle.nvme_judge.specs.Turns.{picks_in, is_ready_in, waits_since, is_since, turn_after, turn_in, turns_of, no_turn}
use Rattle.nvme_judge.specs.Standing.{JudgeView, JudgeStandsAt, TellsTurns, UsedIs, IsQuiet}
use Rattle.nvme_judge.specs.inside.Steps.{turn_with, some_has_waited, turn_class}
use Rattle.nvme_judge.proofs.TurnLemmas.{waited, turn_more, turn_same}

-- ---- at first
pub stands_first : (mechanism : Mechanism) (first : ArbitrationFields) (prior : History) (judge : JudgeView) → judge.mechanism ≡ mechanism → judge.settings ≡ settings_after first prior → UsedIs mechanism first prior judge.used → judge.picks ≡ 0
    → ((class : Option Class) (qid : ℕ) → turn_in (turns_of judge.turns class) qid ≡ no_turn) → IsQuiet prior → JudgeStandsAt mechanism first prior [] judge
stands_first RoundRobin first prior judge m s u p t q = record { mechanism_is = m; settings_are = s; picks_are = p; tells = λ qid lt. t None qid; quiet = q }
stands_first Weighted first prior judge m s u p t q = record { mechanism_is = m; settings_are = s; picks_are = p; tells = (u, λ class qid lt. t (Some class) qid); quiet = q }

-- ---- one pick more
-- what is kept of the queues has the pick
record IsNoted (turns next : Turns) (class : Option Class) (seen : List Seen) (pick : Pick) (number : ℕ) : Type 0 where
  pub noted : (qid : ℕ) → qid < queue_limit → turn_in (turns_of next class) qid ≡ turn_with number (pick.qid == qid) (is_ready_in class qid seen) (turn_in (turns_of turns class) qid)
  pub others : (other : Option Class) → other ≢ class → turns_of next other ≡ turns_of turns other

counts : (class : Option Class) (past : History) (seen : List Seen) (pick : Pick) (turns next : Turns) (number : ℕ) → is_pick_in class seen pick ≡ true → number ≡ picks_in past + 1 → IsNoted turns next class seen pick number → TellsTurns class past turns → TellsTurns class (Picked seen pick ∷ past) next
counts class past seen pick turns next number is n noted tells = λ qid lt.
    noted.noted qid lt ∙ (ap (λ (t : Turn). turn_with number (pick.qid == qid) (is_ready_in class qid seen) t) (tells qid lt)
    ∙ (ap (λ (k : ℕ). turn_with k (pick.qid == qid) (is_ready_in class qid seen) (turn_after class qid past)) n ∙ sym (turn_more class qid past seen pick is)))

passes : (class : Option Class) (past : History) (seen : List Seen) (pick : Pick) (turns next : Turns) → is_pick_in class seen pick ≡ false → turns_of next class ≡ turns_of turns class → TellsTurns class past turns → TellsTurns class (Picked seen pick ∷ past) next
passes class past seen pick turns next is same tells = λ qid lt.
    ap (λ (ts : List Turn). turn_in ts qid) same ∙ (tells qid lt ∙ sym (turn_same class qid past seen pick is))

in_class : (class : Class) (o : Option Class) → is_in_class class o ≡ true → o ≡ Some class
in_class class None h = absurd (cc)
in_class class (Some other) h = ap Some (sym (same_class class other h))

not_in_class : (class : Class) (o : Option Class) → is_in_class class o ≡ false → Some class ≢ o
not_in_class class o h e =
    let here : is_in_class class o ≡ true = subst (λ (x : Option Class). is_in_class class x ≡ true) e (class_itself class) in absurd (cc)

each_class : (past : History) (seen : List Seen) (pick : Pick) (turns next : Turns) (number : ℕ) → number ≡ picks_in past + 1 → IsNoted turns next (class_in seen pick.qid) seen pick number
    → ((class : Class) → TellsTurns (Some class) past turns) → (class : Class) → TellsTurns (Some class) (Picked seen pick ∷ past) next
each_class past seen pick turns next number n noted tells class =
    elim (cases_Bool (is_in_class class (class_in seen pick.qid))) [
      | inl y ↦ counts (Some class) past seen pick turns next number y n (subst (λ (o : Option Class). IsNoted turns next o seen pick number) (in_class class (class_in seen pick.qid) y) noted) (tells class)
      | inr f ↦ passes (Some class) past seen pick turns next f (noted.others (Some class) (not_in_class class (class_in seen pick.qid) f)) (tells class)
    ]

pub stands_more : (mechanism : Mechanism) (first : ArbitrationFields) (prior past : History) (seen : List Seen) (pick : Pick) (judge next : JudgeView) (class : Option Class)
    → JudgeStandsAt mechanism first prior past judge → UsedIs mechanism first (Picked seen pick ∷ past ++ prior) next.used → next.mechanism ≡ judge.mechanism → next.settings ≡ judge.settings → next.picks ≡ judge.picks + 1
    → class ≡ turn_class judge.mechanism (class_in seen pick.qid)
    → ((qid : ℕ) → qid < queue_limit → turn_in (turns_of next.turns class) qid ≡ turn_with next.picks (pick.qid == qid) (is_ready_in class qid seen) (turn_in (turns_of judge.turns class) qid))
    → ((other : Option Class) → other ≢ class → turns_of next.turns other ≡ turns_of judge.turns other)
    → JudgeStandsAt mechanism first prior (Picked seen pick ∷ past) next
stands_more RoundRobin first prior past seen pick judge next class stands used m s p c noted others =
    let picks : next.picks ≡ picks_in past + 1 = p ∙ ap (λ (n : ℕ). n + 1) stands.picks_are in
    let all : class ≡ None = c ∙ ap (λ m. turn_class m (class_in seen pick.qid)) stands.mechanism_is in
    let here : IsNoted judge.turns next.turns class seen pick next.picks = record { noted = noted; others = others } in
    record {
      mechanism_is = m ∙ stands.mechanism_is;
      settings_are = s ∙ stands.settings_are;
      picks_are = picks;
      tells = counts None past seen pick judge.turns next.turns next.picks refl picks (subst (λ (o : Option Class). IsNoted judge.turns next.turns o seen pick next.picks) all here) stands.tells;
      quiet = stands.quiet;
    }
stands_more Weighted first prior past seen pick judge next class stands used m s p c noted others =
    let picks : next.picks ≡ picks_in past + 1 = p ∙ ap (λ (n : ℕ). n + 1) stands.picks_are in
    let its : class ≡ class_in seen pick.qid = c ∙ ap (λ m. turn_class m (class_in seen pick.qid)) stands.mechanism_is in
    let here : IsNoted judge.turns next.turns class seen pick next.picks = record { noted = noted; others = others } in
    record {
      mechanism_is = m ∙ stands.mechanism_is;
      settings_are = s ∙ stands.settings_are;
      picks_are = picks;
      tells = (used, each_class past seen pick judge.turns next.turns next.picks picks (subst (λ (o : Option Class). IsNoted judge.turns next.turns o seen pick next.picks) its here) stands.tells.1);
      quiet = stands.quiet;
    }

-- ---- turns
-- after a quiet history a queue waits since a pick that came later, or doesn't
waited_since : (class : Option Class) (other qid : ℕ) (prior past : History) → IsQuiet prior → has_waited class other qid (past ++ prior) ≡ has_waited class other qid past
waited_since class other qid prior [] q = q class other qid
waited_since class other qid prior (Changed settings ∷ past) q = waited_since class other qid prior past q
waited_since class other qid prior (Picked seen pick ∷ past) q = rw (waited_since class other qid prior past q) refl

waits_by : (class : Option Class) (prior past : History) (turns : Turns) (other qid : ℕ) → IsQuiet prior → TellsTurns class past turns → other < queue_limit → qid < queue_limit
    → is_since (turn_in (turns_of turns class) qid).since (turn_in (turns_of turns class) other).latest ≡ has_waited class other qid (past ++ prior)
waits_by class prior past turns other qid quiet tells o q =
    ap (λ (t : Turn). is_since t.since (turn_in (turns_of turns class) other).latest) (tells qid q)
    ∙ (ap (λ (t : Turn). is_since (waits_since class qid past) t.latest) (tells other o) ∙ (sym (waited class other qid past) ∙ sym (waited_since class other qid prior past quiet)))

IsKnown : Seen → Type 0
IsKnown s = s.qid < queue_limit

-- one queue more, which is ready or isn't
one_more : (ready since : Bool) (w : Bool) (rest : Bool) (x : Seen) (xs : List Seen) (P : Seen → Type 0) → since ≡ w → ((w ≡ false) ↔ P x) → (IsTrue (not rest) ↔ All P xs) → IsTrue (not ((ready && since) || rest)) ↔ All P (if ready then x ∷ xs else xs)
one_more false since w rest x xs P e p r = r
one_more true true w rest x xs P e p r = (λ h. absurd (cc), λ a. (let f : w ≡ false = p.1 (All-head P x xs a) in absurd (cc)))
one_more true false w rest x xs P e p r = (λ h. All-cons P x xs (p.0 (sym e)) (r.0 h), λ a. r.1 (All-tail P x xs a))

none_waits : (class : Option Class) (prior past : History) (turns : Turns) (other : ℕ) (xs : List Seen) → IsQuiet prior → TellsTurns class past turns → other < queue_limit → All IsKnown xs
    → IsTrue (not (some_has_waited class (turns_of turns class) other xs)) ↔ All (λ s. IsFalse (has_waited class other s.qid (past ++ prior))) (filter (is_wanted class) xs)
unfolding IsKnown
none_waits class prior past turns other [] quiet tells o known = (λ h. All-nil (λ s. IsFalse (has_waited class other s.qid (past ++ prior))), λ a. refl)
none_waits class prior past turns other (x ∷ xs) quiet tells o known =
    one_more (is_wanted class x) (is_since (turn_in (turns_of turns class) x.qid).since (turn_in (turns_of turns class) other).latest) (has_waited class other x.qid (past ++ prior)) (some_has_waited class (turns_of turns class) other xs) x (filter (is_wanted class) xs)
    (λ s. IsFalse (has_waited class other s.qid (past ++ prior))) (waits_by class prior past turns other x.qid quiet tells o (All-head IsKnown x xs known)) (λ f. f, λ f. f) (none_waits class prior past turns other xs quiet tells o (All-tail IsKnown x xs known))

all_known : (seen : List Seen) → IsObservation seen → All IsKnown seen
unfolding IsKnown
all_known seen o = λ k d h. let s = o.each k d h in let q = s.qid in omega arith

found : (xs : List Seen) (qid : ℕ) (s : Seen) → find (λ t. t.qid == qid) xs ≡ Some s → All IsKnown xs → qid < queue_limit
unfolding IsKnown
found [] qid s e known = absurd (cc)
found (x ∷ xs) qid s e known =
    elim (cases_Bool (x.qid == qid)) [
      | inl y ↦ (let here : x.qid < queue_limit = All-head IsKnown x xs known in let same : x.qid ≡ qid = eqb-true x.qid qid y in omega arith)
      | inr f ↦ found xs qid s (sym (cond-false (x.qid == qid) (Some x) (find (λ t. t.qid == qid) xs) f) ∙ e) (All-tail IsKnown x xs known)
    ]

some_waits : (o : Option Seen) (n : ℕ) → 1 ≤ n → n ≤ waiting o → (s : Seen) × (o ≡ Some s)
some_waits None n a b = absurd (omega arith)
some_waits (Some s) n a b = (s, refl)

pub in_turn_by : (mechanism : Mechanism) (first : ArbitrationFields) (prior past : History) (seen : List Seen) (pick : Pick) (judge : JudgeView) (class : Option Class) (waits : Bool)
    → JudgeStandsAt mechanism first prior past judge → IsObservation seen → TakesCandidates seen pick → class ≡ turn_class judge.mechanism (class_in seen pick.qid)
    → waits ≡ some_has_waited class (turns_of judge.turns class) pick.qid seen → IsTrue (not waits) ↔ IsInTurn mechanism (past ++ prior) seen pick
in_turn_by RoundRobin first prior past seen pick judge class waits stands o takes c is =
    let all : class ≡ None = c ∙ ap (λ m. turn_class m (class_in seen pick.qid)) stands.mechanism_is in
    let f = some_waits (find (λ s. s.qid == pick.qid) seen) pick.n takes.at_least_one takes.that_wait in
    let known = all_known seen o in
    let is_none : waits ≡ some_has_waited None (turns_of judge.turns None) pick.qid seen = subst (λ (k : Option Class). waits ≡ some_has_waited k (turns_of judge.turns k) pick.qid seen) all is in
    subst (λ (b : Bool). IsTrue (not b) ↔ IsInTurn RoundRobin (past ++ prior) seen pick) (sym is_none) (none_waits None prior past judge.turns pick.qid seen stands.quiet stands.tells (found seen pick.qid f.0 f.1 known) known)
in_turn_by Weighted first prior past seen pick judge class waits stands o takes c is =
    let its : class ≡ class_in seen pick.qid = c ∙ ap (λ m. turn_class m (class_in seen pick.qid)) stands.mechanism_is in
    let f = some_waits (find (λ s. s.qid == pick.qid) seen) pick.n takes.at_least_one takes.that_wait in
    let known = all_known seen o in
    let there : class_in seen pick.qid ≡ Some f.0.class = ap (λ (q : Option Seen). option_map (λ s. s.class) q) f.1 in
    let is_its : waits ≡ some_has_waited (Some f.0.class) (turns_of judge.turns (Some f.0.class)) pick.qid seen = subst (λ (k : Option Class). waits ≡ some_has_waited k (turns_of judge.turns k) pick.qid seen) (its ∙ there) is in
    rw there (subst (λ (b : Bool). IsTrue (not b) ↔ NoneHasWaited (Some f.0.class) (past ++ prior) seen pick) (sym is_its) (none_waits (Some f.0.class) prior past judge.turns pick.qid seen stands.quiet (stands.tells.1 f.0.class) (found seen pick.qid f.0 f.1 known) known))
