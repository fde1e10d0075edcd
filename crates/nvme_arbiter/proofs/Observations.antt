-- The test of an observation says what an observation is.
use Rattle.std.proofs.Common.{◌≡◌, ℕ, inl, inr, ◌+◌, ◌≤◌, ◌==◌, ◌&&◌, Bool, true, false, nat_le, List, [], ◌∷◌, refl, sym, ◌∙◌, arith}
use Rattle.std.specs.Prelude.{All, AllPairs, ◌↔◌}
use mathlib.Core.Bool.{beq}
use Rattle.std.proofs.lemmas.Bool.{and_parts, and_from, leb-true, le-leb, eqb-true, eq-eqb, cases_Bool, true≢false}
use Rattle.std.proofs.lemmas.List.Elements.{All-head, All-tail, All-nil, All-cons}
use Rattle.std.proofs.lemmas.List.Kept.{AllPairs-cons}
use Rattle.nvme_arbiter.specs.Limits.{highest_qid, highest_count}
use Rattle.nvme_arbiter.specs.declared.pick.Seen.{Seen}
use Rattle.nvme_arbiter.specs.declared.settings.Class.{Class}
use Rattle.nvme_arbiter.specs.declared.settings.Class.TheVariants.{Admin}
use Rattle.nvme_arbiter.specs.Observation.{is_class, IsSeen, IsObservation, is_seen, can_follow, is_observation_from}
use Rattle.nvme_arbiter.proofs.Choices.{same_class, class_itself}
use Rattle.nvme_arbiter.proofs.NextLemmas.{Below, below_rest, rest_ascends}

pub both_true : (a b : Bool) → beq a b ≡ true → a ≡ b
both_true true true h = refl
both_true false false h = refl
both_true true false h = absurd (cc)
both_true false true h = absurd (cc)

pub beq_itself : (a b : Bool) → a ≡ b → beq a b ≡ true
beq_itself true true h = refl
beq_itself false false h = refl
beq_itself true false h = absurd (cc)
beq_itself false true h = absurd (cc)

class_is : (c d : Class) → c ≡ d → is_class c d ≡ true
class_is c d e = rw e (class_itself d)

seen_from : (s : Seen) → is_seen s ≡ true → IsSeen s
seen_from s h =
    let a = and_parts (nat_le s.qid highest_qid) (nat_le s.count highest_count && beq (is_class s.class Admin) (s.qid == 0)) h in
    let b = and_parts (nat_le s.count highest_count) (beq (is_class s.class Admin) (s.qid == 0)) a.1 in
    let same : is_class s.class Admin ≡ (s.qid == 0) = both_true (is_class s.class Admin) (s.qid == 0) b.1 in
    record {
      qid = leb-true s.qid highest_qid a.0;
      count = leb-true s.count highest_count b.0;
      admin = (λ e. eqb-true s.qid 0 (sym same ∙ class_is s.class Admin e), λ e. same_class s.class Admin (same ∙ eq-eqb s.qid 0 e));
    }

from_seen : (s : Seen) → IsSeen s → is_seen s ≡ true
from_seen s h =
    let same : is_class s.class Admin ≡ (s.qid == 0) =
    elim (cases_Bool (s.qid == 0)) [
      | inl t ↦ class_is s.class Admin (h.admin.1 (eqb-true s.qid 0 t)) ∙ sym t
      | inr f ↦ elim (cases_Bool (is_class s.class Admin)) [
        | inl t ↦ let zero_is : (s.qid == 0) ≡ true = eq-eqb s.qid 0 (h.admin.0 (same_class s.class Admin t)) in t ∙ sym zero_is
        | inr g ↦ g ∙ sym f
      ]
    ] in
    and_from (nat_le s.qid highest_qid) (nat_le s.count highest_count && beq (is_class s.class Admin) (s.qid == 0)) (le-leb s.qid highest_qid h.qid)
    (and_from (nat_le s.count highest_count) (beq (is_class s.class Admin) (s.qid == 0)) (le-leb s.count highest_count h.count) (beq_itself (is_class s.class Admin) (s.qid == 0) same))

-- the queues from an identifier on
pub record IsFromOn (least : ℕ) (seen : List Seen) : Type 0 where
  pub from_on : All (λ s. least ≤ s.qid) seen
  pub observed : IsObservation seen

observed_from : (least : ℕ) (seen : List Seen) → is_observation_from least seen ≡ true → IsFromOn least seen
observed_from least [] h = record { from_on = All-nil (λ s. least ≤ s.qid); observed = record { each = All-nil IsSeen; ascending = λ i j d a b. absurd (omega arith) } }
observed_from least (x ∷ xs) h =
    let b = and_parts (can_follow least x) (is_observation_from (x.qid + 1) xs) h in
    let a = and_parts (nat_le least x.qid) (is_seen x) b.0 in
    let rest = observed_from (x.qid + 1) xs b.1 in
    let low : least ≤ x.qid = leb-true least x.qid a.0 in
    let above_x : All (Below x) xs = λ k d h. let m = rest.from_on k d h in omega arith in
    record {
      from_on = All-cons (λ s. least ≤ s.qid) x xs low (λ k d h. let m = rest.from_on k d h in omega arith);
      observed = record { each = All-cons IsSeen x xs (seen_from x a.1) rest.observed.each; ascending = AllPairs-cons Below x xs above_x rest.observed.ascending };
    }

from_observed : (least : ℕ) (seen : List Seen) → All (λ s. least ≤ s.qid) seen → All IsSeen seen → AllPairs Below seen → is_observation_from least seen ≡ true
from_observed least [] a b p = refl
from_observed least (x ∷ xs) a b p =
    and_from (can_follow least x) (is_observation_from (x.qid + 1) xs)
    (and_from (nat_le least x.qid) (is_seen x) (le-leb least x.qid (All-head (λ s. least ≤ s.qid) x xs a)) (from_seen x (All-head IsSeen x xs b)))
    (from_observed (x.qid + 1) xs (λ k d h. let m = below_rest x xs p k d h in omega arith) (All-tail IsSeen x xs b) (rest_ascends x xs p))

pub observation_by_test : (seen : List Seen) → is_observation_from 0 seen ≡ true → IsObservation seen
observation_by_test seen h = (observed_from 0 seen h).observed

pub tested : (seen : List Seen) → (is_observation_from 0 seen ≡ true) ↔ IsObservation seen
tested seen = (observation_by_test seen, λ o. from_observed 0 seen (λ k d h. omega arith) o.each o.ascending)

-- a list that fails the test is no observation
pub no_observation : (seen : List Seen) → is_observation_from 0 seen ≡ false → IsObservation seen → ⊥
no_observation seen f o = true≢false (sym ((tested seen).1 o) ∙ f)
