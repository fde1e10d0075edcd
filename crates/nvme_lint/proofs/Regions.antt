-- Regions of a workload that are added to a table one by one.
use Rattle.std.proofs.Common.{◌≡◌, ◌≢◌, ℕ, suc, ◌+◌, ◌<◌, ◌==◌, ◌||◌, Bool, true, false, if◌then◌else◌, List, [], ◌∷◌, ◌++◌, length, map, take, drop, get_or, Option, Some, None, refl, sym, ap, ◌∙◌, subst, arith, ne_eqb, append_assoc}
use Rattle.std.specs.Prelude.{is_some}
use Rattle.std.specs.List.{AllPairs, list_any, position}
use Rattle.std.proofs.lemmas.Bool.{le-ltb}
use Rattle.std.proofs.Math.Seq.{drop-cons, take-suc}
use Rattle.std.proofs.lemmas.List.{append-nil, map-append, length-append, get_or_append_left, take-append-drop}
use Rattle.std.proofs.lemmas.Simd.{map-map}
use Rattle.std.proofs.lemmas.List.Folds.{list_any_none, list_any-append, list_any_at}
use Rattle.std.proofs.lemmas.List.Quantifiers.{position-Some}
use Rattle.nvme_admin.specs.declared.bounds.TheConstants.{MAX_REGIONS, MIN_SLOTS, MAX_SLOTS}
use Rattle.nvme_admin.specs.declared.region.Region.{Region}
use Rattle.nvme_admin.specs.declared.region.AdminError.{AdminError}
use Rattle.nvme_admin.specs.declared.region.AdminError.TheVariants.{Used, TooMany, Size}
use Rattle.nvme_admin.specs.QueueTable.{region_number}
use Rattle.nvme_admin.specs.Standing.{TableView, is_known, region_fault}
use Rattle.nvme_admin.specs.History.{TableHistory, Submission, Completion, RegionAdded}
use Rattle.nvme_workload.specs.declared.plan.SqPlan.{SqPlan}
use Rattle.nvme_workload.specs.declared.plan.CqPlan.{CqPlan}
use Rattle.nvme_workload.specs.Sound.{AreSlots, AreApart}
use Rattle.nvme_lint.specs.Warnings.{with_sqs, with_cqs}
use Rattle.nvme_lint.specs.inside.Regions.{sq_site, cq_site}

-- what stands behind a list is at its length
at_end : {A : Type 0} (before : List A) (a : A) (after : List A) (d : A) → get_or (before ++ a ∷ after) (length before) d ≡ a
at_end [] a after d = refl
at_end (x ∷ before) a after d = at_end before a after d

-- of numbers that are apart none is one that comes later
none_before : (before : List ℕ) (a : ℕ) (after : List ℕ) → AllPairs (λ (x y : ℕ). x ≢ y) (before ++ a ∷ after) → list_any (λ (x : ℕ). x == a) before ≡ false
none_before before a after apart =
    list_any_none (λ (x : ℕ). x == a) before (λ i d l.
    ne_eqb (get_or before i d) a (λ e.
    apart i (length before) d l (omega (arith, length-append before (a ∷ after)))
    (get_or_append_left before (a ∷ after) d i l ∙ e ∙ sym (at_end before a after d))))

-- some element of a map passes a test where some element passes it after the map
any_in_map : {A B : Type 0} (p : B → Bool) (f : A → B) (xs : List A) → list_any p (map f xs) ≡ list_any (λ (x : A). p (f x)) xs
any_in_map p f [] = refl
any_in_map p f (x ∷ xs) = ap (λ (b : Bool). p (f x) || b) (any_in_map p f xs)

-- no element is found where none passes
none_at : {A : Type 0} (p : A → Bool) (xs : List A) (d : A) → list_any p xs ≡ false → (o : Option ℕ) → position p xs ≡ o → is_some o ≡ false
none_at p xs d none None found = refl
none_at p xs d none (Some i) found =
    let at = position-Some p xs i d found in
    let some = list_any_at p xs i d at.0 at.1 in
    cc

-- an address of no region has no number
no_number : (regions : List Region) (a : ℕ) → list_any (λ (x : ℕ). x == a) (map (λ (r : Region). r.address) regions) ≡ false → is_some (region_number regions a) ≡ false
no_number regions a none =
    none_at (λ (r : Region). r.address == a) regions (record { address = 0; slots = 0 })
    (sym (any_in_map (λ (x : ℕ). x == a) (λ (r : Region). r.address) regions) ∙ none) (region_number regions a) refl

-- neither of two tests passes where their disjunction doesn't
or_parts : (a b : Bool) → (a || b) ≡ false → (a ≡ false) × (b ≡ false)
or_parts true b h = absurd cc
or_parts false b h = (refl, h)

-- the next address is that of no region, where the regions have the addresses before it
pub is_new : (v : TableView) (before after : List ℕ) (a : ℕ) → map (λ (r : Region). r.address) v.sq_regions ++ map (λ (r : Region). r.address) v.cq_regions ≡ before
    → AllPairs (λ (x y : ℕ). x ≢ y) (before ++ a ∷ after) → is_known v a ≡ false
is_new v before after a are apart =
    let is_a : ℕ → Bool = λ x. x == a in
    let sqs = map (λ (r : Region). r.address) v.sq_regions in
    let cqs = map (λ (r : Region). r.address) v.cq_regions in
    let both = or_parts (list_any is_a sqs) (list_any is_a cqs)
    (sym (list_any-append is_a sqs cqs) ∙ ap (λ (xs : List ℕ). list_any is_a xs) are ∙ none_before before a after apart) in
    (λ i. no_number v.sq_regions a both.0 i || no_number v.cq_regions a both.1 i)

-- a table takes a region of a new address, with a number of slots that it allows, while there is room for one
pub not_refused : (v : TableView) (regions : List Region) (a slots : ℕ) → is_known v a ≡ false → (length regions ≡ MAX_REGIONS → ⊥)
    → AreSlots slots → (e : AdminError) → region_fault v regions a slots ≡ Some e → ⊥
not_refused v regions a slots other room fit e refused =
    let none : region_fault v regions a slots ≡ None = λ j.
    if other j then Some Used
    else (if (ne_eqb (length regions) MAX_REGIONS room) j then Some TooMany
    else (if (le-ltb slots MIN_SLOTS fit.0) j || (le-ltb MAX_SLOTS slots fit.1) j then Some Size
    else None)) in
    cc

-- ---- one region of a list
-- the next number
next : (i : ℕ) → i + 1 ≡ suc i
next i = omega arith

-- what stands before an element, it, and what stands behind it
split_at : {A : Type 0} (xs : List A) (i : ℕ) (d : A) → i < length xs → take i xs ++ get_or xs i d ∷ drop (suc i) xs ≡ xs
split_at xs i d there = ap (λ r. take i xs ++ r) (sym (drop-cons xs i d there)) ∙ take-append-drop i xs

-- the addresses up to one, and it, and the others' are those of all
apart_at : {A : Type 0} (f : A → ℕ) (first : List ℕ) (xs : List A) (i : ℕ) (d : A) → i < length xs
    → AllPairs (λ (a b : ℕ). a ≢ b) (first ++ map f xs) → AllPairs (λ (a b : ℕ). a ≢ b) ((first ++ map f (take i xs)) ++ f (get_or xs i d) ∷ map f (drop (suc i) xs))
apart_at f first xs i d there apart =
    subst (λ zs. AllPairs (λ (a b : ℕ). a ≢ b) zs)
    (ap (λ zs. first ++ map f zs) (sym (split_at xs i d there)) ∙ ap (λ zs. first ++ zs) (map-append f (take i xs) (get_or xs i d ∷ drop (suc i) xs))
    ∙ sym (append_assoc first (map f (take i xs)) (f (get_or xs i d) ∷ map f (drop (suc i) xs)))) apart

-- the regions of the first plans, and one more
pub sites_more : {A B : Type 0} (f : A → B) (xs : List A) (i : ℕ) (d : A) (old new : List B) → i < length xs → old ≡ map f (take i xs)
    → new ≡ old ++ f (get_or xs i d) ∷ [] → new ≡ map f (take (i + 1) xs)
sites_more f xs i d old new there before more =
    more ∙ ap (λ zs. zs ++ f (get_or xs i d) ∷ []) before ∙ sym (map-append f (take i xs) (get_or xs i d ∷ []))
    ∙ sym (ap (λ zs. map f zs) (ap (λ n. take n xs) (next i) ∙ take-suc xs i d there))

-- ---- submission regions
-- the next submission region has a new address
pub sq_is_new : (v : TableView) (plans : List SqPlan) (i : ℕ) (d : SqPlan) → i < length plans → v.sq_regions ≡ map sq_site (take i plans) → v.cq_regions ≡ []
    → AreApart plans [] → is_known v (get_or plans i d).address ≡ false
sq_is_new v plans i d there sqs cqs apart =
    let address : SqPlan → ℕ = λ s. s.address in
    is_new v (map address (take i plans)) (map address (drop (suc i) plans)) (get_or plans i d).address
    ((λ j. map (λ (r : Region). r.address) (sqs j) ++ map (λ (r : Region). r.address) (cqs j)) ∙ append-nil (map (λ (r : Region). r.address) (map sq_site (take i plans)))
    ∙ map-map (λ (r : Region). r.address) sq_site (take i plans))
    (apart_at address [] plans i d there (subst (λ zs. AllPairs (λ (a b : ℕ). a ≢ b) zs) (append-nil (map address plans)) apart))

-- it is the next step of the history
pub sq_next : (h : TableHistory) (plans : List SqPlan) (i : ℕ) (d : SqPlan) → i < length plans
    → with_sqs (RegionAdded Submission (get_or plans i d).address (get_or plans i d).slots ∷ h) (drop (i + 1) plans) ≡ with_sqs h (drop i plans)
unfolding with_sqs
sq_next h plans i d there =
    ap (λ n. with_sqs (RegionAdded Submission (get_or plans i d).address (get_or plans i d).slots ∷ h) (drop n plans)) (next i)
    ∙ sym (ap (λ rs. with_sqs h rs) (drop-cons plans i d there))

pub sq_none_left : (h : TableHistory) → with_sqs h [] ≡ h
unfolding with_sqs
sq_none_left h = refl

-- ---- completion regions
abbrev pub no_cq : CqPlan
no_cq = record { address = 0; slots = 0 }

-- the next completion region has a new address
pub cq_is_new : (v : TableView) (first : List SqPlan) (plans : List CqPlan) (i : ℕ) → i < length plans → v.sq_regions ≡ map sq_site first
    → v.cq_regions ≡ map cq_site (take i plans) → AreApart first plans → is_known v (get_or plans i no_cq).address ≡ false
cq_is_new v first plans i there sqs cqs apart =
    let address : CqPlan → ℕ = λ s. s.address in
    let firsts : List ℕ = map (λ (s : SqPlan). s.address) first in
    is_new v (firsts ++ map address (take i plans)) (map address (drop (suc i) plans)) (get_or plans i no_cq).address
    ((λ j. map (λ (r : Region). r.address) (sqs j) ++ map (λ (r : Region). r.address) (cqs j))
    ∙ (λ j. map-map (λ (r : Region). r.address) sq_site first j ++ map-map (λ (r : Region). r.address) cq_site (take i plans) j))
    (apart_at address firsts plans i no_cq there apart)

-- it is the next step of the history
pub cq_next : (h : TableHistory) (plans : List CqPlan) (i : ℕ) → i < length plans
    → with_cqs (RegionAdded Completion (get_or plans i no_cq).address (get_or plans i no_cq).slots ∷ h) (drop (i + 1) plans) ≡ with_cqs h (drop i plans)
unfolding with_cqs
cq_next h plans i there =
    ap (λ n. with_cqs (RegionAdded Completion (get_or plans i no_cq).address (get_or plans i no_cq).slots ∷ h) (drop n plans)) (next i)
    ∙ sym (ap (λ rs. with_cqs h rs) (drop-cons plans i no_cq there))

pub cq_none_left : (h : TableHistory) → with_cqs h [] ≡ h
unfolding with_cqs
cq_none_left h = refl
