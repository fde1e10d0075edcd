-- One more command, and one more region.
use Rattle.std.proofs.Common.{◌≡◌, ◌≢◌, ℕ, zero, suc, ◌+◌, ◌≤◌, Bool, true, false, eqb, ◌||◌, List, [], ◌∷◌, ◌++◌, length, map, refl, sym, ap, subst, ◌∙◌, append_assoc, append-nil, arith}
use Rattle.std.specs.List.{All, AllPairs, list_any, range_with_len}
use Rattle.std.proofs.lemmas.Bool.{eqb-false}
use Rattle.std.proofs.lemmas.List.{map-append, length-append}
use Rattle.std.proofs.lemmas.List.Elements.{All-nil, All-cons, All-push, All-append}
use Rattle.std.proofs.lemmas.List.Quantifiers.{all_pairs_push}
use Rattle.std.proofs.lemmas.List.Sums.{sum_by-append}
use Rattle.nvme_entry.specs.declared.submission.Sqe.{Sqe}
use Rattle.nvme_workload.specs.declared.plan.SqPlan.{SqPlan}
use Rattle.nvme_workload.specs.declared.plan.CqPlan.{CqPlan}
use Rattle.nvme_workload.specs.Scripts.{most_commands}
use Rattle.nvme_workload.specs.Regions.{has_address, command_count}
use Rattle.nvme_workload.specs.Sound.{IsNumbered, AreSlots, AreApart, AreSubmissions, AreCompletions}

-- ---- commands

range_more : (a n j : ℕ) → a + n ≡ j → range_with_len a (suc n) ≡ range_with_len a n ++ j ∷ []
range_more a zero j e = ap (λ k. k ∷ []) (omega arith)
range_more a (suc n) j e = ap (λ ks. a ∷ ks) (range_more (a + 1) n j (omega arith))

pub numbered_push : (script : List Sqe) (command : Sqe) → IsNumbered script → command.cid ≡ length script → IsNumbered (script ++ command ∷ [])
numbered_push script command h cid =
    let len : length (script ++ command ∷ []) ≡ suc (length script) = omega (arith, length-append script (command ∷ [])) in
    rw (len, map-append (λ (c : Sqe). c.cid) script (command ∷ []), h, cid) (sym (range_more 0 (length script) (length script) (omega arith)))

-- ---- addresses

neither : (b c : Bool) → (b || c) ≡ false → (b ≡ false) × (c ≡ false)
neither true c e = absurd cc
neither false c e = (refl, e)

-- no region of these has the address
others : {X : Type 0} (f : X → ℕ) (a : ℕ) (xs : List X) → list_any (λ x. eqb (f x) a) xs ≡ false → All (λ b. b ≢ a) (map f xs)
others f a [] h = All-nil (λ b. b ≢ a)
others f a (x ∷ xs) h =
    let (here, more) = neither (eqb (f x) a) (list_any (λ y. eqb (f y) a) xs) h in
    All-cons (λ b. b ≢ a) (f x) (map f xs) (eqb-false (f x) a here) (others f a xs more)

-- one more address that none before it is
apart_push : (before : List ℕ) (a : ℕ) → AllPairs (λ x y. x ≢ y) before → All (λ b. b ≢ a) before → AllPairs (λ x y. x ≢ y) (before ++ a ∷ [])
apart_push before a h new = all_pairs_push (λ x y. x ≢ y) before a h (λ k d lt. new k d lt)

abbrev sq_addresses : List SqPlan → List ℕ
sq_addresses regions = map (λ region. region.address) regions

abbrev cq_addresses : List CqPlan → List ℕ
cq_addresses regions = map (λ region. region.address) regions

all_others : (submissions : List SqPlan) (completions : List CqPlan) (a : ℕ) → has_address submissions completions a ≡ false → All (λ b. b ≢ a) (sq_addresses submissions ++ cq_addresses completions)
all_others submissions completions a h =
    let (left, right) = neither (list_any (λ (p : SqPlan). eqb p.address a) submissions) (list_any (λ (p : CqPlan). eqb p.address a) completions) h in
    All-append (λ b. b ≢ a) (sq_addresses submissions) (cq_addresses completions) (others (λ (p : SqPlan). p.address) a submissions left) (others (λ (p : CqPlan). p.address) a completions right)

apart_sq : (regions : List SqPlan) (region : SqPlan) → AreApart regions [] → has_address regions [] region.address ≡ false → AreApart (regions ++ region ∷ []) []
apart_sq regions region h fresh =
    let before : AllPairs (λ x y. x ≢ y) (sq_addresses regions) = subst (λ (l : List ℕ). AllPairs (λ x y. x ≢ y) l) (append-nil (sq_addresses regions)) h in
    let new : All (λ b. b ≢ region.address) (sq_addresses regions) = subst (λ (l : List ℕ). All (λ b. b ≢ region.address) l) (append-nil (sq_addresses regions)) (all_others regions [] region.address fresh) in
    let same : sq_addresses (regions ++ region ∷ []) ++ [] ≡ sq_addresses regions ++ region.address ∷ [] = append-nil (sq_addresses (regions ++ region ∷ [])) ∙ map-append (λ (p : SqPlan). p.address) regions (region ∷ []) in
    subst (λ (l : List ℕ). AllPairs (λ x y. x ≢ y) l) (sym same) (apart_push (sq_addresses regions) region.address before new)

apart_cq : (submissions : List SqPlan) (regions : List CqPlan) (region : CqPlan) → AreApart submissions regions → has_address submissions regions region.address ≡ false → AreApart submissions (regions ++ region ∷ [])
apart_cq submissions regions region h fresh =
    let same : sq_addresses submissions ++ cq_addresses (regions ++ region ∷ []) ≡ (sq_addresses submissions ++ cq_addresses regions) ++ region.address ∷ [] = ap (λ (l : List ℕ). sq_addresses submissions ++ l) (map-append (λ (p : CqPlan). p.address) regions (region ∷ [])) ∙ sym (append_assoc (sq_addresses submissions) (cq_addresses regions) (region.address ∷ [])) in
    subst (λ (l : List ℕ). AllPairs (λ x y. x ≢ y) l) (sym same) (apart_push (sq_addresses submissions ++ cq_addresses regions) region.address h (all_others submissions regions region.address fresh))

-- ---- regions

pub submissions_push : (regions : List SqPlan) (region : SqPlan) (commands : ℕ) → AreSubmissions regions → commands ≡ command_count regions → has_address regions [] region.address ≡ false → AreSlots region.slots → IsNumbered region.script → commands + length region.script ≤ most_commands → AreSubmissions (regions ++ region ∷ [])
submissions_push regions region commands h all fresh slots numbered fits = record {
  slots = All-push (λ (p : SqPlan). AreSlots p.slots) regions region h.slots slots;
  apart = apart_sq regions region h.apart fresh;
  numbered = All-push (λ (p : SqPlan). IsNumbered p.script) regions region h.numbered numbered;
  commands = omega (arith, sum_by-append (λ (p : SqPlan). length p.script) regions (region ∷ []), all, fits);
}

pub completions_push : (submissions : List SqPlan) (regions : List CqPlan) (region : CqPlan) → AreCompletions submissions regions → has_address submissions regions region.address ≡ false → AreSlots region.slots → AreCompletions submissions (regions ++ region ∷ [])
completions_push submissions regions region h fresh slots = record {
  slots = All-push (λ (p : CqPlan). AreSlots p.slots) regions region h.slots slots;
  apart = apart_cq submissions regions region h.apart fresh;
}

pub submissions_none : AreSubmissions []
submissions_none = record {
  slots = All-nil (λ (p : SqPlan). AreSlots p.slots);
  apart = λ i j d below within. absurd (omega arith);
  numbered = All-nil (λ (p : SqPlan). IsNumbered p.script);
  commands = omega arith;
}

pub completions_none : (submissions : List SqPlan) → AreApart submissions [] → AreCompletions submissions []
completions_none submissions h = record {
  slots = All-nil (λ (p : CqPlan). AreSlots p.slots);
  apart = h;
}
