-- The identifiers that lie behind the last one up to another, going round: how many of a list there are falls with each pick.
use Rattle.std.proofs.Common.{◌≡◌, ◌≢◌, ℕ, zero, suc, ◌+◌, ◌<◌, ◌≤◌, ◌==◌, ◌⊎◌, ◌&&◌, ◌||◌, inl, inr, ◌∷◌, [], Bool, true, false, nat_lt, nat_le, cond, List, length, count_by, refl, sym, ap, subst, ◌∙◌, arith}
use Rattle.std.specs.Prelude.{Option, Some, None, All, IfSome, filter}
use Rattle.std.specs.List.{list_any}
use Rattle.std.specs.Option.{option_or}
use Rattle.std.proofs.lemmas.Bool.{cases_lt, cases_eq, cases_Bool, cond-true, cond-false, lt-ltb, le-ltb, ltb-true, ltb-false, eqb-true, or_cases, or_parts, both_ways, true≢false}
use Rattle.std.proofs.lemmas.Bool.Decides.{nat_tests}
use Rattle.std.proofs.lemmas.List.Elements.{All-head, All-tail, All-nil, All-cons, All-filter, filter_passes}
use Rattle.std.proofs.lemmas.List.Sums.{count_by-le-length, sum_by-cons}
use Rattle.nvme_arbiter.specs.declared.pick.Seen.{Seen}
use Rattle.nvme_arbiter.specs.Next.{above, least, next}
use Rattle.nvme_arbiter.proofs.Choices.{IfSome-least, filter_nil, next_none}
use Rattle.nvme_arbiter.proofs.ServiceLemmas.{least_low}

-- ---- lists of queues
-- what holds of each holds of one with the identifier
pub at_qid : (P : Seen → Type 0) (q : ℕ) (xs : List Seen) → All P xs → list_any (λ s. s.qid == q) xs ≡ true → (s : Seen) × P s × (s.qid ≡ q)
at_qid P q [] a h = absurd (true≢false (sym h))
at_qid P q (x ∷ xs) a h =
    elim (or_cases (x.qid == q) (list_any (λ s. s.qid == q) xs) h) [
      | inl e ↦ (x, All-head P x xs a, eqb-true x.qid q e)
      | inr r ↦ at_qid P q xs (All-tail P x xs a) r
    ]

-- what holds of each that is kept holds of each that passes
unfilter : (p : Seen → Bool) (P : Seen → Type 0) (xs : List Seen) → All P (filter p xs) → All (λ s. p s ≡ true → P s) xs
unfilter p P [] a = All-nil (λ s. p s ≡ true → P s)
unfilter p P (x ∷ xs) a =
    elim (cases_Bool (p x)) [
      | inl t ↦ (let b : All P (x ∷ filter p xs) = subst (All P) (cond-true (p x) (x ∷ filter p xs) (filter p xs) t) a in
          All-cons (λ s. p s ≡ true → P s) x xs (λ e. All-head P x (filter p xs) b) (unfilter p P xs (All-tail P x (filter p xs) b)))
      | inr f ↦ (let b : All P (filter p xs) = subst (All P) (cond-false (p x) (x ∷ filter p xs) (filter p xs) f) a in
          All-cons (λ s. p s ≡ true → P s) x xs (λ e. absurd (both_ways (p x) f e)) (unfilter p P xs b))
    ]

or_seen : (a b : Option Seen) (x : Seen) → option_or a b ≡ Some x → (a ≡ Some x) ⊎ ((a ≡ None) × (b ≡ Some x))
or_seen None b x h = inr (refl, h)
or_seen (Some y) b x h = inl h

-- ---- arcs
pub in_arc : Option ℕ → ℕ → ℕ → Bool
in_arc None q i = nat_le i q
in_arc (Some l) q i = cond (nat_lt l q) (nat_lt l i && nat_le i q) (nat_lt l i || nat_le i q)

arc_low : (l q i : ℕ) → l < q → in_arc (Some l) q i ≡ (nat_lt l i && nat_le i q)
unfolding in_arc
arc_low l q i h = cond-true (nat_lt l q) (nat_lt l i && nat_le i q) (nat_lt l i || nat_le i q) (lt-ltb l q h)

arc_high : (l q i : ℕ) → q ≤ l → in_arc (Some l) q i ≡ (nat_lt l i || nat_le i q)
unfolding in_arc
arc_high l q i h = cond-false (nat_lt l q) (nat_lt l i && nat_le i q) (nat_lt l i || nat_le i q) (le-ltb l q h)

-- a pick makes the arc up to an identifier smaller: it has no other ones, and not the one that is picked
pub record Shrinks (last : Option ℕ) (p q : ℕ) : Type 0 where
  pub fewer : (i : ℕ) → in_arc (Some p) q i ≡ true → in_arc last q i ≡ true
  pub was : in_arc last q p ≡ true
  pub is_out : in_arc (Some p) q p ≡ false

-- the next one lies below the identifier
shrinks_below : (last : Option ℕ) (p q : ℕ) → p < q → ((i : ℕ) → i ≤ q → p ≤ i → in_arc last q i ≡ true) → Shrinks last p q
shrinks_below last p q low f = record {
  fewer = λ i h.
      let h' : (nat_lt p i && nat_le i q) ≡ true = sym (arc_low p q i low) ∙ h in
      let up : i ≤ q = grind (arith, nat_tests) in
      let over : p < i = grind (arith, nat_tests) in
      f i up (omega arith);
  was = f p (omega arith) (omega arith);
  is_out = arc_low p q p low ∙ (grind (arith, nat_tests));
}

-- or above the last one, and not below the identifier
shrinks_above : (l p q : ℕ) → q ≤ l → l < p → Shrinks (Some l) p q
shrinks_above l p q low over = record {
  fewer = λ i h.
      let h' : (nat_lt p i || nat_le i q) ≡ true = sym (arc_high p q i (omega arith)) ∙ h in
      arc_high l q i low ∙ (grind (arith, nat_tests));
  was = arc_high l q p low ∙ (grind (arith, nat_tests));
  is_out = arc_high p q p (omega arith) ∙ (grind (arith, nat_tests));
}

pub shrinks : (last : Option ℕ) (xs : List Seen) (p : Seen) (q : ℕ) → next last xs ≡ Some p → list_any (λ s. s.qid == q) xs ≡ true → p.qid ≢ q → Shrinks last p.qid q
unfolding in_arc
shrinks None xs p q h w n =
    let s = at_qid (λ s. p.qid ≤ s.qid) q xs (least_low xs p h) w in
    let low : p.qid ≤ s.0.qid = s.1 in
    let at : s.0.qid ≡ q = s.2 in
    let apart : p.qid < q = elim (cases_lt p.qid q) [ inl l ↦ l | inr g ↦ absurd (n (omega arith)) ] in
    shrinks_below None p.qid q apart (λ i up over. grind (arith, nat_tests))
shrinks (Some l) xs p q h w n =
    elim (or_seen (least (above l xs)) (least xs) p h) [
      | inl a ↦ (
          let over : l < p.qid = ltb-true l p.qid (subst (λ o. IfSome o (λ s. nat_lt l s.qid ≡ true)) a (IfSome-least (λ s. nat_lt l s.qid ≡ true) (above l xs) (filter_passes (λ s. nat_lt l s.qid) xs))) in
          elim (cases_lt l q) [
            | inl c ↦ (
                let s = at_qid (λ s. nat_lt l s.qid ≡ true → p.qid ≤ s.qid) q xs (unfilter (λ s. nat_lt l s.qid) (λ s. p.qid ≤ s.qid) xs (least_low (above l xs) p a)) w in
                let at : s.0.qid ≡ q = s.2 in
                let low : p.qid ≤ s.0.qid = s.1 (lt-ltb l s.0.qid (omega arith)) in
                let apart : p.qid < q = elim (cases_lt p.qid q) [ inl b ↦ b | inr g ↦ absurd (n (omega arith)) ] in
                shrinks_below (Some l) p.qid q apart (λ i up from. arc_low l q i c ∙ (grind (arith, nat_tests))))
            | inr g ↦ shrinks_above l p.qid q g over
          ])
      | inr r ↦ (
          let none : above l xs ≡ [] = next_none None (above l xs) r.0 in
          let s = at_qid (λ s. nat_lt l s.qid ≡ false) q xs (filter_nil (λ s. nat_lt l s.qid) xs none) w in
          let at : s.0.qid ≡ q = s.2 in
          let under : s.0.qid ≤ l = ltb-false l s.0.qid s.1 in
          let t = at_qid (λ s. p.qid ≤ s.qid) q xs (least_low xs p r.1) w in
          let low : p.qid ≤ t.0.qid = t.1 in
          let same : t.0.qid ≡ q = t.2 in
          let apart : p.qid < q = elim (cases_lt p.qid q) [ inl b ↦ b | inr g ↦ absurd (n (omega arith)) ] in
          shrinks_below (Some l) p.qid q apart (λ i up from. arc_high l q i (omega arith) ∙ (grind (arith, nat_tests))))
    ]

-- ---- how many of a list lie in an arc
one : Bool → ℕ
one b = cond b 1 0

more : (f : ℕ → Bool) (x : ℕ) (xs : List ℕ) → count_by f (x ∷ xs) ≡ one (f x) + count_by f xs
unfolding one
more f x xs = sum_by-cons (λ (i : ℕ). cond (f i) 1 0) x xs

one_at_most : (a b : Bool) → (a ≡ true → b ≡ true) → one a ≤ one b
unfolding one
one_at_most false b h = omega arith
one_at_most true b h = rw (h refl) (omega arith)

at_most : (f g : ℕ → Bool) (xs : List ℕ) → ((i : ℕ) → f i ≡ true → g i ≡ true) → count_by f xs ≤ count_by g xs
at_most f g [] h = omega arith
at_most f g (x ∷ xs) h = let here = one_at_most (f x) (g x) (h x) in let rest = at_most f g xs h in omega (arith, here, rest, more f x xs, more g x xs)

-- one less, where one of the list passes the second test alone
one_less : (f g : ℕ → Bool) (p : ℕ) (xs : List ℕ) → ((i : ℕ) → f i ≡ true → g i ≡ true) → f p ≡ false → g p ≡ true → list_any (λ i. p == i) xs ≡ true → count_by f xs < count_by g xs
unfolding one
one_less f g p [] h out_f in_g there = absurd (true≢false (sym there))
one_less f g p (x ∷ xs) h out_f in_g there =
    elim (or_cases (p == x) (list_any (λ i. p == i) xs) there) [
      | inl e ↦ (
          let same : p ≡ x = eqb-true p x e in
          let out : one (f x) ≡ 0 = ap one (sym (ap f same) ∙ out_f) in
          let in_it : one (g x) ≡ 1 = ap one (sym (ap g same) ∙ in_g) in
          let rest = at_most f g xs h in
          omega (arith, out, in_it, rest, more f x xs, more g x xs))
      | inr r ↦ (
          let here = one_at_most (f x) (g x) (h x) in
          let rest = one_less f g p xs h out_f in_g r in
          omega (arith, here, rest, more f x xs, more g x xs))
    ]

some_at : (g : ℕ → Bool) (p : ℕ) (xs : List ℕ) → g p ≡ true → list_any (λ i. p == i) xs ≡ true → 0 < count_by g xs
some_at g p xs in_g there = let l = one_less (λ i. false) g p xs (λ i h. absurd (true≢false (sym h))) refl in_g there in omega (arith, l)

pub arc : Option ℕ → ℕ → List ℕ → ℕ
arc last q ids = count_by (in_arc last q) ids

-- the arc ends with the identifier
itself : (last : Option ℕ) (q : ℕ) → in_arc last q q ≡ true
unfolding in_arc
itself None q = grind (arith, nat_tests)
itself (Some l) q = elim (cases_lt l q) [ inl c ↦ arc_low l q q c ∙ (grind (arith, nat_tests)) | inr g ↦ arc_high l q q g ∙ (grind (arith, nat_tests)) ]

pub arc_some : (last : Option ℕ) (q : ℕ) (ids : List ℕ) → list_any (λ i. q == i) ids ≡ true → 0 < arc last q ids
unfolding arc
arc_some last q ids there = some_at (in_arc last q) q ids (itself last q) there

pub arc_most : (last : Option ℕ) (q : ℕ) (ids : List ℕ) → arc last q ids ≤ length ids
unfolding arc
arc_most last q ids = count_by-le-length (in_arc last q) ids

-- each pick of another one makes it smaller
pub arc_falls : (last : Option ℕ) (xs : List Seen) (p : Seen) (q : ℕ) (ids : List ℕ) → next last xs ≡ Some p → list_any (λ s. s.qid == q) xs ≡ true → p.qid ≢ q
    → list_any (λ i. p.qid == i) ids ≡ true → arc (Some p.qid) q ids < arc last q ids
unfolding arc
arc_falls last xs p q ids h w n there =
    let s = shrinks last xs p q h w n in one_less (in_arc (Some p.qid) q) (in_arc last q) p.qid ids s.fewer s.is_out s.was there
