-- What the steps of a chain leave: a slot behind the others, and the others where one was taken out.
use Rattle.std.proofs.Common.{◌≡◌, ◌≢◌, ℕ, zero, suc, ◌+◌, ◌-◌, ◌<◌, ◌==◌, if◌then◌else◌, Bool, true, false, List, [], ◌∷◌, ◌++◌, length, drop, Some, None, refl, sym, ap, ◌∙◌, subst, arith, inl, inr}
use Rattle.std.specs.List.{All}
use Rattle.std.specs.Prelude.{◌^◌, option_map, slice_get}
use Rattle.std.proofs.lemmas.Bool.{cases_eq, eq-eqb, ne_eqb}
use Rattle.std.proofs.lemmas.Option.{same_Some}
use Rattle.std.proofs.lemmas.List.{length-append, drop_more, nil_from_length}
use Rattle.std.proofs.lemmas.List.Elements.{All-nil, All-cons, All-head, All-tail, All-push, All-weaker}
use Rattle.nvme_slots.specs.declared.slot.Slot.{Slot}
use Rattle.nvme_slots.specs.declared.chain.Chain.{Chain}
use Rattle.nvme_slots.specs.Pool.{slot_at, next_at, put_next, pushed, longer, first_of, shorter, IsNew, AreApart, AreLinked, IsChain, SameItems, SameLinks, named_in, without_named, found_in}
use Rattle.nvme_slots.proofs.Pools.{All-without, AreApart-without, length-put_next, next_at-put_next_same, next_at-put_next_other, AreApart-push, linked-head, linked-tail, linked-last, linked-same}

-- ---- a slot behind the others
-- the last slot linked to one more
linked-push : (slots : List Slot) (first last x z : ℕ) (zs : List ℕ) → All (λ (y : ℕ). y < length slots) (z ∷ zs) → AreApart (z ∷ zs)
    → AreLinked slots first last (z ∷ zs) → AreLinked (put_next slots last x) first x (z ∷ zs ++ x ∷ [])
linked-push slots first last x z [] inside apart h =
    let within : last < length slots = subst (λ (y : ℕ). y < length slots) (sym h.1) (All-head (λ (y : ℕ). y < length slots) z [] inside) in
    (h.0, (subst (λ (y : ℕ). next_at (put_next slots last x) y ≡ x) h.1 (next_at-put_next_same slots last x within), refl))
linked-push slots first last x z (w ∷ ws) inside apart h =
    let other : last ≢ z = linked-last (λ (y : ℕ). y ≢ z) slots (next_at slots z) last w ws apart.0 h.1 in (
      h.0,
      subst (λ (n : ℕ). AreLinked (put_next slots last x) n x (w ∷ ws ++ x ∷ [])) (sym (next_at-put_next_other slots last x z (λ e. other (sym e))))
          (linked-push slots (next_at slots z) last x w ws (All-tail (λ (y : ℕ). y < length slots) z (w ∷ ws) inside) apart.1 h.1),
    )

-- it is the only one
pub push-first : (slots new : List Slot) (c : Chain) (xs : List ℕ) (x first n : ℕ) → IsChain slots c xs → c.len ≡ 0 → x < length slots → new ≡ slots
    → first ≡ x → n ≡ length xs + 1 → IsChain new (record { first = first; last = x; len = n }) (xs ++ x ∷ [])
push-first slots new c xs x first n h none within same is_first counts =
    let empty : xs ≡ [] = nil_from_length xs (sym h.len_is ∙ none) in
    subst (λ (ys : List ℕ). IsChain new (record { first = first; last = x; len = n }) (ys ++ x ∷ [])) (sym empty) (record {
      len_is = counts ∙ ap (λ (ys : List ℕ). length ys + 1) empty;
      inside = subst (λ (pool : List Slot). All (λ (y : ℕ). y < length pool) (x ∷ [])) (sym same)
          (All-cons (λ (y : ℕ). y < length slots) x [] within (All-nil (λ (y : ℕ). y < length slots)));
      apart = (All-nil (λ (y : ℕ). y ≢ x), tt);
      linked = (is_first, refl);
    })

-- it is behind some
pub push-behind : (slots new : List Slot) (c : Chain) (xs : List ℕ) (x first n : ℕ) → IsChain slots c xs → (c.len ≡ 0 → ⊥) → x < length slots → IsNew x xs
    → new ≡ put_next slots c.last x → first ≡ c.first → n ≡ length xs + 1 → IsChain new (record { first = first; last = x; len = n }) (xs ++ x ∷ [])
push-behind slots new c [] x first n h some within apart is same counts = absurd (some h.len_is)
push-behind slots new c (z ∷ zs) x first n h some within apart is same counts =
    subst (λ (pool : List Slot). IsChain pool (record { first = first; last = x; len = n }) (z ∷ zs ++ x ∷ [])) (sym is)
    (subst (λ (f : ℕ). IsChain (put_next slots c.last x) (record { first = f; last = x; len = n }) (z ∷ zs ++ x ∷ [])) (sym same) (record {
      len_is = counts ∙ sym (length-append (z ∷ zs) (x ∷ []));
      inside = subst (λ (m : ℕ). All (λ (y : ℕ). y < m) (z ∷ zs ++ x ∷ [])) (sym (length-put_next slots c.last x))
          (All-push (λ (y : ℕ). y < length slots) (z ∷ zs) x h.inside within);
      apart = AreApart-push (z ∷ zs) x h.apart apart;
      linked = linked-push slots c.first c.last x z zs h.inside h.apart h.linked;
    }))

-- a link of the last slot leaves the links of those that are none of the chain
pub last-links : (slots : List Slot) (c : Chain) (xs : List ℕ) (n : ℕ) → IsChain slots c xs → (c.len ≡ 0 → ⊥) → SameLinks xs slots (put_next slots c.last n)
last-links slots c [] n h some y new = absurd (some h.len_is)
last-links slots c (z ∷ zs) n h some y new =
    let other : c.last ≢ y = linked-last (λ (x : ℕ). x ≢ y) slots c.first c.last z zs new h.linked in
    next_at-put_next_other slots c.last n y (λ e. other (sym e))

-- what a push of a slot to a chain of a pool made
pub record IsPushed (slots : List Slot) (old : Chain) (tag : ℕ) (new : List Slot) (longer : Chain) : Type 0 where
  pub items : SameItems slots new
  pub links : (xs : List ℕ) → IsChain slots old xs → SameLinks xs slots new
  pub chain : (xs : List ℕ) → IsChain slots old xs → tag < length slots → IsNew tag xs → length xs + 1 < 2 ^ 16 → IsChain new longer (xs ++ tag ∷ [])

-- it did so where the pool is the one after it
pub is_pushed : (slots new : List Slot) (c : Chain) (x : ℕ) → new ≡ pushed slots c x → SameItems slots new → IsPushed slots c x new (longer c x)
is_pushed slots new c x is items = elim (cases_eq c.len 0) [
  | inl none ↦ (let same : new ≡ slots = is ∙ rw none refl in record {
    items = items;
    links = λ xs h y other. ap (λ (p : List Slot). next_at p y) same;
    chain = λ xs h within apart few. push-first slots new c xs x _ _ h none within same (rw none refl) (omega (arith, h.len_is, few));
  })
  | inr some ↦ (let put : new ≡ put_next slots c.last x = is ∙ rw (ne_eqb c.len 0 some) refl in record {
    items = items;
    links = λ xs h y other. ap (λ (p : List Slot). next_at p y) put ∙ last-links slots c xs x h some y other;
    chain = λ xs h within apart few. push-behind slots new c xs x _ _ h some within apart put (rw (ne_eqb c.len 0 some) refl) (omega (arith, h.len_is, few));
  })
]

-- ---- without the first one
pub pop-rest : (slots : List Slot) (c : Chain) (x : ℕ) (xs : List ℕ) (m n : ℕ) → IsChain slots c (x ∷ xs) → m ≡ next_at slots c.first → n + 1 ≡ c.len
    → IsChain slots (record { first = m; last = c.last; len = n }) xs
pop-rest slots c x xs m n h next fewer = record {
  len_is = (let all = h.len_is in omega arith);
  inside = All-tail (λ (y : ℕ). y < length slots) x xs h.inside;
  apart = h.apart.1;
  linked = subst (λ (f : ℕ). AreLinked slots f c.last xs) (sym (next ∙ ap (λ (y : ℕ). next_at slots y) (linked-head slots c.first c.last x xs h.linked)))
      (linked-tail slots c.first c.last x xs h.linked);
}

-- what a pop takes, and leaves
pub pop-first : (slots : List Slot) (c : Chain) (x : ℕ) (xs : List ℕ) → IsChain slots c (x ∷ xs) → first_of c ≡ Some x
pop-first slots c x xs h = rw (ne_eqb c.len 0 (λ e. absurd (omega (arith, h.len_is, e)))) (ap (λ (n : ℕ). Some n) (linked-head slots c.first c.last x xs h.linked))

pub pop-shorter : (slots : List Slot) (c : Chain) (x : ℕ) (xs : List ℕ) → IsChain slots c (x ∷ xs) → IsChain slots (shorter slots c) xs
pop-shorter slots c x xs h =
    rw (ne_eqb c.len 0 (λ e. absurd (omega (arith, h.len_is, e)))) (pop-rest slots c x xs (next_at slots c.first) (c.len - 1) h refl (omega (arith, h.len_is)))

-- ---- one after the other
-- the slot from which those behind some are linked comes after these
pub comes-at : (slots : List Slot) (x last i : ℕ) (xs : List ℕ) → i < length xs → AreLinked slots x last (drop i xs) → Some x ≡ slice_get xs i
comes-at slots x last i [] within linked = absurd (omega (arith, within))
comes-at slots x last zero (y ∷ ys) within linked = ap (λ (z : ℕ). Some z) (linked-head slots x last y ys linked)
comes-at slots x last (suc i) (y ∷ ys) within linked = comes-at slots x last i ys (omega (arith, within)) linked

-- and the others from the one that it links to
pub follows : (slots : List Slot) (x last i : ℕ) (xs : List ℕ) → i < length xs → AreLinked slots x last (drop i xs) → AreLinked slots (next_at slots x) last (drop (i + 1) xs)
follows slots x last i xs more linked = here _ _ (rw (drop_more xs i 0 more) at linked) where
  here : (y : ℕ) (ys : List ℕ) → AreLinked slots x last (y ∷ ys) → AreLinked slots (next_at slots x) last ys
  here y ys h = subst (λ (z : ℕ). AreLinked slots (next_at slots z) last ys) (sym (linked-head slots x last y ys h)) (linked-tail slots x last y ys h)

-- ---- looking for a name
-- the one that is looked at has the name
pub finds : (slots : List Slot) (cid before x last i : ℕ) (xs : List ℕ) → i < length xs → AreLinked slots x last (drop i xs)
    → (slot_at slots x).entry.cid ≡ cid → Some (before, x) ≡ found_in slots cid before (drop i xs)
finds slots cid before x last i xs more linked is = rw (drop_more xs i 0 more) (here _ _ (rw (drop_more xs i 0 more) at linked)) where
  here : (y : ℕ) (ys : List ℕ) → AreLinked slots x last (y ∷ ys) → Some (before, x) ≡ found_in slots cid before (y ∷ ys)
  here y ys h =
      let same = linked-head slots x last y ys h in
      subst (λ (z : ℕ). Some (before, x) ≡ found_in slots cid before (z ∷ ys)) same (rw (eq-eqb ((slot_at slots x).entry.cid) cid is) refl)

-- it has another
pub looks-on : (slots : List Slot) (cid before x last i : ℕ) (xs : List ℕ) → i < length xs → AreLinked slots x last (drop i xs)
    → ((slot_at slots x).entry.cid ≡ cid → ⊥)
    → (found_in slots cid x (drop (i + 1) xs) ≡ found_in slots cid before (drop i xs)) × AreLinked slots (next_at slots x) last (drop (i + 1) xs)
looks-on slots cid before x last i xs more linked another = rw (drop_more xs i 0 more) (here _ _ (rw (drop_more xs i 0 more) at linked)) where
  here : (y : ℕ) (ys : List ℕ) → AreLinked slots x last (y ∷ ys)
      → (found_in slots cid x ys ≡ found_in slots cid before (y ∷ ys)) × AreLinked slots (next_at slots x) last ys
  here y ys h =
      let same : x ≡ y = linked-head slots x last y ys h in (
        subst (λ (z : ℕ). found_in slots cid x ys ≡ found_in slots cid before (z ∷ ys)) same (rw (ne_eqb ((slot_at slots x).entry.cid) cid another) refl),
        subst (λ (z : ℕ). AreLinked slots (next_at slots z) last ys) (sym same) (linked-tail slots x last y ys h),
      )

-- ---- one that is found
-- it is the one that is named
pub named-found : (slots : List Slot) (cid before : ℕ) (xs : List ℕ) → named_in slots cid xs ≡ option_map (λ (r : ℕ × ℕ). r.1) (found_in slots cid before xs)
named-found slots cid before [] = refl
named-found slots cid before (x ∷ xs) = by ((slot_at slots x).entry.cid == cid) (named-found slots cid x xs) where
  by : (t : Bool) → named_in slots cid xs ≡ option_map (λ (r : ℕ × ℕ). r.1) (found_in slots cid x xs)
      → (if t then Some x else named_in slots cid xs) ≡ option_map (λ (r : ℕ × ℕ). r.1) (if t then Some (before, x) else found_in slots cid x xs)
  by true e = refl
  by false e = e

-- without one that is found nowhere, all are left
pub without-none : (slots : List Slot) (cid before : ℕ) (xs : List ℕ) → None ≡ found_in slots cid before xs → without_named slots cid xs ≡ xs
without-none slots cid before [] h = refl
without-none slots cid before (x ∷ xs) h = by ((slot_at slots x).entry.cid == cid) h (without-none slots cid x xs) where
  by : (t : Bool) → None ≡ (if t then Some (before, x) else found_in slots cid x xs) → (None ≡ found_in slots cid x xs → without_named slots cid xs ≡ xs)
      → (if t then xs else x ∷ without_named slots cid xs) ≡ x ∷ xs
  by true none later = cc none
  by false none later = ap (λ (ys : List ℕ). x ∷ ys) (later none)

-- what holds of all and of the one before them holds of it and of the one before it
found-holds : (P : ℕ → Type 0) (slots : List Slot) (cid before : ℕ) (xs : List ℕ) (b x : ℕ) → P before → All P xs → Some (b, x) ≡ found_in slots cid before xs → P b × P x
found-holds P slots cid before [] b x p each h = cc h
found-holds P slots cid before (y ∷ ys) b x p each h =
    by ((slot_at slots y).entry.cid == cid) h (found-holds P slots cid y ys b x (All-head P y ys each) (All-tail P y ys each)) where
      by : (t : Bool) → Some (b, x) ≡ (if t then Some (before, y) else found_in slots cid y ys) → (Some (b, x) ≡ found_in slots cid y ys → P b × P x) → P b × P x
      by true here later =
          let e : (b, x) ≡ (before, y) = same_Some (b, x) (before, y) here in
          (subst P (sym (ap (λ (r : ℕ × ℕ). r.0) e)) p, subst P (sym (ap (λ (r : ℕ × ℕ). r.1) e)) (All-head P y ys each))
      by false there later = later there

-- what holds of all holds of it
found-is : (P : ℕ → Type 0) (slots : List Slot) (cid before : ℕ) (xs : List ℕ) (b x : ℕ) → All P xs → Some (b, x) ≡ found_in slots cid before xs → P x
found-is P slots cid before [] b x each h = cc h
found-is P slots cid before (y ∷ ys) b x each h = by ((slot_at slots y).entry.cid == cid) h (found-is P slots cid y ys b x (All-tail P y ys each)) where
  by : (t : Bool) → Some (b, x) ≡ (if t then Some (before, y) else found_in slots cid y ys) → (Some (b, x) ≡ found_in slots cid y ys → P x) → P x
  by true here later =
      let e : (b, x) ≡ (before, y) = same_Some (b, x) (before, y) here in
      subst P (sym (ap (λ (r : ℕ × ℕ). r.1) e)) (All-head P y ys each)
  by false there later = later there

-- the others are one fewer
length-without : (slots : List Slot) (cid before : ℕ) (xs : List ℕ) (r : ℕ × ℕ) → Some r ≡ found_in slots cid before xs
    → length xs ≡ length (without_named slots cid xs) + 1
length-without slots cid before [] r h = cc h
length-without slots cid before (x ∷ xs) r h = by ((slot_at slots x).entry.cid == cid) h (length-without slots cid x xs r) where
  by : (t : Bool) → Some r ≡ (if t then Some (before, x) else found_in slots cid x xs)
      → (Some r ≡ found_in slots cid x xs → length xs ≡ length (without_named slots cid xs) + 1)
      → length (x ∷ xs) ≡ length (if t then xs else x ∷ without_named slots cid xs) + 1
  by true here later = omega arith
  by false there later = (let rest = later there in omega (arith, rest))

-- a slot linked past the one after it
linked-past : (slots : List Slot) (first last y z n : ℕ) (zs : List ℕ) → y < length slots → AreApart (y ∷ z ∷ zs) → AreLinked slots first last (y ∷ z ∷ zs)
    → (z ≡ last → n ≡ y) → ((z ≡ last → ⊥) → n ≡ last) → AreLinked (put_next slots y (next_at slots z)) first n (y ∷ zs)
linked-past slots first last y z n [] within apart h at_last before = (h.0, at_last (sym h.1.1))
linked-past slots first last y z n (w ∷ ws) within apart h at_last before =
    let new : List Slot = put_next slots y (next_at slots z) in
    let other : last ≢ z = linked-last (λ (v : ℕ). v ≢ z) slots (next_at slots z) last w ws apart.1.0 h.1.1 in
    let rest : AreLinked new (next_at slots z) last (w ∷ ws) =
    linked-same slots new (next_at slots z) last (w ∷ ws)
    (All-weaker (λ (v : ℕ). v ≢ y) (λ (v : ℕ). next_at new v ≡ next_at slots v) (next_at-put_next_other slots y (next_at slots z)) (w ∷ ws)
    (All-tail (λ (v : ℕ). v ≢ y) z (w ∷ ws) apart.0))
    h.1.1 in (
      h.0,
      subst (λ (f : ℕ). AreLinked new f n (w ∷ ws)) (sym (next_at-put_next_same slots y (next_at slots z) within))
          (subst (λ (l : ℕ). AreLinked new (next_at slots z) l (w ∷ ws)) (sym (before (λ e. other (sym e)))) rest),
    )

-- the slot before it linked past it
linked-without : (slots : List Slot) (cid first last b x y n : ℕ) (ys : List ℕ) → All (λ (v : ℕ). v < length slots) (y ∷ ys) → AreApart (y ∷ ys)
    → AreLinked slots first last (y ∷ ys) → Some (b, x) ≡ found_in slots cid y ys → (x ≡ last → n ≡ b) → ((x ≡ last → ⊥) → n ≡ last)
    → AreLinked (put_next slots b (next_at slots x)) first n (y ∷ without_named slots cid ys)
linked-without slots cid first last b x y n [] inside apart h found at_last before = cc found
linked-without slots cid first last b x y n (z ∷ zs) inside apart h found at_last before =
    by ((slot_at slots z).entry.cid == cid) found (λ there. linked-without slots cid (next_at slots y) last b x z n zs (All-tail (λ (v : ℕ). v < length slots) y (z ∷ zs) inside) apart.1 h.1 there at_last before) where
      by : (t : Bool) → Some (b, x) ≡ (if t then Some (y, z) else found_in slots cid z zs)
          → (Some (b, x) ≡ found_in slots cid z zs → AreLinked (put_next slots b (next_at slots x)) (next_at slots y) n (z ∷ without_named slots cid zs))
          → AreLinked (put_next slots b (next_at slots x)) first n (y ∷ (if t then zs else z ∷ without_named slots cid zs))
      by true here later =
          let e : (b, x) ≡ (y, z) = same_Some (b, x) (y, z) here in
          let is_y : b ≡ y = ap (λ (r : ℕ × ℕ). r.0) e in
          let is_z : x ≡ z = ap (λ (r : ℕ × ℕ). r.1) e in
          subst (λ (v : ℕ). AreLinked (put_next slots v (next_at slots x)) first n (y ∷ zs)) (sym is_y)
          (subst (λ (v : ℕ). AreLinked (put_next slots y (next_at slots v)) first n (y ∷ zs)) (sym is_z)
          (linked-past slots first last y z n zs (All-head (λ (v : ℕ). v < length slots) y (z ∷ zs) inside) apart h
          (λ last_z. at_last (is_z ∙ last_z) ∙ is_y) (λ not. before (λ last_x. not (sym is_z ∙ last_x)))))
      by false there later =
          let other : b ≢ y = (found-holds (λ (v : ℕ). v ≢ y) slots cid z zs b x (All-head (λ (v : ℕ). v ≢ y) z zs apart.0) (All-tail (λ (v : ℕ). v ≢ y) z zs apart.0) there).0 in (
            h.0,
            subst (λ (f : ℕ). AreLinked (put_next slots b (next_at slots x)) f n (z ∷ without_named slots cid zs))
                (sym (next_at-put_next_other slots b (next_at slots x) y (λ e. other (sym e)))) (later there),
          )

-- ---- without it
-- it was the first
pub take-first : (slots new : List Slot) (c : Chain) (cid : ℕ) (xs : List ℕ) (b x first last n : ℕ) → IsChain slots c xs → Some (b, x) ≡ found_in slots cid c.first xs
    → x ≡ c.first → new ≡ slots → first ≡ next_at slots x → last ≡ c.last → n ≡ c.len - 1
    → IsChain new (record { first = first; last = last; len = n }) (without_named slots cid xs)
take-first slots new c cid [] b x first last n h found is_first same next same_last fewer = cc found
take-first slots new c cid (y ∷ ys) b x first last n h found is_first same next same_last fewer = by ((slot_at slots y).entry.cid == cid) found where
  by : (t : Bool) → Some (b, x) ≡ (if t then Some (c.first, y) else found_in slots cid y ys)
      → IsChain new (record { first = first; last = last; len = n }) (if t then ys else y ∷ without_named slots cid ys)
  by true here =
      subst (λ (pool : List Slot). IsChain pool (record { first = first; last = last; len = n }) ys) (sym same)
      (subst (λ (l : ℕ). IsChain slots (record { first = first; last = l; len = n }) ys) (sym same_last)
      (pop-rest slots c y ys first n h (next ∙ ap (λ (v : ℕ). next_at slots v) is_first) (let all = h.len_is in omega arith)))
  by false there =
      absurd (found-is (λ (v : ℕ). v ≢ y) slots cid y ys b x h.apart.0 there (is_first ∙ linked-head slots c.first c.last y ys h.linked))

-- it was behind another
pub take-behind : (slots new : List Slot) (c : Chain) (cid : ℕ) (xs : List ℕ) (b x first last n : ℕ) → IsChain slots c xs → Some (b, x) ≡ found_in slots cid c.first xs
    → (x ≡ c.first → ⊥) → new ≡ put_next slots b (next_at slots x) → first ≡ c.first → (x ≡ c.last → last ≡ b) → ((x ≡ c.last → ⊥) → last ≡ c.last) → n ≡ c.len - 1
    → IsChain new (record { first = first; last = last; len = n }) (without_named slots cid xs)
take-behind slots new c cid [] b x first last n h found behind is same at_last before fewer = cc found
take-behind slots new c cid (y ∷ ys) b x first last n h found behind is same at_last before fewer = by ((slot_at slots y).entry.cid == cid) found where
  head : c.first ≡ y
  head = linked-head slots c.first c.last y ys h.linked

  by : (t : Bool) → Some (b, x) ≡ (if t then Some (c.first, y) else found_in slots cid y ys)
      → IsChain new (record { first = first; last = last; len = n }) (if t then ys else y ∷ without_named slots cid ys)
  by true here = absurd (behind (ap (λ (r : ℕ × ℕ). r.1) (same_Some (b, x) (c.first, y) here) ∙ sym head))
  by false there =
      subst (λ (pool : List Slot). IsChain pool (record { first = first; last = last; len = n }) (y ∷ without_named slots cid ys)) (sym is)
      (subst (λ (f : ℕ). IsChain (put_next slots b (next_at slots x)) (record { first = f; last = last; len = n }) (y ∷ without_named slots cid ys)) (sym same) (record {
        len_is = (let all = h.len_is in let rest = length-without slots cid y ys (b, x) there in omega arith);
        inside = subst (λ (m : ℕ). All (λ (v : ℕ). v < m) (y ∷ without_named slots cid ys)) (sym (length-put_next slots b (next_at slots x)))
            (All-cons (λ (v : ℕ). v < length slots) y (without_named slots cid ys) (All-head (λ (v : ℕ). v < length slots) y ys h.inside)
            (All-without (λ (v : ℕ). v < length slots) slots cid ys (All-tail (λ (v : ℕ). v < length slots) y ys h.inside)));
        apart = (All-without (λ (v : ℕ). v ≢ y) slots cid ys h.apart.0, AreApart-without slots cid ys h.apart.1);
        linked = linked-without slots cid c.first c.last b x y last ys h.inside h.apart h.linked there at_last before;
      }))

-- a link of the one before it leaves the links of those that are none of the chain
pub found-links : (slots : List Slot) (c : Chain) (cid : ℕ) (xs : List ℕ) (b x n : ℕ) → IsChain slots c xs → Some (b, x) ≡ found_in slots cid c.first xs
    → SameLinks xs slots (put_next slots b n)
found-links slots c cid [] b x n h found v new = cc found
found-links slots c cid (y ∷ ys) b x n h found v new =
    let first : c.first ≢ v = subst (λ (f : ℕ). f ≢ v) (sym (linked-head slots c.first c.last y ys h.linked)) (All-head (λ (w : ℕ). w ≢ v) y ys new) in
    let other : b ≢ v = (found-holds (λ (w : ℕ). w ≢ v) slots cid c.first (y ∷ ys) b x first new found).0 in
    next_at-put_next_other slots b n v (λ e. other (sym e))
